-- What an edit leaves as it was: the characters before the edited ones, but for the cluster end of the last one, and those
-- from a later split point on.
use Rattle.std.proofs.Common.{◌≡◌, ◌∙◌, ℕ, zero, suc, ◌+◌, ◌-◌, ◌<◌, ◌≤◌, Bool, false, true, List, [], ◌∷◌, ◌++◌, length, map, take, drop, get_or, replicate, None, if◌then◌else◌, inl, inr, refl, sym, ap, ap₂, arith}
use Rattle.std.proofs.Math.Seq.{drop-append_seam}
use Rattle.std.proofs.lemmas.Bool.{cases_lt}
use Rattle.std.proofs.lemmas.List.{append_assoc, drop_all, drop-drop, get_or-drop, get_or-take, length-append, length-drop, length-replicate, length-take, length-take-le, take-append-le, take-take}
use Rattle.std.specs.Prelude.{slice_range}
use Rattle.std.specs.List.{splice}
use Rattle.ucd.specs.declared.tables.Tables.{Tables}
use Rattle.unicode_segmentation.specs.Grapheme.{is_grapheme_break}
use Rattle.breaks.specs.Marks.{marks_of}
use Rattle.breaks.specs.declared.mark.Mark.{Mark}
use Rattle.breaks.specs.declared.mark.Mark.TheVariants.{Never}
use Rattle.lines.specs.Bare.{bare, with_ends, AreAlike}
use Rattle.lines.specs.BareInfos.{bare_infos}
use Rattle.lines.specs.CharInfos.{info, infos, infos_of}
use Rattle.lines.specs.Clusters.{can_split, cluster_ends, ends_after, is_split_point}
use Rattle.lines.specs.Filling.{place_at}
use Rattle.lines.specs.Reordering.{ends_by}
use Rattle.lines.specs.SameKind.{levels_with, marks_with, replacement, IsEdited}
use Rattle.lines.specs.Splicing.{AgreeAfter, AgreeBefore, Analysed}
use Rattle.lines.specs.Tabs.{tab_width_in}
use Rattle.lines.specs.Windows.{StaysOutside}
use Rattle.lines.specs.declared.char_info.CharInfo.{CharInfo}
use Rattle.lines.specs.declared.options.Options.{Options}
use Rattle.lines.specs.declared.same_kind.Replacement.{Replacement}
use Rattle.lines.specs.declared.same_kind.RunEdit.{RunEdit}
use Rattle.lines.proofs.BareLemmas.{length-bare_infos, with_alike, with_infos}
use Rattle.lines.proofs.ClusterLemmas.{length-cluster_ends}
use Rattle.lines.proofs.SplitLemmas.{next_only, split_ends}

-- ---- parts of `infos`

module _ (t : Tables) (w : ℕ) where
  take_infos : (n : ℕ) (text : List ℕ) (marks : List Mark) (ends : List Bool) → take n (infos t w text marks ends) ≡ infos t w (take n text) (take n marks) (take n ends)
  take_infos zero text marks ends = refl
  take_infos (suc n) [] marks ends = refl
  take_infos (suc n) (c ∷ text) [] ends = refl
  take_infos (suc n) (c ∷ text) (m ∷ marks) [] = refl
  take_infos (suc n) (c ∷ text) (m ∷ marks) (e ∷ ends) = ap (λ (ps : List CharInfo). info t w c m e ∷ ps) (take_infos n text marks ends)

  no_marks : (text : List ℕ) (ends : List Bool) → [] ≡ infos t w text [] ends
  no_marks [] ends = refl
  no_marks (c ∷ text) ends = refl

  no_ends : (text : List ℕ) (marks : List Mark) → [] ≡ infos t w text marks []
  no_ends [] marks = refl
  no_ends (c ∷ text) [] = refl
  no_ends (c ∷ text) (m ∷ marks) = refl

  drop_infos : (n : ℕ) (text : List ℕ) (marks : List Mark) (ends : List Bool) → drop n (infos t w text marks ends) ≡ infos t w (drop n text) (drop n marks) (drop n ends)
  drop_infos zero text marks ends = refl
  drop_infos (suc n) [] marks ends = refl
  drop_infos (suc n) (c ∷ text) [] ends = no_marks (drop n text) (drop (suc n) ends)
  drop_infos (suc n) (c ∷ text) (m ∷ marks) [] = no_ends (drop n text) (drop n marks)
  drop_infos (suc n) (c ∷ text) (m ∷ marks) (e ∷ ends) = drop_infos n text marks ends

  mark_in : (text : List ℕ) (marks : List Mark) (ends : List Bool) (k : ℕ) → length marks ≡ length text → length ends ≡ length text
      → (place_at (infos t w text marks ends) k).mark ≡ get_or marks k Never
  mark_in [] [] ends k same other = refl
  mark_in [] (m ∷ marks) ends k same other = absurd (omega (arith, same))
  mark_in (c ∷ text) [] ends k same other = absurd (omega (arith, same))
  mark_in (c ∷ text) (m ∷ marks) [] k same other = absurd (omega (arith, other))
  mark_in (c ∷ text) (m ∷ marks) (e ∷ ends) zero same other = refl
  mark_in (c ∷ text) (m ∷ marks) (e ∷ ends) (suc k) same other = mark_in text marks ends k (omega (arith, same)) (omega (arith, other))

-- the mark in the info of a character is the break mark after it
pub mark_at : (t : Tables) (options : Options) (text : List ℕ) (k : ℕ) → length (marks_of t options.whole_numbers text) ≡ length text
    → (place_at (infos_of t options None text) k).mark ≡ get_or (marks_of t options.whole_numbers text) k Never
unfolding infos_of
mark_at t options text k same = mark_in t (tab_width_in t options) text (marks_of t options.whole_numbers text) (cluster_ends text) k same (length-cluster_ends text)

-- the infos of a part of a text, with and without cluster ends
pub part_alike : (t : Tables) (options : Options) (text : List ℕ) (s e : ℕ) → e ≤ length text → length (marks_of t options.whole_numbers text) ≡ length text
    → AreAlike (bare_infos t (tab_width_in t options) (slice_range text s e) (slice_range (marks_of t options.whole_numbers text) s e)) (slice_range (infos_of t options None text) s e)
unfolding infos_of
part_alike t options text s e within same =
    let w : ℕ = tab_width_in t options in
    let marks : List Mark = marks_of t options.whole_numbers text in
    let part : List ℕ = slice_range text s e in
    let part_marks : List Mark = slice_range marks s e in
    let ends : List Bool = slice_range (cluster_ends text) s e in
    let marks_len : length part_marks ≡ length part =
    omega (
      arith,
      same,
      length-take (e - s) (drop s marks),
      length-take (e - s) (drop s text),
      length-drop s marks,
      length-drop s text,
    ) in
    let len : length (bare_infos t w part part_marks) ≡ length part = length-bare_infos t w part part_marks marks_len in
    let ends_len : length ends ≡ length (bare_infos t w part part_marks) =
    omega (
      arith,
      len,
      length-cluster_ends text,
      length-take (e - s) (drop s (cluster_ends text)),
      length-take (e - s) (drop s text),
      length-drop s (cluster_ends text),
      length-drop s text,
    ) in
    let whole : slice_range (infos t w text marks (cluster_ends text)) s e ≡ with_ends (bare_infos t w part part_marks) ends =
    ap (take (e - s)) (drop_infos t w s text marks (cluster_ends text)) ∙ take_infos t w (e - s) (drop s text) (drop s marks) (drop s (cluster_ends text))
    ∙ sym (with_infos t w part part_marks ends) in
    sym (ap (map bare) whole ∙ with_alike (bare_infos t w part part_marks) ends ends_len)

-- ---- cluster ends

-- Whether a cluster ends after a character depends only on the characters up to the next one.
ends_before : (before front : List ℕ) (d : ℕ) (one other : List ℕ)
    → take (length front) (ends_after (is_grapheme_break true) before (front ++ d ∷ one)) ≡ take (length front) (ends_after (is_grapheme_break true) before (front ++ d ∷ other))
ends_before before [] d one other = refl
ends_before before (c ∷ []) d one other = ap (λ e. e ∷ []) (next_only (c ∷ before) d one other)
ends_before before (c ∷ e ∷ front) d one other =
    ap₂ ◌∷◌ (next_only (c ∷ before) e (front ++ d ∷ one) (front ++ d ∷ other)) (ends_before (c ∷ before) (e ∷ front) d one other)

-- a text in two parts, the first of which ends with the character at index n
parts_at : (text : List ℕ) (n : ℕ) → n < length text → text ≡ take n text ++ get_or text n 0 ∷ drop (n + 1) text
parts_at [] n within = absurd (omega (arith, within))
parts_at (c ∷ text) zero within = refl
parts_at (c ∷ text) (suc n) within = ap (λ (xs : List ℕ). c ∷ xs) (parts_at text n (omega (arith, within)) ∙ (let e : suc n + 1 ≡ suc (n + 1) = omega arith in ap (λ i. take n text ++ get_or text n 0 ∷ drop i (c ∷ text)) (sym e)))

same_ends_before : (old new : List ℕ) (n : ℕ) → n < length old → n < length new → take (n + 1) new ≡ take (n + 1) old → take n (cluster_ends old) ≡ take n (cluster_ends new)
unfolding cluster_ends
same_ends_before old new n in_old in_new same =
    let ends : List ℕ → List Bool = ends_after (is_grapheme_break true) [] in
    let less : n ≤ n + 1 = omega arith in
    let front : take n old ≡ take n new = sym (take-take n (n + 1) old less) ∙ ap (take n) (sym same) ∙ take-take n (n + 1) new less in
    let item : get_or old n 0 ≡ get_or new n 0 =
    sym (get_or-take (n + 1) old n 0 (omega arith)) ∙ ap (λ (xs : List ℕ). get_or xs n 0) (sym same) ∙ get_or-take (n + 1) new n 0 (omega arith) in
    let len : length (take n old) ≡ n = length-take-le n old (omega (arith, in_old)) in
    ap (λ (xs : List ℕ). take n (ends xs)) (parts_at old n in_old)
    ∙ ap (λ i. take i (ends (take n old ++ get_or old n 0 ∷ drop (n + 1) old))) (sym len)
    ∙ ends_before [] (take n old) (get_or old n 0) (drop (n + 1) old) (drop (n + 1) new)
    ∙ ap (λ i. take i (ends (take n old ++ get_or old n 0 ∷ drop (n + 1) new))) len
    ∙ ap₂ (λ (xs : List ℕ) x. take n (ends (xs ++ x ∷ drop (n + 1) new))) front item
    ∙ ap (λ (xs : List ℕ). take n (ends xs)) (sym (parts_at new n in_new))

-- from a split point on, the cluster ends are those of the text from there on
ends_from : (text : List ℕ) (n : ℕ) → n ≤ length text → is_split_point text n ≡ true → drop n (cluster_ends text) ≡ cluster_ends (drop n text)
ends_from text n within split =
    let front : List Bool = cluster_ends (take n text) in
    let len : length front ≡ n = length-cluster_ends (take n text) ∙ length-take-le n text within in
    ap (drop n) (split_ends text n within (inr (inr split))) ∙ ap (λ i. drop i (front ++ cluster_ends (drop n text))) (sym len) ∙ drop-append_seam front (cluster_ends (drop n text))

-- ---- spliced lists

module _ {X : Type 0} where
  -- the items before the spliced part
  front_stays : (xs ys : List X) (n i j : ℕ) → n ≤ i → i ≤ length xs → take n (splice xs i j ys) ≡ take n xs
  front_stays xs ys n i j below within =
      let len = length-take-le i xs within in
      take-append-le n (take i xs) (ys ++ drop j xs) (omega (arith, below, len)) ∙ take-take n i xs below

  -- the items after the spliced part
  back_moves : (xs ys : List X) (i j k : ℕ) → i ≤ length xs → drop (i + length ys + k) (splice xs i j ys) ≡ drop (j + k) xs
  back_moves xs ys i j k within =
      let front : List X = take i xs ++ ys in
      let len : length front ≡ i + length ys = length-append (take i xs) ys ∙ ap (λ n. n + length ys) (length-take-le i xs within) in
      sym (drop-drop k (i + length ys) (splice xs i j ys))
      ∙ ap (drop k) (ap (λ n. drop n (splice xs i j ys)) (sym len) ∙ ap (drop (length front)) (sym (append_assoc (take i xs) ys (drop j xs))) ∙ drop-append_seam front (drop j xs))
      ∙ drop-drop k j xs

-- ---- a run edit

-- it changes no level and no break mark outside the run
pub levels_stay_with : (run : RunEdit) (levels : List ℕ) → run.at + run.old_len ≤ length levels
    → StaysOutside (replacement run) levels (levels_with run levels)
levels_stay_with run levels within =
    let copies : List ℕ = replicate run.new_len (get_or levels run.at 0) in
    let len : length copies ≡ run.new_len = length-replicate run.new_len (get_or levels run.at 0) in
    let end : run.at + length copies + 0 ≡ run.at + run.new_len = omega (arith, len) in
    let old_end : run.at + run.old_len + 0 ≡ run.at + run.old_len = omega arith in
    record {
      before = front_stays levels copies run.at run.at (run.at + run.old_len) (omega arith) (omega (arith, within));
      after = ap (λ i. drop i (levels_with run levels)) (sym end) ∙ back_moves levels copies run.at (run.at + run.old_len) 0 (omega (arith, within)) ∙ ap (λ i. drop i levels) old_end;
    }

pub marks_stay_with : (run : RunEdit) (marks : List Mark) → (0 < run.old_len) × (0 < run.new_len) → run.at + run.old_len ≤ length marks
    → StaysOutside (replacement run) marks (marks_with run marks)
marks_stay_with run marks some within =
    let copies : List Mark = replicate (run.new_len - 1) run.mark in
    let len : length copies ≡ run.new_len - 1 = length-replicate (run.new_len - 1) run.mark in
    let end : run.at + length copies + 1 ≡ run.at + run.new_len = omega (arith, len, some.1) in
    let old_end : run.at + (run.old_len - 1) + 1 ≡ run.at + run.old_len = omega (arith, some.0) in
    record {
      before = front_stays marks copies run.at run.at (run.at + (run.old_len - 1)) (omega arith) (omega (arith, within));
      after = ap (λ i. drop i (marks_with run marks)) (sym end) ∙ back_moves marks copies run.at (run.at + (run.old_len - 1)) 1 (omega (arith, within)) ∙ ap (λ i. drop i marks) old_end;
    }

-- ---- an edit that changes no level and no break mark outside the edited characters

module _ (t : Tables) (options : Options) (by_characters : options.reorder_clusters ≡ false) (old new : List ℕ) (edit : Replacement) (is : IsEdited old new edit)
    (levels new_levels : List ℕ) (levels_stay : StaysOutside edit levels new_levels)
    (marks_stay : StaysOutside edit (marks_of t options.whole_numbers old) (marks_of t options.whole_numbers new)) where
  abbrev marks : List Mark
  marks = marks_of t options.whole_numbers old

  abbrev before : Analysed
  before = record { text = old; levels = levels; infos = infos_of t options None old }

  abbrev after : Analysed
  after = record { text = new; levels = new_levels; infos = infos_of t options None new }

  -- the first n items, which are before the edited characters
  same_front : {X : Type 0} (xs ys : List X) (n : ℕ) → n ≤ edit.at → take edit.at ys ≡ take edit.at xs → take n xs ≡ take n ys
  same_front xs ys n below same = sym (take-take n edit.at xs below) ∙ ap (take n) (sym same) ∙ take-take n edit.at ys below

  no_ends_by : (text : List ℕ) → ends_by options text ≡ []
  no_ends_by text = ap (λ b. if b then cluster_ends text else []) by_characters

  -- the infos of the characters before the one before the edited characters
  infos_stay : (n : ℕ) → n + 1 ≡ edit.at → take n (infos_of t options None old) ≡ take n (infos_of t options None new)
  unfolding infos_of
  infos_stay n one =
      let w : ℕ = tab_width_in t options in
      let text : take n old ≡ take n new = same_front old new n (omega (arith, one)) is.before in
      let breaks : take n marks ≡ take n (marks_of t options.whole_numbers new) =
      same_front marks (marks_of t options.whole_numbers new) n (omega (arith, one)) marks_stay.before in
      let same : take (n + 1) new ≡ take (n + 1) old = ap (λ i. take i new) one ∙ is.before ∙ ap (λ i. take i old) (sym one) in
      let clusters : take n (cluster_ends old) ≡ take n (cluster_ends new) =
      same_ends_before old new n (omega (arith, one, is.within.0)) (omega (arith, one, is.within.1)) same in
      take_infos t w n old marks (cluster_ends old)
      ∙ ap (λ (xs : List ℕ). infos t w xs (take n marks) (take n (cluster_ends old))) text
      ∙ ap₂ (λ (ms : List Mark) (es : List Bool). infos t w (take n new) ms es) breaks clusters
      ∙ sym (take_infos t w n new (marks_of t options.whole_numbers new) (cluster_ends new))

  pub agree_before : AgreeBefore options before after (edit.at - 1)
  agree_before =
      let less : edit.at - 1 ≤ edit.at = omega arith in
      record {
        text = same_front old new (edit.at - 1) less is.before;
        levels = same_front levels new_levels (edit.at - 1) less levels_stay.before;
        infos = elim (cases_lt 0 edit.at) [
          | inl some ↦ infos_stay (edit.at - 1) (omega (arith, some))
          | inr none ↦ let zeroth : edit.at - 1 ≡ 0 = omega (arith, none) in ap (λ n. take n (infos_of t options None old)) zeroth ∙ sym (ap (λ n. take n (infos_of t options None new)) zeroth)
        ];
        ends = ap (take (edit.at - 1)) (no_ends_by old ∙ sym (no_ends_by new));
      }

  -- the characters from index v on, which had index u
  module _ (u v : ℕ) (later : edit.at + edit.inserted < v) (place : u + edit.inserted ≡ v + edit.removed) (within : v ≤ length new) (split : is_split_point new v ≡ true) where
    abbrev k : ℕ
    k = v - (edit.at + edit.inserted)

    u_is : edit.at + edit.removed + k ≡ u
    u_is = omega (arith, later, place)

    v_is : edit.at + edit.inserted + k ≡ v
    v_is = omega (arith, later)

    -- the items after the edited characters
    same_back : {X : Type 0} (xs ys : List X) → drop (edit.at + edit.inserted) ys ≡ drop (edit.at + edit.removed) xs → drop u xs ≡ drop v ys
    same_back xs ys same =
        ap (λ i. drop i xs) (sym u_is) ∙ sym (drop-drop k (edit.at + edit.removed) xs) ∙ ap (drop k) (sym same) ∙ drop-drop k (edit.at + edit.inserted) ys ∙ ap (λ i. drop i ys) v_is

    text_moves : drop u old ≡ drop v new
    text_moves = same_back old new is.after

    marks_move : drop u marks ≡ drop v (marks_of t options.whole_numbers new)
    marks_move = same_back marks (marks_of t options.whole_numbers new) marks_stay.after

    -- the characters around the split point are the same ones
    same_at : (i : ℕ) → edit.at + edit.inserted + i ≤ length new → get_or old (edit.at + edit.removed + i) 0 ≡ get_or new (edit.at + edit.inserted + i) 0
    same_at i fits =
        sym (get_or-drop (edit.at + edit.removed) old i 0) ∙ ap (λ (xs : List ℕ). get_or xs i 0) (sym is.after) ∙ get_or-drop (edit.at + edit.inserted) new i 0

    old_split : is_split_point old u ≡ true
    old_split =
        let last_u : edit.at + edit.removed + (k - 1) ≡ u - 1 = omega (arith, later, place) in
        let last_v : edit.at + edit.inserted + (k - 1) ≡ v - 1 = omega (arith, later) in
        let last : get_or old (u - 1) 0 ≡ get_or new (v - 1) 0 =
        ap (λ i. get_or old i 0) (sym last_u) ∙ same_at (k - 1) (omega (arith, within, last_v)) ∙ ap (λ i. get_or new i 0) last_v in
        let next : get_or old u 0 ≡ get_or new v 0 = ap (λ i. get_or old i 0) (sym u_is) ∙ same_at k (omega (arith, within, v_is)) ∙ ap (λ i. get_or new i 0) v_is in
        ap₂ can_split last next ∙ split

    old_within : u ≤ length old
    old_within =
        omega (
          arith,
          later,
          place,
          within,
          is.within.0,
          is.within.1,
          length-drop (edit.at + edit.removed) old,
          length-drop (edit.at + edit.inserted) new,
          ap (λ (xs : List ℕ). length xs) is.after,
        )

    infos_move : drop u (infos_of t options None old) ≡ drop v (infos_of t options None new)
    unfolding infos_of
    infos_move =
        let w : ℕ = tab_width_in t options in
        let clusters : drop u (cluster_ends old) ≡ drop v (cluster_ends new) =
        ends_from old u old_within old_split ∙ ap cluster_ends text_moves ∙ sym (ends_from new v within split) in
        drop_infos t w u old marks (cluster_ends old)
        ∙ ap (λ (xs : List ℕ). infos t w xs (drop u marks) (drop u (cluster_ends old))) text_moves
        ∙ ap₂ (λ (ms : List Mark) (es : List Bool). infos t w (drop v new) ms es) marks_move clusters
        ∙ sym (drop_infos t w v new (marks_of t options.whole_numbers new) (cluster_ends new))

    pub agree_after : AgreeAfter options before after u v
    agree_after = record {
      within = (old_within, within);
      text = text_moves;
      levels = same_back levels new_levels levels_stay.after;
      infos = infos_move;
      ends = ap (drop u) (no_ends_by old) ∙ drop_all u [] (omega arith) ∙ sym (ap (drop v) (no_ends_by new) ∙ drop_all v [] (omega arith));
    }
