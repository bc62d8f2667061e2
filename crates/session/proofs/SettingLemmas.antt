-- A measured session before and after the advances of a range are set.
use Rattle.std.proofs.Common.{◌≡◌, ℕ, ◌+◌, ◌-◌, ◌^◌, ◌<◌, ◌≤◌, nat_lt, Bool, true, List, [], ◌++◌, length, take, drop, get_or, sum_by, inl, inr, Option, Some, None, if◌then◌else◌, refl, sym, ap, ap₂, subst, ◌∙◌, arith}
use Rattle.std.specs.List.{concat, slice_range, splice}
use Rattle.std.proofs.lemmas.Bool.{cases_eq, cases_lt, cond-false, cond-true, le-ltb, lt-ltb}
use Rattle.std.proofs.lemmas.List.{length-append, length-map, length-take-le, take-append-drop}
use Rattle.std.proofs.lemmas.List.Concat.{flat_map-append}
use Rattle.std.proofs.lemmas.List.Folds.{concat-append, drop_split}
use Rattle.bidi.specs.Cuts.{paragraphs}
use Rattle.bidi.specs.Pieces.{ParagraphsArePieces}
use Rattle.lines.specs.Engine.{rules_of, FillsAtMost, SameRules}
use Rattle.lines.specs.Layouts.{Layout, Rules, cut_by, visuals, with_advances}
use Rattle.lines.specs.declared.engine.Engine.{Engine}
use Rattle.session.specs.Borders.{IsBackBorder, IsFrontBorder, damage_between}
use Rattle.session.specs.Edits.{content_refusal, have_room, is_within_limit, replaced, replacing, room_refusal}
use Rattle.session.specs.Kept.{advance_lists, advances_in, layouts_from, layouts_of, lines_in, pars_of, text_of, AreForEach}
use Rattle.session.specs.Measuring.{advances_refusal, advances_set, covered_chars, Cover, IsBoundedFor, IsFaultFor, IsMeasuredDamage, SetsAdvances, SetsAdvancesNot}
use Rattle.session.specs.Sessions.{state_of, IsWholeLayout}
use Rattle.session.specs.Touched.{start_of}
use Rattle.session.specs.declared.borders.Border.{Border}
use Rattle.session.specs.declared.edits.AdvanceFault.{AdvanceFault}
use Rattle.session.specs.declared.edits.AdvanceFault.TheVariants.{OutOfRange, ParagraphTooLong, NoMemory}
use Rattle.session.specs.declared.edits.EditFault.TheVariants as EditFault
use Rattle.session.specs.declared.edits.TheConstants.{TEXT_LIMIT}
use Rattle.session.proofs.AdvanceLemmas.{advances-layouts, length-layouts, pars-layouts, room-middle, roomy}
use Rattle.session.proofs.BorderLemmas.{chars_of, length-text, lines_of as line_number}
use Rattle.session.proofs.EditLemmas.{chars-laid, few-laid, listed_number, listed_starts, middle_laid, take_both, text-layouts, IsWholeLayout-same, LinesAreFew, Replaces-middle}
use Rattle.session.proofs.RefusalLemmas.{allowed-length, allowed-room, allowed-within_limit, text_refusal-short}
use Rattle.session.proofs.RegionParts.{back_of, back_part, front_of, front_part}
use Rattle.session.proofs.SpliceLemmas.{length-replaced, replaced-middle}
use Rattle.session.proofs.TouchedLemmas.{start_of-end, start_of-le, start_of-le-length}
use Rattle.session.proofs.UnitLemmas.{few_in_all, AreFew}

-- a nonempty range, and the borders around the paragraphs that it overlaps
pub record IsRange (kept : List Layout) (pos : ℕ) (new : List ℕ) (front back : Border) : Type 0 where
  pub law : ParagraphsArePieces
  pub few : LinesAreFew
  pub some : 0 < length new
  pub within : pos + length new ≤ length (text_of kept)
  pub front_is : IsFrontBorder kept (pos + 1) front
  pub back_is : IsBackBorder kept (pos + length new - 1) back

pub range_of : (kept : List Layout) (total pos : ℕ) (new : List ℕ) (front back : Border) → ParagraphsArePieces → LinesAreFew → total ≡ sum_by chars_of kept
    → 0 < length new → pos + length new ≤ total → IsFrontBorder kept (pos + 1) front → IsBackBorder kept (pos + length new - 1) back → IsRange kept pos new front back
range_of kept total pos new front back law few size some within front_is back_is = record {
  law = law;
  few = few;
  some = some;
  within = omega (arith, within, size, length-text kept);
  front_is = front_is;
  back_is = back_is;
}

-- a call that ran out of memory changed nothing but the counters
pub Remains-worked : (engine next : Engine) (width : ℕ) (is_measured : Bool) (kept : List Layout) (pos : ℕ) (new : List ℕ) → IsWholeLayout (state_of engine width is_measured kept)
    → advances_refusal (cut_by (rules_of engine)) (advances_in is_measured kept) (text_of kept) pos new ≡ None → SameRules engine next → FillsAtMost (length (text_of kept)) engine next
    → SetsAdvancesNot pos new (state_of engine width is_measured kept) (state_of next width is_measured kept) NoMemory
Remains-worked engine next width is_measured kept pos new whole answer same counts = record {
  answer = answer;
  kept = refl;
  at_width = refl;
  advances = refl;
  laid_out = IsWholeLayout-same engine next width (advances_in is_measured kept) kept same whole;
  rules = same;
  counts = counts;
}

-- an upper bound on the number of filled characters can be replaced by a greater one
fills_within : (few many : ℕ) (old new : Engine) → few ≤ many → FillsAtMost few old new → FillsAtMost many old new
fills_within few many old new le counts = record {
  analysed = counts.analysed;
  filled = record { least = counts.filled.least; most = omega (arith, le, counts.filled.most) };
  written = record { least = counts.written.least; most = omega (arith, le, counts.written.most) };
}

-- ---- the advances and the texts of the paragraphs of a measured session
module _ (engine : Engine) (width : ℕ) (kept : List Layout) (whole : IsWholeLayout (state_of engine width true kept)) where
  abbrev list : List ℕ
  list = concat (advance_lists kept)

  abbrev rules : Rules
  rules = with_advances (rules_of engine) None

  pars-kept : pars_of kept ≡ paragraphs (cut_by rules) (text_of kept)
  pars-kept = ap pars_of whole.kept ∙ pars-layouts rules width (Some list) (paragraphs (cut_by rules) (text_of kept))

  laid_listed : kept ≡ layouts_from rules width (Some list) (pars_of kept)
  laid_listed = whole.kept ∙ ap (layouts_from rules width (Some list)) (sym pars-kept)

  list_starts : (i : ℕ) → start_of (advance_lists kept) i ≡ start_of (pars_of kept) i
  list_starts i = ap (λ ks. start_of (advance_lists ks) i) laid_listed ∙ listed_starts rules width list (pars_of kept) i whole.advances

  list_number : length (advance_lists kept) ≡ length (pars_of kept)
  list_number = ap (λ ks. length (advance_lists ks)) laid_listed ∙ listed_number rules width (Some list) (pars_of kept)

  module _ {pos : ℕ} {new : List ℕ} {front back : Border} (range : IsRange kept pos new front back) where
    number : length (pars_of kept) ≡ length kept
    number = length-map kept (λ (l : Layout). l.text)

    -- the range starts in the first of the paragraphs, and ends in the last one
    low : front.chars ≤ pos
    low = elim (cases_eq front.index 0) [
      | inl e ↦ omega (arith, range.front_is.border_is.chars ∙ ap (start_of (pars_of kept)) e)
      | inr ne ↦ omega (arith, range.front_is.before (omega arith))
    ]

    high : pos + length new ≤ back.chars
    high = elim (cases_lt back.index (length kept)) [
      | inl more ↦ omega (arith, range.back_is.after more, range.some)
      | inr all ↦ omega (arith, range.back_is.border_is.chars, start_of-end (pars_of kept) back.index (omega (arith, all, number)), range.within)
    ]

    front_some : front.index < length kept
    front_some = elim (cases_lt front.index (length kept)) [
      | inl more ↦ more
      | inr all ↦ absurd (omega (arith, range.front_is.border_is.chars, start_of-end (pars_of kept) front.index (omega (arith, all, number)), low, range.within, range.some))
    ]

    pub order : front.index < back.index
    order = elim (cases_lt front.index back.index) [
      | inl rise ↦ rise
      | inr fall ↦ absurd (omega (arith, start_of-le (pars_of kept) back.index front.index (omega (arith, fall)), range.front_is.border_is.chars, range.back_is.border_is.chars, low, high, range.some))
    ]

    reach : pos < start_of (pars_of kept) (front.index + 1)
    reach = omega (arith, range.front_is.after front_some)

    last_reach : start_of (pars_of kept) (back.index - 1) ≤ pos + length new
    last_reach = omega (arith, range.back_is.before (back.index - 1) (omega (arith, order)))

    pub covered : Cover (pars_of kept) pos (length new) front.index (back.index - front.index)
    covered =
        let place : front.index + (back.index - front.index) ≡ back.index = omega (arith, order) in
        record {
          none = λ nothing. absurd (omega (arith, nothing, range.some));
          within = omega (arith, place, range.back_is.border_is.within, number);
          before = λ _. omega (arith, range.front_is.border_is.chars, low);
          first_has = λ _. reach;
          last_has = λ _. rw place (omega (arith, range.back_is.before (back.index - 1) (omega (arith, order)), range.some));
          after = λ _. rw place (omega (arith, range.back_is.border_is.chars, high));
        }

    -- the advances of these paragraphs after the new advances are set
    abbrev pub region : List ℕ
    region = front_of (advance_lists kept) front pos ++ (new ++ back_of (advance_lists kept) back (pos + length new))

    abbrev pub mid : List (List ℕ)
    mid = slice_range (pars_of kept) front.index back.index

    abbrev left : List (List ℕ)
    left = take front.index (pars_of kept)

    abbrev right : List (List ℕ)
    right = drop back.index (pars_of kept)

    abbrev left_list : List ℕ
    left_list = concat (take front.index (advance_lists kept))

    abbrev mid_list : List ℕ
    mid_list = concat (slice_range (advance_lists kept) front.index back.index)

    abbrev right_list : List ℕ
    right_list = concat (drop back.index (advance_lists kept))

    rise : front.index ≤ back.index
    rise = omega (arith, order)

    list_parts : list ≡ left_list ++ (mid_list ++ right_list)
    list_parts =
        ap concat (sym (take-append-drop front.index (advance_lists kept)) ∙ ap (λ ps. take front.index (advance_lists kept) ++ ps) (drop_split (advance_lists kept) front.index back.index rise))
        ∙ concat-append (take front.index (advance_lists kept)) (slice_range (advance_lists kept) front.index back.index ++ drop back.index (advance_lists kept))
        ∙ ap (λ cs. left_list ++ cs) (concat-append (slice_range (advance_lists kept) front.index back.index) (drop back.index (advance_lists kept)))

    pars_parts : pars_of kept ≡ left ++ (mid ++ right)
    pars_parts = sym (take-append-drop front.index (pars_of kept)) ∙ ap (λ ps. left ++ ps) (drop_split (pars_of kept) front.index back.index rise)

    upto_sizes : (parts : List (List ℕ)) → start_of parts back.index ≡ start_of parts front.index + length (concat (slice_range parts front.index back.index))
    upto_sizes parts =
        ap (λ ps. length (concat ps)) (take_both parts front.index back.index rise)
        ∙ ap length (concat-append (take front.index parts) (slice_range parts front.index back.index))
        ∙ length-append (concat (take front.index parts)) (concat (slice_range parts front.index back.index))

    mid_sizes : length mid_list ≡ length (concat mid)
    mid_sizes = omega (arith, upto_sizes (advance_lists kept), upto_sizes (pars_of kept), list_starts front.index, list_starts back.index)

    abbrev from : ℕ
    from = pos - front.chars

    reach_in : from + length new ≤ length mid_list
    reach_in = omega (arith, low, high, range.front_is.border_is.chars, range.back_is.border_is.chars, list_starts front.index, list_starts back.index, upto_sizes (advance_lists kept))

    region_is : replaced mid_list (replacing from (length new) new) ≡ region
    region_is =
        let start : front.chars ≡ start_of (advance_lists kept) front.index = range.front_is.border_is.chars ∙ sym (list_starts front.index) in
        let stop : back.chars ≡ start_of (advance_lists kept) back.index = range.back_is.border_is.chars ∙ sym (list_starts back.index) in
        let bound : back.index ≤ length (advance_lists kept) = omega (arith, range.back_is.border_is.within, number, list_number) in
        let lists = advance_lists kept in
        let first : take from mid_list ≡ front_of lists front pos =
        ap (λ n. take (pos - n) mid_list) start
        ∙ front_part lists front.index back.index pos (pos + length new) order bound (omega (arith, reach, list_starts (front.index + 1)))
        ∙ ap (λ n. take (pos - n) (get_or lists front.index [])) (sym start) in
        let place : from + length new ≡ pos + length new - start_of lists front.index = omega (arith, low, start) in
        let last : drop (from + length new) mid_list ≡ back_of lists back (pos + length new) =
        ap (λ n. drop n mid_list) place
        ∙ back_part lists front.index back.index pos (pos + length new) order bound (omega (arith, last_reach, list_starts (back.index - 1))) (omega (arith, high, stop))
        ∙ ap (λ n. drop (length (get_or lists (back.index - 1) []) - (n - (pos + length new))) (get_or lists (back.index - 1) [])) (sym stop) in
        ap₂ (λ (xs ys : List ℕ). xs ++ (new ++ ys)) first last

    -- setting the new advances in the session's list replaces those of the region
    list_after : advances_set list pos new ≡ left_list ++ (region ++ right_list)
    list_after =
        let place : length left_list + from ≡ pos = omega (arith, range.front_is.border_is.chars, list_starts front.index, low) in
        ap (λ l. replaced l (replacing pos (length new) new)) list_parts
        ∙ ap (λ p. replaced (left_list ++ (mid_list ++ right_list)) (replacing p (length new) new)) (sym place)
        ∙ replaced-middle left_list mid_list right_list new from (length new) reach_in
        ∙ ap (λ r. left_list ++ (r ++ right_list)) region_is

    pub region_sizes : length region ≡ length (concat mid)
    region_sizes = ap length (sym region_is) ∙ length-replaced mid_list new from (length new) reach_in ∙ omega (arith, reach_in, mid_sizes)

    -- the paragraphs of the range have at most as many characters as the text
    pub mid_within : length (concat mid) ≤ length (text_of kept)
    mid_within = omega (arith, upto_sizes (pars_of kept), start_of-le-length (pars_of kept) back.index)

    set_sizes : length (advances_set list pos new) ≡ length (text_of kept)
    set_sizes = length-replaced list new pos (length new) (omega (arith, range.within, whole.advances)) ∙ omega (arith, range.within, whole.advances)

    left_number : front.index ≡ length left
    left_number = sym (length-take-le front.index (pars_of kept) (omega (arith, range.front_is.border_is.within, number)))

    upto_number : back.index ≡ length left + length mid
    upto_number =
        sym (length-take-le back.index (pars_of kept) (omega (arith, range.back_is.border_is.within, number)))
        ∙ ap length (take_both (pars_of kept) front.index back.index rise) ∙ length-append left mid

    -- the advances of all paragraphs are within the limit if and only if those of the range are
    room_is : have_room (advances_set list pos new) (paragraphs (cut_by rules) (text_of kept)) ≡ have_room region mid
    room_is =
        let has : have_room (left_list ++ (mid_list ++ right_list)) (left ++ (mid ++ right)) ≡ true =
        ap₂ have_room (sym list_parts) (sym pars_parts ∙ pars-kept)
        ∙ roomy list (paragraphs (cut_by rules) (text_of kept)) (allowed-room (cut_by rules) (Some list) (text_of kept) whole.allowed) in
        ap₂ have_room list_after (sym pars-kept ∙ pars_parts)
        ∙ room-middle rules width left mid right mid left_list mid_list right_list region (list_starts front.index) mid_sizes region_sizes has

    pub refusal_is : advances_refusal (cut_by rules) (Some list) (text_of kept) pos new ≡ (if have_room region mid then None else Some ParagraphTooLong)
    refusal_is =
        cond-false (nat_lt (length (text_of kept)) (pos + length new)) (Some OutOfRange) (if have_room (advances_set list pos new) (paragraphs (cut_by rules) (text_of kept)) then None else Some ParagraphTooLong)
        (le-ltb (length (text_of kept)) (pos + length new) range.within)
        ∙ ap (λ c. if c then None else Some ParagraphTooLong) room_is

    -- after an allocation failure, `SetsAdvancesNot` holds for the session
    pub SetsAdvancesNot-after : (next : Engine) → have_room region mid ≡ true → SameRules engine next → FillsAtMost (length (concat mid)) engine next
        → SetsAdvancesNot pos new (state_of engine width true kept) (state_of next width true kept) NoMemory
    SetsAdvancesNot-after next has same counts =
        Remains-worked engine next width true kept pos new whole (refusal_is ∙ cond-true (have_room region mid) None (Some ParagraphTooLong) has) same
        (fills_within (length (concat mid)) (length (text_of kept)) engine next mid_within counts)

    -- ---- the session after the layouts of these paragraphs are replaced
    module _ (made : List Layout) (laid : made ≡ layouts_from rules width (Some region) mid) where
      abbrev pub after : List Layout
      after = splice kept front.index back.index made

      after_is : after ≡ layouts_of (with_advances (rules_of engine) (Some (advances_set list pos new))) width (text_of kept)
      after_is =
          let old : kept ≡ layouts_from rules width (Some (left_list ++ (mid_list ++ right_list))) (left ++ (mid ++ right)) =
          laid_listed ∙ ap₂ (λ (l : List ℕ) (ps : List (List ℕ)). layouts_from rules width (Some l) ps) list_parts pars_parts in
          ap (splice kept front.index back.index) laid
          ∙ middle_laid rules width left mid right mid left_list mid_list right_list region front.index back.index left_number upto_number
          true kept (λ _. list_starts front.index) (λ _. mid_sizes) (λ _. region_sizes) old
          ∙ ap₂ (λ (l : List ℕ) (ps : List (List ℕ)). layouts_from rules width (Some l) ps) (sym list_after) (sym pars_parts ∙ pars-kept)

      pub text-after : text_of after ≡ text_of kept
      text-after = ap text_of after_is ∙ text-layouts range.law (with_advances (rules_of engine) (Some (advances_set list pos new))) width (text_of kept)

      pub advances-after : advances_in true after ≡ Some (advances_set list pos new)
      advances-after =
          ap (advances_in true) after_is
          ∙ advances-layouts rules width true (advances_set list pos new) (paragraphs (cut_by rules) (text_of kept))
          (set_sizes ∙ ap length (sym (range.law.whole (cut_by rules) (text_of kept))))

      short : length (text_of kept) ≤ TEXT_LIMIT
      short = allowed-length (cut_by rules) (Some list) (text_of kept) whole.allowed

      abbrev set_rules : Rules
      set_rules = with_advances (rules_of engine) (Some (advances_set list pos new))

      pub chars_fit : sum_by chars_of after < 2 ^ 64
      chars_fit = omega (arith, chars-laid range.law range.few set_rules width (text_of kept) after after_is, short)

      pub units_fit : (size : ℕ → ℕ) → AreFew size → sum_by (λ l. sum_by size l.text) after < 2 ^ 64
      units_fit size few_units = omega (arith, few_in_all size few_units after, chars-laid range.law range.few set_rules width (text_of kept) after after_is, short)

      pub lines_fit : sum_by line_number after < 2 ^ 64
      lines_fit = omega (arith, few-laid range.law range.few set_rules width (text_of kept) after after_is, short)

      content_allowed : have_room region mid ≡ true → content_refusal (cut_by rules) (Some (advances_set list pos new)) (text_of kept) ≡ None
      content_allowed has =
          text_refusal-short (cut_by rules) (Some (advances_set list pos new)) (text_of kept) short
          ∙ cond-true (is_within_limit (cut_by rules) (text_of kept)) (room_refusal (Some (advances_set list pos new)) (paragraphs (cut_by rules) (text_of kept))) (Some EditFault.ParagraphTooLong)
          (allowed-within_limit (cut_by rules) (Some list) (text_of kept) whole.allowed)
          ∙ ap (λ c. if c then None else Some EditFault.ParagraphTooLong) (room_is ∙ has)

      damage_after : IsMeasuredDamage pos (length new) kept after (damage_between front back made)
      damage_after =
          let left = take front.index kept in
          let mid_kept = slice_range kept front.index back.index in
          let right = drop back.index kept in
          let place : front.index + (back.index - front.index) ≡ back.index = omega (arith, order) in
          let upto : take back.index kept ≡ left ++ mid_kept = take_both kept front.index back.index rise in
          let left-size : length left ≡ front.index = length-take-le front.index kept range.front_is.border_is.within in
          let mid-size : length mid_kept ≡ back.index - front.index = omega (arith, ap length upto, length-append left mid_kept, length-take-le back.index kept range.back_is.border_is.within) in
          let lines-upto : back.lines ≡ front.lines + length (lines_in mid_kept) =
          range.back_is.border_is.lines ∙ ap (λ ks. length (lines_in ks)) upto ∙ ap length (flat_map-append visuals left mid_kept) ∙ length-append (lines_in left) (lines_in mid_kept)
          ∙ ap (λ n. n + length (lines_in mid_kept)) (sym range.front_is.border_is.lines) in
          let old-parts : kept ≡ left ++ (mid_kept ++ right) = sym (take-append-drop front.index kept) ∙ ap (λ ks. take front.index kept ++ ks) (drop_split kept front.index back.index rise) in
          let made-size : length made ≡ back.index - front.index = omega (arith, ap length laid ∙ length-layouts rules width (Some region) mid, left_number, upto_number) in
          record {
            covered = covered;
            new_pars = made-size;
            first_line = range.front_is.border_is.lines;
            old_lines = omega (arith, lines-upto) ∙ ap (λ n. length (lines_in (slice_range kept front.index n))) (sym place);
            pars = Replaces-middle left mid_kept right made kept after front.index (back.index - front.index) (length made) old-parts refl (sym left-size) (sym mid-size) refl;
            lines = Replaces-middle (lines_in left) (lines_in mid_kept) (lines_in right) (lines_in made) (lines_in kept) (lines_in after) front.lines (back.lines - front.lines) (length (lines_in made))
                (ap lines_in old-parts ∙ lines-parts left mid_kept right) (lines-parts left made right) range.front_is.border_is.lines (omega (arith, lines-upto)) refl;
          }
        where
          lines-parts : (xs ys zs : List Layout) → lines_in (xs ++ (ys ++ zs)) ≡ lines_in xs ++ (lines_in ys ++ lines_in zs)
          lines-parts xs ys zs = flat_map-append visuals xs (ys ++ zs) ∙ ap (λ ls. lines_in xs ++ ls) (flat_map-append visuals ys zs)

      pub SetsAdvances-after : (new_engine : Engine) → have_room region mid ≡ true → SameRules engine new_engine → FillsAtMost (length (concat mid)) engine new_engine
          → SetsAdvances pos new (state_of engine width true kept) (state_of new_engine width true after) (damage_between front back made)
      SetsAdvances-after new_engine has same counts = record {
        allowed = refusal_is ∙ cond-true (have_room region mid) None (Some ParagraphTooLong) has;
        text = text-after;
        at_width = refl;
        advances = advances-after;
        laid_out = IsWholeLayout-same engine new_engine width (advances_in true after) after same (record {
          kept = after_is ∙ ap₂ (λ (a : Option (List ℕ)) (t : List ℕ). layouts_of (with_advances (rules_of engine) a) width t) (sym advances-after) (sym text-after);
          allowed = ap₂ (λ (a : Option (List ℕ)) (t : List ℕ). content_refusal (cut_by rules) a t) advances-after text-after ∙ content_allowed has;
          filled = whole.filled;
          advances = subst (λ (a : Option (List ℕ)). AreForEach a (text_of after)) (sym advances-after) (set_sizes ∙ ap length (sym text-after));
        });
        rules = same;
        damage = damage_after;
        counts = let place : front.index + (back.index - front.index) ≡ back.index = omega (arith, order) in
            subst (λ n. FillsAtMost (covered_chars kept front.index n) engine new_engine) (sym place) counts;
      }

-- ---- refusals

-- a refused call changed nothing
pub Remains-unchanged : (engine : Engine) (width : ℕ) (is_measured : Bool) (kept : List Layout) (pos : ℕ) (new : List ℕ) (fault : AdvanceFault) → IsWholeLayout (state_of engine width is_measured kept)
    → IsFaultFor (advances_refusal (cut_by (rules_of engine)) (advances_in is_measured kept) (text_of kept) pos new) fault
    → IsBoundedFor fault (FillsAtMost (length (text_of kept))) engine engine
    → SetsAdvancesNot pos new (state_of engine width is_measured kept) (state_of engine width is_measured kept) fault
Remains-unchanged engine width is_measured kept pos new fault whole answer counts = record {
  answer = answer;
  kept = refl;
  at_width = refl;
  advances = refl;
  laid_out = whole;
  rules = refl;
  counts = counts;
}

-- a range past the end is refused
pub refusal-past : (is_cut : ℕ → ℕ → Bool) (kept : List Layout) (pos : ℕ) (new : List ℕ) → length (text_of kept) < pos + length new
    → advances_refusal is_cut (advances_in true kept) (text_of kept) pos new ≡ Some OutOfRange
refusal-past is_cut kept pos new past =
    cond-true (nat_lt (length (text_of kept)) (pos + length new)) (Some OutOfRange)
    (if have_room (advances_set (concat (advance_lists kept)) pos new) (paragraphs is_cut (text_of kept)) then None else Some ParagraphTooLong)
    (lt-ltb (length (text_of kept)) (pos + length new) past)

-- an empty range changes nothing
pub SetsAdvances-none : (engine : Engine) (width : ℕ) (kept : List Layout) (pos : ℕ) (new : List ℕ) → IsWholeLayout (state_of engine width true kept) → new ≡ [] → pos ≤ length (text_of kept)
    → SetsAdvances pos new (state_of engine width true kept) (state_of engine width true kept)
    (record { first_line = 0; old_lines = 0; new_lines = 0; first_par = 0; old_pars = 0; new_pars = 0 })
SetsAdvances-none engine width kept pos new whole none within =
    let list = concat (advance_lists kept) in
    let size : length new ≡ 0 = ap length none in
    let same : advances_set list pos new ≡ list =
    ap₂ (λ (ns : List ℕ) (m : ℕ). take pos list ++ (ns ++ drop (pos + m) list)) none size ∙ ap (λ m. take pos list ++ drop m list) (omega arith) ∙ take-append-drop pos list in
    record {
      allowed =
          cond-false (nat_lt (length (text_of kept)) (pos + length new)) (Some OutOfRange) (if have_room (advances_set list pos new) (paragraphs (cut_by (rules_of engine)) (text_of kept)) then None else Some ParagraphTooLong)
          (le-ltb (length (text_of kept)) (pos + length new) (omega (arith, size, within)))
          ∙ cond-true (have_room (advances_set list pos new) (paragraphs (cut_by (rules_of engine)) (text_of kept))) None (Some ParagraphTooLong)
          (ap (λ l. have_room l (paragraphs (cut_by (rules_of engine)) (text_of kept))) same
          ∙ roomy list (paragraphs (cut_by (rules_of engine)) (text_of kept)) (allowed-room (cut_by (rules_of engine)) (Some list) (text_of kept) whole.allowed));
      text = refl;
      at_width = refl;
      advances = ap Some (sym same);
      laid_out = whole;
      rules = refl;
      damage = record {
        covered = record {
          none = λ _. (refl, refl);
          within = omega arith;
          before = λ some. absurd (omega (arith, some, size));
          first_has = λ some. absurd (omega (arith, some, size));
          last_has = λ some. absurd (omega (arith, some, size));
          after = λ some. absurd (omega (arith, some, size));
        };
        new_pars = refl;
        first_line = refl;
        old_lines = refl;
        pars = record { size = refl; front = refl; back = refl };
        lines = record { size = refl; front = refl; back = refl };
      };
      counts = record { analysed = refl; filled = record { least = omega arith; most = omega arith }; written = record { least = omega arith; most = omega arith } };
    }
