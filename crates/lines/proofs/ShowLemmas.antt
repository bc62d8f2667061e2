-- Writing the lines of a paragraph one at a time results in all its lines.
use Rattle.std.proofs.Common.{◌≡◌, ℕ, zero, suc, ◌+◌, ◌*◌, ◌-◌, ◌<◌, ◌≤◌, Bool, Option, List, [], ◌∷◌, ◌++◌, length, map, take}
use Rattle.std.proofs.Common.{drop, get_or, refl, sym, ap, ap₂, subst, ◌∙◌, take-take, drop-drop, below_more, length-append, arith, inl, inr}
use borrow.Rule.Slice.PartMut.{put_mid}
use Rattle.std.proofs.lemmas.Bool.{cases_eq, cases_lt}
use Rattle.std.proofs.lemmas.List.{length-drop, length-take, length-take-le, take_all, take_more}
use Rattle.std.proofs.lemmas.Slice.{between_is, between-put_mid, drop-put_mid, take-put_mid_below}
use Rattle.std.specs.List.{slice_range, All}
use Rattle.ucd.specs.Tables.{class_of}
use Rattle.ucd.specs.declared.bidi_class.BidiClass.{BidiClass}
use Rattle.ucd.specs.declared.tables.Tables.{Tables}
use Rattle.ucd.specs.Within.{AreWithin}
use Rattle.lines.specs.Extents.{shown_between, shown_from, LineExtents}
use Rattle.lines.specs.Filling.{columns}
use Rattle.lines.specs.ShownParts.{shown, shown_len}
use Rattle.lines.specs.Kept.{AreStarts, IsSound, line_in, lines_by, lines_in}
use Rattle.lines.specs.Layouts.{AreWithin as LinesAreWithin}
use Rattle.lines.specs.Paragraphs.{IsLineAt}
use Rattle.reorder.specs.Mirroring.{visual_chars}
use Rattle.lines.specs.Reordering.{ends_by, ltov_by, vtol_by}
use Rattle.lines.specs.Showing.{line_showing, lines_shown, nothing_shown, AreShown, IsPlaced, IsShown}
use Rattle.reorder.specs.Spaces.{line_levels}
use Rattle.lines.specs.Visual.{Line, end_of}
use Rattle.lines.specs.declared.options.Options.{Options}
use Rattle.lines.specs.declared.char_info.CharInfo.{CharInfo}
use Rattle.lines.specs.declared.fill.Shown.{Shown}
use Rattle.lines.specs.declared.paragraph.LineSlice.{LineSlice}
use Rattle.lines.specs.declared.paragraph.Text.{Text}

-- ---- where a line ends

pub end_next : (n : ℕ) (starts : List ℕ) (k : ℕ) → k + 1 < length starts → get_or starts (k + 1) 0 ≡ end_of n starts k
end_next n [] k h = absurd (omega (arith, h))
end_next n (s ∷ []) k h = absurd (omega (arith, h))
end_next n (s ∷ t ∷ starts) zero h = refl
end_next n (s ∷ t ∷ starts) (suc k) h =
    let e : suc k + 1 ≡ suc (k + 1) = omega arith in
    ap (λ j. get_or (s ∷ t ∷ starts) j 0) e ∙ end_next n (t ∷ starts) k (omega (arith, h))

pub end_last : (n : ℕ) (starts : List ℕ) (k : ℕ) → length starts ≤ k + 1 → n ≡ end_of n starts k
end_last n [] k h = refl
end_last n (s ∷ []) k h = refl
end_last n (s ∷ t ∷ starts) zero h = absurd (omega (arith, h))
end_last n (s ∷ t ∷ starts) (suc k) h = end_last n (t ∷ starts) k (omega (arith, h))

pub end_within : (n : ℕ) (starts : List ℕ) (k : ℕ) → AreStarts n starts → k < length starts → (get_or starts k 0 < end_of n starts k) × (end_of n starts k ≤ n)
end_within n starts k are h =
    elim (cases_lt (k + 1) (length starts)) [
      | inl more ↦ let e = end_next n starts k more in (omega (arith, e, are.rising k more), omega (arith, e, are.below (k + 1) more))
      | inr last ↦ let e = end_last n starts k (omega (arith, last)) in (omega (arith, e, are.below k h), omega (arith, e))
    ]

-- each line ends at or before the start of every later line
ends_before : (n : ℕ) (starts : List ℕ) (j k : ℕ) → AreStarts n starts → j < k → k < length starts → end_of n starts j ≤ get_or starts k 0
ends_before n starts j zero are h within = absurd (omega (arith, h))
ends_before n starts j (suc k) are h within =
    let one : k + 1 ≡ suc k = omega arith in
    let more : k + 1 < length starts = omega (arith, within) in
    elim (cases_eq j k) [
      | inl e ↦
          let here = end_next n starts k more in
          let there : get_or starts (suc k) 0 ≡ end_of n starts k = subst (λ m. get_or starts m 0 ≡ end_of n starts k) one here in
          let same : end_of n starts j ≡ end_of n starts k = ap (end_of n starts) e in
          omega (arith, there, same)
      | inr ne ↦
          let before = ends_before n starts j k are (omega (arith, h, ne)) (omega (arith, within)) in
          let there : get_or starts k 0 < get_or starts (suc k) 0 = subst (λ m. get_or starts k 0 < get_or starts m 0) one (are.rising k more) in
          omega (arith, before, there)
    ]

-- ---- how much of each line is shown

pub length-shown_from : (margin : Option ℕ) (n : ℕ) (infos : List CharInfo) (starts : List ℕ) → length (shown_from margin n infos starts) ≡ length starts
length-shown_from margin n infos [] = refl
length-shown_from margin n infos (s ∷ []) = refl
length-shown_from margin n infos (s ∷ t ∷ starts) = ap suc (length-shown_from margin n infos (t ∷ starts))

pub shown_at : (margin : Option ℕ) (n : ℕ) (infos : List CharInfo) (starts : List ℕ) (k : ℕ) (d : Shown) → k < length starts
    → get_or (shown_from margin n infos starts) k d ≡ shown_between margin infos (get_or starts k 0) (end_of n starts k)
shown_at margin n infos [] k d h = absurd (omega (arith, h))
shown_at margin n infos (s ∷ []) zero d h = refl
shown_at margin n infos (s ∷ []) (suc k) d h = absurd (omega (arith, h))
shown_at margin n infos (s ∷ t ∷ starts) zero d h = refl
shown_at margin n infos (s ∷ t ∷ starts) (suc k) d h = shown_at margin n infos (t ∷ starts) k d (omega (arith, h))

-- if `parts` are the shown parts of the first k lines, appending the shown part of line k yields those of the first k +
-- 1
pub shown_more : (margin : Option ℕ) (n : ℕ) (infos : List CharInfo) (starts : List ℕ) (k e : ℕ) (part : Shown) (parts more : List Shown) → k < length starts → e ≡ end_of n starts k
    → part.len ≡ length (shown margin (slice_range infos (get_or starts k 0) e)) → part.columns ≡ columns (shown margin (slice_range infos (get_or starts k 0) e))
    → parts ≡ take k (shown_from margin n infos starts) → more ≡ parts ++ part ∷ [] → more ≡ take (k + 1) (shown_from margin n infos starts)
shown_more margin n infos starts k e part parts more below e_is len columns_are so_far is =
    let here : k < length (shown_from margin n infos starts) = omega (arith, below, length-shown_from margin n infos starts) in
    let this : part ≡ shown_between margin infos (get_or starts k 0) e = rw (len, columns_are) refl in
    let item : get_or (shown_from margin n infos starts) k part ≡ part =
    shown_at margin n infos starts k part below ∙ ap (shown_between margin infos (get_or starts k 0)) (sym e_is) ∙ sym this in
    is ∙ ap (λ (ps : List Shown). ps ++ part ∷ []) so_far ∙ ap (λ (p : Shown). take k (shown_from margin n infos starts) ++ p ∷ []) (sym item)
    ∙ sym (take_more (shown_from margin n infos starts) k part here)

-- `shown_from` returns equal shown parts for equal text lengths and equal starts
pub taken_shown : (margin : Option ℕ) (n m : ℕ) (infos : List CharInfo) (starts seen : List ℕ) {parts : List Shown} → n ≡ m → seen ≡ starts → parts ≡ shown_from margin m infos seen
    → parts ≡ shown_from margin n infos starts
taken_shown margin n m infos starts seen e same is = is ∙ ap₂ (λ (j : ℕ) (ss : List ℕ). shown_from margin j infos ss) (sym e) same

-- the shown part of a line has at most as many characters as the line
shown_most : (margin : Option ℕ) (infos : List CharInfo) (s e : ℕ) → (shown_between margin infos s e).len ≤ e - s
shown_most margin infos s e =
    let piece : List CharInfo = slice_range infos s e in
    omega (
      arith,
      length-take (shown_len margin piece) piece,
      length-take (e - s) (drop s infos),
    )

pub shown_within : (margin : Option ℕ) (n : ℕ) (infos : List CharInfo) (starts : List ℕ) (parts : List Shown) (k e : ℕ) (part d : Shown) → AreStarts n starts → k < length starts
    → e ≡ end_of n starts k → parts ≡ shown_from margin n infos starts → part ≡ get_or parts k d → get_or starts k 0 + part.len ≤ e
shown_within margin n infos starts parts k e part d are below e_is is this =
    let w = end_within n starts k are below in
    let here : part ≡ shown_between margin infos (get_or starts k 0) (end_of n starts k) = this ∙ ap (λ (ps : List Shown). get_or ps k d) is ∙ shown_at margin n infos starts k d below in
    let len : part.len ≡ (shown_between margin infos (get_or starts k 0) (end_of n starts k)).len = ap (λ (p : Shown). p.len) here in
    omega (arith, e_is, len, w.0, shown_most margin infos (get_or starts k 0) (end_of n starts k))

-- ---- ranges of a list after a write to one range

pub kept : (a k : ℕ) (xs ys : List ℕ) (i m : ℕ) → m ≤ a → a ≤ length xs → slice_range (put_mid a k xs ys) i m ≡ slice_range xs i m
kept a k xs ys i m below within =
    between_is (put_mid a k xs ys) i m ∙ ap (drop i) (take-put_mid_below a k xs ys m below within) ∙ sym (between_is xs i m)

pub written : (a k : ℕ) (xs ys : List ℕ) (m : ℕ) → a ≤ length xs → length ys ≡ k → m ≤ k → slice_range (put_mid a k xs ys) a (a + m) ≡ take m ys
written a k xs ys m within size below =
    let zs : List ℕ = put_mid a k xs ys in
    let whole : take (a + k - a) (drop a zs) ≡ ys = between-put_mid a k xs ys (a + k) within (omega (arith, size)) in
    let e : a + m - a ≡ m = omega arith in
    let f : a + k - a ≡ k = omega arith in
    ap (λ j. take j (drop a zs)) e ∙ sym (take-take m k (drop a zs) below) ∙ ap (λ j. take m (take j (drop a zs))) (sym f) ∙ ap (take m) whole

pub length_range : {X : Type 0} (xs : List X) (s e : ℕ) → s ≤ e → e ≤ length xs → length (slice_range xs s e) ≡ e - s
length_range xs s e order within = length-take-le (e - s) (drop s xs) (omega (arith, length-drop s xs, order, within))

-- ---- one more line

-- The lists after the first k lines were written. From the start of the next line on, the levels are still
-- those of `old`.
pub record Showing (text : Text) (old : List ℕ) (extents : LineExtents) (k : ℕ) (levels ltov vtol chars : List ℕ) : Type 0 where
  pub so_far : AreShown text.rules.tables.now text.rules.options text.base text.characters.now old extents.starts k extents.shown levels ltov vtol chars
  pub k_within : k ≤ length extents.starts
  pub levels_len : length levels ≡ length text.characters.now
  pub ltov_len : length ltov ≡ length text.characters.now
  pub vtol_len : length vtol ≡ length text.characters.now
  pub chars_len : length chars ≡ length text.characters.now
  pub rest : k < length extents.starts → drop (get_or extents.starts k 0) levels ≡ drop (get_or extents.starts k 0) old

abbrev line_of : ℕ → ℕ → List ℕ → List ℕ → List ℕ → List ℕ → Line
line_of s c l t v h = record { start = s; columns = c; levels = l; ltov = t; vtol = v; chars = h }

length_put : {X : Type 0} (a k : ℕ) (xs ys : List X) → a ≤ length xs → length ys ≡ k → a + k ≤ length xs → length (put_mid a k xs ys) ≡ length xs
length_put a k xs ys within size below =
    length-append (take a xs) (ys ++ drop k (drop a xs))
    ∙ ap₂ ◌+◌ (length-take-le a xs within) (length-append ys (drop k (drop a xs)))
    ∙ omega (arith, size, below, length-drop k (drop a xs), length-drop a xs)

-- if two lists agree from an index on, they agree from any later index on
drop_later : (a b : ℕ) (xs ys : List ℕ) → a ≤ b → drop a xs ≡ drop a ys → drop b xs ≡ drop b ys
drop_later a b xs ys order same =
    let e : a + (b - a) ≡ b = omega (arith, order) in
    ap (λ n. drop n xs) (sym e) ∙ sym (drop-drop (b - a) a xs) ∙ ap (drop (b - a)) same ∙ drop-drop (b - a) a ys ∙ ap (λ n. drop n ys) e

same_line : (s c c2 : ℕ) (l t v h l2 t2 v2 h2 : List ℕ) → c ≡ c2 → l ≡ l2 → t ≡ t2 → v ≡ v2 → h ≡ h2 → line_of s c l t v h ≡ line_of s c2 l2 t2 v2 h2
same_line s c c2 l t v h l2 t2 v2 h2 a b d e f = rw (a, b, d, e, f) refl

module _ (tables : Tables) (options : Options) (base : ℕ) (text old : List ℕ) where
  -- writing to a range does not change a line that ends at or before the start of the range
  placed_still : (s e a k : ℕ) (part : Shown) (levels ltov vtol chars l t v h : List ℕ) → IsPlaced tables options base text old s e part levels ltov vtol chars
      → e ≤ a → a ≤ length levels → a ≤ length ltov → a ≤ length vtol → a ≤ length chars
      → IsPlaced tables options base text old s e part (put_mid a k levels l) (put_mid a k ltov t) (put_mid a k vtol v) (put_mid a k chars h)
  placed_still s e a k part levels ltov vtol chars l t v h is below wl wt wv wh =
      let m : ℕ = s + part.len in
      let before : m ≤ a = omega (arith, is.within, below) in
      let same_vtol : slice_range (put_mid a k vtol v) s m ≡ slice_range vtol s m = kept a k vtol v s m before wv in
      record {
        line_is = same_line s part.columns part.columns _ _ _ _ _ _ _ _ refl (kept a k levels l s m before wl) (kept a k ltov t s m before wt) same_vtol
            (kept a k chars h s m before wh) ∙ is.line_is;
        within = is.within;
        vtol_within = subst (λ (xs : List ℕ). AreWithin part.len xs) (sym same_vtol) is.vtol_within;
      }

  -- after a line is written to its range, the lists hold it there
  placed_now : (s e : ℕ) (part : Shown) (levels ltov vtol chars l t v h : List ℕ)
      → IsShown tables options base (slice_range (ends_by options text) s e) (slice_range text s e) (slice_range levels s e) part l t v h
      → s < e → e ≤ length text → length levels ≡ length text → length ltov ≡ length text → length vtol ≡ length text → length chars ≡ length text
      → length l ≡ e - s → length t ≡ e - s → length v ≡ e - s → length h ≡ e - s → drop s levels ≡ drop s old
      → IsPlaced tables options base text old s e part (put_mid s (e - s) levels l) (put_mid s (e - s) ltov t) (put_mid s (e - s) vtol v) (put_mid s (e - s) chars h)
  placed_now s e part levels ltov vtol chars l t v h is some within wl wt wv wh sl st sv sh rest =
      let m : ℕ = e - s in
      let n : ℕ = part.len in
      let line : List ℕ = slice_range text s e in
      let classes : List BidiClass = map (class_of tables) line in
      let ends : List Bool = slice_range (ends_by options text) s e in
      let size : length line ≡ m = length_range text s e (omega (arith, some)) within in
      let below : n ≤ m = omega (arith, is.within, size) in
      let whole : ℕ → List ℕ → List ℕ = λ (j : ℕ) (xs : List ℕ). take j (line_levels base (map (class_of tables) line) xs) in
      let levels_here : take n l ≡ whole n (slice_range old s e) = is.levels_are ∙ ap (whole n) (ap (take m) rest) in
      let vtol_here : slice_range (put_mid s m vtol v) s (s + n) ≡ take n v = written s m vtol v n (omega (arith, wv, within, some)) sv below in
      record {
        line_is = same_line s part.columns part.columns _ _ _ _ _ _ _ _
            refl
            (written s m levels l n (omega (arith, wl, within, some)) sl below ∙ levels_here)
            (written s m ltov t n (omega (arith, wt, within, some)) st below ∙ is.ltov_is ∙ ap (ltov_by options classes ends) levels_here)
            (vtol_here ∙ is.vtol_is ∙ ap (vtol_by options classes ends) levels_here)
            (written s m chars h n (omega (arith, wh, within, some)) sh below ∙ is.chars_are
            ∙ ap (λ (xs : List ℕ). visual_chars tables xs (take n line) (vtol_by options classes ends xs)) levels_here);
        within = omega (arith, below, some);
        vtol_within = subst (λ (xs : List ℕ). AreWithin n xs) (sym vtol_here) is.vtol_within;
      }

-- if the lists hold the first k lines, writing line k makes them hold the first k + 1
pub show_more : (text : Text) (old : List ℕ) (extents : LineExtents) (k : ℕ) (line : LineSlice) (levels ltov vtol chars l t v h : List ℕ)
    → AreStarts (length text.characters.now) extents.starts → k < length extents.starts → IsLineAt text extents k line
    → Showing text old extents k levels ltov vtol chars
    → IsShown line.text.rules.tables.now line.text.rules.options line.text.base line.text.ends.now line.text.characters.now (slice_range levels line.start line.end) line.shown l t v h
    → length l ≡ line.end - line.start → length t ≡ line.end - line.start → length v ≡ line.end - line.start → length h ≡ line.end - line.start
    → Showing text old extents (k + 1) (put_mid line.start (line.end - line.start) levels l) (put_mid line.start (line.end - line.start) ltov t)
    (put_mid line.start (line.end - line.start) vtol v) (put_mid line.start (line.end - line.start) chars h)
show_more text old extents k line levels ltov vtol chars l t v h are below at so is sl st sv sh =
    let tables = text.rules.tables.now in
    let options = text.rules.options in
    let base = text.base in
    let all : List ℕ = text.characters.now in
    let starts = extents.starts in
    let s : ℕ = line.start in
    let m : ℕ = line.end - s in
    let wl : s ≤ length levels = omega (arith, so.levels_len, at.order, at.within) in
    let wt : s ≤ length ltov = omega (arith, so.ltov_len, at.order, at.within) in
    let wv : s ≤ length vtol = omega (arith, so.vtol_len, at.order, at.within) in
    let wh : s ≤ length chars = omega (arith, so.chars_len, at.order, at.within) in
    let rest : drop s levels ≡ drop s old = rw at.start (so.rest below) in
    let now = placed_now tables options base all old s line.end line.shown levels ltov vtol chars l t v h
    (rw (sym at.ends, sym at.characters, sym at.rules, sym at.base) is) at.order at.within so.levels_len so.ltov_len so.vtol_len so.chars_len sl st sv sh rest in
    record {
      so_far = below_more (λ (j : ℕ). IsPlaced tables options base all old (get_or starts j 0) (end_of (length all) starts j) (get_or extents.shown j nothing_shown)
          (put_mid s m levels l) (put_mid s m ltov t) (put_mid s m vtol v) (put_mid s m chars h)) k
          (λ j h2. placed_still tables options base all old _ _ s m _ levels ltov vtol chars l t v h (so.so_far j h2)
          (omega (arith, at.start, ends_before (length all) starts j k are h2 below)) wl wt wv wh)
          (rw (sym at.start, sym at.end, sym at.shown) now);
      k_within = omega (arith, below);
      levels_len = length_put s m levels l wl sl (omega (arith, so.levels_len, at.order, at.within)) ∙ so.levels_len;
      ltov_len = length_put s m ltov t wt st (omega (arith, so.ltov_len, at.order, at.within)) ∙ so.ltov_len;
      vtol_len = length_put s m vtol v wv sv (omega (arith, so.vtol_len, at.order, at.within)) ∙ so.vtol_len;
      chars_len = length_put s m chars h wh sh (omega (arith, so.chars_len, at.order, at.within)) ∙ so.chars_len;
      rest = λ h2.
          let next : line.end ≡ get_or starts (k + 1) 0 = at.end ∙ sym (end_next (length all) starts k h2) in
          drop-put_mid s m levels l (get_or starts (k + 1) 0) (omega (arith, next, at.order)) wl sl
          ∙ drop_later s (get_or starts (k + 1) 0) levels old (omega (arith, next, at.order)) rest;
    }

-- the lists of a paragraph of one line hold this line
pub shown_alone : (tables : Tables) (options : Options) (base : ℕ) (text old : List ℕ) (part : Shown) (l t v h : List ℕ)
    → length old ≡ length text → slice_range (ends_by options text) 0 (length text) ≡ ends_by options text
    → IsShown tables options base (ends_by options text) text old part l t v h
    → AreShown tables options base text old (0 ∷ []) 1 (part ∷ []) l t v h
shown_alone tables options base text old part l t v h len ends_whole is (suc j) below = absurd (omega (arith, below))
shown_alone tables options base text old part l t v h len ends_whole is zero below =
    let n : ℕ = length text in
    let m : ℕ = part.len in
    let text_whole : slice_range text 0 n ≡ text = take_all (n - 0) text (omega arith) in
    let old_whole : slice_range old 0 n ≡ old = take_all (n - 0) old (omega (arith, len)) in
    let front : (xs : List ℕ) → slice_range xs 0 (0 + m) ≡ take m xs = λ (xs : List ℕ). ap (λ (k : ℕ). take k xs) (omega arith) in
    let levels_of : List ℕ → List ℕ → List ℕ = λ line levels. take m (line_levels base (map (class_of tables) line) levels) in
    let ltov_of : List ℕ → List Bool → List ℕ → List ℕ = λ line ends levels. ltov_by options (map (class_of tables) line) ends levels in
    let vtol_of : List ℕ → List Bool → List ℕ → List ℕ = λ line ends levels. vtol_by options (map (class_of tables) line) ends levels in
    let chars_of : List ℕ → List Bool → List ℕ → List ℕ = λ line ends levels. visual_chars tables levels (take m line) (vtol_of line ends levels) in
    let ends : List Bool = ends_by options text in
    let seen : List ℕ → List Bool → List ℕ → Line =
    λ line es levels. line_of 0 part.columns (levels_of line levels) (ltov_of line es (levels_of line levels)) (vtol_of line es (levels_of line levels)) (chars_of line es (levels_of line levels)) in
    record {
      line_is = same_line 0 part.columns part.columns _ _ _ _ _ _ _ _ refl (front l ∙ is.levels_are) (front t ∙ is.ltov_is ∙ ap (ltov_of text ends) is.levels_are)
          (front v ∙ is.vtol_is ∙ ap (vtol_of text ends) is.levels_are) (front h ∙ is.chars_are ∙ ap (chars_of text ends) is.levels_are)
          ∙ ap (λ (line : List ℕ). seen line ends old) (sym text_whole)
          ∙ ap (λ (es : List Bool). seen (slice_range text 0 n) es old) (sym ends_whole)
          ∙ ap (seen (slice_range text 0 n) (slice_range ends 0 n)) (sym old_whole);
      within = omega (arith, is.within);
      vtol_within = subst (λ (xs : List ℕ). AreWithin m xs) (sym (front v)) is.vtol_within;
    }

-- if levels, starts and shown parts are equal, the lists hold the same lines
pub shown_as : (tables : Tables) (options : Options) (base : ℕ) (text old seen starts seen_starts : List ℕ) (parts seen_parts : List Shown) {levels ltov vtol chars : List ℕ}
    → seen ≡ old → seen_starts ≡ starts → seen_parts ≡ parts
    → AreShown tables options base text seen seen_starts (length seen_starts) seen_parts levels ltov vtol chars
    → AreShown tables options base text old starts (length starts) parts levels ltov vtol chars
shown_as tables options base text old seen starts seen_starts parts seen_parts {levels} {ltov} {vtol} {chars} e f g is =
    subst (λ (ps : List Shown). AreShown tables options base text old starts (length starts) ps levels ltov vtol chars) g
    (subst (λ (ss : List ℕ). AreShown tables options base text old ss (length ss) seen_parts levels ltov vtol chars) f
    (subst (λ (xs : List ℕ). AreShown tables options base text xs seen_starts (length seen_starts) seen_parts levels ltov vtol chars) e is))

-- ---- all lines

pub length_lines : (levels ltov vtol chars starts : List ℕ) (parts : List Shown) → length parts ≡ length starts → length (lines_by levels ltov vtol chars starts parts) ≡ length starts
length_lines levels ltov vtol chars [] [] h = refl
length_lines levels ltov vtol chars [] (p ∷ parts) h = absurd (omega (arith, h))
length_lines levels ltov vtol chars (s ∷ starts) [] h = absurd (omega (arith, h))
length_lines levels ltov vtol chars (s ∷ starts) (p ∷ parts) h = ap suc (length_lines levels ltov vtol chars starts parts (omega (arith, h)))

line_at : (levels ltov vtol chars starts : List ℕ) (parts : List Shown) (j : ℕ) (d : Line) → length parts ≡ length starts → j < length starts
    → line_in levels ltov vtol chars (get_or starts j 0) (get_or parts j nothing_shown) ≡ get_or (lines_by levels ltov vtol chars starts parts) j d
line_at levels ltov vtol chars [] parts j d h below = absurd (omega (arith, below))
line_at levels ltov vtol chars (s ∷ starts) [] j d h below = absurd (omega (arith, h))
line_at levels ltov vtol chars (s ∷ starts) (p ∷ parts) zero d h below = refl
line_at levels ltov vtol chars (s ∷ starts) (p ∷ parts) (suc j) d h below = line_at levels ltov vtol chars starts parts j d (omega (arith, h)) (omega (arith, below))

-- if a property holds for the line at each index, it holds for all stored lines
all_lines : (P : Line → Type 0) (levels ltov vtol chars starts : List ℕ) (parts : List Shown) → length parts ≡ length starts
    → ((j : ℕ) → j < length starts → P (line_in levels ltov vtol chars (get_or starts j 0) (get_or parts j nothing_shown)))
    → All P (lines_by levels ltov vtol chars starts parts)
all_lines P levels ltov vtol chars starts parts h each = λ j d below.
    let within : j < length starts = omega (arith, below, length_lines levels ltov vtol chars starts parts h) in
    subst P (line_at levels ltov vtol chars starts parts j d h within) (each j within)

module _ (tables : Tables) (options : Options) (base : ℕ) (text old : List ℕ) where
  -- if each stored line equals the line that shows its characters, the two lists of lines are equal
  lines_are : (levels ltov vtol chars starts : List ℕ) (parts : List Shown) → length parts ≡ length starts
      → ((j : ℕ) → j < length starts
      → line_in levels ltov vtol chars (get_or starts j 0) (get_or parts j nothing_shown)
      ≡ line_showing tables options base text old (get_or parts j nothing_shown) (get_or starts j 0) (end_of (length text) starts j))
      → lines_by levels ltov vtol chars starts parts ≡ lines_shown tables options base text old starts parts
  lines_are levels ltov vtol chars [] parts same each = refl
  lines_are levels ltov vtol chars (s ∷ []) [] same each = absurd (omega (arith, same))
  lines_are levels ltov vtol chars (s ∷ t ∷ starts) [] same each = absurd (omega (arith, same))
  lines_are levels ltov vtol chars (s ∷ []) (part ∷ parts) same each = ap (λ (line : Line). line ∷ []) (each zero (omega arith))
  lines_are levels ltov vtol chars (s ∷ t ∷ starts) (part ∷ parts) same each =
      ap₂ ◌∷◌ (each zero (omega arith)) (lines_are levels ltov vtol chars (t ∷ starts) parts (omega (arith, same)) (λ j below. each (suc j) (omega (arith, below))))

  -- whether the lists hold all lines, with both position maps in one list
  abbrev AllShown : List ℕ → List ℕ → List ℕ → List ℕ → List Shown → Type 0
  AllShown levels maps chars starts parts =
      AreShown tables options base text old starts (length starts) parts levels (take (length levels) maps) (drop (length levels) maps) chars

  pub all_shown : (levels maps chars starts : List ℕ) (parts : List Shown) → length parts ≡ length starts → AllShown levels maps chars starts parts
      → lines_in starts parts levels maps chars ≡ lines_shown tables options base text old starts parts
  all_shown levels maps chars starts parts same each = lines_are levels _ _ chars starts parts same (λ j below. (each j below).line_is)

  -- there is one level for each character of a shown part
  length_part : (levels : List ℕ) (part : Shown) (s e : ℕ) → e ≤ length levels → s + part.len ≤ e → length (slice_range levels s (s + part.len)) ≡ part.len
  length_part levels part s e within below =
      length_range levels s (s + part.len) (omega arith) (omega (arith, within, below)) ∙ omega arith

  pub sound : (levels maps chars starts : List ℕ) (parts : List Shown) → AreStarts (length text) starts → length parts ≡ length starts
      → length levels ≡ length text → length maps ≡ 2 * length text → length chars ≡ length text
      → AllShown levels maps chars starts parts → IsSound starts parts levels maps chars
  sound levels maps chars starts parts are h wl wm wh each = record {
    all_shown = h;
    maps_len = omega (arith, wm, wl);
    chars_len = wh ∙ sym wl;
    places = all_lines (λ line. AreWithin (length line.levels) line.vtol) levels _ _ chars starts parts h
        (λ j below.
        let is = each j below in
        let w = end_within (length text) starts j are below in
        subst (λ (n : ℕ). AreWithin n (slice_range (drop (length levels) maps) (get_or starts j 0) (get_or starts j 0 + (get_or parts j nothing_shown).len)))
        (sym (length_part levels (get_or parts j nothing_shown) (get_or starts j 0) (end_of (length text) starts j) (omega (arith, w.1, wl)) is.within)) is.vtol_within);
    within = λ j below.
        let w = end_within (length text) starts j are below in
        omega (arith, (each j below).within, w.1, wl);
  }

  pub all_within : (levels maps chars starts : List ℕ) (parts : List Shown) → AreStarts (length text) starts → length parts ≡ length starts
      → length levels ≡ length text → AllShown levels maps chars starts parts → LinesAreWithin (length text) (lines_in starts parts levels maps chars)
  all_within levels maps chars starts parts are h wl each =
      all_lines (λ line. line.start + length line.levels ≤ length text) levels _ _ chars starts parts h
      (λ j below.
      let is = each j below in
      let w = end_within (length text) starts j are below in
      let size = length_part levels (get_or parts j nothing_shown) (get_or starts j 0) (end_of (length text) starts j) (omega (arith, w.1, wl)) is.within in
      omega (arith, size, is.within, w.1))
