-- The widths that a measured paragraph keeps for the characters of its lines.
use Rattle.std.proofs.Common.{◌≡◌, ◌∙◌, ℕ, zero, suc, ◌+◌, ◌-◌, ◌^◌, ◌<◌, ◌≤◌, nat_lt, Bool, List, [], ◌∷◌, ◌++◌, length, take, drop, get_or, set, sum, Option, None, Some, All, refl, sym, ap, ap₂, subst, inl, inr, arith}
use Rattle.std.proofs.Math.Seq.{drop-append_seam, take-append_seam}
use Rattle.std.proofs.lemmas.List.{append-nil, drop_all, drop_more, length-drop, length-take-le, take_all, take_more, take_more_set}
use Rattle.std.proofs.lemmas.List.Elements.{All-cons, All-get_or, All-head, All-nil, All-push, All-tail}
use Rattle.std.proofs.lemmas.Option.{get_or_from_slice_get, slice_get_within}
use Rattle.std.proofs.lemmas.Bool.{cases_Bool, cond-false, cond-true, lt-ltb}
use borrow.Rule.Slice.PartMut.{put_mid, same_len_mid}
use Rattle.std.specs.Prelude.{slice_get}
use Rattle.lines.specs.Columns.{width_at, widths}
use Rattle.lines.specs.Measures.{given_if, kept_advances, kept_len, kept_widths, known_or, on_line, AreWidthsOf, FollowFrom, KeepsSizes}
use Rattle.lines.specs.Tabs.{is_tab, to_stop}
use Rattle.lines.specs.Visual.{Line, Visual}
use Rattle.lines.specs.Widths.{advances_on, width_from, widths_from, widths_of}
use Rattle.lines.proofs.ShowLemmas.{kept, length_range, written}
use Rattle.lines.proofs.WidthLemmas.{length-advances_on, length-widths_of, width_is}

-- ---- one line

-- the advances of the characters of a text are the items of the list at their indices
pub advance_at : (advances text : List ℕ) (k : ℕ) → k < length text → get_or (advances_on advances text) k 0 ≡ get_or advances k 0
advance_at advances [] k within = absurd (omega (arith, within))
advance_at [] (c ∷ text) zero within = refl
advance_at [] (c ∷ text) (suc k) within = advance_at [] text k (omega (arith, within))
advance_at (size ∷ advances) (c ∷ text) zero within = refl
advance_at (size ∷ advances) (c ∷ text) (suc k) within = advance_at advances text k (omega (arith, within))

-- the width of a character depends on its advance and on the sum of the widths before it
pub width_measured : (n k : ℕ) (advances text : List ℕ) → k < length text
    → get_or (widths_of n (Some advances) text) k 0 ≡ width_from n (sum (take k (widths_of n (Some advances) text))) (get_or text k 0) (get_or advances k 0)
width_measured n k advances text within =
    width_is n k (Some advances) text within
    ∙ ap (width_from n (sum (take k (widths_of n (Some advances) text))) (get_or text k 0)) (advance_at advances text k within)

-- a character is no wider than its advance
pub width_most : (n column c size : ℕ) → width_from n column c size ≤ size
width_most n column c size =
    elim (cases_Bool (is_tab n c)) [
      | inl tab ↦ omega (arith, cond-true (is_tab n c) (to_stop size column) size tab)
      | inr other ↦ omega (arith, cond-false (is_tab n c) (to_stop size column) size other)
    ]

-- without tab stops, the widths are the advances
advances_are : (advances text : List ℕ) → length advances ≡ length text → advances_on advances text ≡ advances
advances_are [] [] same = refl
advances_are [] (c ∷ text) same = absurd (omega (arith, same))
advances_are (size ∷ advances) [] same = absurd (omega (arith, same))
advances_are (size ∷ advances) (c ∷ text) same = ap (λ xs. size ∷ xs) (advances_are advances text (omega (arith, same)))

untabbed_from : (column : ℕ) (text sizes : List ℕ) → length sizes ≡ length text → widths_from 0 column text sizes ≡ sizes
untabbed_from column [] [] same = refl
untabbed_from column [] (size ∷ sizes) same = absurd (omega (arith, same))
untabbed_from column (c ∷ text) [] same = absurd (omega (arith, same))
untabbed_from column (c ∷ text) (size ∷ sizes) same = ap (λ xs. size ∷ xs) (untabbed_from (column + size) text sizes (omega (arith, same)))

untabbed : (advances text : List ℕ) → length advances ≡ length text → widths_of 0 (Some advances) text ≡ advances
unfolding widths_of
untabbed advances text same =
    untabbed_from 0 text (advances_on advances text) (length-advances_on advances text) ∙ advances_are advances text same

pub untabbed_lines : (advances text : List ℕ) (lines : List Line) → length advances ≡ length text → All (λ line. line.start + length line.levels ≤ length text) lines
    → AreWidthsOf 0 text advances advances lines
untabbed_lines advances text [] same within = All-nil (λ line. on_line line advances ≡ widths_of 0 (Some (on_line line advances)) (on_line line text))
untabbed_lines advances text (line ∷ lines) same within =
    let p : Line → Type 0 = λ line. on_line line advances ≡ widths_of 0 (Some (on_line line advances)) (on_line line text) in
    let here : line.start + length line.levels ≤ length text = All-head (λ (l : Line). l.start + length l.levels ≤ length text) line lines within in
    let sizes : length (on_line line advances) ≡ length (on_line line text) =
    length_range advances line.start (line.start + length line.levels) (omega arith) (omega (arith, same, here))
    ∙ sym (length_range text line.start (line.start + length line.levels) (omega arith) here) in
    All-cons p line lines (sym (untabbed (on_line line advances) (on_line line text) sizes))
    (untabbed_lines advances text lines same (All-tail (λ (l : Line). l.start + length l.levels ≤ length text) line lines within))

-- writing item k of a list after its first k items completes its first k + 1 items
pub next_written : (are written : List ℕ) (k width : ℕ) → k < length written → k < length are → take k written ≡ take k are → width ≡ get_or are k 0
    → take (k + 1) (set written k width) ≡ take (k + 1) are
next_written are written k width below inside so_far is =
    take_more_set written k width below ∙ ap₂ (λ (xs : List ℕ) x. xs ++ x ∷ []) so_far is ∙ sym (take_more are k 0 inside)

-- the width that is read from the known widths, if there are any, is the width of the character
pub known_width : (known : Option (List ℕ)) {line same : Visual} (k : ℕ) {v : ℕ} → line ≡ same → known_or known (widths_of same.tab_width None same.text) ≡ widths same
    → v ≡ get_or (known_or known (widths_of line.tab_width None line.text)) k 0 → v ≡ width_at same k
known_width known {line} {same} k {v} e are is =
    is ∙ ap (λ (l : Visual). get_or (known_or known (widths_of l.tab_width None l.text)) k 0) e ∙ ap (λ (ws : List ℕ). get_or ws k 0) are

-- ---- line after line

-- the state after the widths of the first n lines have been written
pub record AreWritten (tab_width : ℕ) (text advances : List ℕ) (lines : List Line) (n : ℕ) (widths : List ℕ) : Type 0 where
  pub low : ℕ
  pub ended : All (λ line. line.start + length line.levels ≤ low) (take n lines)
  pub rest : FollowFrom low (drop n lines)
  pub done : AreWidthsOf tab_width text advances widths (take n lines)
  pub size : length widths ≡ length text

pub none_written : (tab_width : ℕ) (text advances : List ℕ) (lines : List Line) (widths : List ℕ) → FollowFrom 0 lines → length widths ≡ length text
    → AreWritten tab_width text advances lines 0 widths
none_written tab_width text advances lines widths follow size = record {
  low = 0;
  ended = All-nil (λ (line : Line). line.start + length line.levels ≤ 0);
  rest = follow;
  done = All-nil (λ (line : Line). on_line line widths ≡ widths_of tab_width (Some (on_line line advances)) (on_line line text));
  size = size;
}

-- a write after the ends of lines leaves their widths unchanged
still_widths : (tab_width low a m : ℕ) (text advances widths piece : List ℕ) (lines : List Line) → All (λ line. line.start + length line.levels ≤ low) lines → low ≤ a → a ≤ length widths
    → AreWidthsOf tab_width text advances widths lines → AreWidthsOf tab_width text advances (put_mid a m widths piece) lines
still_widths tab_width low a m text advances widths piece [] ended after within done =
    All-nil (λ (line : Line). on_line line (put_mid a m widths piece) ≡ widths_of tab_width (Some (on_line line advances)) (on_line line text))
still_widths tab_width low a m text advances widths piece (line ∷ lines) ended after within done =
    let old : Line → Type 0 = λ line. on_line line widths ≡ widths_of tab_width (Some (on_line line advances)) (on_line line text) in
    let new : Line → Type 0 = λ line. on_line line (put_mid a m widths piece) ≡ widths_of tab_width (Some (on_line line advances)) (on_line line text) in
    let ends : Line → Type 0 = λ line. line.start + length line.levels ≤ low in
    All-cons new line lines
    (kept a m widths piece line.start (line.start + length line.levels) (omega (arith, All-head ends line lines ended, after)) within ∙ All-head old line lines done)
    (still_widths tab_width low a m text advances widths piece lines (All-tail ends line lines ended) after within (All-tail old line lines done))

ends_rise : (low high : ℕ) (lines : List Line) → low ≤ high → All (λ line. line.start + length line.levels ≤ low) lines → All (λ line. line.start + length line.levels ≤ high) lines
ends_rise low high [] less ended = All-nil (λ (line : Line). line.start + length line.levels ≤ high)
ends_rise low high (line ∷ lines) less ended =
    let ends : Line → Type 0 = λ line. line.start + length line.levels ≤ low in
    All-cons (λ (line : Line). line.start + length line.levels ≤ high) line lines (omega (arith, All-head ends line lines ended, less))
    (ends_rise low high lines less (All-tail ends line lines ended))

pub one_written : (tab_width n : ℕ) (text advances widths piece : List ℕ) (lines : List Line) (line : Line) → AreWritten tab_width text advances lines n widths
    → slice_get lines n ≡ Some line → line.start + length line.levels ≤ length text
    → piece ≡ widths_of tab_width (Some (on_line line advances)) (on_line line text)
    → AreWritten tab_width text advances lines (n + 1) (put_mid line.start (line.start + length line.levels - line.start) widths piece)
one_written tab_width n text advances widths piece lines line so_far here within is =
    let a : ℕ = line.start in
    let m : ℕ = length line.levels in
    let k : a + m - a ≡ m = omega arith in
    let below : n < length lines = slice_get_within lines n line here in
    let at : get_or lines n line ≡ line = get_or_from_slice_get lines n line line here in
    let next : drop n lines ≡ line ∷ drop (n + 1) lines = drop_more lines n line below ∙ ap (λ (l : Line). l ∷ drop (n + 1) lines) at in
    let more : take (n + 1) lines ≡ take n lines ++ line ∷ [] = take_more lines n line below ∙ ap (λ (l : Line). take n lines ++ l ∷ []) at in
    let follow : FollowFrom so_far.low (line ∷ drop (n + 1) lines) = subst (FollowFrom so_far.low) next so_far.rest in
    let inside : a ≤ length widths = omega (arith, within, so_far.size) in
    let text_size : length (on_line line text) ≡ m = length_range text a (a + m) (omega arith) within ∙ k in
    let piece_size : length piece ≡ m = ap length is ∙ length-widths_of tab_width (Some (on_line line advances)) (on_line line text) ∙ text_size in
    let new : List ℕ = put_mid a (a + m - a) widths piece in
    let ends : Line → Type 0 = λ (l : Line). l.start + length l.levels ≤ a + m in
    let widths_are : Line → Type 0 = λ (l : Line). on_line l new ≡ widths_of tab_width (Some (on_line l advances)) (on_line l text) in
    record {
      low = a + m;
      ended = subst (All ends) (sym more)
          (All-push ends (take n lines) line (ends_rise so_far.low (a + m) (take n lines) (omega (arith, follow.0)) so_far.ended) (omega arith));
      rest = follow.1;
      done = subst (All widths_are) (sym more)
          (All-push widths_are (take n lines) line
          (still_widths tab_width so_far.low a (a + m - a) text advances widths piece (take n lines) so_far.ended follow.0 inside so_far.done)
          (written a (a + m - a) widths piece m inside (piece_size ∙ sym k) (omega (arith, k)) ∙ take_all m piece (omega (arith, piece_size)) ∙ is));
      size = same_len_mid a (a + m - a) widths piece
          (piece_size ∙ sym k ∙ sym (length-take-le (a + m - a) (drop a widths) (omega (arith, length-drop a widths, within, so_far.size)))) ∙ so_far.size;
    }

pub all_written : (tab_width n : ℕ) (text advances widths : List ℕ) (lines : List Line) → AreWritten tab_width text advances lines n widths → length lines ≤ n
    → AreWidthsOf tab_width text advances widths lines
all_written tab_width n text advances widths lines so_far past =
    subst (AreWidthsOf tab_width text advances widths) (take_all n lines past) so_far.done

-- without tab stops, a paragraph keeps the widths of its characters in the first part of its list
pub kept_untabbed : (tab_width : ℕ) (text sizes : List ℕ) (lines : List Line) → tab_width ≡ 0 → length text ≤ length sizes → All (λ line. line.start + length line.levels ≤ length text) lines
    → AreWidthsOf tab_width text (take (length text) sizes) (kept_widths tab_width text sizes) lines
kept_untabbed tab_width text sizes lines none within inside =
    rw none (untabbed_lines (take (length text) sizes) text lines (length-take-le (length text) sizes within) inside)

-- with tab stops, a paragraph keeps these widths after the advances
pub kept_tabbed : (tab_width : ℕ) (text sizes advances widths rest : List ℕ) (lines : List Line) → 0 < tab_width → sizes ≡ advances ++ (widths ++ rest) → length advances ≡ length text
    → length widths ≡ length text → AreWidthsOf tab_width text advances widths lines
    → AreWidthsOf tab_width text (take (length text) sizes) (kept_widths tab_width text sizes) lines
kept_tabbed tab_width text sizes advances widths rest lines some parts front size are =
    let first : take (length text) sizes ≡ advances = ap₂ take (sym front) parts ∙ take-append_seam advances (widths ++ rest) in
    let second : drop (length text) sizes ≡ widths ++ rest = ap₂ drop (sym front) parts ∙ drop-append_seam advances (widths ++ rest) in
    let last : kept_widths tab_width text sizes ≡ widths =
    ap (take (length text)) (cond-true (nat_lt 0 tab_width) (drop (length text) sizes) sizes (lt-ltb 0 tab_width some) ∙ second)
    ∙ ap (λ n. take n (widths ++ rest)) (sym size) ∙ take-append_seam widths rest in
    subst (λ (xs : List ℕ). AreWidthsOf tab_width text xs (kept_widths tab_width text sizes) lines) (sym first)
    (subst (λ (xs : List ℕ). AreWidthsOf tab_width text advances xs lines) (sym last) are)

-- if the shown parts of all lines are inside the first n characters, so is the shown part of line k
pub line_inside : (n k : ℕ) (lines : List Line) (line : Line) → slice_get lines k ≡ Some line → All (λ l. l.start + length l.levels ≤ n) lines → line.start + length line.levels ≤ n
line_inside n k lines line here inside =
    let p : Line → Type 0 = λ (l : Line). l.start + length l.levels ≤ n in
    subst p (get_or_from_slice_get lines k line line here) (All-get_or p lines k line (slice_get_within lines k line here) inside)

-- if new items replace all items of a list, the list consists of the new items
pub whole_items : (len : ℕ) (new old : List ℕ) → length new ≡ length old → len ≡ length old → take len (new ++ drop (length new) old) ≡ new
whole_items len new old same size =
    ap (λ (xs : List ℕ). take len (new ++ xs)) (drop_all (length new) old (omega (arith, same))) ∙ ap (take len) (append-nil new) ∙ take_all len new (omega (arith, same, size))

-- if correct widths are written and the advances are unchanged, the stored sizes of a paragraph are still
-- correct
pub sizes_kept : (tab_width : ℕ) (text old new : List ℕ) (lines : List Line) → kept_len tab_width text ≤ length old → sum (take (length text) old) < 2 ^ 32
    → take (length text) new ≡ take (length text) old → length new ≡ length old
    → AreWidthsOf tab_width text (take (length text) new) (kept_widths tab_width text new) lines → KeepsSizes tab_width text new lines
sizes_kept tab_width text old new lines len room front size widths = record {
  len = omega (arith, len, size);
  room = subst (λ (xs : List ℕ). sum xs < 2 ^ 32) (sym front) room;
  widths = widths;
}

-- the same holds for copies of the text and of the list that equal the originals
pub sizes_after : (tab_width len : ℕ) (text seen old found new : List ℕ) (lines : List Line) → seen ≡ text → found ≡ old → len ≡ length old
    → kept_len tab_width text ≤ length old → sum (take (length text) old) < 2 ^ 32
    → take (length seen) new ≡ take (length seen) found → length new ≡ length found
    → AreWidthsOf tab_width seen (take (length seen) new) (kept_widths tab_width seen new) lines
    → KeepsSizes tab_width text (take len (new ++ drop (length new) old)) lines
sizes_after tab_width len text seen old found new lines e f g room few front size widths =
    let same : length new ≡ length old = size ∙ ap length f in
    subst (λ (xs : List ℕ). KeepsSizes tab_width text xs lines) (sym (whole_items len new old same g))
    (sizes_kept tab_width text old new lines room few
    (subst (λ (t : List ℕ). take (length t) new ≡ take (length t) found) e front ∙ ap (take (length text)) f) same
    (subst (λ (t : List ℕ). AreWidthsOf tab_width t (take (length t) new) (kept_widths tab_width t new) lines) e widths))

-- if a write leaves the advances at the front of the list unchanged, the paragraph keeps its advances
pub advances_stay : (is_measured : Bool) (len : ℕ) (text seen old found new : List ℕ) → seen ≡ text → found ≡ old → len ≡ length old
    → take (length seen) new ≡ take (length seen) found → length new ≡ length found
    → kept_advances is_measured text (take len (new ++ drop (length new) old)) ≡ kept_advances is_measured text old
advances_stay is_measured len text seen old found new e f g front size =
    ap (kept_advances is_measured text) (whole_items len new old (size ∙ ap length f) g)
    ∙ ap (given_if is_measured) (subst (λ (t : List ℕ). take (length t) new ≡ take (length t) found) e front ∙ ap (take (length text)) f)
