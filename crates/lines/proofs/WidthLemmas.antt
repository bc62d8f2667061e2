-- The columns of each character of a line.
use Rattle.std.proofs.Common.{◌≡◌, ◌≢◌, ◌∙◌, ℕ, zero, suc, ◌+◌, ◌-◌, ◌*◌, ◌/◌, ◌%◌, ◌<◌, ◌≤◌, ◌==◌, nat_lt, Bool, true, false}
use Rattle.std.proofs.Common.{List, [], ◌∷◌, length, map, take, drop, get_or, sum, Option, None, Some, refl, sym, ap, subst, inl, inr, arith}
use Rattle.std.specs.Prelude.{fold, min, option_map, slice_range}
use Rattle.std.proofs.Math.Nat.{add-mod_right, add-mul-mod_self_right, mod-add-div', mul-mod_left}
use Rattle.std.proofs.lemmas.Bool.{and_from, and_parts, and_right, cases_Bool, cases_lt, cond-false, cond-true, eq-eqb, lt-ltb, ltb-true, ne_eqb}
use Rattle.std.proofs.lemmas.List.{drop_all, get_or-map, length-drop, length-map, take_all}
use Rattle.std.proofs.lemmas.List.Sums.{sum_by-cons, sum_by_more}
use Rattle.std.proofs.lemmas.Nat.{mod_below}
use Rattle.breaks.specs.Bases.{resolved}
use Rattle.breaks.specs.Classes.{is_one_of}
use Rattle.breaks.specs.declared.mark.Mark.{Mark}
use Rattle.ucd.specs.Tables.{line_class_of, is_mark_in}
use Rattle.ucd.specs.declared.line_class.LineClass.{LineClass}
use Rattle.ucd.specs.declared.line_class.LineClass.TheVariants.{BK, CR, LF, NL, SP}
use Rattle.ucd.specs.declared.tables.Tables.{Tables}
use Rattle.lines.specs.CharInfos.{advance, columns_of, info, infos, measured, moves, size_in, sized, trailing_by}
use Rattle.lines.specs.Columns.{widths}
use Rattle.lines.specs.Tabs.{is_tab, to_stop}
use Rattle.lines.specs.Visual.{Visual}
use Rattle.lines.specs.Widths.{advances_on, sizes_of, width_from, widths_from, widths_of}
use Rattle.lines.specs.declared.char_info.CharInfo.{CharInfo}

-- ---- lists of widths

pub length-advances_on : (advances text : List ℕ) → length (advances_on advances text) ≡ length text
length-advances_on advances [] = refl
length-advances_on [] (c ∷ text) = ap suc (length-advances_on [] text)
length-advances_on (size ∷ advances) (c ∷ text) = ap suc (length-advances_on advances text)

pub length-sizes : (n : ℕ) (advances : Option (List ℕ)) (text : List ℕ) → length (sizes_of n advances text) ≡ length text
length-sizes n None text = length-map text (size_in n)
length-sizes n (Some advances) text = length-advances_on advances text

from_length : (n column : ℕ) (text sizes : List ℕ) → length sizes ≡ length text → length (widths_from n column text sizes) ≡ length text
from_length n column [] sizes same = refl
from_length n column (c ∷ text) [] same = absurd (omega (arith, same))
from_length n column (c ∷ text) (size ∷ sizes) same = ap suc (from_length n (column + width_from n column c size) text sizes (omega (arith, same)))

pub length-widths_of : (n : ℕ) (advances : Option (List ℕ)) (text : List ℕ) → length (widths_of n advances text) ≡ length text
unfolding widths_of
length-widths_of n advances text = from_length n 0 text (sizes_of n advances text) (length-sizes n advances text)

-- each shown character has a width
pub length-widths : (line : Visual) → length (widths line) ≡ length line.text
length-widths line = length-widths_of line.tab_width line.advances line.text

-- a character starts where the characters before it end
from_at : (n column k : ℕ) (text sizes : List ℕ) → length sizes ≡ length text → k < length text
    → get_or (widths_from n column text sizes) k 0
    ≡ width_from n (column + sum (take k (widths_from n column text sizes))) (get_or text k 0) (get_or sizes k 0)
from_at n column k [] sizes same within = absurd (omega (arith, within))
from_at n column k (c ∷ text) [] same within = absurd (omega (arith, same))
from_at n column zero (c ∷ text) (size ∷ sizes) same within =
    let e : column ≡ column + 0 = omega arith in
    ap (λ m. width_from n m c size) e
from_at n column (suc k) (c ∷ text) (size ∷ sizes) same within =
    let w : ℕ = width_from n column c size in
    let rest : List ℕ = take k (widths_from n (column + w) text sizes) in
    let e : column + w + sum rest ≡ column + sum (w ∷ rest) = omega (arith, sum_by-cons (λ x. x) w rest) in
    from_at n (column + w) k text sizes (omega (arith, same)) (omega (arith, within)) ∙ ap (λ m. width_from n m (get_or text k 0) (get_or sizes k 0)) e

pub width_is : (n k : ℕ) (advances : Option (List ℕ)) (text : List ℕ) → k < length text
    → get_or (widths_of n advances text) k 0
    ≡ width_from n (sum (take k (widths_of n advances text))) (get_or text k 0) (get_or (sizes_of n advances text) k 0)
unfolding widths_of
width_is n k advances text within =
    let sizes : List ℕ = sizes_of n advances text in
    let e : 0 + sum (take k (widths_from n 0 text sizes)) ≡ sum (take k (widths_from n 0 text sizes)) = omega arith in
    from_at n 0 k text sizes (length-sizes n advances text) within ∙ ap (λ m. width_from n m (get_or text k 0) (get_or sizes k 0)) e

-- the size of a character of a paragraph that is not measured depends only on this character
pub size_is : (n k : ℕ) (text : List ℕ) → k < length text → get_or (sizes_of n None text) k 0 ≡ size_in n (get_or text k 0)
size_is n k text within = get_or-map (size_in n) text k 0 0 within

-- in such a paragraph, the width of a character that is not a tab is its columns, and the size of a tab is
-- the tab width
pub width_plain : (n k : ℕ) (text : List ℕ) → k < length text → is_tab n (get_or text k 0) ≡ false → get_or (widths_of n None text) k 0 ≡ columns_of (get_or text k 0)
width_plain n k text within plain =
    width_is n k None text within
    ∙ cond-false (is_tab n (get_or text k 0)) (to_stop (get_or (sizes_of n None text) k 0) (sum (take k (widths_of n None text)))) (get_or (sizes_of n None text) k 0) plain
    ∙ size_is n k text within
    ∙ cond-false (is_tab n (get_or text k 0)) n (columns_of (get_or text k 0)) plain

pub tab_size : (n k : ℕ) (text : List ℕ) → k < length text → is_tab n (get_or text k 0) ≡ true → get_or (sizes_of n None text) k 0 ≡ n
tab_size n k text within tab = size_is n k text within ∙ cond-true (is_tab n (get_or text k 0)) n (columns_of (get_or text k 0)) tab

pub tab_wide : (n c : ℕ) → is_tab n c ≡ true → 0 < n
tab_wide n c tab = ltb-true 0 n (and_parts (nat_lt 0 n) (c == 9) tab).0

pub width_tab : (n k : ℕ) (advances : Option (List ℕ)) (text : List ℕ) → k < length text → is_tab n (get_or text k 0) ≡ true
    → get_or (widths_of n advances text) k 0 ≡ to_stop (get_or (sizes_of n advances text) k 0) (sum (take k (widths_of n advances text)))
width_tab n k advances text within tab =
    let size : ℕ = get_or (sizes_of n advances text) k 0 in
    width_is n k advances text within
    ∙ cond-true (is_tab n (get_or text k 0)) (to_stop size (sum (take k (widths_of n advances text)))) size tab

-- the columns up to the end of character k are those before it, plus its own
pub sum_next : (n k : ℕ) (advances : Option (List ℕ)) (text : List ℕ) → k < length text
    → sum (take (k + 1) (widths_of n advances text)) ≡ sum (take k (widths_of n advances text)) + get_or (widths_of n advances text) k 0
sum_next n k advances text within = sum_by_more (λ x. x) (widths_of n advances text) k 0 (omega (arith, within, length-widths_of n advances text))

-- ---- tab stops

-- a tab ends at a tab stop
pub stop_ends : (n column : ℕ) → 0 < n → (column + to_stop n column) % n ≡ 0
stop_ends n column some =
    let m : ℕ = column / n * n in
    let e : column + to_stop n column ≡ m + n = omega (arith, mod-add-div' column n, mod_below column n some) in
    ap (λ x. x % n) e ∙ add-mod_right m n ∙ mul-mod_left (column / n) n

pub tab_ends : (n k : ℕ) (advances : Option (List ℕ)) (text : List ℕ) → k < length text → 0 < get_or (sizes_of n advances text) k 0 → is_tab n (get_or text k 0) ≡ true
    → sum (take (k + 1) (widths_of n advances text)) % get_or (sizes_of n advances text) k 0 ≡ 0
tab_ends n k advances text within some tab =
    let size : ℕ = get_or (sizes_of n advances text) k 0 in
    let before : ℕ = sum (take k (widths_of n advances text)) in
    ap (λ x. x % size) (sum_next n k advances text within ∙ ap (λ w. before + w) (width_tab n k advances text within tab)) ∙ stop_ends size before some

-- counting columns from a tab stop gives the same remainder as counting them from the start
past_stop : (n columns stop : ℕ) → stop % n ≡ 0 → columns % n ≡ (columns + stop) % n
past_stop n columns stop at =
    let e : columns + stop / n * n ≡ columns + stop = omega (arith, mod-add-div' stop n, at) in
    sym (add-mul-mod_self_right columns (stop / n) n) ∙ ap (λ x. x % n) e

-- ---- the columns since the last tab stop

-- whether `columns` are the columns of the characters from `start` up to k
pub record AreSince (text : List ℕ) (k start columns : ℕ) : Type 0 where
  pub within : start ≤ k
  pub few : columns ≤ 3 * (k - start)
  pub are : (n : ℕ) → columns + sum (take start (widths_of n None text)) ≡ sum (take k (widths_of n None text))

pub since_more : (text : List ℕ) (k start columns c w : ℕ) → k ≤ length text → AreSince text k start columns → 0 < start → c ≡ get_or text (start - 1) 0 → c ≢ 9
    → w ≡ columns_of c → w ≤ 3 → AreSince text k (start - 1) (columns + w)
since_more text k start columns c w within since some here plain is few = record {
  within = omega (arith, since.within);
  few = omega (arith, since.few, since.within, few, some);
  are = λ n.
      let before : start - 1 + 1 ≡ start = omega (arith, some) in
      let short : start - 1 < length text = omega (arith, some, since.within, within) in
      let not_tab : is_tab n (get_or text (start - 1) 0) ≡ false = ap (is_tab n) (sym here) ∙ and_right (nat_lt 0 n) (c == 9) (ne_eqb c 9 plain) in
      let one : get_or (widths_of n None text) (start - 1) 0 ≡ w = width_plain n (start - 1) text short not_tab ∙ ap columns_of (sym here) ∙ sym is in
      omega (arith, since.are n, sum_next n (start - 1) None text short, one, ap (λ i. sum (take i (widths_of n None text))) before);
}

pub since_start : (text : List ℕ) (k start columns : ℕ) → AreSince text k start columns → start ≡ 0 → (n : ℕ) → columns % n ≡ sum (take k (widths_of n None text)) % n
since_start text k start columns since first n =
    let none : sum (take start (widths_of n None text)) ≡ 0 = ap (λ i. sum (take i (widths_of n None text))) first in
    ap (λ x. x % n) (omega (arith, since.are n, none))

pub since_tab : (text : List ℕ) (k start columns : ℕ) → k ≤ length text → AreSince text k start columns → 0 < start → get_or text (start - 1) 0 ≡ 9
    → (n : ℕ) → 0 < n → columns % n ≡ sum (take k (widths_of n None text)) % n
since_tab text k start columns within since some tab n wide =
    let before : start - 1 + 1 ≡ start = omega (arith, some) in
    let is : is_tab n (get_or text (start - 1) 0) ≡ true =
    and_from (nat_lt 0 n) (get_or text (start - 1) 0 == 9) (lt-ltb 0 n wide) (eq-eqb (get_or text (start - 1) 0) 9 tab) in
    let short : start - 1 < length text = omega (arith, some, since.within, within) in
    let size : get_or (sizes_of n None text) (start - 1) 0 ≡ n = tab_size n (start - 1) text short is in
    let ends : sum (take (start - 1 + 1) (widths_of n None text)) % n ≡ 0 =
    ap (λ m. sum (take (start - 1 + 1) (widths_of n None text)) % m) (sym size) ∙ tab_ends n (start - 1) None text short (omega (arith, size, wide)) is in
    let stops : sum (take start (widths_of n None text)) % n ≡ 0 = subst (λ i. sum (take i (widths_of n None text)) % n ≡ 0) before ends in
    past_stop n columns (sum (take start (widths_of n None text))) stops ∙ ap (λ x. x % n) (since.are n)

-- ---- `CharInfo`s

stays : (class : LineClass) → moves (trailing_by class) ≡ false
stays class =
    elim (cases_Bool (is_one_of (SP ∷ []) class)) [
      | inl space ↦ rw space refl
      | inr other ↦ rw other (elim (cases_Bool (is_one_of (BK ∷ CR ∷ LF ∷ NL ∷ []) class)) [ inl y ↦ rw y refl | inr y ↦ rw y refl ])
    ]

pub advance_info : (t : Tables) (n column c : ℕ) (mark : Mark) (ends : Bool) → advance column (info t n c mark ends) ≡ column + width_from n column c (size_in n c)
advance_info t n column c mark ends =
    elim (cases_Bool (is_tab n c)) [
      | inl tab ↦ rw tab refl
      | inr other ↦ rw other (rw (stays (resolved (line_class_of t c) (is_mark_in t c))) refl)
    ]

-- the same holds with an advance in place of the columns
pub advance_measured : (t : Tables) (n column c size : ℕ) (mark : Mark) (ends : Bool)
    → advance column (record (info t n c mark ends) { columns = size }) ≡ column + width_from n column c size
advance_measured t n column c size mark ends =
    elim (cases_Bool (is_tab n c)) [
      | inl tab ↦ rw tab refl
      | inr other ↦ rw other (rw (stays (resolved (line_class_of t c) (is_mark_in t c))) refl)
    ]

-- replacing columns with advances does not change the number of `CharInfo`s
pub length-measured : (advances : List ℕ) (ps : List CharInfo) → length (measured advances ps) ≡ length ps
length-measured advances [] = refl
length-measured [] (p ∷ ps) = ap suc (length-measured [] ps)
length-measured (size ∷ advances) (p ∷ ps) = ap suc (length-measured advances ps)

pub length-sized : (advances : Option (List ℕ)) (ps : List CharInfo) → length (sized advances ps) ≡ length ps
length-sized None ps = refl
length-sized (Some advances) ps = length-measured advances ps

-- the columns of characters are those of their `CharInfo`s
from_plain : (t : Tables) (n column : ℕ) (text : List ℕ) (marks : List Mark) (clusters : List Bool) (s p : ℕ) → length marks ≡ length text → length clusters ≡ length text
    → fold advance column (take p (drop s (infos t n text marks clusters))) ≡ column + sum (widths_from n column (take p (drop s text)) (map (size_in n) (take p (drop s text))))
from_plain t n column [] marks clusters zero zero one other = omega arith
from_plain t n column [] marks clusters zero (suc p) one other = omega arith
from_plain t n column [] marks clusters (suc s) zero one other = omega arith
from_plain t n column [] marks clusters (suc s) (suc p) one other = omega arith
from_plain t n column (c ∷ text) [] clusters s p one other = absurd (omega (arith, one))
from_plain t n column (c ∷ text) (mark ∷ marks) [] s p one other = absurd (omega (arith, other))
from_plain t n column (c ∷ text) (mark ∷ marks) (ends ∷ clusters) zero zero one other = omega arith
from_plain t n column (c ∷ text) (mark ∷ marks) (ends ∷ clusters) zero (suc p) one other =
    let w : ℕ = width_from n column c (size_in n c) in
    let rest : List ℕ = widths_from n (column + w) (take p text) (map (size_in n) (take p text)) in
    let parted : column + w + sum rest ≡ column + sum (w ∷ rest) = omega (arith, sum_by-cons (λ x. x) w rest) in
    from_plain t n (advance column (info t n c mark ends)) text marks clusters zero p (omega (arith, one)) (omega (arith, other))
    ∙ ap (λ m. m + sum (widths_from n m (take p text) (map (size_in n) (take p text)))) (advance_info t n column c mark ends)
    ∙ parted
from_plain t n column (c ∷ text) (mark ∷ marks) (ends ∷ clusters) (suc s) p one other =
    from_plain t n column text marks clusters s p (omega (arith, one)) (omega (arith, other))

from_measured : (t : Tables) (n column : ℕ) (advances text : List ℕ) (marks : List Mark) (clusters : List Bool) (s p : ℕ) → length marks ≡ length text → length clusters ≡ length text
    → fold advance column (take p (drop s (measured advances (infos t n text marks clusters))))
    ≡ column + sum (widths_from n column (take p (drop s text)) (advances_on (take p (drop s advances)) (take p (drop s text))))
from_measured t n column advances [] marks clusters zero zero one other = omega arith
from_measured t n column advances [] marks clusters zero (suc p) one other = omega arith
from_measured t n column advances [] marks clusters (suc s) zero one other = omega arith
from_measured t n column advances [] marks clusters (suc s) (suc p) one other = omega arith
from_measured t n column advances (c ∷ text) [] clusters s p one other = absurd (omega (arith, one))
from_measured t n column advances (c ∷ text) (mark ∷ marks) [] s p one other = absurd (omega (arith, other))
from_measured t n column [] (c ∷ text) (mark ∷ marks) (ends ∷ clusters) zero zero one other = omega arith
from_measured t n column (size ∷ advances) (c ∷ text) (mark ∷ marks) (ends ∷ clusters) zero zero one other = omega arith
from_measured t n column [] (c ∷ text) (mark ∷ marks) (ends ∷ clusters) zero (suc p) one other =
    let w : ℕ = width_from n column c 0 in
    let rest : List ℕ = widths_from n (column + w) (take p text) (advances_on (take p []) (take p text)) in
    let parted : column + w + sum rest ≡ column + sum (w ∷ rest) = omega (arith, sum_by-cons (λ x. x) w rest) in
    from_measured t n (advance column (record (info t n c mark ends) { columns = 0 })) [] text marks clusters zero p (omega (arith, one)) (omega (arith, other))
    ∙ ap (λ m. m + sum (widths_from n m (take p text) (advances_on (take p []) (take p text)))) (advance_measured t n column c 0 mark ends)
    ∙ parted ∙ ap (λ (list : List ℕ). column + sum (w ∷ widths_from n (column + w) (take p text) (advances_on list (take p text)))) (take_all p [] (omega arith))
from_measured t n column (size ∷ advances) (c ∷ text) (mark ∷ marks) (ends ∷ clusters) zero (suc p) one other =
    let w : ℕ = width_from n column c size in
    let rest : List ℕ = widths_from n (column + w) (take p text) (advances_on (take p advances) (take p text)) in
    let parted : column + w + sum rest ≡ column + sum (w ∷ rest) = omega (arith, sum_by-cons (λ x. x) w rest) in
    from_measured t n (advance column (record (info t n c mark ends) { columns = size })) advances text marks clusters zero p (omega (arith, one)) (omega (arith, other))
    ∙ ap (λ m. m + sum (widths_from n m (take p text) (advances_on (take p advances) (take p text)))) (advance_measured t n column c size mark ends)
    ∙ parted
from_measured t n column [] (c ∷ text) (mark ∷ marks) (ends ∷ clusters) (suc s) p one other =
    from_measured t n column [] text marks clusters s p (omega (arith, one)) (omega (arith, other))
    ∙ ap (λ (list : List ℕ). column + sum (widths_from n column (take p (drop s text)) (advances_on (take p list) (take p (drop s text))))) (drop_all s [] (omega arith))
from_measured t n column (size ∷ advances) (c ∷ text) (mark ∷ marks) (ends ∷ clusters) (suc s) p one other =
    from_measured t n column advances text marks clusters s p (omega (arith, one)) (omega (arith, other))

-- the advances of a part of a paragraph
abbrev pub part_of : ℕ → ℕ → Option (List ℕ) → Option (List ℕ)
part_of s p advances = option_map (λ a. take p (drop s a)) advances

pub same_columns : (t : Tables) (n : ℕ) (advances : Option (List ℕ)) (text : List ℕ) (marks : List Mark) (clusters : List Bool) (s p : ℕ) → length marks ≡ length text → length clusters ≡ length text
    → fold advance 0 (take p (drop s (sized advances (infos t n text marks clusters)))) ≡ sum (widths_of n (part_of s p advances) (take p (drop s text)))
unfolding widths_of
same_columns t n None text marks clusters s p one other =
    let e : 0 + sum (widths_from n 0 (take p (drop s text)) (map (size_in n) (take p (drop s text)))) ≡ sum (widths_from n 0 (take p (drop s text)) (map (size_in n) (take p (drop s text)))) = omega arith in
    from_plain t n 0 text marks clusters s p one other ∙ e
same_columns t n (Some advances) text marks clusters s p one other =
    let sizes : List ℕ = advances_on (take p (drop s advances)) (take p (drop s text)) in
    let e : 0 + sum (widths_from n 0 (take p (drop s text)) sizes) ≡ sum (widths_from n 0 (take p (drop s text)) sizes) = omega arith in
    from_measured t n 0 advances text marks clusters s p one other ∙ e

-- ---- more characters are no narrower

from_most : (column : ℕ) (ps : List CharInfo) → column ≤ fold advance column ps
from_most column [] = omega arith
from_most column (p ∷ ps) = omega (arith, from_most (advance column p) ps)

from_take : (column k : ℕ) (ps : List CharInfo) → fold advance column (take k ps) ≤ fold advance column ps
from_take column zero [] = omega arith
from_take column (suc k) [] = omega arith
from_take column zero (p ∷ ps) = from_most column (p ∷ ps)
from_take column (suc k) (p ∷ ps) = from_take (advance column p) k ps

pub columns_take : (k : ℕ) (ps : List CharInfo) → fold advance 0 (take k ps) ≤ fold advance 0 ps
columns_take k ps = from_take 0 k ps

-- ---- ranges

-- a range that is clipped to the length of the list selects the same items
pub range_clipped : (xs : List ℕ) (start end first past : ℕ) → first ≡ min start past → past ≡ min end (length xs) → slice_range xs first past ≡ slice_range xs start end
range_clipped xs start end first past is_first is_past =
    elim (cases_lt past start) [
      | inl after ↦
          let none : past - first ≡ 0 = omega (arith, is_first, after) in
          elim (cases_lt end start) [
            | inl empty ↦
                let also : end - start ≡ 0 = omega (arith, empty) in
                ap (λ n. take n (drop first xs)) none ∙ sym (ap (λ n. take n (drop start xs)) also)
            | inr over ↦
                let gone : drop start xs ≡ [] = drop_all start xs (omega (arith, is_past, after, over)) in
                ap (λ n. take n (drop first xs)) none ∙ sym (ap (take (end - start)) gone ∙ take_all (end - start) [] (omega arith))
          ]
      | inr before ↦
          let same : first ≡ start = omega (arith, is_first, before) in
          ap (λ n. take (past - n) (drop n xs)) same
          ∙ elim (cases_lt (length xs) end) [
            | inl over ↦
                take_all (past - start) (drop start xs) (omega (arith, is_past, over, length-drop start xs))
                ∙ sym (take_all (end - start) (drop start xs) (omega (arith, over, length-drop start xs)))
            | inr within ↦
                let all : past ≡ end = omega (arith, is_past, within) in
                ap (λ n. take (n - start) (drop start xs)) all
          ]
    ]
