-- The columns of characters that pass one of the quick tests, added up.
use Rattle.std.proofs.Common.{suc, get_or, length, drop, ◌+◌, ◌-◌, ◌<◌, ◌≤◌, ◌≡◌, ◌∙◌, ℕ, List, [], ◌∷◌, map, sum, sum_by, take, refl, sym, ap, subst, arith}
use Rattle.std.specs.List.{slice_range}
use Rattle.std.proofs.lemmas.List.{get_or-drop, length-drop, take-append-drop, take_all}
use Rattle.std.proofs.lemmas.List.Sums.{sum-map, sum_by-append, sum_by-cons}
use Rattle.lines.specs.CharInfos.{columns_of}

-- if each character of a text has one column, the columns of the text add up to its length
pub ones : (text : List ℕ) → ((k : ℕ) → k < length text → 1 ≡ columns_of (get_or text k 0)) → sum (map columns_of text) ≡ length text
ones [] each = refl
ones (c ∷ text) each =
    let first : 1 ≡ columns_of c = each 0 (omega arith) in
    let rest = ones text (λ k h. each (suc k) (omega (arith, h))) in
    omega (arith, first, rest, sum-map columns_of (c ∷ text), sum-map columns_of text, sum_by-cons columns_of c text)

-- the columns of a text are those of two parts together
pub split_sum : (n : ℕ) (text : List ℕ) → sum (map columns_of (take n text)) + sum (map columns_of (drop n text)) ≡ sum (map columns_of text)
split_sum n text =
    omega (
      arith,
      sum-map columns_of (take n text),
      sum-map columns_of (drop n text),
      sum-map columns_of text,
      sum_by-append columns_of (take n text) (drop n text),
      ap (sum_by columns_of) (take-append-drop n text),
    )

-- if each of the last characters of a text has one column, so do fewer of them
pub last_ones : (text : List ℕ) (many few : ℕ) → few ≤ many → many ≤ length text
    → ((k : ℕ) → k < length (slice_range text (length text - many) (length text)) → 1 ≡ columns_of (get_or (slice_range text (length text - many) (length text)) k 0))
    → sum (map columns_of (drop (length text - few) text)) ≡ few
last_ones text many few fewer within each =
    let n : ℕ = length text in
    let size : length (drop (n - few) text) ≡ few = length-drop (n - few) text ∙ omega (arith, fewer, within) in
    let whole : length (drop (n - many) text) ≡ many = length-drop (n - many) text ∙ omega (arith, within) in
    let group : slice_range text (n - many) n ≡ drop (n - many) text = take_all (n - (n - many)) (drop (n - many) text) (omega (arith, whole, within)) in
    let last = subst (λ (xs : List ℕ). (k : ℕ) → k < length xs → 1 ≡ columns_of (get_or xs k 0)) group each in
    ones (drop (n - few) text) (λ k h.
    let at : ℕ = many - few + k in
    last at (omega (arith, h, size, whole, fewer))
    ∙ ap columns_of (get_or-drop (n - many) text at 0 ∙ ap (λ (i : ℕ). get_or text i 0) (omega (arith, fewer, within)) ∙ sym (get_or-drop (n - few) text k 0)))
    ∙ size
