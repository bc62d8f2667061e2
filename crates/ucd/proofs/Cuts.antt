-- A list of bytes, split at the first delimiter.
use Rattle.std.proofs.Common.{◌≡◌, ℕ, ◌+◌, ◌-◌, ◌<◌, List, [], ◌∷◌, length, get_or, take, drop, false, Some, None, refl, sym, arith}
use Rattle.std.specs.List.{slice_split, before_first, position_or_len, All}
use Rattle.std.proofs.lemmas.Bool.{eq-eqb, ne_eqb}
use Rattle.std.proofs.lemmas.List.{take_all, take_rest}
use Rattle.std.proofs.lemmas.List.Elements.{All-from_get_or}
use Rattle.std.proofs.lemmas.List.Folds.{list_any_at, list_any_none}
use Rattle.std.proofs.lemmas.List.Sums.{position_or_len_is}
use Rattle.std.proofs.lemmas.List.Splits.{slice_split_first, slice_split_none}
use Rattle.ucd.specs.Grammar.{is_delimiter, rest_after}

-- no byte before the index `at` is the delimiter
abbrev pub NoDelimiterBelow : ℕ → List ℕ → ℕ → Type 0
NoDelimiterBelow delimiter bytes at = (k : ℕ) → k < at → get_or bytes k 0 ≡ delimiter → ⊥

-- if the first delimiter is at index `at`, the list is split into the parts before and after that index
module _ (delimiter : ℕ) (bytes : List ℕ) (at : ℕ) (below : NoDelimiterBelow delimiter bytes at) (within : at < length bytes) (here : get_or bytes at 0 ≡ delimiter) where
  first_place : position_or_len (is_delimiter delimiter) bytes ≡ at
  first_place = position_or_len_is (is_delimiter delimiter) bytes at 0 (omega arith) (λ k lt. ne_eqb _ _ (below k lt)) (λ _. eq-eqb _ _ here)

  pub front_at : take at bytes ≡ before_first (is_delimiter delimiter) bytes
  front_at = rw first_place refl

  pub rest_at : Some (take (length bytes - (at + 1)) (drop (at + 1) bytes)) ≡ rest_after delimiter bytes
  rest_at = rw (list_any_at (is_delimiter delimiter) bytes at 0 within (eq-eqb _ _ here), take_rest bytes (at + 1), first_place) refl

  pub parts_at : slice_split (is_delimiter delimiter) bytes ≡ take at bytes ∷ slice_split (is_delimiter delimiter) (take (length bytes - (at + 1)) (drop (at + 1) bytes))
  parts_at =
      let lt : position_or_len (is_delimiter delimiter) bytes < length bytes = omega (arith, first_place) in
      rw (slice_split_first (is_delimiter delimiter) bytes 0 lt, take_rest bytes (at + 1), first_place) refl

-- if the list contains no delimiter, the first part is the whole list, and there is no other part
module _ (delimiter : ℕ) (bytes : List ℕ) (none : NoDelimiterBelow delimiter bytes (length bytes)) where
  all_fail : All (λ x. is_delimiter delimiter x ≡ false) bytes
  all_fail = All-from_get_or (λ x. is_delimiter delimiter x ≡ false) bytes 0 (λ k lt. ne_eqb _ _ (none k lt))

  pub front_all : bytes ≡ before_first (is_delimiter delimiter) bytes
  front_all = rw (position_or_len_is (is_delimiter delimiter) bytes (length bytes) 0 (omega arith) (λ k lt. ne_eqb _ _ (none k lt)) (λ lt. absurd (omega arith))) (sym (take_all _ bytes (omega arith)))

  pub rest_none : None ≡ rest_after delimiter bytes
  rest_none = rw (list_any_none (is_delimiter delimiter) bytes all_fail) refl

  pub parts_one : slice_split (is_delimiter delimiter) bytes ≡ bytes ∷ []
  parts_one = slice_split_none (is_delimiter delimiter) bytes all_fail
