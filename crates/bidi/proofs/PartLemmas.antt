-- A property of all items of a list holds for the items at selected indices.
use Rattle.std.proofs.Common.{◌≡◌, ℕ, ◌<◌, Bool, List, length, get_or, map, filter, slice_index, sym, subst, ◌∙◌, zero-add}
use Rattle.std.specs.List.{range_with_len, All}
use Rattle.std.proofs.lemmas.List.{get_or_default}
use Rattle.std.proofs.lemmas.List.Elements.{All-filter, All-map}
use Rattle.std.proofs.lemmas.List.FromFn.{get_or-range_with_len, length-range_with_len}
use Rattle.ucd.specs.Within.{AreWithin}

pub All-places : (P : ℕ → Type 0) (items places : List ℕ) → All P items → AreWithin (length items) places → All P (map (slice_index items) places)
All-places P items places all within =
    All-map P (slice_index items) places (λ i d inside.
    all (get_or places i d) 0 (subst (λ (k : ℕ). k < length items) (get_or_default places i 0 d inside) (within i inside)))

pub All-kept : (P : ℕ → Type 0) (items : List ℕ) (n : ℕ) (test : ℕ → Bool) → length items ≡ n → All P items → All P (map (slice_index items) (filter test (range_with_len 0 n)))
All-kept P items n test size all =
    All-map P (slice_index items) (filter test (range_with_len 0 n)) (
    All-filter test (λ k. P (slice_index items k)) (range_with_len 0 n) (λ i d inside.
    let below : i < n = subst (λ (k : ℕ). i < k) (length-range_with_len 0 n) inside in
    let is : get_or (range_with_len 0 n) i d ≡ i = get_or-range_with_len 0 n i d below ∙ zero-add i in
    subst (λ (k : ℕ). P (slice_index items k)) (sym is) (all i 0 (subst (λ (k : ℕ). i < k) (sym size) below))))
