-- Exchanges of parts of items, in which item i is paired with part i, and the total cost of these exchanges.
use Rattle.std.specs.Prelude.{ℕ, ◌+◌, ◌-◌, ◌^◌, List, map, max, min, sum_by}
use Rattle.std.specs.List.{zip}

abbrev pub pairwise : {P Part A : Type 0} → (P → Part → A) → List P → List Part → List A
pairwise f items parts = map (λ p. f p.0 p.1) (zip items parts)

-- the total cost of all exchanges
abbrev pub total_cost : {P Part : Type 0} → (P → Part → ℕ) → List P → List Part → ℕ
total_cost cost items parts = sum_by (λ n. n) (pairwise cost items parts)

-- a count increased by n units of work, saturating at 2^64 - 1
abbrev pub raised : ℕ → ℕ → ℕ
raised count n = max count (min (count + n) (2 ^ 64 - 1))
