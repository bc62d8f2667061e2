-- Scans for the first or the last number of a range that passes a test. A scan of the remaining numbers finds
-- the same number as a scan of the whole range.
use Rattle.std.proofs.Common.{◌≡◌, ℕ, zero, suc, ◌+◌, ◌-◌, ◌<◌, ◌≤◌, Bool, true, false, Some, None, if◌then◌else◌, ap, ◌∙◌, refl, sym, arith}
use Rattle.bidi.specs.Brackets.{greatest}
use Rattle.ucd.specs.Least.{least}

-- the scan for the first number that passes, from `low` up to `end`, has reached k
abbrev pub ScansTo : (ℕ → Bool) → ℕ → ℕ → ℕ → Type 0
ScansTo test low end k = least test low (end - low) ≡ least test k (end - k)

-- the scan for the last number below `high` that passes has reached k
abbrev pub ScansBack : (ℕ → Bool) → ℕ → ℕ → Type 0
ScansBack test high k = greatest test high ≡ greatest test k

module _ (test : ℕ → Bool) (low end k : ℕ) (scans : ScansTo test low end k) (within : k < end) where
  here : least test low (end - low) ≡ (if test k then Some k else least test (suc k) (end - suc k))
  here =
      let left : end - k ≡ suc (end - suc k) = omega (arith, within) in
      scans ∙ ap (least test k) left

  pub scan_next : test k ≡ false → ScansTo test low end (k + 1)
  scan_next fails =
      let next : suc k ≡ k + 1 = omega arith in
      here ∙ ap (λ b. if b then Some k else least test (suc k) (end - suc k)) fails ∙ ap (λ i. least test i (end - i)) next

  pub scan_found : test k ≡ true → Some k ≡ least test low (end - low)
  scan_found passes = sym (here ∙ ap (λ b. if b then Some k else least test (suc k) (end - suc k)) passes)

pub scan_none : (test : ℕ → Bool) (low end k : ℕ) → ScansTo test low end k → end ≤ k → None ≡ least test low (end - low)
scan_none test low end k scans past =
    let none : end - k ≡ 0 = omega (arith, past) in
    sym (scans ∙ ap (least test k) none)

module _ (test : ℕ → Bool) (high k : ℕ) (scans : ScansBack test high k) (some : 0 < k) where
  back_here : greatest test high ≡ (if test (k - 1) then Some (k - 1) else greatest test (k - 1))
  back_here =
      let last : k ≡ suc (k - 1) = omega (arith, some) in
      scans ∙ ap (greatest test) last

  pub back_next : test (k - 1) ≡ false → ScansBack test high (k - 1)
  back_next fails = back_here ∙ ap (λ b. if b then Some (k - 1) else greatest test (k - 1)) fails

  pub back_found : test (k - 1) ≡ true → Some (k - 1) ≡ greatest test high
  back_found passes = sym (back_here ∙ ap (λ b. if b then Some (k - 1) else greatest test (k - 1)) passes)

none_below : (test : ℕ → Bool) (k : ℕ) → ((j : ℕ) → j < k → test j ≡ false) → greatest test k ≡ None
none_below test zero fail = refl
none_below test (suc k) fail =
    ap (λ b. if b then Some k else greatest test k) (fail k (omega arith)) ∙ none_below test k (λ j below. fail j (omega (arith, below)))

pub back_none : (test : ℕ → Bool) (high k : ℕ) → ScansBack test high k → ((j : ℕ) → j < k → test j ≡ false) → None ≡ greatest test high
back_none test high k scans fail = sym (scans ∙ none_below test k fail)
