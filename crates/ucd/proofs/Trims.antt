-- Trimming a list: removing the bytes at both ends that pass a test.
use Rattle.std.proofs.Common.{◌≡◌, ℕ, ◌-◌, ◌<◌, ◌≤◌, Bool, true, false, List, length, get_or, take, drop, refl, arith}
use Rattle.std.specs.List.{prefix_len, suffix_len}
use Rattle.std.proofs.lemmas.List.Sums.{prefix_len_is, suffix_len_is}
use Rattle.ucd.specs.Grammar.{trimmed}

-- the first `end` bytes of `rest` are the trimmed list if all bytes around them pass the test, and the first
-- and the last of them fail the test
pub trimmed_at : (p : ℕ → Bool) (bytes rest : List ℕ) (start end : ℕ) → rest ≡ drop start bytes → start ≤ length bytes
    → ((k : ℕ) → k < start → p (get_or bytes k 0) ≡ true) → (start < length bytes → p (get_or bytes start 0) ≡ false)
    → end ≤ length rest → ((k : ℕ) → end ≤ k → k < length rest → p (get_or rest k 0) ≡ true)
    → (0 < end → p (get_or rest (end - 1) 0) ≡ false) → take end rest ≡ trimmed p bytes
trimmed_at p bytes rest start end is within pass stop end_within end_pass end_stop =
    let front : prefix_len p bytes ≡ start = prefix_len_is p bytes start 0 within pass stop in
    let back : suffix_len p rest ≡ length rest - end = suffix_len_is p rest end 0 end_within end_pass end_stop in
    let shown : end ≡ length rest - (length rest - end) = omega arith in
    rw (front, ← is, back, ← shown) refl
