-- Writing to a sink in several calls.
use Rattle.std.proofs.Common.{◌≡◌, ℕ, ◌+◌, ◌≤◌, ◌==◌, false, List, ◌++◌, length, take, drop, Option, Some, None, ap, ◌∙◌, arith}
use Rattle.std.specs.Io.KnownBytes.{Appends}
use Rattle.std.proofs.lemmas.List.{append_assoc, length-take-le}
use Rattle.std.proofs.Math.Seq.{take-add}
use Rattle.std.proofs.lemmas.Bool.Decides.{nat_tests}
use Rattle.std.specs.Bool.{MatchBool}
use Rattle.device.specs.Device.{Device, Fails, Takes, Took}

Appends-append : (old mid new : Option (List ℕ)) (xs ys : List ℕ) → Appends old mid xs → Appends mid new ys → Appends old new (xs ++ ys)
Appends-append None mid new xs ys first second = tt
Appends-append (Some all) None new xs ys first second = absurd first
Appends-append (Some all) (Some more) None xs ys first second = absurd second
Appends-append (Some all) (Some more) (Some last) xs ys first second = second ∙ ap (λ zs. zs ++ ys) first ∙ append_assoc all xs ys

-- if a sink accepted the first w bytes and then n more, it accepted the first w + n bytes
pub Took-more : (old mid new : Device) (bytes : List ℕ) (w n : ℕ) (part : List ℕ) → part ≡ drop w bytes
    → w + n ≤ length bytes → Took old mid (take w bytes) → Takes mid new n part → Took old new (take (w + n) bytes)
Took-more old mid new bytes w n part part_is within first next =
    let split : take (w + n) bytes ≡ take w bytes ++ take n (drop w bytes) = take-add w n bytes in
    record {
      bytes = rw (split, ← part_is) (Appends-append old.bytes mid.bytes new.bytes (take w bytes) (take n part) first.bytes next.bytes);
      passed =
          let whole : length (take (w + n) bytes) ≡ w + n = length-take-le (w + n) bytes within in
          let front : length (take w bytes) ≡ w = length-take-le w bytes (omega arith) in
          omega (arith, next.passes.passed, first.passed);
    }

-- a write that accepted at least one byte did not fail
pub Takes-some : (old new : Device) (n : ℕ) (given : List ℕ) → (n ≡ 0 → ⊥) → MatchBool (n == 0) (Fails old new) (Takes old new n given) → Takes old new n given
Takes-some old new n given some which = let not_none : (n == 0) ≡ false = grind (arith, nat_tests) in rw not_none at which
