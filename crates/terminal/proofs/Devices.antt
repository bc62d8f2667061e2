-- Bytes that sources return and sinks accept, one part after another.
use Rattle.std.proofs.Common.{◌≡◌, ℕ, ◌+◌, List, [], ◌++◌, min, Option, Some, None, sym, ap, ◌∙◌, append_assoc, arith}
use Rattle.std.specs.Io.KnownBytes.{Appends, Consumes, Keeps}
use Rattle.std.proofs.lemmas.List.{append-nil, length-append}
use Rattle.device.specs.Device.{Device, FailedLast, Took, Wrote, greatest}

Appends-append : (a b c : Option (List ℕ)) (xs ys : List ℕ) → Appends a b xs → Appends b c ys → Appends a c (xs ++ ys)
Appends-append None b c xs ys p q = tt
Appends-append (Some us) None c xs ys p q = absurd p
Appends-append (Some us) (Some bs) None xs ys p q = absurd q
Appends-append (Some us) (Some bs) (Some cs) xs ys p q = q ∙ ap (λ t. t ++ ys) p ∙ append_assoc us xs ys

Appends-refl : (known : Option (List ℕ)) → Appends known known []
Appends-refl None = tt
Appends-refl (Some xs) = sym (append-nil xs)

pub FailedLast-after : (a b c : Device) → b.failures ≡ a.failures → FailedLast b c → FailedLast a c
FailedLast-after a b c same failed = record { failures = failed.failures ∙ ap (λ n. min (n + 1) greatest) same; last = failed.last }

pub Took-append : (a b c : Device) (xs ys : List ℕ) → Took a b xs → Took b c ys → Took a c (xs ++ ys)
Took-append a b c xs ys p q = record { bytes = Appends-append a.bytes b.bytes c.bytes xs ys p.bytes q.bytes; passed = omega (arith, p.passed, q.passed, length-append xs ys) }

pub Took-nothing : (device : Device) → Took device device []
Took-nothing device = record { bytes = Appends-refl device.bytes; passed = omega arith }

pub Wrote-append : (a b c : Device) (xs ys : List ℕ) → Wrote xs a b → Wrote ys b c → Wrote (xs ++ ys) a c
Wrote-append a b c xs ys p q = (Took-append a b c xs ys p.0 q.0, q.1 ∙ p.1)

pub Consumes-append : (a b c : Option (List ℕ)) (xs ys : List ℕ) → Consumes a b xs → Consumes b c ys → Consumes a c (xs ++ ys)
Consumes-append None b c xs ys p q = tt
Consumes-append (Some us) None c xs ys p q = absurd p
Consumes-append (Some us) (Some bs) None xs ys p q = absurd q
Consumes-append (Some us) (Some bs) (Some cs) xs ys p q = p ∙ ap (λ t. xs ++ t) q ∙ sym (append_assoc xs ys cs)

pub Consumes-kept : (a b c : Option (List ℕ)) (xs : List ℕ) → Consumes a b xs → Keeps b c → Consumes a c xs
Consumes-kept None b c xs p q = tt
Consumes-kept (Some us) None c xs p q = absurd p
Consumes-kept (Some us) (Some bs) None xs p q = absurd q
Consumes-kept (Some us) (Some bs) (Some cs) xs p q = p ∙ ap (λ t. xs ++ t) (sym q)
