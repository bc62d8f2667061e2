use Rattle.std.proofs.Common.{◌≡◌, drop}
use Rattle.sequences.specs.Parts.{parts_after}
use Rattle.sequences.proofs.parts.without_parts.Given as goal

abbrev pub invariant-loop : goal.invariant-loop
invariant-loop l = parts_after l.separator l.rest ≡ drop l.counter (parts_after l.separator l.text)
