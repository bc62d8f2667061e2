use Rattle.std.proofs.Common.{◌≡◌, ◌+◌, ◌-◌, ◌*◌, ◌<◌, ◌∷◌, suc, length, Some, sym, ap, ◌∙◌, arith}
use Rattle.std.specs.Prelude.{Option, unwrap_or, ℕ}
use Rattle.sequences.specs.Overstrikes.{strikes}
use Rattle.sequences.specs.Sequences.{sequence_len}
use Rattle.sequences.proofs.scanner.Scanner.pass.Goals as goal

pub returns-in_ok-apply_sequence-clause-len : goal.returns-in_ok-apply_sequence-clause-len
returns-in_ok-apply_sequence-clause-len c =
    let e : sequence_len (c.args.first ∷ c.args.rest.now) ≡ Some c.in-Some.len = ap sequence_len (sym c.requires) ∙ sym c.in-Some.ensures.len in
    let some : 0 < c.in-Some.len = c.in-Some.ensures.some in
    let whole : c.in-Some.len ≡ suc (c.in-Some.len - 1) = omega arith in
    whole ∙ ap (λ (o : Option ℕ). suc (unwrap_or o (1 + 2 * length (strikes c.args.first c.args.rest.now)) - 1)) (sym e)
