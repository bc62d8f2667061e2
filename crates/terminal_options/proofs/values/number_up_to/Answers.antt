use Rattle.std.proofs.Common.{ap, arith, sym, ◌∙◌, ◌≡◌, Some}
use Rattle.terminal_options.specs.Choices.{number_of}
use Rattle.terminal_options.proofs.NumberLemmas.{is_no_number, is_number}
use Rattle.terminal_options.proofs.values.number_up_to.Goals as goal

pub returns-in-Ok : goal.returns-in-Ok
returns-in-Ok c =
    let parsed = c.in-Ok.ensures.value.0 in
    let same : c.in-Ok.number ≡ number_of c.args.text.now = parsed.1 in
    ap Some same ∙ sym (is_number c.args.most c.args.text.now parsed.0.0 (omega (arith, same, c.if-number-ge1.true)) (omega (arith, same, c.if-number-most.true)))

pub returns-in_default-3 : goal.returns-in_default-3
returns-in_default-3 c = sym (is_no_number c.args.most c.args.text.now c.ranges.most.fits c.in_default.ensures.value.0)
