use Rattle.std.proofs.Common.{◌≡◌, length, ap, subst, ◌∙◌, arith}
use Rattle.session.specs.Offsets.{length_in, IsUnitAt}
use Rattle.session.proofs.OffsetLemmas.{unit_of_same}
use Rattle.session.proofs.offsets.unit_in.Goals as goal

pub returns-then-units-chars : goal.returns-then-units-chars
returns-then-units-chars c =
    let same : length_in c.args.encoding c.args.kept.now.text ≡ length c.args.kept.now.text = omega (arith, c.units.ensures, c.chars.ensures, c.if-units-chars.true) in
    unit_of_same c.args.encoding c.args.kept.now.text c.args.offset same c.requires

pub returns : goal.returns
returns c =
    subst (λ cs. IsUnitAt c.args.encoding cs c.args.offset c.unit_at.result.0 c.unit_at.result.1) (c.text.ensures ∙ ap (λ l. l.text) c.laid.ensures) c.unit_at.ensures
