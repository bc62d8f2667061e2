use Rattle.std.proofs.Common.{◌≡◌, length, sym, arith}
use Rattle.session.specs.Offsets.{length_in}
use Rattle.session.proofs.OffsetLemmas.{same_front}
use Rattle.session.proofs.offsets.length_to.Goals as goal

pub returns-then-units-chars : goal.returns-then-units-chars
returns-then-units-chars c =
    let same : length_in c.args.encoding c.args.kept.now.text ≡ length c.args.kept.now.text = omega (arith, c.units.ensures, c.chars.ensures, c.if-units-chars.true) in
    sym (same_front c.args.encoding c.args.kept.now.text c.args.count same c.requires)
