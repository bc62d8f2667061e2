use Rattle.std.proofs.Common.{◌∙◌, ap}
use Rattle.std.proofs.lemmas.List.{get_or_past}
use Rattle.lines.specs.Filling.{place_at}
use Rattle.lines.specs.declared.char_info.CharInfo.{CharInfo}
use Rattle.lines.proofs.SizedLemmas.{measured_place}
use Rattle.lines.proofs.sizes.ByAdvancesSizes.size.Goals as goal

pub returns-then-k-self-clause-size : goal.returns-then-k-self-clause-size
returns-then-k-self-clause-size c = measured_place c.args.self.advances.now c.args._infos.now c.args.k c.requires

pub returns-else-k-self-clause-size : goal.returns-else-k-self-clause-size
returns-else-k-self-clause-size c =
    measured_place c.args.self.advances.now c.args._infos.now c.args.k c.requires
    ∙ ap (λ size. let p : CharInfo = record (place_at c.args._infos.now c.args.k) { columns = size } in p)
    (get_or_past c.args.self.advances.now c.args.k 0 c.if-k-self.false)
