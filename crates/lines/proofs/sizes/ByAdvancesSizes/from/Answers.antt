use Rattle.std.proofs.Common.{◌∙◌, ◌+◌, ◌≤◌, drop, sum, take, ap, sym, subst}
use Rattle.lines.specs.CharInfos.{measured}
use Rattle.lines.proofs.SizedLemmas.{clipped, measured_drop, sums_from}
use Rattle.lines.proofs.sizes.ByAdvancesSizes.from.Goals as goal

pub returns-clause-sizes : goal.returns-clause-sizes
returns-clause-sizes c infos =
    ap (λ xs. measured xs (drop c.args.start infos)) (clipped c.args.self.advances.now c.args.start c.min-start.result c.min-start.ensures)
    ∙ measured_drop c.args.start c.args.self.advances.now infos

pub returns-clause-most : goal.returns-clause-most
returns-clause-most c k =
    subst (λ xs. sum (take c.args.start c.args.self.advances.now) + sum (take k xs) ≤ sum (take (c.args.start + k) c.args.self.advances.now))
    (sym (clipped c.args.self.advances.now c.args.start c.min-start.result c.min-start.ensures))
    (sums_from c.args.start k c.args.self.advances.now)
