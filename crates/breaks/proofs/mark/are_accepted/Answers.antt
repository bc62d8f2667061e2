use Rattle.std.proofs.Common.{sym, ap, ◌∙◌, arith}
use Rattle.std.specs.List.{list_all}
use Rattle.std.proofs.lemmas.List.{take_all}
use Rattle.std.proofs.lemmas.List.Folds.{list_all_more}
use Rattle.breaks.proofs.mark.are_accepted.Goals as goal

pub loop-at-preserved : goal.loop-at-preserved
loop-at-preserved g c =
    let at = c.loop-at.at in
    let all = g.C.Characters.all c.args.characters in
    rw (c.loop-at.invariant, c.accepts-accepted.ensures, c.get.ensures) (sym (list_all_more g.W.Walk.accepts all at c.get.result (omega arith)))

pub returns : goal.returns
returns g c = c.loop-at.invariant ∙ ap (list_all g.W.Walk.accepts) (take_all c.loop-at.at (g.C.Characters.all c.args.characters) (omega arith))
