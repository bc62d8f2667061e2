use Rattle.std.proofs.Common.{◌++◌, [], ◌∷◌, take, sym, ap, ◌∙◌, arith}
use Rattle.std.proofs.lemmas.List.{take_more, take_all}
use Rattle.lines.specs.Engine.{rules_of}
use Rattle.lines.specs.Layouts.{cut_by}
use Rattle.session.proofs.RoomLemmas.{summed_push, summed_same}
use Rattle.session.proofs.room.RoomScan.take_all.Goals as goal

pub loop-k-preserved : goal.loop-k-preserved
loop-k-preserved c =
    let k = c.loop-k.k in
    let part = c.args.part.now in
    let list = c.args.advances.now in
    λ text given known.
    summed_push (cut_by (rules_of c.args.engine.now)) text (take k part) _ given (take k list) _ _ _ _
    (take_more part k c.index-part-k.result (omega arith) ∙ ap (λ x. take k part ++ x ∷ []) (sym c.index-part-k.is)) (take_more list k 0 (omega (arith, c.requires)))
    (c.take.ensures (text ++ take k part) (given ++ take k list) (c.loop-k.invariant text given known))

pub returns : goal.returns
returns c = λ text given known.
    summed_same (cut_by (rules_of c.args.engine.now)) text (take c.loop-k.k c.args.part.now) _ given (take c.loop-k.k c.args.advances.now) _ _
    (take_all c.loop-k.k c.args.part.now (omega arith)) (take_all c.loop-k.k c.args.advances.now (omega (arith, c.requires))) (c.loop-k.invariant text given known)
