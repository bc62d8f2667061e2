use Rattle.std.proofs.Common.{false, refl, arith}
use Rattle.reorder.proofs.ChunkLemmas.{Chunked-start, Chunked-next, groups_read}
use Rattle.reorder.proofs.in_place.reverse_groups.Goals as goal

pub loop-start-init : goal.loop-start-init
loop-start-init g c = Chunked-start _ _ _

pub loop-start-preserved : goal.loop-start-preserved
loop-start-preserved g c =
    Chunked-next _ _ _ _ _ _ c.group_len-len.result _ _ c.loop-start.invariant (omega arith) (omega (arith, c.requires.items)) c.group_len-len.ensures.chunk
    (omega arith) c.reverse.ensures.after refl c.group_len-len.ensures.next

pub returns : goal.returns
returns g c =
    let classes = g.C.Classes.all c.args.line.now in
    let levels = c.args.levels.now in
    groups_read classes levels (c.groups_stand_together.ensures classes levels) (c.others_stay.ensures classes levels)
    (c.maps_are_inverse.ensures false classes levels) _ _ _ c.loop-start.invariant (omega (arith, c.requires.items, c.loop-start-test.false))
