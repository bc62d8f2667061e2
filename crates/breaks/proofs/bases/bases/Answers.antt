use Rattle.breaks.proofs.FoundLemmas.{found_more}
use Rattle.breaks.proofs.bases.bases.Goals as goal

pub loop-first-preserved : goal.loop-first-preserved
loop-first-preserved c =
    let more = found_more c.loop-first.list.items (record { first = c.in-Some.first.now; attached = c.split_at.result.0 }) c.in-Some.rest.now c.attached_len.result c.attached_len.ensures.len c.split_at.ensures.front in
    cc (more, c.in_ok-push.ensures.items, c.split_at.ensures.back, c.in-Some.ensures.cases.0, c.loop-first.invariant)
