use Rattle.lines.proofs.BeginningLemmas.{begin_in_order}
use Rattle.lines.proofs.laid.Laid.lines_begin_in_order.Goals as goal

pub returns : goal.returns
returns c = begin_in_order c.paragraphs_end_at_must.ensures
