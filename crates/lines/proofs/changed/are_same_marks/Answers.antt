use Rattle.std.proofs.lemmas.Slice.Eq.{slice_eq-Decides}
use Rattle.lines.proofs.ChangedLemmas.{mark_eq}
use Rattle.lines.proofs.changed.are_same_marks.Goals as goal

pub returns : goal.returns
returns c is = (slice_eq-Decides mark_eq c.args.one.now c.args.other.now c.eq.result c.eq.ensures).0 is
