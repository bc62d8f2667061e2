use Rattle.std.proofs.Common.{length}
use Rattle.session.proofs.RedrawLemmas.{replaces_both}
use Rattle.session.proofs.laws.measured_edits_are_drawn_at_once.Goals as goal

pub returns : goal.returns
returns c edit pos list old edited measured damage second edits sets = replaces_both edit pos (length list) old.kept edited.kept measured.kept damage second edits.damage sets.damage
