use Rattle.terminal.proofs.NewlineLemmas.{pages_end_in_newlines}
use Rattle.terminal.proofs.laws.pages_end_in_newlines.Goals as goal

pub returns : goal.returns
returns c = pages_end_in_newlines
