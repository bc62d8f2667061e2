use Rattle.lines.proofs.FewLines.{few_lines}
use Rattle.lines.proofs.laws.lines_are_few.Goals as goal

pub returns : goal.returns
returns c = few_lines
