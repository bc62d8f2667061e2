use Rattle.lines.proofs.PageLemmas.{layout_by_lines}
use Rattle.lines.proofs.laws.paragraphs_print_their_lines.Goals as goal

pub returns : goal.returns
returns c = layout_by_lines
