use Rattle.terminal.proofs.PlainLemmas.{plain_paragraph}
use Rattle.terminal.proofs.laws.prints_plain_lines.Goals as goal

pub returns : goal.returns
returns c = plain_paragraph
