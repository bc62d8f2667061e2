use Rattle.hordguli_c.proofs.RowLemmas.{is_line}
use Rattle.hordguli_c.proofs.row_calls.row_is_line.Goals as goal

pub returns : goal.returns
returns c = is_line
