use Rattle.ucd.proofs.ImageFaults.{bad_bracket}
use Rattle.ucd.proofs.image.decode_brackets.Goals as goal

pub returns-in-Ok-None-clause-err : goal.returns-in-Ok-None-clause-err
returns-in-Ok-None-clause-err c =
    bad_bracket c.args.bytes.now c.requires.framed c.requires.known c.requires.valid
    (let none = rw c.in-Ok-None.field-0-is at c.in-Ok-None.ensures in rw (c.brackets_at.ensures.value, c.bracket_count.ensures.value) at none)
