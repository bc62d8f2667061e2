use Rattle.ucd.proofs.ImageFaults.{bad_mirror}
use Rattle.ucd.proofs.image.decode_mirrors.Goals as goal

pub returns-in-Ok-None-clause-err : goal.returns-in-Ok-None-clause-err
returns-in-Ok-None-clause-err c =
    bad_mirror c.args.bytes.now c.requires.framed c.requires.known c.requires.valid c.requires.brackets
    (let none = rw c.in-Ok-None.field-0-is at c.in-Ok-None.ensures in rw (c.mirrors_at.ensures.value, c.mirror_count.ensures.value) at none)
