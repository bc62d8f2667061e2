use Rattle.std.proofs.Common.{arith}
use Rattle.stream.proofs.packing.pack.Goals as goal
use Rattle.stream.proofs.PackingLemmas.{row-ok, length-ok, packed-written}

pub swizzle-bytes : goal.swizzle-bytes
swizzle-bytes c = row-ok c.requires.low c.requires.high

pub returns-clause-within : goal.returns-clause-within
returns-clause-within c = omega (arith, length-ok c.requires.low c.requires.high)

pub returns-clause-bytes : goal.returns-clause-bytes
returns-clause-bytes c = packed-written c.requires.low c.requires.high c.args.words c.fits-words.0 c.fits-words.1 c.args.buffer.now c.args.at c.requires.room
