use Rattle.stream.proofs.ShortLemmas.{gathered}
use Rattle.stream.proofs.short.pairs.Goals as goal

pub returns : goal.returns
returns c = gathered _ c.args.bytes c.args.marks c.requires c.fits-bytes.0 c.fits-bytes.1
