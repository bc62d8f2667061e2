use Rattle.std.proofs.Common.{refl}
use Rattle.std.specs.Char.{is_ascii}
use Rattle.stream.proofs.ShortLemmas.{none_from}
use Rattle.stream.proofs.short.is_ascii.Goals as goal

pub returns : goal.returns
returns c = none_from is_ascii 128 c.args.bytes c.fits-bytes.0 c.fits-bytes.1 refl
