use Rattle.std.proofs.Common.{arith, ◌<◌, ◌^◌}
use Rattle.store.specs.Sums.{part}
use Rattle.store.specs.declared.sums.Unit.TheVariants.{Byte, Char, Line, Utf16}
use Rattle.store.proofs.sums.Sums.fits.Goals as goal

pub returns : goal.returns
returns c = λ v. elim v as (λ u. part c.args.self u < 2 ^ 64) [ Char ↦ omega arith | Line ↦ omega arith | Byte ↦ omega arith | Utf16 ↦ omega arith ]
