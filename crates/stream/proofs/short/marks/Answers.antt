use Rattle.std.proofs.Common.{◌+◌, ◌-◌, ◌%◌, cond, leb, refl, arith}
use Rattle.std.proofs.lemmas.Simd.{zip2_splat}
use Rattle.stream.specs.Short.{begins}
use Rattle.stream.proofs.ShortLemmas.{from_splat, masked}
use Rattle.stream.proofs.short.marks.Goals as goal

pub returns : goal.returns
returns c =
    let v = c.args.bytes in
    let long = c.fits-bytes.0 in
    masked (λ x. cond (leb 64 ((x + (256 - 128)) % 256)) 255 0) begins v _ (omega arith) c.fits-bytes.1
    (from_splat (λ x. (x + (256 - 128)) % 256) 64 16 v long (zip2_splat (λ a b. (a + (256 - b)) % 256) v 16 128 long)) refl
