use Rattle.std.proofs.Common.{refl, ◌<◌, ℕ, [], ◌∷◌, get_or, w32, Fits, arith}
use Rattle.std.proofs.lemmas.Simd.{Each1-get_or}
use Rattle.stream.proofs.ShortLemmas.{lane, spell}
use Rattle.stream.proofs.short.decoded.Goals as goal

pub returns-clause-characters : goal.returns-clause-characters
returns-clause-characters c =
    let v = c.args.pairs in
    let long = c.fits-pairs.0 in
    let fits : (k : ℕ) → k < 4 → Fits w32 (get_or v k 0) = λ k lt. Each1-get_or (Fits w32) v k 0 (omega arith) c.fits-pairs.1 in
    let lanes = λ (k : ℕ) (lt : k < 4). lane (get_or v k 0) (fits k lt) in
    rw (spell 4 v long) (λ i. lanes 0 (omega arith) i ∷ lanes 1 (omega arith) i ∷ lanes 2 (omega arith) i ∷ lanes 3 (omega arith) i ∷ [])

pub returns-clause-len : goal.returns-clause-len
returns-clause-len c = rw (spell 4 c.args.pairs c.fits-pairs.0) refl
