use Rattle.std.proofs.Common.{◌==◌, not, drop, take, w8, arith}
use Rattle.std.proofs.lemmas.Simd.{bitmask_splat, length-chunk}
use Rattle.reorder.proofs.order.others.Goals as goal

pub returns : goal.returns
returns c =
    let levels = c.args.levels.now in
    bitmask_splat w8 (λ a b. not (a == b)) (take 16 (drop c.args.start levels)) 16 c.args.level (length-chunk c.args.start 16 levels c.requires) (omega arith)
