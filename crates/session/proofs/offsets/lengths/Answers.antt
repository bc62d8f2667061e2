use Rattle.std.proofs.Common.{arith}
use Rattle.session.proofs.OffsetLemmas.{all_ascii, all_basic}
use Rattle.session.proofs.offsets.lengths.Goals as goal

pub returns-then-largest-lt128-clause-bytes : goal.returns-then-largest-lt128-clause-bytes
returns-then-largest-lt128-clause-bytes c = all_ascii c.args.text.now c.largest-largest.result c.largest-largest.ensures c.if-largest-lt128.true

pub returns-then-largest-lt128-clause-utf16 : goal.returns-then-largest-lt128-clause-utf16
returns-then-largest-lt128-clause-utf16 c =
    all_basic c.args.text.now c.largest-largest.result c.largest-largest.ensures (omega (arith, c.if-largest-lt128.true))

pub returns-then-largest-lt65536-clause-utf16 : goal.returns-then-largest-lt65536-clause-utf16
returns-then-largest-lt65536-clause-utf16 c = all_basic c.args.text.now c.largest-largest.result c.largest-largest.ensures c.if-largest-lt65536.true

pub returns-then-text-le-BLOCK-clause-utf16 : goal.returns-then-text-le-BLOCK-clause-utf16
returns-then-text-le-BLOCK-clause-utf16 c =
    all_basic c.args.text.now c.largest-largest.result c.largest-largest.ensures (omega (arith, c.if-largest-lt2048.true))
