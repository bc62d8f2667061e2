use Rattle.std.proofs.Common.{sym, ◌∙◌}
use Rattle.session.proofs.OffsetLemmas.{all_basic, one_byte_each}
use Rattle.session.proofs.offsets.utf16_length.Goals as goal

pub returns-then-bytes-text : goal.returns-then-bytes-text
returns-then-bytes-text c = one_byte_each c.args.text.now (sym c.if-bytes-text.true ∙ c.requires)

pub returns-then-largest-lt65536 : goal.returns-then-largest-lt65536
returns-then-largest-lt65536 c = all_basic c.args.text.now c.largest.result c.largest.ensures c.if-largest-lt65536.true
