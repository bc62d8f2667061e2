use Rattle.std.proofs.Common.{string_bytes}
use Rattle.terminal.proofs.PrefixLemmas.{encoded_more}
use Rattle.terminal.proofs.prefix.encoded.Goals as goal

pub loop-c-preserved : goal.loop-c-preserved
loop-c-preserved c =
    encoded_more c.args.text.now c.loop-c.c-index c.c-item.result (string_bytes c.loop-c.string) (string_bytes c.push.new.self) c.loop-c-test.true c.c-item.is
    c.in_ok-push.ensures.bytes c.loop-c.invariant
