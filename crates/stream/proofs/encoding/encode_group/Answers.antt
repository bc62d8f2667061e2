use Rattle.stream.proofs.EncodingLemmas.{all_below}
use Rattle.stream.proofs.encoding.encode_group.Goals as goal

pub encode_ascii-requires-clause-ascii : goal.encode_ascii-requires-clause-ascii
encode_ascii-requires-clause-ascii c = all_below c.args.group.now c.highest-highest.result 128 c.highest-highest.ensures c.if-highest-lt128.true

pub encode_short-requires-clause-short : goal.encode_short-requires-clause-short
encode_short-requires-clause-short c = all_below c.args.group.now c.highest-highest.result 0x800 c.highest-highest.ensures c.if-highest-lt2048.true
