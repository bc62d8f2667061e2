use Rattle.std.proofs.Common.{◌∙◌, sym, nat_lt}
use Rattle.std.proofs.lemmas.Bool.{cond-false, le-ltb}
use Rattle.session.proofs.OffsetLemmas.{two_bytes}
use Rattle.session.proofs.offsets.size_below_800.Goals as goal

pub returns-else-c-lt128-clause-size : goal.returns-else-c-lt128-clause-size
returns-else-c-lt128-clause-size c =
    sym (two_bytes c.args.c c.requires ∙ cond-false (nat_lt c.args.c 0x80) 1 2 (le-ltb c.args.c 0x80 c.if-c-lt128.false))
