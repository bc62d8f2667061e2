use Rattle.std.proofs.Common.{length, sym, arith}
use Rattle.terminal.proofs.PrefixLemmas.{after_none, after_some}
use Rattle.terminal.proofs.numbers.Part.after.Goals as goal

pub returns-then-start-end-clause-styles : goal.returns-then-start-end-clause-styles
returns-then-start-end-clause-styles c =
    after_some c.args.self.now c.paragraph.result c.args.start (length c.args.self.now.characters.now) c.requires.len c.if-start-end.true c.paragraph.ensures.numbers
    c.paragraph.ensures.text

pub returns-clause-styles : goal.returns-clause-styles
returns-clause-styles c = sym (after_none c.args.self.now c.args.start (omega (arith, c.requires.len, c.if-start-end.false)))
