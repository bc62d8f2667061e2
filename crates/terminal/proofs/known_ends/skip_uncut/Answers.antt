use Rattle.std.proofs.Common.{◌-◌, Some, None, arith}
use Rattle.lines.specs.Engine.{rules_of}
use Rattle.terminal.proofs.KnownEndLemmas.{no_ends_uncut, uncut_before}
use Rattle.terminal.proofs.known_ends.skip_uncut.Goals as goal

pub returns-in-Some-clause-none : goal.returns-in-Some-clause-none
returns-in-Some-clause-none c =
    let rules = rules_of c.args.engine.now in
    let rest = c.split_at.result.1.now in
    no_ends_uncut rules c.args.text.now rest c.args.from (c.in-Some.n - 1) c.split_at.ensures.back (omega (arith, c.in-Some.ensures.paragraphs)) c.requires.none
    (λ k below. uncut_before rules rest (Some c.in-Some.n) k c.in-Some.ensures.place (omega (arith, c.in-Some.ensures.paragraphs)) (omega (arith, below)))

pub returns-in-None-clause-none : goal.returns-in-None-clause-none
returns-in-None-clause-none c =
    let rules = rules_of c.args.engine.now in
    let rest = c.split_at.result.1.now in
    no_ends_uncut rules c.args.text.now rest c.args.from c.saturating_sub.result c.split_at.ensures.back (omega arith) c.requires.none
    (λ k below. uncut_before rules rest None k c.in-None.ensures.place (omega (arith, below)) (omega (arith, below)))
