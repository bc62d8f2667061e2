use Rattle.std.proofs.Common.{◌<◌, ℕ, length, replicate, arith}
use Rattle.std.proofs.lemmas.List.{length-replicate}
use Rattle.sequences.specs.Styled.{DEFAULT}
use Rattle.terminal.specs.Numbers.{numbered}
use Rattle.terminal.proofs.WrittenLemmas.{appends_spaces}
use Rattle.terminal.proofs.line.push_blanks.Goals as goal

pub returns-clause-text : goal.returns-clause-text
returns-clause-text c =
    let text = c.args.text.now in
    let count = c.args.count in
    let some : 0 < length (replicate count 32) = omega (arith, length-replicate {A = ℕ} count 32, c.if-count-eq0.false) in
    appends_spaces c.args.out.now.items c.push_change.new.out.items c.push_spaces.new.out.items (replicate count 32)
    (numbered text.links.items text.runs.items c.args.before) DEFAULT some c.in_ok-push_change.ensures c.in_ok-push_spaces.ensures
