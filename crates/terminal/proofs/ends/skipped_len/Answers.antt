use Rattle.std.proofs.Common.{◌≡◌, ◌∙◌, false, get_or, None, sym, rules}
use Rattle.sequences.specs.Characters.{is_dropped}
use Rattle.sequences.specs.Sequences.{sequence_len}
use Rattle.terminal.proofs.EndLemmas.{control_skipped, none_skipped, sequence_skipped}
use Rattle.terminal.proofs.KnownEndLemmas.{none_known}
use Rattle.terminal.proofs.PassedLemmas.{control_skips, sequence_skips}
use Rattle.terminal.proofs.ends.skipped_len.Goals as goal

pub returns-in-Some-clause-some : goal.returns-in-Some-clause-some
returns-in-Some-clause-some c = sequence_skipped c.args.text.now c.in-Some.len c.requires c.in-Some.ensures.len c.in-Some.ensures.some

pub returns-in-Some-clause-skips : goal.returns-in-Some-clause-skips
returns-in-Some-clause-skips c =
    let found = c.in-Some.ensures in
    sequence_skips c.args.text.now c.in-Some.len c.requires found.len found.some found.within

pub returns-then-is_dropped-clause-skips : goal.returns-then-is_dropped-clause-skips
returns-then-is_dropped-clause-skips c =
    let text = c.args.text.now in
    let none : None ≡ sequence_len text = sym c.in_default.is ∙ c.sequence_len.ensures.len in
    control_skips text c.requires none (search rules)

pub returns-else-is_dropped-clause-alone : goal.returns-else-is_dropped-clause-alone
returns-else-is_dropped-clause-alone c =
    let text = c.args.text.now in
    let no : is_dropped (get_or text 0 0) ≡ false = search rules in
    λ _. none_known text c.requires no

pub returns-then-is_dropped-clause-some : goal.returns-then-is_dropped-clause-some
returns-then-is_dropped-clause-some c =
    let text = c.args.text.now in
    let none : None ≡ sequence_len text = sym c.in_default.is ∙ c.sequence_len.ensures.len in
    control_skipped text c.requires none (search rules)

pub returns-else-is_dropped-clause-none : goal.returns-else-is_dropped-clause-none
returns-else-is_dropped-clause-none c =
    let text = c.args.text.now in
    let no : is_dropped (get_or text 0 0) ≡ false = search rules in
    λ _. none_skipped text c.requires no
