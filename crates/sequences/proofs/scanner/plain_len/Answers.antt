use Rattle.std.proofs.Common.{◌≡◌, ◌==◌, ◌-◌, false, not, get_or, arith}
use Rattle.std.proofs.lemmas.Bool.{not-true}
use Rattle.std.proofs.lemmas.List.Sums.{prefix_len_passes}
use Rattle.sequences.specs.Characters.{is_dropped}
use Rattle.sequences.proofs.PlainLemmas.{backspace_is_dropped}
use Rattle.sequences.proofs.StepLemmas.{no_backspaces_at, prefix_all}
use Rattle.sequences.proofs.scanner.plain_len.Goals as goal

pub returns-then-char_at-eq-BS-clause-kept : goal.returns-then-char_at-eq-BS-clause-kept
returns-then-char_at-eq-BS-clause-kept c =
    prefix_all (λ d. not (is_dropped d)) c.args.text.now (c.prefix_len-len.result - 1) (omega (arith, c.prefix_len-len.ensures.len))

-- a character that remains is not BS
pub returns-then-char_at-eq-BS-clause-alone : goal.returns-then-char_at-eq-BS-clause-alone
returns-then-char_at-eq-BS-clause-alone c some =
    let text = c.args.text.now in
    let at = c.prefix_len-len.result - 1 in
    let passes = prefix_len_passes (λ d. not (is_dropped d)) text at 0 (omega (arith, c.prefix_len-len.ensures.len)) in
    let other : (get_or text at 0 == 0x08) ≡ false = backspace_is_dropped (get_or text at 0) (not-true _ passes) in
    no_backspaces_at text at (λ _. other)

pub returns-else-len-gt0-clause-kept : goal.returns-else-len-gt0-clause-kept
returns-else-len-gt0-clause-kept c =
    prefix_all (λ d. not (is_dropped d)) c.args.text.now c.prefix_len-len.result (omega (arith, c.prefix_len-len.ensures.len))
