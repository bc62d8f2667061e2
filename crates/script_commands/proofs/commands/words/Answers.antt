use Rattle.std.proofs.Common.{◌≡◌, ℕ, ◌+◌, Bool, List, Option, length, take, drop, nat_lt, Some, None, sym, ap, ◌∙◌, arith, rules, true, false, if◌then◌else◌}
use Rattle.std.specs.List.{position_or_len}
use Rattle.std.proofs.lemmas.Bool.Decides.{nat_tests}
use Rattle.std.proofs.lemmas.List.Sums.{position_or_len_is}
use Rattle.std.proofs.lemmas.List.{take_rest}
use Rattle.script_commands.specs.Commands.{is_space, parted}
use Rattle.script_commands.proofs.commands.words.Goals as goal

-- the parts of a text before and after the character at a position, if the position is inside the text
abbrev sides : List ℕ → ℕ → Bool → Option (List ℕ × List ℕ)
sides text n within = if within then Some (take n text, drop (n + 1) text) else None

pub returns-in-Some : goal.returns-in-Some
returns-in-Some c =
    let text = c.args.text.now in
    let at = c.in-Some.at in
    let found : position_or_len is_space text ≡ at = position_or_len_is is_space text at 0 (search rules) (search rules) (search rules) in
    let within : nat_lt at (length text) ≡ true = grind (arith, nat_tests) in
    let is : parted text ≡ Some (take at text, drop (at + 1) text) = ap (λ n. sides text n (nat_lt n (length text))) found ∙ ap (sides text at) within in
    ap (λ rest. Some (take at text, rest)) (take_rest text (at + 1)) ∙ sym is

pub returns-in-None : goal.returns-in-None
returns-in-None c =
    let text = c.args.text.now in
    let none : position_or_len is_space text ≡ length text = position_or_len_is is_space text (length text) 0 (omega arith) (search rules) (search rules) in
    let within : nat_lt (length text) (length text) ≡ false = grind (arith, nat_tests) in
    sym (ap (λ n. sides text n (nat_lt n (length text))) none ∙ ap (sides text (length text)) within)
