use Rattle.std.proofs.Common.{◌≡◌, ℕ, take, get_or, true, false, sym, ap, ◌∙◌, arith, rules, refl, [], ◌∷◌}
use Rattle.std.specs.Char.{is_digit}
use Rattle.std.proofs.lemmas.List.{take_more}
use Rattle.std.proofs.lemmas.List.Folds.{list_all-append}
use Rattle.std.proofs.lemmas.List.Sums.{prefix_len-drop_all, prefix_len-drop_no, prefix_len-drop_yes}
use Rattle.script_commands.proofs.commands.hex_len.Goals as goal

pub returns-then-not-is_digit-clause-len : goal.returns-then-not-is_digit-clause-len
returns-then-not-is_digit-clause-len c =
    let here : get_or c.args.text.now c.loop-at.at c.index-text-at.result ≡ c.index-text-at.result = sym c.index-text-at.is in
    let isnt : is_digit c.index-text-at.result 16 ≡ false = search rules in
    let none = prefix_len-drop_no (λ (x : ℕ). is_digit x 16) c.args.text.now c.loop-at.at c.index-text-at.result c.loop-at-test.true (ap (λ (x : ℕ). is_digit x 16) here ∙ isnt) in
    omega (arith, none, c.loop-at.invariant.len)

pub returns-clause-len : goal.returns-clause-len
returns-clause-len c =
    let none = prefix_len-drop_all (λ (x : ℕ). is_digit x 16) c.args.text.now c.loop-at.at (search rules) in
    omega (arith, none, c.loop-at.invariant.len)

pub loop-at-preserved : goal.loop-at-preserved
loop-at-preserved c =
    let here : get_or c.args.text.now c.loop-at.at c.index-text-at.result ≡ c.index-text-at.result = sym c.index-text-at.is in
    let is : is_digit c.index-text-at.result 16 ≡ true = search rules in
    let more = prefix_len-drop_yes (λ (x : ℕ). is_digit x 16) c.args.text.now c.loop-at.at c.index-text-at.result c.loop-at-test.true (ap (λ (x : ℕ). is_digit x 16) here ∙ is) in
    record {
      len = omega (arith, more, c.loop-at.invariant.len);
      digits =
          rw (
            take_more c.args.text.now c.loop-at.at c.index-text-at.result c.loop-at-test.true,
            here,
            list_all-append
                (λ (x : ℕ). is_digit x 16) (take c.loop-at.at c.args.text.now) (c.index-text-at.result ∷ []),
            c.loop-at.invariant.digits,
            is,
          ) refl;
    }
