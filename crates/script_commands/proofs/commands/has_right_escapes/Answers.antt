use Rattle.std.proofs.Common.{◌≡◌, ℕ, ◌+◌, get_or, drop, Some, None, refl, sym, ap, ◌∙◌, arith}
use Rattle.std.proofs.lemmas.List.{take_rest}
use Rattle.script_commands.specs.Commands.{written}
use Rattle.script_commands.proofs.EscapeLemmas.{all_right, next_right, none_right}
use Rattle.script_commands.proofs.commands.has_right_escapes.Goals as goal

pub loop-at-init : goal.loop-at-init
loop-at-init c = record { within = omega arith; rest = refl }

pub loop-at-preserved : goal.loop-at-preserved
loop-at-preserved c =
    let text = c.args.text.now in
    let n = c.loop-at.at in
    let d = c.index-text-at.result in
    let is : written (get_or text n d) (drop (n + 1) text) ≡ Some (c.in-Some.field-0-0, c.in-Some.len) =
    ap (λ (x : ℕ). written x (drop (n + 1) text)) (sym c.index-text-at.is) ∙ ap (written d) (sym (take_rest text (n + 1))) ∙ sym c.in-Some.ensures.value in
    record {
      within = search arith;
      rest = sym (next_right text n d c.loop-at-test.true c.in-Some.field-0-0 c.in-Some.len is c.in-Some.ensures.within.0) ∙ c.loop-at.invariant.rest;
    }

pub returns-in-None : goal.returns-in-None
returns-in-None c =
    let text = c.args.text.now in
    let n = c.loop-at.at in
    let d = c.index-text-at.result in
    let is : written (get_or text n d) (drop (n + 1) text) ≡ None =
    ap (λ (x : ℕ). written x (drop (n + 1) text)) (sym c.index-text-at.is) ∙ ap (written d) (sym (take_rest text (n + 1))) ∙ sym c.in-None.ensures.value in
    sym (none_right text n d c.loop-at-test.true is) ∙ c.loop-at.invariant.rest

pub returns : goal.returns
returns c = sym (all_right c.args.text.now c.loop-at.at (omega (arith, c.loop-at-test.false))) ∙ c.loop-at.invariant.rest
