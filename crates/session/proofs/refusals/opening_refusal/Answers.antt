use Rattle.std.proofs.Common.{◌≡◌, ◌<◌, ◌≤◌, not, true, false, Bool, length, refl, sym, ◌∙◌, arith}
use Rattle.std.specs.Str.{chars}
use Rattle.std.proofs.lemmas.Bool.Decides.{nat_tests}
use Rattle.lines.specs.Engine.{rules_of}
use Rattle.lines.specs.Layouts.{cut_by}
use Rattle.session.specs.Edits.{is_within_limit}
use Rattle.session.specs.declared.edits.TheConstants.{TEXT_LIMIT}
use Rattle.session.proofs.RefusalSteps.{long_paragraph, long_text, not_refused}
use Rattle.session.proofs.refusals.opening_refusal.Goals as goal

flipped : (b : Bool) → not b ≡ true → b ≡ false
flipped true is = absurd (cc is)
flipped false is = refl

kept : (b : Bool) → not b ≡ false → b ≡ true
kept true is = refl
kept false is = absurd (cc is)

pub returns-then-is_too_long : goal.returns-then-is_too_long
returns-then-is_too_long c =
    let text = c.args.text.now in
    let long : TEXT_LIMIT < length (chars text) = grind (arith, nat_tests, c.is_too_long.ensures, c.if-is_too_long.true) in
    sym (long_text (cut_by (rules_of c.args.engine.now)) (chars text) c.args.width c.if-width-eq0.false long)

pub returns-then-has_long_in_text : goal.returns-then-has_long_in_text
returns-then-has_long_in_text c =
    let text = c.args.text.now in
    let is_cut = cut_by (rules_of c.args.engine.now) in
    let short : length (chars text) ≤ TEXT_LIMIT = grind (arith, nat_tests, c.is_too_long.ensures, c.if-is_too_long.false) in
    let long : not (is_within_limit is_cut (chars text)) ≡ true = sym c.has_long_in_text.ensures ∙ c.if-has_long_in_text.true in
    sym (long_paragraph is_cut (chars text) c.args.width c.if-width-eq0.false short (flipped (is_within_limit is_cut (chars text)) long))

pub returns : goal.returns
returns c =
    let text = c.args.text.now in
    let is_cut = cut_by (rules_of c.args.engine.now) in
    let short : length (chars text) ≤ TEXT_LIMIT = grind (arith, nat_tests, c.is_too_long.ensures, c.if-is_too_long.false) in
    let within : not (is_within_limit is_cut (chars text)) ≡ false = sym c.has_long_in_text.ensures ∙ c.if-has_long_in_text.false in
    sym (not_refused is_cut (chars text) c.args.width c.if-width-eq0.false short (kept (is_within_limit is_cut (chars text)) within))
