use Rattle.std.proofs.Common.{◌≡◌, ◌<◌, ℕ, Bool, List, Option, get_or, length, ap, ◌∙◌, arith}
use Rattle.std.proofs.lemmas.Grind.{get_or_default_zero}
use Rattle.joining.specs.Joiners.{joiner_at}
use Rattle.joining.specs.Presentation.{presentation_form}
use Rattle.joining.specs.Shaping.{ligature_at, shown}
use Rattle.joining.specs.declared.joiner.Joiner.{Joiner}
use Rattle.joining.specs.declared.presentation.PresentationForms.{PresentationForms}
use Rattle.joining.proofs.ShapingLemmas.{IsNext, all_hidden, all_shown, first_joined, ligature_is, next_written, shown_is}
use Rattle.joining.proofs.shaping.join_letters.Goals as goal

pub loop-at-init : goal.loop-at-init
loop-at-init g c =
    first_joined (g.F.LetterForms.forms c.args.forms.now) (g.J.Joiners.all c.args.text.now) c.args.characters.now c.requires.text c.clear.new.hidden
    (c.clear.ensures.len ∙ c.requires.hidden) c.clear.ensures.none

pub loop-at-preserved : goal.loop-at-preserved
loop-at-preserved g c =
    let forms : ℕ → PresentationForms = g.F.LetterForms.forms c.args.forms.now in
    let text : List Joiner = g.J.Joiners.all c.args.text.now in
    let old : List ℕ = c.args.characters.now in
    let k : ℕ = c.loop-at.at in
    let n : ℕ = c.find_next-next.result.at in
    let joined : Bool = c.loop-at.joins_before in
    let joined_next : Bool = c.find_next-next.result.joined in
    let before : Option ℕ = c.loop-at.before in
    let after : Option ℕ = c.ligature_to-after.result in
    let form : Option ℕ = c.presentation_form-form.result in
    let new : List ℕ = c.loop-at.characters in
    let hidden : List Bool = c.loop-at.hidden in
    let so = c.loop-at.invariant in
    let more : k < length old = omega (arith, c.loop-at-test.true, so.len) in
    let found = c.find_next-next.ensures in
    let next : IsNext text k n joined_next =
    record { after = found.after; within = found.within; between = found.between; stops = found.stops; found = found.joined } in
    let read : c.index-characters-at.result ≡ get_or new k 0 =
    c.index-characters-at.is ∙ get_or_default_zero new k c.index-characters-at.result c.loop-at-test.true in
    let form_is : form ≡ presentation_form (forms (get_or new k 0)) (joiner_at text k) joined joined_next =
    c.presentation_form-form.ensures
    ∙ ap (λ char. presentation_form (forms char) c.joiner_at-joiner.result joined joined_next) read
    ∙ ap (λ (x : Joiner). presentation_form (forms (get_or new k 0)) x joined joined_next) c.joiner_at-joiner.ensures in
    let made : after ≡ ligature_at forms text old k =
    c.ligature_to-after.ensures
    ∙ ligature_is forms text old c.requires.text k n joined joined_next before after new hidden so next more form form_is found.found in
    next_written forms text old c.requires.text k n joined joined_next before after new hidden so next more c.shown.result c.is_some.result
    (c.shown.ensures ∙ ap (λ char. shown char form before after) read
    ∙ shown_is forms text old c.requires.text k n joined joined_next before after new hidden so next more form form_is made) made c.is_some.ensures

pub returns-clause-characters : goal.returns-clause-characters
returns-clause-characters g c =
    all_shown (g.F.LetterForms.forms c.args.forms.now) (g.J.Joiners.all c.args.text.now) c.args.characters.now c.requires.text c.loop-at.at c.loop-at.joins_before
    c.loop-at.before c.loop-at.characters c.loop-at.hidden c.loop-at.invariant (omega (arith, c.loop-at-test.false))

pub returns-clause-hidden : goal.returns-clause-hidden
returns-clause-hidden g c =
    all_hidden (g.F.LetterForms.forms c.args.forms.now) (g.J.Joiners.all c.args.text.now) c.args.characters.now c.requires.text c.loop-at.at c.loop-at.joins_before
    c.loop-at.before c.loop-at.characters c.loop-at.hidden c.loop-at.invariant (omega (arith, c.loop-at-test.false))
