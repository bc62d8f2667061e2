use Rattle.std.proofs.Common.{◌≡◌, ◌∷◌, ◌++◌, [], None, Option, List, ℕ, ap, subst, sym, ◌∙◌}
use Rattle.bidi.specs.Cuts.{paragraphs, SplitsAt}
use Rattle.lines.specs.Engine.{rules_of}
use Rattle.lines.specs.Layouts.{cut_by, layout_of, with_advances}
use Rattle.lines.specs.Measures.{given_if}
use Rattle.session.specs.Kept.{layouts_of}
use Rattle.session.proofs.JoinedLemmas.{front_all, layouts_last}
use Rattle.session.proofs.joined.lay_out.Goals as goal

-- a text without a boundary is one paragraph
pub returns-clause-ok : goal.returns-clause-ok
returns-clause-ok c =
    let by = rules_of c.args.engine.now in
    let text = c.args.text.items in
    let advances = given_if c.args.form.is_measured c.args.advances.items in
    let width = c.args.form.width in
    let whole : SplitsAt (cut_by by) text None = λ some. subst (λ (t : List ℕ). paragraphs (cut_by by) t ≡ t ∷ []) c.deref.ensures.value (c.is_one.ensures c.if-not-is_one.false) in
    let one = c.in_ok-one.ensures.ok ∙ ap (layout_of (with_advances by advances) width) c.trim-text.ensures
    ∙ ap (λ (a : Option (List ℕ)). layout_of (with_advances by a) width text) (sym (front_all text advances c.requires.each)) in
    layouts_last (with_advances by None) width (layouts_of (with_advances by advances) width text) text advances c.in_ok-kept-2.kept.items
    (ap (λ kept. kept ++ layouts_of (with_advances by advances) width text) c.in_ok-kept-2.ensures.items) _ _ (whole c.requires.some) one c.in_ok-push.ensures.items
