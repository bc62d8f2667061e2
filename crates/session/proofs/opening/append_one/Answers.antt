use Rattle.std.proofs.Common.{◌∷◌, ◌++◌, ◌≡◌, [], ℕ, List, length, sym, ap, subst, ◌∙◌}
use Rattle.std.specs.Result.{OnOk}
use Rattle.lines.specs.Engine.{rules_of}
use Rattle.lines.specs.Layouts.{layout_of, with_advances, IsParagraph, Layout}
use Rattle.session.specs.Kept.{first_advances, TotalsFit}
use Rattle.session.specs.Offsets.{length_in}
use Rattle.session.specs.declared.offsets.Encoding.TheVariants.{Utf8}
use Rattle.session.proofs.OffsetLemmas.{bytes_of}
use Rattle.session.proofs.opening.append_one.Goals as goal

pub lay_out_moved-requires-clause-paragraph : goal.lay_out_moved-requires-clause-paragraph
lay_out_moved-requires-clause-paragraph g c =
    subst (IsParagraph (rules_of c.args.engine.now)) (sym (c.in_ok-characters.ensures ∙ c.in_ok-list.ensures)) c.requires.paragraph

pub lay_out_moved-requires-clause-bytes : goal.lay_out_moved-requires-clause-bytes
lay_out_moved-requires-clause-bytes g c =
    bytes_of c.args.text.now c.utf8.text ∙ ap (length_in Utf8) (sym (c.in_ok-characters.ensures ∙ c.in_ok-list.ensures))

pub push-requires : goal.push-requires
push-requires g c =
    let by = rules_of c.args.engine.now in
    let text = c.in_ok-characters.ensures ∙ c.in_ok-list.ensures in
    let one = c.in_ok-kept.ensures.ok
    ∙ ap (λ (t : List ℕ). layout_of (with_advances by (first_advances c.args.form.is_measured (length t))) c.args.form.width t) text in
    subst (λ (k : Layout). TotalsFit (g.S.ParagraphStore.items c.args.store.now ++ k ∷ [])) (sym one) c.requires.fit

pub returns-clause-ok : goal.returns-clause-ok
returns-clause-ok g c =
    let by = rules_of c.args.engine.now in
    let text = c.in_ok-characters.ensures ∙ c.in_ok-list.ensures in
    let one = c.in_ok-kept.ensures.ok
    ∙ ap (λ (t : List ℕ). layout_of (with_advances by (first_advances c.args.form.is_measured (length t))) c.args.form.width t) text in
    subst (λ (k : Layout). OnOk c.push.result (g.S.ParagraphStore.items c.push.new.store ≡ g.S.ParagraphStore.items c.args.store.now ++ k ∷ [])) one c.push.ensures
