use Rattle.std.proofs.Common.{◌∙◌, List, length, refl, subst, sym}
use Rattle.std.specs.List.{All}
use Rattle.lines.specs.Engine.{rules_of}
use Rattle.lines.specs.Layouts.{Layout}
use Rattle.lines.specs.Matching.{MatchAtEnd, MatchAtStart}
use Rattle.session.specs.Changes.{AreFound, HasLines}
use Rattle.session.specs.Kept.{lines_in, text_of, IsFresh}
use Rattle.session.specs.Matching.{AreBrought}
use Rattle.session.specs.declared.edits.ChangedLines.{ChangedLines}
use Rattle.session.specs.declared.edits.Damage.{Damage}
use Rattle.session.proofs.BorderLemmas.{length-lines}
use Rattle.session.proofs.TrimLemmas.{AreFound-all}
use Rattle.session.proofs.WidthLemmas.{all_brought, all_each, all_fit, changed-le, each_laid_out, refilled_fit, written_is_changed, Fills-written, FillsAtMost-written, SetsWidth-after}
use Rattle.session.proofs.width.set_width.Goals as goal

pub reflow_all-requires-clause-fit : goal.reflow_all-requires-clause-fit
reflow_all-requires-clause-fit g c =
    let kept = g.S.ParagraphStore.items c.args.store.now in
    let laid = each_laid_out c.paragraphs_are_pieces.ensures c.args.engine.now c.args.form.now.width c.args.form.now.is_measured kept c.requires in
    all_fit (rules_of c.args.engine.now) (rules_of c.find_all.new.engine) c.args.new_width c.in-Ok.scratch.len kept c.in-Ok.parts.items c.find_all.ensures.rules laid
    c.in-Ok.ensures.scratch c.in-Ok.ensures.ok

pub reflow_all-requires-clause-lines_fit : goal.reflow_all-requires-clause-lines_fit
reflow_all-requires-clause-lines_fit g c =
    let kept = g.S.ParagraphStore.items c.args.store.now in
    let laid = each_laid_out c.paragraphs_are_pieces.ensures c.args.engine.now c.args.form.now.width c.args.form.now.is_measured kept c.requires in
    rw (all_brought (rules_of c.args.engine.now) (rules_of c.find_all.new.engine) c.args.new_width c.in-Ok.scratch.len kept c.in-Ok.parts.items c.find_all.ensures.rules laid c.in-Ok.ensures.ok)
    (refilled_fit c.paragraphs_are_pieces.ensures c.lines_are_few.ensures c.args.engine.now c.args.form.now.width c.args.new_width c.args.form.now.is_measured kept c.requires c.if-new_width-eq0.false)

pub returns-clause-ok : goal.returns-clause-ok
returns-clause-ok g c =
    let kept = g.S.ParagraphStore.items c.args.store.now in
    let laid = each_laid_out c.paragraphs_are_pieces.ensures c.args.engine.now c.args.form.now.width c.args.form.now.is_measured kept c.requires in
    let made = c.reflow_all.ensures.items
    ∙ all_brought (rules_of c.args.engine.now) (rules_of c.find_all.new.engine) c.args.new_width c.in-Ok.scratch.len kept c.in-Ok.parts.items c.find_all.ensures.rules laid c.in-Ok.ensures.ok in
    let same = written_is_changed (rules_of c.args.engine.now) c.args.new_width kept c.in-Ok.parts.items c.in-Ok.ensures.ok in
    SetsWidth-after c.paragraphs_are_pieces.ensures c.lines_are_few.ensures c.args.engine.now c.args.form.now.width c.args.new_width c.args.form.now.is_measured kept c.requires c.if-new_width-eq0.false
    c.reflow_all.new.engine (c.reflow_all.ensures.rules ∙ c.find_all.ensures.rules)
    (FillsAtMost-written _ _ (length (text_of kept)) c.args.engine.now c.find_all.new.engine c.reflow_all.new.engine
    c.find_all.ensures.counts same (changed-le (rules_of c.args.engine.now) c.args.new_width kept) c.reflow_all.ensures.at_most)
    (Fills-written _ _ c.args.engine.now c.find_all.new.engine c.reflow_all.new.engine c.in-Ok.ensures.exact same c.reflow_all.ensures.counts)
    _ _ _ _ made c.count-count.ensures c.total_lines-old_lines.ensures c.total_lines.ensures

pub staying_at_start-start-requires : goal.staying_at_start-start-requires
staying_at_start-start-requires g c =
    let kept = g.S.ParagraphStore.items c.args.store.now in
    let laid = each_laid_out c.paragraphs_are_pieces.ensures c.args.engine.now c.args.form.now.width c.args.form.now.is_measured kept c.requires in (
      rules_of c.args.engine.now,
      c.args.new_width,
      subst (AreBrought (rules_of c.args.engine.now) c.args.new_width kept) (sym c.deref.ensures.value)
          (record { laid = all_each (IsFresh (rules_of c.args.engine.now)) kept laid; brought = c.in-Ok.ensures.ok }),
    )

pub staying_at_end-end-requires : goal.staying_at_end-end-requires
staying_at_end-end-requires g c =
    let kept = g.S.ParagraphStore.items c.args.store.now in
    let laid = each_laid_out c.paragraphs_are_pieces.ensures c.args.engine.now c.args.form.now.width c.args.form.now.is_measured kept c.requires in (
      rules_of c.args.engine.now,
      c.args.new_width,
      subst (AreBrought (rules_of c.args.engine.now) c.args.new_width kept) (sym c.deref-2.ensures.value)
          (record { laid = all_each (IsFresh (rules_of c.args.engine.now)) kept laid; brought = c.in-Ok.ensures.ok }),
    )

pub returns-clause-changed : goal.returns-clause-changed
returns-clause-changed g c =
    let kept = g.S.ParagraphStore.items c.args.store.now in
    let rules = rules_of c.args.engine.now in
    let laid = each_laid_out c.paragraphs_are_pieces.ensures c.args.engine.now c.args.form.now.width c.args.form.now.is_measured kept c.requires in
    let made = c.reflow_all.ensures.items
    ∙ all_brought rules (rules_of c.find_all.new.engine) c.args.new_width c.in-Ok.scratch.len kept c.in-Ok.parts.items c.find_all.ensures.rules laid c.in-Ok.ensures.ok in
    let brought : AreBrought rules c.args.new_width kept c.in-Ok.parts.items = record { laid = all_each (IsFresh rules) kept laid; brought = c.in-Ok.ensures.ok } in
    let start = c.staying_at_start-start.ensures rules c.args.new_width (subst (AreBrought rules c.args.new_width kept) (sym c.deref.ensures.value) brought) in
    let end = c.staying_at_end-end.ensures rules c.args.new_width (subst (AreBrought rules c.args.new_width kept) (sym c.deref-2.ensures.value) brought) in
    let after = g.S.ParagraphStore.items c.reflow_all.new.store in
    let s = c.staying_at_start-start.result in
    let e = c.staying_at_end-end.result in
    let damage : Damage = record {
      first_line = 0;
      old_lines = c.total_lines-old_lines.result;
      new_lines = c.total_lines.result;
      first_par = 0;
      old_pars = c.count-count.result;
      new_pars = c.count-count.result;
    } in
    subst (λ (x : ChangedLines). AreFound kept after damage x) (sym c.without_same.ensures)
    (AreFound-all kept after damage s e refl (c.total_lines-old_lines.ensures ∙ sym (length-lines kept)) (c.total_lines.ensures ∙ sym (length-lines after))
    (subst (λ (ms : List Layout). All HasLines kept → All HasLines ms → MatchAtStart (lines_in kept) (lines_in ms) s) (sym made) start)
    (subst (λ (ms : List Layout). All HasLines kept → All HasLines ms → MatchAtEnd (lines_in kept) (lines_in ms) e) (sym made) end))
