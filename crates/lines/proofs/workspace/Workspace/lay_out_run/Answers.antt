use Rattle.std.proofs.Common.{◌≡◌, ◌∙◌, ◌+◌, ◌≤◌, ℕ, List, length, ap, refl, subst, sym, arith}
use Rattle.breaks.specs.Marks.{marks_of}
use Rattle.breaks.specs.declared.mark.Mark.{Mark}
use Rattle.lines.specs.Layouts.{with_advances, Layout}
use Rattle.lines.specs.Paragraphs.{rules_in}
use Rattle.lines.specs.SameKind.{levels_with, marks_with, replacement}
use Rattle.lines.specs.Windows.{StaysOutside}
use Rattle.lines.proofs.EditedLemmas.{levels_stay_with, marks_stay_with}
use Rattle.lines.proofs.SameKindLemmas.{put_levels, put_levels_len, put_marks, same_base}
use Rattle.lines.proofs.workspace.Workspace.lay_out_run.Goals as goal

pub fill_edited-requires-clause-edited : goal.fill_edited-requires-clause-edited
fill_edited-requires-clause-edited c =
    let rules = c.args.rules.now in
    let laid = c.args.change.laid.now in
    let by = with_advances (rules_in rules) laid.advances in
    let text = c.args.text.now in
    let run = c.args.change.run in
    let is = c.requires.change.laid.from_scratch in
    let width = c.args.ruler.width in
    let theorem = c.doubling_keeps_levels.ensures in
    let as_many : length (marks_of rules.tables.now rules.options.whole_numbers laid.text) ≡ length laid.text =
    sym (ap (λ (t : List ℕ). length (marks_of rules.tables.now rules.options.whole_numbers t)) c.text.ensures) ∙ c.marks_are_as_many.ensures ∙ ap (λ (t : List ℕ). length t) c.text.ensures in
    let len = put_levels_len by width laid is text run c.requires.change.run c.levels.result.now c.put_levels.new.list.items c.levels.ensures.levels c.levels.ensures.len c.in_ok-put_levels.ensures in
    let marks = c.deref-2.ensures.value
    ∙ put_marks by width laid is text run c.requires.change.run c.marks.result.now c.put_marks.new.list.items c.marks.ensures as_many c.in_ok-put_marks.ensures c.doubling_keeps_marks.ensures in
    let laid_levels : length laid.levels ≡ length laid.text = sym (ap (λ (xs : List ℕ). length xs) c.levels.ensures.levels) ∙ c.levels.ensures.len in
    let laid_marks : length laid.marks ≡ length laid.text = ap (λ (l : Layout). length l.marks) is ∙ as_many in
    record {
      laid = is;
      laid_levels = laid_levels;
      laid_marks = laid_marks;
      edit = record { within = c.requires.change.run.within; before = c.requires.change.run.before; after = c.requires.change.run.after };
      limits = (c.requires.change.laid.paragraph.within, c.requires.limit);
      base = same_base by width laid is text run c.requires.change.run c.base.result c.base.ensures theorem;
      levels_stay = subst (StaysOutside (replacement run) laid.levels) (sym (c.deref.ensures.value ∙ c.in_ok-put_levels.ensures ∙ ap (levels_with run) c.levels.ensures.levels))
          (levels_stay_with run laid.levels (omega (arith, laid_levels, c.requires.change.run.within.0)));
      levels = c.deref.ensures.value
          ∙ put_levels by width laid is text run c.requires.change.run c.levels.result.now c.put_levels.new.list.items c.levels.ensures.levels c.levels.ensures.len c.in_ok-put_levels.ensures theorem;
      levels_len = ap (λ (xs : List ℕ). length xs) c.deref.ensures.value ∙ len;
      marks_stay = subst (StaysOutside (replacement run) laid.marks) (sym (c.deref-2.ensures.value ∙ c.in_ok-put_marks.ensures ∙ ap (marks_with run) c.marks.ensures))
          (marks_stay_with run laid.marks c.requires.change.run.some (omega (arith, laid_marks, c.requires.change.run.within.0)));
      marks = marks;
      marks_len = ap (λ (ms : List Mark). length ms) marks ∙ c.marks_are_as_many-2.ensures;
    }

pub returns-clause-layout : goal.returns-clause-layout
returns-clause-layout c =
    let rules = c.args.rules.now in
    let laid = c.args.change.laid.now in
    let by = with_advances (rules_in rules) laid.advances in
    let text = c.args.text.now in
    let run = c.args.change.run in
    let is = c.requires.change.laid.from_scratch in
    let width = c.args.ruler.width in
    let theorem = c.doubling_keeps_levels.ensures in
    let as_many : length (marks_of rules.tables.now rules.options.whole_numbers laid.text) ≡ length laid.text =
    sym (ap (λ (t : List ℕ). length (marks_of rules.tables.now rules.options.whole_numbers t)) c.text.ensures) ∙ c.marks_are_as_many.ensures ∙ ap (λ (t : List ℕ). length t) c.text.ensures in
    let found = c.in_ok-shared.ensures in
    record {
      base_is = same_base by width laid is text run c.requires.change.run c.base-2.result c.base-2.ensures theorem;
      levels = put_levels by width laid is text run c.requires.change.run c.levels.result.now c.put_levels.new.list.items c.levels.ensures.levels c.levels.ensures.len c.in_ok-put_levels.ensures theorem;
      marks = put_marks by width laid is text run c.requires.change.run c.marks.result.now c.put_marks.new.list.items c.marks.ensures as_many c.in_ok-put_marks.ensures c.doubling_keeps_marks.ensures;
      ends = c.in_ok-fill_ends.ensures;
      lines = found.lines;
      len = put_levels_len by width laid is text run c.requires.change.run c.levels.result.now c.put_levels.new.list.items c.levels.ensures.levels c.levels.ensures.len c.in_ok-put_levels.ensures;
      sound = found.sound;
      within = found.within;
      lines_len = found.lines_len;
    }
