use Rattle.std.proofs.Common.{◌≡◌, ◌∙◌, List, ℕ, ◌≤◌, length, take, ap, subst, sym}
use Rattle.bidi.specs.Levels.{levels_of}
use Rattle.breaks.specs.Marks.{marks_of}
use Rattle.lines.specs.Layouts.{base_of, fill_of, with_advances, Layout}
use Rattle.std.specs.Prelude.{option_map}
use Rattle.lines.specs.Paragraphs.{rules_in}
use Rattle.lines.specs.Reordering.{ends_by}
use Rattle.lines.specs.declared.engine.TheConstants.{PARAGRAPH_LIMIT}
use Rattle.lines.proofs.LayoutLemmas.{filled_as}
use Rattle.lines.proofs.workspace.Workspace.fill.Goals as goal

pub fill_lines-requires-clause-paragraph : goal.fill_lines-requires-clause-paragraph
fill_lines-requires-clause-paragraph c =
    let rules = c.args.rules.now in
    let is = c.requires.laid.from_scratch in
    let text = sym c.text-text.ensures in
    record {
      text = record {
        looked_up = ap (take (length c.text-text.result.now)) c.deref.ensures.value ∙ c.in_ok-fill_properties.ensures.properties;
        ends = c.ends.ensures ∙ ap (λ (l : Layout). l.ends) is ∙ ap (ends_by rules.options) text;
        limit = subst (λ (text : List ℕ). length text ≤ PARAGRAPH_LIMIT) text c.requires.laid.paragraph.within;
        base = c.base.ensures ∙ ap (λ (l : Layout). l.base) is ∙ ap (base_of (rules_in rules)) text;
        levels_are = c.levels.ensures.levels ∙ ap (λ (l : Layout). l.levels) is ∙ ap (λ (text : List ℕ). levels_of rules.tables.now text rules.options.base) text;
        len = c.levels.ensures.len ∙ ap length text;
      };
      room = c.requires.room;
      marks = c.marks.ensures ∙ ap (λ (l : Layout). l.marks) is ∙ ap (marks_of rules.tables.now rules.options.whole_numbers) text;
    }

pub returns-clause-lines : goal.returns-clause-lines
returns-clause-lines c =
    subst (λ (text : List ℕ). c.of.result ≡ fill_of (with_advances (rules_in c.args.rules.now) (option_map (λ list. list.now) c.args.advances)) c.args.width text) c.text-text.ensures
    (c.of.ensures ∙ filled_as _ _ _ _ c.in_ok-fill_lines.ensures.lines c.in_ok-fill_lines.ensures.lines_len)
