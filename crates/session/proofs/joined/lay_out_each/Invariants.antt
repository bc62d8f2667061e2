use Rattle.std.proofs.Common.{◌≡◌, ◌≤◌, ◌+◌, ◌++◌, None, true, length}
use Rattle.bidi.specs.Cuts.{paragraphs}
use Rattle.lines.specs.Engine.{rules_of, analysed_of, filled_of, written_of, SameRules}
use Rattle.lines.specs.Layouts.{cut_by, with_advances}
use Rattle.lines.specs.Measures.{given_if}
use Rattle.session.specs.Edits.{is_within_limit, room_refusal}
use Rattle.session.specs.Kept.{layouts_from, layouts_of, AreForEach}
use Rattle.session.proofs.joined.lay_out_each.Given as goal

-- the layouts so far, followed by those of the remaining text, are the layouts of the whole text
abbrev pub invariant-loop-end : goal.invariant-loop-end
invariant-loop-end l =
    let by = rules_of l.fn.engine in
    let left = given_if l.form.is_measured l.advances in
    record {
      laid_out : l.kept.items ++ layouts_from (with_advances by None) l.form.width left (paragraphs (cut_by by) l.rest)
          ≡ layouts_of (with_advances by (given_if l.form.is_measured l.whole.advances.now)) l.form.width l.whole.text.now;
      each : AreForEach left l.rest;
      room : room_refusal left (paragraphs (cut_by by) l.rest) ≡ None;
      within : is_within_limit (cut_by by) l.rest ≡ true;
      rules : SameRules l.fn.engine l.engine;
      analysed : analysed_of l.fn.engine ≤ analysed_of l.engine;
      analysed_most : analysed_of l.engine + length l.rest ≤ analysed_of l.fn.engine + length l.whole.text.now;
      filled : filled_of l.fn.engine ≤ filled_of l.engine;
      filled_most : filled_of l.engine + length l.rest ≤ filled_of l.fn.engine + length l.whole.text.now;
      written : written_of l.fn.engine ≤ written_of l.engine;
      written_most : written_of l.engine + length l.rest ≤ written_of l.fn.engine + length l.whole.text.now;
    }

abbrev pub decreases-loop-end : goal.decreases-loop-end
decreases-loop-end l = length l.rest
