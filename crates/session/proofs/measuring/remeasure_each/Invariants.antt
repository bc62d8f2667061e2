use Rattle.std.proofs.Common.{◌≡◌, ◌≤◌, ◌+◌, None, length}
use Rattle.std.specs.List.{concat, slice_range}
use Rattle.lines.specs.Engine.{rules_of, analysed_of, filled_of, written_of, SameRules}
use Rattle.lines.specs.Layouts.{with_advances}
use Rattle.session.specs.Kept.{pars_of}
use Rattle.session.specs.Measuring.{spliced}
use Rattle.session.proofs.MeasuringLemmas.{AreMade}
use Rattle.session.proofs.measuring.remeasure_each.Given as goal

-- the paragraphs so far are laid out
abbrev pub invariant-loop-i : goal.invariant-loop-i
invariant-loop-i g l =
    let pars = pars_of (g.S.ParagraphStore.items l.store) in
    record {
      made : AreMade (with_advances (rules_of l.fn.engine) None) l.width pars (spliced l.list) l.first l.end l.i l.from l.new.items;
      rules : SameRules l.fn.engine l.engine;
      analysed : analysed_of l.engine ≡ analysed_of l.fn.engine;
      filled : filled_of l.fn.engine ≤ filled_of l.engine;
      filled_most : filled_of l.engine + length (concat (slice_range pars l.i l.end)) ≤ filled_of l.fn.engine + length (concat (slice_range pars l.first l.end));
      written : written_of l.fn.engine ≤ written_of l.engine;
      written_most : written_of l.engine + length (concat (slice_range pars l.i l.end)) ≤ written_of l.fn.engine + length (concat (slice_range pars l.first l.end));
    }
