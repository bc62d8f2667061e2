use Rattle.std.proofs.Common.{◌≡◌, ◌∙◌, ◌+◌, ◌≤◌, ℕ, List, length, ap, subst, sym, arith}
use Rattle.std.specs.Prelude.{sum, sum_by}
use Rattle.reorder.specs.Runs.{runs_of}
use Rattle.lines.specs.Columns.{columns_left, run_columns, widths}
use Rattle.lines.specs.Engine.{rules_of}
use Rattle.lines.specs.Layouts.{Rules}
use Rattle.lines.specs.Ordered.{IsOrdered}
use Rattle.lines.specs.Visual.{Visual}
use Rattle.session.specs.Edges.{edge_caret_at}
use Rattle.session.specs.Sessions.{rules_at}
use Rattle.tool.specs.Queries.{edge_of}
use Rattle.tool.proofs.EdgeLemmas.{edge-fits, in_kept, same_some, side-before, whole}
use Rattle.tool.proofs.queries.edge_caret.Goals as goal

pub returns-clause-fits : goal.returns-clause-fits
returns-clause-fits g c =
    let state = c.args.session.now in
    let rules = rules_of state.engine in
    let n = c.in-Some.caret.line in
    let line = c.in-Some-line.line in
    let fits = edge-fits state.kept rules (edge_of c.args.pos c.args.is_after).side c.args.pos c.in-Some.caret (λ is. c.requires (side-before c.args.is_after is)) (sym c.in-Some.is ∙ c.in_ok-caret.ensures.ok ∙ ap (edge_caret_at rules state.kept) c.edge_of.ensures) in
    let same : fits.line ≡ line = same_some fits.line line (fits.found ∙ sym c.in-Some-line.ensures) in
    let ordered = in_kept (rules_at state) state.width state.kept c.width-width.ensures.laid_out.kept IsOrdered (λ (own : Rules) (t : List ℕ). c.lines_are_ordered.ensures own state.width t) n line c.in-Some-line.ensures in
    let adds = in_kept (rules_at state) state.width state.kept c.width-width.ensures.laid_out.kept (λ (line : Visual). sum_by (run_columns line) (runs_of line.levels) ≡ line.columns)
    (λ (own : Rules) (t : List ℕ). c.runs_have_all_columns.ensures own state.width t) n line c.in-Some-line.ensures in
    let total : sum (widths line) ≡ line.columns = sym (c.runs-runs.ensures.columns (sym ordered.text)) ∙ ap (sum_by (run_columns line)) c.runs-runs.ensures.runs ∙ adds in
    let most = subst (λ (l : Visual). sum (widths l) ≡ l.columns → c.in-Some.caret.column ≤ whole l + l.columns) same fits.column total in
    let left = ap (λ (places : List _). columns_left line (length places)) c.vtol.ensures in
    omega (arith, most, left, c.columns_left-left.ensures.value, c.columns_left-left.ensures.fits, c.columns_of-columns.ensures.value, c.columns_of-columns.ensures.fits)
