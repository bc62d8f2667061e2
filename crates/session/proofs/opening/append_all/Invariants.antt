use Rattle.std.proofs.Common.{◌≡◌, ℕ, List, ◌≤◌, ◌+◌, ◌++◌, true, length}
use denote.Text.{Utf8}
use denote.Shadow.{shadow}
use Rattle.std.specs.Str.{chars}
use Rattle.lines.specs.Engine.{rules_of, analysed_of, filled_of, written_of, SameRules}
use Rattle.lines.specs.Layouts.{cut_by}
use Rattle.session.specs.Edits.{is_within_limit}
use Rattle.lines.specs.Layouts.{with_advances}
use Rattle.session.specs.Kept.{first_advances, layouts_of}
use Rattle.session.proofs.opening.append_all.Given as goal

-- the stored layouts, the pending ones and those of the remaining text are all layouts
abbrev pub invariant-loop-rest : goal.invariant-loop-rest
invariant-loop-rest g l =
    let items = g.S.ParagraphStore.items in
    let keep = λ (text : List ℕ). layouts_of (with_advances (rules_of l.fn.engine) (first_advances l.form.is_measured (length text))) l.form.width text in
    let left = length (chars l.rest) in
    let all = length (chars l.text) in
    record {
      utf8 : shadow (Utf8 l.rest);
      laid_out : items l.store ++ l.new.items ++ keep (chars l.rest) ≡ items l.fn.store ++ keep (chars l.text);
      within : is_within_limit (cut_by (rules_of l.fn.engine)) (chars l.rest) ≡ true;
      rules : SameRules l.fn.engine l.engine;
      analysed : analysed_of l.fn.engine ≤ analysed_of l.engine;
      analysed_most : analysed_of l.engine + left ≤ analysed_of l.fn.engine + all;
      filled : filled_of l.fn.engine ≤ filled_of l.engine;
      filled_most : filled_of l.engine + left ≤ filled_of l.fn.engine + all;
      written : written_of l.fn.engine ≤ written_of l.engine;
      written_most : written_of l.engine + left ≤ written_of l.fn.engine + all;
    }

abbrev pub decreases-loop-rest : goal.decreases-loop-rest
decreases-loop-rest g l = length l.rest
