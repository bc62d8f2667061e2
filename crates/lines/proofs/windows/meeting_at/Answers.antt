use Rattle.std.proofs.Common.{◌∙◌, List, ℕ, length, slice_index, Some, ap, sym, arith}
use Rattle.std.specs.Prelude.{slice_get}
use Rattle.std.proofs.lemmas.Option.{get_or_from_slice_get, slice_get-get_or, slice_get_within}
use Rattle.lines.proofs.RefilledLemmas.{first_old}
use Rattle.lines.proofs.windows.meeting_at.Goals as goal

pub line_of-old_line-requires-clause-some : goal.line_of-old_line-requires-clause-some
line_of-old_line-requires-clause-some c =
    omega (arith, slice_get_within _ 0 0 (first_old c.args.edited.now c.requires.edited), ap (λ (xs : List ℕ). length xs) c.line_starts-old.ensures)

pub line_of-old_line-requires-clause-first : goal.line_of-old_line-requires-clause-first
line_of-old_line-requires-clause-first c =
    omega (arith, ap (λ (xs : List ℕ). slice_index xs 0) c.line_starts-old.ensures, get_or_from_slice_get _ 0 0 0 (first_old c.args.edited.now c.requires.edited))

pub returns : goal.returns
returns c =
    let starts = c.args.starts.now in
    let old = c.line_starts-old.result.now in
    let line = c.line_of-old_line.result in
    record {
      line = slice_get-get_or starts c.args.n 0 c.requires.n;
      after_edit = omega (arith, c.if-start-edit.false);
      split = sym c.if-not-is_split_point.ensures;
      old_line = ap (λ (xs : List ℕ). slice_get xs line) (sym c.line_starts-old.ensures) ∙ slice_get-get_or old line 0 c.line_of-old_line.ensures.within ∙ ap Some (omega (arith, c.if-old-old_line.false));
      same = omega (arith, c.if-start-edit.false);
    }
