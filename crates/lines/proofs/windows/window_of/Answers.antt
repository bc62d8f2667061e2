use Rattle.std.proofs.Common.{◌≡◌, ◌∙◌, ◌+◌, ◌-◌, List, ℕ, Some, length, map, slice_index, ap, subst, sym, arith}
use Rattle.std.specs.Prelude.{slice_get, slice_index_or}
use Rattle.std.proofs.lemmas.Option.{get_or_from_slice_get, slice_get-get_or, slice_get_within}
use Rattle.breaks.specs.declared.mark.Mark.{Mark}
use Rattle.breaks.specs.declared.mark.Mark.TheVariants.{Never}
use Rattle.lines.specs.Filling.{is_break}
use Rattle.lines.specs.Layouts.{start_of}
use Rattle.lines.specs.Windows.{IsFirstLine}
use Rattle.lines.proofs.RefilledLemmas.{first_low, first_old}
use Rattle.lines.proofs.windows.window_of.Goals as goal

pub first_line-line-requires-clause-some : goal.first_line-line-requires-clause-some
first_line-line-requires-clause-some c =
    let e = c.args.edited.now in
    omega (arith, slice_get_within _ 0 0 (first_old e c.requires), ap (λ (xs : List ℕ). length xs) c.line_starts-starts.ensures)

pub first_line-line-requires-clause-first : goal.first_line-line-requires-clause-first
first_line-line-requires-clause-first c =
    let e = c.args.edited.now in
    ap (λ (xs : List ℕ). slice_index xs 0) c.line_starts-starts.ensures ∙ get_or_from_slice_get _ 0 0 0 (first_old e c.requires)

pub returns : goal.returns
returns c =
    let e = c.args.edited.now in
    let starts = c.line_starts-starts.result.now in
    let line = c.first_line-line.result in
    let len : c.saturating_sub.result ≡ e.edit.at - 1 = omega (arith, c.saturating_sub.ensures) in
    let found = c.in_ok-last.ensures in
    let last : c.in_ok-last.last + 1 - 1 ≡ c.in_ok-last.last = omega arith in
    let line_is : slice_get (map start_of e.laid.now.lines) line ≡ Some (slice_index starts line) =
    ap (λ (xs : List ℕ). slice_get xs line) (sym c.line_starts-starts.ensures) ∙ slice_get-get_or starts line 0 c.first_line-line.ensures.within in
    let first : IsFirstLine (map start_of e.laid.now.lines) e.laid.now.marks (e.edit.at - 1) line =
    subst (λ n. IsFirstLine (map start_of e.laid.now.lines) e.laid.now.marks n line) len
    (subst (λ (xs : List ℕ). IsFirstLine xs e.laid.now.marks c.saturating_sub.result line) c.line_starts-starts.ensures
    (subst (λ (ms : List Mark). IsFirstLine starts ms c.saturating_sub.result line) c.marks.ensures c.first_line-line.ensures.line)) in
    record {
      line = line_is;
      first = first;
      edit = omega (arith, found.range.0, c.requires.some.1);
      order = omega (arith, first_low e c.requires line (slice_index starts line) line_is first, found.range.0);
      within = omega (arith, found.within, c.requires.edited.marks_len);
      breaks = ap (λ k. is_break (slice_index_or e.marks.now k Never)) last ∙ found.breaks;
    }
