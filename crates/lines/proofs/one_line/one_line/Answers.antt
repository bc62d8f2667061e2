use Rattle.std.proofs.Common.{◌∙◌, ◌≤◌, ℕ, [], ◌∷◌, ap, map, refl, sum, sym, take, arith}
use Rattle.lines.specs.CharInfos.{columns_of}
use Rattle.lines.specs.declared.fill.Shown.{Shown}
use Rattle.lines.proofs.OneLineLemmas.{one_start_of, shown_of_one}
use Rattle.lines.proofs.one_line.one_line.Goals as goal

pub returns-clause-line : goal.returns-clause-line
returns-clause-line c =
    let text = c.args.text.now in
    let t = text.rules.tables.now in
    let options = text.rules.options in
    let chars = text.characters.now in
    let len = c.shown_len-len.result in
    let width = c.args.width in
    let worth = c.if-not-may_be_one_line.ensures in
    let whole = c.is_whole.ensures.yes c.if-not-is_whole.false in
    let fit : sum (map columns_of (take len chars)) ≤ width = omega (arith, c.sum-columns.ensures, c.if-columns-width.false) in
    let ends = c.paragraphs_end_at_must.ensures t options.whole_numbers chars (worth.some refl) in
    record {
      starts = one_start_of t options chars len width (worth.hidden refl) (worth.tabs refl) (worth.some refl) c.marks_are_as_many.ensures ends whole c.shown_len-len.ensures fit;
      shown = shown_of_one t options chars len width (worth.hidden refl) (worth.tabs refl) (worth.some refl) c.marks_are_as_many.ensures ends whole c.shown_len-len.ensures fit
          ∙ ap (λ (n : ℕ). let part : Shown = record { len = len; columns = n } in part ∷ []) (sym c.sum-columns.ensures);
    }
