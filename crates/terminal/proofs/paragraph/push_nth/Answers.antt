use Rattle.std.proofs.Common.{◌≡◌, ◌∙◌, get_or, ap, subst, sym}
use Rattle.std.specs.Prelude.{IfSome}
use Rattle.std.proofs.lemmas.List.{get_or-map}
use Rattle.std.proofs.lemmas.Option.{get_or_from_slice_get}
use Rattle.lines.specs.Layouts.{start_of}
use Rattle.sequences.specs.declared.style.StyledText.{StyledText}
use Rattle.terminal.specs.Appending.{prefix_of}
use Rattle.terminal.specs.Parts.{styles_in}
use Rattle.terminal.proofs.LayoutLemmas.{nth_is, on_ok, styles_from}
use Rattle.terminal.proofs.paragraph.push_nth.Goals as goal

pub returns : goal.returns
returns c = λ line got.
    let form = c.args.form.now in
    let lines = c.args.laid.now.lines in
    let start = get_or c.line_starts.result.now c.args.n 0 in
    let begins : start ≡ line.start =
    ap (λ xs. get_or xs c.args.n 0) c.line_starts.ensures ∙ get_or-map start_of lines c.args.n line 0 c.requires.n
    ∙ ap start_of (get_or_from_slice_get lines c.args.n line line got) in
    on_ok c.push_direction.result
    (nth_is (prefix_of form) form.width form.print c.args.laid.now (styles_in c.args.part.now) (styles_in c.range-shown.result) c.args.n line c.in-Some.line start
    c.args.out.now.items _ _ got c.in-Some.ensures.line begins
    (styles_from c.args.part.now c.range-shown.result start c.range-shown.ensures.numbers c.range-shown.ensures.text) c.in_ok-push_line.ensures)
    c.push_direction.ensures

pub push_line-requires-clause-same : goal.push_line-requires-clause-same
push_line-requires-clause-same c =
    subst (λ (t : StyledText). IfSome c.args.form.now.prefix (λ prefix. prefix.now.part.text.now ≡ t)) (sym c.range-shown.ensures.text) c.requires.same
