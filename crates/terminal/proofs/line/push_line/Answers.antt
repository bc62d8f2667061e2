use Rattle.terminal.specs.Appending.{prefix_of}
use Rattle.terminal.specs.Lines.{shown_line, with_prefix}
use Rattle.terminal.specs.Numbers.{numbered}
use Rattle.terminal.specs.Parts.{styles_in}
use Rattle.terminal.proofs.WrittenLemmas.{line_is}
use Rattle.terminal.proofs.line.push_line.Goals as goal

pub returns : goal.returns
returns c =
    let part = c.args.part.now in
    let form = c.args.form.now in
    let line = c.args.line.now in
    line_is c.args.out.now.items _ _ _ (numbered part.text.now.links.items part.text.now.runs.items c.in_ok-last.last)
    (with_prefix (prefix_of form) line (shown_line form.width form.print line (styles_in part))) c.in_ok-last.ensures.text c.in_ok-push_change.ensures
    c.in_ok-push.ensures.items
