use Rattle.terminal.specs.Numbers.{numbered}
use Rattle.terminal.specs.Parts.{styles_in}
use Rattle.terminal.proofs.LayoutLemmas.{if_ok}
use Rattle.terminal.proofs.WrittenLemmas.{shown_is}
use Rattle.terminal.proofs.line.push_shown.Goals as goal

pub returns-clause-text : goal.returns-clause-text
returns-clause-text c =
    let part = c.args.part.now in
    let form = c.args.form.now in
    let style = numbered part.text.now.links.items part.text.now.runs.items in
    if_ok c.push_chars.result
    (λ number. shown_is form.width form.print c.args.line.now (styles_in part) c.args.out.now.items c.push_blanks.new.out.items c.push_chars.new.out.items
    (style c.args.before) (style c.in_ok-padded.padded) (style number) c.padding_len-spaces.result c.padding_len-spaces.ensures c.in_ok-padded.ensures.text)
    c.push_chars.ensures.text
