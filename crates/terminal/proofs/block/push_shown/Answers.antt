use Rattle.std.proofs.Common.{◌∙◌, map, ap, sym}
use Rattle.sequences.specs.StyledTexts.{styled_of}
use Rattle.terminal.specs.Numbers.{numbered}
use Rattle.terminal.specs.Texts.{block_page, in_mode}
use Rattle.terminal.proofs.BlockLemmas.{mode_characters, text_characters}
use Rattle.terminal.proofs.block.push_shown.Goals as goal

pub returns-clause-ok : goal.returns-clause-ok
unfolding block_page
returns-clause-ok c =
    let text = c.args.text.now in
    let escapes = c.args.form.now.escapes in
    c.push_parts.ensures.ok (in_mode escapes (styled_of text))
    (c.deref.ensures.value ∙ sym (mode_characters escapes (styled_of text) ∙ text_characters text))
    (sym (ap (map (numbered text.links.items text.runs.items)) c.deref-2.ensures.value ∙ c.in_ok-number_mode.ensures.styles))
