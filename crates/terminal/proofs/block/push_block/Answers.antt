use Rattle.std.proofs.Common.{◌∙◌, ◌++◌, ◌-◌, length, ap, sym}
use Rattle.std.specs.Prelude.{slice_get}
use Rattle.lines.specs.Engine.{rules_of}
use Rattle.lines.specs.Layouts.{Rules}
use Rattle.sequences.specs.Laws.{characters_of}
use Rattle.sequences.specs.Scanners.{pen_of}
use Rattle.sequences.specs.Styled.{next_paragraph, styled}
use Rattle.terminal.specs.Texts.{block_page}
use Rattle.terminal.specs.Newlines.{last_of}
use Rattle.terminal.specs.Pieces.{has_over}
use Rattle.terminal.proofs.BlockLemmas.{text_characters}
use Rattle.terminal.proofs.NewlineLemmas.{last_is}
use Rattle.terminal.proofs.block.push_block.Goals as goal

pub returns-clause-ok : goal.returns-clause-ok
returns-clause-ok c =
    let pen = pen_of c.args.scanner.now in
    let block = c.args.block.now in
    c.in_ok-push_shown.ensures.ok
    ∙ ap (λ shown. c.args.page.now.bytes.items ++ block_page (rules_of c.args.engine.now) c.args.form.now shown)
    (c.in_ok-push_text.ensures.text ∙ ap (λ xs. xs ++ styled pen block) c.requires.empty)

pub returns-clause-pen : goal.returns-clause-pen
returns-clause-pen c = c.start_paragraph.ensures.pen ∙ ap next_paragraph c.in_ok-push_text.ensures.pen

pub returns-clause-last : goal.returns-clause-last
returns-clause-last c =
    let pen = pen_of c.args.scanner.now in
    let block = c.args.block.now in
    let text = c.push_text.new.self.text in
    c.copied-last.ensures ∙ c.last.ensures.value ∙ ap (λ xs. slice_get xs (length xs - 1)) c.deref.ensures.value ∙ last_is text.characters.items
    ∙ ap last_of (sym (text_characters text))
    ∙ ap (λ shown. last_of (characters_of shown)) (c.in_ok-push_text.ensures.text ∙ ap (λ xs. xs ++ styled pen block) c.requires.empty)

pub returns-clause-over : goal.returns-clause-over
returns-clause-over c =
    let pen = pen_of c.args.scanner.now in
    let block = c.args.block.now in
    c.has_over-over.ensures ∙ ap (λ (r : Rules). has_over r c.deref-2.result.now) c.push_shown.ensures.rules
    ∙ ap (has_over (rules_of c.args.engine.now)) (c.deref-2.ensures.value ∙ sym (text_characters c.push_text.new.self.text)
    ∙ ap characters_of (c.in_ok-push_text.ensures.text ∙ ap (λ xs. xs ++ styled pen block) c.requires.empty))
