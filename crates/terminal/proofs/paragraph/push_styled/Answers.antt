use Rattle.std.proofs.Common.{◌≡◌, ◌∙◌, ◌++◌, encode_utf8_all, ap}
use Rattle.lines.specs.Engine.{rules_of}
use Rattle.terminal.specs.Appending.{prefix_of}
use Rattle.terminal.specs.Paragraphs.{styled_bytes, styled_layout}
use Rattle.terminal.specs.Parts.{styles_in}
use Rattle.terminal.proofs.LayoutLemmas.{on_ok}
use Rattle.terminal.proofs.ParagraphLemmas.{bytes_are}
use Rattle.terminal.proofs.paragraph.push_styled.Goals as goal

pub returns-clause-ok : goal.returns-clause-ok
returns-clause-ok c =
    let rules = rules_of c.args.engine.now in
    let form = c.args.form.now in
    let part = c.args.part.now in
    let prefix = prefix_of form in
    let text = part.characters.now in
    let styles = styles_in part in
    let laid = c.in_ok-laid.laid in
    let out = c.push_layout.new.out.items in
    let page = c.args.page.now.bytes.items in
    let written : out ≡ styled_layout prefix form.width form.print laid styles =
    c.in_ok-push_layout.ensures ∙ ap (λ xs. xs ++ styled_layout prefix form.width form.print laid styles) c.clear.ensures.items in
    let bytes : encode_utf8_all c.deref.result.now ≡ styled_bytes prefix rules form.width form.print text styles =
    ap encode_utf8_all c.deref.ensures.value ∙ bytes_are prefix rules form.width form.print text styles laid out c.in_ok-laid.ensures.laid written in
    on_ok c.push_characters.result
    (λ (e : c.push_characters.new.page.bytes.items ≡ page ++ encode_utf8_all c.deref.result.now). e ∙ ap (λ xs. page ++ xs) bytes)
    c.push_characters.ensures
