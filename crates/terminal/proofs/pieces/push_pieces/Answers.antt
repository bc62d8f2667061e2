use Rattle.std.proofs.Common.{◌∙◌, ◌++◌, refl, ap, sym, arith}
use Rattle.lines.specs.Engine.{rules_of}
use Rattle.lines.specs.Layouts.{Rules, base_of}
use Rattle.terminal.specs.Parts.{styles_in}
use Rattle.terminal.proofs.BlockLemmas.{range_is, range_text, styles_range}
use Rattle.terminal.proofs.LayoutLemmas.{on_ok}
use Rattle.terminal.proofs.PieceLemmas.{piece_by, pieces_are, whole_piece}
use Rattle.terminal.proofs.pieces.push_pieces.Goals as goal

pub returns-then-part-le-PARAGRAPH_LIMIT-clause-ok : goal.returns-then-part-le-PARAGRAPH_LIMIT-clause-ok
returns-then-part-le-PARAGRAPH_LIMIT-clause-ok c = λ shown same styles.
    let part = c.args.part.now in
    on_ok c.push_paragraph.result
    (whole_piece (rules_of c.args.engine.now) c.args.form.now part.characters.now (styles_in part) shown c.args.page.now.bytes.items c.push_paragraph.new.page.bytes.items same styles
    c.if-part-le-PARAGRAPH_LIMIT.true)
    c.push_paragraph.ensures.ok

pub push_paragraph-requires-2-clause-paragraph : goal.push_paragraph-requires-2-clause-paragraph
push_paragraph-requires-2-clause-paragraph c =
    piece_by c.paragraphs_are_pieces.ensures (rules_of c.args.engine.now) (rules_of c.args.engine.now) c.args.part.now.characters.now c.paragraph-first.result.characters.now 0 1048576
    refl c.requires.whole c.paragraph-first.ensures.characters (omega arith) (omega (arith, c.if-part-le-PARAGRAPH_LIMIT.false)) (omega arith)

pub returns-clause-ok : goal.returns-clause-ok
returns-clause-ok c = λ shown same styles.
    let rules = rules_of c.args.engine.now in
    let form = c.args.form.now in
    let part = c.args.part.now in
    let own = c.paragraph-first.result in
    let old = c.args.page.now.bytes.items in
    let text = range_text shown part.characters.now own.characters.now 0 1048576 (sym same) c.paragraph-first.ensures.characters in
    let first = range_is rules form shown part.characters.now own.characters.now (styles_in part) (styles_in own) 0 1048576 (sym same) styles c.paragraph-first.ensures.characters
    (styles_range part own 0 1048576 c.paragraph-first.ensures.numbers c.paragraph-first.ensures.text) in
    on_ok c.push_directed.result
    (pieces_are rules form (rules_of c.find_base-base.new.self) shown own.characters.now c.find_base-base.result old c.push_paragraph-2.new.page.bytes.items
    c.push_directed.new.page.bytes.items (ap rules_of c.find_base-base.ensures.counts ∙ c.push_paragraph-2.ensures.rules) text
    (c.find_base-base.ensures.base ∙ ap (λ (r : Rules). base_of r own.characters.now) c.push_paragraph-2.ensures.rules)
    (c.in_ok-push_paragraph.ensures.ok ∙ ap (λ t. old ++ t) first))
    (c.push_directed.ensures.ok shown same styles)
