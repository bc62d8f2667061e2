use Rattle.std.proofs.Common.{◌≡◌, ◌≤◌, ◌∙◌, ◌++◌, ℕ, length, ap, sym, arith}
use Rattle.std.proofs.lemmas.List.{length-map}
use Rattle.lines.specs.Engine.{rules_of}
use Rattle.sequences.specs.Styled.{Style}
use Rattle.terminal.specs.Parts.{styles_in}
use Rattle.terminal.proofs.BlockLemmas.{range_is, styles_range}
use Rattle.terminal.proofs.PieceLemmas.{full_is, last_each, next_each, next_piece, piece_by}
use Rattle.terminal.proofs.pieces.push_rest.Goals as goal

pub push_paragraph-requires-clause-paragraph : goal.push_paragraph-requires-clause-paragraph
push_paragraph-requires-clause-paragraph c =
    piece_by c.paragraphs_are_pieces.ensures (rules_of c.args.engine.now) (rules_of c.loop-at.engine) c.args.part.now.characters.now c.paragraph.result.characters.now c.loop-at.at
    c.piece_end-end.result c.loop-at.invariant.rules c.requires.whole c.paragraph.ensures.characters c.piece_end-end.ensures.within.0 c.piece_end-end.ensures.within.1
    c.piece_end-end.ensures.short

pub loop-at-preserved : goal.loop-at-preserved
loop-at-preserved c =
    let rules = rules_of c.args.engine.now in
    let now = rules_of c.loop-at.engine in
    let form = c.args.form.now in
    let part = c.args.part.now in
    let own = c.paragraph.result in
    let at = c.loop-at.at in
    let end = c.piece_end-end.result in
    let old = c.loop-at.page.bytes.items in
    record {
      within = c.piece_end-end.ensures.within.1;
      rules = c.push_paragraph.ensures.rules ∙ c.loop-at.invariant.rules;
      text = λ shown same styles.
          let count : length part.characters.now ≡ length shown = ap length same ∙ length-map shown (λ (x : ℕ × Style). x.0) in
          next_each rules now form c.loop-at.invariant.rules shown at end old _ _
          (next_piece shown at end (omega (arith, count, c.loop-at-test.true)) (full_is part.characters.now shown at end same c.piece_end-end.ensures.full))
          (c.in_ok-push_paragraph.ensures.ok ∙ ap (λ xs. old ++ xs)
          (range_is now form shown part.characters.now own.characters.now (styles_in part) (styles_in own) at end (sym same) styles
          c.paragraph.ensures.characters (styles_range part own at end c.paragraph.ensures.numbers c.paragraph.ensures.text)))
          (c.loop-at.invariant.text shown same styles);
    }

pub returns-clause-ok : goal.returns-clause-ok
returns-clause-ok c = λ shown same styles.
    let count : length shown ≤ c.loop-at.at = omega (arith, c.loop-at-test.false, ap length same, length-map shown (λ (x : ℕ × Style). x.0)) in
    last_each (rules_of c.args.engine.now) c.args.form.now shown c.loop-at.at c.loop-at.page.bytes.items _ count (c.loop-at.invariant.text shown same styles)
