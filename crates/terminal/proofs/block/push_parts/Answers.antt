use Rattle.std.proofs.Common.{◌≤◌, ◌-◌, ◌∙◌, ℕ, List, length, take, drop, ap, subst, sym, arith}
use Rattle.std.proofs.lemmas.List.{length-map}
use Rattle.lines.specs.Engine.{rules_of}
use Rattle.sequences.specs.Styled.{Style}
use Rattle.terminal.specs.Parts.{styles_in}
use Rattle.terminal.specs.Pieces.{IsWhole}
use Rattle.terminal.proofs.BlockLemmas.{last_group, next_by, range_styles, range_text, styles_range}
use Rattle.terminal.proofs.block.push_parts.Goals as goal

pub push_pieces-requires-clause-whole : goal.push_pieces-requires-clause-whole
push_pieces-requires-clause-whole c =
    let P : List ℕ → Type 0 = λ xs. IsWhole (rules_of c.loop-at.engine) xs in
    subst P (sym c.paragraph.ensures.characters) c.paragraph_end-end.ensures.paragraph

pub loop-at-preserved : goal.loop-at-preserved
loop-at-preserved c =
    let rules = rules_of c.args.engine.now in
    let now = rules_of c.loop-at.engine in
    let form = c.args.form.now in
    let part = c.args.part.now in
    let own = c.paragraph.result in
    let end = c.paragraph_end-end.result in
    let old = c.loop-at.page.bytes.items in
    record {
      within = c.paragraph_end-end.ensures.within.1;
      rules = c.push_pieces.ensures.rules ∙ c.loop-at.invariant.rules;
      text = λ shown same styles.
          next_by rules now form c.loop-at.invariant.rules shown c.loop-at.at end old _ _
          (c.paragraph_end-end.ensures.split shown same)
          (c.in_ok-push_pieces.ensures.ok (take (end - c.loop-at.at) (drop c.loop-at.at shown))
          (range_text shown part.characters.now own.characters.now c.loop-at.at end (sym same) c.paragraph.ensures.characters)
          (sym (range_styles shown (styles_in part) (styles_in own) c.loop-at.at end styles
          (styles_range part own c.loop-at.at end c.paragraph.ensures.numbers c.paragraph.ensures.text))))
          (c.loop-at.invariant.text shown same styles);
    }

pub returns-clause-ok : goal.returns-clause-ok
returns-clause-ok c = λ shown same styles.
    let form = c.args.form.now in
    let count : length shown ≤ c.loop-at.at = omega (arith, c.loop-at-test.false, ap length same, length-map shown (λ (x : ℕ × Style). x.0)) in
    last_group (rules_of c.args.engine.now) form shown c.loop-at.at c.loop-at.page.bytes.items _ count (c.loop-at.invariant.text shown same styles)
