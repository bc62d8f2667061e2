use Rattle.std.proofs.Common.{◌≡◌, ◌∙◌, ◌++◌, length, ap, refl, arith, rules}
use Rattle.lines.specs.Engine.{rules_of}
use Rattle.sequences.specs.Scanners.{pen_of}
use Rattle.terminal.specs.Texts.{text_page}
use Rattle.terminal.proofs.TextLemmas.{next_block, no_block}
use Rattle.terminal.proofs.text.push_text.Goals as goal

pub loop-rest-init : goal.loop-rest-init
loop-rest-init c = record {
  rules = refl;
  empty = c.new-scanner.ensures.text;
  text = ap (λ pen. c.args.page.now.bytes.items ++ text_page (rules_of c.args.engine.now) c.args.form.now pen c.args.text.now) c.new-scanner.ensures.pen;
}

pub push_block-requires : goal.push_block-requires
push_block-requires c = record { empty = c.loop-rest.invariant.empty }

pub loop-rest-preserved : goal.loop-rest-preserved
loop-rest-preserved c = record {
  rules = c.in_ok-push_block.ensures.rules ∙ c.loop-rest.invariant.rules;
  empty = c.in_ok-push_block.ensures.empty;
  text = next_block (rules_of c.args.engine.now) c.args.form.now (rules_of c.loop-rest.engine) (pen_of c.loop-rest.scanner) (pen_of c.push_block.new.scanner)
      c.loop-rest.rest.now c.split_at.result.0.now c.split_at.result.1.now c.block_len.result c.loop-rest.page.bytes.items _ _ c.loop-rest.invariant.rules
      c.split_at.ensures.front c.split_at.ensures.back c.block_len.ensures.block c.in_ok-push_block.ensures.ok c.in_ok-push_block.ensures.pen
      c.loop-rest.invariant.text;
}

pub loop-rest-smaller : goal.loop-rest-smaller
loop-rest-smaller c = omega (arith, c.split_at.ensures.back_len, c.block_len.ensures.within.0)

pub returns-clause-ok : goal.returns-clause-ok
returns-clause-ok c =
    let none : length c.loop-rest.rest.now ≡ 0 = search rules in
    no_block (rules_of c.args.engine.now) c.args.form.now (pen_of c.loop-rest.scanner) c.loop-rest.rest.now c.loop-rest.page.bytes.items _ none
    c.loop-rest.invariant.text
