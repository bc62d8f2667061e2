use Rattle.std.proofs.Common.{◌≡◌, ◌∙◌, length, ap, refl, rules}
use Rattle.std.proofs.lemmas.List.{length-take-le}
use Rattle.lines.specs.Engine.{rules_of}
use Rattle.terminal.proofs.PushLemmas.{last_all, last_long, last_none, last_one, permit_one, refuse_one}
use Rattle.terminal.proofs.output.Output.push_last.Goals as goal

pub loop-rest-init : goal.loop-rest-init
loop-rest-init c = record {
  rules = refl;
  empty = c.requires.empty;
  added = last_none (rules_of c.args.engine.now) c.args.form.now c.args.text.now c.args.self.now;
}

pub loop-rest-preserved : goal.loop-rest-preserved
loop-rest-preserved c =
    let at = c.loop-rest.invariant in
    record {
      rules = c.in_ok-shown.ensures.rules ∙ at.rules;
      empty = c.in_ok-shown.ensures.adds.empty;
      added = last_one (rules_of c.args.engine.now) (rules_of c.loop-rest.engine) c.args.form.now c.args.text.now c.loop-rest.rest.now c.split_at.result.0.now c.split_at.result.1.now
          c.args.self.now c.loop-rest.self c.push.new.self c.block_len-len.result c.loop-rest.last c.in_ok-shown.shown _ at.rules at.added c.block_len-len.ensures.block
          c.block_len-len.ensures.within.1
          (permit_one c.args.form.now c.split_at.result.0.now c.block_len-len.result c.is_too_long.result c.is_too_long.ensures c.if-is_too_long.false
          (ap length c.split_at.ensures.front ∙ length-take-le c.block_len-len.result c.loop-rest.rest.now c.block_len-len.ensures.within.1))
          c.split_at.ensures.front c.split_at.ensures.back c.in_ok-shown.ensures.adds
          c.in_ok-shown.ensures.last c.or-last.ensures;
    }

pub returns-then-is_too_long-clause-adds : goal.returns-then-is_too_long-clause-adds
returns-then-is_too_long-clause-adds c =
    let at = c.loop-rest.invariant in
    last_long (rules_of c.args.engine.now) (rules_of c.loop-rest.engine) c.args.form.now c.args.is_last c.args.text.now c.loop-rest.rest.now c.args.self.now
    c.loop-rest.self c.block_len-len.result c.loop-rest.last at.rules at.added c.block_len-len.ensures.block c.block_len-len.ensures.within.1
    (refuse_one c.args.form.now c.block_len-len.result c.is_too_long.result c.is_too_long.ensures c.if-is_too_long.true)

pub returns-clause-adds : goal.returns-clause-adds
returns-clause-adds c =
    let at = c.loop-rest.invariant in
    let none : length c.loop-rest.rest.now ≡ 0 = search rules in
    last_all (rules_of c.args.engine.now) (rules_of c.loop-rest.engine) c.args.form.now c.args.is_last c.args.text.now c.loop-rest.rest.now c.args.self.now
    c.loop-rest.self c.end_page.new.self c.loop-rest.last at.rules at.added none c.end_page.ensures.page c.end_page.ensures.over
