use Rattle.std.proofs.Common.{◌∙◌, ◌+◌, List, ℕ, drop, length, ap, refl, sym, subst, arith, length-drop}
use Rattle.std.proofs.lemmas.List.{length-take-le}
use Rattle.lines.specs.Engine.{rules_of}
use Rattle.terminal.specs.Passed.{HasPassed}
use Rattle.terminal.specs.declared.passed.Passed.{Passed}
use Rattle.terminal.proofs.PushLemmas.{added_one, ends_first, ends_held, ends_open, held_is, holding_more, permit_one, refuse_one}
use Rattle.terminal.proofs.output.Output.push_ended.Goals as goal

pub returns-in-After-clause-adds : goal.returns-in-After-clause-adds
returns-in-After-clause-adds c =
    let at = c.loop-k.invariant in
    ends_open (rules_of c.args.engine.now) (rules_of c.loop-k.engine) c.args.form.now c.args.text.now c.split_at.result.1.now c.args.self.now c.loop-k.self
    c.loop-k.start c.in-After.k c.left_open.result.start c.left_open.result.scanned c.left_open.result.is_long at.rules at.added c.split_at.ensures.back
    (c.first_end.ensures.open c.in-After.k c.in-After.passed c.in-After.is) c.left_open.ensures.start c.left_open.ensures.scanned c.left_open.ensures.short at.empty at.holding

pub returns-in-After-clause-passed : goal.returns-in-After-clause-passed
returns-in-After-clause-passed c =
    let text = c.args.text.now in
    let k = c.in-After.k in
    let passed = c.in-After.passed in
    let left = c.left_open.ensures in
    let is = c.left_open.result in
    subst (λ (p : Passed). HasPassed p (drop (is.scanned + 1) (drop is.start text))) (sym left.passed)
    (subst (λ (n : ℕ). HasPassed passed (drop (n + 1) (drop is.start text))) (sym left.scanned)
    (subst (λ (n : ℕ). HasPassed passed (drop (k + 1) (drop n text))) (sym left.start)
    (subst (λ (t : List ℕ). HasPassed passed (drop (k + 1) t)) c.split_at.ensures.back (c.first_end.ensures.passed k passed c.in-After.is))))

pub returns-in-At-clause-adds : goal.returns-in-At-clause-adds
returns-in-At-clause-adds c =
    let at = c.loop-k.invariant in
    ends_first (rules_of c.args.engine.now) (rules_of c.loop-k.engine) c.args.form.now c.args.text.now c.split_at.result.1.now c.args.self.now c.loop-k.self
    c.loop-k.start c.in-At.k at.rules at.added c.split_at.ensures.back (c.first_end.ensures.at c.in-At.k c.in-At.is)
    (refuse_one c.args.form.now c.in-At.k c.is_too_long.result c.is_too_long.ensures c.if-is_too_long.true) at.empty at.holding

pub loop-k-preserved : goal.loop-k-preserved
loop-k-preserved c =
    let at = c.loop-k.invariant in
    let first = c.first_end.ensures.at c.in-At.k c.in-At.is in
    record {
      rules = c.in_ok-push-in-At-3.ensures.rules ∙ at.rules;
      within = omega (arith, first.within, ap length c.split_at.ensures.back, length-drop c.loop-k.start c.args.text.now, at.within);
      none = λ k below more. absurd (omega (arith, below));
      passed = c.nothing-passed.ensures (drop (0 + 1) (drop (c.loop-k.start + c.in-At.k) c.args.text.now));
      empty = c.in_ok-push-in-At-3.ensures.adds.empty;
      holding = holding_more c.args.form.now.strict c.is_held.result c.args.text.now c.split_at.result.1.now c.loop-k.start c.in-At.k c.split_at.ensures.back c.is_held.ensures
          c.if-is_held.false first.within;
      added = added_one (rules_of c.args.engine.now) (rules_of c.loop-k.engine) c.args.form.now c.args.text.now c.split_at.result.1.now c.split_at-in-At-3.result.0.now
          c.args.self.now c.loop-k.self c.push.new.self c.loop-k.start c.in-At.k at.rules at.added c.split_at.ensures.back first
          (permit_one c.args.form.now c.split_at-in-At-3.result.0.now c.in-At.k c.is_too_long.result c.is_too_long.ensures c.if-is_too_long.false
          (ap length c.split_at-in-At-3.ensures.front ∙ length-take-le c.in-At.k c.split_at.result.1.now first.within))
          c.split_at-in-At-3.ensures.front c.in_ok-push-in-At-3.ensures.adds;
    }

pub returns-in-At-2-clause-adds : goal.returns-in-At-2-clause-adds
returns-in-At-2-clause-adds c =
    let at = c.loop-k.invariant in
    let held = held_is c.args.form.now.strict c.is_held.result c.in-At.k (length c.split_at.result.1.now) c.is_held.ensures c.if-is_held.true in
    ends_held (rules_of c.args.engine.now) (rules_of c.loop-k.engine) c.args.form.now c.args.text.now c.split_at.result.1.now c.args.self.now c.loop-k.self
    c.loop-k.start c.in-At.k _ at.rules at.added c.split_at.ensures.back (c.first_end.ensures.at c.in-At.k c.in-At.is) held.1 held.0 refl at.empty at.holding
