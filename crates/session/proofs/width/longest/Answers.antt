use Rattle.std.proofs.Common.{◌≤◌, length, refl, arith, subst, Bor}
use Rattle.lines.specs.Layouts.{Layout}
use Rattle.std.specs.List.{All}
use Rattle.std.proofs.lemmas.Bool.Decides.{nat_tests}
use Rattle.std.proofs.lemmas.List.{length-map}
use Rattle.session.proofs.WidthLemmas.{all_listed, all_roomy, read_here, read_item, roomy_more, values, HasRoom}
use Rattle.session.proofs.width.longest.Goals as goal

pub loop-kept-init : goal.loop-kept-init
loop-kept-init c = record { so_far = tt; least = λ n all. omega arith }

pub loop-kept-preserved : goal.loop-kept-preserved
loop-kept-preserved c =
    let kept = c.kept-item.result in
    let here = read_here c.args.list.now c.loop-kept.kept-index kept kept.now c.loop-kept-test.true c.kept-item.is refl in
    let item = read_item c.args.list.now c.loop-kept.kept-index kept kept.now c.loop-kept-test.true c.kept-item.is refl in
    let order : c.loop-kept.most ≤ c.max-most.result = grind (arith, nat_tests) in
    let this : length kept.now.text ≤ c.max-most.result = grind (arith, nat_tests) in
    record {
      so_far = roomy_more (values c.args.list.now) c.loop-kept.kept-index c.loop-kept.most c.max-most.result kept.now here item order this c.loop-kept.invariant.so_far;
      least = λ n all.
          let before : c.loop-kept.most ≤ n = c.loop-kept.invariant.least n all in
          let now : length kept.now.text ≤ n = subst (HasRoom n) item (all c.loop-kept.kept-index kept.now here) in
          grind (arith, nat_tests, before, now);
    }

pub returns-clause-all : goal.returns-clause-all
returns-clause-all c = all_roomy (values c.args.list.now) c.loop-kept.kept-index c.loop-kept.most (all_listed c.args.list.now c.loop-kept.kept-index c.loop-kept-test.false) c.loop-kept.invariant.so_far

pub returns-clause-none : goal.returns-clause-none
returns-clause-none c empty =
    let list = values c.args.list.now in
    let none : All (HasRoom 0) list = λ k kept here. omega (arith, here, empty, length-map c.args.list.now (λ (kept : Bor Layout). kept.now)) in
    omega (arith, c.loop-kept.invariant.least 0 none)
