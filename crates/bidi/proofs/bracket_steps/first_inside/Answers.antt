use Rattle.std.proofs.Common.{◌+◌, ◌-◌, sym, ◌∙◌, arith}
use Rattle.std.proofs.lemmas.Bool.{lt-ltb, le-ltb}
use Rattle.ucd.specs.Classes.{class_at}
use Rattle.bidi.specs.Brackets.{is_toward}
use Rattle.bidi.proofs.BracketLemmas.{stands_is}
use Rattle.bidi.proofs.LeastLemmas.{least_found, least_none}
use Rattle.bidi.proofs.bracket_steps.first_inside.Goals as goal

pub returns-then-next-closer-clause-first : goal.returns-then-next-closer-clause-first
returns-then-next-closer-clause-first c =
    let next = c.next_toward-next.ensures in
    sym (least_found (λ k. is_toward c.args.left (class_at c.args.types.now k)) (c.args.opener + 1) (c.args.closer - (c.args.opener + 1)) c.next_toward-next.result
    next.reached (omega (arith, next.reached)) (next.stops c.if-next-closer.true) next.passed)

pub returns-then-next-closer-clause-stands : goal.returns-then-next-closer-clause-stands
returns-then-next-closer-clause-stands c =
    let next = c.next_toward-next.ensures in
    sym (lt-ltb c.next_toward-next.result c.args.closer c.if-next-closer.true)
    ∙ stands_is c.args.left c.args.types.now c.args.opener c.args.closer c.next_toward-next.result c.requires.within (omega (arith, next.reached))
    (λ m above below inside. next.passed m (omega arith) below) next.stops

pub returns-else-next-closer-clause-first : goal.returns-else-next-closer-clause-first
returns-else-next-closer-clause-first c =
    let next = c.next_toward-next.ensures in
    sym (least_none (λ k. is_toward c.args.left (class_at c.args.types.now k)) (c.args.opener + 1) (c.args.closer - (c.args.opener + 1))
    (λ m from to. next.passed m from (omega (arith, c.if-next-closer.false, c.requires.order))))

pub returns-else-next-closer-clause-stands : goal.returns-else-next-closer-clause-stands
returns-else-next-closer-clause-stands c =
    let next = c.next_toward-next.ensures in
    sym (le-ltb c.next_toward-next.result c.args.closer (omega (arith, c.if-next-closer.false)))
    ∙ stands_is c.args.left c.args.types.now c.args.opener c.args.closer c.next_toward-next.result c.requires.within (omega (arith, next.reached))
    (λ m above below inside. next.passed m (omega arith) below) next.stops
