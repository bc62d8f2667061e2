use Rattle.std.proofs.Common.{◌≡◌, ◌∙◌, true≢false, length, ap, subst, sym, arith}
use Rattle.lines.specs.Extents.{extents_in}
use Rattle.lines.specs.Layouts.{Layout}
use Rattle.lines.specs.Matching.{HaveSamePlace}
use Rattle.lines.proofs.StayingLemmas.{staying_start}
use Rattle.lines.proofs.laid.Laid.staying_at_start.Goals as goal

pub returns-then-not-has_same_place : goal.returns-then-not-has_same_place
returns-then-not-has_same_place c = λ rules width laid is.
    let old-is : c.extents-old.result.now ≡ extents_in c.args.self.now.lines = c.extents-old.ensures ∙ ap (λ (l : Layout). extents_in l.lines) c.self.view_is in
    let size : c.len.result ≡ length c.args.self.now.text = c.len.ensures ∙ c.self.inside.text.ok.0 ∙ ap (λ (l : Layout). length l.text) c.self.view_is in
    staying_start c.args.self.now c.extents-old.result.now c.args.extents.now c.loop-k.k old-is (omega arith) (omega arith) rules width laid is
    c.loop-k.invariant
    (λ _ _ same. absurd (true≢false (sym (c.has_same_place.ensures.no (subst (λ n. HaveSamePlace n c.extents-old.result.now c.args.extents.now c.loop-k.k c.loop-k.k) (sym size) same)) ∙ c.if-not-has_same_place.true)))

pub returns : goal.returns
returns c = λ rules width laid is.
    let old-is : c.extents-old.result.now ≡ extents_in c.args.self.now.lines = c.extents-old.ensures ∙ ap (λ (l : Layout). extents_in l.lines) c.self.view_is in
    let all : c.loop-k.k ≡ c.min-most.result = omega arith in
    staying_start c.args.self.now c.extents-old.result.now c.args.extents.now c.min-most.result old-is (omega arith) (omega arith) rules width laid is
    (λ j below. c.loop-k.invariant j (omega (arith, below)))
    (λ o w same. absurd (omega (arith, o, w)))
