use Rattle.std.proofs.Common.{[], not, take, sym, ap, subst, ◌∙◌, arith}
use Rattle.std.specs.Prelude.{IsUtf8}
use Rattle.std.specs.Str.{chars}
use Rattle.std.proofs.lemmas.List.{length-take-le}
use Rattle.std.proofs.lemmas.Str.{IsCharBoundary-from_drop}
use Rattle.bidi.specs.TextCuts.{EndsAfter, FindsEndAfter}
use Rattle.lines.specs.Engine.{rules_of}
use Rattle.lines.specs.Layouts.{cut_by}
use Rattle.session.proofs.JoinedLemmas.{long_first, split_at_end, within_after, within_uncut}
use Rattle.session.proofs.RefusalSteps.{short_within, text_few}
use Rattle.session.proofs.joined.has_long_in_text.Goals as goal

pub split_at-requires : goal.split_at-requires
split_at-requires c = IsCharBoundary-from_drop c.loop-rest.rest.now c.in-Some.end c.in-Some.ensures.within c.in-Some.ensures.rest

pub loop-rest-smaller : goal.loop-rest-smaller
loop-rest-smaller c =
    let rest = c.loop-rest.rest.now in
    let ends : EndsAfter (cut_by (rules_of c.args.engine.now)) [] rest c.in-Some.end = c.in-Some.ensures in
    omega (arith, c.split_at.ensures.back_len, ends.within, ends.splits.0, text_few (take c.in-Some.end rest) ends.front, length-take-le c.in-Some.end rest ends.within)

pub loop-rest-preserved : goal.loop-rest-preserved
loop-rest-preserved c =
    let is_cut = cut_by (rules_of c.args.engine.now) in
    let rest = c.loop-rest.rest.now in
    let ends : EndsAfter is_cut [] rest c.in-Some.end = c.in-Some.ensures in
    let split = split_at_end is_cut rest _ _ c.in-Some.end ends c.split_at.ensures.front c.split_at.ensures.back in
    record {
      utf8 = subst IsUtf8 (sym c.split_at.ensures.back) ends.rest;
      same = c.loop-rest.invariant.same ∙ within_after is_cut (chars rest) _ _ split (sym c.is_long-in-loop-rest.ensures ∙ c.if-is_long.false);
    }

pub returns-then-is_long : goal.returns-then-is_long
returns-then-is_long c =
    let is_cut = cut_by (rules_of c.args.engine.now) in
    let rest = c.loop-rest.rest.now in
    let ends : EndsAfter is_cut [] rest c.in-Some.end = c.in-Some.ensures in
    let split = split_at_end is_cut rest _ _ c.in-Some.end ends c.split_at.ensures.front c.split_at.ensures.back in
    sym (ap not (c.loop-rest.invariant.same ∙ long_first is_cut (chars rest) _ _ split (sym c.is_long-in-loop-rest.ensures ∙ c.if-is_long.true)))

pub returns-in_default : goal.returns-in_default
returns-in_default c =
    let is_cut = cut_by (rules_of c.args.engine.now) in
    let rest = c.loop-rest.rest.now in
    let none = subst (λ o. FindsEndAfter is_cut [] rest o) c.in_default.is c.first_cut_in_text.ensures in
    c.is_long.ensures ∙ sym (ap not (c.loop-rest.invariant.same ∙ within_uncut is_cut (chars rest) none))

pub returns : goal.returns
returns c =
    let rest = c.loop-rest.rest.now in
    sym (ap not (c.loop-rest.invariant.same ∙ short_within c.paragraphs_are_pieces.ensures (cut_by (rules_of c.args.engine.now)) (chars rest)
    (omega (arith, text_few rest c.loop-rest.invariant.utf8, c.loop-rest-test.false))))
