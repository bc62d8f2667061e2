use Rattle.std.proofs.Common.{◌≡◌, ◌∙◌, ◌++◌, Some, take, drop, length, refl, sym, subst, ap, arith}
use Rattle.std.specs.Prelude.{IsUtf8}
use Rattle.std.specs.Str.{chars}
use Rattle.std.proofs.lemmas.List.{length-drop}
use Rattle.std.proofs.lemmas.Str.{IsCharBoundary-from_drop}
use Rattle.bidi.specs.Cuts.{SplitsAt}
use Rattle.lines.specs.Engine.{rules_of}
use Rattle.lines.specs.Layouts.{Rules, cut_by}
use Rattle.lines.specs.Pages.{paragraph_bytes}
use Rattle.bidi.specs.TextCuts.{EndsAfter}
use Rattle.text_run.proofs.CountLemmas.{at_most_none}
use Rattle.bidi.proofs.TextCutLemmas.{ends_parts}
use Rattle.text_run.proofs.PieceLemmas.{first_is_paragraph}
use Rattle.text_run.proofs.PushLemmas.{first_within, pushed_more, pushed_none}
use Rattle.text_run.proofs.paragraphs.push_ended.Goals as goal

pub loop-end-init : goal.loop-end-init
loop-end-init c = record {
  utf8 = c.utf8.text;
  kept = refl;
  uncut = c.requires.uncut;
  room = c.requires.room;
  few = omega arith;
  so_far = pushed_none (rules_of c.args.engine.now) c.args.width c.args.print.now (c.args.held.now.items ++ chars c.args.text.now) c.args.page.now.bytes.items c.args.engine.now 0
      (λ some. absurd (omega (arith, some))) c.requires.within (c.counts_fit.ensures c.args.print.now) (at_most_none c.args.print.now c.args.engine.now);
}

pub split_at-requires : goal.split_at-requires
split_at-requires c = IsCharBoundary-from_drop c.loop-end.rest.now c.in-Some.end c.in-Some.ensures.within c.in-Some.ensures.rest

pub push_first-requires-clause-paragraph : goal.push_first-requires-clause-paragraph
push_first-requires-clause-paragraph c =
    let held = c.loop-end.held.items in
    let rest = c.loop-end.rest.now in
    let rules = rules_of c.loop-end.engine in
    let ends : EndsAfter (cut_by rules) held rest c.in-Some.end = subst (λ (h : _). EndsAfter (cut_by rules) h rest c.in-Some.end) c.deref.ensures.value c.in-Some.ensures in
    let k = length (held ++ chars (take c.in-Some.end rest)) in
    let parts = ends_parts held rest c.in-Some.end ends.front in
    let first = first_within (cut_by (rules_of c.args.engine.now)) (held ++ chars rest) k c.loop-end.invariant.so_far.within
    (subst (λ (r : Rules). SplitsAt (cut_by r) (held ++ chars rest) (Some k)) c.loop-end.invariant.kept ends.splits) in
    first_is_paragraph c.paragraphs_are_pieces.ensures rules (held ++ chars rest) _ k ends.splits first.0
    (ap (λ t. held ++ chars t) c.split_at.ensures.front ∙ parts.0)

pub loop-end-smaller : goal.loop-end-smaller
loop-end-smaller c =
    let held = c.loop-end.held.items in
    let rest = c.loop-end.rest.now in
    let rules = rules_of c.loop-end.engine in
    let ends : EndsAfter (cut_by rules) held rest c.in-Some.end = subst (λ (h : _). EndsAfter (cut_by rules) h rest c.in-Some.end) c.deref.ensures.value c.in-Some.ensures in
    let k = length (held ++ chars (take c.in-Some.end rest)) in
    let parts = ends_parts held rest c.in-Some.end ends.front in
    let after_is : c.clear.new.self.items ++ chars c.split_at.result.1.now ≡ drop k (held ++ chars rest) =
    ap (λ t. t ++ chars c.split_at.result.1.now) c.clear.ensures.items ∙ ap chars c.split_at.ensures.back ∙ parts.1 in
    omega (arith, ap length after_is, length-drop k (held ++ chars rest), ends.splits.0, ends.splits.1)

-- pushing one more paragraph preserves the loop invariant
pub loop-end-preserved : goal.loop-end-preserved
loop-end-preserved c =
    let held = c.loop-end.held.items in
    let rest = c.loop-end.rest.now in
    let rules = rules_of c.loop-end.engine in
    let kept = c.loop-end.invariant.kept in
    let ends : EndsAfter (cut_by rules) held rest c.in-Some.end = subst (λ (h : _). EndsAfter (cut_by rules) h rest c.in-Some.end) c.deref.ensures.value c.in-Some.ensures in
    let k = length (held ++ chars (take c.in-Some.end rest)) in
    let parts = ends_parts held rest c.in-Some.end ends.front in
    let paragraph = held ++ chars c.split_at.result.0.now in
    let paragraph_is : paragraph ≡ take k (held ++ chars rest) = ap (λ t. held ++ chars t) c.split_at.ensures.front ∙ parts.0 in
    let after_is : c.clear.new.self.items ++ chars c.split_at.result.1.now ≡ drop k (held ++ chars rest) =
    ap (λ t. t ++ chars c.split_at.result.1.now) c.clear.ensures.items ∙ ap chars c.split_at.ensures.back ∙ parts.1 in
    record {
      utf8 = subst IsUtf8 (sym c.split_at.ensures.back) ends.rest;
      kept = c.push_first.ensures.rules ∙ kept;
      uncut = λ some. absurd (omega (arith, some, ap length c.clear.ensures.items));
      room = λ none. omega (arith, c.clear.ensures.len, c.clear.ensures.capacity, c.push_first.ensures.capacity, c.loop-end.invariant.room none, c.split_at.ensures.back_len);
      few = omega (arith, c.split_at.ensures.back_len, c.loop-end.invariant.few);
      so_far = pushed_more (rules_of c.args.engine.now) c.args.width c.args.print.now (c.args.held.now.items ++ chars c.args.text.now)
          c.args.page.now.bytes.items c.args.engine.now (held ++ chars rest) _ _ _ k c.loop-end.page.bytes.items _
          c.loop-end.engine c.push_first.new.engine
          (subst (λ (r : Rules). SplitsAt (cut_by r) (held ++ chars rest) (Some k)) kept ends.splits) paragraph_is after_is
          (subst (λ (r : Rules). c.push_first.new.page.bytes.items ≡ c.loop-end.page.bytes.items
          ++ paragraph_bytes r c.args.width c.args.print.now paragraph) kept
          c.in_ok-push_first.ensures.ok)
          c.in_ok-push_first.ensures.counts c.push_first.ensures.at_most c.loop-end.invariant.so_far;
    }
