use Rattle.std.proofs.Common.{◌≡◌, ℕ, ◌+◌, ◌-◌, ◌<◌, ◌≤◌, List, length, get_or, if◌then◌else◌, sym, ap, ◌∙◌, arith}
use Rattle.std.proofs.lemmas.Bool.{cond-true, cond-false}
use Rattle.ucd.specs.declared.bidi_class.BidiClass.{BidiClass}
use Rattle.ucd.specs.declared.bidi_class.BidiClass.TheVariants.{L}
use Rattle.bidi.specs.Brackets.{context, is_direction}
use Rattle.bidi.proofs.BracketLemmas.{context-more}
use Rattle.bidi.proofs.brackets.strong_before.Goals as goal

-- the nearest strong type before an index is the type directly before the index if that is strong, and
-- otherwise the nearest strong type before that type
back : (sos : BidiClass) (types : List BidiClass) (at : ℕ) → 0 < at → at ≤ length types
    → context sos types at ≡ (if is_direction (get_or types (at - 1) L) then get_or types (at - 1) L else context sos types (at - 1))
back sos types at some within =
    let e : at ≡ (at - 1) + 1 = omega arith in
    ap (context sos types) e ∙ context-more sos types (at - 1) L (omega arith)

pub loop-at-preserved : goal.loop-at-preserved
loop-at-preserved c =
    let types = c.args.types.now in
    let k = c.loop-at.at - 1 in
    record {
      within = omega (arith, c.loop-at.invariant.within);
      nearest = sym (back c.args.sos types c.loop-at.at c.loop-at-test.true c.loop-at.invariant.within
          ∙ cond-false (is_direction (get_or types k L)) (get_or types k L) (context c.args.sos types k) (sym c.is_direction.ensures ∙ c.if-is_direction.false))
          ∙ c.loop-at.invariant.nearest;
    }

pub returns-then-is_direction : goal.returns-then-is_direction
returns-then-is_direction c =
    let types = c.args.types.now in
    let k = c.loop-at.at - 1 in
    sym (back c.args.sos types c.loop-at.at c.loop-at-test.true c.loop-at.invariant.within
    ∙ cond-true (is_direction (get_or types k L)) (get_or types k L) (context c.args.sos types k) (sym c.is_direction.ensures ∙ c.if-is_direction.true))
    ∙ c.loop-at.invariant.nearest

pub returns : goal.returns
returns c =
    let none : 0 ≡ c.loop-at.at = omega (arith, c.loop-at-test.false) in
    ap (context c.args.sos c.args.types.now) none ∙ c.loop-at.invariant.nearest
