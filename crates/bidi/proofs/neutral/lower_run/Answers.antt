use Rattle.std.proofs.Common.{◌≡◌, ℕ, ◌+◌, ◌-◌, ◌<◌, ◌≤◌, ◌++◌, Bool, List, true, false, length, get_or, take, replicate, inl, inr, sym, ap, ◌∙◌, arith}
use Rattle.std.proofs.lemmas.Bool.{cases_lt}
use Rattle.std.proofs.lemmas.List.{get_or_default, length-set}
use Rattle.ucd.specs.declared.bidi_class.BidiClass.{BidiClass}
use Rattle.ucd.specs.declared.bidi_class.BidiClass.TheVariants.{L}
use Rattle.bidi.specs.Neutral.{is_neutral}
use Rattle.bidi.proofs.NeutralLemmas.{run-lower, run-lowered}
use Rattle.bidi.proofs.neutral.lower_run.Goals as goal

-- if k + 1 is `at`, the test result for the type read at `at - 1` is the result for the type at k
here : (types : List BidiClass) (at k : ℕ) (d : BidiClass) (b : Bool) → k + 1 ≡ at → at ≤ length types → is_neutral (get_or types (at - 1) L) ≡ b
    → is_neutral (get_or types k d) ≡ b
here types at k d b is within found =
    let same : k ≡ at - 1 = omega (arith, is) in
    ap is_neutral (get_or_default types k d L (omega (arith, is, within)) ∙ ap (λ i. get_or types i L) same) ∙ found

pub loop-at-preserved : goal.loop-at-preserved
loop-at-preserved c =
    let types = c.args.types.now in
    let at = c.loop-at.at in
    let inv = c.loop-at.invariant in
    let some : 0 < at = omega (arith, c.loop-at-test.true) in
    let within : at ≤ length types = omega (arith, inv.within, c.requires.within) in
    record {
      within = omega (arith, inv.within);
      size = length-set c.loop-at.levels (at - 1) c.args.level ∙ inv.size;
      passed = λ k d from below. elim (cases_lt k at) [
        | inl before ↦ here types at k d true (omega (arith, from, before, some)) within (sym c.is_neutral.ensures ∙ c.if-is_neutral.true)
        | inr past ↦ inv.passed k d past below
      ];
      put = run-lower types c.args.levels.now c.loop-at.levels c.args.level c.args.end at some inv.within (omega (arith, inv.size, c.requires.within))
          (omega (arith, within, c.requires.length)) inv.put;
    }

pub returns-else-is_neutral : goal.returns-else-is_neutral
returns-else-is_neutral c start run =
    let types = c.args.types.now in
    let at = c.loop-at.at in
    let inv = c.loop-at.invariant in
    let same : at ≡ start = run-lowered types start at c.args.end run inv.within inv.passed
    (λ k d before from. here types at k d false before (omega (arith, inv.within, c.requires.within)) (sym c.is_neutral.ensures ∙ c.if-is_neutral.false)) in
    inv.put ∙ ap (λ n. take n c.args.levels.now ++ replicate (c.args.end - n) c.args.level) same

pub returns-after-loop-at : goal.returns-after-loop-at
returns-after-loop-at c start run =
    let types = c.args.types.now in
    let at = c.loop-at.at in
    let inv = c.loop-at.invariant in
    let same : at ≡ start = run-lowered types start at c.args.end run inv.within inv.passed
    (λ k d before from. absurd (omega (arith, before, c.loop-at-test.false))) in
    inv.put ∙ ap (λ n. take n c.args.levels.now ++ replicate (c.args.end - n) c.args.level) same
