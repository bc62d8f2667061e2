use Rattle.std.proofs.Common.{◌≡◌, ◌+◌, ◌/◌, ◌%◌, ◌==◌, ◌<◌, ◌≤◌, not, ◌&&◌, refl, sym, ap, subst, ◌∙◌, arith}
use Rattle.bidi.specs.Rows.{AreGuessed, beside, is_opposite}
use Rattle.bidi.proofs.NeutralLemmas.{beside-is, beside-low, guessed-end, guessed-first, step-keeps, step-lowers}
use Rattle.bidi.proofs.neutral.resolve_neutral.Goals as goal

pub loop-at-init : goal.loop-at-init
loop-at-init c =
    let level = c.args.level in
    let sos = c.args.sos in
    let row = c.row_of-row.result in
    let rise_is : row / 32 % 2 ≡ beside level sos = omega (arith, c.row_of-row.ensures, c.rise_beside.ensures, beside-low level sos) in
    let is : (row / 32 % 2 == 1) ≡ is_opposite level sos = ap (λ n. n == 1) rise_is ∙ beside-is level sos in
    record {
      within = omega arith;
      row = omega (arith, c.row_of-row.ensures, c.rise_beside.ensures, rise_is);
      guessed = subst (λ b. AreGuessed level sos c.args.eos c.args.types.now c.args.levels.now b 0) (sym is)
          (guessed-first level sos c.args.eos c.args.types.now c.args.levels.now c.requires.length);
    }

pub loop-at-preserved : goal.loop-at-preserved
loop-at-preserved c =
    let at = c.loop-at.at in
    let row = c.advance-row-in-loop-at.result in
    let two : at + 1 + 1 ≡ at + 2 = omega arith in
    record {
      within = omega (arith, c.loop-at-test.true);
      row = c.advance-row-in-loop-at.ensures.row;
      guessed = subst (AreGuessed c.args.level c.args.sos c.args.eos c.args.types.now c.advance-row-in-loop-at.new.levels (row / 32 % 2 == 1)) two
          (c.advance-row-in-loop-at.ensures.next c.args.sos c.args.eos (c.advance-row.ensures.next c.args.sos c.args.eos c.loop-at.invariant.guessed));
    }

pub returns-then-row_of-row : goal.returns-then-row_of-row
returns-then-row_of-row c =
    let level = c.args.level in
    let eos = c.args.eos in
    let rise = c.advance_last-row.result / 32 % 2 in
    let low : rise ≤ 1 = omega arith in
    let wrong : beside level eos < rise =
    omega (arith, c.if-row_of-row.true, c.row_of.ensures, c.rise_beside-2.ensures, c.advance_last-row.ensures.row, beside-low level eos) in
    guessed-end level c.args.sos eos (c.advance_last-row.ensures.next c.args.sos eos c.loop-at.invariant.guessed) c.lower_run.new.levels (omega arith) refl c.lower_run.auto.levels
    (λ e. c.lower_run.ensures)
    (λ e. absurd (omega (arith, wrong, step-keeps rise (beside level eos) low (beside-low level eos) (ap (λ b. (rise == 1) && not b) (beside-is level eos) ∙ e))))

pub returns-else-row_of-row : goal.returns-else-row_of-row
returns-else-row_of-row c =
    let level = c.args.level in
    let eos = c.args.eos in
    let rise = c.advance_last-row.result / 32 % 2 in
    let low : rise ≤ 1 = omega arith in
    let right : rise ≤ beside level eos =
    omega (arith, c.if-row_of-row.false, c.row_of.ensures, c.rise_beside-2.ensures, c.advance_last-row.ensures.row, beside-low level eos) in
    guessed-end level c.args.sos eos (c.advance_last-row.ensures.next c.args.sos eos c.loop-at.invariant.guessed) c.advance_last-row.new.levels (omega arith) refl refl
    (λ e. absurd (omega (arith, right, step-lowers rise (beside level eos) low (beside-low level eos) (ap (λ b. (rise == 1) && not b) (beside-is level eos) ∙ e))))
    (λ e. refl)
