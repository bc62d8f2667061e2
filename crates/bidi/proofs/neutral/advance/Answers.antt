use Rattle.std.proofs.Common.{◌≡◌, ◌+◌, ◌-◌, ◌/◌, ◌%◌, ◌==◌, ◌<◌, ◌≤◌, true, false, not, ◌&&◌, ◌||◌, get_or, sym, ap, subst, ◌∙◌, arith}
use Rattle.ucd.specs.declared.bidi_class.BidiClass.TheVariants.{L}
use Rattle.bidi.specs.Neutral.{is_neutral}
use Rattle.bidi.specs.Rows.{LowersRun, above, rise_after, row_of, step, turn}
use Rattle.bidi.proofs.NeutralLemmas.{guessed-next, opposes, step-keeps, step-lift, step-low, step-lowers, step-next}
use Rattle.bidi.proofs.NeutralTableLemmas.{row-next, lift-next, turn-below}
use Rattle.bidi.proofs.neutral.advance.Goals as goal
use Rattle.bidi.proofs.neutral.advance.Goals.{then-next-row, else-next-row}

pub returns-clause-row : goal.returns-clause-row
returns-clause-row c =
    let level = c.args.level in
    let rise = c.args.row / 32 % 2 in
    let low : rise ≤ 1 = omega arith in
    let type = get_or c.args.types.now c.args.at L in
    let under : rise_after level rise type ≤ 1 = step-low rise (turn level type) low (turn-below level type) in
    let next_is : c.step-entry.result / 256 ≡ row_of level (rise_after level rise type) =
    ap (λ n. n / 256) c.step-entry.ensures.entry ∙ row-next level rise type low in
    omega (arith, next_is, under)

pub returns-clause-next : goal.returns-clause-next
returns-clause-next c sos eos guessed =
    let level = c.args.level in
    let types = c.args.types.now in
    let at = c.args.at in
    let row = c.args.row in
    let rise = row / 32 % 2 in
    let low : rise ≤ 1 = omega arith in
    let type = get_or types at L in
    let next = rise_after level rise type in
    let put = c.if-next-row.levels in
    let under : next ≤ 1 = step-low rise (turn level type) low (turn-below level type) in
    let entry = c.step-entry.result in
    let entry_is : entry ≡ step level rise type = c.step-entry.ensures.entry in
    let next_is : entry / 256 ≡ row_of level next = ap (λ n. n / 256) entry_is ∙ row-next level rise type low in
    let rise_is : entry / 256 / 32 % 2 ≡ next = omega (arith, next_is, under) in
    let is : (entry / 256 / 32 % 2 == 1) ≡ (((rise == 1) && is_neutral type) || opposes level type) =
    ap (λ n. n == 1) rise_is ∙ step-next level rise type low in
    let lowered : (rise == 1) && not (entry / 256 / 32 % 2 == 1) ≡ true → LowersRun level types c.args.levels.now at put =
    λ e. elim c.if-next-row.branch [
      | then-next-row w ↦ subst (LowersRun level types c.args.levels.now at) (sym w.levels-is) w.lower_run.ensures
      | else-next-row w ↦
          let wrong : next < rise = step-lowers rise next low under (ap (λ n. (rise == 1) && not (n == 1)) (sym rise_is) ∙ e) in
          absurd (omega (arith, wrong, next_is, under, c.requires.row, w.if-next-row.false))
    ] in
    let kept : (rise == 1) && not (entry / 256 / 32 % 2 == 1) ≡ false → put ≡ c.args.levels.now =
    λ e. elim c.if-next-row.branch [
      | then-next-row w ↦
          let right : rise ≤ next = step-keeps rise next low under (ap (λ n. (rise == 1) && not (n == 1)) (sym rise_is) ∙ e) in
          absurd (omega (arith, right, next_is, under, c.requires.row, w.if-next-row.true))
      | else-next-row w ↦ w.levels-is
    ] in
    let lift : entry % 256 ≡ (next + above level type) - 1 = ap (λ n. n % 256) entry_is ∙ lift-next level rise type low in
    guessed-next level sos eos guessed put (entry / 256 / 32 % 2 == 1) (level + entry % 256) L c.requires.within c.if-next-row.auto.levels is lowered kept
    (ap (λ n. level + n) lift ∙ step-lift level rise type low)
