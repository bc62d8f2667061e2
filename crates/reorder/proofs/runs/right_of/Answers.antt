use Rattle.std.proofs.Common.{◌≡◌, true, ◌<◌, ◌+◌, ◌-◌, ap, length, get_or, subst, sym, arith}
use Rattle.std.proofs.lemmas.Bool.{both_ways}
use Rattle.reorder.specs.Lowest.{IsPassed}
use Rattle.reorder.specs.Order.{is_odd}
use Rattle.reorder.proofs.LeftmostLemmas.{even_zero, none_right, odd_zero, passed_back, passed_on, right_back, right_on}
use Rattle.reorder.proofs.runs.right_of.Goals as goal
use Rattle.reorder.proofs.runs.right_of.Goals.{then-level-eq0+else-end-levels, else-end-levels-via-then-end-levels+else-levels-end, else-end-levels-via-else-end-levels, else-level-eq0+else-start-gt0, else-start-gt0-via-then-start-gt0+else-levels-start, else-start-gt0-via-else-start-gt0}

pub returns-then-levels-end : goal.returns-then-levels-end
returns-then-levels-end c =
    right_on c.args.levels.now c.args.place c.loop-level.level c.loop-level.start c.loop-level.end c.loop-level.invariant (even_zero c.loop-level.level c.if-level-eq0.true)
    c.leftmost_on.result c.leftmost_on.ensures

pub returns-then-levels-start : goal.returns-then-levels-start
returns-then-levels-start c =
    right_back c.args.levels.now c.args.place c.loop-level.level c.loop-level.start c.loop-level.end c.loop-level.invariant (odd_zero c.loop-level.level c.if-level-eq0.false)
    c.leftmost_back.result c.leftmost_back.ensures

pub returns-then-level-eq0-2 : goal.returns-then-level-eq0-2
returns-then-level-eq0-2 c =
    let levels = c.args.levels.now in
    elim c.if-level-eq0.branch [
      | then-level-eq0+else-end-levels w ↦
          let stop : c.loop-level.end < length levels → get_or levels c.loop-level.end 0 < c.loop-level.level =
          λ within. elim w.else-end-levels.branch [
            | else-end-levels-via-then-end-levels+else-levels-end v ↦ omega (arith, v.if-levels-end.false)
            | else-end-levels-via-else-end-levels v ↦ absurd (omega (arith, within, v.if-end-levels.false))
          ] in
          none_right levels c.args.place c.loop-level.level c.loop-level.start c.loop-level.end c.loop-level.invariant (even_zero c.loop-level.level w.if-level-eq0.true) stop
          w.extent_back-start.result w.extent_back-start.ensures c.if-level-eq0-2.true
      | else-level-eq0+else-start-gt0 w ↦
          let odd : is_odd c.loop-level.level ≡ true = odd_zero c.loop-level.level w.if-level-eq0.false in
          absurd (both_ways (is_odd c.loop-level.level) (ap is_odd c.if-level-eq0-2.true) odd)
    ]

pub loop-level-preserved : goal.loop-level-preserved
loop-level-preserved c =
    let levels = c.args.levels.now in
    let next : c.loop-level.level - 1 + 1 ≡ c.loop-level.level = omega (arith, c.if-level-eq0-2.false) in
    elim c.if-level-eq0.branch [
      | then-level-eq0+else-end-levels w ↦
          let stop : c.loop-level.end < length levels → get_or levels c.loop-level.end 0 < c.loop-level.level =
          λ within. elim w.else-end-levels.branch [
            | else-end-levels-via-then-end-levels+else-levels-end v ↦ omega (arith, v.if-levels-end.false)
            | else-end-levels-via-else-end-levels v ↦ absurd (omega (arith, within, v.if-end-levels.false))
          ] in
          subst (λ k. IsPassed levels c.args.place (c.loop-level.level - 1) k c.if-level-eq0.end) (sym w.start-is)
          (subst (λ k. IsPassed levels c.args.place (c.loop-level.level - 1) w.extent_back-start.result k) (sym w.end-is)
          (passed_back levels c.args.place c.loop-level.level c.loop-level.start c.loop-level.end c.loop-level.invariant
          (even_zero c.loop-level.level w.if-level-eq0.true) stop w.extent_back-start.result w.extent_back-start.ensures (c.loop-level.level - 1) next))
      | else-level-eq0+else-start-gt0 w ↦
          let stop : 0 < c.loop-level.start → get_or levels (c.loop-level.start - 1) 0 < c.loop-level.level =
          λ some. elim w.else-start-gt0.branch [
            | else-start-gt0-via-then-start-gt0+else-levels-start v ↦ omega (arith, v.if-levels-start.false)
            | else-start-gt0-via-else-start-gt0 v ↦ absurd (omega (arith, some, v.if-start-gt0.false))
          ] in
          subst (λ k. IsPassed levels c.args.place (c.loop-level.level - 1) k c.if-level-eq0.end) (sym w.start-is)
          (subst (λ k. IsPassed levels c.args.place (c.loop-level.level - 1) c.loop-level.start k) (sym w.end-is)
          (passed_on levels c.args.place c.loop-level.level c.loop-level.start c.loop-level.end c.loop-level.invariant
          (odd_zero c.loop-level.level w.if-level-eq0.false) stop w.extent_on-end.result w.extent_on-end.ensures (c.loop-level.level - 1) next))
    ]
