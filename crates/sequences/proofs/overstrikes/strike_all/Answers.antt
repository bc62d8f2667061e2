use Rattle.std.proofs.Common.{fold, length, sym, ap, ◌∙◌, arith}
use Rattle.sequences.specs.Overstrikes.{after_backspaces, strike}
use Rattle.sequences.proofs.overstrikes.strike_all.Goals as goal

pub loop-c-preserved : goal.loop-c-preserved
loop-c-preserved c =
    let step = strike c.args.after_underline in
    let more = after_backspaces c.in-Some.more.now in
    let next = c.in-Some.ensures.0 in
    record {
      struck = ap (λ s. fold step s more) c.strike-at.ensures ∙ ap (fold step c.loop-c.at) (sym next) ∙ c.loop-c.invariant.struck;
      count = omega (arith, ap length next, c.loop-c.invariant.count);
      within = omega (arith, c.in-Some.ensures.1, c.loop-c.invariant.within);
    }
