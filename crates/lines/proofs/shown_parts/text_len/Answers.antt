use Rattle.std.proofs.Common.{◌≡◌, ◌∙◌, ◌-◌, ◌<◌, ◌≤◌, ℕ, true, length, sym, arith}
use Rattle.std.specs.List.{suffix_len}
use Rattle.std.proofs.lemmas.List.Sums.{suffix_len_is}
use Rattle.lines.specs.CharInfos.{sized}
use Rattle.lines.specs.Filling.{nothing, place_at, trails}
use Rattle.lines.proofs.SizedLemmas.{sized_trails}
use Rattle.lines.proofs.WidthLemmas.{length-sized}
use Rattle.lines.proofs.shown_parts.text_len.Goals as goal

pub returns-else-may_trail-clause-len : goal.returns-else-may_trail-clause-len
returns-else-may_trail-clause-len c advances =
    let plain = c.args.line.now in
    let line = sized advances plain in
    let size = length-sized advances plain in
    let w = c.loop-len.invariant in
    let trailing : (k : ℕ) → c.loop-len.len ≤ k → k < length line → trails (place_at line k) ≡ true = λ k above below. sized_trails advances plain k ∙ w.trailing k above (omega (arith, below, size)) in
    let tail : suffix_len trails line ≡ length line - c.loop-len.len = suffix_len_is trails line c.loop-len.len nothing (omega (arith, w.within, size)) trailing (λ some. sized_trails advances plain (c.loop-len.len - 1) ∙ sym c.may_trail.ensures ∙ c.if-may_trail.false) in
    omega (arith, tail, w.within, size)

pub returns-after-loop-len-clause-len : goal.returns-after-loop-len-clause-len
returns-after-loop-len-clause-len c advances =
    let plain = c.args.line.now in
    let line = sized advances plain in
    let size = length-sized advances plain in
    let w = c.loop-len.invariant in
    let trailing : (k : ℕ) → c.loop-len.len ≤ k → k < length line → trails (place_at line k) ≡ true = λ k above below. sized_trails advances plain k ∙ w.trailing k above (omega (arith, below, size)) in
    let tail : suffix_len trails line ≡ length line - c.loop-len.len = suffix_len_is trails line c.loop-len.len nothing (omega (arith, w.within, size)) trailing (λ some. absurd (omega (arith, c.loop-len-test.false))) in
    omega (arith, tail, w.within, size)
