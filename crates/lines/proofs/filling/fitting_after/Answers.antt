use Rattle.std.proofs.Common.{◌≡◌, ◌+◌, ◌<◌, ◌≤◌, true, false, length, arith, suc, sym, ◌∙◌, ap}
use Rattle.std.proofs.lemmas.Bool.{both_ways}
use Rattle.bidi.specs.Brackets.{greatest}
use Rattle.lines.specs.CharInfos.{advance, sized}
use Rattle.lines.specs.Filling.{fits_to, place_at, trails}
use Rattle.lines.proofs.FillingLemmas.{fits_here, fits_more, read_to_end, read_to_misfit, read_to_stop}
use Rattle.lines.proofs.SizedLemmas.{sized_must, sized_trails}
use Rattle.lines.proofs.WidthLemmas.{length-sized}
use Rattle.lines.proofs.filling.fitting_after.Goals as goal
use Rattle.lines.proofs.filling.fitting_after.Goals.{else-columns-width-via-then-columns-width+else-not-may_trail, else-columns-width-via-else-columns-width}

pub returns-then-not-may_trail-clause-last : goal.returns-then-not-may_trail-clause-last
returns-then-not-may_trail-clause-last g c test =
    let given = g.S.Sizes.given c.args.ruler.sizes in
    let rest = sized given c.args.rest.now in
    let k = c.loop-k.k in
    let within : k < length rest = omega (arith, c.loop-k-test.true, length-sized given c.args.rest.now) in
    let next : c.advance-columns.result ≡ advance c.loop-k.columns (place_at rest k) = c.advance-columns.ensures.columns ∙ ap (advance c.loop-k.columns) (sym c.size.ensures.size) in
    read_to_misfit c.args.ruler.width rest test k c.loop-k.columns c.advance-columns.result within c.loop-k.invariant next
    (sized_trails given c.args.rest.now k ∙ sym c.may_trail.ensures ∙ c.if-not-may_trail.true) c.if-columns-width.true

pub returns-then-is_must-clause-last : goal.returns-then-is_must-clause-last
returns-then-is_must-clause-last g c test =
    let given = g.S.Sizes.given c.args.ruler.sizes in
    let width = c.args.ruler.width in
    let rest = sized given c.args.rest.now in
    let k = c.loop-k.k in
    let within : k < length rest = omega (arith, c.loop-k-test.true, length-sized given c.args.rest.now) in
    let next : c.advance-columns.result ≡ advance c.loop-k.columns (place_at rest k) = c.advance-columns.ensures.columns ∙ ap (advance c.loop-k.columns) (sym c.size.ensures.size) in
    let narrow : trails (place_at rest k) ≡ false → c.advance-columns.result ≤ width =
    λ counts. elim c.else-columns-width.branch [
      | else-columns-width-via-then-columns-width+else-not-may_trail w ↦ absurd (both_ways (trails (place_at rest k)) counts (sized_trails given c.args.rest.now k ∙ sym w.may_trail.ensures ∙ w.if-not-may_trail.false))
      | else-columns-width-via-else-columns-width w ↦ w.if-columns-width.false
    ] in
    let fit : fits_to width rest k ≡ true = fits_here width rest k c.loop-k.columns c.advance-columns.result within c.loop-k.invariant next narrow in
    let more : suc k ≡ k + 1 = omega arith in
    read_to_stop width rest test k c.loop-k.columns within c.loop-k.invariant fit (sized_must given c.args.rest.now k ∙ sym c.is_must.ensures ∙ c.if-is_must.true)
    ∙ ap (greatest test) more

pub loop-k-preserved : goal.loop-k-preserved
loop-k-preserved g c =
    let given = g.S.Sizes.given c.args.ruler.sizes in
    let width = c.args.ruler.width in
    let rest = sized given c.args.rest.now in
    let k = c.loop-k.k in
    let within : k < length rest = omega (arith, c.loop-k-test.true, length-sized given c.args.rest.now) in
    let next : c.advance-columns.result ≡ advance c.loop-k.columns (place_at rest k) = c.advance-columns.ensures.columns ∙ ap (advance c.loop-k.columns) (sym c.size.ensures.size) in
    let narrow : trails (place_at rest k) ≡ false → c.advance-columns.result ≤ width =
    λ counts. elim c.else-columns-width.branch [
      | else-columns-width-via-then-columns-width+else-not-may_trail w ↦ absurd (both_ways (trails (place_at rest k)) counts (sized_trails given c.args.rest.now k ∙ sym w.may_trail.ensures ∙ w.if-not-may_trail.false))
      | else-columns-width-via-else-columns-width w ↦ w.if-columns-width.false
    ] in
    let fit : fits_to width rest k ≡ true = fits_here width rest k c.loop-k.columns c.advance-columns.result within c.loop-k.invariant next narrow in
    fits_more width rest k c.loop-k.columns c.advance-columns.result within c.loop-k.invariant next (omega (arith, c.advance-columns.ensures.most)) fit
    (sized_must given c.args.rest.now k ∙ sym c.is_must.ensures ∙ c.if-is_must.false)

pub returns-clause-last : goal.returns-clause-last
returns-clause-last g c test =
    let given = g.S.Sizes.given c.args.ruler.sizes in
    let same = length-sized given c.args.rest.now in
    read_to_end c.args.ruler.width (sized given c.args.rest.now) test c.loop-k.k c.loop-k.columns (omega (arith, c.requires.some.0, same))
    (omega (arith, c.loop-k.invariant.within, c.loop-k-test.false, same)) c.loop-k.invariant

pub returns-clause-within : goal.returns-clause-within
returns-clause-within g c = omega (arith, c.loop-k.invariant.within, length-sized (g.S.Sizes.given c.args.ruler.sizes) c.args.rest.now)
