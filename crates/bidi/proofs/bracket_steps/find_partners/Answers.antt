use Rattle.std.proofs.Common.{◌≡◌, length, replicate, refl, sym, ap, ◌∙◌, arith}
use Rattle.std.proofs.lemmas.Grind.{common_steps}
use Rattle.std.proofs.lemmas.List.{with_items_is}
use Rattle.bidi.specs.BracketPasses.{paired_by}
use Rattle.bidi.specs.Closers.{left_by, newest}
use Rattle.bidi.proofs.BracketTypeLemmas.{look_for, text_for, looked_up}
use Rattle.bidi.proofs.PartnerLemmas.{Pairing-close, Pairing-end, Pairing-full, Pairing-open, Pairing-other, Pairing-start, index-below, length-paired, length-partners, none_yet}
use Rattle.bidi.proofs.LookedUpLemmas.{closes_by, opens_by, looked_up_of}
use Rattle.bidi.proofs.bracket_steps.find_partners.Goals as goal
use Rattle.bidi.proofs.bracket_steps.find_partners.Goals.{in-Opening+else-len-ge-MAX_OPENERS+in_ok-push-in-Opening, in-Closing, in-Other}

pub loop-place-init : goal.loop-place-init
loop-place-init c look text are =
    let items : c.resize.new.self.items ≡ replicate (length c.args.types.now) (length c.args.types.now) = grind (arith, common_steps, c.in_ok-resize.ensures.items, c.clear-2.ensures.items) in
    rw c.clear.ensures.items (Pairing-start look text c.args.types.now c.resize.new.self.items (items ∙ none_yet (length c.args.types.now)))

pub pair_up-requires-clause-indices : goal.pair_up-requires-clause-indices
pair_up-requires-clause-indices c = λ m h.
    let kinds = c.args.kinds.now in
    let now = c.loop-place.invariant (look_for kinds) (text_for kinds) (looked_up kinds) in
    let below = index-below (look_for kinds) (text_for kinds) c.args.types.now c.loop-place.place m c.loop-place.openers.items c.loop-place.partners.items now h in
    let size = length-partners (look_for kinds) (text_for kinds) c.args.types.now c.loop-place.place c.loop-place.openers.items c.loop-place.partners.items now in
    let same = ap length c.deref_mut.ensures.value in
    omega (arith, c.loop-place-test.true)

pub returns-then-len-ge-MAX_OPENERS-clause-found : goal.returns-then-len-ge-MAX_OPENERS-clause-found
returns-then-len-ge-MAX_OPENERS-clause-found c look text are =
    let types = c.args.types.now in
    let k = c.loop-place.place in
    let here = looked_up_of look text c.args.kinds.now types k c.bracket_in.result c.loop-place-test.true c.requires are c.bracket_in.ensures in
    Pairing-full look text types k c.loop-place.openers.items c.loop-place.partners.items c.loop-place-test.true (here.opens ∙ ap opens_by c.in-Opening.is)
    (omega arith) (c.loop-place.invariant look text are)

pub returns-clause-found : goal.returns-clause-found
returns-clause-found c look text are =
    Pairing-end look text c.args.types.now c.loop-place.place c.loop-place.openers.items c.loop-place.partners.items (omega (arith, c.loop-place-test.false, c.loop-place.auto.place-end))
    (c.loop-place.invariant look text are)

pub loop-place-preserved : goal.loop-place-preserved
loop-place-preserved c look text are =
    let types = c.args.types.now in
    let k = c.loop-place.place in
    let openers = c.loop-place.openers.items in
    let partners = c.loop-place.partners.items in
    let now = c.loop-place.invariant look text are in
    let here = looked_up_of look text c.args.kinds.now types k c.bracket_in.result c.loop-place-test.true c.requires are c.bracket_in.ensures in
    elim c.match-bracket_in.branch [
      | in-Opening+else-len-ge-MAX_OPENERS+in_ok-push-in-Opening w ↦
          let b = here.pair w.in-Opening.pair w.in-Opening.is in
          rw (w.openers-is, w.partners-is, w.in_ok-push-in-Opening.ensures.items)
          (Pairing-open look text types k openers partners b.0 (record { index = k; pair = w.in-Opening.pair }) refl (here.opens ∙ ap opens_by w.in-Opening.is) b.1 b.2 (omega arith) now)
      | in-Closing w ↦
          let closer = w.in-Closing.closer in
          let found = newest openers closer in
          let left : c.match-bracket_in.openers.items ≡ left_by found openers = ap (λ v. v.items) w.openers-is ∙ w.pair_up.ensures.openers in
          let closed : w.pair_up.new.partners ≡ paired_by found openers partners k = w.pair_up.ensures.partners ∙ ap (λ l. paired_by found openers l k) w.deref_mut.ensures.value in
          let after : c.match-bracket_in.partners.items ≡ paired_by found openers partners k =
          ap (λ v. v.items) w.partners-is ∙ with_items_is c.loop-place.partners w.pair_up.new.partners
          (ap length closed ∙ length-paired found openers partners k ∙ sym (ap length w.deref_mut.ensures.value) ∙ w.deref_mut.ensures.len) ∙ closed in
          rw (left, after)
          (Pairing-close look text types k openers partners closer (here.number closer w.in-Closing.is) c.loop-place-test.true (here.closes ∙ ap closes_by w.in-Closing.is) now)
      | in-Other w ↦
          rw (w.openers-is, w.partners-is)
          (Pairing-other look text types k openers partners (here.opens ∙ ap opens_by w.in-Other.is) (here.closes ∙ ap closes_by w.in-Other.is) now)
    ]
