use Rattle.std.proofs.Common.{◌≡◌, ℕ, ◌+◌, ◌-◌, ◌<◌, ◌==◌, Bool, true, false, List, [], ◌∷◌, ◌++◌, length, take, set, get_or, if◌then◌else◌, sym, ap, ◌∙◌, inl, inr, arith}
use Rattle.std.proofs.lemmas.Bool.{cond-true, cond-false, cases_Bool, cases_eq, ne_eqb}
use Rattle.std.proofs.lemmas.List.{get_or_default, length-set, nil_from_length, with_items_is}
use Rattle.ucd.specs.declared.bidi_class.BidiClass.{BidiClass}
use Rattle.ucd.specs.declared.bidi_class.BidiClass.TheVariants.{L, ON}
use Rattle.ucd.specs.Classes.{class_at, is_initiator, is_pdi}
use Rattle.bidi.proofs.MatchLemmas.{Opens, Opens-up, Opens-down, Opens-down_none, Opens-flat, Opens-end}
use Rattle.bidi.proofs.isolates.find_matches.Goals as goal
use Rattle.bidi.proofs.isolates.find_matches.Goals.{then-is_initiator+in_ok-push, else-is_initiator+then-is_pdi, else-is_initiator+else-is_pdi}

-- a test of the class read at k has the same result for `class_at`, whose default for a missing class is
-- different
looked_up : (p : BidiClass → Bool) (classes : List BidiClass) (k : ℕ) (answer : Bool) → k < length classes → answer ≡ p (get_or classes k L) → p (class_at classes k) ≡ answer
looked_up p classes k answer within e = ap p (get_or_default classes k ON L within) ∙ sym e

-- the list of matches keeps its length
length_either : (stack found : List ℕ) (k : ℕ) → length (if length stack == 0 then found else set found (get_or stack (length stack - 1) 0) k) ≡ length found
length_either stack found k =
    elim (cases_Bool (length stack == 0)) [
      | inl none ↦ ap length (cond-true (length stack == 0) found (set found (get_or stack (length stack - 1) 0) k) none)
      | inr some ↦ ap length (cond-false (length stack == 0) found (set found (get_or stack (length stack - 1) 0) k) some) ∙ length-set found (get_or stack (length stack - 1) 0) k
    ]

-- a PDI keeps the state of the pass correct, whether the stack is empty or not
closed_one : (classes : List BidiClass) (k : ℕ) (stack found rest after : List ℕ) → k < length classes
    → is_initiator (class_at classes k) ≡ false → is_pdi (class_at classes k) ≡ true → Opens classes k stack found
    → rest ≡ take (length stack - 1) stack → after ≡ (if length stack == 0 then found else set found (get_or stack (length stack - 1) 0) k)
    → Opens classes (k + 1) rest after
closed_one classes k stack found rest after within opens shuts now e f =
    elim (cases_eq (length stack) 0) [
      | inl none ↦
          let nil : stack ≡ [] = nil_from_length stack none in
          rw (e, f, nil) (Opens-down_none classes k found within opens (rw nil at now))
      | inr some ↦
          let g : after ≡ set found (get_or stack (length stack - 1) 0) k = f ∙ cond-false (length stack == 0) found (set found (get_or stack (length stack - 1) 0) k) (ne_eqb (length stack) 0 some) in
          rw (e, g) (Opens-down classes k stack found within opens shuts (omega arith) now)
    ]

pub loop-at-preserved : goal.loop-at-preserved
loop-at-preserved c =
    elim c.if-is_initiator.branch [
      | then-is_initiator+in_ok-push w ↦
          let items : c.if-is_initiator.pending.items ≡ c.loop-at.pending.items ++ c.loop-at.at ∷ [] = ap (λ v. v.items) w.pending-is ∙ w.in_ok-push.ensures.items in
          rw (items, w.found-is) (Opens-up c.args.classes.now c.loop-at.at c.loop-at.pending.items c.loop-at.found.items c.loop-at-test.true
          (looked_up is_initiator c.args.classes.now c.loop-at.at true c.loop-at-test.true w.if-is_initiator.ensures) c.loop-at.invariant)
      | else-is_initiator+then-is_pdi w ↦
          let rest : c.if-is_initiator.pending.items ≡ take (length c.loop-at.pending.items - 1) c.loop-at.pending.items = ap (λ v. v.items) w.pending-is ∙ w.close.ensures.rest in
          let after : c.if-is_initiator.found.items
          ≡ (if length c.loop-at.pending.items ==
          0 then c.loop-at.found.items else set c.loop-at.found.items
          (get_or c.loop-at.pending.items (length c.loop-at.pending.items - 1) 0) c.loop-at.at) =
          let now = w.deref_mut.ensures.value in
          let e = rw now at w.close.ensures.found in
          ap (λ v. v.items) w.found-is ∙ with_items_is c.loop-at.found w.close.new.found (ap length e
          ∙ length_either c.loop-at.pending.items c.loop-at.found.items c.loop-at.at ∙ sym (ap length now)
          ∙ w.deref_mut.ensures.len) ∙ e in
          closed_one c.args.classes.now c.loop-at.at c.loop-at.pending.items c.loop-at.found.items c.if-is_initiator.pending.items c.if-is_initiator.found.items c.loop-at-test.true
          (looked_up is_initiator c.args.classes.now c.loop-at.at false c.loop-at-test.true w.if-is_initiator.ensures)
          (looked_up is_pdi c.args.classes.now c.loop-at.at true c.loop-at-test.true w.if-is_pdi.ensures) c.loop-at.invariant rest after
      | else-is_initiator+else-is_pdi w ↦
          rw (w.found-is, w.pending-is) (Opens-flat c.args.classes.now c.loop-at.at c.loop-at.pending.items c.loop-at.found.items c.loop-at-test.true
          (looked_up is_initiator c.args.classes.now c.loop-at.at false c.loop-at-test.true w.if-is_initiator.ensures)
          (looked_up is_pdi c.args.classes.now c.loop-at.at false c.loop-at-test.true w.if-is_pdi.ensures) c.loop-at.invariant)
    ]

pub returns-clause-matches : goal.returns-clause-matches
returns-clause-matches c = Opens-end c.args.classes.now c.loop-at.at c.loop-at.pending.items c.loop-at.found.items c.loop-at-test.false c.loop-at.auto.at-end c.loop-at.invariant
