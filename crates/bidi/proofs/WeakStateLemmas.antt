-- The state of the pass for the weak rules, in terms of the rows of the tables.
use Rattle.std.proofs.Common.{◌≡◌, ℕ, ◌+◌, ◌/◌, ◌%◌, ◌<◌, ◌≤◌, true, false, List, [], ◌∷◌, ◌-◌, length, get_or, set, take, drop, inl, inr, refl, sym, ap, subst, ◌∙◌, arith, if◌then◌else◌}
use Rattle.std.specs.List.{list_all}
use Rattle.std.proofs.lemmas.Bool.{cases_Bool}
use Rattle.std.proofs.lemmas.List.{get_or-drop, get_or-take, length-drop, length-take-le}
use Rattle.std.proofs.lemmas.List.Folds.{list_all_at}
use Rattle.ucd.specs.Answers.{bidi_tag}
use Rattle.ucd.specs.Classes.{is_strong}
use Rattle.ucd.specs.declared.bidi_class.BidiClass.{BidiClass}
use Rattle.ucd.specs.declared.bidi_class.BidiClass.TheVariants.{L, R, AL}
use Rattle.bidi.specs.declared.weak_table.Row.TheVariants.{Nothing, European, Arabic, EuropeanTerminators, EuropeanSeparator, ArabicSeparator, Terminators}
use Rattle.bidi.specs.Waiting.{AreTypesSoFar, waits}
use Rattle.bidi.specs.Weak.{w3_type}
use Rattle.bidi.specs.WeakState.{AreRead}
use Rattle.bidi.specs.WeakTable.{is_simple, pending, run_at, strong_after, strong_at}
use Rattle.bidi.proofs.WaitingLemmas.{types-settle, types-simple}

-- after a strong type, the state holds this type
pub strong-number : (strong class : BidiClass) → is_strong class ≡ true → strong_at (bidi_tag class) ≡ strong_after strong class
strong-number strong L e = refl
strong-number strong R e = refl
strong-number strong AL e = refl
strong-number strong _ e = absurd (cc)

pub other-row : (strong class : BidiClass) → is_strong class ≡ false → strong ≡ strong_after strong class
other-row strong L e = absurd (cc)
other-row strong R e = absurd (cc)
other-row strong AL e = absurd (cc)
other-row strong _ e = refl

-- the states of the first three rows have no run
no-run : (row : ℕ) → row < 96 → run_at (row / 32) ≡ Nothing
no-run row low =
    let first : row / 32 / 3 ≡ 0 = omega (arith, low) in
    ap (λ n. get_or (Nothing ∷ European ∷ Arabic ∷ EuropeanTerminators ∷ EuropeanSeparator ∷ ArabicSeparator ∷ Terminators ∷ []) n Nothing) first

none-pending : (row start at : ℕ) → row < 96 → pending (row / 32) start at ≡ at
none-pending row start at low = ap (λ r. if waits r then start else at) (no-run row low)

same-strong : (row : ℕ) → strong_at (row % 96 / 32) ≡ strong_at (row / 32)
same-strong row =
    let same : row % 96 / 32 % 3 ≡ row / 32 % 3 = omega arith in
    ap (λ n. get_or (L ∷ R ∷ AL ∷ []) n R) same

module _ (sos : BidiClass) (old current : List BidiClass) (before : BidiClass) (row start at : ℕ) (d : BidiClass) (within : at < length current)
    (simple : is_simple (get_or current at d) ≡ true) where
  -- before a type that only W3 changes, the run does not matter
  pub read-settle : AreRead sos old current before row start at → AreRead sos old current before (row % 96) at at
  read-settle read =
      let low : row % 96 < 96 = omega arith in
      subst (λ s. AreTypesSoFar sos old current before s (run_at (row % 96 / 32)) (pending (row % 96 / 32) at at) at) (sym (same-strong row))
      (subst (λ r. AreTypesSoFar sos old current before (strong_at (row / 32)) r (pending (row % 96 / 32) at at) at) (sym (no-run (row % 96) low))
      (subst (λ n. AreTypesSoFar sos old current before (strong_at (row / 32)) Nothing n at) (sym (none-pending (row % 96) at at low))
      (types-settle sos old current before (strong_at (row / 32)) at d within simple (run_at (row / 32)) (pending (row / 32) start at) read)))

  -- `AreRead` still holds after such a type has been read
  pub read-next : (next : ℕ) → row < 96 → next < 96 → strong_at (next / 32) ≡ strong_after (strong_at (row / 32)) (get_or current at d)
      → AreRead sos old current before row start at
      → AreRead sos old (set current at (w3_type (get_or current at d))) (get_or current at d) next (at + 1) (at + 1)
  read-next next low under is read =
      let class = get_or current at d in
      let moved = set current at (w3_type class) in
      let strong = strong_at (row / 32) in
      subst (λ s. AreTypesSoFar sos old moved class s (run_at (next / 32)) (pending (next / 32) (at + 1) (at + 1)) (at + 1)) (sym is)
      (subst (λ r. AreTypesSoFar sos old moved class (strong_after strong class) r (pending (next / 32) (at + 1) (at + 1)) (at + 1)) (sym (no-run next under))
      (subst (λ n. AreTypesSoFar sos old moved class (strong_after strong class) Nothing n (at + 1)) (sym (none-pending next (at + 1) (at + 1) under))
      (types-simple sos old current before strong at d within simple
      (subst (λ n. AreTypesSoFar sos old current before strong Nothing n at) (none-pending row start at low)
      (subst (λ r. AreTypesSoFar sos old current before strong r (pending (row / 32) start at) at) (no-run row low) read)))))

-- if all types of a range pass `is_simple`, so does the type at each index of the range
pub simple-at : (types : List BidiClass) (at end k : ℕ) (d : BidiClass) → list_all is_simple (take (end - at) (drop at types)) ≡ true
    → at ≤ k → k < end → end ≤ length types → is_simple (get_or types k d) ≡ true
simple-at types at end k d all from below within =
    let part = take (end - at) (drop at types) in
    let fits : end - at ≤ length (drop at types) = omega (arith, length-drop at types, within) in
    let inside : k - at < length part = omega (arith, length-take-le (end - at) (drop at types) fits, from, below) in
    let place : at + (k - at) ≡ k = omega (arith, from) in
    let same : get_or part (k - at) d ≡ get_or types k d =
    get_or-take (end - at) (drop at types) (k - at) d (omega (arith, from, below)) ∙ get_or-drop at types (k - at) d ∙ ap (λ n. get_or types n d) place in
    elim (cases_Bool (is_simple (get_or types k d))) [
      | inl e ↦ e
      | inr e ↦ absurd (let none = list_all_at is_simple part (k - at) d inside (ap is_simple same ∙ e) in cc)
    ]
