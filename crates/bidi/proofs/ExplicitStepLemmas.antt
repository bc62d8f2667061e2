-- X1 to X8 for each character: the state of the pass after k characters.
use Rattle.std.proofs.Common.{◌≡◌, ℕ, ◌+◌, ◌-◌, ◌^◌, ◌<◌, ◌≤◌, ◌==◌, List, [], ◌∷◌, ◌++◌, length, get_or, map, unwrap_or, if◌then◌else◌, sym, ap, ap₂, subst, ◌∙◌, inl, inr, arith, Option, Some, None}
use Rattle.std.specs.List.{range_with_len}
use Rattle.std.proofs.lemmas.Bool.{cond-true, cond-false, cases_Bool}
use Rattle.std.proofs.lemmas.List.{map-append}
use Rattle.ucd.specs.declared.bidi_class.BidiClass.{BidiClass}
use Rattle.bidi.specs.declared.explicit.Openers.{Openers}
use Rattle.bidi.specs.declared.explicit.Status.{Status}
use Rattle.bidi.specs.declared.explicit_steps.ExplicitStep.{ExplicitStep}
use Rattle.ucd.specs.Classes.{class_at, is_pdi, is_separator}
use Rattle.bidi.specs.Explicit.{close_isolate, inside_at, level_at, open_after, open_chain, type_at}
use Rattle.bidi.specs.Openers.{AreOpeners, Follows, Holds, innermost, IsDepth, updated}
use Rattle.bidi.specs.Reasons.{explicit_step}
use Rattle.bidi.proofs.DepthLemmas.{AreIndices, last_is, next_indices, same_indices}
use Rattle.bidi.proofs.ExplicitLemmas.{chain_at, chain_at-is, chain_at-next, level_is, numbers-more, open_chain-length, type_is}
use Rattle.bidi.proofs.OpenersLemmas.{innermost-override}

abbrev made : ℕ → BidiClass → Option BidiClass → Option ℕ → ExplicitStep
made level class overriding opener = record { level = level; class = class; overriding = overriding; opener = opener }

pub record AreSteps (classes : List BidiClass) (base k : ℕ) (openers : Openers) (indices : List ℕ) (steps : List ExplicitStep) : Type 0 where
  pub holds : Holds base openers (open_chain classes k)
  pub indices_are : AreIndices base classes k indices
  pub steps_are : steps ≡ map (explicit_step base classes) (range_with_len 0 k)

module _ {classes : List BidiClass} {base k : ℕ} {openers : Openers} {indices : List ℕ} {steps : List ExplicitStep} (so_far : AreSteps classes base k openers indices steps) (within : k < length classes)
    {class : BidiClass} (at : class ≡ class_at classes k) where
  pub reached_is : (reached : Openers) → Follows openers reached (λ chain. if is_pdi class then close_isolate chain else chain) → Holds base reached (chain_at classes k)
  reached_is reached follows = subst (Holds base reached) (chain_at-is classes k within class at) (follows base (open_chain classes k) so_far.holds)

  pub are_openers : base ≤ 1 → length classes < 2 ^ 63 → AreOpeners openers
  are_openers low short = record {
    base = base;
    chain = open_chain classes k;
    low = low;
    short = omega (arith, open_chain-length classes k);
    holds = so_far.holds;
  }

  pub are_reached : (reached : Openers) → base ≤ 1 → length classes < 2 ^ 63 → Holds base reached (chain_at classes k) → AreOpeners reached
  are_reached reached low short holds = record {
    base = base;
    chain = chain_at classes k;
    low = low;
    short = omega (arith, open_chain-length classes (if is_pdi (class_at classes k) then k + 1 else k));
    holds = holds;
  }

  -- updating the indices yields those that apply to the character at k, and those before the next character
  pub reached_indices : (reached : Openers) (number : ℕ) → Holds base reached (chain_at classes k) → IsDepth reached number
      → AreIndices base classes (if is_pdi (class_at classes k) then k + 1 else k) (updated indices number k)
  reached_indices reached number holds is_depth =
      rw (is_depth base (chain_at classes k) holds) (elim (cases_Bool (is_pdi (class_at classes k))) [
        | inl pdi ↦ rw (cond-true (is_pdi (class_at classes k)) (k + 1) k pdi) (next_indices base classes k indices within so_far.indices_are)
        | inr other ↦ rw (cond-false (is_pdi (class_at classes k)) (k + 1) k other, same_indices base classes k k indices so_far.indices_are) so_far.indices_are
      ])

  pub passed_indices : (passed : Openers) (here : List ℕ) (number : ℕ) → AreIndices base classes (if is_pdi (class_at classes k) then k + 1 else k) here
      → Holds base passed (open_chain classes (k + 1)) → IsDepth passed number → AreIndices base classes (k + 1) (updated here number k)
  passed_indices passed here number are holds is_depth =
      rw (is_depth base (open_chain classes (k + 1)) holds) (elim (cases_Bool (is_pdi (class_at classes k))) [
        | inl pdi ↦ let there : AreIndices base classes (k + 1) here = rw (cond-true (is_pdi (class_at classes k)) (k + 1) k pdi) at are in
            rw (same_indices base classes (k + 1) k here there) there
        | inr other ↦ next_indices base classes k here within (rw (cond-false (is_pdi (class_at classes k)) (k + 1) k other) at are)
      ])

  pub passed_is : (reached passed : Openers) → Holds base reached (chain_at classes k) → Follows reached passed (λ chain. if is_pdi class then chain else open_after chain class)
      → Holds base passed (open_chain classes (k + 1))
  passed_is reached passed holds follows = subst (Holds base passed) (chain_at-next classes k within class at) (follows base (chain_at classes k) holds)

  pub are_passed : (passed : Openers) → base ≤ 1 → length classes < 2 ^ 63 → Holds base passed (open_chain classes (k + 1)) → AreOpeners passed
  are_passed passed low short holds = record {
    base = base;
    chain = open_chain classes (k + 1);
    low = low;
    short = omega (arith, open_chain-length classes (k + 1));
    holds = holds;
  }

  pub more_steps : (passed : Openers) (here after : List ℕ) → Holds base passed (open_chain classes (k + 1)) → AreIndices base classes (if is_pdi (class_at classes k) then k + 1 else k) here
      → AreIndices base classes (k + 1) after → (status : Status) → status ≡ innermost base (chain_at classes k) → (step : ExplicitStep)
      → step.level ≡ (if is_separator class then base else status.level)
      → step.class ≡ (if is_separator class then class else unwrap_or status.overriding class)
      → step.overriding ≡ status.overriding
      → step.opener ≡ (if length here == 0 then None else Some (get_or here (length here - 1) 0))
      → AreSteps classes base (k + 1) passed after (steps ++ step ∷ [])
  more_steps passed here after holds are_here are_after status inner step one_level one_class one_override one_opener =
      let level : step.level ≡ level_at base classes k = one_level ∙ level_is classes k within class at base status inner in
      let type : step.class ≡ type_at base classes k = one_class ∙ type_is classes k within class at base status inner in
      let override : step.overriding ≡ (inside_at base classes k).override =
      one_override ∙ ap (λ (s : Status). s.overriding) inner ∙ innermost-override base (chain_at classes k) in
      let one : step ≡ explicit_step base classes k =
      ap (λ n. made n step.class step.overriding step.opener) level ∙ ap₂ (λ c o. made (level_at base classes k) c o step.opener) type override
      ∙ ap (made (level_at base classes k) (type_at base classes k) (inside_at base classes k).override)
      (one_opener ∙ last_is base classes (if is_pdi (class_at classes k) then k + 1 else k) here are_here) in
      record {
        holds = holds;
        indices_are = are_after;
        steps_are = ap₂ (λ (l : List ExplicitStep) s. l ++ s ∷ []) so_far.steps_are one
            ∙ sym (ap (map (explicit_step base classes)) (numbers-more k) ∙ map-append (explicit_step base classes) (range_with_len 0 k) (k ∷ []));
      }
