-- N1 and N2 step by step, with the types and indices on both sides of a run of neutrals carried along.
use Rattle.std.proofs.Common.{◌≡◌, ℕ, suc, ◌+◌, Bool, not, if◌then◌else◌, Option, Some, None, List, [], ◌∷◌, length, refl, inl, inr, arith}
use Rattle.std.proofs.lemmas.Bool.{cases_Bool}
use Rattle.ucd.specs.declared.bidi_class.BidiClass.{BidiClass}
use Rattle.bidi.specs.Neighbours.{nearest}
use Rattle.bidi.specs.Neutral.{between, is_neutral}
use Rattle.bidi.specs.Reasons.{each_into, index_before, index_from, neutral_step, neutral_steps, rule_between}
use Rattle.bidi.specs.declared.neutral_steps.NeutralStep.{NeutralStep}

abbrev pub is_side : BidiClass → Bool
is_side type = not (is_neutral type)

-- the step of a neutral, and the step of any other type
abbrev pub step_between : BidiClass → BidiClass → Option ℕ → BidiClass → Option ℕ → NeutralStep
step_between embedding before left after right = record {
  class = between embedding before after;
  rule = Some (rule_between before after);
  left = left;
  right = right;
}

abbrev pub step_of : BidiClass → NeutralStep
step_of type = record { class = type; rule = None; left = None; right = None }

module _ (embedding eos : BidiClass) where
  -- the steps of the types from index k on, given the nearest type before it that is not neutral, and its index
  abbrev pub steps_from : BidiClass → Option ℕ → ℕ → List BidiClass → List NeutralStep
  steps_from before left k [] = []
  steps_from before left k (type ∷ types) =
      if is_neutral type
      then step_between embedding before left (nearest is_side eos types) (index_from is_side (suc k) types) ∷ steps_from before left (suc k) types
      else step_of type ∷ steps_from type (Some k) (suc k) types

  steps_by : (sos : BidiClass) (front types : List BidiClass)
      → each_into (neutral_step embedding sos eos) front types ≡ steps_from (nearest is_side sos front) (index_before is_side front) (length front) types
  steps_by sos front [] = refl
  steps_by sos front (type ∷ types) =
      let next = steps_by sos (type ∷ front) types in
      let more : length front + 1 ≡ suc (length front) = omega arith in
      elim (cases_Bool (is_neutral type)) [
        | inl row ↦ cc (next, row, more)
        | inr other ↦ cc (next, other, more)
      ]

  pub steps_are : (sos : BidiClass) (types : List BidiClass) → neutral_steps embedding sos eos types ≡ steps_from sos None 0 types
  steps_are sos types = steps_by sos [] types
