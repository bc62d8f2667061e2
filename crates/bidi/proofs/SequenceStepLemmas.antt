-- The steps of one sequence result in the levels of the sequence.
use Rattle.std.proofs.Common.{◌≡◌, ℕ, suc, ◌+◌, ◌<◌, List, [], ◌∷◌, ◌++◌, map, length, drop, get_or, refl, sym, ap, ◌∙◌, Option, arith}
use Rattle.std.proofs.lemmas.List.{append_assoc, drop_more}
use Rattle.ucd.specs.declared.bidi_class.BidiClass.{BidiClass}
use Rattle.ucd.specs.declared.bracket.Bracket.{Bracket}
use Rattle.bidi.specs.Brackets.{brackets}
use Rattle.bidi.specs.BracketSteps.{bracket_step}
use Rattle.bidi.specs.Levels.{sequence_levels}
use Rattle.bidi.specs.Neighbours.{each_by}
use Rattle.bidi.specs.Neutral.{implicit_level, neutral_at}
use Rattle.bidi.specs.Reasons.{each_into, levels_in, neutral_step, neutral_steps, numbered, sequence_step, sequence_steps}
use Rattle.bidi.specs.Sequences.{direction}
use Rattle.bidi.specs.Weak.{weak}
use Rattle.bidi.specs.declared.bracket_steps.BracketStep.{BracketStep}
use Rattle.bidi.specs.declared.neutral_steps.NeutralStep.{NeutralStep}

-- applying N1 and N2 step by step yields the same types as `neutral_at` for each item
classes_by : (embedding sos eos : BidiClass) (before types : List BidiClass)
    → map (λ (s : NeutralStep). s.class) (each_into (neutral_step embedding sos eos) before types) ≡ each_by (neutral_at embedding sos eos) before types
classes_by embedding sos eos before [] = refl
classes_by embedding sos eos before (type ∷ types) = ap (λ xs. neutral_at embedding sos eos before type types ∷ xs) (classes_by embedding sos eos (type ∷ before) types)

levels_by : (level : ℕ) (sos : BidiClass) (types paired : List BidiClass) (bracket : ℕ → BracketStep) (k : ℕ) (steps : List NeutralStep)
    → levels_in (numbered (sequence_step level sos types paired bracket) k steps) ≡ map (implicit_level level) (map (λ (s : NeutralStep). s.class) steps)
levels_by level sos types paired bracket k [] = refl
levels_by level sos types paired bracket k (step ∷ steps) = ap (λ xs. implicit_level level step.class ∷ xs) (levels_by level sos types paired bracket (suc k) steps)

-- the levels in the steps of a sequence are the levels of the sequence
pub steps_end : (look : ℕ → Option Bracket) (level : ℕ) (sos eos : BidiClass) (text : List ℕ) (types : List BidiClass)
    → levels_in (sequence_steps look level sos eos text types) ≡ sequence_levels look level sos eos text types
steps_end look level sos eos text types =
    let paired = brackets look (direction level) sos text types (weak sos types) in
    levels_by level sos types paired (bracket_step look (direction level) sos text types (weak sos types)) 0 (neutral_steps (direction level) sos eos paired)
    ∙ ap (map (implicit_level level)) (classes_by (direction level) sos eos [] paired)

steps_length : (embedding sos eos : BidiClass) (before types : List BidiClass) → length (each_into (neutral_step embedding sos eos) before types) ≡ length types
steps_length embedding sos eos before [] = refl
steps_length embedding sos eos before (type ∷ types) = ap suc (steps_length embedding sos eos (type ∷ before) types)

pub length-neutral_steps : (embedding sos eos : BidiClass) (types : List BidiClass) → length (neutral_steps embedding sos eos types) ≡ length types
length-neutral_steps embedding sos eos types = steps_length embedding sos eos [] types

-- appending the step of item k to the steps before it leaves the steps of the items after k to be appended
pub numbered_more : {T U : Type 0} (f : ℕ → T → U) (done whole : List U) (items : List T) (k : ℕ) (d : T) (step : U) → k < length items → step ≡ f k (get_or items k d)
    → done ++ numbered f k (drop k items) ≡ whole → (done ++ step ∷ []) ++ numbered f (k + 1) (drop (k + 1) items) ≡ whole
numbered_more f done whole items k d step within is so_far =
    let rest = drop (k + 1) items in
    let e : k + 1 ≡ suc k = omega arith in
    append_assoc done (step ∷ []) (numbered f (k + 1) rest)
    ∙ ap (λ s. done ++ s ∷ numbered f (k + 1) rest) is
    ∙ ap (λ n. done ++ f k (get_or items k d) ∷ numbered f n rest) e
    ∙ sym (ap (λ xs. done ++ numbered f k xs) (drop_more items k d within))
    ∙ so_far
