-- The openers that are open during the pass of X1 to X8, kept as a stack and counts. The stack has an entry
-- for the paragraph and one for each opener that does not overflow.
use Rattle.std.specs.Prelude.{◌≡◌, ℕ, ◌+◌, ◌==◌, ◌≤◌, ◌<◌, ◌^◌, nat_lt, Bool, true, false, ◌&&◌, not, List, [], ◌∷◌, ◌++◌, length, take, if◌then◌else◌}
use Rattle.std.specs.List.{list_any}
use Rattle.ucd.specs.declared.bidi_class.BidiClass.{BidiClass}
use Rattle.bidi.specs.declared.explicit.Openers.{Openers}
use Rattle.bidi.specs.declared.explicit.Status.{Status}
use Rattle.ucd.specs.Classes.{is_initiator}
use Rattle.bidi.specs.Explicit.{Inside, depth, inside}

-- the stack entry for the state inside an opener
abbrev pub entry_of : Inside → Bool → Status
entry_of inside is_isolate = record { level = inside.level; overriding = inside.override; is_isolate = is_isolate }

module _ (base : ℕ) where
  -- the entry of the innermost opener that does not overflow, or of the paragraph if there is none
  abbrev pub innermost : List BidiClass → Status
  innermost [] = entry_of (inside base []) false
  innermost (opener ∷ outer) =
      if (inside base (opener ∷ outer)).is_void then innermost outer else entry_of (inside base (opener ∷ outer)) (is_initiator opener)

  -- the stack entries, the outermost first
  abbrev pub statuses : List BidiClass → List Status
  statuses [] = innermost [] ∷ []
  statuses (opener ∷ outer) =
      if (inside base (opener ∷ outer)).is_void then statuses outer else statuses outer ++ innermost (opener ∷ outer) ∷ []

  -- the number of isolates that do not overflow
  abbrev pub isolates : List BidiClass → ℕ
  isolates [] = 0
  isolates (opener ∷ outer) =
      if is_initiator opener && not (inside base (opener ∷ outer)).is_void then isolates outer + 1 else isolates outer

  -- the number of isolates that overflow
  abbrev pub overflowed_isolates : List BidiClass → ℕ
  overflowed_isolates [] = 0
  overflowed_isolates (opener ∷ outer) =
      if is_initiator opener && (inside base (opener ∷ outer)).is_void then overflowed_isolates outer + 1 else overflowed_isolates outer

  -- the number of embeddings and overrides that overflow, outside all isolates that overflow
  abbrev pub overflowed_embeddings : List BidiClass → ℕ
  overflowed_embeddings [] = 0
  overflowed_embeddings (opener ∷ outer) =
      if not (is_initiator opener) && ((inside base (opener ∷ outer)).is_void && overflowed_isolates outer == 0) then overflowed_embeddings outer + 1
      else overflowed_embeddings outer

  -- `openers` holds the stack entries and counts of the chain
  pub record Holds (openers : Openers) (chain : List BidiClass) : Type 0 where
    pub statuses_are : openers.statuses.items ≡ statuses chain
    pub isolates_are : openers.isolates ≡ isolates chain
    pub overflowed_isolates_are : openers.overflowed_isolates ≡ overflowed_isolates chain
    pub overflowed_embeddings_are : openers.overflowed_embeddings ≡ overflowed_embeddings chain

-- for every chain whose entries and counts `openers` holds, `status` is the innermost entry
abbrev pub IsInnermost : Openers → Status → Type 0
IsInnermost openers status = (base : ℕ) (chain : List BidiClass) → Holds base openers chain → status ≡ innermost base chain

-- for every chain whose entries and counts `openers` holds, `number` is the number of its openers that do not
-- overflow
abbrev pub IsDepth : Openers → ℕ → Type 0
IsDepth openers number = (base : ℕ) (chain : List BidiClass) → Holds base openers chain → number ≡ depth base chain

-- The indices of the openers that are open after the character at k and do not overflow, the outermost first.
-- `indices` lists those before it, and `depth` is their new number.
abbrev pub updated : List ℕ → ℕ → ℕ → List ℕ
updated indices depth k = if nat_lt (length indices) depth then indices ++ k ∷ [] else take depth indices

-- if `old` holds the entries and counts of a chain, `new` holds those of the chain after the step
abbrev pub Follows : Openers → Openers → (List BidiClass → List BidiClass) → Type 0
Follows old new step = (base : ℕ) (chain : List BidiClass) → Holds base old chain → Holds base new (step chain)

-- `openers` holds the entries and counts of some chain
pub record AreOpeners (openers : Openers) : Type 0 where
  pub base : ℕ
  pub chain : List BidiClass
  pub low : base ≤ 1
  pub short : length chain < 2 ^ 63
  pub holds : Holds base openers chain

-- `front` holds the entries below that of the innermost isolate
pub record AreBeforeIsolate (front entries : List Status) : Type 0 where
  pub isolate : Status
  pub inner : List Status
  pub split : entries ≡ front ++ isolate ∷ inner
  pub opens : isolate.is_isolate ≡ true
  pub none : list_any (λ status. status.is_isolate) inner ≡ false

abbrev pub ClosesIsolate : List Status → List Status → Type 0
ClosesIsolate old new = (front : List Status) → AreBeforeIsolate front old → new ≡ front
