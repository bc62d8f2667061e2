-- The values that the lines of a file assign to characters, and the first faulty line of the file.
use Rattle.std.specs.Prelude.{◌≡◌, ℕ, ◌-◌, ◌<◌, ◌≤◌, ◌⊎◌, ◌&&◌, List, [], ◌∷◌, length, slice_index_or, Option, Some, None, IsSome, Result, Ok, Err, if◌then◌else◌}
use Rattle.std.specs.Char.{IsScalar}
use lib.Utf8.{scalar}
use Rattle.ucd.specs.declared.fault.Cause.{Cause}
use Rattle.ucd.specs.declared.fault.Cause.TheVariants as cause
use Rattle.ucd.specs.declared.grammar.Entry.{Entry}
use Rattle.ucd.specs.Grammar.{Form, reading_of}
use Rattle.ucd.specs.declared.file.FileFault.{FileFault}
use Rattle.ucd.specs.Entries.{covers, value_at, AddsCharacters, IsTaken, NamesSome}

module _ {V : Type 0} (form : Form V) where
  -- The value that a line assigns to a character, if any. A surrogate is not a character, so no line assigns
  -- it a value.
  abbrev pub given_by : Result (Option (Entry V)) Cause → ℕ → Option V
  given_by (Ok (Some e)) c = if scalar c && covers e c then Some e.value else None
  given_by (Ok None) c = None
  given_by (Err e) c = None

  abbrev pub given : List ℕ → ℕ → Option V
  given line c = given_by (reading_of form line) c

  -- the first value if there is one, or else the second
  abbrev pub or_else : Option V → Option V → Option V
  or_else (Some v) other = Some v
  or_else None other = other

  -- the value from the first line that lists the character, if any does
  abbrev pub value_in : List (List ℕ) → ℕ → Option V
  value_in [] c = None
  value_in (line ∷ lines) c = or_else (given line c) (value_in lines c)

  -- line k, or an empty line past the end
  abbrev pub line_at : List (List ℕ) → ℕ → List ℕ
  line_at lines k = slice_index_or lines k []

  -- line k lists a character that an earlier line already lists
  abbrev pub NamesAgain : List (List ℕ) → ℕ → Type 0
  NamesAgain lines k = (j : ℕ) × (c : ℕ) × (j < k) × IsSome (given (line_at lines j) c) × IsSome (given (line_at lines k) c)

  -- line k is faulty for the given cause
  abbrev pub HasFault : List (List ℕ) → ℕ → Cause → Type 0
  HasFault lines k why = (reading_of form (line_at lines k) ≡ Err why) ⊎ ((why ≡ cause.NamedBefore) × NamesAgain lines k)

  -- no line is faulty
  abbrev pub IsGood : List (List ℕ) → Type 0
  IsGood lines = (k : ℕ) (why : Cause) → k < length lines → ¬ (HasFault lines k why)

  -- line k is the first faulty line
  pub record IsFirstFault (lines : List (List ℕ)) (k : ℕ) (why : Cause) : Type 0 where
    pub in_range : k < length lines
    pub fault : HasFault lines k why
    pub earlier : (j : ℕ) (other : Cause) → j < k → ¬ (HasFault lines j other)

  -- adding a line adds its entry, or leaves the entries unchanged if the line has none
  abbrev pub AddsReading : Result (Option (Entry V)) Cause → List (Entry V) → List (Entry V) → Type 0
  AddsReading (Ok None) old new = new ≡ old
  AddsReading (Ok (Some e)) old new = AddsCharacters old new e
  AddsReading (Err why) old new = ⊥

  abbrev pub AddsLine : List (Entry V) → List (Entry V) → List ℕ → Type 0
  AddsLine old new line = AddsReading (reading_of form line) old new

  -- `why` is the cause for which adding a line fails. `Memory` can be the cause only if the line is not
  -- faulty and lists a character.
  abbrev pub IsReadingCause : Result (Option (Entry V)) Cause → List (Entry V) → Cause → Type 0
  IsReadingCause (Ok None) es why = ⊥
  IsReadingCause (Ok (Some e)) es cause.NamedBefore = IsTaken es e
  IsReadingCause (Ok (Some e)) es cause.Memory = (¬ (IsTaken es e)) × NamesSome e
  IsReadingCause (Ok (Some e)) es why = ⊥
  IsReadingCause (Err other) es why = why ≡ other

  abbrev pub IsLineCause : List (Entry V) → List ℕ → Cause → Type 0
  IsLineCause es line why = IsReadingCause (reading_of form line) es why

  -- no line is faulty, and the entries hold the values that the lines assign
  pub record HoldsFile (lines : List (List ℕ)) (es : List (Entry V)) : Type 0 where
    pub good : IsGood lines
    pub values : (c : ℕ) → IsScalar c → value_at es c ≡ value_in lines c

  -- Line k lists a character, so adding the line allocates memory. No line up to k is faulty.
  pub record WantsMemoryAt (lines : List (List ℕ)) (k : ℕ) : Type 0 where
    pub entry : Entry V
    pub reads : reading_of form (line_at lines k) ≡ Ok (Some entry)
    pub names : NamesSome entry
    pub good : (j : ℕ) (why : Cause) → j ≤ k → ¬ (HasFault lines j why)

  -- the line with number `line`, counted from 1, is the first faulty line, or the one at which memory ran out
  abbrev pub IsFaultFor : List (List ℕ) → ℕ → Cause → Type 0
  IsFaultFor lines line cause.Memory = (0 < line) × WantsMemoryAt lines (line - 1)
  IsFaultFor lines line why = (0 < line) × IsFirstFault lines (line - 1) why

  abbrev pub IsFaultInFile : List (List ℕ) → FileFault → Type 0
  IsFaultInFile lines fault = IsFaultFor lines fault.line fault.cause
