-- Lists of entries, and the values that they assign to code points. An entry is a range of code points and a value.
use Rattle.std.specs.Prelude.{◌≡◌, ℕ, ◌<◌, ◌≤◌, nat_le, Bool, false, ◌&&◌, List, [], ◌∷◌, length, take, slice_get, slice_index_or, Option, Some, None, is_some, IsSome, IsTrue, if◌then◌else◌}
use Rattle.std.specs.Char.{IsScalar}
use Rattle.ucd.specs.declared.grammar.Entry.{Entry}

module _ {V : Type 0} where
  -- whether the code point is in the range of the entry
  abbrev pub covers : Entry V → ℕ → Bool
  covers e c = nat_le e.first c && nat_le c e.last

  -- the value of the first entry that covers the code point, if any does
  abbrev pub value_at : List (Entry V) → ℕ → Option V
  value_at [] c = None
  value_at (e ∷ es) c = if covers e c then Some e.value else value_at es c

  -- each entry has a valid range, and covers no code point that an earlier entry covers
  pub record AreApart (es : List (Entry V)) : Type 0 where
    pub whole : (i : ℕ) (e : Entry V) → slice_get es i ≡ Some e → (e.first ≤ e.last) × (e.last < 1114112)
    pub apart : (i : ℕ) (e : Entry V) → slice_get es i ≡ Some e → (c : ℕ) → IsTrue (covers e c) → value_at (take i es) c ≡ None

  -- the flags in `named` say for each code point whether an entry covers it
  pub record AreNamed (es : List (Entry V)) (named : List Bool) : Type 0 where
    pub len : length named ≡ 1114112
    pub each : (c : ℕ) → c < 1114112 → slice_index_or named c false ≡ is_some (value_at es c)

  -- None of the code points that the entry covers has a value in `old`, and `new` assigns the entry's value
  -- to each of them. Every other code point has the same value as in `old`.
  pub record AddsEntry (old new : List (Entry V)) (e : Entry V) : Type 0 where
    pub free : (c : ℕ) → IsTrue (covers e c) → value_at old c ≡ None
    pub values : (c : ℕ) → value_at new c ≡ (if covers e c then Some e.value else value_at old c)

  -- two entries are added, one after the other
  abbrev pub AddsBoth : List (Entry V) → List (Entry V) → Entry V → Entry V → Type 0
  AddsBoth old new one other = (mid : List (Entry V)) × AddsEntry old mid one × AddsEntry mid new other

  -- an entry is added as in `AddsEntry`, but only for scalar values
  pub record AddsCharacters (old new : List (Entry V)) (e : Entry V) : Type 0 where
    pub free : (c : ℕ) → IsScalar c → IsTrue (covers e c) → value_at old c ≡ None
    pub values : (c : ℕ) → IsScalar c → value_at new c ≡ (if covers e c then Some e.value else value_at old c)

  -- none of the entry's code points has a value
  abbrev pub IsFree : List (Entry V) → Entry V → Type 0
  IsFree es e = (c : ℕ) → IsTrue (covers e c) → value_at es c ≡ None

  -- some code point of the entry already has a value
  abbrev pub IsMet : List (Entry V) → Entry V → Type 0
  IsMet es e = (c : ℕ) × IsTrue (covers e c) × IsSome (value_at es c)

  -- some character of the entry already has a value
  abbrev pub IsTaken : List (Entry V) → Entry V → Type 0
  IsTaken es e = (c : ℕ) × IsScalar c × IsTrue (covers e c) × IsSome (value_at es c)

  -- at least one code point of the entry is a character
  abbrev pub NamesSome : Entry V → Type 0
  NamesSome e = (c : ℕ) × IsScalar c × IsTrue (covers e c)
