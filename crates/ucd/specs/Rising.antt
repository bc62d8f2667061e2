-- Entries in ascending order, and the entries of the lines of a file.
use Rattle.std.specs.Prelude.{⊤, ℕ, ◌+◌, ◌<◌, ◌≤◌, nat_le, List, [], ◌∷◌, ◌++◌, min, max, Option, Some, None, Result, Ok, Err, IsOk, if◌then◌else◌}
use Rattle.ucd.specs.declared.fault.Cause.{Cause}
use Rattle.ucd.specs.declared.grammar.Entry.{Entry}
use Rattle.ucd.specs.Grammar.{Form, reading_of}

module _ {V : Type 0} where
  -- the entries have valid ranges, the first starts at `low` or later, and each later range starts after the
  -- previous one ends
  abbrev pub AreRisingFrom : ℕ → List (Entry V) → Type 0
  AreRisingFrom low [] = ⊤
  AreRisingFrom low (e ∷ es) = (low ≤ e.first) × (e.first ≤ e.last) × (e.last < 1114112) × AreRisingFrom (e.last + 1) es

  -- a list that contains only the entry, or an empty list if the entry has no code points
  abbrev pub if_any : Entry V → List (Entry V)
  if_any e = if nat_le e.first e.last then e ∷ [] else []

  -- the part of an entry below the surrogates
  abbrev pub below_surrogates : Entry V → Entry V
  below_surrogates e = record { first = e.first; last = min e.last 55295; value = e.value }

  -- the part of an entry above the surrogates
  abbrev pub above_surrogates : Entry V → Entry V
  above_surrogates e = record { first = max e.first 57344; last = e.last; value = e.value }

  -- up to two entries that cover the characters of an entry, without the surrogates
  abbrev pub characters_of : Entry V → List (Entry V)
  characters_of e = if_any (below_surrogates e) ++ if_any (above_surrogates e)

  abbrev pub entries_by : Result (Option (Entry V)) Cause → List (Entry V)
  entries_by (Ok (Some e)) = characters_of e
  entries_by (Ok None) = []
  entries_by (Err why) = []

module _ {V : Type 0} (form : Form V) where
  -- the entries of all lines, in the order of the lines
  abbrev pub entries_in : List (List ℕ) → List (Entry V)
  entries_in [] = []
  entries_in (line ∷ lines) = entries_by (reading_of form line) ++ entries_in lines

  -- each line conforms to the grammar
  abbrev pub AreRead : List (List ℕ) → Type 0
  AreRead [] = ⊤
  AreRead (line ∷ lines) = IsOk (reading_of form line) × AreRead lines
