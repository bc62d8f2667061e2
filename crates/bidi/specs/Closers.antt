-- Bracket pairs as a list: for each index, the index of the closing bracket of the pair that opens there, or
-- the length of the list if none does.
use Rattle.std.specs.Prelude.{◌≡◌, ℕ, ◌<◌, ◌⊎◌, ◌==◌, nat_lt, List, length, map, take, slice_index, slice_set, Option, Some, None, unwrap_or, if◌then◌else◌}
use Rattle.std.specs.List.{range_with_len}
use Rattle.ucd.specs.declared.bidi_class.BidiClass.{BidiClass}
use Rattle.ucd.specs.declared.bidi_class.BidiClass.TheVariants.{ON}
use Rattle.bidi.specs.declared.brackets.BracketPair.{BracketPair}
use Rattle.bidi.specs.declared.brackets.Opener.{Opener}
use Rattle.bidi.specs.Brackets.{Pair, canonical, closer_of, greatest}
use Rattle.ucd.specs.Classes.{class_at}

abbrev pub closers_of : List Pair → ℕ → List ℕ
closers_of pairs len = map (λ i. unwrap_or (closer_of pairs i) len) (range_with_len 0 len)

abbrev pub closer_in : List ℕ → ℕ → Option ℕ
closer_in closers i = if nat_lt (slice_index closers i) (length closers) then Some (slice_index closers i) else None

-- The opening bracket of each pair has type ON, and its closing bracket comes after it. Of two pairs, either
-- one is entirely before the other, or one is inside the other.
pub record AreNested (types : List BidiClass) (closers : List ℕ) : Type 0 where
  pub other : (a : ℕ) → a < length closers → slice_index closers a < length closers → class_at types a ≡ ON
  pub after : (a : ℕ) → a < length closers → a < slice_index closers a
  pub apart : (a b : ℕ) → a < b → b < length closers → slice_index closers a < length closers → slice_index closers b < length closers
      → (slice_index closers a < b) ⊎ (slice_index closers b < slice_index closers a)

-- the list of closers for the program's list of opening brackets; in both lists, an unpaired bracket has the
-- closer `len`

abbrev pub as_pair : BracketPair → Pair
as_pair pair = record { opener = pair.opener; closer = pair.closer }

abbrev pub closers_by : List BracketPair → ℕ → List ℕ
closers_by pairs len = closers_of (map as_pair pairs) len

abbrev pub opener_at : List BracketPair → ℕ → ℕ
opener_at pairs i = slice_index (map (λ (p : BracketPair). p.opener) pairs) i

-- the opening brackets are in text order, and all of them are before k
pub record AreInOrder (pairs : List BracketPair) (k : ℕ) : Type 0 where
  pub ascending : (a b : ℕ) → a < b → b < length pairs → opener_at pairs a < opener_at pairs b
  pub below : (a : ℕ) → a < length pairs → opener_at pairs a < k

-- the live opening brackets during the pass that finds the pairs, the newest last

-- the index stored in the opener at position m of the stack
abbrev pub index_of : List Opener → ℕ → ℕ
index_of openers m = slice_index (map (λ (o : Opener). o.index) openers) m

abbrev pub pair_of : List Opener → ℕ → ℕ
pair_of openers m = slice_index (map (λ (o : Opener). o.pair) openers) m

-- the position on the stack of the newest opener that the closing bracket c matches, if any
abbrev pub newest : List Opener → ℕ → Option ℕ
newest openers c = greatest (λ m. canonical (pair_of openers m) == canonical c) (length openers)

-- the openers that remain on the stack after a closing bracket, given the position m of the opener that it
-- matches, if any
abbrev pub left_by : {T : Type 0} → Option ℕ → List T → List T
left_by (Some m) openers = take m openers
left_by None openers = openers

-- the list of opening brackets once the closing bracket at `place` has been paired with the opener at
-- position m of the stack, if it matches one
abbrev pub closed_by : Option ℕ → List Opener → List BracketPair → ℕ → List BracketPair
closed_by (Some m) openers pairs place =
    slice_set pairs (index_of openers m) (record { opener = opener_at pairs (index_of openers m); closer = place })
closed_by None openers pairs place = pairs
