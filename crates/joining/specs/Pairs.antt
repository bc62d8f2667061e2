-- Facts that follow from the definition of joins, for any text and either condition on levels.
use Rattle.std.specs.Prelude.{◌≡◌, ◌⊎◌, ◌<◌, ◌≤◌, ℕ, ◌+◌, ◌-◌, Bool, true, ◌||◌, List, ◌∷◌, ◌++◌, length, nat_lt, option_map, Some, None, if◌then◌else◌}
use Rattle.std.specs.List.{slice_range}
use Rattle.joining.specs.Joiners.{is_transparent, joiner_at, joins_left, joins_right}
use Rattle.joining.specs.Joins.{joins, next_joined}
use Rattle.joining.specs.declared.joiner.Agreement.{Agreement}
use Rattle.joining.specs.declared.joiner.Joiner.{Joiner}

-- A character joins at most one after it, and at most one before it, so each of two that join is the other's only
-- partner on that side.
pub record JoinsAreMutual : Type 0 where
  pub found : (by : Agreement) (text : List Joiner) (a b : ℕ) → next_joined by text a ≡ Some b → joins by text a b ≡ true
  pub after : (by : Agreement) (text : List Joiner) (a b : ℕ) → joins by text a b ≡ true → next_joined by text a ≡ Some b
  pub before : (by : Agreement) (text : List Joiner) (a b other : ℕ) → joins by text a b ≡ true → joins by text other b ≡ true → other ≡ a

-- whether a character's joining type is D, R, L or C
abbrev pub may_join : Joiner → Bool
may_join c = joins_left c.joining || joins_right c.joining

pub record OnlyJoiningTypesJoin : Type 0 where
  pub first : (by : Agreement) (text : List Joiner) (a b : ℕ) → joins by text a b ≡ true → may_join (joiner_at text a) ≡ true
  pub second : (by : Agreement) (text : List Joiner) (a b : ℕ) → joins by text a b ≡ true → may_join (joiner_at text b) ≡ true

-- the index of a character after another was inserted at i
abbrev pub moved : ℕ → ℕ → ℕ
moved i k = if nat_lt k i then k else k + 1

-- A transparent character changes no joins of others if X9 removes it, or if it has the level of the character before it.
abbrev pub TransparentCharactersChangeNothing : Type 0
TransparentCharactersChangeNothing =
    (by : Agreement) (front back : List Joiner) (c : Joiner) (a : ℕ) → a < length (front ++ back) → is_transparent c ≡ true
    → (c.level ≡ None) ⊎ (c.level ≡ (joiner_at front (length front - 1)).level)
    → next_joined by (front ++ c ∷ back) (moved (length front) a) ≡ option_map (moved (length front)) (next_joined by (front ++ back) a)

-- Two characters of a slice, as of a line of a paragraph, join if and only if they join in the whole text.
abbrev pub SlicesJoinAlike : Type 0
SlicesJoinAlike =
    (by : Agreement) (text : List Joiner) (from to a b : ℕ) → to ≤ length text → from + b < to
    → joins by (slice_range text from to) a b ≡ joins by text (from + a) (from + b)
