-- Which characters join. Two characters join if only transparent characters are between them, the first joins
-- those after it, the second joins those before it, and the levels from the first to the second agree.
use Rattle.std.specs.Prelude.{ℕ, ◌+◌, ◌-◌, ◌==◌, Bool, true, ◌&&◌, List, [], ◌∷◌, length, nat_lt, Option, Some, None}
use Rattle.std.specs.List.{list_all, slice_range}
use Rattle.std.specs.Option.{option_or}
use Rattle.ucd.specs.Least.{least}
use Rattle.joining.specs.Joiners.{is_transparent, joiner_at, joins_after, joins_before}
use Rattle.joining.specs.declared.joiner.Agreement.{Agreement}
use Rattle.joining.specs.declared.joiner.Agreement.TheVariants.{All, WithFirst}
use Rattle.joining.specs.declared.joiner.Joiner.{Joiner}

-- whether two characters' levels are equal, or X9 removes one of the two
abbrev pub agrees : Option ℕ → Option ℕ → Bool
agrees None other = true
agrees (Some level) None = true
agrees (Some level) (Some other) = level == other

-- the level with which those of a list must agree: the first level, or only that of the first character
abbrev pub leading_level : Agreement → List Joiner → Option ℕ
leading_level by [] = None
leading_level WithFirst (first ∷ others) = first.level
leading_level All (first ∷ others) = option_or first.level (leading_level All others)

-- the leading level of characters whose leading level is `level`, and another
abbrev pub level_after : Agreement → Option ℕ → Option ℕ → Option ℕ
level_after WithFirst level other = level
level_after All level other = option_or level other

abbrev pub agree : Agreement → List Joiner → Bool
agree by text = list_all (λ c. agrees (leading_level by text) c.level) text

-- whether the character at a joins the one at b, which is after it
unfoldable pub joins : Agreement → List Joiner → ℕ → ℕ → Bool
joins by text a b =
    nat_lt a b && nat_lt b (length text) && joins_after (joiner_at text a) && joins_before (joiner_at text b)
    && list_all is_transparent (slice_range text (a + 1) b) && agree by (slice_range text a (b + 1))

-- the index of the character that joins the one at `a`, of those after it
unfoldable pub next_joined : Agreement → List Joiner → ℕ → Option ℕ
next_joined by text a = least (joins by text a) (a + 1) (length text - (a + 1))

-- the index of the character that joins the one at `b`, of those before it
unfoldable pub previous_joined : Agreement → List Joiner → ℕ → Option ℕ
previous_joined by text b = least (λ a. joins by text a b) 0 b
