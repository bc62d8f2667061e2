-- FriBidi's joining types, and its properties of characters after joining. Both are sums of masks: the character joins
-- to its right (1), joins to its left (2), has forms (4), is transparent (8), is ignored (16), and is part of a ligature (32).
use Rattle.std.specs.Prelude.{ℕ, ◌+◌, ◌==◌, Bool, not, ◌&&◌, ◌||◌, List, [], ◌∷◌, bit_and, bit_or, drop, length, map, nat_le, nat_lt, slice_index, Option, Some, None, if◌then◌else◌}
use Rattle.std.specs.List.{range_with_len}
use Rattle.bidi.specs.Brackets.{greatest}
use Rattle.joining.specs.Joiners.{is_rtl, is_transparent, joiner_at}
use Rattle.joining.specs.Joins.{next_joined}
use Rattle.joining.specs.declared.joiner.Agreement.TheVariants.{WithFirst}
use Rattle.joining.specs.declared.joiner.Joiner.{Joiner}
use Rattle.ucd.specs.Classes.{is_removed}
use Rattle.ucd_bidi.specs.JoiningType.{joining_type}
use Rattle.ucd_bidi.specs.declared.JoiningType.{JoiningType}
use Rattle.ucd_bidi.specs.declared.JoiningType.TheVariants.{DualJoining, JoinCausing, LeftJoining, NonJoining, RightJoining, Transparent}
use Rattle.hordguli_fribidi.specs.Points.{type_at}
use Rattle.hordguli_fribidi.specs.Types.{class_of}

-- ---- joining types

abbrev pub property_of : JoiningType → ℕ
property_of NonJoining = 0
property_of RightJoining = 5
property_of DualJoining = 7
property_of JoinCausing = 3
property_of LeftJoining = 6
property_of Transparent = 12

abbrev pub is_scalar : ℕ → Bool
is_scalar c = nat_lt c 0xD800 || (nat_le 0xE000 c && nat_lt c 0x110000)

-- the joining type of a code point; control characters of class BN are ignored, which is a type of FriBidi alone
unfoldable pub joining_at : List ℕ → List ℕ → ℕ → ℕ
joining_at index pages c =
    if nat_lt c 160 && (type_at index pages c == 1050656) then 16 else (if is_scalar c then property_of (joining_type c) else 0)

abbrev pub joining_types_if : List ℕ → List ℕ → List ℕ → List ℕ → List ℕ
joining_types_if index pages characters old = if length old == length characters then map (joining_at index pages) characters else old

-- ---- properties as the crate joining sees them

abbrev pub is_skipped : ℕ → Bool
is_skipped property = not (bit_and property 24 == 0)

abbrev pub has_forms : ℕ → Bool
has_forms property = not (bit_and property 4 == 0)

abbrev pub type_of_sides : ℕ → JoiningType
type_of_sides sides = if sides == 0 then NonJoining else (if sides == 1 then RightJoining else (if sides == 2 then LeftJoining else DualJoining))

-- Ignored characters count as transparent ones.
abbrev pub type_of : ℕ → JoiningType
type_of property = if is_skipped property then Transparent else type_of_sides (bit_and property 3)

-- the level that counts: none if X9 removes the character, if the character is ignored, or if the level is -1
abbrev pub level_of : ℕ → ℕ → ℕ → Option ℕ
level_of type level property = if is_removed (class_of type) || (bit_and property 24 == 16) || (level == 255) then None else Some level

abbrev pub joiners : List ℕ → List ℕ → List ℕ → List Joiner
joiners (type ∷ types) (level ∷ levels) (property ∷ properties) =
    record { joining = type_of property; level = level_of type level property } ∷ joiners types levels properties
joiners _ _ _ = []

-- ---- joining

-- the masks of the sides on which the characters after and before one of a level are
abbrev pub side_after : Option ℕ → ℕ
side_after level = if is_rtl level then 2 else 1

abbrev pub side_before : Option ℕ → ℕ
side_before level = if is_rtl level then 1 else 2

-- the sides at which the join of a character with one after it is, or 0 if it joins none; `text` starts with the
-- character
abbrev pub sides_between : List Joiner → Option ℕ → ℕ
sides_between text None = 0
sides_between text (Some b) = bit_or (side_after (joiner_at text 0).level) (side_before (joiner_at text b).level)

unfoldable pub sides_from : List Joiner → ℕ
sides_from text = sides_between text (next_joined WithFirst text 0)

-- the same of the join of the last character before k that is not transparent
abbrev pub sides_of : List Joiner → Option ℕ → ℕ
sides_of text None = 0
sides_of text (Some a) = sides_from (drop a text)

unfoldable pub sides_over : List Joiner → ℕ → ℕ
sides_over text k = sides_of text (greatest (λ a. not (is_transparent (joiner_at text a))) k)

-- the sides of the join over the boundary after the first character, given those over the boundary before it
abbrev pub sides_past : List Joiner → ℕ → ℕ
sides_past text before = if is_transparent (joiner_at text 0) then before else sides_from text

-- a property without the mask of a side
abbrev pub without : ℕ → ℕ → ℕ
without side property = if side == 1 then bit_and property 254 else bit_and property 253

abbrev pub kept_if : Bool → ℕ → ℕ → ℕ
kept_if joined side property = if joined then property else without side property

-- A property after joining, given the sides of the joins over the boundaries before and after the character. A
-- character between two that join gets the sides of their join. Others with forms keep those of their own joins.
abbrev pub joined : Joiner → ℕ → ℕ → ℕ → ℕ
joined c before after property =
    if is_transparent c then bit_or property before
    else (if has_forms property
    then kept_if (not (before == 0)) (side_before c.level) (kept_if (not (after == 0)) (side_after c.level) property)
    else property)

unfoldable pub joined_at : List Joiner → List ℕ → ℕ → ℕ
joined_at text properties k = joined (joiner_at text k) (sides_over text k) (sides_over text (k + 1)) (slice_index properties k)

abbrev pub joined_of : List ℕ → List ℕ → List ℕ → List ℕ
joined_of types levels properties = map (joined_at (joiners types levels properties) properties) (range_with_len 0 (length properties))

-- the properties after joining; unchanged if lengths differ
abbrev pub joined_if : List ℕ → List ℕ → List ℕ → List ℕ
joined_if types levels properties =
    if length types == length properties && length levels == length properties then joined_of types levels properties else properties
