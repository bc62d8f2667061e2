-- What the joining type and the level of a character say about its joins, in logical order. At odd levels, the
-- character before another is on its right, at even levels on its left. A character that X9 removes has no
-- level, and counts as if its level were odd.
use Rattle.std.specs.Prelude.{ℕ, ◌%◌, ◌==◌, Bool, true, false, List, slice_index_or, Option, Some, None, if◌then◌else◌}
use Rattle.ucd_bidi.specs.declared.JoiningType.{JoiningType}
use Rattle.ucd_bidi.specs.declared.JoiningType.TheVariants.{DualJoining, JoinCausing, LeftJoining, NonJoining, RightJoining, Transparent}
use Rattle.joining.specs.declared.joiner.Joiner.{Joiner}

abbrev pub joiner_at : List Joiner → ℕ → Joiner
joiner_at text k = slice_index_or text k (record { joining = NonJoining; level = None })

abbrev pub joins_right : JoiningType → Bool
joins_right RightJoining = true
joins_right DualJoining = true
joins_right JoinCausing = true
joins_right _ = false

abbrev pub joins_left : JoiningType → Bool
joins_left LeftJoining = true
joins_left DualJoining = true
joins_left JoinCausing = true
joins_left _ = false

abbrev pub is_rtl : Option ℕ → Bool
is_rtl None = true
is_rtl (Some level) = level % 2 == 1

-- whether a character joins those before it that fit
abbrev pub joins_before : Joiner → Bool
joins_before c = if is_rtl c.level then joins_right c.joining else joins_left c.joining

-- whether a character joins those after it that fit
abbrev pub joins_after : Joiner → Bool
joins_after c = if is_rtl c.level then joins_left c.joining else joins_right c.joining

abbrev pub transparent : JoiningType → Bool
transparent Transparent = true
transparent _ = false

abbrev pub is_transparent : Joiner → Bool
is_transparent c = transparent c.joining
