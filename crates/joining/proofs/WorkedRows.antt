-- Worked examples of characters that join.
use Rattle.std.proofs.Common.{◌≡◌, ℕ, [], ◌∷◌, Some, None, refl}
use Rattle.ucd_bidi.specs.declared.JoiningType.{JoiningType}
use Rattle.ucd_bidi.specs.declared.JoiningType.TheVariants.{DualJoining, JoinCausing, LeftJoining, NonJoining, RightJoining, Transparent}
use Rattle.joining.specs.Joins.{joins, next_joined}
use Rattle.joining.specs.declared.joiner.Agreement.TheVariants.{All, WithFirst}
use Rattle.joining.specs.declared.joiner.Joiner.{Joiner}

abbrev at : ℕ → JoiningType → Joiner
at level type = record { joining = type; level = Some level }

abbrev removed : JoiningType → Joiner
removed type = record { joining = type; level = None }

-- beh, a mark and alef: the two letters join, and alef joins nothing after it
row-mark : next_joined All (at 1 DualJoining ∷ at 1 Transparent ∷ at 1 RightJoining ∷ at 1 DualJoining ∷ []) 0 ≡ Some 2
unfolding joins next_joined
row-mark = refl

row-alef : next_joined All (at 1 DualJoining ∷ at 1 Transparent ∷ at 1 RightJoining ∷ at 1 DualJoining ∷ []) 2 ≡ None
unfolding joins next_joined
row-alef = refl

-- at even levels, alef joins what is after it, and nothing before it
row-even : next_joined All (at 2 RightJoining ∷ at 2 DualJoining ∷ at 2 RightJoining ∷ []) 0 ≡ Some 1
unfolding joins next_joined
row-even = refl

row-even_before : next_joined All (at 2 RightJoining ∷ at 2 DualJoining ∷ at 2 RightJoining ∷ []) 1 ≡ None
unfolding joins next_joined
row-even_before = refl

-- a letter, a mark or another letter of another level
row-levels : next_joined All (at 1 DualJoining ∷ at 3 DualJoining ∷ []) 0 ≡ None
unfolding joins next_joined
row-levels = refl

row-mark_level : next_joined All (at 1 DualJoining ∷ at 2 Transparent ∷ at 1 DualJoining ∷ []) 0 ≡ None
unfolding joins next_joined
row-mark_level = refl

-- ZWNJ, ZWJ and the soft hyphen, which X9 removes
row-non_joiner : next_joined All (at 1 DualJoining ∷ removed NonJoining ∷ at 1 DualJoining ∷ []) 0 ≡ None
unfolding joins next_joined
row-non_joiner = refl

row-joiner : next_joined All (at 1 DualJoining ∷ removed JoinCausing ∷ at 1 DualJoining ∷ []) 0 ≡ Some 1
unfolding joins next_joined
row-joiner = refl

row-hyphen : next_joined All (at 1 DualJoining ∷ removed Transparent ∷ at 1 DualJoining ∷ []) 0 ≡ Some 2
unfolding joins next_joined
row-hyphen = refl

-- the levels after a joiner: both must be the same, but in FriBidi may differ
row-after_joiner : next_joined All (removed JoinCausing ∷ at 1 Transparent ∷ at 2 DualJoining ∷ []) 0 ≡ None
unfolding joins next_joined
row-after_joiner = refl

row-after_joiner_in_fribidi : next_joined WithFirst (removed JoinCausing ∷ at 1 Transparent ∷ at 2 DualJoining ∷ []) 0 ≡ Some 2
unfolding joins next_joined
row-after_joiner_in_fribidi = refl

-- a left-joining letter
row-left : next_joined All (at 1 LeftJoining ∷ at 1 DualJoining ∷ at 1 LeftJoining ∷ []) 0 ≡ Some 1
unfolding joins next_joined
row-left = refl
