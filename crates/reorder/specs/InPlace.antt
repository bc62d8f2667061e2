-- Reversing intervals of an array, as L2 does. No public contract uses these definitions.
use Rattle.std.specs.Prelude.{◌≡◌, ℕ, ◌-◌, Bool, List, [], ◌∷◌, ◌++◌, ◌⊎◌, map, nat_le, if◌then◌else◌}
use Rattle.ucd.specs.declared.bidi_class.BidiClass.{BidiClass}
use Rattle.reorder.specs.Groups.{IsAlone, IsGroup}

-- reverses each maximal interval of flagged items; `run` is the current interval, already reversed
abbrev pub reverse_flagged : List Bool → List ℕ → List ℕ → List ℕ
reverse_flagged [] run items = run
reverse_flagged (flag ∷ flags) run [] = run
reverse_flagged (flag ∷ flags) run (x ∷ items) = if flag then reverse_flagged flags (x ∷ run) items else run ++ x ∷ reverse_flagged flags [] items

-- for each character, whether it is at the given level or higher
abbrev pub flags_at : ℕ → List ℕ → List Bool
flags_at level levels = map (nat_le level) levels

-- the `len` characters from `start` on are a chunk: a base and all its nonspacing marks, or a character without a base
-- and without nonspacing marks
abbrev pub IsChunk : List BidiClass → List ℕ → ℕ → ℕ → Type 0
IsChunk classes levels start len = IsGroup classes levels start (len - 1) ⊎ ((len ≡ 1) × IsAlone classes levels start)
