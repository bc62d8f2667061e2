-- The visual order that keeps the characters of each grapheme cluster at an odd level in logical order. L3
-- treats a character like a nonspacing mark if it continues a cluster and has the level of the character before it.
use Rattle.std.specs.Prelude.{◌≡◌, ℕ, zero, suc, ◌+◌, ◌<◌, ◌≤◌, ◌==◌, Bool, true, false, ◌&&◌, not, ◌⊎◌, List, length, map, slice_index, slice_index_or, if◌then◌else◌}
use Rattle.std.specs.List.{range_with_len}
use Rattle.ucd.specs.declared.bidi_class.BidiClass.{BidiClass}
use Rattle.ucd.specs.declared.bidi_class.BidiClass.TheVariants.{NSM, ON}
use Rattle.reorder.specs.Order.{is_odd}

-- `ends` says for each character of a line whether a cluster ends after it, and `levels` has the levels of
-- the line's shown part
module _ (ends : List Bool) (levels : List ℕ) where
  -- whether a character and the character before it are in the same cluster and at the same level
  abbrev pub is_joined : ℕ → Bool
  is_joined zero = false
  is_joined (suc i) = not (slice_index_or ends i false) && (slice_index levels (suc i) == slice_index levels i)

  -- the classes with which L3 keeps clusters in logical order: joined characters count as nonspacing marks
  abbrev pub joined_class : ℕ → BidiClass
  joined_class i = if is_joined i then NSM else ON

  unfoldable pub cluster_classes : List BidiClass
  cluster_classes = map joined_class (range_with_len 0 (length levels))

  -- a maximal sequence of characters of one cluster at one odd level: a first character, and n more
  pub record IsSequence (first n : ℕ) : Type 0 where
    pub odd : is_odd (slice_index levels first) ≡ true
    pub begins : is_joined first ≡ false
    pub joined : (k : ℕ) → 0 < k → k ≤ n → is_joined (first + k) ≡ true
    pub whole : is_joined (first + n + 1) ≡ false

  -- a character at an even level, or without an adjacent character of the same cluster at the same level
  abbrev pub IsSingle : ℕ → Type 0
  IsSingle place = (is_odd (slice_index levels place) ≡ false) ⊎ ((is_joined place ≡ false) × (is_joined (suc place) ≡ false))
