-- A base and its nonspacing marks: their positions in visual order, and how a scan finds them.
use Rattle.std.specs.Prelude.{◌≡◌, ◌≢◌, ℕ, suc, ◌+◌, ◌-◌, ◌<◌, ◌≤◌, ◌==◌, Bool, true, false, ◌&&◌, List, length, slice_index}
use Rattle.ucd.specs.declared.bidi_class.BidiClass.{BidiClass}
use Rattle.reorder.specs.Order.{has_base, is_nonspacing_mark_at, is_odd, vtol_of}

module _ (classes : List BidiClass) (levels : List ℕ) where
  -- A group: a base with exactly n nonspacing marks. The base is not a nonspacing mark and is at an odd level, and the
  -- n nonspacing marks directly after it are at the same level.
  pub record IsGroup (base n : ℕ) : Type 0 where
    pub plain : is_nonspacing_mark_at classes base ≡ false
    pub odd : is_odd (slice_index levels base) ≡ true
    pub marks : (k : ℕ) → 0 < k → k ≤ n → is_nonspacing_mark_at classes (base + k) ≡ true
    pub same : (k : ℕ) → k ≤ n → slice_index levels (base + k) ≡ slice_index levels base
    pub whole : is_nonspacing_mark_at classes (base + n + 1) ≡ true → slice_index levels (base + n + 1) ≢ slice_index levels base

  -- the base and its nonspacing marks are adjacent in visual order: reversed with L2 alone, and in logical order with
  -- L3
  pub record StandsTogether (base n : ℕ) : Type 0 where
    pub at : ℕ
    pub within : at + n < length levels
    pub reversed : (k : ℕ) → k ≤ n → slice_index (vtol_of false classes levels) (at + k) ≡ base + (n - k)
    pub read : (k : ℕ) → k ≤ n → slice_index (vtol_of true classes levels) (at + k) ≡ base + k

  -- a character without a base and without nonspacing marks: neither it nor the one after it is a nonspacing mark with
  -- a base
  pub record IsAlone (place : ℕ) : Type 0 where
    pub no_base : has_base classes levels place ≡ false
    pub no_marks : has_base classes levels (suc place) ≡ false

  -- whether `place` is the position of a nonspacing mark, `next` is the position before it, and both characters are at
  -- the same odd level
  abbrev pub is_bound : ℕ → ℕ → Bool
  is_bound place next =
      (next + 1 == place) && (is_nonspacing_mark_at classes place && (is_odd (slice_index levels next) && (slice_index levels place == slice_index levels next)))

  -- each of the first n items of a list is bound to the next item (`is_bound`), and the item at index n is
  -- not
  pub record AreBound (items : List ℕ) (n : ℕ) : Type 0 where
    pub within : n < length items
    pub bound : (k : ℕ) → k < n → is_bound (slice_index items k) (slice_index items (k + 1)) ≡ true
    pub stops : n + 1 < length items → is_bound (slice_index items n) (slice_index items (n + 1)) ≡ false
