-- Which lines are the same, and how many items two lists share at their start or at their end.
use Rattle.std.specs.Prelude.{◌≡◌, ◌≢◌, ℕ, ◌-◌, ◌<◌, ◌≤◌, ◌==◌, List, length, take, drop, slice_get, slice_index, slice_index_or}
use Rattle.lines.specs.Extents.{LineExtents}
use Rattle.lines.specs.Showing.{nothing_shown}
use Rattle.lines.specs.Visual.{Visual, end_of, is_measured}

-- The first n items of two lists are the same. If both lists have a next item, these two items differ.
pub record MatchAtStart {A : Type 0} (xs ys : List A) (n : ℕ) : Type 0 where
  pub in_first : n ≤ length xs
  pub in_second : n ≤ length ys
  pub same : take n xs ≡ take n ys
  pub most : n < length xs → n < length ys → slice_get xs n ≢ slice_get ys n

-- The last n items of two lists are the same. If both lists have an item before these, the two items differ.
pub record MatchAtEnd {A : Type 0} (xs ys : List A) (n : ℕ) : Type 0 where
  pub in_first : n ≤ length xs
  pub in_second : n ≤ length ys
  pub same : drop (length xs - n) xs ≡ drop (length ys - n) ys
  pub most : n < length xs → n < length ys → slice_get xs (length xs - n - 1) ≢ slice_get ys (length ys - n - 1)

-- The first `front` and the last `back` items of two lists are the same.
pub record ShareEnds {A : Type 0} (xs ys : List A) (front back : ℕ) : Type 0 where
  pub front_in_first : front ≤ length xs
  pub front_in_second : front ≤ length ys
  pub same_front : take front xs ≡ take front ys
  pub back_in_first : back ≤ length xs
  pub back_in_second : back ≤ length ys
  pub same_back : drop (length xs - back) xs ≡ drop (length ys - back) ys

-- two lines agree in every field that is not a list, and either both or neither are measured
pub record HaveSameForm (a b : Visual) : Type 0 where
  pub is_first : a.is_first ≡ b.is_first
  pub base : a.base ≡ b.base
  pub tab_width : a.tab_width ≡ b.tab_width
  pub len : a.len ≡ b.len
  pub columns : a.columns ≡ b.columns
  pub measured : is_measured a ≡ is_measured b

-- In a paragraph of n characters, line k of `a` and line m of `b` have the same start, the same end, and
-- shown parts of the same length and columns. Either both lines are the first one, or neither is.
pub record HaveSamePlace (n : ℕ) (a b : LineExtents) (k m : ℕ) : Type 0 where
  pub is_first : (k == 0) ≡ (m == 0)
  pub start : slice_index a.starts k ≡ slice_index b.starts m
  pub end : end_of n a.starts k ≡ end_of n b.starts m
  pub shown : slice_index_or a.shown k nothing_shown ≡ slice_index_or b.shown m nothing_shown
