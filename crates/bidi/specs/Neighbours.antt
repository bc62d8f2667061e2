-- Rules that replace each item of a list, depending on the items before and after it.
use Rattle.std.specs.Prelude.{Bool, List, [], ◌∷◌, if◌then◌else◌}

module _ {T : Type 0} where
  -- Applies a rule to each item of a list. The rule's arguments are the items before the item, nearest first,
  -- then the item itself, and then the items after it.
  abbrev pub each_by : (List T → T → List T → T) → List T → List T → List T
  each_by rule before [] = []
  each_by rule before (item ∷ after) = rule before item after ∷ each_by rule (item ∷ before) after

  -- the first item that passes the test, or `other` if none does
  abbrev pub nearest : (T → Bool) → T → List T → T
  nearest test other [] = other
  nearest test other (item ∷ items) = if test item then item else nearest test other items
