-- A search in a subtree finds the same item as a search in the whole list.
use Rattle.std.proofs.Common.{◌≡◌, ℕ, ◌+◌, ◌-◌, ◌<◌, List, ◌∷◌, ◌++◌, length, take, sum_by, arith, length-append, append_assoc, sym, ap, ◌∙◌}
use Rattle.std.proofs.Math.Seq.{take-append_seam}
use Rattle.std.proofs.lemmas.List.{take-append-le}
use Rattle.std.proofs.lemmas.List.Sums.{sum_by-append, sum_by-cons, sum_by-take-drop}
use Rattle.store.specs.Finding.{FindsItem, IsPosition, IsItemPosition, CountsBefore, found_at}
use Rattle.store.specs.Sums.{measure, part, AreSums, SumsFit}
use Rattle.store.specs.declared.found.Position.{Position}
use Rattle.store.specs.declared.measured.Measured.{Ghosts}
use Rattle.store.specs.declared.sums.Unit.{Unit as Counted}
use Rattle.store.specs.declared.sums.Unit.TheVariants.{Char, Line, Byte, Utf16}
use Rattle.store.proofs.FitsLemmas.{sums_less}
use Rattle.store.proofs.ListLemmas.{take_far}

module _ {P : Type 0} (G : Ghosts P) (unit : Counted) where
  -- the counts of a position are the sums of the items before it
  pub counts_at : (items : List P) (n : ℕ) (f : Position) → IsPosition G unit items n f → CountsBefore G.bytes G.utf16 items (found_at f)
  counts_at items n f is =
      let front : take f.index items ≡ is.finds.before =
      ap (λ (k : ℕ). take k items) is.finds.index ∙ ap (λ (xs : List P). take (length is.finds.before) xs) is.finds.place
      ∙ take-append_seam is.finds.before (is.finds.item ∷ is.finds.after) in record {
        bytes_before = is.sums.each Byte ∙ ap (sum_by G.bytes) (sym front);
        utf16_before = is.sums.each Utf16 ∙ ap (sum_by G.utf16) (sym front);
      }

  -- `IsPosition` holds if the position's index, rest and sums follow from the items before the found item
  pub position_of : (before : List P) (item : P) (after items : List P) (n : ℕ) (g : Position) → items ≡ before ++ item ∷ after → g.index ≡ length before
      → sum_by (measure G unit) before + g.rest ≡ n → g.rest < measure G unit item → AreSums G before g.before → IsPosition G unit items n g
  position_of before item after items n g position_is index_is rest_is within_is sums_are = record {
    finds = record {
      before = before;
      item = item;
      after = after;
      place = position_is;
      index = index_is;
      rest = rest_is;
      within = within_is;
      chars_before = sums_are.each Char;
      lines_before = sums_are.each Line;
    };
    sums = sums_are;
  }

  module _ (l : List P) (x : P) (r : List P) where
    -- if a search finds an item before x, a search in the whole list finds the same item
    pub found_before : (n : ℕ) (f g : Position) → g.index ≡ f.index → g.rest ≡ f.rest → g.before ≡ f.before → IsPosition G unit l n f
        → IsPosition G unit (l ++ x ∷ r) n g
    found_before n f g index_is rest_is sums_are found =
        let at = found.finds in
        position_of at.before at.item (at.after ++ x ∷ r) (l ++ x ∷ r) n g
        (ap (λ ys. ys ++ x ∷ r) at.place ∙ append_assoc at.before (at.item ∷ at.after) (x ∷ r))
        (index_is ∙ at.index)
        (omega (arith, at.rest))
        (omega (arith, at.within))
        record { each = λ u. ap (λ sums. part sums u) sums_are ∙ found.sums.each u }

    -- if the searched number falls inside x, a search in the whole list finds x
    pub at_item : (n : ℕ) (g : Position) → g.index ≡ length l → sum_by (measure G unit) l + g.rest ≡ n → g.rest < measure G unit x → AreSums G l g.before
        → IsPosition G unit (l ++ x ∷ r) n g
    at_item n g index_is rest_is within_is sums_are =
        position_of l x r (l ++ x ∷ r) n g (λ i. l ++ x ∷ r) index_is rest_is within_is sums_are

    -- if the sums of all items fit, so do the sums of the items before a position after x
    pub before_fit : (k : ℕ) (f : Position) (found : IsPosition G unit r k f) → SumsFit G (l ++ x ∷ r) → SumsFit G (l ++ x ∷ found.finds.before)
    before_fit k f found fit =
        let at = found.finds in
        let whole = ap (λ ys. l ++ x ∷ ys) at.place ∙ sym (append_assoc l (x ∷ at.before) (at.item ∷ at.after)) in
        sums_less G (l ++ x ∷ r) (l ++ x ∷ at.before)
        (λ (size : P → ℕ). omega (arith, ap (sum_by size) whole, sum_by-append size (l ++ x ∷ at.before) (at.item ∷ at.after)))
        fit

    -- if a search for the remaining number finds an item after x, a search in the whole list finds the same
    -- item
    pub found_after : (n k : ℕ) (f g : Position) → g.index ≡ length l + 1 + f.index → g.rest ≡ f.rest → sum_by (measure G unit) l + measure G unit x + k ≡ n
        → (found : IsPosition G unit r k f) → AreSums G (l ++ x ∷ found.finds.before) g.before → IsPosition G unit (l ++ x ∷ r) n g
    found_after n k f g index_is rest_is sum_is found sums_are =
        let at = found.finds in
        position_of (l ++ x ∷ at.before) at.item at.after (l ++ x ∷ r) n g
        (ap (λ ys. l ++ x ∷ ys) at.place ∙ sym (append_assoc l (x ∷ at.before) (at.item ∷ at.after)))
        (omega (arith, at.index, length-append l (x ∷ at.before)))
        (omega (arith, at.rest, sum_by-append (measure G unit) l (x ∷ at.before), sum_by-cons (measure G unit) x at.before))
        (omega (arith, at.within))
        sums_are

-- ---- the position of an item, by its index
module _ {P : Type 0} (G : Ghosts P) where
  pub item_found : (items : List P) (index : ℕ) (f : Position) → IsItemPosition G items index f → FindsItem G.chars G.lines items index (found_at f)
  item_found items index f is = record {
    index_is = is.index_is;
    rest = is.rest;
    chars_before = is.sums.each Char;
    lines_before = is.sums.each Line;
  }

  pub item_counts : (items : List P) (index : ℕ) (f : Position) → IsItemPosition G items index f → CountsBefore G.bytes G.utf16 items (found_at f)
  item_counts items index f is =
      let front : take index items ≡ take f.index items = ap (λ (k : ℕ). take k items) (sym is.index_is) in record {
        bytes_before = is.sums.each Byte ∙ ap (sum_by G.bytes) front;
        utf16_before = is.sums.each Utf16 ∙ ap (sum_by G.utf16) front;
      }

  -- ---- an item of the left subtree, the root's item, and an item of the right subtree
  module _ (l : List P) (x : P) (r : List P) where
    pub item_before : (index : ℕ) (f g : Position) → index < length l → g.index ≡ f.index → g.rest ≡ f.rest → g.before ≡ f.before → IsItemPosition G l index f
        → IsItemPosition G (l ++ x ∷ r) index g
    item_before index f g below index_is rest_is sums_are is =
        let front : take index l ≡ take index (l ++ x ∷ r) = sym (take-append-le index l (x ∷ r) (omega (arith, below))) in record {
          index_is = index_is ∙ is.index_is;
          rest = rest_is ∙ is.rest;
          sums = record { each = λ u. ap (λ sums. part sums u) sums_are ∙ is.sums.each u ∙ ap (sum_by (measure G u)) front };
        }

    pub item_there : (index : ℕ) (g : Position) → index ≡ length l → g.index ≡ index → g.rest ≡ 0 → AreSums G l g.before → IsItemPosition G (l ++ x ∷ r) index g
    item_there index g there index_is rest_is sums_are =
        let front : l ≡ take index (l ++ x ∷ r) = sym (ap (λ (k : ℕ). take k (l ++ x ∷ r)) there ∙ take-append_seam l (x ∷ r)) in record {
          index_is = index_is;
          rest = rest_is;
          sums = record { each = λ u. sums_are.each u ∙ ap (sum_by (measure G u)) front };
        }

    pub items_fit : (k : ℕ) → SumsFit G (l ++ x ∷ r) → SumsFit G (l ++ x ∷ take k r)
    items_fit k fit =
        sums_less G (l ++ x ∷ r) (l ++ x ∷ take k r)
        (λ (size : P → ℕ). omega (
          arith,
          sum_by-append size l (x ∷ r),
          sum_by-append size l (x ∷ take k r),
          sum_by-cons size x r,
          sum_by-cons size x (take k r),
          sum_by-take-drop size r k,
        ))
        fit

    pub item_after : (index k : ℕ) (g : Position) → index ≡ length l + 1 + k → g.index ≡ index → g.rest ≡ 0 → AreSums G (l ++ x ∷ take k r) g.before
        → IsItemPosition G (l ++ x ∷ r) index g
    item_after index k g there index_is rest_is sums_are =
        let n : index - length l - 1 ≡ k = omega (arith, there) in
        let front : l ++ x ∷ take k r ≡ take index (l ++ x ∷ r) =
        sym (take_far l r x index (omega (arith, there)) ∙ ap (λ (m : ℕ). l ++ x ∷ take m r) n) in record {
          index_is = index_is;
          rest = rest_is;
          sums = record { each = λ u. sums_are.each u ∙ ap (sum_by (measure G u)) front };
        }
