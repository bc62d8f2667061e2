-- Joining and rotating trees keeps their items in order, and the sums of all subtrees fit.
use Rattle.std.proofs.Common.{◌≡◌, List, ◌∷◌, ◌++◌, ap, sym, ◌∙◌, subst, append_assoc}
use Rattle.store.specs.Subtrees.{Fits}
use Rattle.store.specs.Trees.{Tree, Fork, in_order}
use Rattle.store.specs.declared.measured.Measured.{Ghosts}
use Rattle.store.proofs.FitsLemmas.{fits_front, fits_rest}

-- if m is the root of an inner subtree, the tree's items are the items before m, m itself, and those after m
pub lifted : {P : Type 0} (l r : List P) (x y m : P) (inner first second : Tree P) → inner ≡ Fork first m second
    → (l ++ x ∷ in_order inner) ++ y ∷ r ≡ (l ++ x ∷ in_order first) ++ m ∷ (in_order second ++ y ∷ r)
lifted l r x y m inner first second e =
    ap (λ t. (l ++ x ∷ in_order t) ++ y ∷ r) e ∙ simp append_assoc

module _ {P : Type 0} (G : Ghosts P) where
  -- whether the items before x, the items after x, and all items together fit
  pub record FitAround (front : List P) (x : P) (back : List P) : Type 0 where
    pub front_fits : Fits G front
    pub back_fits : Fits G back
    pub all_fit : Fits G (front ++ x ∷ back)

  pub fit_around : (front back : List P) (x : P) → Fits G (front ++ x ∷ back) → FitAround front x back
  fit_around front back x f = record {
    front_fits = fits_front G front (x ∷ back) f;
    back_fits = fits_rest G front back x f;
    all_fit = f;
  }

  -- if a tree's items fit, `FitAround` holds at the root of an inner subtree
  pub fit_lifted : (l r : List P) (x y m : P) (inner first second : Tree P) → inner ≡ Fork first m second
      → Fits G ((l ++ x ∷ in_order inner) ++ y ∷ r) → FitAround (l ++ x ∷ in_order first) m (in_order second ++ y ∷ r)
  fit_lifted l r x y m inner first second e f =
      fit_around (l ++ x ∷ in_order first) (in_order second ++ y ∷ r) m (subst (Fits G) (lifted l r x y m inner first second e) f)

  -- if all items fit, `FitAround` holds at the root of the left tree
  pub fit_before : (r : List P) (y m : P) (left outer inner : Tree P) → left ≡ Fork outer m inner → Fits G (in_order left ++ y ∷ r)
      → FitAround (in_order outer) m (in_order inner ++ y ∷ r)
  fit_before r y m left outer inner e f =
      fit_around (in_order outer) (in_order inner ++ y ∷ r) m
      (subst (Fits G) (ap (λ t. in_order t ++ y ∷ r) e ∙ append_assoc (in_order outer) (m ∷ in_order inner) (y ∷ r)) f)

  -- if all items fit, `FitAround` holds at the root of the right tree
  pub fit_after : (l : List P) (x m : P) (right inner outer : Tree P) → right ≡ Fork inner m outer → Fits G (l ++ x ∷ in_order right)
      → FitAround (l ++ x ∷ in_order inner) m (in_order outer)
  fit_after l x m right inner outer e f =
      fit_around (l ++ x ∷ in_order inner) (in_order outer) m
      (subst (Fits G) (ap (λ t. l ++ x ∷ in_order t) e ∙ sym (append_assoc l (x ∷ in_order inner) (m ∷ in_order outer))) f)
