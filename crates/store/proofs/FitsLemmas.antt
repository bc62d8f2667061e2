-- If the sums of a list fit in a `usize`, so do the sums of its parts.
use Rattle.std.proofs.Common.{ℕ, ◌≤◌, List, ◌++◌, ◌∷◌, length, take, drop, sum_by, arith, length-append, append_assoc, subst, sym, length-take, length-drop}
use Rattle.std.proofs.lemmas.List.Sums.{sum_by-append, sum_by-cons, sum_by-take-drop}
use Rattle.store.specs.Subtrees.{Fits}
use Rattle.store.specs.Sums.{measure, SumsFit}
use Rattle.store.specs.declared.measured.Measured.{Ghosts}
use Rattle.store.specs.declared.sums.Unit.{Unit as Counted}

module _ {P : Type 0} (G : Ghosts P) where
  -- if the sums of a list fit, so do those of a list whose sums are no larger
  pub sums_less : (xs ys : List P) → ((size : P → ℕ) → sum_by size ys ≤ sum_by size xs) → SumsFit G xs → SumsFit G ys
  sums_less xs ys less f = record { each = λ (u : Counted). omega (arith, less (measure G u), f.each u) }

  -- if a list fits, so does any list that has no more items and no larger sums
  pub fits_less : (xs ys : List P) → length ys ≤ length xs → ((size : P → ℕ) → sum_by size ys ≤ sum_by size xs) → Fits G xs → Fits G ys
  fits_less xs ys n less f = record { count = omega (arith, f.count); sums = sums_less xs ys less f.sums }

  -- if a list fits, so do its prefixes and suffixes
  pub fits_front : (xs ys : List P) → Fits G (xs ++ ys) → Fits G xs
  fits_front xs ys f =
      fits_less (xs ++ ys) xs (omega (arith, length-append xs ys)) (λ (size : P → ℕ). omega (arith, sum_by-append size xs ys)) f

  pub fits_back : (xs ys : List P) → Fits G (xs ++ ys) → Fits G ys
  fits_back xs ys f =
      fits_less (xs ++ ys) ys (omega (arith, length-append xs ys)) (λ (size : P → ℕ). omega (arith, sum_by-append size xs ys)) f

  pub fits_rest : (xs ys : List P) (x : P) → Fits G (xs ++ x ∷ ys) → Fits G ys
  fits_rest xs ys x f =
      fits_less (xs ++ x ∷ ys) ys
      (omega (arith, length-append xs (x ∷ ys)))
      (λ (size : P → ℕ). omega (arith, sum_by-append size xs (x ∷ ys), sum_by-cons size x ys))
      f

  -- if a list fits, so does the list without some of its first items
  pub fits_after : (xs ys : List P) (n : ℕ) → Fits G (xs ++ ys) → Fits G (drop n xs ++ ys)
  fits_after xs ys n f =
      fits_less (xs ++ ys) (drop n xs ++ ys)
      (omega (arith, length-append xs ys, length-append (drop n xs) ys, length-drop n xs))
      (λ (size : P → ℕ). omega (arith, sum_by-append size xs ys, sum_by-append size (drop n xs) ys, sum_by-take-drop size xs n))
      f

  -- if a list fits, so does the list without some of its last items
  pub fits_before : (xs ys : List P) (n : ℕ) → Fits G (xs ++ ys) → Fits G (xs ++ take n ys)
  fits_before xs ys n f =
      fits_less (xs ++ ys) (xs ++ take n ys)
      (omega (arith, length-append xs ys, length-append xs (take n ys), length-take n ys))
      (λ (size : P → ℕ). omega (arith, sum_by-append size xs ys, sum_by-append size xs (take n ys), sum_by-take-drop size ys n))
      f

  -- whether the new items, the front with the new items, and the whole list after a replacement fit
  pub record FitSpliced (front new back : List P) : Type 0 where
    pub new_fits : Fits G new
    pub front_fits : Fits G (front ++ new)
    pub all_fit : Fits G ((front ++ new) ++ back)

  pub fit_spliced : (front new back : List P) → Fits G (front ++ (new ++ back)) → FitSpliced front new back
  fit_spliced front new back f =
      let all = subst (Fits G) (sym (append_assoc front new back)) f in
      let first = fits_front (front ++ new) back all in
      record { new_fits = fits_back front new first; front_fits = first; all_fit = all }
