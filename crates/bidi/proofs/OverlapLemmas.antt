-- What is known of a list from two parts of it that overlap: a front, and a rest that starts in the front or directly after it.
use Rattle.std.proofs.Common.{◌≡◌, ℕ, ◌+◌, ◌-◌, ◌≤◌, Bool, true, false, ◌&&◌, ◌||◌, List, ◌++◌, length, map, take, drop, refl, sym, ap, ◌∙◌, arith}
use Rattle.std.specs.List.{list_all, list_any}
use Rattle.std.proofs.Math.Seq.{take-add, take-append_seam}
use Rattle.std.proofs.lemmas.List.{append-nil, append_assoc, drop_all, length-drop, length-map, map-append, take-append-drop}
use Rattle.std.proofs.lemmas.Slice.{drop-put_mid, take-put_mid}
use borrow.Rule.Slice.PartMut.{put_mid}
use Rattle.std.proofs.lemmas.List.Folds.{list_all-append, list_any-append}

both : (a b c : Bool) → ((a && b) && (b && c)) ≡ (a && (b && c))
both true true c = refl
both true false c = refl
both false b c = refl

either : (a b c : Bool) → ((a || b) || (b || c)) ≡ (a || (b || c))
either true b c = refl
either false true c = refl
either false false c = refl

module _ {X : Type 0} (xs : List X) (n m : ℕ) (order : n ≤ m) where
  abbrev middle : List X
  middle = take (m - n) (drop n xs)

  front : take m xs ≡ take n xs ++ middle
  front = let sum : m ≡ n + (m - n) = omega (arith, order) in ap (λ k. take k xs) sum ∙ take-add n (m - n) xs

  rest : drop n xs ≡ middle ++ drop (m - n) (drop n xs)
  rest = sym (take-append-drop (m - n) (drop n xs))

  whole : xs ≡ take n xs ++ (middle ++ drop (m - n) (drop n xs))
  whole = sym (take-append-drop n xs) ∙ ap (λ ys. take n xs ++ ys) rest

  pub all-overlap : (p : X → Bool) → (list_all p (take m xs) && list_all p (drop n xs)) ≡ list_all p xs
  all-overlap p =
      let end = drop (m - n) (drop n xs) in
      ap (λ ys. list_all p ys && list_all p (drop n xs)) front
      ∙ ap (λ ys. list_all p (take n xs ++ middle) && list_all p ys) rest
      ∙ ap (λ b. b && list_all p (middle ++ end)) (list_all-append p (take n xs) middle)
      ∙ ap (λ b. (list_all p (take n xs) && list_all p middle) && b) (list_all-append p middle end)
      ∙ both (list_all p (take n xs)) (list_all p middle) (list_all p end)
      ∙ ap (λ b. list_all p (take n xs) && b) (sym (list_all-append p middle end))
      ∙ sym (list_all-append p (take n xs) (middle ++ end))
      ∙ ap (list_all p) (sym whole)

  pub any-overlap : (p : X → Bool) → (list_any p (take m xs) || list_any p (drop n xs)) ≡ list_any p xs
  any-overlap p =
      let end = drop (m - n) (drop n xs) in
      ap (λ ys. list_any p ys || list_any p (drop n xs)) front
      ∙ ap (λ ys. list_any p (take n xs ++ middle) || list_any p ys) rest
      ∙ ap (λ b. b || list_any p (middle ++ end)) (list_any-append p (take n xs) middle)
      ∙ ap (λ b. (list_any p (take n xs) || list_any p middle) || b) (list_any-append p middle end)
      ∙ either (list_any p (take n xs)) (list_any p middle) (list_any p end)
      ∙ ap (λ b. list_any p (take n xs) || b) (sym (list_any-append p middle end))
      ∙ sym (list_any-append p (take n xs) (middle ++ end))
      ∙ ap (list_any p) (sym whole)

  -- a list whose front is mapped starts with a shorter mapped front
  pub map-front : {Y : Type 0} (f : X → Y) (old : List Y) → length (map f (take n xs)) ≡ n → take n (map f (take m xs) ++ old) ≡ map f (take n xs)
  map-front f old size =
      ap (λ ys. take n (map f ys ++ old)) front
      ∙ ap (λ ys. take n (ys ++ old)) (map-append f (take n xs) middle)
      ∙ ap (take n) (append_assoc (map f (take n xs)) (map f middle) old)
      ∙ ap (λ k. take k (map f (take n xs) ++ (map f middle ++ old))) (sym size)
      ∙ take-append_seam (map f (take n xs)) (map f middle ++ old)

-- if a list has the mapped items of another list before index `at`, writing the other mapped items at `at`
-- completes the mapped list
pub map-rest : {X Y : Type 0} (f : X → Y) (at k : ℕ) (xs : List X) (old ys : List Y) → length old ≡ length xs → at ≤ length xs → k ≡ length old - at
    → take at old ≡ map f (take at xs) → ys ≡ map f (drop at xs) → put_mid at k old ys ≡ map f xs
map-rest {Y = Y} f at k xs old ys same within rest front back =
    let new : List Y = put_mid at k old ys in
    let size : length ys ≡ k = ap length back ∙ length-map (drop at xs) f ∙ omega (arith, length-drop at xs) in
    let n : ℕ = at + k in
    let none : drop n new ≡ drop n old = drop-put_mid at k old ys n (omega arith) (omega arith) size in
    sym (take-append-drop n new)
    ∙ ap (λ (zs : List Y). take n new ++ zs) (none ∙ drop_all n old (omega arith)) ∙ append-nil (take n new)
    ∙ take-put_mid at k old ys n (omega (arith, size)) (omega arith)
    ∙ ap (λ (zs : List Y). zs ++ ys) front ∙ ap (λ (zs : List Y). map f (take at xs) ++ zs) back
    ∙ sym (map-append f (take at xs) (drop at xs)) ∙ ap (map f) (take-append-drop at xs)
