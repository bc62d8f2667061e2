use Rattle.std.proofs.Common.{◌≡◌, ℕ, ◌+◌, ◌-◌, ◌<◌, ◌≤◌, List, [], ◌∷◌, ◌++◌, length, get_or, map, set, take, drop, refl, sym, ap, ◌∙◌, arith}
use Rattle.std.proofs.lemmas.List.{append-nil, drop_all, length-drop, length-map, length-set, map-append, take-append-drop, take_more, take_more_set, take_rest}
use Rattle.std.proofs.lemmas.Slice.{drop-put_mid, take-put_mid}
use borrow.Rule.Slice.PartMut.{put_mid}
use Rattle.hordguli_fribidi.specs.Points.{type_at}
use Rattle.hordguli_fribidi.proofs.characters.put_types.Goals as goal

-- if an array has the mapped items of a list before index `at`, writing the other mapped items at `at`
-- completes the mapped list
whole : (f : ℕ → ℕ) (at k : ℕ) (xs old ys : List ℕ) → length old ≡ length xs → at ≤ length xs → k ≡ length old - at → take at old ≡ map f (take at xs)
    → ys ≡ map f (drop at xs) → put_mid at k old ys ≡ map f xs
whole f at k xs old ys same within rest front back =
    let new : List ℕ = put_mid at k old ys in
    let size : length ys ≡ k = ap length back ∙ length-map (drop at xs) f ∙ omega (arith, length-drop at xs) in
    let n : ℕ = at + k in
    let none : drop n new ≡ drop n old = drop-put_mid at k old ys n (omega arith) (omega arith) size in
    sym (take-append-drop n new)
    ∙ ap (λ (zs : List ℕ). take n new ++ zs) (none ∙ drop_all n old (omega arith)) ∙ append-nil (take n new)
    ∙ take-put_mid at k old ys n (omega (arith, size)) (omega arith)
    ∙ ap (λ (zs : List ℕ). zs ++ ys) front ∙ ap (λ (zs : List ℕ). map f (take at xs) ++ zs) back
    ∙ sym (map-append f (take at xs) (drop at xs)) ∙ ap (map f) (take-append-drop at xs)

-- if an array has the mapped items of a list before index `at`, writing the next mapped item at `at` extends
-- this prefix
one_more : (f : ℕ → ℕ) (at next : ℕ) (xs old : List ℕ) (x : ℕ) → take at old ≡ map f (take at xs) → at < length xs → length old ≡ length xs
    → x ≡ f (get_or xs at 0) → next ≡ at + 1 → (take next (set old at x) ≡ map f (take next xs)) × (length (set old at x) ≡ length xs)
one_more f at next xs old x front within same is past = (
  ap (λ n. take n (set old at x)) past ∙ take_more_set old at x (omega arith)
      ∙ ap (λ (zs : List ℕ). zs ++ x ∷ []) front ∙ ap (λ y. map f (take at xs) ++ y ∷ []) is
      ∙ sym (map-append f (take at xs) (get_or xs at 0 ∷ [])) ∙ ap (map f) (sym (take_more xs at 0 within)) ∙ ap (λ n. map f (take n xs)) (sym past),
  length-set old at x ∙ same,
)

pub loop-at-preserved : goal.loop-at-preserved
loop-at-preserved c =
    let f : ℕ → ℕ = type_at c.args.index.now c.args.pages.now in
    let at : ℕ = c.loop-at.at in
    let xs = c.args.characters.now in
    let room : at + 4 ≤ length xs = omega (arith, c.loop-at-test.true) in
    let one = one_more f at (at + 1) xs c.loop-at.types _ c.loop-at.invariant.done (omega arith) (omega (arith, c.loop-at.auto.types, c.requires)) c.type_on_page.ensures refl in
    let two = one_more f (at + 1) (at + 2) xs _ _ one.0 (omega arith) one.1 c.type_on_page-in-loop-at.ensures (omega arith) in
    let three = one_more f (at + 2) (at + 3) xs _ _ two.0 (omega arith) two.1 c.type_on_page-in-loop-at-2.ensures (omega arith) in
    let four = one_more f (at + 3) (at + 4) xs _ _ three.0 (omega arith) three.1 c.type_on_page-in-loop-at-3.ensures (omega arith) in
    record { within = room; done = four.0 }

pub returns : goal.returns
returns c =
    let f : ℕ → ℕ = type_at c.args.index.now c.args.pages.now in
    whole f _ _ c.args.characters.now c.loop-at.types _ (omega (arith, c.loop-at.auto.types, c.requires)) c.loop-at.invariant.within refl c.loop-at.invariant.done
    (c.put_each_type.ensures ∙ ap (map f) (take_rest c.args.characters.now c.loop-at.at))
