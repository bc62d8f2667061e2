use Rattle.std.proofs.Common.{◌≡◌, ◌<◌, ◌++◌, ◌∷◌, [], ℕ, length, get_or, map, take, refl, sym, ap, ◌∙◌, arith}
use Rattle.std.proofs.lemmas.List.{get_or_default, map-append, take_more, take_more_set}
use Rattle.reorder.proofs.InverseLemmas.{permuted_places, Placed-start, Placed-next, Placed-inverse, Placed-positions}
use Rattle.reorder.proofs.mirror.copy_places.Goals as goal

pub loop-at-init : goal.loop-at-init
loop-at-init c =
    let p = permuted_places _ _ c.requires.places in
    record { placed = Placed-start c.args.vtol.now c.args.ltov.now (c.requires.ltov ∙ sym p.sizes); copied = refl }

pub bounds-ltov-place : goal.bounds-ltov-place
bounds-ltov-place c =
    let p = permuted_places _ _ c.requires.places in
    omega (arith, p.sizes, p.within c.loop-at.at (omega (arith, p.sizes, c.loop-at-test.true)), c.loop-at.invariant.placed.sizes)

pub bounds-line-place : goal.bounds-line-place
bounds-line-place c =
    let p = permuted_places _ _ c.requires.places in
    omega (arith, p.within c.loop-at.at (omega (arith, p.sizes, c.loop-at-test.true)))

pub loop-at-preserved : goal.loop-at-preserved
loop-at-preserved c =
    let p = permuted_places _ _ c.requires.places in
    let line = c.args.line.now in
    let vtol = c.args.vtol.now in
    let at = c.loop-at.at in
    let copied = λ (i : ℕ). get_or line i 0 in
    let place = get_or vtol at 0 in
    let inside : place < length line = omega (arith, p.within at (omega (arith, p.sizes, c.loop-at-test.true))) in
    let character : c.index-line-place.result ≡ copied place = c.index-line-place.is ∙ get_or_default line place c.index-line-place.result 0 inside in
    record {
      placed = Placed-next _ vtol c.loop-at.ltov at p c.loop-at.invariant.placed c.loop-at-test.true;
      copied = take_more_set c.loop-at.chars at c.index-line-place.result (omega (arith, p.sizes, c.loop-at-test.true))
          ∙ ap (λ xs. xs ++ c.index-line-place.result ∷ []) c.loop-at.invariant.copied
          ∙ ap (λ (x : ℕ). map copied (take at vtol) ++ x ∷ []) character
          ∙ sym (ap (map copied) (take_more vtol at 0 c.loop-at-test.true) ∙ map-append copied (take at vtol) (get_or vtol at 0 ∷ []));
    }

pub returns-clause-ltov : goal.returns-clause-ltov
returns-clause-ltov c =
    let p = permuted_places _ _ c.requires.places in
    Placed-positions _ _ _ c.loop-at.at p c.loop-at.invariant.placed (omega (arith, p.sizes, c.loop-at-test.false))

pub returns-clause-inverse : goal.returns-clause-inverse
returns-clause-inverse c =
    let p = permuted_places _ _ c.requires.places in
    Placed-inverse _ _ _ c.loop-at.at p c.loop-at.invariant.placed (omega (arith, p.sizes, c.loop-at-test.false))
