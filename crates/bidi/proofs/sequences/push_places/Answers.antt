use Rattle.std.proofs.Common.{◌≡◌, ℕ, ◌+◌, ◌-◌, ◌≤◌, List, [], ◌∷◌, ◌++◌, sym, ap, ◌∙◌, arith}
use Rattle.std.specs.List.{range_with_len}
use Rattle.std.proofs.lemmas.List.{append_assoc}
use Rattle.bidi.proofs.RunLemmas.{range-append}
use Rattle.bidi.proofs.sequences.push_places.Goals as goal

-- pushing one more index extends the range
more : (xs : List ℕ) (start place : ℕ) → start ≤ place → (xs ++ range_with_len start (place - start)) ++ place ∷ [] ≡ xs ++ range_with_len start (place + 1 - start)
more xs start place order =
    let size : place + 1 - start ≡ place - start + 1 = omega arith in
    let last : start + (place - start) ≡ place = omega arith in
    append_assoc xs (range_with_len start (place - start)) (place ∷ [])
    ∙ ap (λ n. xs ++ (range_with_len start (place - start) ++ n ∷ [])) (sym last)
    ∙ ap (λ ys. xs ++ ys) (sym (range-append start (place - start) 1)) ∙ ap (λ n. xs ++ range_with_len start n) (sym size)

pub loop-place-preserved : goal.loop-place-preserved
loop-place-preserved c =
    c.in_ok-push.ensures.items ∙ ap (λ items. items ++ c.loop-place.place ∷ []) c.loop-place.invariant
    ∙ more c.args.places.now.items c.args.start c.loop-place.place (omega arith)
