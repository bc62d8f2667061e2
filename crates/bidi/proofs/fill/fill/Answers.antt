use Rattle.std.proofs.Common.{◌≡◌, ℕ, ◌<◌, ◌+◌, ◌-◌, List, ◌∷◌, [], ◌++◌, suc, length, set, take, replicate, ap, ◌∙◌, arith, append_assoc}
use Rattle.std.proofs.lemmas.List.{take_more_set}
use Rattle.bidi.proofs.fill.fill.Goals as goal

-- writing the first item and then the others fills the whole range
with_first : {T : Type 0} (old : List T) (start end : ℕ) (value : T) → start < end → start < length old
    → take (start + 1) (set old start value) ++ replicate (end - (start + 1)) value ≡ take start old ++ replicate (end - start) value
with_first old start end value some within =
    let more : suc (end - (start + 1)) ≡ end - start = omega arith in
    ap (λ xs. xs ++ replicate (end - (start + 1)) value) (take_more_set old start value within)
    ∙ append_assoc (take start old) (value ∷ []) (replicate (end - (start + 1)) value)
    ∙ ap (λ n. take start old ++ replicate n value) more

pub returns-then-start-end-clause-front : goal.returns-then-start-end-clause-front
returns-then-start-end-clause-front g c =
    c.fill_more.ensures.front ∙ with_first c.args.items.now c.args.start c.args.end c.args.value (omega arith) (omega arith)
