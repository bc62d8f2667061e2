use Rattle.std.proofs.Common.{◌≡◌, ℕ, ◌+◌, ◌-◌, ◌<◌, ◌≤◌, List, [], ◌∷◌, ◌++◌, length, take, drop, set, replicate, sym, ap, ◌∙◌, arith, append_assoc}
use Rattle.std.proofs.lemmas.List.{drop-drop, drop-set-lt, replicate_more, take_more_set}
use Rattle.bidi.proofs.fill.fill_more.Goals as goal

-- filling one more item extends the filled range
front_more : {T : Type 0} (old items : List T) (start at : ℕ) (value : T) → start ≤ at → at < length items → take at items ≡ take start old ++ replicate (at - start) value
    → take (at + 1) (set items at value) ≡ take start old ++ replicate (at + 1 - start) value
front_more old items start at value order within front =
    let more : (at - start) + 1 ≡ at + 1 - start = omega arith in
    take_more_set items at value within ∙ ap (λ xs. xs ++ value ∷ []) front
    ∙ append_assoc (take start old) (replicate (at - start) value) (value ∷ [])
    ∙ ap (λ xs. take start old ++ xs) (replicate_more (at - start) value)
    ∙ ap (λ n. take start old ++ replicate n value) more

rest_more : {T : Type 0} (old items : List T) (at : ℕ) (value : T) → drop at items ≡ drop at old → drop (at + 1) (set items at value) ≡ drop (at + 1) old
rest_more old items at value rest =
    drop-set-lt (at + 1) items at value (omega arith) ∙ sym (drop-drop 1 at items) ∙ ap (drop 1) rest ∙ drop-drop 1 at old

pub loop-at-preserved : goal.loop-at-preserved
loop-at-preserved g c = record {
  front = front_more c.args.items.now c.loop-at.items c.args.start c.loop-at.at c.args.value (omega arith) (omega arith) c.loop-at.invariant.front;
  rest = rest_more c.args.items.now c.loop-at.items c.loop-at.at c.args.value c.loop-at.invariant.rest;
}
