use Rattle.std.proofs.Common.{ap, get_or, length, map-id, sym, take, ◌≡◌, ◌<◌, ◌∙◌, ◌++◌, ◌∷◌, [], List, ℕ, arith}
use Rattle.std.specs.Str.{chars}
use Rattle.std.proofs.Math.Seq.{take-length}
use Rattle.std.proofs.lemmas.Iterator.{YieldsList-from_chars}
use Rattle.std.proofs.lemmas.Iterator.Consumers.{YieldsList-end, YieldsList-turn}
use Rattle.std.proofs.lemmas.List.{length-append, take_more_set}
use Rattle.hordguli_c.proofs.text_calls.put_each_decoded.Goals as goal

turn : (c : goal.After-from) → (length c.loop-c.yielded < length (chars c.args.text.now))
    × (c.in-Some.c ≡ get_or (chars c.args.text.now) (length c.loop-c.yielded) c.in-Some.c)
turn c =
    YieldsList-turn (YieldsList-from_chars c.args.text.now c.utf8.text cc) c.loop-c.yielded _ c.loop-c.yielded_by _ _ c.in-Some.c c.in-Some.is c.next.ensures.steps

within : (c : goal.After-from) → c.loop-c.k < length c.loop-c.array
within c = omega (arith, (turn c).0, c.loop-c.invariant.0, c.loop-c.auto.array, c.requires)

pub bounds-array-k : goal.bounds-array-k
bounds-array-k c = within c

pub loop-c-preserved : goal.loop-c-preserved
loop-c-preserved c = (
  omega (arith, c.loop-c.invariant.0, length-append c.loop-c.yielded (c.in-Some.c ∷ [])),
  take_more_set c.loop-c.array c.loop-c.k c.from.result (within c)
      ∙ ap (λ (t : List ℕ). t ++ c.from.result ∷ []) c.loop-c.invariant.1
      ∙ ap (λ (x : ℕ). c.loop-c.yielded ++ x ∷ []) c.from.ensures,
)

pub returns : goal.returns
returns c =
    let last = YieldsList-end (YieldsList-from_chars c.args.text.now c.utf8.text cc) c.loop-c.yielded _ c.loop-c.yielded_by _ _ c.in-None.is c.next.ensures.steps in
    let n : length c.loop-c.array ≡ c.loop-c.k = omega (arith, c.loop-c.invariant.0, c.loop-c.auto.array, c.requires, last.1) in
    sym (take-length c.loop-c.array) ∙ ap (λ (i : ℕ). take i c.loop-c.array) n ∙ c.loop-c.invariant.1 ∙ sym (map-id c.loop-c.yielded) ∙ last.0
