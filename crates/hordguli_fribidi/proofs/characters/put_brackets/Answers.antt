use Rattle.std.proofs.Common.{ℕ, ◌++◌, ◌∷◌, [], ap, get_or, map, sym, ◌∙◌, arith}
use Rattle.std.specs.List.{range_with_len}
use Rattle.std.proofs.lemmas.List.{take_more_set}
use Rattle.std.proofs.lemmas.List.FromFn.{map-range_with_len_more}
use Rattle.hordguli_fribidi.specs.Points.{bracket_at}
use Rattle.hordguli_fribidi.proofs.characters.put_brackets.Goals as goal

pub loop-at-preserved : goal.loop-at-preserved
loop-at-preserved c =
    let k = c.loop-at.at in
    let f : ℕ → ℕ = λ i. bracket_at c.args.index.now c.args.pages.now c.args.numbers.now (get_or c.args.characters.now i 0) (get_or c.args.types.now i 0) in
    take_more_set c.loop-at.brackets k c.bracket_at.result (omega (arith, c.requires.brackets))
    ∙ ap (λ xs. xs ++ c.bracket_at.result ∷ []) c.loop-at.invariant
    ∙ ap (λ x. map f (range_with_len 0 k) ++ x ∷ []) c.bracket_at.ensures
    ∙ sym (map-range_with_len_more f 0 k k (omega arith))
