use Rattle.std.proofs.Common.{◌≡◌, ◌∙◌, ◌++◌, [], ◌∷◌, length, take, sym, ap, arith}
use Rattle.stream.specs.Short.{short_char}
use Rattle.stream.proofs.ShortLemmas.{counted, first_chars, pairs_le, spell, written}
use Rattle.stream.proofs.short.write_four.Goals as goal
use lib.Count.{ones}

pub returns-clause-items : goal.returns-clause-items
returns-clause-items c =
    let decoded = c.decoded.result in
    let long : length decoded ≡ 4 = c.decoded.ensures.len in
    let four : c.copy_from_slice.new.self ≡ decoded =
    c.copy_from_slice.ensures.after ∙ (λ i. c.valid.ensures i ∷ c.valid-2.ensures i ∷ c.valid-3.ensures i ∷ c.valid-4.ensures i ∷ []) ∙ sym (spell 4 decoded long) in
    written c.args.at (ones c.args.marks) c.args.out.now _ _ (omega (arith, c.requires.long)) (omega (arith, ap length four, long, counted c.args.bytes c.args.marks c.requires.marks c.fits-bytes.0, pairs_le 4 c.args.marks c.args.bytes))
    ∙ ap (λ t. take c.args.at c.args.out.now ++ take (ones c.args.marks) t) four
    ∙ ap (λ t. take c.args.at c.args.out.now ++ t) (first_chars short_char c.pairs.result decoded c.args.bytes c.args.marks c.requires.marks c.fits-bytes.0 c.pairs.ensures c.decoded.ensures.characters)

pub returns-clause-count : goal.returns-clause-count
returns-clause-count c = omega (arith, counted c.args.bytes c.args.marks c.requires.marks c.fits-bytes.0, pairs_le 4 c.args.marks c.args.bytes)
