use Rattle.std.proofs.Common.{◌≡◌, get_or, below_more, ap, sym, ◌∙◌, arith}
use Rattle.std.proofs.lemmas.Bool.{and_from, and_parts}
use Rattle.std.proofs.lemmas.List.{ext_get_or, get_or_default}
use Rattle.ucd.specs.Answers.{unnamed}
use Rattle.ucd.proofs.pages.are_equal.Goals as goal

pub loop-k-preserved : goal.loop-k-preserved
loop-k-preserved c =
    let one : get_or c.args.one.now c.loop-k.k unnamed ≡ c.index-one-k.result =
    get_or_default c.args.one.now c.loop-k.k unnamed c.index-one-k.result c.loop-k-test.true ∙ sym c.index-one-k.is in
    let other : c.index-other-k.result ≡ get_or c.args.other.now c.loop-k.k unnamed =
    c.index-other-k.is ∙ get_or_default c.args.other.now c.loop-k.k c.index-other-k.result unnamed (omega arith) in (
      (λ both.
          let so_far = and_parts _ _ both in
          below_more _ _ (c.loop-k.invariant.0 so_far.0) (one ∙ c.is-equal.ensures.same so_far.1 ∙ other)),
      (λ are. and_from _ _ (c.loop-k.invariant.1 are) (c.is-equal.ensures.all (sym one ∙ ap (λ l. get_or l c.loop-k.k unnamed) are ∙ sym other))),
    )

pub returns-clause-same : goal.returns-clause-same
returns-clause-same c equal = ext_get_or unnamed c.args.one.now c.args.other.now c.requires (λ j lt. c.loop-k.invariant.0 equal j (omega (arith, c.loop-k-test.false)))
