use Rattle.std.proofs.Common.{◌≡◌, ◌-◌, ◌*◌, get_or, sym, ◌∙◌, ap, inl, inr, arith}
use Rattle.std.proofs.lemmas.Bool.{cases_lt}
use Rattle.ucd.proofs.PageLemmas.{same_block}
use Rattle.ucd.proofs.pages.blocks_have_separator.Goals as goal

pub loop-place-preserved-then-index-place : goal.loop-place-preserved-then-index-place
loop-place-preserved-then-index-place c =
    let index = c.args.index.now in
    let place = c.loop-place.place in
    let same : get_or index place 0 ≡ get_or index (place - 1) 0 = c.if-index-place.true in (
      λ none x from to separates. elim (cases_lt x (place * 256)) [
        | inl below ↦ c.loop-place.invariant.0 none x from below separates
        | inr here ↦ c.loop-place.invariant.0 none (x - 256) (omega (arith, here)) (omega (arith, here, to))
            (sym (ap (λ a. a.bidi_class) (same_block index c.args.entries.now place x (omega arith) same (omega (arith, here, to)))) ∙ separates)
      ],
      λ some all. c.loop-place.invariant.1 some (λ x from to. all x from (omega (arith, to))),
    )
