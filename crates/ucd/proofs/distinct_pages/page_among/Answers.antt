use Rattle.std.proofs.Common.{◌≡◌, ◌+◌, ◌-◌, ◌/◌, length, false, rules, inl, inr, arith}
use Rattle.std.proofs.lemmas.Bool.{cases_lt}
use Rattle.ucd.proofs.distinct_pages.page_among.Goals as goal

pub loop-back-preserved : goal.loop-back-preserved
loop-back-preserved c =
    let isnt : c.is_page.result ≡ false = search rules in
    let count = length c.args.entries.now / 256 in
    λ p from below. elim (cases_lt (p + c.loop-back.back) count) [
      | inl before ↦ (let here : p ≡ count - 1 - c.loop-back.back = omega arith in rw here (c.is_page.ensures.no isnt))
      | inr after ↦ c.loop-back.invariant p after below
    ]
