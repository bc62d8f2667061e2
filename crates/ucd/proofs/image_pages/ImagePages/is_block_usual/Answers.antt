use Rattle.std.proofs.Common.{◌≡◌, true, rules, inl, inr, arith}
use Rattle.std.proofs.lemmas.Bool.{cases_lt}
use Rattle.ucd.proofs.image_pages.ImagePages.is_block_usual.Goals as goal

pub loop-c-preserved : goal.loop-c-preserved
loop-c-preserved c = λ x from lt. elim (cases_lt x c.loop-c.c) [
  | inl below ↦ c.loop-c.invariant x from below
  | inr ge ↦
      let here : x ≡ c.loop-c.c = omega arith in
      let is : c.is_usual.result ≡ true = search rules in
      rw (here, ← c.at.ensures) (c.is_usual.ensures.yes is)
]
