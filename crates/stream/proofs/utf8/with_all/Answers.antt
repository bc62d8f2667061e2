use Rattle.std.proofs.Common.{◌≡◌, ◌∙◌, ◌==◌, ℕ, true, length, sym, arith}
use Rattle.std.proofs.lemmas.Bool.Decides.{nat_tests}
use Rattle.stream.proofs.MoveLemmas.{moved_all}
use Rattle.stream.proofs.utf8.with_all.Goals as goal

nothing : (n : ℕ) → (n == 0) ≡ true → n ≡ 0
nothing n is = grind (arith, nat_tests)

pub returns-clause-items : goal.returns-clause-items
returns-clause-items c =
    moved_all c.args.characters.items c.args.text.now c.loop-rest-2.list.items c.loop-rest-2.rest.now c.loop-rest-2.invariant.moved
    (nothing (length c.loop-rest-2.rest.now) (sym c.is_empty.ensures ∙ c.loop-rest-2-test.false))
