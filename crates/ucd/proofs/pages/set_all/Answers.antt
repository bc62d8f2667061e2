use Rattle.std.proofs.Common.{◌≡◌, ℕ, ◌+◌, ◌<◌, ◌≤◌, nat_le, nat_lt, ◌&&◌, List, length, get_or, set, if◌then◌else◌, arith}
use Rattle.std.proofs.lemmas.Grind.{common_steps}
use Rattle.ucd.specs.Answers.{unnamed}
use Rattle.ucd.proofs.pages.set_all.Goals as goal

-- one more item in the range has been set
set_more : {X : Type 0} (xs old : List X) (first k : ℕ) (v d : X) → first ≤ k → k < length xs
    → ((i : ℕ) → get_or xs i d ≡ (if nat_le first i && nat_lt i k then v else get_or old i d)) → (i : ℕ)
    → get_or (set xs k v) i d ≡ (if nat_le first i && nat_lt i (k + 1) then v else get_or old i d)
set_more xs old first k v d from lt before i = grind (arith, common_steps, before i)

pub loop-i-preserved : goal.loop-i-preserved
loop-i-preserved c =
    set_more c.loop-i.page c.args.page.now c.args.first c.loop-i.i c.args.properties unnamed c.loop-i.auto.i (omega arith) c.loop-i.invariant
