use Rattle.std.proofs.Common.{◌≡◌, ℕ, ◌-◌, ◌<◌, List, take, drop, length, refl, ap, ◌∙◌, arith}
use Rattle.std.proofs.lemmas.List.{take_rest}
use Rattle.joining.specs.declared.joiner.Joiner.{Joiner}
use Rattle.hordguli_fribidi.specs.Joining.{joined_at, joiners, sides_over}
use Rattle.hordguli_fribidi.proofs.InPlaceLemmas.{first_unwritten, more_written, none_written}
use Rattle.hordguli_fribidi.proofs.JoinerLemmas.{drop_joiners, first_joined, sides_more}
use Rattle.hordguli_fribidi.proofs.joins.put_joins.Goals as goal

pub loop-k-init : goal.loop-k-init
unfolding sides_over
loop-k-init c = record { before = refl; written = none_written _ _ }

-- the characters from k on are those of the slices from k on
from_k : (k : ℕ) (types levels old new : List ℕ) → drop k new ≡ drop k old
    → joiners (take (length types - k) (drop k types)) (take (length levels - k) (drop k levels)) (take (length new - k) (drop k new))
    ≡ drop k (joiners types levels old)
from_k k types levels old new rest =
    ap (λ ts. joiners ts (take (length levels - k) (drop k levels)) (take (length new - k) (drop k new))) (take_rest types k)
    ∙ ap (λ ls. joiners (drop k types) ls (take (length new - k) (drop k new))) (take_rest levels k)
    ∙ ap (joiners (drop k types) (drop k levels)) (take_rest new k ∙ rest) ∙ drop_joiners k types levels old

pub loop-k-preserved : goal.loop-k-preserved
loop-k-preserved c =
    let k : ℕ = c.loop-k.k in
    let old : List ℕ = c.args.properties.now in
    let new : List ℕ = c.loop-k.properties in
    let text : List Joiner = joiners c.args.types.now c.args.levels.now old in
    let back = from_k k c.args.types.now c.args.levels.now old new c.loop-k.invariant.written.rest in
    let within : k < length new = omega (arith, c.loop-k-test.true, c.loop-k.invariant.written.len) in
    record {
      before = c.join_first-property.ensures.after ∙ sides_more text _ k c.loop-k.before back c.loop-k.invariant.before;
      written = more_written (joined_at text old) old new k _ c.loop-k.invariant.written within
          (c.join_first-property.ensures.property
          ∙ first_joined text _ k c.loop-k.before back c.loop-k.invariant.before old _ (first_unwritten (joined_at text old) old new k c.loop-k.invariant.written));
    }
