use Rattle.std.proofs.Common.{◌≡◌, ◌+◌, ◌^◌, ◌<◌, ℕ, length, sum_by, arith}
use Rattle.std.proofs.lemmas.Grind.{common_steps}
use Rattle.tests.specs.declared.stores.Item.{Item}
use Rattle.tests.proofs.StoreLemmas.{all_small, sum_of_parts}
use Rattle.tests.proofs.stores.exchange_lines.Goals as goal

pub exchange_all-requires-clause-fit : goal.exchange_all-requires-clause-fit
exchange_all-requires-clause-fit g c =
    let sum_fits : sum_by (λ (n : ℕ). n + 0) c.args.parts.now.items < 2 ^ 64 = grind (arith, common_steps) in
    let as_many : length c.args.parts.now.items ≡ length (g.S.ParagraphStore.items c.args.store.now) = grind (arith, common_steps) in
    all_small (2 ^ 64) (g.S.ParagraphStore.items c.args.store.now) c.args.parts.now.items as_many sum_fits

pub exchange_all-requires-clause-lines_fit : goal.exchange_all-requires-clause-lines_fit
exchange_all-requires-clause-lines_fit g c =
    let sum_fits : sum_by (λ (n : ℕ). n + 0) c.args.parts.now.items < 2 ^ 64 = grind (arith, common_steps) in
    omega (
      arith,
      sum_fits,
      sum_of_parts (λ (item : Item). item.lines) 0
          (λ item n. record item { lines = n }) (λ _ _. omega arith) (g.S.ParagraphStore.items c.args.store.now)
          c.args.parts.now.items,
    )
