use Rattle.std.proofs.Common.{◌≡◌, ◌+◌, ◌^◌, ◌<◌, ℕ, length, sum_by, refl, arith}
use Rattle.std.proofs.lemmas.Grind.{common_steps}
use Rattle.no_allocation.specs.declared.stores.Item.{Item}
use Rattle.no_allocation.proofs.StoreLemmas.{all_fit, sum_of_parts}
use Rattle.no_allocation.proofs.stores.exchange.Goals as goal

pub exchange_all-requires-clause-fit : goal.exchange_all-requires-clause-fit
exchange_all-requires-clause-fit g c =
    let as_many : length c.args.parts.now.items ≡ length (g.S.ParagraphStore.items c.args.store.now) = grind (arith, common_steps) in
    all_fit (g.S.ParagraphStore.items c.args.store.now) c.args.parts.now.items as_many

pub exchange_all-requires-clause-lines_fit : goal.exchange_all-requires-clause-lines_fit
exchange_all-requires-clause-lines_fit g c =
    let sum_fits : sum_by (λ (n : ℕ). n) c.args.parts.now.items < 2 ^ 64 = grind (arith, common_steps) in
    omega (
      arith,
      sum_fits,
      sum_of_parts (λ (item : Item). item.lines) (λ item n. record item { lines = n }) (λ _ _. refl) (g.S.ParagraphStore.items c.args.store.now) c.args.parts.now.items,
    )
