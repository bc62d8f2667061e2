use Rattle.std.proofs.Common.{◌≡◌, ◌+◌, ◌^◌, ◌<◌, ℕ, length, sum_by, refl, arith}
use Rattle.std.proofs.lemmas.Grind.{common_steps}
use Rattle.tests.specs.declared.stores.Item.{Item}
use Rattle.tests.proofs.StoreLemmas.{all_fit, sum_of_parts}
use Rattle.tests.proofs.stores.exchange_all.Goals as goal

pub exchange_all_by-requires-clause-fit : goal.exchange_all_by-requires-clause-fit
exchange_all_by-requires-clause-fit g c =
    let more = c.args.by.now.more in
    let sum_fits : sum_by (λ (n : ℕ). n + more) c.args.parts.now.items < 2 ^ 64 = grind (arith, common_steps) in
    let as_many : length c.args.parts.now.items ≡ length (g.S.ParagraphStore.items c.args.store.now) = grind (arith, common_steps) in
    all_fit more (2 ^ 64) (g.S.ParagraphStore.items c.args.store.now) c.args.parts.now.items as_many sum_fits

pub exchange_all_by-requires-clause-lines_fit : goal.exchange_all_by-requires-clause-lines_fit
exchange_all_by-requires-clause-lines_fit g c =
    let more = c.args.by.now.more in
    let sum_fits : sum_by (λ (n : ℕ). n + more) c.args.parts.now.items < 2 ^ 64 = grind (arith, common_steps) in
    omega (
      arith,
      sum_fits,
      sum_of_parts (λ (item : Item). item.lines) more
          (λ item n. record item { lines = n + more }) (λ _ _. refl) (g.S.ParagraphStore.items c.args.store.now)
          c.args.parts.now.items,
    )
