use Rattle.std.proofs.Common.{arith}
use Rattle.bench.specs.declared.stores.Small.{Small}
use Rattle.bench.proofs.StoreLemmas.{sum_of_splice}
use Rattle.bench.proofs.stores.replace.Goals as goal

pub replace-requires-clause-chars_fit : goal.replace-requires-clause-chars_fit
replace-requires-clause-chars_fit g c =
    omega (
      arith,
      sum_of_splice (λ (item : Small). item.has_text) (g.S.ParagraphStore.items c.args.store.now)
          c.args.range.start c.args.range.end c.args.new_items.items c.if-range.false,
      c.args.new_items.ok.0,
    )

pub replace-requires-clause-lines_fit : goal.replace-requires-clause-lines_fit
replace-requires-clause-lines_fit g c =
    omega (
      arith,
      sum_of_splice (λ (item : Small). item.has_text) (g.S.ParagraphStore.items c.args.store.now)
          c.args.range.start c.args.range.end c.args.new_items.items c.if-range.false,
      c.args.new_items.ok.0,
    )

pub replace-requires-clause-bytes_fit : goal.replace-requires-clause-bytes_fit
replace-requires-clause-bytes_fit g c =
    omega (
      arith,
      sum_of_splice (λ (item : Small). item.has_text) (g.S.ParagraphStore.items c.args.store.now)
          c.args.range.start c.args.range.end c.args.new_items.items c.if-range.false,
      c.args.new_items.ok.0,
    )

pub replace-requires-clause-utf16_fit : goal.replace-requires-clause-utf16_fit
replace-requires-clause-utf16_fit g c =
    omega (
      arith,
      sum_of_splice (λ (item : Small). item.has_text) (g.S.ParagraphStore.items c.args.store.now)
          c.args.range.start c.args.range.end c.args.new_items.items c.if-range.false,
      c.args.new_items.ok.0,
    )
