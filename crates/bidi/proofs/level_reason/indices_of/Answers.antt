use Rattle.std.proofs.Common.{◌∙◌, ◌≡◌, None, replicate, rules}
use Rattle.std.proofs.lemmas.List.{with_items_is}
use Rattle.bidi.proofs.LevelReasonLemmas.{indices_filled}
use Rattle.bidi.proofs.level_reason.indices_of.Goals as goal

pub returns : goal.returns
returns c =
    let empty : c.in_ok-list.list.items ≡ replicate c.args.len None = c.in_ok-list.ensures.items_if_clones_equal (λ y clone. search rules) in
    with_items_is c.in_ok-list.list c.put_indices.new.list (c.put_indices.auto.list ∙ c.deref_mut.ensures.len)
    ∙ indices_filled c.args.items.now c.args.len c.put_indices.new.list (rw empty at (rw c.deref_mut.ensures.value at c.put_indices.ensures))
