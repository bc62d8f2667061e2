use Rattle.std.proofs.Common.{◌≡◌, ◌++◌, length, take, drop, ap, ◌∙◌, refl, arith}
use Rattle.std.proofs.lemmas.List.{append-nil, take_all, drop_all}
use Rattle.ucd.proofs.Ranges.{adds_push, apart_push, named_push}
use Rattle.ucd.proofs.range_table.RangeTable.insert.Goals as goal

pub invariant_of-self : goal.invariant_of-self
invariant_of-self g c =
    let before = c.self.invariant in
    let new = c.name_all.new.named in
    let len : length new ≡ length c.self.inside.named.items = c.name_all.auto.named ∙ ap length c.deref_mut.ensures.value in
    let is : take c.self.inside.named.len (new ++ drop (length new) c.self.inside.named.items) ≡ new =
    rw (drop_all (length new) c.self.inside.named.items (omega arith), append-nil new)
    (take_all c.self.inside.named.len new
    (omega (arith, len, c.deref_mut.ensures.len, ap length c.deref_mut.ensures.value))) in
    rw (c.in-Ok.ensures.items, is) (
      apart_push _ _ c.args.entry before.0 before.1 (omega arith) (omega arith) (rw (← c.self.view_is) at c.requires.free),
      named_push _ _ c.args.entry before.0 before.1 (omega arith) (omega arith) (rw (← c.self.view_is) at c.requires.free) new len (λ k. c.name_all.ensures k ∙ rw c.deref_mut.ensures.value refl),
    )

pub returns-in-Ok-clause-ok : goal.returns-in-Ok-clause-ok
returns-in-Ok-clause-ok g c =
    let before = c.self.invariant in
    rw (c.in-Ok.ensures.items, ← c.self.view_is) (adds_push _ _ c.args.entry before.0 before.1 (omega arith) (omega arith) (rw (← c.self.view_is) at c.requires.free))
