use Rattle.std.proofs.Common.{◌≡◌, ◌∙◌, ap, sym, Some, None, arith}
use Rattle.std.specs.BTreeMap.{get}
use Rattle.std.specs.Ordering.{nat_cmp}
use Rattle.ucd.specs.Tables.{mirror_by}
use Rattle.ucd.proofs.PagedLemmas.{mirror_is, none_there}
use Rattle.ucd.proofs.paged.PagedTables.mirror.Goals as goal

pub returns-in-Some : goal.returns-in-Some
returns-in-Some c =
    let found : get nat_cmp c.self.inside.mirrors c.args.c ≡ Some c.in-Some.mirror =
    ap (get nat_cmp c.self.inside.mirrors) (sym c.from.ensures) ∙ sym c.get-then-has_mirror.ensures.value ∙ sym c.copied.ensures ∙ c.in-Some.is in
    rw (← c.self.view_is) (sym (mirror_is c.self.inside.version c.self.inside.pages.index.items c.self.inside.pages.entries.items
    c.self.inside.brackets c.self.inside.mirrors c.args.c (omega (arith, c.ranges.c)) ∙ ap mirror_by found))

pub returns-in-None : goal.returns-in-None
returns-in-None c =
    let none : get nat_cmp c.self.inside.mirrors c.args.c ≡ None =
    ap (get nat_cmp c.self.inside.mirrors) (sym c.from.ensures) ∙ sym c.get-then-has_mirror.ensures.value ∙ sym c.copied.ensures ∙ c.in-None.is in
    rw (← c.self.view_is) (sym (mirror_is c.self.inside.version c.self.inside.pages.index.items c.self.inside.pages.entries.items
    c.self.inside.brackets c.self.inside.mirrors c.args.c (omega (arith, c.ranges.c)) ∙ ap mirror_by none))

pub returns-else-has_mirror : goal.returns-else-has_mirror
returns-else-has_mirror c =
    let none : get nat_cmp c.self.inside.mirrors c.args.c ≡ None =
    none_there _ (sym (c.self.invariant.mirror c.args.c (omega (arith, c.ranges.c))) ∙ ap (λ a. a.has_mirror) (sym c.get.ensures) ∙ sym c.has_mirror.ensures ∙ c.if-has_mirror.false) in
    rw (← c.self.view_is) (sym (mirror_is c.self.inside.version c.self.inside.pages.index.items c.self.inside.pages.entries.items
    c.self.inside.brackets c.self.inside.mirrors c.args.c (omega (arith, c.ranges.c)) ∙ ap mirror_by none))
