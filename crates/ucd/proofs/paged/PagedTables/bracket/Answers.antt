use Rattle.std.proofs.Common.{◌≡◌, ◌∙◌, ap, sym, None, arith}
use Rattle.std.specs.BTreeMap.{get}
use Rattle.std.specs.Ordering.{nat_cmp}
use Rattle.ucd.proofs.PagedLemmas.{bracket_is, none_there}
use Rattle.ucd.proofs.paged.PagedTables.bracket.Goals as goal

pub returns-then-has_bracket : goal.returns-then-has_bracket
returns-then-has_bracket c =
    rw (← c.self.view_is) (c.copied.ensures ∙ c.get-then-has_bracket.ensures.value
    ∙ ap (get nat_cmp c.self.inside.brackets) c.from.ensures
    ∙ sym (bracket_is c.self.inside.version c.self.inside.pages.index.items c.self.inside.pages.entries.items c.self.inside.brackets
    c.self.inside.mirrors c.args.c (omega (arith, c.ranges.c))))

pub returns-else-has_bracket : goal.returns-else-has_bracket
returns-else-has_bracket c =
    let none : get nat_cmp c.self.inside.brackets c.args.c ≡ None =
    none_there _ (sym (c.self.invariant.bracket c.args.c (omega (arith, c.ranges.c))) ∙ ap (λ a. a.has_bracket) (sym c.get.ensures) ∙ sym c.has_bracket.ensures ∙ c.if-has_bracket.false) in
    rw (← c.self.view_is) (sym (bracket_is c.self.inside.version c.self.inside.pages.index.items c.self.inside.pages.entries.items c.self.inside.brackets c.self.inside.mirrors c.args.c (omega (arith, c.ranges.c)) ∙ none))
