use Rattle.std.proofs.Common.{length, take, ap, ◌∙◌}
use Rattle.std.proofs.lemmas.List.{with_items_is}
use Rattle.bidi.proofs.resolver.fill_classes.Goals as goal

pub returns-clause-classes : goal.returns-clause-classes
returns-clause-classes c =
    let n = length c.args.properties.now in
    ap (take n) (with_items_is c.lengthen.new.items c.put_front.new.classes (c.put_front.auto.classes ∙ c.deref_mut.ensures.len)) ∙ c.put_front.ensures.classes
