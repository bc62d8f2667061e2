use Rattle.std.proofs.Common.{◌≡◌, ◌-◌, ◌/◌, [], ◌∷◌, ◌++◌, take, drop, reverse, length, arith, ap, subst, sym, ◌∙◌}
use Rattle.std.proofs.lemmas.List.{take-append-drop, reverse-append}
use Rattle.store.specs.Subtrees.{Fits}
use Rattle.store.proofs.FitsLemmas.{fits_front, fits_back}
use Rattle.store.proofs.ListLemmas.{taken}
use Rattle.store.proofs.joining.+build.Goals as goal

pub build-right-requires : goal.build-right-requires
build-right-requires g t c =
    let xs = c.args.nodes.now.items in
    let rest = c.take_last-top.new.self.items in
    let r = c.args.count - c.args.count / 2 - 1 in
    let facts = taken xs c.build-left.new.nodes.items rest c.take_last-top.result c.args.count (c.args.count / 2) r
    (omega arith) c.requires.enough (sym c.build-left.ensures.left) c.take_last-top.ensures.items in
    let turned = subst (Fits g.P.Measured) facts.3 c.requires.fits in
    let fits = fits_back g.P.Measured (reverse (drop (length xs - c.args.count / 2) xs) ++ c.take_last-top.result ∷ []) (reverse rest) turned in
    λ κs h. (omega arith, (h, (omega (arith, facts.0, c.requires.enough), fits)))

pub join-requires : goal.join-requires
join-requires g t c =
    let xs = c.args.nodes.now.items in
    let rest = c.take_last-top.new.self.items in
    let k = length xs - c.args.count in
    let facts = taken xs c.build-left.new.nodes.items rest c.take_last-top.result c.args.count (c.args.count / 2) (c.args.count - c.args.count / 2 - 1)
    (omega arith) c.requires.enough (sym c.build-left.ensures.left) c.take_last-top.ensures.items in
    let parts : reverse xs ≡ reverse (drop k xs) ++ reverse (take k xs) = ap reverse (sym (take-append-drop k xs)) ∙ reverse-append (take k xs) (drop k xs) in
    let fits = fits_front g.P.Measured (reverse (drop k xs)) (reverse (take k xs))
    (subst (Fits g.P.Measured) parts c.requires.fits) in
    rw (c.build-left.ensures.items, c.build-right.ensures.items) (subst (Fits g.P.Measured) facts.2 fits)

pub returns-clause-left : goal.returns-clause-left
returns-clause-left g t c =
    let facts = taken c.args.nodes.now.items c.build-left.new.nodes.items c.take_last-top.new.self.items c.take_last-top.result c.args.count (c.args.count / 2) (c.args.count - c.args.count / 2 - 1)
    (omega arith) c.requires.enough (sym c.build-left.ensures.left) c.take_last-top.ensures.items in
    c.build-right.ensures.left ∙ facts.1

pub returns-clause-items : goal.returns-clause-items
returns-clause-items g t c =
    let facts = taken c.args.nodes.now.items c.build-left.new.nodes.items c.take_last-top.new.self.items c.take_last-top.result c.args.count (c.args.count / 2) (c.args.count - c.args.count / 2 - 1)
    (omega arith) c.requires.enough (sym c.build-left.ensures.left) c.take_last-top.ensures.items in
    c.join.ensures.items ∙ rw (c.build-left.ensures.items, c.build-right.ensures.items) (sym facts.2)
