use Rattle.std.proofs.Common.{ap, sym, ◌∙◌, arith}
use Rattle.std.specs.Borrow.{Bor}
use Rattle.std.specs.Prelude.{option_map}
use Rattle.lines.specs.Layouts.{Layout}
use Rattle.session.proofs.BorderLemmas.{IsBackBorder-last, IsBackBorder-next}
use Rattle.session.proofs.borders.last_touched.Goals as goal

pub returns-then-to-end-clause-end : goal.returns-then-to-end-clause-end
returns-then-to-end-clause-end g c =
    IsBackBorder-next (g.S.ParagraphStore.items c.args.store.now) c.args.to c.args.front c.end_of-end.result c.requires.front c.end_of-end.ensures.end c.end_of-end.ensures.index
    (omega (arith, c.if-to-front.false)) (omega (arith, c.if-to-end.true))

pub returns-in_default-second-clause-end : goal.returns-in_default-second-clause-end
returns-in_default-second-clause-end g c =
    let none = sym (ap (option_map (λ (k : Bor Layout). k.now)) c.in_default-second.is) ∙ c.get-second.ensures in
    IsBackBorder-last (g.S.ParagraphStore.items c.args.store.now) c.args.to c.end_of-end.result c.end_of-end.ensures.end none (omega (arith, c.if-to-end.false))

pub returns-then-to-end-2-clause-end : goal.returns-then-to-end-2-clause-end
returns-then-to-end-2-clause-end g c =
    IsBackBorder-next (g.S.ParagraphStore.items c.args.store.now) c.args.to c.end_of-end.result c.end_of-end-2.result c.end_of-end.ensures.end c.end_of-end-2.ensures.end c.end_of-end-2.ensures.index
    (omega (arith, c.if-to-end.false)) (omega (arith, c.if-to-end-2.true))
