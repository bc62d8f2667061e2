use Rattle.std.proofs.Common.{sum_by, ap, ◌∙◌}
use Rattle.std.proofs.lemmas.Grind.{common_steps}
use Rattle.std.proofs.Common.{arith}
use Rattle.store.specs.Trees.{in_order}
use Rattle.store.proofs.ExchangeLemmas.{same_sum}
use Rattle.store.proofs.tree_store.TreeStoreParagraphStore.exchange_all_by.Goals as goal

pub returns-clause-items : goal.returns-clause-items
returns-clause-items g c = grind (arith, common_steps)

pub returns-clause-chars : goal.returns-clause-chars
returns-clause-chars g c =
    let by = g.E.Exchanger.kind c.args.by.now in
    ap (sum_by g.P.Measured.chars) (returns-clause-items g c)
    ∙ same_sum (g.E.Exchanger.fits by) g.P.Measured.chars (g.E.Exchanger.exchanged by) (g.met.E.Exchanger.keeps_chars by) (in_order c.args.self.now) c.args.parts.now.items c.requires.fit

pub returns-clause-bytes : goal.returns-clause-bytes
returns-clause-bytes g c =
    let by = g.E.Exchanger.kind c.args.by.now in
    ap (sum_by g.P.Measured.bytes) (returns-clause-items g c)
    ∙ same_sum (g.E.Exchanger.fits by) g.P.Measured.bytes (g.E.Exchanger.exchanged by) (g.met.E.Exchanger.keeps_bytes by) (in_order c.args.self.now) c.args.parts.now.items c.requires.fit

pub returns-clause-utf16 : goal.returns-clause-utf16
returns-clause-utf16 g c =
    let by = g.E.Exchanger.kind c.args.by.now in
    ap (sum_by g.P.Measured.utf16) (returns-clause-items g c)
    ∙ same_sum (g.E.Exchanger.fits by) g.P.Measured.utf16 (g.E.Exchanger.exchanged by) (g.met.E.Exchanger.keeps_utf16 by) (in_order c.args.self.now) c.args.parts.now.items c.requires.fit
