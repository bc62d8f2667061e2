use Rattle.std.proofs.Common.{◌≡◌, ◌++◌, length, take, drop, sum_by, ap, subst, ◌∙◌, arith}
use Rattle.std.proofs.lemmas.Grind.{common_steps}
use Rattle.store.specs.Exchanging.{pairwise}
use Rattle.store.specs.Sums.{SumsFit}
use Rattle.store.proofs.ExchangeLemmas.{same_sum}
use Rattle.store.proofs.ListLemmas.{overwritten}
use Rattle.store.proofs.SumsLemmas.{fit_by, fit_again}
use Rattle.store.proofs.vec_store.VecStoreParagraphStore.exchange_all_by.Goals as goal

pub returns-clause-items : goal.returns-clause-items
returns-clause-items g c = grind (arith, common_steps)

pub sums-self-inside-requires : goal.sums-self-inside-requires
sums-self-inside-requires g c =
    let by = g.E.Exchanger.kind c.args.by.now in
    let xs = c.self.inside.items.items in
    let new = c.exchange_each.new.items in
    let e : take c.self.inside.items.len (new ++ drop (length new) xs) ≡ new = overwritten new xs c.self.inside.items.len (grind (arith, common_steps)) (grind (arith, common_steps)) in
    let fit = subst (SumsFit g.P.Measured) c.self.view_is (fit_by g.P.Measured xs c.self.inside.sums c.self.invariant c.fits.ensures) in
    let items : c.deref.result.now ≡ pairwise (g.E.Exchanger.exchanged by) c.args.self.now c.args.parts.now.items =
    c.deref.ensures.value ∙ e ∙ grind (arith, common_steps) in
    rw items (fit_again g.P.Measured (g.E.Exchanger.fits by) (g.E.Exchanger.exchanged by)
    (g.met.E.Exchanger.keeps_chars by) (g.met.E.Exchanger.keeps_bytes by) (g.met.E.Exchanger.keeps_utf16 by) c.args.self.now
    c.args.parts.now.items c.requires.fit c.requires.lines_fit fit)

pub returns-clause-chars : goal.returns-clause-chars
returns-clause-chars g c =
    let by = g.E.Exchanger.kind c.args.by.now in
    ap (sum_by g.P.Measured.chars) (returns-clause-items g c)
    ∙ same_sum (g.E.Exchanger.fits by) g.P.Measured.chars (g.E.Exchanger.exchanged by) (g.met.E.Exchanger.keeps_chars by) c.args.self.now c.args.parts.now.items c.requires.fit

pub returns-clause-bytes : goal.returns-clause-bytes
returns-clause-bytes g c =
    let by = g.E.Exchanger.kind c.args.by.now in
    ap (sum_by g.P.Measured.bytes) (returns-clause-items g c)
    ∙ same_sum (g.E.Exchanger.fits by) g.P.Measured.bytes (g.E.Exchanger.exchanged by) (g.met.E.Exchanger.keeps_bytes by) c.args.self.now c.args.parts.now.items c.requires.fit

pub returns-clause-utf16 : goal.returns-clause-utf16
returns-clause-utf16 g c =
    let by = g.E.Exchanger.kind c.args.by.now in
    ap (sum_by g.P.Measured.utf16) (returns-clause-items g c)
    ∙ same_sum (g.E.Exchanger.fits by) g.P.Measured.utf16 (g.E.Exchanger.exchanged by) (g.met.E.Exchanger.keeps_utf16 by) c.args.self.now c.args.parts.now.items c.requires.fit
