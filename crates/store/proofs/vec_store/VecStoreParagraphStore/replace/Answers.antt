use Rattle.std.proofs.Common.{◌≡◌, slice_range, ap, sym, subst, ◌∙◌}
use Rattle.std.specs.List.{splice}
use Rattle.store.specs.Sums.{AreSums, SumsFit}
use Rattle.store.proofs.FitsLemmas.{sums_less}
use Rattle.store.proofs.ListLemmas.{range_within, splice_within}
use Rattle.store.proofs.SumsLemmas.{fit_by, fit_each, old_within, new_fit, new_are}
use Rattle.store.proofs.vec_store.VecStoreParagraphStore.replace.Goals as goal

pub sums-new_sums-requires : goal.sums-new_sums-requires
sums-new_sums-requires g c =
    let i = c.args.range.start in
    let j = c.args.range.end in
    let xs = c.args.self.now in
    let ys = c.args.new_items.items in
    let fit = fit_each g.P.Measured (splice xs i j ys) c.requires.chars_fit c.requires.lines_fit c.requires.bytes_fit c.requires.utf16_fit in
    rw c.deref.ensures.value (sums_less g.P.Measured (splice xs i j ys) ys (λ size. splice_within size xs i j ys) fit)

pub sums-requires : goal.sums-requires
sums-requires g c =
    let i = c.args.range.start in
    let j = c.args.range.end in
    let xs = c.self.inside.items.items in
    let old_is : c.deref-2.result.now ≡ slice_range xs i j =
    c.deref-2.ensures.value ∙ c.put_in.ensures.moved ∙ ap (λ zs. slice_range zs i j) c.reserve.ensures.items in
    rw old_is (sums_less g.P.Measured xs (slice_range xs i j) (λ size. range_within size xs i j c.requires.ordered)
    (fit_by g.P.Measured xs c.self.inside.sums c.self.invariant c.fits.ensures))

pub minus-requires : goal.minus-requires
minus-requires g c =
    let i = c.args.range.start in
    let j = c.args.range.end in
    let xs = c.self.inside.items.items in
    let old_is : c.deref-2.result.now ≡ slice_range xs i j =
    c.deref-2.ensures.value ∙ c.put_in.ensures.moved ∙ ap (λ zs. slice_range zs i j) c.reserve.ensures.items in
    let old : AreSums g.P.Measured (slice_range xs i j) c.sums.result = subst (λ zs. AreSums g.P.Measured zs c.sums.result) old_is c.sums.ensures in
    old_within g.P.Measured xs c.args.new_items.items i j c.requires.ordered c.self.inside.sums c.sums.result
    c.sums.result c.sums.result c.sums.result c.self.invariant old

pub plus-self-inside-requires : goal.plus-self-inside-requires
plus-self-inside-requires g c =
    let i = c.args.range.start in
    let j = c.args.range.end in
    let xs = c.self.inside.items.items in
    let ys = c.args.new_items.items in
    let old_is : c.deref-2.result.now ≡ slice_range xs i j =
    c.deref-2.ensures.value ∙ c.put_in.ensures.moved ∙ ap (λ zs. slice_range zs i j) c.reserve.ensures.items in
    let old : AreSums g.P.Measured (slice_range xs i j) c.sums.result = subst (λ zs. AreSums g.P.Measured zs c.sums.result) old_is c.sums.ensures in
    let new : AreSums g.P.Measured ys c.sums-new_sums.result = subst (λ zs. AreSums g.P.Measured zs c.sums-new_sums.result) c.deref.ensures.value c.sums-new_sums.ensures in
    let fit = fit_each g.P.Measured (splice c.args.self.now i j ys) c.requires.chars_fit c.requires.lines_fit c.requires.bytes_fit c.requires.utf16_fit in
    new_fit g.P.Measured xs ys i j c.requires.ordered c.self.inside.sums c.sums.result c.sums-new_sums.result c.minus.result c.minus.result
    c.self.invariant old new c.minus.ensures (subst (λ zs. SumsFit g.P.Measured (splice zs i j ys)) (sym c.self.view_is) fit)

pub invariant_of-self-2 : goal.invariant_of-self-2
invariant_of-self-2 g c =
    let i = c.args.range.start in
    let j = c.args.range.end in
    let xs = c.self.inside.items.items in
    let ys = c.args.new_items.items in
    let old_is : c.deref-2.result.now ≡ slice_range xs i j =
    c.deref-2.ensures.value ∙ c.put_in.ensures.moved ∙ ap (λ zs. slice_range zs i j) c.reserve.ensures.items in
    let new_is : c.put_in.new.items.items ≡ splice xs i j ys =
    c.put_in.ensures.items ∙ ap (λ zs. splice zs i j ys) c.reserve.ensures.items in
    let old : AreSums g.P.Measured (slice_range xs i j) c.sums.result = subst (λ zs. AreSums g.P.Measured zs c.sums.result) old_is c.sums.ensures in
    let new : AreSums g.P.Measured ys c.sums-new_sums.result = subst (λ zs. AreSums g.P.Measured zs c.sums-new_sums.result) c.deref.ensures.value c.sums-new_sums.ensures in
    rw new_is (new_are g.P.Measured xs ys i j c.requires.ordered c.self.inside.sums c.sums.result c.sums-new_sums.result c.minus.result c.plus-self-inside.result
    c.self.invariant old new c.minus.ensures c.plus-self-inside.ensures)
