use Rattle.std.proofs.Common.{rules, ◌≡◌, ◌∙◌, ◌+◌, ◌*◌, ◌/◌, ◌≤◌, ◌++◌, ℕ, OnOk, Option, length, slice_range, ap, sym, arith}
use Rattle.std.proofs.lemmas.List.{length-take-le}
use Rattle.std.proofs.lemmas.Result.{IfOk-equal}
use Rattle.lines.specs.Extents.{in_pairs, stored, LineExtents}
use Rattle.lines.specs.declared.fill.Shown.{Shown}
use Rattle.lines.proofs.SplicedExtents.{pairs_range}
use Rattle.lines.proofs.extents.Extents.push_shown.Goals as goal

pub returns-in-None : goal.returns-in-None
returns-in-None c =
    let items = c.self.inside.items.items in
    let view = sym (ap (λ (line : Option Shown). stored line items) c.in-None.is) ∙ c.self.view_is in
    let from = c.args.from in
    let to = c.args.to in
    let n : ℕ = length items / 3 in
    let within : to ≤ n = omega (arith, ap (λ (e : LineExtents). length e.starts) view, length-take-le n items (omega arith), c.requires.within) in
    let count : c.len-count.result ≡ length items = omega (arith, c.len-count.ensures) in
    let put : OnOk c.extend_from_slice.result (c.extend_from_slice.new.self.items
    ≡ c.args.list.now.items ++ slice_range c.deref.result.now (c.len-count.result / 3 + 2 * from) (c.len-count.result / 3 + 2 * to)) = search rules in
    IfOk-equal c.extend_from_slice.result _ _ _ put
    (ap (λ xs. c.args.list.now.items ++ slice_range xs (c.len-count.result / 3 + 2 * from) (c.len-count.result / 3 + 2 * to)) c.deref.ensures.value
    ∙ ap (λ m. c.args.list.now.items ++ slice_range items (m / 3 + 2 * from) (m / 3 + 2 * to)) count
    ∙ ap (λ xs. c.args.list.now.items ++ xs) (sym (pairs_range items n from to c.requires.order (omega (arith, within)))
    ∙ ap (λ (e : LineExtents). in_pairs (slice_range e.shown from to)) view))
