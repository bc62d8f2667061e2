use Rattle.std.proofs.Common.{◌≡◌, ◌∙◌, ◌+◌, ◌*◌, ◌/◌, ◌<◌, ℕ, Option, [], ◌∷◌, drop, get_or, length, ap, ap₂, sym, arith}
use Rattle.std.proofs.lemmas.List.{get_or-drop, get_or_default, length-drop, length-take-le}
use Rattle.lines.specs.Extents.{stored, LineExtents}
use Rattle.lines.specs.Showing.{nothing_shown}
use Rattle.lines.specs.declared.fill.Shown.{Shown}
use Rattle.lines.proofs.ExtentLemmas.{pair_at}
use Rattle.lines.proofs.extents.Extents.shown.Goals as goal

pub returns-in-Some : goal.returns-in-Some
returns-in-Some c =
    let items = c.self.inside.items.items in
    let view = sym (ap (λ (line : Option Shown). stored line items) c.in-Some.is) ∙ c.self.view_is in
    let first : c.args.k ≡ 0 = omega (arith, ap (λ (e : LineExtents). length e.starts) view, c.requires) in
    sym (ap (λ (k : ℕ). get_or (c.in-Some.shown ∷ []) k nothing_shown) first) ∙ ap (λ (e : LineExtents). get_or e.shown c.args.k nothing_shown) view

pub returns-in-None : goal.returns-in-None
returns-in-None c =
    let items = c.self.inside.items.items in
    let view = sym (ap (λ (line : Option Shown). stored line items) c.in-None.is) ∙ c.self.view_is in
    let k = c.args.k in
    let n : ℕ = length items / 3 in
    let below : k < n = omega (arith, ap (λ (e : LineExtents). length e.starts) view, length-take-le n items (omega arith), c.requires) in
    let count : c.len.result ≡ length items = omega (arith, c.len.ensures) in
    let len : c.index.result.now ≡ get_or items (n + 2 * k) 0 =
    c.index.ensures ∙ ap (λ (m : ℕ). get_or items (m / 3 + 2 * k) c.index.result.now) count ∙ get_or_default items (n + 2 * k) c.index.result.now 0 (omega (arith, below)) in
    let columns : c.index-in-None.result.now ≡ get_or items (n + 2 * k + 1) 0 =
    c.index-in-None.ensures ∙ ap (λ (m : ℕ). get_or items (m / 3 + 2 * k + 1) c.index-in-None.result.now) count ∙ get_or_default items (n + 2 * k + 1) c.index-in-None.result.now 0 (omega (arith, below)) in
    let place : n + 2 * k + 1 ≡ n + (2 * k + 1) = omega arith in
    ap₂ (λ (a b : ℕ). let part : Shown = record { len = a; columns = b } in part)
    (len ∙ sym (get_or-drop n items (2 * k) 0))
    (columns ∙ ap (λ (i : ℕ). get_or items i 0) place ∙ sym (get_or-drop n items (2 * k + 1) 0))
    ∙ sym (pair_at (drop n items) k nothing_shown (omega (arith, length-drop n items, below)))
    ∙ ap (λ (e : LineExtents). get_or e.shown k nothing_shown) view
