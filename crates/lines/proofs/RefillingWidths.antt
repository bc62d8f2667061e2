-- A line that starts later is no wider up to the same character.
use Rattle.std.proofs.Common.{◌≡◌, ◌∙◌, ℕ, zero, suc, ◌+◌, ◌/◌, ◌<◌, ◌≤◌, false, List, [], ◌∷◌, length, take, drop, sym, ap, inl, inr, arith}
use Rattle.std.specs.Prelude.{fold}
use Rattle.std.proofs.Math.Nat.{mul-le-mul_right}
use Rattle.std.proofs.Math.Seq.{take-add}
use Rattle.std.proofs.lemmas.Bool.{cases_Bool, cond-false, cond-true, leb-false, lt-leb}
use Rattle.std.proofs.lemmas.List.{get_or-drop, length-drop}
use Rattle.std.proofs.lemmas.List.Sums.{fold-append}
use Rattle.std.proofs.lemmas.Nat.{div-add-mod', le-div, mod_below}
use Rattle.lines.specs.CharInfos.{advance, moves}
use Rattle.lines.specs.Filling.{before_tail, columns, fits_to, nothing, place_at, trails}
use Rattle.lines.specs.Tabs.{to_stop}
use Rattle.lines.specs.declared.char_info.CharInfo.{CharInfo}
use Rattle.lines.proofs.FillingLemmas.{shown_after}

-- a tab that starts later ends no earlier
stop_order : (n a b : ℕ) → a ≤ b → a + to_stop n a ≤ b + to_stop n b
stop_order zero a b order = omega (arith, order)
stop_order (suc m) a b order =
    let n : ℕ = suc m in
    let less : a / n ≤ b / n = le-div (a / n) b n (omega arith) (omega (arith, div-add-mod' a n, order)) in
    omega (arith, div-add-mod' a n, div-add-mod' b n, mod_below a n (omega arith), mod_below b n (omega arith), mul-le-mul_right n less)

advance_order : (a b : ℕ) (p : CharInfo) → a ≤ b → advance a p ≤ advance b p
advance_order a b p order =
    elim (cases_Bool (moves p.trailing)) [
      | inl tab ↦ omega (
        arith,
        cond-true (moves p.trailing) (to_stop p.columns a) p.columns tab,
        cond-true (moves p.trailing) (to_stop p.columns b) p.columns tab,
        stop_order p.columns a b order,
      )
      | inr other ↦ omega (
        arith,
        cond-false (moves p.trailing) (to_stop p.columns a) p.columns other,
        cond-false (moves p.trailing) (to_stop p.columns b) p.columns other,
        order,
      )
    ]

fold_order : (a b : ℕ) (ps : List CharInfo) → a ≤ b → fold advance a ps ≤ fold advance b ps
fold_order a b [] order = order
fold_order a b (p ∷ ps) order = fold_order (advance a p) (advance b p) ps (advance_order a b p order)

columns_later : (s k : ℕ) (ps : List CharInfo) → columns (take k (drop s ps)) ≤ columns (take (s + k) ps)
columns_later s k ps =
    omega (
      arith,
      fold_order 0 (columns (take s ps)) (take k (drop s ps)) (omega arith),
      fold-append advance 0 (take s ps) (take k (drop s ps)),
      ap columns (take-add s k ps),
    )

shown_later : (s k : ℕ) (ps : List CharInfo) → s + k ≤ length ps → columns (before_tail (take k (drop s ps))) ≤ columns (before_tail (take (s + k) ps))
shown_later s zero ps within = omega arith
shown_later s (suc k) ps within =
    let ds : List CharInfo = drop s ps in
    let place : place_at ds k ≡ place_at ps (s + k) = get_or-drop s ps k nothing in
    let size : k < length ds = omega (arith, within, length-drop s ps) in
    let e : s + suc k ≡ suc (s + k) = omega arith in
    let here = shown_after ds k size in
    let there = shown_after ps (s + k) (omega (arith, within)) in
    let at : columns (before_tail (take (s + suc k) ps)) ≡ columns (before_tail (take (suc (s + k)) ps)) = ap (λ m. columns (before_tail (take m ps))) e in
    elim (cases_Bool (trails (place_at ds k))) [
      | inl trailing ↦ omega (
        arith,
        at,
        here,
        there,
        cond-true (trails (place_at ds k)) (columns (before_tail (take k ds))) (columns (take (suc k) ds)) trailing,
        cond-true (trails (place_at ps (s + k))) (columns (before_tail (take (s + k) ps))) (columns (take (suc (s + k)) ps)) (ap trails (sym place) ∙ trailing),
        shown_later s k ps (omega (arith, within)),
      )
      | inr counts ↦ omega (
        arith,
        at,
        here,
        there,
        cond-false (trails (place_at ds k)) (columns (before_tail (take k ds))) (columns (take (suc k) ds)) counts,
        cond-false (trails (place_at ps (s + k))) (columns (before_tail (take (s + k) ps))) (columns (take (suc (s + k)) ps)) (ap trails (sym place) ∙ counts),
        columns_later s (suc k) ps,
        ap (λ m. columns (take m ps)) e,
      )
    ]

-- if a line does not fit up to a character, a line that starts earlier does not fit up to it
pub misfits_earlier : (width s k : ℕ) (ps : List CharInfo) → s + k < length ps → fits_to width (drop s ps) k ≡ false → fits_to width ps (s + k) ≡ false
misfits_earlier width s k ps within misfit =
    let e : s + suc k ≡ suc (s + k) = omega arith in
    lt-leb (columns (before_tail (take (suc (s + k)) ps))) width
    (omega (
      arith,
      leb-false (columns (before_tail (take (suc k) (drop s ps)))) width misfit,
      shown_later s (suc k) ps (omega (arith, within)),
      ap (λ m. columns (before_tail (take m ps))) e,
    ))
