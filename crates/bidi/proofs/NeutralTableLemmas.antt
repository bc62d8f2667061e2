-- Each entry of the table for the neutral and implicit rules agrees with the rules.
use Rattle.std.proofs.Common.{◌≡◌, ℕ, zero, suc, not, ◌+◌, ◌-◌, ◌*◌, ◌/◌, ◌%◌, ◌<◌, ◌≤◌, ◌==◌, Bool, true, false, get_or, map, refl, subst, sym, ap, ◌∙◌, arith, zero-add, if◌then◌else◌}
use Rattle.std.specs.List.{range_with_len}
use Rattle.std.proofs.lemmas.List.FromFn.{get_or-map-range_with_len}
use Rattle.ucd.specs.Answers.{bidi_class_at, bidi_tag}
use Rattle.ucd.specs.declared.bidi_class.BidiClass.{BidiClass}
use Rattle.ucd.specs.declared.bidi_class.BidiClass.TheVariants.{L, R, EN, AN}
use Rattle.bidi.specs.declared.neutral_table.TheConstants.{STEPS}
use Rattle.bidi.specs.Neutral.{agree, is_neutral, rise_even, rise_odd}
use Rattle.bidi.specs.Rows.{above, beside, is_opposite, row_of, rise_after, step, turn}
use Rattle.bidi.specs.Weak.{is_left}
use Rattle.bidi.proofs.WeakTableLemmas.{class-is, tag-below}

entries : STEPS ≡ map (λ i. step (i / 64) (i / 32 % 2) (bidi_class_at (i % 32))) (range_with_len 0 128)
entries = refl

-- how far a type is raised above the neutrals next to it does not depend on the embedding level
above-by : (level : ℕ) (even neutral : Bool) (rise odd_rise beside : ℕ)
    → (if neutral then 1 else (((if even then level + rise else level + odd_rise) + 1) - (level + beside)))
    ≡ (if neutral then 1 else (((if even then rise else odd_rise) + 1) - beside))
above-by level even true rise odd_rise beside = refl
above-by level true false rise odd_rise beside = omega arith
above-by level false false rise odd_rise beside = omega arith

module _ (level : ℕ) (class : BidiClass) where
  same : level % 2 % 2 ≡ level % 2
  same = omega arith

  abbrev turn-at : ℕ → ℕ
  turn-at parity = if is_neutral class then 1 else (if not (agree (is_left (if parity == 1 then R else L)) (is_left class)) then 2 else 0)

  turn-is : turn (level % 2) class ≡ turn level class
  turn-is = ap turn-at same

  abbrev beside-at : ℕ → ℕ
  beside-at parity = if not (agree (is_left (if parity == 1 then R else L)) (is_left class)) then 1 else 0

  abbrev above-at : ℕ → ℕ
  above-at parity = if is_neutral class then 1 else (((if parity == 0 then rise_even class else rise_odd class) + 1) - beside-at parity)

  above-is : above (level % 2) class ≡ above level class
  above-is =
      above-by (level % 2) (level % 2 % 2 == 0) (is_neutral class) (rise_even class) (rise_odd class) (beside-at (level % 2 % 2))
      ∙ ap above-at same
      ∙ sym (above-by level (level % 2 == 0) (is_neutral class) (rise_even class) (rise_odd class) (beside-at (level % 2)))

  abbrev step-at : ℕ → ℕ → ℕ → ℕ → ℕ
  step-at parity rise turned lifted = (parity * 64 + (rise + turned) / 2 * 32) * 256 + (((rise + turned) / 2 + lifted) - 1)

  pub step-is : (row : ℕ) → row ≡ row_of level (row / 32 % 2) → get_or STEPS (row + bidi_tag class) 0 ≡ step level (row / 32 % 2) class
  step-is row is =
      let at = row + bidi_tag class in
      let f : ℕ → ℕ = λ i. step (i / 64) (i / 32 % 2) (bidi_class_at (i % 32)) in
      let below = tag-below class in
      let rise = row / 32 % 2 in
      let parity : at / 64 ≡ level % 2 = omega (arith, below, is) in
      let raised : at / 32 % 2 ≡ rise = omega (arith, below, is) in
      let symbol : at % 32 ≡ bidi_tag class = omega (arith, below, is) in
      ap (λ xs. get_or xs at 0) entries
      ∙ get_or-map-range_with_len f 0 128 at at 0 (omega (arith, below, is)) (zero-add at)
      ∙ ap (λ s. step s (at / 32 % 2) (bidi_class_at (at % 32))) parity
      ∙ ap (λ r. step (level % 2) r (bidi_class_at (at % 32))) raised
      ∙ ap (λ k. step (level % 2) rise (bidi_class_at k)) symbol
      ∙ ap (step (level % 2) rise) (class-is class)
      ∙ ap (λ p. step-at p rise (turn (level % 2) class) (above (level % 2) class)) same
      ∙ ap (λ t. step-at (level % 2) rise t (above (level % 2) class)) turn-is
      ∙ ap (step-at (level % 2) rise (turn level class)) above-is

turn-bounded : (neutral is : Bool) → (if neutral then 1 else (if is then 2 else 0)) ≤ 2
turn-bounded true is = omega arith
turn-bounded false true = omega arith
turn-bounded false false = omega arith

pub turn-below : (level : ℕ) (class : BidiClass) → turn level class ≤ 2
turn-below level class = turn-bounded (is_neutral class) (is_opposite level class)

-- the level of a type is at most 1 above the level of the neutrals next to it
even-bounded : (class : BidiClass) → rise_even class ≤ (if is_left class then 0 else 1) + 1
even-bounded L = omega arith
even-bounded R = omega arith
even-bounded EN = omega arith
even-bounded AN = omega arith
even-bounded _ = omega arith

odd-bounded : (class : BidiClass) → rise_odd class ≤ 1
odd-bounded L = omega arith
odd-bounded EN = omega arith
odd-bounded AN = omega arith
odd-bounded _ = omega arith

bounded-by : (parity : ℕ) (neutral left : Bool) (rise odd_rise : ℕ) → parity < 2 → rise ≤ (if left then 0 else 1) + 1 → odd_rise ≤ 1
    → (if neutral then 1 else (((if parity == 0 then rise else odd_rise) + 1) - (if not (agree (is_left (if parity == 1 then R else L)) left) then 1 else 0))) ≤ 2
bounded-by parity true left rise odd_rise low e f = omega arith
bounded-by zero false true rise odd_rise low e f = omega (arith, e)
bounded-by zero false false rise odd_rise low e f = omega (arith, e)
bounded-by (suc zero) false true rise odd_rise low e f = omega (arith, f)
bounded-by (suc zero) false false rise odd_rise low e f = omega (arith, f)
bounded-by (suc (suc n)) false left rise odd_rise low e f = absurd (omega (arith, low))

pub above-below : (level : ℕ) (class : BidiClass) → above level class ≤ 2
above-below level class = subst (λ n. n ≤ 2)
    (sym (above-by level (level % 2 == 0) (is_neutral class) (rise_even class) (rise_odd class) (beside-at level class (level % 2))))
    (bounded-by (level % 2) (is_neutral class) (is_left class) (rise_even class) (rise_odd class) (omega arith) (even-bounded class) (odd-bounded class))

pub step-below : (level row : ℕ) (class : BidiClass) → step level (row / 32 % 2) class % 256 ≤ 2
step-below level row class =
    let turned = turn-below level class in
    let lifted = above-below level class in
    omega (arith, turned, lifted)

-- the parts of an entry
pub row-next : (level rise : ℕ) (class : BidiClass) → rise ≤ 1 → step level rise class / 256 ≡ row_of level (rise_after level rise class)
row-next level rise class low =
    let turned = turn-below level class in
    let lifted = above-below level class in
    omega (arith, turned, lifted, low)

pub lift-next : (level rise : ℕ) (class : BidiClass) → rise ≤ 1 → step level rise class % 256 ≡ (rise_after level rise class + above level class) - 1
lift-next level rise class low =
    let turned = turn-below level class in
    let lifted = above-below level class in
    omega (arith, turned, lifted, low)
