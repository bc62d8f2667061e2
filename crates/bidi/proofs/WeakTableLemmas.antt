-- Each entry of the tables for the weak rules agrees with the rules, and so does each step of the pass.
use Rattle.std.proofs.Common.{◌≡◌, ◌≢◌, ℕ, zero, suc, ◌+◌, ◌-◌, ◌*◌, ◌/◌, ◌%◌, ◌<◌, ◌≤◌, Bool, true, false, not, ◌&&◌, List, [], ◌∷◌, ◌++◌, get_or, take, replicate, map, refl, ap, ◌∙◌, arith, zero-add, if◌then◌else◌}
use Rattle.std.specs.List.{range_with_len}
use Rattle.std.proofs.lemmas.List.FromFn.{get_or-map-range_with_len}
use Rattle.ucd.specs.Answers.{bidi_class_at, bidi_tag}
use Rattle.ucd.specs.Classes.{is_strong}
use Rattle.ucd.specs.declared.bidi_class.BidiClass.{BidiClass}
use Rattle.ucd.specs.declared.bidi_class.BidiClass.TheVariants.{L, R, AL, EN, ES, ET, AN, CS, ON}
use Rattle.bidi.specs.declared.weak_table.Row.{Row}
use Rattle.bidi.specs.declared.weak_table.Row.TheVariants.{Nothing, European, Arabic, EuropeanTerminators, EuropeanSeparator, ArabicSeparator, Terminators}
use Rattle.bidi.specs.declared.weak_table.TheConstants.{BEGINS, COMPLETES, KEEPS, LAST_ROW, NEXT, VALUES}
use Rattle.bidi.specs.Waiting.{completes, lengthens, row_after, start_after, waits}
use Rattle.bidi.specs.WeakTable.{done_by, next_by, run_at, state_of, strong_after, strong_at, turned, value_by}

next-entries : NEXT ≡ map (λ i. next_by (i / 32) (bidi_class_at (i % 32))) (range_with_len 0 672)
next-entries = refl

value-entries : VALUES ≡ map (λ i. value_by (i / 32) (bidi_class_at (i % 32))) (range_with_len 0 672)
value-entries = refl

pub class-is : (class : BidiClass) → bidi_class_at (bidi_tag class) ≡ class
class-is L = refl
class-is _ = refl

pub tag-below : (class : BidiClass) → bidi_tag class < 32
tag-below L = omega arith
tag-below _ = omega arith

-- ---- the entries that the pass reads for a class
module _ (row : ℕ) (class : BidiClass) (within : row ≤ LAST_ROW) (starts : row % 32 ≡ 0) where
  place : (row + bidi_tag class) / 32 ≡ row / 32
  place = let below = tag-below class in omega (arith, below, starts)

  symbol : (row + bidi_tag class) % 32 ≡ bidi_tag class
  symbol = let below = tag-below class in omega (arith, below, starts)

  inside : row + bidi_tag class < 672
  inside = omega (arith, tag-below class, within)

  pub next-is : get_or NEXT (row + bidi_tag class) 0 ≡ next_by (row / 32) class
  next-is =
      let f : ℕ → ℕ = λ i. next_by (i / 32) (bidi_class_at (i % 32)) in
      ap (λ xs. get_or xs (row + bidi_tag class) 0) next-entries
      ∙ get_or-map-range_with_len f 0 672 (row + bidi_tag class) (row + bidi_tag class) 0 inside (zero-add (row + bidi_tag class))
      ∙ ap (λ s. next_by s (bidi_class_at ((row + bidi_tag class) % 32))) place
      ∙ ap (λ k. next_by (row / 32) (bidi_class_at k)) symbol
      ∙ ap (next_by (row / 32)) (class-is class)

  pub value-is : get_or VALUES (row + bidi_tag class) ON ≡ value_by (row / 32) class
  value-is =
      let f : ℕ → BidiClass = λ i. value_by (i / 32) (bidi_class_at (i % 32)) in
      ap (λ xs. get_or xs (row + bidi_tag class) ON) value-entries
      ∙ get_or-map-range_with_len f 0 672 (row + bidi_tag class) (row + bidi_tag class) ON inside (zero-add (row + bidi_tag class))
      ∙ ap (λ s. value_by s (bidi_class_at ((row + bidi_tag class) % 32))) place
      ∙ ap (λ k. value_by (row / 32) (bidi_class_at k)) symbol
      ∙ ap (value_by (row / 32)) (class-is class)

-- the state of a run and a strong type has this run and this strong type
strong_in : (n : ℕ) → is_strong (get_or (L ∷ R ∷ AL ∷ []) n R) ≡ true
strong_in zero = refl
strong_in (suc zero) = refl
strong_in (suc (suc zero)) = refl
strong_in (suc (suc (suc n))) = refl

strong-next : (strong class : BidiClass) → is_strong strong ≡ true → is_strong (strong_after strong class) ≡ true
strong-next strong L e = refl
strong-next strong R e = refl
strong-next strong AL e = refl
strong-next strong _ e = e

run-state : (run : Row) (strong : BidiClass) → is_strong strong ≡ true → run_at (state_of run strong) ≡ run
run-state Nothing L e = refl
run-state Nothing R e = refl
run-state Nothing AL e = refl
run-state European L e = refl
run-state European R e = refl
run-state European AL e = refl
run-state Arabic L e = refl
run-state Arabic R e = refl
run-state Arabic AL e = refl
run-state EuropeanTerminators L e = refl
run-state EuropeanTerminators R e = refl
run-state EuropeanTerminators AL e = refl
run-state EuropeanSeparator L e = refl
run-state EuropeanSeparator R e = refl
run-state EuropeanSeparator AL e = refl
run-state ArabicSeparator L e = refl
run-state ArabicSeparator R e = refl
run-state ArabicSeparator AL e = refl
run-state Terminators L e = refl
run-state Terminators R e = refl
run-state Terminators AL e = refl
run-state run _ e = absurd (cc)

strong-state : (run : Row) (strong : BidiClass) → is_strong strong ≡ true → strong_at (state_of run strong) ≡ strong
strong-state Nothing L e = refl
strong-state Nothing R e = refl
strong-state Nothing AL e = refl
strong-state European L e = refl
strong-state European R e = refl
strong-state European AL e = refl
strong-state Arabic L e = refl
strong-state Arabic R e = refl
strong-state Arabic AL e = refl
strong-state EuropeanTerminators L e = refl
strong-state EuropeanTerminators R e = refl
strong-state EuropeanTerminators AL e = refl
strong-state EuropeanSeparator L e = refl
strong-state EuropeanSeparator R e = refl
strong-state EuropeanSeparator AL e = refl
strong-state ArabicSeparator L e = refl
strong-state ArabicSeparator R e = refl
strong-state ArabicSeparator AL e = refl
strong-state Terminators L e = refl
strong-state Terminators R e = refl
strong-state Terminators AL e = refl
strong-state run _ e = absurd (cc)

state-below : (run : Row) (strong : BidiClass) → is_strong strong ≡ true → state_of run strong ≤ 20
state-below Nothing L e = omega arith
state-below Nothing _ e = omega arith
state-below European L e = omega arith
state-below European _ e = omega arith
state-below Arabic L e = omega arith
state-below Arabic _ e = omega arith
state-below EuropeanTerminators L e = omega arith
state-below EuropeanTerminators _ e = omega arith
state-below EuropeanSeparator L e = omega arith
state-below EuropeanSeparator _ e = omega arith
state-below ArabicSeparator L e = omega arith
state-below ArabicSeparator _ e = omega arith
state-below Terminators L e = omega arith
state-below Terminators _ e = omega arith

done-below : (run : Row) (type : BidiClass) → done_by run type ≤ 2
done-below run type = elim (completes run type) as (λ b. (if b then COMPLETES else (if not (lengthens run type) && waits (row_after run type) then BEGINS else KEEPS)) ≤ 2) [
  | true ↦ omega arith
  | false ↦ elim (not (lengthens run type) && waits (row_after run type)) as (λ b. (if b then BEGINS else KEEPS) ≤ 2) [ true ↦ omega arith | false ↦ omega arith ]
]

-- ---- the parts of an entry
module _ (state : ℕ) (class : BidiClass) (next : ℕ) (is : next ≡ next_by state class) where
  abbrev type : BidiClass
  type = turned (strong_at state) class

  abbrev later : ℕ
  later = state_of (row_after (run_at state) type) (strong_after (strong_at state) class)

  is_later : is_strong (strong_after (strong_at state) class) ≡ true
  is_later = strong-next (strong_at state) class (strong_in (state % 3))

  later-below : later ≤ 20
  later-below = state-below (row_after (run_at state) type) (strong_after (strong_at state) class) is_later

  pub done-is : next % 4 ≡ done_by (run_at state) type
  done-is = let few = done-below (run_at state) type in omega (arith, is, few)

  pub row-is : next / 4 ≡ later * 32
  row-is = let few = done-below (run_at state) type in omega (arith, is, few)

  state-is : next / 4 / 32 ≡ later
  state-is = omega (arith, row-is)

  pub row-within : next / 4 ≤ LAST_ROW
  row-within = omega (arith, row-is, later-below)

  pub row-starts : next / 4 % 32 ≡ 0
  row-starts = omega (arith, row-is)

  pub run-is : run_at (next / 4 / 32) ≡ row_after (run_at state) type
  run-is = ap run_at state-is ∙ run-state (row_after (run_at state) type) (strong_after (strong_at state) class) is_later

  pub strong-is : strong_at (next / 4 / 32) ≡ strong_after (strong_at state) class
  strong-is = ap strong_at state-is ∙ strong-state (row_after (run_at state) type) (strong_after (strong_at state) class) is_later

-- the pending types start where the definition says, after a type has been read
pub starts-next : (run : Row) (type : BidiClass) (start next at : ℕ) → (done_by run type ≡ BEGINS → next ≡ at) → (done_by run type ≡ KEEPS → next ≡ start)
    → (if waits (row_after run type) then next else at + 1) ≡ start_after run type (if waits run then start else at) at
starts-next Terminators ET start next at begins keeps = keeps refl
starts-next Nothing ET start next at begins keeps = begins refl
starts-next Arabic ET start next at begins keeps = begins refl
starts-next EuropeanSeparator ET start next at begins keeps = begins refl
starts-next ArabicSeparator ET start next at begins keeps = begins refl
starts-next European ES start next at begins keeps = begins refl
starts-next European CS start next at begins keeps = begins refl
starts-next Arabic CS start next at begins keeps = begins refl
starts-next EuropeanTerminators ET start next at begins keeps = refl
starts-next _ _ start next at begins keeps = refl

-- neither `BEGINS` nor `KEEPS` is `COMPLETES`
not_completed : (begins : Bool) → (if begins then BEGINS else KEEPS) ≢ COMPLETES
not_completed true e = absurd (omega (arith, e))
not_completed false e = absurd (omega (arith, e))

-- the pending types after a type is read: numbers if it completes them, and otherwise ON
pub front-next : (run : Row) (type : BidiClass) (current filled : List BidiClass) (start at : ℕ) (value : BidiClass)
    → take at current ≡ take (if waits run then start else at) current ++ replicate (at - (if waits run then start else at)) ON
    → (done_by run type ≡ COMPLETES → take at filled ≡ take start current ++ replicate (at - start) value) → (done_by run type ≢ COMPLETES → filled ≡ current)
    → take at filled ≡ take (if waits run then start else at) current ++ replicate (at - (if waits run then start else at)) (if completes run type then value else ON)
front-next EuropeanSeparator EN current filled start at value waiting done kept = done refl
front-next Terminators EN current filled start at value waiting done kept = done refl
front-next ArabicSeparator AN current filled start at value waiting done kept = done refl
front-next Nothing sort current filled start at value waiting done kept =
    ap (take at) (kept (not_completed (not (lengthens Nothing sort) && waits (row_after Nothing sort)))) ∙ waiting
front-next European sort current filled start at value waiting done kept =
    ap (take at) (kept (not_completed (not (lengthens European sort) && waits (row_after European sort)))) ∙ waiting
front-next Arabic sort current filled start at value waiting done kept =
    ap (take at) (kept (not_completed (not (lengthens Arabic sort) && waits (row_after Arabic sort)))) ∙ waiting
front-next EuropeanTerminators sort current filled start at value waiting done kept =
    ap (take at) (kept (not_completed (not (lengthens EuropeanTerminators sort) && waits (row_after EuropeanTerminators sort)))) ∙ waiting
front-next _ _ current filled start at value waiting done kept = ap (take at) (kept (λ e. absurd (omega (arith, e)))) ∙ waiting

-- only pending types are completed
pub completes-waits : (run : Row) (type : BidiClass) → done_by run type ≡ COMPLETES → waits run ≡ true
completes-waits EuropeanSeparator sort e = refl
completes-waits ArabicSeparator sort e = refl
completes-waits Terminators sort e = refl
completes-waits Nothing sort e = absurd (not_completed (not (lengthens Nothing sort) && waits (row_after Nothing sort)) e)
completes-waits European sort e = absurd (not_completed (not (lengthens European sort) && waits (row_after European sort)) e)
completes-waits Arabic sort e = absurd (not_completed (not (lengthens Arabic sort) && waits (row_after Arabic sort)) e)
completes-waits EuropeanTerminators sort e = absurd (not_completed (not (lengthens EuropeanTerminators sort) && waits (row_after EuropeanTerminators sort)) e)
