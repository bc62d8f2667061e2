-- N1, N2, I1 and I2 in one pass. The levels of a run of neutrals are guessed before the type after it is known.
use Rattle.std.proofs.Common.{◌≡◌, ℕ, zero, suc, ◌+◌, ◌-◌, ◌/◌, ◌%◌, ◌==◌, ◌<◌, ◌≤◌, Bool, true, false, not, ◌&&◌, ◌||◌, if◌then◌else◌, List, [], ◌∷◌, ◌++◌, length, get_or, set, take, drop, map, replicate, refl, sym, ap, subst, ◌∙◌, inl, inr, arith, append_assoc}
use Rattle.std.proofs.lemmas.Bool.{cond-true, cond-false, cases_Bool, cases_lt, not_from_true, not_from_false}
use Rattle.std.proofs.lemmas.List.{append-nil, get_or_default, length-set, length-take-le, set-append_left, drop_more, drop_all, take_all, take_more_set, take-set-le, replicate_more}
use Rattle.std.proofs.Math.Seq.{take-set-lt}
use Rattle.ucd.specs.declared.bidi_class.BidiClass.{BidiClass}
use Rattle.ucd.specs.declared.bidi_class.BidiClass.TheVariants.{L, R, EN, AN, ON}
use Rattle.bidi.specs.Neighbours.{each_by, nearest}
use Rattle.bidi.specs.Neutral.{agree, between, implicit_level, is_neutral, neutral, neutral_at, rise_even, rise_odd, side}
use Rattle.bidi.specs.Rows.{above, beside, is_opposite, turn, raised, row_level, levels_after, AreGuessed, AreLevelsSoFar, IsRun, LowersRun}
use Rattle.bidi.specs.Sequences.{direction}
use Rattle.bidi.specs.Weak.{is_left}

-- the nearest type that is not neutral
abbrev side_of : BidiClass → List BidiClass → BidiClass
side_of other types = nearest (λ type. not (is_neutral type)) other types

module _ (level : ℕ) (sos eos : BidiClass) where
  abbrev rules : List BidiClass → List BidiClass → List ℕ
  rules front types = map (implicit_level level) (each_by (neutral_at (direction level) sos eos) front types)

  side-neutral : (other type : BidiClass) (types : List BidiClass) → is_neutral type ≡ true → side_of other (type ∷ types) ≡ side_of other types
  side-neutral other type types e = cond-false (not (is_neutral type)) type (side_of other types) (not_from_true (is_neutral type) e)

  side-other : (other type : BidiClass) (types : List BidiClass) → is_neutral type ≡ false → side_of other (type ∷ types) ≡ type
  side-other other type types e = cond-true (not (is_neutral type)) type (side_of other types) (not_from_false (is_neutral type) e)

  -- the levels that the pass finds for a run of neutrals and the types after it are those of the rules
  after-is : (n : ℕ) (before : BidiClass) (front types : List BidiClass) → before ≡ side_of sos front
      → levels_after level eos n before types ≡ replicate n (row_level level before (side_of eos types)) ++ rules front types
  after-is n before front [] e = sym (append-nil (replicate n (row_level level before eos)))
  after-is n before front (type ∷ types) e =
      let here = neutral_at (direction level) sos eos front type types in
      elim (cases_Bool (is_neutral type)) [
        | inl row ↦
            let value = row_level level before (side_of eos types) in
            let is_here : here ≡ between (direction level) before (side_of eos types) =
            cond-true (is_neutral type) (between (direction level) (side_of sos front) (side_of eos types)) type row
            ∙ ap (λ b. between (direction level) b (side_of eos types)) (sym e) in
            cond-true (is_neutral type) (levels_after level eos (n + 1) before types) (replicate n (row_level level before type) ++ implicit_level level type ∷ levels_after level eos 0 type types) row
            ∙ after-is (n + 1) before (type ∷ front) types (e ∙ sym (side-neutral sos type front row))
            ∙ ap (λ xs. xs ++ rules (type ∷ front) types) (sym (replicate_more n value))
            ∙ append_assoc (replicate n value) (value ∷ []) (rules (type ∷ front) types)
            ∙ ap (λ b. replicate n value ++ (implicit_level level b ∷ rules (type ∷ front) types)) (sym is_here)
            ∙ ap (λ b. replicate n (row_level level before b) ++ (implicit_level level here ∷ rules (type ∷ front) types)) (sym (side-neutral eos type types row))
        | inr other ↦
            let is_here : here ≡ type = cond-false (is_neutral type) (between (direction level) (side_of sos front) (side_of eos types)) type other in
            cond-false (is_neutral type) (levels_after level eos (n + 1) before types)
            (replicate n (row_level level before type)
            ++ implicit_level level type ∷ levels_after level eos 0 type types) other
            ∙ ap (λ xs. replicate n (row_level level before type) ++ implicit_level level type ∷ xs) (after-is 0 type (type ∷ front) types (sym (side-other sos type front other)))
            ∙ ap (λ b. replicate n (row_level level before type) ++ (implicit_level level b ∷ rules (type ∷ front) types)) (sym is_here)
            ∙ ap (λ b. replicate n (row_level level before b) ++ (implicit_level level here ∷ rules (type ∷ front) types)) (sym (side-other eos type types other))
      ]

  pub levels_after-is : (types : List BidiClass) → levels_after level eos 0 sos types ≡ map (implicit_level level) (neutral (direction level) sos eos types)
  levels_after-is types = after-is 0 sos [] types refl

  module _ {types : List BidiClass} {levels : List ℕ} {before : BidiClass} {start at : ℕ} (so_far : AreLevelsSoFar level sos eos types levels before start at) (d : BidiClass) where
    -- at a neutral, the state advances by one index without a change to the levels
    pub levels-row : at < length types → is_neutral (get_or types at d) ≡ true → AreLevelsSoFar level sos eos types levels before start (at + 1)
    levels-row within row =
        let order : start ≤ at = so_far.order in
        let type = get_or types at d in
        let more : (at + 1) - start ≡ (at - start) + 1 = omega arith in
        record {
          sizes = so_far.sizes;
          order = omega arith;
          whole = ap (λ n. take start levels ++ levels_after level eos n before (drop (at + 1) types)) more
              ∙ ap (λ xs. take start levels ++ xs) (sym (cond-true (is_neutral type) (levels_after level eos ((at - start) + 1) before (drop (at + 1) types))
              (replicate (at - start) (row_level level before type) ++ implicit_level level type ∷ levels_after level eos 0 type (drop (at + 1) types)) row))
              ∙ ap (λ xs. take start levels ++ levels_after level eos (at - start) before xs) (sym (drop_more types at d within))
              ∙ so_far.whole;
        }

    -- at a type that is not neutral, the pass writes the levels of the run before it and the level of the
    -- type
    pub levels-other : (written : List ℕ) (value : ℕ) → at < length types → is_neutral (get_or types at d) ≡ false → length written ≡ length levels
        → take at written ≡ take start levels ++ replicate (at - start) (row_level level before (get_or types at d)) → value ≡ implicit_level level (get_or types at d)
        → AreLevelsSoFar level sos eos types (set written at value) (get_or types at d) (at + 1) (at + 1)
    levels-other written value within other size row here =
        let type = get_or types at d in
        let inside : at < length written = omega (arith, size, so_far.sizes) in
        let none : (at + 1) - (at + 1) ≡ 0 = omega arith in
        let front = replicate (at - start) (row_level level before type) in
        record {
          sizes = length-set written at value ∙ size ∙ so_far.sizes;
          order = omega arith;
          whole = ap (λ n. take (at + 1) (set written at value) ++ levels_after level eos n type (drop (at + 1) types)) none
              ∙ ap (λ xs. xs ++ levels_after level eos 0 type (drop (at + 1) types)) (take_more_set written at value inside)
              ∙ append_assoc (take at written) (value ∷ []) (levels_after level eos 0 type (drop (at + 1) types))
              ∙ ap (λ xs. xs ++ (value ∷ levels_after level eos 0 type (drop (at + 1) types))) row
              ∙ append_assoc (take start levels) front (value ∷ levels_after level eos 0 type (drop (at + 1) types))
              ∙ ap (λ n. take start levels ++ (front ++ (n ∷ levels_after level eos 0 type (drop (at + 1) types)))) here
              ∙ ap (λ xs. take start levels ++ xs) (sym (cond-false (is_neutral type) (levels_after level eos ((at - start) + 1) before (drop (at + 1) types))
              (front ++ implicit_level level type ∷ levels_after level eos 0 type (drop (at + 1) types)) other))
              ∙ ap (λ xs. take start levels ++ levels_after level eos (at - start) before xs) (sym (drop_more types at d within))
              ∙ so_far.whole;
        }

    -- at the end, the pass writes the levels of the last run, and all levels agree with the rules
    pub levels-end : (written : List ℕ) → length types ≤ at → at ≡ length types → length written ≡ length levels
        → take (length types) written ≡ take start levels ++ replicate (length types - start) (row_level level before eos)
        → written ≡ map (implicit_level level) (neutral (direction level) sos eos types)
    levels-end written past at_end size row =
        let whole : length written ≤ length types = omega (arith, size, so_far.sizes) in
        sym (take_all (length types) written whole) ∙ row
        ∙ ap (λ n. take start levels ++ replicate (n - start) (row_level level before eos)) (sym at_end)
        ∙ ap (λ xs. take start levels ++ levels_after level eos (at - start) before xs) (sym (drop_all at types past))
        ∙ so_far.whole ∙ levels_after-is types

-- a run of neutrals is raised if the types on both sides have the direction opposite to the embedding
-- direction
row-by : (level parity : ℕ) (before after : Bool) → parity < 2
    → (if parity == 0 then level + rise_even (if agree before after then side before else (if parity == 1 then R else L))
    else level + rise_odd (if agree before after then side before else (if parity == 1 then R else L)))
    ≡ raised level (not (agree (is_left (if parity == 1 then R else L)) before) && not (agree (is_left (if parity == 1 then R else L)) after))
row-by level zero true true low = omega arith
row-by level zero true false low = omega arith
row-by level zero false true low = omega arith
row-by level zero false false low = refl
row-by level (suc zero) true true low = refl
row-by level (suc zero) true false low = omega arith
row-by level (suc zero) false true low = omega arith
row-by level (suc zero) false false low = omega arith
row-by level (suc (suc n)) before after low = absurd (omega (arith, low))

row-level-is : (level : ℕ) (before after : BidiClass) → row_level level before after ≡ raised level (is_opposite level before && is_opposite level after)
row-level-is level before after = row-by level (level % 2) (is_left before) (is_left after) (omega arith)

-- whether a type is not neutral and has the direction opposite to the embedding direction
abbrev pub opposes : ℕ → BidiClass → Bool
opposes level type = if is_neutral type then false else is_opposite level type

-- the levels of a run of neutrals are written again only if the guess was wrong
front-row : (level n : ℕ) (opposite next : Bool) (front taken : List ℕ) → (opposite && not next ≡ true → taken ≡ front ++ replicate n level)
    → (opposite && not next ≡ false → taken ≡ front ++ replicate n (raised level opposite)) → taken ≡ front ++ replicate n (raised level (opposite && next))
front-row level n true true front taken low same = same refl
front-row level n true false front taken low same = low refl
front-row level n false next front taken low same = same refl

-- ---- what the pass computes for a neutral, and for another type
next-neutral : (level : ℕ) (opposite neutral is : Bool) → neutral ≡ true → (opposite && neutral) || (if neutral then false else is) ≡ opposite
next-neutral level true true is e = refl
next-neutral level false true is e = refl
next-neutral level opposite false is e = absurd (cc)

next-other : (level : ℕ) (opposite neutral is : Bool) → neutral ≡ false → (opposite && neutral) || (if neutral then false else is) ≡ is
next-other level true false is e = refl
next-other level false false is e = refl
next-other level opposite true is e = absurd (cc)

never-lowers : (opposite : Bool) → opposite && not opposite ≡ false
never-lowers true = refl
never-lowers false = refl

and-value : (level : ℕ) (opposite : Bool) → level + (if opposite && true then 1 else 0) ≡ raised level opposite
and-value level true = refl
and-value level false = omega arith

other-value : (n : ℕ) (opposite : Bool) → n + (if opposite && false then 1 else 0) ≡ n
other-value n true = omega arith
other-value n false = omega arith

-- I1 and I2 do not raise the level of a neutral
flat-even : (type : BidiClass) → is_neutral type ≡ true → rise_even type ≡ 0
flat-even R e = absurd (cc)
flat-even AN e = absurd (cc)
flat-even EN e = absurd (cc)
flat-even _ e = refl

flat-odd : (type : BidiClass) → is_neutral type ≡ true → rise_odd type ≡ 0
flat-odd L e = absurd (cc)
flat-odd AN e = absurd (cc)
flat-odd EN e = absurd (cc)
flat-odd _ e = refl

flat-by : (even : Bool) (level rise odd_rise : ℕ) → rise ≡ 0 → odd_rise ≡ 0 → (if even then level + rise else level + odd_rise) ≡ level
flat-by true level rise odd_rise e f = omega (arith, e)
flat-by false level rise odd_rise e f = omega (arith, f)

neutral-level : (level : ℕ) (type : BidiClass) → is_neutral type ≡ true → implicit_level level type ≡ level
neutral-level level type e = flat-by (level % 2 == 0) level (rise_even type) (rise_odd type) (flat-even type e) (flat-odd type e)

module _ (level : ℕ) (sos eos : BidiClass) {types : List BidiClass} {levels : List ℕ} {opposite : Bool} {at : ℕ} (now : AreGuessed level sos eos types levels opposite at) where
  -- the levels of the latest run of neutrals, once the type after it is known
  row-is : (after : BidiClass) (put : List ℕ) → (opposite && not (is_opposite level after) ≡ true → LowersRun level types levels at put)
      → (opposite && not (is_opposite level after) ≡ false → put ≡ levels)
      → take at put ≡ take now.start levels ++ replicate (at - now.start) (row_level level now.before after)
  row-is after put low same =
      let front = take now.start levels in
      let n = at - now.start in
      front-row level n opposite (is_opposite level after) front (take at put) (λ e. low e now.start now.run) (λ e. ap (take at) (same e) ∙ now.guessed)
      ∙ ap (λ o. front ++ replicate n (raised level (o && is_opposite level after))) (sym now.direction_is)
      ∙ ap (λ v. front ++ replicate n v) (sym (row-level-is level now.before after))

  -- at a neutral, the pass writes the level that it guesses
  guessed-neutral : (value : ℕ) (d : BidiClass) → at < length types → is_neutral (get_or types at d) ≡ true → value ≡ raised level opposite
      → AreGuessed level sos eos types (set levels at value) opposite (at + 1)
  guessed-neutral value d within row is =
      let start = now.start in
      let order : start ≤ at = now.run.order in
      let inside : at < length levels = omega (arith, within, now.so_far.sizes) in
      let kept : take start (set levels at value) ≡ take start levels = take-set-le start levels at value order in
      let next = levels-row level sos eos now.so_far d within row in
      let more : (at - start) + 1 ≡ (at + 1) - start = omega arith in
      let here : (k : ℕ) (e : BidiClass) → k ≡ at → is_neutral (get_or types k e) ≡ true =
      λ k e is_at. ap (λ i. is_neutral (get_or types i e)) is_at ∙ ap is_neutral (get_or_default types at e d within) ∙ row in
      record {
        before = now.before;
        start = start;
        so_far = record {
          sizes = length-set levels at value ∙ now.so_far.sizes;
          order = omega arith;
          whole = ap (λ xs. xs ++ levels_after level eos ((at + 1) - start) now.before (drop (at + 1) types)) kept ∙ next.whole;
        };
        run = record {
          order = omega arith;
          neutrals = λ k e from below. elim (cases_lt k at) [
            | inl before ↦ now.run.neutrals k e from before
            | inr past ↦ here k e (omega arith)
          ];
          bounded = now.run.bounded;
        };
        direction_is = now.direction_is;
        guessed = take_more_set levels at value inside
            ∙ ap (λ xs. xs ++ value ∷ []) now.guessed
            ∙ ap (λ v. (take start levels ++ replicate (at - start) (raised level opposite)) ++ v ∷ []) is
            ∙ append_assoc (take start levels) (replicate (at - start) (raised level opposite)) (raised level opposite ∷ [])
            ∙ ap (λ xs. take start levels ++ xs) (replicate_more (at - start) (raised level opposite))
            ∙ ap (λ n. take start levels ++ replicate n (raised level opposite)) more
            ∙ ap (λ xs. xs ++ replicate ((at + 1) - start) (raised level opposite)) (sym kept);
      }

  -- at a type that is not neutral, if the levels of the run before it are final, the pass writes the level of
  -- the type
  guessed-other : (put : List ℕ) (value : ℕ) (d : BidiClass) → at < length types → is_neutral (get_or types at d) ≡ false → length put ≡ length levels
      → take at put ≡ take now.start levels ++ replicate (at - now.start) (row_level level now.before (get_or types at d)) → value ≡ implicit_level level (get_or types at d)
      → AreGuessed level sos eos types (set put at value) (is_opposite level (get_or types at d)) (at + 1)
  guessed-other put value d within other size row is =
      let none : (at + 1) - (at + 1) ≡ 0 = omega arith in
      let opposes_here = is_opposite level (get_or types at d) in
      record {
        before = get_or types at d;
        start = at + 1;
        so_far = levels-other level sos eos now.so_far d put value within other size row is;
        run = record {
          order = omega arith;
          neutrals = λ k e from below. absurd (omega (arith, from, below));
          bounded = λ k e before. let is_at : k ≡ at = omega (arith, before) in
              ap (λ i. is_neutral (get_or types i e)) is_at ∙ ap is_neutral (get_or_default types at e d within) ∙ other;
        };
        direction_is = refl;
        guessed = sym (ap (λ n. take (at + 1) (set put at value) ++ replicate n (raised level opposes_here)) none ∙ append-nil (take (at + 1) (set put at value)));
      }

  -- one step of the pass
  pub guessed-next : (put : List ℕ) (next : Bool) (value : ℕ) (d : BidiClass) → at < length types → length put ≡ length levels
      → next ≡ ((opposite && is_neutral (get_or types at d)) || opposes level (get_or types at d))
      → (opposite && not next ≡ true → LowersRun level types levels at put) → (opposite && not next ≡ false → put ≡ levels)
      → value ≡ implicit_level level (get_or types at d) + (if opposite && is_neutral (get_or types at d) then 1 else 0)
      → AreGuessed level sos eos types (set put at value) next (at + 1)
  guessed-next put next value d within size is low same written =
      let type = get_or types at d in
      elim (cases_Bool (is_neutral type)) [
        | inl row ↦
            let stays : next ≡ opposite = is ∙ next-neutral level opposite (is_neutral type) (is_opposite level type) row in
            let kept : put ≡ levels = same (ap (λ b. opposite && not b) stays ∙ never-lowers opposite) in
            let value_is : value ≡ raised level opposite =
            written ∙ ap (λ b. implicit_level level type + (if opposite && b then 1 else 0)) row
            ∙ ap (λ n. n + (if opposite && true then 1 else 0)) (neutral-level level type row) ∙ and-value level opposite in
            subst (λ b. AreGuessed level sos eos types (set put at value) b (at + 1)) (sym stays)
            (subst (λ xs. AreGuessed level sos eos types (set xs at value) opposite (at + 1)) (sym kept) (guessed-neutral value d within row value_is))
        | inr other ↦
            let turns : next ≡ is_opposite level type = is ∙ next-other level opposite (is_neutral type) (is_opposite level type) other in
            let value_is : value ≡ implicit_level level type =
            written ∙ ap (λ b. implicit_level level type + (if opposite && b then 1 else 0)) other ∙ other-value (implicit_level level type) opposite in
            subst (λ b. AreGuessed level sos eos types (set put at value) b (at + 1)) (sym turns)
            (guessed-other put value d within other size
            (row-is type put (λ e. low (ap (λ b. opposite && not b) turns ∙ e)) (λ e. same (ap (λ b. opposite && not b) turns ∙ e))) value_is)
      ]

  -- at the end, the levels agree with the rules
  pub guessed-end : (put : List ℕ) → length types ≤ at → at ≡ length types → length put ≡ length levels
      → (opposite && not (is_opposite level eos) ≡ true → LowersRun level types levels at put)
      → (opposite && not (is_opposite level eos) ≡ false → put ≡ levels)
      → put ≡ map (implicit_level level) (neutral (direction level) sos eos types)
  guessed-end put past at_end size low same =
      levels-end level sos eos now.so_far ON put past at_end size
      (subst (λ n. take n put ≡ take now.start levels ++ replicate (n - now.start) (row_level level now.before eos)) at_end (row-is eos put low same))

-- before the first type, no levels have been written
pub guessed-first : (level : ℕ) (sos eos : BidiClass) (types : List BidiClass) (levels : List ℕ) → length levels ≡ length types
    → AreGuessed level sos eos types levels (is_opposite level sos) 0
guessed-first level sos eos types levels size = record {
  before = sos;
  start = 0;
  so_far = record { sizes = size; order = omega arith; whole = refl };
  run = record {
    order = omega arith;
    neutrals = λ k e from below. absurd (omega (arith, below));
    bounded = λ k e before. absurd (omega (arith, before));
  };
  direction_is = refl;
  guessed = refl;
}

-- the loop of `lower_run` has written the neutrals from `at` up to `end`, and writes one more
pub run-lower : (types : List BidiClass) (old levels : List ℕ) (level end at : ℕ) → 0 < at → at ≤ end → end ≤ length levels → at ≤ length old
    → take end levels ≡ take at old ++ replicate (end - at) level
    → take end (set levels (at - 1) level) ≡ take (at - 1) old ++ replicate (end - (at - 1)) level
run-lower types old levels level end at some order within fits put =
    let more : (at - 1) + 1 ≡ at = omega (arith, some) in
    let less : suc (end - at) ≡ end - (at - 1) = omega (arith, some, order) in
    let inside : at - 1 < length (take at old) = omega (arith, some, length-take-le at old fits) in
    take-set-lt end levels (at - 1) level (omega (arith, some, order))
    ∙ ap (λ xs. set xs (at - 1) level) put
    ∙ set-append_left (take at old) (replicate (end - at) level) (at - 1) level inside
    ∙ ap (λ xs. xs ++ replicate (end - at) level) (sym (take-set-lt at old (at - 1) level (omega (arith, some)))
    ∙ ap (λ n. take n (set old (at - 1) level)) (sym more) ∙ take_more_set old (at - 1) level (omega (arith, some, fits)))
    ∙ append_assoc (take (at - 1) old) (level ∷ []) (replicate (end - at) level)
    ∙ ap (λ n. take (at - 1) old ++ replicate n level) less

-- when the loop ends, it has written the whole run of neutrals
pub run-lowered : (types : List BidiClass) (start at end : ℕ) → IsRun types start end → at ≤ end
    → ((k : ℕ) (d : BidiClass) → at ≤ k → k < end → is_neutral (get_or types k d) ≡ true)
    → ((k : ℕ) (d : BidiClass) → k + 1 ≡ at → start ≤ k → is_neutral (get_or types k d) ≡ false)
    → at ≡ start
run-lowered types start at end run order passed stopped =
    elim (cases_lt start at) [
      | inl before ↦ absurd (let e = stopped (at - 1) ON (omega (arith, before)) (omega (arith, before)) in
          let f = run.neutrals (at - 1) ON (omega (arith, before)) (omega (arith, before, order)) in cc)
      | inr past ↦ elim (cases_lt at start) [
        | inl after ↦ absurd (let e = run.bounded (start - 1) ON (omega (arith, after)) in
            let f = passed (start - 1) ON (omega (arith, after)) (omega (arith, after, run.order)) in cc)
        | inr same ↦ omega (arith, past, same)
      ]
    ]

bit-is : (b : Bool) → ((if b then 1 else 0) == 1) ≡ b
bit-is true = refl
bit-is false = refl

bit-low : (b : Bool) → (if b then 1 else 0) ≤ 1
bit-low true = omega arith
bit-low false = omega arith

-- one step of the pass, computed with numbers: from the rise of the neutrals next to the previous type, it finds that of
-- the neutrals next to this type
step-is : (rise : ℕ) (neutral is : Bool) → rise ≤ 1
    → ((rise + (if neutral then 1 else (if is then 2 else 0))) / 2 == 1) ≡ (((rise == 1) && neutral) || (if neutral then false else is))
step-is zero true true low = refl
step-is zero true false low = refl
step-is zero false true low = refl
step-is zero false false low = refl
step-is (suc zero) true true low = refl
step-is (suc zero) true false low = refl
step-is (suc zero) false true low = refl
step-is (suc zero) false false low = refl
step-is (suc (suc n)) neutral is low = absurd (omega (arith, low))

pub step-low : (rise turn : ℕ) → rise ≤ 1 → turn ≤ 2 → (rise + turn) / 2 ≤ 1
step-low rise turn low bounded = omega (arith, low, bounded)

pub step-lowers : (rise next : ℕ) → rise ≤ 1 → next ≤ 1 → (rise == 1) && not (next == 1) ≡ true → next < rise
step-lowers zero next low under e = absurd (cc)
step-lowers (suc zero) zero low under e = omega arith
step-lowers (suc zero) (suc zero) low under e = absurd (cc)
step-lowers (suc zero) (suc (suc n)) low under e = absurd (omega (arith, under))
step-lowers (suc (suc n)) next low under e = absurd (omega (arith, low))

pub step-keeps : (rise next : ℕ) → rise ≤ 1 → next ≤ 1 → (rise == 1) && not (next == 1) ≡ false → rise ≤ next
step-keeps zero next low under e = omega arith
step-keeps (suc zero) zero low under e = absurd (cc)
step-keeps (suc zero) (suc n) low under e = omega arith
step-keeps (suc (suc n)) next low under e = absurd (omega (arith, low))

pub step-next : (level rise : ℕ) (type : BidiClass) → rise ≤ 1 → ((rise + turn level type) / 2 == 1) ≡ (((rise == 1) && is_neutral type) || opposes level type)
step-next level rise type low = step-is rise (is_neutral type) (is_opposite level type) low

-- ---- the level that the pass writes
step-value : (level rise implicit : ℕ) (neutral is : Bool) → rise ≤ 1 → level ≤ implicit → (neutral ≡ true → implicit ≡ level)
    → level + (rise + (if neutral then 1 else (if is then 2 else 0))) / 2 + (if neutral then 1 else ((implicit + 1) - (level + (if is then 1 else 0))))
    ≡ implicit + (if (rise == 1) && neutral then 1 else 0) + 1
step-value level zero implicit true is low more e = omega (arith, e refl)
step-value level (suc zero) implicit true is low more e = omega (arith, e refl)
step-value level zero implicit false true low more e = omega (arith, more)
step-value level zero implicit false false low more e = omega (arith, more)
step-value level (suc zero) implicit false true low more e = omega (arith, more)
step-value level (suc zero) implicit false false low more e = omega (arith, more)
step-value level (suc (suc n)) implicit neutral is low more e = absurd (omega (arith, low))

raises-by : (even : Bool) (level rise odd_rise : ℕ) → level ≤ (if even then level + rise else level + odd_rise)
raises-by true level rise odd_rise = omega arith
raises-by false level rise odd_rise = omega arith

pub step-level : (level rise : ℕ) (type : BidiClass) → rise ≤ 1
    → level + (rise + turn level type) / 2 + above level type ≡ implicit_level level type + (if (rise == 1) && is_neutral type then 1 else 0) + 1
step-level level rise type low =
    step-value level rise (implicit_level level type) (is_neutral type) (is_opposite level type) low
    (raises-by (level % 2 == 0) level (rise_even type) (rise_odd type)) (neutral-level level type)

-- the same level, as the sum of the sequence's level and the second part of an entry
pub step-lift : (level rise : ℕ) (type : BidiClass) → rise ≤ 1
    → level + (((rise + turn level type) / 2 + above level type) - 1) ≡ implicit_level level type + (if (rise == 1) && is_neutral type then 1 else 0)
step-lift level rise type low =
    let sum = step-level level rise type low in
    let raised : level ≤ implicit_level level type = raises-by (level % 2 == 0) level (rise_even type) (rise_odd type) in
    omega (arith, sum, raised)

pub beside-is : (level : ℕ) (type : BidiClass) → (beside level type == 1) ≡ is_opposite level type
beside-is level type = bit-is (is_opposite level type)

pub beside-low : (level : ℕ) (type : BidiClass) → beside level type ≤ 1
beside-low level type = bit-low (is_opposite level type)
