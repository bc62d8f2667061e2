-- The steps of N0, computed from the results of its passes, agree with the definition.
use Rattle.std.proofs.Common.{◌≡◌, ℕ, zero, suc, ◌+◌, ◌<◌, ◌≤◌, min, max, nat_le, Bool, true, false, ◌&&◌, ◌||◌, not, List, ◌++◌, ◌∷◌, [], map, length, fold, get_or, Option, Some, None, is_some, unwrap_or, if◌then◌else◌, refl, sym, ap, ◌∙◌, inl, inr, arith}
use Rattle.std.specs.List.{range_with_len}
use Rattle.std.proofs.lemmas.Bool.{cond-true, cond-false, cases_Bool, cases_eq, cases_lt, and_right, both_ways, le-leb, le-ltb, lt-ltb, or_left}
use Rattle.std.proofs.lemmas.List.{get_or-map, length-map}
use Rattle.std.proofs.lemmas.List.FromFn.{fill_by_all, get_or-map-range_with_len, length-map-range_with_len}
use Rattle.std.proofs.lemmas.List.Sums.{fold-append}
use Rattle.ucd.specs.Classes.{class_at, is_nonspacing_mark}
use Rattle.ucd.specs.Least.{least}
use Rattle.ucd.specs.declared.bidi_class.BidiClass.{BidiClass}
use Rattle.ucd.specs.declared.bracket.Bracket.{Bracket}
use Rattle.bidi.specs.BracketPasses.{ArePartners, case_by, closer_by, decision_by, direction_in, holder, is_open, is_paired, is_past_by, step_by, unpaired_by}
use Rattle.bidi.specs.BracketSteps.{bracket_step, bracket_steps, case_at, case_with, has_direction, is_past, pair_case, partner_in, resolved_before, set_by, step_with, types_for, unpaired_case}
use Rattle.bidi.specs.BracketTypes.{bracket_at, bracket_types, is_bracket, type_by}
use Rattle.bidi.specs.Brackets.{closer_of, context, greatest, is_full, is_live, is_other, is_set_with, pair_direction, pair_step, pairs_before, pairs_of, stands}
use Rattle.bidi.specs.Neutral.{agree, side}
use Rattle.bidi.specs.Weak.{is_left}
use Rattle.bidi.specs.declared.bracket_steps.BracketCase.{BracketCase}
use Rattle.bidi.specs.declared.bracket_steps.BracketCase.TheVariants.{B, C1, C2, D, NotOther, NoMatch, PastLimit}
use Rattle.bidi.specs.declared.bracket_steps.BracketStep.{BracketStep}
use Rattle.bidi.specs.declared.bracket_steps.Decision.{Decision}
use Rattle.bidi.specs.declared.bracket_type.BracketType.{BracketType}
use Rattle.bidi.specs.declared.bracket_type.BracketType.TheVariants.{Other, Opening, Closing}
use Rattle.bidi.specs.declared.brackets.Opener.{Opener}
use Rattle.bidi.proofs.BracketLemmas.{Row-set, no_Row, set-Row}
use Rattle.bidi.proofs.PairLemmas.{cases_Option, fold-same, range-more}
use Rattle.bidi.proofs.PartnerLemmas.{closer_by-pairs_of, length-partners_of, partner-is, partners_of-at}

greatest-same : (f g : ℕ → Bool) (k : ℕ) → ((p : ℕ) → p < k → f p ≡ g p) → greatest f k ≡ greatest g k
greatest-same f g zero same = refl
greatest-same f g (suc k) same =
    ap (λ b. if b then Some k else greatest f k) (same k (omega arith))
    ∙ ap (λ o. if g k then Some k else o) (greatest-same f g k (λ p below. same p (omega arith)))

greatest-none : (f : ℕ → Bool) (k : ℕ) → ((p : ℕ) → p < k → f p ≡ false) → greatest f k ≡ None
greatest-none f zero none = refl
greatest-none f (suc k) none = cond-false (f k) (Some k) (greatest f k) (none k (omega arith)) ∙ greatest-none f k (λ p below. none p (omega arith))

if-same : {T : Type 0} (b : Bool) (x : T) → (if b then x else x) ≡ x
if-same true x = refl
if-same false x = refl

-- the run of nonspacing marks after a bracket continues at a nonspacing mark, and ends at any other character
set-more : (marks : List Bool) (p k : ℕ) → p ≤ k → suc k < length marks → get_or marks (suc k) false ≡ true → is_set_with marks p (suc k) ≡ is_set_with marks p k
set-more marks p k order within mark =
    elim (cases_Bool (is_set_with marks p k)) [
      | inl set ↦
          let row = set-Row marks p k (omega arith) set in
          Row-set marks p (suc k) within (record {
            order = omega arith;
            marked = λ m above below. elim (cases_eq m (suc k)) [
              | inl last ↦ ap (λ n. get_or marks n false) last ∙ mark
              | inr ne ↦ row.marked m above (omega arith)
            ];
          }) ∙ sym set
      | inr free ↦
          no_Row marks p (suc k) within (λ row. both_ways (is_set_with marks p k) free
          (Row-set marks p k (omega arith) (record { order = order; marked = λ m above below. row.marked m above (omega arith) })))
          ∙ sym free
    ]

set-no : (marks : List Bool) (p k : ℕ) → p < k → k < length marks → get_or marks k false ≡ false → is_set_with marks p k ≡ false
set-no marks p k order within other = no_Row marks p k within (λ row. both_ways (get_or marks k false) other (row.marked k order (omega arith)))

set-self : (marks : List Bool) (k : ℕ) → k < length marks → is_set_with marks k k ≡ true
set-self marks k within = Row-set marks k k within (record { order = omega arith; marked = λ m above below. absurd (omega arith) })

and-true : (a b : Bool) → b ≡ true → (a && b) ≡ a
and-true true b e = e
and-true false b e = refl

-- a pass that carries along the bracket with which N0 sets nonspacing marks finds the same bracket as the definition
pub holder-is : (sets : ℕ → Bool) (marks : List Bool) (k : ℕ) → k < length marks
    → greatest (λ p. sets p && is_set_with marks p k) k ≡ (if get_or marks k false then holder sets marks k else None)
holder-is sets marks zero within = sym (if-same (get_or marks 0 false) None)
holder-is sets marks (suc k) within =
    elim (cases_Bool (get_or marks (suc k) false)) [
      | inl mark ↦
          let here : (sets k && is_set_with marks k (suc k)) ≡ sets k = and-true (sets k) (is_set_with marks k (suc k)) (set-more marks k k (omega arith) within mark ∙ set-self marks k (omega arith)) in
          ap (λ b. if b then Some k else greatest (λ p. sets p && is_set_with marks p (suc k)) k) here
          ∙ ap (λ o. if sets k then Some k else o)
          (greatest-same (λ p. sets p && is_set_with marks p (suc k)) (λ p. sets p && is_set_with marks p k) k (λ p below. ap (λ b. sets p && b) (set-more marks p k (omega arith) within mark))
          ∙ holder-is sets marks k (omega arith))
          ∙ sym (cond-true (get_or marks (suc k) false) (holder sets marks (suc k)) None mark)
      | inr other ↦
          greatest-none (λ p. sets p && is_set_with marks p (suc k)) (suc k) (λ p below. and_right (sets p) (is_set_with marks p (suc k)) (set-no marks p (suc k) below within other))
          ∙ sym (cond-false (get_or marks (suc k) false) (holder sets marks (suc k)) None other)
    ]

holder-same : (f g : ℕ → Bool) (marks : List Bool) (k : ℕ) → ((p : ℕ) → p < k → f p ≡ g p) → holder f marks k ≡ holder g marks k
holder-same f g marks zero same = refl
holder-same f g marks (suc k) same =
    ap (λ b. if b then Some k else (if get_or marks k false then holder f marks k else None)) (same k (omega arith))
    ∙ ap (λ o. if g k then Some k else (if get_or marks k false then o else None)) (holder-same f g marks k (λ p below. same p (omega arith)))

-- resolving the pairs that open before k + 1 means resolving those that open before k, and then the pair at
-- k, if any
pub resolved-more : (embedding sos : BidiClass) (marks : List Bool) (closer : ℕ → Option ℕ) (types : List BidiClass) (k : ℕ)
    → resolved_before embedding sos marks closer types (k + 1) ≡ pair_step embedding sos marks (resolved_before embedding sos marks closer types k) k (closer k)
resolved-more embedding sos marks closer types k =
    let f : List BidiClass → ℕ → List BidiClass = λ current i. pair_step embedding sos marks current i (closer i) in
    let e : k + 1 ≡ suc k = omega arith in
    let low : 0 + k ≡ k = omega arith in
    ap (λ n. fold f types (range_with_len 0 n)) e
    ∙ ap (fold f types) (range-more 0 k ∙ ap (λ i. range_with_len 0 k ++ i ∷ []) low)
    ∙ fold-append f types (range_with_len 0 k) (k ∷ [])

-- the case of a pair determines its direction
case_direction : (left same other agrees : Bool)
    → (if same then Some (side left) else (if other then Some (side (if agrees then left else not left)) else None))
    ≡ direction_in left (if same then B else (if other then (if agrees then C2 else C1) else D))
case_direction left true other agrees = refl
case_direction left false true true = refl
case_direction left false true false = refl
case_direction left false false agrees = refl

pub direction-is : (left : Bool) (sos : BidiClass) (types : List BidiClass) (a b : ℕ) → pair_direction left sos types a b ≡ direction_in left (pair_case left sos types a b)
direction-is left sos types a b = case_direction left (stands left types a b) (stands (not left) types a b) (agree left (is_left (context sos types a)))

is_bracket-is : (o : Option Bracket) (c : ℕ) → is_bracket (type_by o c) ≡ is_some o
is_bracket-is None c = refl
is_bracket-is (Some b) c =
    elim (cases_Bool b.opens) [
      | inl opens ↦ ap is_bracket (cond-true b.opens (Opening b.pair) (Closing c) opens)
      | inr closes ↦ ap is_bracket (cond-false b.opens (Opening b.pair) (Closing c) closes)
    ]

module _ (look : ℕ → Option Bracket) (embedding sos : BidiClass) (text : List ℕ) (explicit types : List BidiClass) (kinds : List BracketType)
    (openers : List Opener) (partners : List ℕ) (full : Option ℕ) (sized : length kinds ≡ length types) (marked : length explicit ≡ length types)
    (are : kinds ≡ bracket_types look text) (found : ArePartners look text types openers partners full) where
  abbrev pub decision_at : ℕ → Decision
  decision_at a = decision_by (is_left embedding) sos (resolved_before embedding sos (map is_nonspacing_mark explicit) (closer_by partners) types a) a (closer_by partners a)

  abbrev pub unpaired_at : ℕ → Option BracketCase
  unpaired_at k = unpaired_by openers full (bracket_at kinds k) (class_at types k) k

  abbrev pairs_are : ℕ → Option ℕ
  pairs_are k = partner_in (pairs_of look text types) k

  closer-is : (a : ℕ) → a < length types → closer_by partners a ≡ closer_of (pairs_of look text types) a
  closer-is a below = ap (λ l. closer_by l a) found.partners_are ∙ closer_by-pairs_of look text types a below

  -- reading the closing brackets from the list of partners yields the same types for the pair that opens at a
  types-are : (a : ℕ) → a ≤ length types
      → resolved_before embedding sos (map is_nonspacing_mark explicit) (closer_by partners) types a ≡ types_for look embedding sos text explicit types a
  types-are a within =
      fold-same (λ current i. pair_step embedding sos (map is_nonspacing_mark explicit) current i (closer_by partners i))
      (λ current i. pair_step embedding sos (map is_nonspacing_mark explicit) current i (closer_of (pairs_of look text types) i)) 0 a types
      (λ k current from to. ap (pair_step embedding sos (map is_nonspacing_mark explicit) current k) (closer-is k (omega arith)))

  decision-is : (a b : ℕ) → a < length types → closer_of (pairs_of look text types) a ≡ Some b
      → decision_at a ≡ decision_by (is_left embedding) sos (types_for look embedding sos text explicit types a) a (Some b)
  decision-is a b below closer =
      ap (λ ts. decision_by (is_left embedding) sos ts a (closer_by partners a)) (types-are a (omega arith))
      ∙ ap (decision_by (is_left embedding) sos (types_for look embedding sos text explicit types a) a) (closer-is a below ∙ closer)

  -- ---- why a bracket has no pair
  past-given : (o : Option ℕ) → full ≡ o → (k : ℕ) → is_past_by openers o k ≡ is_past look text types o k
  past-given None e k = refl
  past-given (Some f) e k =
      elim (cases_lt k f) [
        | inl below ↦ ap (λ b. nat_le f k || b) (found.openers_are f k e below)
        | inr past ↦ or_left (nat_le f k) (is_open openers k) (le-leb f k past) ∙ sym (or_left (nat_le f k) (is_live look text types (pairs_before look text types f) k) (le-leb f k past))
      ]

  unpaired-is : (k : ℕ) → k < length types → unpaired_at k ≡ unpaired_case look text types k
  unpaired-is k within =
      let c = get_or text k 0 in
      let inside : k < length text = omega (arith, ap length are, length-map text (λ c. type_by (look c) c)) in
      let kind : bracket_at kinds k ≡ type_by (look c) c = ap (λ xs. get_or xs k Other) are ∙ get_or-map (λ c. type_by (look c) c) text k 0 Other inside in
      let past : is_past_by openers full k ≡ is_past look text types (least (is_full look text types) 0 (length types)) k =
      past-given full refl k ∙ ap (λ o. is_past look text types o k) found.full_is in
      ap (λ b. unpaired_by openers full b (class_at types k) k) kind
      ∙ ap (λ b. if b then Some (if is_other (class_at types k) then (if is_past_by openers full k then PastLimit else NoMatch) else NotOther) else None) (is_bracket-is (look c) c)
      ∙ ap (λ b. if is_some (look c) then Some (if is_other (class_at types k) then (if b then PastLimit else NoMatch) else NotOther) else None) past

  partner-at : (k : ℕ) → k < length types → get_or partners k 0 ≡ unwrap_or (pairs_are k) (length types)
  partner-at k within = ap (λ l. get_or l k 0) found.partners_are ∙ partners_of-at (pairs_of look text types) (length types) k 0 within

  size-partners : length partners ≡ length types
  size-partners = ap length found.partners_are ∙ length-partners_of (pairs_of look text types) (length types)

  paired-none : (k : ℕ) → k < length types → pairs_are k ≡ None → is_paired partners k ≡ false
  paired-none k within none =
      let p : get_or partners k 0 ≡ length types = partner-at k within ∙ ap (λ o. unwrap_or o (length types)) none in
      let size = size-partners in
      le-ltb (get_or partners k 0) (length partners) (omega arith)

  paired-some : (k j : ℕ) → k < length types → pairs_are k ≡ Some j → (get_or partners k 0 ≡ j) × (is_paired partners k ≡ true)
  paired-some k j within e =
      let p : get_or partners k 0 ≡ j = partner-at k within ∙ ap (λ o. unwrap_or o (length types)) e in
      let size = size-partners in
      let low = (partner-is look text types k j e).within in
      (p, lt-ltb (get_or partners k 0) (length partners) (omega arith))

  -- the decision for the pair with brackets at k and j agrees with the definition
  decided : (k j : ℕ) → k < length types → pairs_are k ≡ Some j
      → decision_at (min k (get_or partners k 0)) ≡ decision_by (is_left embedding) sos (types_for look embedding sos text explicit types (min k j)) (min k j) (Some (max k j))
  decided k j within e =
      ap (λ i. decision_at (min k i)) (paired-some k j within e).0
      ∙ decision-is (min k j) (max k j) (omega arith) (partner-is look text types k j e).closer

  case-is : (k : ℕ) → k < length types → case_by partners decision_at unpaired_at (map is_nonspacing_mark explicit) k ≡ case_at look embedding sos text explicit types k
  case-is k within =
      elim (cases_Option (pairs_are k)) [
        | inl none ↦
            cond-false (is_paired partners k) (decision_at (min k (get_or partners k 0))).case (unpaired_at k) (paired-none k within none)
            ∙ unpaired-is k within ∙ sym (ap (case_with look embedding sos text explicit types k) none)
        | inr w ↦
            cond-true (is_paired partners k) (decision_at (min k (get_or partners k 0))).case (unpaired_at k) (paired-some k w.0 within w.1).1
            ∙ ap (λ (d : Decision). d.case) (decided k w.0 within w.1) ∙ sym (ap (case_with look embedding sos text explicit types k) w.1)
      ]

  held-is : (k : ℕ) → k < length types
      → (if get_or (map is_nonspacing_mark explicit) k false then holder (λ p. has_direction (case_by partners decision_at unpaired_at (map is_nonspacing_mark explicit) p)) (map is_nonspacing_mark explicit) k else None)
      ≡ set_by look embedding sos text explicit types k
  held-is k within =
      let marks = map is_nonspacing_mark explicit in
      let size : length marks ≡ length types = length-map explicit is_nonspacing_mark ∙ marked in
      ap (λ o. if get_or marks k false then o else None) (holder-same (λ p. has_direction (case_by partners decision_at unpaired_at marks p))
      (λ p. has_direction (case_at look embedding sos text explicit types p)) marks k (λ p below. ap has_direction (case-is p (omega arith))))
      ∙ sym (holder-is (λ p. has_direction (case_at look embedding sos text explicit types p)) marks k (omega arith))

  abbrev partnered : ℕ → ℕ → ℕ → BracketStep
  partnered k j p = record {
    case = (decision_by (is_left embedding) sos (types_for look embedding sos text explicit types (min k j)) (min k j) (Some (max k j))).case;
    partner = Some p;
    inside = (decision_by (is_left embedding) sos (types_for look embedding sos text explicit types (min k j)) (min k j) (Some (max k j))).inside;
  }

  step-is : (k : ℕ) → k < length types → step_by partners decision_at unpaired_at (map is_nonspacing_mark explicit) k ≡ bracket_step look embedding sos text explicit types k
  step-is k within =
      let marks = map is_nonspacing_mark explicit in
      let held = holder (λ p. has_direction (case_by partners decision_at unpaired_at marks p)) marks k in
      let p = get_or partners k 0 in
      let one : BracketStep = record { case = (decision_at (min k p)).case; partner = Some p; inside = (decision_at (min k p)).inside } in
      let other : BracketStep = record { case = unpaired_at k; partner = if get_or marks k false then held else None; inside = None } in
      elim (cases_Option (pairs_are k)) [
        | inl none ↦
            cond-false (is_paired partners k) one other (paired-none k within none)
            ∙ ap (λ c. record { case = c; partner = if get_or marks k false then held else None; inside = None }) (unpaired-is k within)
            ∙ ap (λ o. record { case = unpaired_case look text types k; partner = o; inside = None }) (held-is k within)
            ∙ sym (ap (step_with look embedding sos text explicit types k) none)
        | inr w ↦
            cond-true (is_paired partners k) one other (paired-some k w.0 within w.1).1
            ∙ ap (λ (d : Decision). record { case = d.case; partner = Some p; inside = d.inside }) (decided k w.0 within w.1)
            ∙ ap (λ i. partnered k w.0 i) (paired-some k w.0 within w.1).0
            ∙ sym (ap (step_with look embedding sos text explicit types k) w.1)
      ]

  pub steps-are : map (step_by partners decision_at unpaired_at (map is_nonspacing_mark explicit)) (range_with_len 0 (length types)) ≡ bracket_steps look embedding sos text explicit types
  steps-are =
      let f = step_by partners decision_at unpaired_at (map is_nonspacing_mark explicit) in
      let none : BracketStep = record { case = None; partner = None; inside = None } in
      fill_by_all (bracket_step look embedding sos text explicit types) (map f (range_with_len 0 (length types))) (length types) none
      (length-map-range_with_len f 0 (length types))
      (λ k below. get_or-map-range_with_len f 0 (length types) k k none below (omega arith) ∙ step-is k below)

-- the case of a step is the one that `case_by` returns
pub case_of_step : (partners : List ℕ) (decision : ℕ → Decision) (unpaired : ℕ → Option BracketCase) (marks : List Bool) (k : ℕ)
    → (step_by partners decision unpaired marks k).case ≡ case_by partners decision unpaired marks k
case_of_step partners decision unpaired marks k =
    elim (cases_Bool (is_paired partners k)) [
      | inl paired ↦ cc paired
      | inr other ↦ cc other
    ]
