-- The opener that `opener_at` finds for a character has the level and override that apply to the character.
use Rattle.std.proofs.Common.{◌≡◌, ℕ, zero, suc, ◌+◌, ◌-◌, ◌<◌, ◌≤◌, ◌⊎◌, nat_lt, true, false, not, List, [], ◌∷◌, length, drop, Option, Some, None, if◌then◌else◌, refl, sym, subst, ap, ◌∙◌, inl, inr, arith, add-one}
use Rattle.std.specs.List.{list_any, prefix_len}
use Rattle.std.proofs.lemmas.Bool.{cond-true, cond-false, cases_Bool, cases_lt, lt-ltb, le-ltb, both_ways}
use Rattle.std.proofs.lemmas.List.{drop-drop, nil_from_length}
use Rattle.std.proofs.lemmas.List.Sums.{fold_more}
use Rattle.ucd.specs.declared.bidi_class.BidiClass.{BidiClass}
use Rattle.ucd.specs.declared.bidi_class.BidiClass.TheVariants.{ON, RLE, LRE, RLO, LRO, RLI, LRI, PDF, PDI}
use Rattle.ucd.specs.Classes.{class_at, is_initiator, is_pdi}
use Rattle.bidi.specs.Brackets.{greatest}
use Rattle.bidi.specs.Explicit.{Applies, depth, inside, Inside, open_after, open_chain, opener_at, opener_before}
use Rattle.bidi.proofs.DepthLemmas.{depth-drop, depth-next, greatest-none}
use Rattle.bidi.proofs.OpenersLemmas.{cases_void}

-- a character either opens one opener, or closes any number of openers
after-cases : (chain : List BidiClass) (class : BidiClass) → ((opener : BidiClass) × (open_after chain class ≡ opener ∷ chain)) ⊎ ((n : ℕ) × (open_after chain class ≡ drop n chain))
after-cases chain RLE = inl (RLE, refl)
after-cases chain LRE = inl (LRE, refl)
after-cases chain RLO = inl (RLO, refl)
after-cases chain LRO = inl (LRO, refl)
after-cases chain RLI = inl (RLI, refl)
after-cases chain LRI = inl (LRI, refl)
after-cases [] PDF = inr (0, refl)
after-cases (opener ∷ outer) PDF =
    elim (cases_Bool (is_initiator opener)) [
      | inl isolate ↦ inr (0, cond-true (is_initiator opener) (opener ∷ outer) outer isolate)
      | inr embedding ↦ inr (1, cond-false (is_initiator opener) (opener ∷ outer) outer embedding)
    ]
after-cases chain PDI =
    let rest = prefix_len (λ o. not (is_initiator o)) chain + 1 in
    elim (cases_Bool (list_any is_initiator chain)) [
      | inl some ↦ inr (rest, cond-true (list_any is_initiator chain) (drop rest chain) chain some)
      | inr none ↦ inr (0, cond-false (list_any is_initiator chain) (drop rest chain) chain none)
    ]
after-cases chain _ = inr (0, refl)

module _ (base : ℕ) where
  -- the openers of a chain that do not overflow
  abbrev live : List BidiClass → List BidiClass
  live [] = []
  live (opener ∷ outer) = if (inside base (opener ∷ outer)).is_void then live outer else opener ∷ outer

  live-void : (opener : BidiClass) (outer : List BidiClass) → (inside base (opener ∷ outer)).is_void ≡ true → live (opener ∷ outer) ≡ live outer
  live-void opener outer void = cond-true ((inside base (opener ∷ outer)).is_void) (live outer) (opener ∷ outer) void

  live-all : (chain : List BidiClass) → (inside base chain).is_void ≡ false → live chain ≡ chain
  live-all [] none = refl
  live-all (opener ∷ outer) none = cond-false ((inside base (opener ∷ outer)).is_void) (live outer) (opener ∷ outer) none

  -- if an opener does not overflow, none outside it does
  live-outer : (opener : BidiClass) (outer : List BidiClass) → (inside base (opener ∷ outer)).is_void ≡ false → live outer ≡ outer
  live-outer opener outer none =
      elim (cases_void base opener outer) [
        | inl e ↦ live-all outer e.not_void
        | inr v ↦ absurd (both_ways ((inside base (opener ∷ outer)).is_void) none (ap (λ (i : Inside). i.is_void) v.is))
      ]

  -- removing the openers that overflow does not change the level and override inside a chain
  live-inside : (chain : List BidiClass) → ((inside base (live chain)).level ≡ (inside base chain).level) × ((inside base (live chain)).override ≡ (inside base chain).override)
  live-inside [] = (refl, refl)
  live-inside (opener ∷ outer) =
      elim (cases_void base opener outer) [
        | inl e ↦ let same = live-all (opener ∷ outer) (ap (λ (i : Inside). i.is_void) e.is) in
            (ap (λ c. (inside base c).level) same, ap (λ c. (inside base c).override) same)
        | inr v ↦ let same = live-void opener outer (ap (λ (i : Inside). i.is_void) v.is) in
            let rest = live-inside outer in (
              ap (λ c. (inside base c).level) same ∙ rest.0 ∙ sym (ap (λ (i : Inside). i.level) v.is),
              ap (λ c. (inside base c).override) same ∙ rest.1 ∙ sym (ap (λ (i : Inside). i.override) v.is),
            )
      ]

  depth-live : (chain : List BidiClass) → length (live chain) ≡ depth base chain
  depth-live [] = refl
  depth-live (opener ∷ outer) =
      elim (cases_Bool ((inside base (opener ∷ outer)).is_void)) [
        | inl void ↦ ap length (live-void opener outer void) ∙ depth-live outer
            ∙ sym (cond-true ((inside base (opener ∷ outer)).is_void) (depth base outer) (depth base outer + 1) void)
        | inr none ↦ ap length (live-all (opener ∷ outer) none) ∙ ap suc (sym (ap length (live-outer opener outer none)) ∙ depth-live outer)
            ∙ sym (add-one (depth base outer)) ∙ sym (cond-false ((inside base (opener ∷ outer)).is_void) (depth base outer) (depth base outer + 1) none)
      ]

  live-drop : (n : ℕ) (chain : List BidiClass) → live (drop n chain) ≡ drop (depth base chain - depth base (drop n chain)) (live chain)
  live-drop zero chain = let none : depth base chain - depth base chain ≡ 0 = omega arith in ap (λ m. drop m (live chain)) (sym none)
  live-drop (suc n) [] = refl
  live-drop (suc n) (opener ∷ outer) =
      let less : depth base (drop n outer) ≤ depth base outer = depth-drop base n outer in
      elim (cases_Bool ((inside base (opener ∷ outer)).is_void)) [
        | inl void ↦ live-drop n outer
            ∙ ap (λ m. drop (m - depth base (drop n outer)) (live outer)) (sym (cond-true ((inside base (opener ∷ outer)).is_void) (depth base outer) (depth base outer + 1) void))
            ∙ ap (drop (depth base (opener ∷ outer) - depth base (drop n outer))) (sym (live-void opener outer void))
        | inr none ↦
            let size : depth base (opener ∷ outer) ≡ depth base outer + 1 = cond-false ((inside base (opener ∷ outer)).is_void) (depth base outer) (depth base outer + 1) none in
            let one : suc (depth base outer - depth base (drop n outer)) ≡ depth base (opener ∷ outer) - depth base (drop n outer) = omega arith in
            live-drop n outer ∙ ap (drop (depth base outer - depth base (drop n outer))) (live-outer opener outer none)
            ∙ ap (λ m. drop m (opener ∷ outer)) one
            ∙ ap (drop (depth base (opener ∷ outer) - depth base (drop n outer))) (sym (live-all (opener ∷ outer) none))
      ]

  module _ (classes : List BidiClass) where
    -- If at least n openers that do not overflow are open before index k, the n-th of them is at the last index before
    -- which fewer than n are open. After it, the first n are open.
    pub record IsNth (k n i : ℕ) : Type 0 where
      pub before : i < k
      pub found : greatest (λ j. nat_lt (depth base (open_chain classes j)) n) k ≡ Some i
      pub first : live (open_chain classes (i + 1)) ≡ drop (depth base (open_chain classes k) - n) (live (open_chain classes k))

    nth-next : (k : ℕ) → k < length classes → (n : ℕ) → n ≤ depth base (open_chain classes k) → n ≤ depth base (open_chain classes (k + 1)) → (i : ℕ) → IsNth k n i → IsNth (k + 1) n i
    nth-next k within n few still i nth =
        let chain = open_chain classes k in
        let class = class_at classes k in
        let next : open_chain classes (k + 1) ≡ open_after chain class = fold_more open_after [] classes k ON within in
        let m : ℕ = depth base (open_chain classes (k + 1)) in
        let deep : ℕ = depth base chain in
        record {
          before = omega (arith, nth.before);
          found = ap (greatest (λ j. nat_lt (depth base (open_chain classes j)) n)) (add-one k)
              ∙ cond-false (nat_lt deep n) (Some k) (greatest (λ j. nat_lt (depth base (open_chain classes j)) n) k) (le-ltb deep n few) ∙ nth.found;
          first = nth.first ∙ elim (after-cases chain class) [
            | inl o ↦ let same : open_chain classes (k + 1) ≡ o.0 ∷ chain = next ∙ o.1 in
                let size : depth base (o.0 ∷ chain) ≡ m = ap (depth base) (sym same) in
                elim (cases_Bool ((inside base (o.0 ∷ chain)).is_void)) [
                  | inl void ↦
                      let deeper : depth base (o.0 ∷ chain) ≡ deep = cond-true ((inside base (o.0 ∷ chain)).is_void) deep (deep + 1) void in
                      ap (λ r. drop (r - n) (live chain)) (sym deeper ∙ size) ∙ ap (drop (m - n)) (sym (live-void o.0 chain void) ∙ ap live (sym same))
                  | inr none ↦
                      let deeper : depth base (o.0 ∷ chain) ≡ deep + 1 = cond-false ((inside base (o.0 ∷ chain)).is_void) deep (deep + 1) none in
                      let one : suc (deep - n) ≡ m - n = omega (arith, few) in
                      ap (drop (deep - n)) (live-outer o.0 chain none) ∙ ap (λ r. drop r (o.0 ∷ chain)) one
                      ∙ ap (drop (m - n)) (sym (live-all (o.0 ∷ chain) none) ∙ ap live (sym same))
                ]
            | inr d ↦ let same : open_chain classes (k + 1) ≡ drop d.0 chain = next ∙ d.1 in
                let sizes : depth base (drop d.0 chain) ≡ m = ap (depth base) (sym same) in
                let less : m ≤ deep = omega (arith, depth-drop base d.0 chain) in
                let sum : deep - n ≡ deep - m + (m - n) = omega arith in
                ap (λ r. drop r (live chain)) sum ∙ sym (drop-drop (m - n) (deep - m) (live chain))
                ∙ ap (λ r. drop (m - n) (drop (deep - r) (live chain))) (sym sizes)
                ∙ ap (drop (m - n)) (sym (live-drop d.0 chain) ∙ ap live (sym same))
          ];
        }

    -- for each n up to the depth, there is an n-th open opener that does not overflow
    pub nth : (k : ℕ) → k ≤ length classes → (n : ℕ) → 0 < n → n ≤ depth base (open_chain classes k) → (i : ℕ) × IsNth k n i
    nth zero within n some few = absurd (omega arith)
    nth (suc k) within n some few =
        let one : k + 1 ≡ suc k = add-one k in
        let here : (i : ℕ) × IsNth (k + 1) n i = elim (cases_lt (depth base (open_chain classes k)) n) [
          | inr old ↦ let before = nth k (omega arith) n some old in
              (before.0, nth-next k within n old (omega (arith, ap (λ m. depth base (open_chain classes m)) one)) before.0 before.1)
          | inl new ↦
              let rise = depth-next base classes k within in
              let last : depth base (open_chain classes (k + 1)) - n ≡ 0 = omega (arith, rise) in (
                k,
                record {
                  before = omega arith;
                  found = ap (greatest (λ j. nat_lt (depth base (open_chain classes j)) n)) (add-one k)
                      ∙ cond-true (nat_lt (depth base (open_chain classes k)) n) (Some k) (greatest (λ j. nat_lt (depth base (open_chain classes j)) n) k)
                      (lt-ltb (depth base (open_chain classes k)) n new);
                  first = ap (λ m. drop m (live (open_chain classes (k + 1)))) (sym last);
                },
              )
        ] in
        subst (λ (m : ℕ). (i : ℕ) × IsNth m n i) one here

    -- the level and override inside an opener, compared with those of the chain before index k
    abbrev HasState : ℕ → Option ℕ → Type 0
    HasState k None = ((inside base (open_chain classes k)).level ≡ base) × ((inside base (open_chain classes k)).override ≡ None)
    HasState k (Some i) = ((inside base (open_chain classes (i + 1))).level ≡ (inside base (open_chain classes k)).level)
        × ((inside base (open_chain classes (i + 1))).override ≡ (inside base (open_chain classes k)).override)

    has_state : (k : ℕ) → k ≤ length classes → HasState k (opener_before base classes k)
    has_state k within =
        let chain = open_chain classes k in
        let state = live-inside chain in
        elim (cases_lt 0 (depth base chain)) [
          | inl some ↦
              let last = nth k within (depth base chain) some (omega arith) in
              let none : depth base chain - depth base chain ≡ 0 = omega arith in
              let same : live (open_chain classes (last.0 + 1)) ≡ live chain = last.1.first ∙ ap (λ m. drop m (live chain)) none in
              let there = live-inside (open_chain classes (last.0 + 1)) in
              subst (HasState k) (sym last.1.found) (
                sym there.0 ∙ ap (λ c. (inside base c).level) same ∙ state.0,
                sym there.1 ∙ ap (λ c. (inside base c).override) same ∙ state.1,
              )
          | inr few ↦
              let zero_deep : depth base chain ≡ 0 = omega arith in
              let empty : live chain ≡ [] = nil_from_length (live chain) (depth-live chain ∙ zero_deep) in
              let nothing : opener_before base classes k ≡ None = ap (λ n. greatest (λ j. nat_lt (depth base (open_chain classes j)) n) k) zero_deep
              ∙ greatest-none (λ j n. nat_lt (depth base (open_chain classes j)) n) k (λ i. le-ltb (depth base (open_chain classes i)) 0 (omega arith)) in
              subst (HasState k) (sym nothing) (
                sym state.0 ∙ ap (λ c. (inside base c).level) empty,
                sym state.1 ∙ ap (λ c. (inside base c).override) empty,
              )
        ]

    applies-before : (k n : ℕ) (opener : Option ℕ) → n ≡ (if is_pdi (class_at classes k) then k + 1 else k) → HasState n opener → Applies base classes k opener
    applies-before k n None e state =
        (sym (ap (λ m. (inside base (open_chain classes m)).level) e) ∙ state.0, sym (ap (λ m. (inside base (open_chain classes m)).override) e) ∙ state.1)
    applies-before k n (Some i) e state =
        (state.0 ∙ ap (λ m. (inside base (open_chain classes m)).level) e, state.1 ∙ ap (λ m. (inside base (open_chain classes m)).override) e)

    -- the opener that `opener_at` finds for a character has the level and override that apply to the
    -- character
    pub opener_applies : (k : ℕ) → k < length classes → Applies base classes k (opener_at base classes k)
    opener_applies k within =
        let n : ℕ = if is_pdi (class_at classes k) then k + 1 else k in
        let few : n ≤ length classes = elim (cases_Bool (is_pdi (class_at classes k))) [
          | inl pdi ↦ rw (cond-true (is_pdi (class_at classes k)) (k + 1) k pdi) (omega arith)
          | inr other ↦ rw (cond-false (is_pdi (class_at classes k)) (k + 1) k other) (omega arith)
        ] in
        applies-before k n (opener_before base classes n) refl (has_state n few)
