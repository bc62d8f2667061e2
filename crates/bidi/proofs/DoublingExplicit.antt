-- Explicit levels and types, and the characters that X9 keeps, with a repeated character.
use Rattle.std.proofs.Common.{◌≡◌, ℕ, zero, suc, ◌+◌, ◌<◌, ◌≤◌, nat_lt, Bool, true, false, ◌||◌, not, if◌then◌else◌, List, [], ◌∷◌, length, get_or, take, map, filter, fold, unwrap_or, refl, sym, ap, subst, ◌∙◌, inl, inr, arith, zero-add}
use Rattle.std.specs.List.{range_with_len}
use Rattle.std.proofs.lemmas.Bool.{cond-true, cond-false, cases_Bool, cases_eq, cases_lt}
use Rattle.std.proofs.lemmas.List.{get_or-take}
use Rattle.std.proofs.lemmas.List.FromFn.{get_or-map-range_with_len}
use Rattle.ucd.specs.declared.bidi_class.BidiClass.{BidiClass}
use Rattle.ucd.specs.declared.bidi_class.BidiClass.TheVariants.{ON, RLE, LRE, RLO, LRO, PDF, RLI, LRI, FSI, PDI, B, BN}
use Rattle.ucd.specs.Classes.{class_at, is_pdi, is_removed, is_separator}
use Rattle.bidi.specs.Doubling.{double, can_be_doubled}
use Rattle.bidi.specs.Explicit.{Inside, directed, directed_at, enter, inside, inside_at, level_above, level_at, open_after, open_chain, override_of, type_at}
use Rattle.bidi.specs.Levels.{put_back}
use Rattle.bidi.proofs.DoublingIsolates.{IsInner}
use Rattle.bidi.proofs.DoublingLists.{Ends, collapse, collapse-high, collapse-low, collapse-next, ends-after, get_or-double, take-double-high, take-double-low}

-- ---- classes that may be repeated
pub repeat-inner : (class : BidiClass) → can_be_doubled class ≡ true → IsInner class
repeat-inner LRI is = absurd (cc)
repeat-inner RLI is = absurd (cc)
repeat-inner FSI is = absurd (cc)
repeat-inner PDI is = absurd (cc)
repeat-inner _ is = record { opens = refl; shuts = refl }

pub repeat-opens : (class : BidiClass) → can_be_doubled class ≡ true → (chain : List BidiClass) → open_after chain class ≡ chain
repeat-opens RLE is chain = absurd (cc)
repeat-opens LRE is chain = absurd (cc)
repeat-opens RLO is chain = absurd (cc)
repeat-opens LRO is chain = absurd (cc)
repeat-opens RLI is chain = absurd (cc)
repeat-opens LRI is chain = absurd (cc)
repeat-opens PDF is chain = absurd (cc)
repeat-opens PDI is chain = absurd (cc)
repeat-opens _ is chain = refl

pub repeat-kept : (class : BidiClass) → can_be_doubled class ≡ true → is_removed class ≡ false
repeat-kept RLE is = absurd (cc)
repeat-kept LRE is = absurd (cc)
repeat-kept RLO is = absurd (cc)
repeat-kept LRO is = absurd (cc)
repeat-kept PDF is = absurd (cc)
repeat-kept BN is = absurd (cc)
repeat-kept _ is = refl

repeat-continues : (class : BidiClass) → can_be_doubled class ≡ true → is_separator class ≡ false
repeat-continues B is = absurd (cc)
repeat-continues _ is = refl

repeat-directed : (classes : List BidiClass) (k : ℕ) (class : BidiClass) → can_be_doubled class ≡ true → directed_at classes k class ≡ class
repeat-directed classes k FSI is = absurd (cc)
repeat-directed classes k _ is = refl

pub directed-here : (classes : List BidiClass) (k : ℕ) → k < length classes → can_be_doubled (class_at classes k) ≡ true → class_at (directed classes) k ≡ class_at classes k
directed-here classes k within is =
    get_or-map-range_with_len (λ j. directed_at classes j (class_at classes j)) 0 (length classes) k k ON within (zero-add k)
    ∙ repeat-directed classes k (class_at classes k) is

-- ---- the open chain
chain-ignores : (m : ℕ) (ys chain : List BidiClass) → ((chain : List BidiClass) → open_after chain (class_at ys m) ≡ chain) → fold open_after chain (double m ys) ≡ fold open_after chain ys
chain-ignores m [] chain same = refl
chain-ignores zero (y ∷ ys) chain same = ap (λ c. fold open_after c ys) (same (open_after chain y))
chain-ignores (suc m) (y ∷ ys) chain same = chain-ignores m ys (open_after chain y) same

chain-skips : (m : ℕ) (ys chain : List BidiClass) → ((chain : List BidiClass) → open_after chain (class_at ys m) ≡ chain)
    → fold open_after chain (take (suc m) ys) ≡ fold open_after chain (take m ys)
chain-skips zero [] chain same = refl
chain-skips (suc m) [] chain same = refl
chain-skips zero (y ∷ ys) chain same = same chain
chain-skips (suc m) (y ∷ ys) chain same = chain-skips m ys (open_after chain y) same

module _ (classes : List BidiClass) (k : ℕ) (same : (chain : List BidiClass) → open_after chain (class_at classes k) ≡ chain) where
  chain-double : (end old : ℕ) → Ends k end old → open_chain (double k classes) end ≡ open_chain classes old
  chain-double end old ends =
      elim ends [
        | inl e ↦ ap (open_chain (double k classes)) e.0 ∙ ap (fold open_after []) (take-double-low old k classes e.1)
        | inr e ↦
            ap (open_chain (double k classes)) e.0 ∙ ap (fold open_after []) (take-double-high old k classes e.1)
            ∙ chain-ignores k (take old classes) [] (λ chain. ap (open_after chain) (get_or-take old classes k ON e.1) ∙ same chain)
      ]

  chain-here : (j : ℕ) → open_chain (double k classes) j ≡ open_chain classes (collapse k j)
  chain-here j =
      elim (cases_lt k j) [
        | inr low ↦ chain-double j (collapse k j) (inl (sym (collapse-low k j low), omega (arith, low, collapse-low k j low)))
        | inl high ↦ elim (cases_eq j (suc k)) [
          | inr ne ↦ chain-double j (collapse k j) (inr (sym (collapse-high k j high), omega (arith, high, ne, collapse-high k j high)))
          | inl e ↦
              ap (open_chain (double k classes)) e ∙ ap (fold open_after []) (take-double-low (suc k) k classes (omega arith))
              ∙ chain-skips k classes [] same
              ∙ ap (open_chain classes) (sym (ap (collapse k) e ∙ collapse-next k))
        ]
      ]

  inside-by : (pdi : Bool) (j : ℕ) → open_chain (double k classes) (if pdi then j + 1 else j) ≡ open_chain classes (if pdi then collapse k j + 1 else collapse k j)
  inside-by true j = chain-double (j + 1) (collapse k j + 1) (ends-after k j)
  inside-by false j = chain-here j

  inside-double : (base j : ℕ) → inside_at base (double k classes) j ≡ inside_at base classes (collapse k j)
  inside-double base j =
      ap (λ c. inside base (open_chain (double k classes) (if is_pdi c then j + 1 else j))) (get_or-double k classes j ON)
      ∙ ap (inside base) (inside-by (is_pdi (class_at classes (collapse k j))) j)

  pub level_at-double : (base j : ℕ) → level_at base (double k classes) j ≡ level_at base classes (collapse k j)
  level_at-double base j =
      ap (λ c. if is_separator c then base else (inside_at base (double k classes) j).level) (get_or-double k classes j ON)
      ∙ ap (λ state. if is_separator (class_at classes (collapse k j)) then base else state.level) (inside-double base j)

  pub type_at-double : (base j : ℕ) → type_at base (double k classes) j ≡ type_at base classes (collapse k j)
  type_at-double base j =
      ap (λ c. if is_separator c then c else unwrap_or (inside_at base (double k classes) j).override c) (get_or-double k classes j ON)
      ∙ ap (λ state. if is_separator (class_at classes (collapse k j)) then class_at classes (collapse k j) else unwrap_or state.override (class_at classes (collapse k j))) (inside-double base j)

-- if a type may be repeated, it may still be repeated after an override has been applied
override-repeats : (opener class : BidiClass) → can_be_doubled class ≡ true → can_be_doubled (unwrap_or (override_of opener) class) ≡ true
override-repeats RLO class is = refl
override-repeats LRO class is = refl
override-repeats _ class is = is

enter-repeats : (outer : Inside) (opener class : BidiClass) → can_be_doubled class ≡ true → can_be_doubled (unwrap_or outer.override class) ≡ true → can_be_doubled (unwrap_or (enter outer opener).override class) ≡ true
enter-repeats outer opener class is before =
    elim (outer.is_void || nat_lt 125 (level_above opener outer.level)) as (λ b. can_be_doubled (unwrap_or (if b then record outer { is_void = true }
    else record { level = level_above opener outer.level; override = override_of opener; is_void = false }).override class) ≡ true) [
      | true ↦ before
      | false ↦ override-repeats opener class is
    ]

inside-repeats : (base : ℕ) (chain : List BidiClass) (class : BidiClass) → can_be_doubled class ≡ true → can_be_doubled (unwrap_or (inside base chain).override class) ≡ true
inside-repeats base [] class is = is
inside-repeats base (opener ∷ outer) class is = enter-repeats (inside base outer) opener class is (inside-repeats base outer class is)

pub type-repeats : (base : ℕ) (classes : List BidiClass) (k : ℕ) → can_be_doubled (class_at classes k) ≡ true → can_be_doubled (type_at base classes k) ≡ true
type-repeats base classes k is =
    let class = class_at classes k in
    let other = unwrap_or (inside_at base classes k).override class in
    ap can_be_doubled (cond-false (is_separator class) class other (repeat-continues class is))
    ∙ inside-repeats base (open_chain classes (if is_pdi class then k + 1 else k)) class is

-- ---- the numbers of a range that pass a test, where the tests of the two equal items agree
module _ {T : Type 0} (k : ℕ) (p q : ℕ → Bool) (same : (j : ℕ) → q j ≡ p (collapse k j)) (here : p k ≡ true) (f g : ℕ → T) (agrees : (j : ℕ) → g j ≡ f (collapse k j)) where
  past : (a : ℕ) → k < a → collapse k (suc a) ≡ a
  past a above = omega (arith, collapse-high k (suc a) (omega (arith, above)))

  stay-past : (n a : ℕ) → k < a → map g (filter q (range_with_len (suc a) n)) ≡ map f (filter p (range_with_len a n))
  stay-past zero a above = refl
  stay-past (suc n) a above =
      let test : q (suc a) ≡ p a = same (suc a) ∙ ap p (past a above) in
      let value : g (suc a) ≡ f a = agrees (suc a) ∙ ap f (past a above) in
      let e : suc a + 1 ≡ suc (a + 1) = omega arith in
      let rest = filter q (range_with_len (suc a + 1) n) in
      let old = filter p (range_with_len (a + 1) n) in
      let later : map g rest ≡ map f old = ap (λ m. map g (filter q (range_with_len m n))) e ∙ stay-past n (a + 1) (omega (arith, above)) in
      elim (cases_Bool (p a)) [
        | inl kept ↦ ap (map g) (cond-true (q (suc a)) (suc a ∷ rest) rest (test ∙ kept)) ∙ ap (λ v. v ∷ map g rest) value ∙ ap (λ vs. f a ∷ vs) later
            ∙ ap (map f) (sym (cond-true (p a) (a ∷ old) old kept))
        | inr gone ↦ ap (map g) (cond-false (q (suc a)) (suc a ∷ rest) rest (test ∙ gone)) ∙ later ∙ ap (map f) (sym (cond-false (p a) (a ∷ old) old gone))
      ]

  pub stay-double : (n a m : ℕ) → a + m ≡ k → m < n → map g (filter q (range_with_len a (suc n))) ≡ double (length (filter p (range_with_len a m))) (map f (filter p (range_with_len a n)))
  stay-double zero a m e below = absurd (omega (arith, below))
  stay-double (suc n) a zero e below =
      let at : a ≡ k = omega (arith, e) in
      let first : collapse k a ≡ k = ap (collapse k) at ∙ collapse-low k k (omega arith) in
      let next : collapse k (a + 1) ≡ k = (let h : a + 1 ≡ suc k = omega (arith, at) in ap (collapse k) h ∙ collapse-next k) in
      let h : a + 1 + 1 ≡ suc (a + 1) = omega arith in
      let rest = filter q (range_with_len (a + 1 + 1) n) in
      let old = filter p (range_with_len (a + 1) n) in
      let later : map g rest ≡ map f old = ap (λ m. map g (filter q (range_with_len m n))) h ∙ stay-past n (a + 1) (omega (arith, at)) in
      let kept : p a ≡ true = ap p at ∙ here in
      ap (map g) (cond-true (q a) (a ∷ filter q ((a + 1) ∷ range_with_len (a + 1 + 1) n)) (filter q ((a + 1) ∷ range_with_len (a + 1 + 1) n)) (same a ∙ ap p first ∙ here))
      ∙ ap (λ xs. g a ∷ map g xs) (cond-true (q (a + 1)) ((a + 1) ∷ rest) rest (same (a + 1) ∙ ap p next ∙ here))
      ∙ ap (λ v. v ∷ g (a + 1) ∷ map g rest) (agrees a ∙ ap f (first ∙ sym at))
      ∙ ap (λ v. f a ∷ v ∷ map g rest) (agrees (a + 1) ∙ ap f (next ∙ sym at))
      ∙ ap (λ vs. f a ∷ f a ∷ vs) later
      ∙ ap (λ xs. double 0 (map f xs)) (sym (cond-true (p a) (a ∷ old) old kept))
  stay-double (suc n) a (suc m) e below =
      let first : collapse k a ≡ a = collapse-low k a (omega (arith, e)) in
      let test : q a ≡ p a = same a ∙ ap p first in
      let rest = filter q (range_with_len (a + 1) (suc n)) in
      let old = filter p (range_with_len (a + 1) n) in
      let front = filter p (range_with_len (a + 1) m) in
      let later : map g rest ≡ double (length front) (map f old) = stay-double n (a + 1) m (omega (arith, e)) (omega (arith, below)) in
      elim (cases_Bool (p a)) [
        | inl kept ↦
            ap (map g) (cond-true (q a) (a ∷ rest) rest (test ∙ kept)) ∙ ap (λ v. v ∷ map g rest) (agrees a ∙ ap f first) ∙ ap (λ vs. f a ∷ vs) later
            ∙ ap (λ xs. double (length xs) (f a ∷ map f old)) (sym (cond-true (p a) (a ∷ front) front kept))
            ∙ ap (λ xs. double (length (filter p (range_with_len a (suc m)))) (map f xs)) (sym (cond-true (p a) (a ∷ old) old kept))
        | inr gone ↦
            ap (map g) (cond-false (q a) (a ∷ rest) rest (test ∙ gone)) ∙ later
            ∙ ap (λ xs. double (length xs) (map f old)) (sym (cond-false (p a) (a ∷ front) front gone))
            ∙ ap (λ xs. double (length (filter p (range_with_len a (suc m)))) (map f xs)) (sym (cond-false (p a) (a ∷ old) old gone))
      ]

-- ---- the item that is made from k, and its index
module _ {T : Type 0} (k : ℕ) (p : ℕ → Bool) (here : p k ≡ true) (f : ℕ → T) (d : T) where
  pub stay-at : (n a m : ℕ) → a + m ≡ k → m < n → (length (filter p (range_with_len a m)) < length (map f (filter p (range_with_len a n))))
      × (get_or (map f (filter p (range_with_len a n))) (length (filter p (range_with_len a m))) d ≡ f k)
  stay-at zero a m e below = absurd (omega (arith, below))
  stay-at (suc n) a zero e below =
      let at : a ≡ k = omega (arith, e) in
      let old = filter p (range_with_len (a + 1) n) in
      subst (λ xs. (0 < length (map f xs)) × (get_or (map f xs) 0 d ≡ f k)) (sym (cond-true (p a) (a ∷ old) old (ap p at ∙ here))) (omega arith, ap f at)
  stay-at (suc n) a (suc m) e below =
      let old = filter p (range_with_len (a + 1) n) in
      let front = filter p (range_with_len (a + 1) m) in
      let later = stay-at n (a + 1) m (omega (arith, e)) (omega (arith, below)) in
      elim (cases_Bool (p a)) [
        | inl kept ↦
            subst (λ ys. (length ys < length (map f (filter p (range_with_len a (suc n))))) × (get_or (map f (filter p (range_with_len a (suc n)))) (length ys) d ≡ f k))
            (sym (cond-true (p a) (a ∷ front) front kept))
            (subst (λ xs. (length (a ∷ front) < length (map f xs)) × (get_or (map f xs) (length (a ∷ front)) d ≡ f k)) (sym (cond-true (p a) (a ∷ old) old kept))
            (omega (arith, later.0), later.1))
        | inr gone ↦
            subst (λ ys. (length ys < length (map f (filter p (range_with_len a (suc n))))) × (get_or (map f (filter p (range_with_len a (suc n)))) (length ys) d ≡ f k))
            (sym (cond-false (p a) (a ∷ front) front gone))
            (subst (λ xs. (length front < length (map f xs)) × (get_or (map f xs) (length front) d ≡ f k)) (sym (cond-false (p a) (a ∷ old) old gone)) later)
      ]

-- how many of the first k characters X9 keeps
abbrev pub kept_to : ℕ → List BidiClass → ℕ
kept_to zero classes = 0
kept_to (suc k) [] = 0
kept_to (suc k) (class ∷ classes) = if is_removed class then kept_to k classes else suc (kept_to k classes)

pub kept-range : (p : ℕ → Bool) (m a : ℕ) (classes : List BidiClass) → m ≤ length classes → ((i : ℕ) → p (a + i) ≡ not (is_removed (class_at classes i))) → length (filter p (range_with_len a m)) ≡ kept_to m classes
kept-range p zero a classes within same = refl
kept-range p (suc m) a [] within same = absurd (omega (arith, within))
kept-range p (suc m) a (class ∷ classes) within same =
    let at : a + 0 ≡ a = omega arith in
    let test : p a ≡ not (is_removed class) = ap p (sym at) ∙ same 0 in
    let rest = filter p (range_with_len (a + 1) m) in
    let later : length rest ≡ kept_to m classes =
    kept-range p m (a + 1) classes (omega (arith, within)) (λ i. let e : a + 1 + i ≡ a + suc i = omega arith in ap p e ∙ same (suc i)) in
    elim (cases_Bool (is_removed class)) [
      | inl gone ↦ ap length (cond-false (p a) (a ∷ rest) rest (test ∙ ap not gone)) ∙ later ∙ sym (cond-true (is_removed class) (kept_to m classes) (suc (kept_to m classes)) gone)
      | inr kept ↦ ap length (cond-true (p a) (a ∷ rest) rest (test ∙ ap not kept)) ∙ ap suc later ∙ sym (cond-false (is_removed class) (kept_to m classes) (suc (kept_to m classes)) kept)
    ]

-- ---- inserting the levels of removed characters
put-removed : (before : ℕ) (class : BidiClass) (classes : List BidiClass) (levels : List ℕ) → is_removed class ≡ true → put_back before (class ∷ classes) levels ≡ before ∷ put_back before classes levels
put-removed before class classes [] gone = refl
put-removed before class classes (level ∷ levels) gone =
    cond-true (is_removed class) (before ∷ put_back before classes (level ∷ levels)) (level ∷ put_back level classes levels) gone

put-kept : (before : ℕ) (class : BidiClass) (classes : List BidiClass) (level : ℕ) (levels : List ℕ) → is_removed class ≡ false
    → put_back before (class ∷ classes) (level ∷ levels) ≡ level ∷ put_back level classes levels
put-kept before class classes level levels kept =
    cond-false (is_removed class) (before ∷ put_back before classes (level ∷ levels)) (level ∷ put_back level classes levels) kept

pub put_back-double : (k : ℕ) (classes : List BidiClass) (before : ℕ) (levels : List ℕ) → is_removed (class_at classes k) ≡ false
    → put_back before (double k classes) (double (kept_to k classes) levels) ≡ double k (put_back before classes levels)
put_back-double k [] before levels kept = refl
put_back-double zero (class ∷ classes) before [] kept = refl
put_back-double (suc k) (class ∷ classes) before [] kept = ap (λ xs. before ∷ xs) (put_back-double k classes before [] kept)
put_back-double zero (class ∷ classes) before (level ∷ levels) kept =
    put-kept before class (class ∷ classes) level (level ∷ levels) kept ∙ ap (λ xs. level ∷ xs) (put-kept level class classes level levels kept)
    ∙ ap (double 0) (sym (put-kept before class classes level levels kept))
put_back-double (suc k) (class ∷ classes) before (level ∷ levels) kept =
    elim (cases_Bool (is_removed class)) [
      | inl gone ↦
          ap (λ n. put_back before (class ∷ double k classes) (double n (level ∷ levels))) (cond-true (is_removed class) (kept_to k classes) (suc (kept_to k classes)) gone)
          ∙ put-removed before class (double k classes) (double (kept_to k classes) (level ∷ levels)) gone
          ∙ ap (λ xs. before ∷ xs) (put_back-double k classes before (level ∷ levels) kept)
          ∙ ap (double (suc k)) (sym (put-removed before class classes (level ∷ levels) gone))
      | inr stays ↦
          ap (λ n. put_back before (class ∷ double k classes) (double n (level ∷ levels))) (cond-false (is_removed class) (kept_to k classes) (suc (kept_to k classes)) stays)
          ∙ put-kept before class (double k classes) level (double (kept_to k classes) levels) stays
          ∙ ap (λ xs. level ∷ xs) (put_back-double k classes level levels kept)
          ∙ ap (double (suc k)) (sym (put-kept before class classes level levels stays))
    ]
