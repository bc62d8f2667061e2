-- The pass over the classes of a paragraph (X1 to X9): its state after k characters, and how each character
-- changes the state.
use Rattle.std.proofs.Common.{◌≡◌, ℕ, ◌+◌, ◌^◌, ◌<◌, ◌≤◌, Bool, true, false, cond, not, List, [], ◌∷◌, ◌++◌, length, get_or, take, drop, map, filter, fold, unwrap_or, if◌then◌else◌, refl, sym, ap, subst, ◌∙◌, inl, inr, arith, zero-add, length-drop, length-take, Option}
use Rattle.std.specs.List.{list_any, prefix_len, range_with_len}
use Rattle.std.proofs.lemmas.Bool.{cond-true, cond-false, cases_Bool, cases_lt}
use Rattle.std.proofs.lemmas.List.{append-nil, get_or-map, get_or_past, length-map, map-append, map-id}
use Rattle.std.proofs.lemmas.List.Elements.{filter-append}
use Rattle.std.proofs.lemmas.List.FromFn.{map-range_with_len_more}
use Rattle.std.proofs.lemmas.List.Sums.{fold_more}
use Rattle.ucd.specs.declared.bidi_class.BidiClass.{BidiClass}
use Rattle.ucd.specs.declared.bidi_class.BidiClass.TheVariants.{ON, LRE, LRO, RLE, RLO, PDF, LRI, RLI, PDI}
use Rattle.bidi.specs.declared.explicit.Openers.{Openers}
use Rattle.bidi.specs.declared.explicit.Status.{Status}
use Rattle.bidi.specs.declared.explicit.Retained.{Retained}
use Rattle.ucd.specs.Classes.{class_at, is_initiator, is_pdi, is_separator}
use Rattle.bidi.specs.Explicit.{close_embedding, close_isolate, open_after, open_chain, inside_at, level_at, type_at}
use Rattle.ucd.specs.Classes.{is_removed}
use Rattle.bidi.specs.Sequences.{retained}
use Rattle.bidi.specs.Retained.{HasAll, IsRetained}
use Rattle.bidi.specs.Openers.{innermost, Holds, Follows, AreOpeners}
use Rattle.bidi.proofs.OpenersLemmas.{innermost-level, innermost-override, level-le}

-- no explicit level is above 125
pub level_at-bound : (base : ℕ) (classes : List BidiClass) (k : ℕ) → base ≤ 1 → level_at base classes k ≤ 125
level_at-bound base classes k low =
    elim (cases_Bool (is_separator (class_at classes k))) [
      | inl separator ↦ rw (cond-true (is_separator (class_at classes k)) base (inside_at base classes k).level separator) (omega arith)
      | inr other ↦ rw (cond-false (is_separator (class_at classes k)) base (inside_at base classes k).level other)
          (level-le base (omega arith) (open_chain classes (if is_pdi (class_at classes k) then k + 1 else k)))
    ]

-- the numbers below k + 1 are the numbers below k, and k itself
pub numbers-more : (k : ℕ) → range_with_len 0 (k + 1) ≡ range_with_len 0 k ++ k ∷ []
numbers-more k =
    sym (map-id (range_with_len 0 (k + 1))) ∙ map-range_with_len_more (λ x. x) 0 k k (zero-add k) ∙ ap (λ (l : List ℕ). l ++ k ∷ []) (map-id (range_with_len 0 k))

-- the indices below k of characters that X9 keeps
abbrev pub retained_to : List BidiClass → ℕ → List ℕ
retained_to classes k = filter (λ i. not (is_removed (class_at classes i))) (range_with_len 0 k)

retained_to-more : (classes : List BidiClass) (k : ℕ) → retained_to classes (k + 1) ≡ retained_to classes k ++ cond (not (is_removed (class_at classes k))) (k ∷ []) []
retained_to-more classes k =
    ap (filter (λ i. not (is_removed (class_at classes i)))) (numbers-more k) ∙ filter-append (λ i. not (is_removed (class_at classes i))) (range_with_len 0 k) (k ∷ [])

pub kept_more : (classes : List BidiClass) (k : ℕ) (kept : List ℕ) → kept ≡ retained_to classes k → is_removed (class_at classes k) ≡ false → kept ++ k ∷ [] ≡ retained_to classes (k + 1)
kept_more classes k kept are e =
    ap (λ (l : List ℕ). l ++ k ∷ []) are ∙ sym (retained_to-more classes k ∙ ap (λ (b : Bool). retained_to classes k ++ cond (not b) (k ∷ []) []) e)

pub kept_same : (classes : List BidiClass) (k : ℕ) (kept : List ℕ) → kept ≡ retained_to classes k → is_removed (class_at classes k) ≡ true → kept ≡ retained_to classes (k + 1)
kept_same classes k kept are e =
    are ∙ sym (retained_to-more classes k ∙ ap (λ (b : Bool). retained_to classes k ++ cond (not b) (k ∷ []) []) e ∙ append-nil (retained_to classes k))

module _ {X : Type 0} (f : ℕ → X) (classes : List BidiClass) (k : ℕ) where
  pub stays : is_removed (class_at classes k) ≡ false → map f (retained_to classes (k + 1)) ≡ map f (retained_to classes k) ++ f k ∷ []
  stays e =
      ap (map f) (retained_to-more classes k ∙ ap (λ (b : Bool). retained_to classes k ++ cond (not b) (k ∷ []) []) e) ∙ map-append f (retained_to classes k) (k ∷ [])

  pub goes : is_removed (class_at classes k) ≡ true → map f (retained_to classes (k + 1)) ≡ map f (retained_to classes k)
  goes e =
      ap (map f) (retained_to-more classes k ∙ ap (λ (b : Bool). retained_to classes k ++ cond (not b) (k ∷ []) []) e ∙ append-nil (retained_to classes k))

-- a character adds at most one opener to the chain
close_embedding-length : (chain : List BidiClass) → length (close_embedding chain) ≤ length chain
close_embedding-length [] = omega arith
close_embedding-length (opener ∷ outer) =
    elim (cases_Bool (is_initiator opener)) [
      | inl isolate ↦ rw (cond-true (is_initiator opener) (opener ∷ outer) outer isolate) (omega arith)
      | inr embedding ↦ rw (cond-false (is_initiator opener) (opener ∷ outer) outer embedding) (omega arith)
    ]

close_isolate-length : (chain : List BidiClass) → length (close_isolate chain) ≤ length chain
close_isolate-length chain =
    elim (cases_Bool (list_any is_initiator chain)) [
      | inl some ↦ rw (cond-true (list_any is_initiator chain) (drop (prefix_len (λ o. not (is_initiator o)) chain + 1) chain) chain some, length-drop) (omega arith)
      | inr none ↦ rw (cond-false (list_any is_initiator chain) (drop (prefix_len (λ o. not (is_initiator o)) chain + 1) chain) chain none) (omega arith)
    ]

open_after-length : (chain : List BidiClass) (class : BidiClass) → length (open_after chain class) ≤ length chain + 1
open_after-length chain RLE = omega arith
open_after-length chain LRE = omega arith
open_after-length chain RLO = omega arith
open_after-length chain LRO = omega arith
open_after-length chain RLI = omega arith
open_after-length chain LRI = omega arith
open_after-length chain PDF = omega (arith, close_embedding-length chain)
open_after-length chain PDI = omega (arith, close_isolate-length chain)
open_after-length chain _ = omega arith

opened-length : (chain classes : List BidiClass) → length (fold open_after chain classes) ≤ length chain + length classes
opened-length chain [] = omega arith
opened-length chain (class ∷ classes) = omega (arith, opened-length (open_after chain class) classes, open_after-length chain class)

pub open_chain-length : (classes : List BidiClass) (k : ℕ) → length (open_chain classes k) ≤ length classes
open_chain-length classes k = omega (arith, opened-length [] (take k classes), length-take k classes)

-- a PDI closes the innermost isolate
open_after-pdi : (chain : List BidiClass) (class : BidiClass) → is_pdi class ≡ true → open_after chain class ≡ close_isolate chain
open_after-pdi chain PDI e = refl
open_after-pdi chain _ e = absurd (cc)

-- the open chain that applies to the character at k
abbrev pub chain_at : List BidiClass → ℕ → List BidiClass
chain_at classes k = open_chain classes (if is_pdi (class_at classes k) then k + 1 else k)

module _ (classes : List BidiClass) (k : ℕ) (within : k < length classes) (class : BidiClass) (at : class ≡ class_at classes k) where
  chain_at-other : is_pdi class ≡ false → chain_at classes k ≡ open_chain classes k
  chain_at-other other = ap (open_chain classes) (cond-false (is_pdi (class_at classes k)) (k + 1) k (sym (ap is_pdi at) ∙ other))

  pub chain_at-is : (if is_pdi class then close_isolate (open_chain classes k) else open_chain classes k) ≡ chain_at classes k
  chain_at-is =
      elim (cases_Bool (is_pdi class)) [
        | inl pdi ↦ let here : is_pdi (class_at classes k) ≡ true = sym (ap is_pdi at) ∙ pdi in
            cond-true (is_pdi class) (close_isolate (open_chain classes k)) (open_chain classes k) pdi
            ∙ sym (ap (open_chain classes) (cond-true (is_pdi (class_at classes k)) (k + 1) k here) ∙ fold_more open_after [] classes k ON within
            ∙ open_after-pdi (open_chain classes k) (class_at classes k) here)
        | inr other ↦ cond-false (is_pdi class) (close_isolate (open_chain classes k)) (open_chain classes k) other ∙ sym (chain_at-other other)
      ]

  pub chain_at-next : (if is_pdi class then chain_at classes k else open_after (chain_at classes k) class) ≡ open_chain classes (k + 1)
  chain_at-next =
      elim (cases_Bool (is_pdi class)) [
        | inl pdi ↦ cond-true (is_pdi class) (chain_at classes k) (open_after (chain_at classes k) class) pdi
            ∙ ap (open_chain classes) (cond-true (is_pdi (class_at classes k)) (k + 1) k (sym (ap is_pdi at) ∙ pdi))
        | inr other ↦ cond-false (is_pdi class) (chain_at classes k) (open_after (chain_at classes k) class) other
            ∙ ap (λ (c : List BidiClass). open_after c class) (chain_at-other other) ∙ ap (open_after (open_chain classes k)) at ∙ sym (fold_more open_after [] classes k ON within)
      ]

  -- the level and type that the pass appends for a character are its explicit level and type
  pub level_is : (base : ℕ) (status : Status) → status ≡ innermost base (chain_at classes k) → (if is_separator class then base else status.level) ≡ level_at base classes k
  level_is base status inner =
      ap (λ (n : ℕ). if is_separator class then base else n) (ap (λ (s : Status). s.level) inner ∙ innermost-level base (chain_at classes k))
      ∙ ap (λ (c : BidiClass). if is_separator c then base else (inside_at base classes k).level) at

  pub type_is : (base : ℕ) (status : Status) → status ≡ innermost base (chain_at classes k) → (if is_separator class then class else unwrap_or status.overriding class) ≡ type_at base classes k
  type_is base status inner =
      ap (λ (o : Option BidiClass). if is_separator class then class else unwrap_or o class) (ap (λ (s : Status). s.overriding) inner ∙ innermost-override base (chain_at classes k))
      ∙ ap (λ (c : BidiClass). if is_separator c then c else unwrap_or (inside_at base classes k).override c) at

-- The state of the pass after k characters: the openers that are open, and the data of the kept characters
-- among the first k.
pub record IsWalked (classes : List BidiClass) (base : ℕ) (k : ℕ) (openers : Openers) (left : Retained) : Type 0 where
  pub holds : Holds base openers (open_chain classes k)
  pub classes_are : left.classes.items ≡ map (class_at classes) (retained_to classes k)
  pub levels_are : left.levels.items ≡ map (level_at base classes) (retained_to classes k)
  pub types_are : left.types.items ≡ map (type_at base classes) (retained_to classes k)

module _ {classes : List BidiClass} {base k : ℕ} {openers : Openers} {left : Retained} (walked : IsWalked classes base k openers left) (within : k < length classes)
    {class : BidiClass} (at : class ≡ class_at classes k) where
  pub IsWalked-reached : (reached : Openers) → Follows openers reached (λ chain. if is_pdi class then close_isolate chain else chain) → Holds base reached (chain_at classes k)
  IsWalked-reached reached follows = subst (Holds base reached) (chain_at-is classes k within class at) (follows base (open_chain classes k) walked.holds)

  -- for a character that X9 removes, the pass updates the openers and appends nothing
  pub IsWalked-removed : (reached passed : Openers) → Holds base reached (chain_at classes k) → Follows reached passed (λ chain. if is_pdi class then chain else open_after chain class)
      → is_removed class ≡ true → IsWalked classes base (k + 1) passed left
  IsWalked-removed reached passed holds follows removed =
      let here : is_removed (class_at classes k) ≡ true = sym (ap is_removed at) ∙ removed in
      record {
        holds = subst (Holds base passed) (chain_at-next classes k within class at) (follows base (chain_at classes k) holds);
        classes_are = walked.classes_are ∙ sym (goes (class_at classes) classes k here);
        levels_are = walked.levels_are ∙ sym (goes (level_at base classes) classes k here);
        types_are = walked.types_are ∙ sym (goes (type_at base classes) classes k here);
      }

  -- for a character that X9 keeps, the pass updates the openers and appends the character's class, level and
  -- type
  pub IsWalked-retained : (reached passed : Openers) → Holds base reached (chain_at classes k) → Follows reached passed (λ chain. if is_pdi class then chain else open_after chain class)
      → is_removed class ≡ false → (status : Status) → status ≡ innermost base (chain_at classes k)
      → (next : Retained) → next.classes.items ≡ left.classes.items ++ class ∷ []
      → next.levels.items ≡ left.levels.items ++ (if is_separator class then base else status.level) ∷ []
      → next.types.items ≡ left.types.items ++ (if is_separator class then class else unwrap_or status.overriding class) ∷ []
      → IsWalked classes base (k + 1) passed next
  IsWalked-retained reached passed holds follows kept status inner next one_class one_level one_type =
      let here : is_removed (class_at classes k) ≡ false = sym (ap is_removed at) ∙ kept in
      record {
        holds = subst (Holds base passed) (chain_at-next classes k within class at) (follows base (chain_at classes k) holds);
        classes_are = one_class ∙ rw (walked.classes_are, at) (sym (stays (class_at classes) classes k here));
        levels_are = one_level ∙ rw (walked.levels_are, level_is classes k within class at base status inner) (sym (stays (level_at base classes) classes k here));
        types_are = one_type ∙ rw (walked.types_are, type_is classes k within class at base status inner) (sym (stays (type_at base classes) classes k here));
      }

  pub AreOpeners-walked : base ≤ 1 → length classes < 2 ^ 63 → AreOpeners openers
  AreOpeners-walked low short = record {
    base = base;
    chain = open_chain classes k;
    low = low;
    short = omega (arith, open_chain-length classes k);
    holds = walked.holds;
  }

  pub AreOpeners-reached : (reached : Openers) → base ≤ 1 → length classes < 2 ^ 63 → Holds base reached (chain_at classes k) → AreOpeners reached
  AreOpeners-reached reached low short holds = record {
    base = base;
    chain = chain_at classes k;
    low = low;
    short = omega (arith, open_chain-length classes (if is_pdi (class_at classes k) then k + 1 else k));
    holds = holds;
  }

-- the pass keeps a class, a level and a type for each kept character
pub kept_all : (classes : List BidiClass) (base : ℕ) (left : Retained) → base ≤ 1 → IsRetained classes base left → HasAll left
kept_all classes base left low kept =
    let places = retained classes in
    let size : length left.levels.items ≡ length places = ap length kept.levels_are ∙ length-map places (level_at base classes) in
    record {
      classes = ap length kept.classes_are ∙ length-map places (class_at classes) ∙ sym size;
      types = ap length kept.types_are ∙ length-map places (type_at base classes) ∙ sym size;
      bounded = λ k. elim (cases_lt k (length places)) [
        | inl within ↦ rw (ap (λ levels. get_or levels k 0) kept.levels_are ∙ get_or-map (level_at base classes) places k 0 0 within) (level_at-bound base classes (get_or places k 0) low)
        | inr past ↦ rw (get_or_past left.levels.items k 0 (omega arith)) (omega arith)
      ];
    }
