-- The levels of a paragraph with a repeated character.
use Rattle.std.proofs.Common.{◌≡◌, ◌≢◌, ℕ, zero, suc, ◌+◌, ◌<◌, ◌==◌, Bool, true, false, not, if◌then◌else◌, List, [], ◌∷◌, length, get_or, set, map, filter, fold, slice_index, Option, None, refl, sym, ap, subst, ◌∙◌, inl, inr, arith}
use Rattle.std.specs.List.{range_with_len}
use Rattle.std.proofs.lemmas.Bool.{cond-true, cond-false, cases_eq, eq-eqb, ne_eqb, eqb-true}
use Rattle.std.proofs.lemmas.List.{get_or-map, length-map}
use Rattle.std.proofs.lemmas.List.FromFn.{length-map-range_with_len}
use Rattle.ucd.specs.declared.bidi_class.BidiClass.{BidiClass}
use Rattle.ucd.specs.declared.bidi_class.BidiClass.TheVariants.{ON}
use Rattle.ucd.specs.declared.bracket.Bracket.{Bracket}
use Rattle.ucd.specs.Classes.{class_at, is_removed}
use Rattle.bidi.specs.Doubling.{double, can_be_doubled}
use Rattle.bidi.specs.Explicit.{directed, directed_at, level_at, type_at}
use Rattle.bidi.specs.Levels.{levels_by, levels_in, paragraph_levels, put, put_back, resolved, sequence_levels}
use Rattle.bidi.specs.Sequences.{eos, first_of, sequences, sos, retained}
use Rattle.bidi.proofs.DoublingBrackets.{sequence-double}
use Rattle.bidi.proofs.DoublingExplicit.{directed-here, kept-range, kept_to, level_at-double, put_back-double, repeat-inner, repeat-kept, repeat-opens, stay-at, stay-double, type-repeats, type_at-double}
use Rattle.bidi.proofs.DoublingIsolates.{IsInner, directed-double}
use Rattle.bidi.proofs.DoublingLists.{collapse, collapse-next, collapse-shift, get_or-double, length-double, shift, shift-low}
use Rattle.bidi.proofs.DoublingSequences.{eos-double, first-double, sequences-double, sos-double, widen, widen-other, widen-same}

-- the list in which each item is repeated if its flag is set
abbrev pub stutter : {T : Type 0} → List Bool → List T → List T
stutter [] items = items
stutter (flag ∷ flags) [] = []
stutter (flag ∷ flags) (item ∷ items) = item ∷ (if flag then item ∷ stutter flags items else stutter flags items)

abbrev pub flags_of : ℕ → List ℕ → List Bool
flags_of k places = map (λ i. k == i) places

-- the given flags after n flags that are not set
abbrev pad : ℕ → List Bool → List Bool
pad zero flags = flags
pad (suc n) flags = false ∷ pad n flags

pad-more : (n : ℕ) (flags : List Bool) → pad n (false ∷ flags) ≡ pad (suc n) flags
pad-more zero flags = refl
pad-more (suc n) flags = ap (λ xs. false ∷ xs) (pad-more n flags)

module _ {T : Type 0} where
  stutter-none : (n : ℕ) (xs : List T) → stutter (pad n []) xs ≡ xs
  stutter-none zero xs = refl
  stutter-none (suc n) [] = refl
  stutter-none (suc n) (x ∷ xs) = ap (λ rest. x ∷ rest) (stutter-none n xs)

  stutter-more : (n : ℕ) (flags : List Bool) (xs : List T) → stutter (pad n (true ∷ flags)) xs ≡ double n (stutter (pad (suc n) flags) xs)
  stutter-more zero flags [] = refl
  stutter-more (suc n) flags [] = refl
  stutter-more zero flags (x ∷ xs) = refl
  stutter-more (suc n) flags (x ∷ xs) = ap (λ rest. x ∷ rest) (stutter-more n flags xs)

  stutter-at : (n : ℕ) (flags : List Bool) (xs : List T) (d : T) → get_or (stutter (pad (suc n) flags) xs) n d ≡ get_or xs n d
  stutter-at n flags [] d = refl
  stutter-at zero flags (x ∷ xs) d = refl
  stutter-at (suc n) flags (x ∷ xs) d = stutter-at n flags xs d

  stutter-long : (n : ℕ) (flags : List Bool) (xs : List T) → n < length xs → n < length (stutter (pad (suc n) flags) xs)
  stutter-long n flags [] within = absurd (omega (arith, within))
  stutter-long zero flags (x ∷ xs) within = omega arith
  stutter-long (suc n) flags (x ∷ xs) within = let more = stutter-long n flags xs (omega (arith, within)) in omega (arith, more)

-- ---- the levels of a sequence with repeated characters
module _ (look : ℕ → Option Bracket) (level : ℕ) (sos eos : BidiClass) (characters : List ℕ) (types : List BidiClass) where
  -- the characters whose flags are set may be repeated
  AreCalm : ℕ → List Bool → Type 0
  AreCalm n flags = (i : ℕ) → get_or flags i false ≡ true → (look (slice_index characters (n + i)) ≡ None) × (can_be_doubled (class_at types (n + i)) ≡ true) × (n + i < length types)

  abbrev Repeats : List Bool → Type 0
  Repeats flags = sequence_levels look level sos eos (stutter flags characters) (stutter flags types) ≡ stutter flags (sequence_levels look level sos eos characters types)

  calm-next : (n : ℕ) (flag : Bool) (flags : List Bool) → AreCalm n (flag ∷ flags) → AreCalm (suc n) flags
  unfolding AreCalm
  calm-next n flag flags calm i set =
      let e : n + suc i ≡ suc n + i = omega arith in
      subst (λ j. (look (slice_index characters j) ≡ None) × (can_be_doubled (class_at types j) ≡ true) × (j < length types)) e (calm (suc i) set)

  stutter-levels : (flags : List Bool) (n : ℕ) → AreCalm n flags → Repeats (pad n flags)
  unfolding AreCalm
  stutter-levels [] n calm =
      let levels = sequence_levels look level sos eos in
      ap (λ xs. levels xs (stutter (pad n []) types)) (stutter-none n characters) ∙ ap (levels characters) (stutter-none n types)
      ∙ sym (stutter-none n (levels characters types))
  stutter-levels (false ∷ flags) n calm = subst Repeats (sym (pad-more n flags)) (stutter-levels flags (suc n) (calm-next n false flags calm))
  stutter-levels (true ∷ flags) n calm =
      let levels = sequence_levels look level sos eos in
      let more = pad (suc n) flags in
      let e : n + 0 ≡ n = omega arith in
      let here = subst (λ j. (look (slice_index characters j) ≡ None) × (can_be_doubled (class_at types j) ≡ true) × (j < length types)) e (calm 0 refl) in
      ap (λ xs. levels xs (stutter (pad n (true ∷ flags)) types)) (stutter-more n flags characters)
      ∙ ap (levels (double n (stutter more characters))) (stutter-more n flags types)
      ∙ sequence-double look level sos eos (stutter more characters) (stutter more types) n
      (ap look (stutter-at n flags characters 0) ∙ here.0) (ap can_be_doubled (stutter-at n flags types ON) ∙ here.1) (stutter-long n flags types here.2)
      ∙ ap (double n) (stutter-levels flags (suc n) (calm-next n true flags calm))
      ∙ sym (stutter-more n flags (levels characters types))

-- ---- the items at the new indices
if-map : {T : Type 0} (g : ℕ → T) (b : Bool) (i : ℕ) (xs : List ℕ) → map g (if b then i ∷ xs else xs) ≡ (if b then g i ∷ map g xs else map g xs)
if-map g true i xs = refl
if-map g false i xs = refl

map-widen : {T : Type 0} (k : ℕ) (f g : ℕ → T) → ((j : ℕ) → g j ≡ f (collapse k j)) → (places : List ℕ) → map g (widen k places) ≡ stutter (flags_of k places) (map f places)
map-widen k f g same [] = refl
map-widen k f g same (a ∷ places) =
    ap (λ v. v ∷ map g (if k == a then suc k ∷ widen k places else widen k places)) (same (shift k a) ∙ ap f (collapse-shift k a))
    ∙ ap (λ xs. f a ∷ xs) (
    if-map g (k == a) (suc k) (widen k places)
    ∙ ap (λ xs. if k == a then g (suc k) ∷ xs else xs) (map-widen k f g same places)
    ∙ elim (cases_eq k a) [
      | inl e ↦ ap (λ v. if k == a then v ∷ stutter (flags_of k places) (map f places) else stutter (flags_of k places) (map f places)) (same (suc k) ∙ ap f (collapse-next k ∙ e))
      | inr ne ↦ cond-false (k == a) (g (suc k) ∷ stutter (flags_of k places) (map f places)) (stutter (flags_of k places) (map f places)) (ne_eqb k a ne)
          ∙ sym (cond-false (k == a) (f a ∷ stutter (flags_of k places) (map f places)) (stutter (flags_of k places) (map f places)) (ne_eqb k a ne))
    ])

flagged-at : (k : ℕ) (places : List ℕ) (i : ℕ) → get_or (flags_of k places) i false ≡ true → (i < length places) × (get_or places i 0 ≡ k)
flagged-at k [] i set = absurd (cc)
flagged-at k (a ∷ places) zero set = (omega arith, sym (eqb-true k a set))
flagged-at k (a ∷ places) (suc i) set = let rest = flagged-at k places i set in (omega (arith, rest.0), rest.1)

-- ---- writing the levels of a sequence
set-other : (k a v : ℕ) (xs : List ℕ) → k ≢ a → set (double k xs) (shift k a) v ≡ double k (set xs a v)
set-other k a v [] ne = refl
set-other zero zero v (x ∷ xs) ne = absurd (ne refl)
set-other zero (suc a) v (x ∷ xs) ne = refl
set-other (suc k) zero v (x ∷ xs) ne = refl
set-other (suc k) (suc a) v (x ∷ xs) ne = ap (λ rest. x ∷ rest) (set-other k a v xs (λ e. ne (ap suc e)))

set-twice : (k v : ℕ) (xs : List ℕ) → set (set (double k xs) k v) (suc k) v ≡ double k (set xs k v)
set-twice k v [] = refl
set-twice zero v (x ∷ xs) = refl
set-twice (suc k) v (x ∷ xs) = ap (λ rest. x ∷ rest) (set-twice k v xs)

put-double : (k : ℕ) (places values done : List ℕ) → put (double k done) (widen k places) (stutter (flags_of k places) values) ≡ double k (put done places values)
put-double k [] values done = refl
put-double k (a ∷ places) [] done = refl
put-double k (a ∷ places) (v ∷ values) done =
    let rest = stutter (flags_of k places) values in
    elim (cases_eq k a) [
      | inl e ↦
          let low : shift k a ≡ k = ap (shift k) (sym e) ∙ shift-low k k (omega arith) in
          ap (λ xs. put (double k done) xs (v ∷ (if k == a then v ∷ rest else rest))) (widen-same k a places e)
          ∙ ap (λ xs. put (double k done) (shift k a ∷ suc k ∷ widen k places) (v ∷ xs)) (cond-true (k == a) (v ∷ rest) rest (eq-eqb k a e))
          ∙ ap (λ i. put (set (set (double k done) i v) (suc k) v) (widen k places) rest) low
          ∙ ap (λ xs. put xs (widen k places) rest) (set-twice k v done ∙ ap (λ i. double k (set done i v)) e)
          ∙ put-double k places values (set done a v)
      | inr ne ↦
          ap (λ xs. put (double k done) xs (v ∷ (if k == a then v ∷ rest else rest))) (widen-other k a places ne)
          ∙ ap (λ xs. put (double k done) (shift k a ∷ widen k places) (v ∷ xs)) (cond-false (k == a) (v ∷ rest) rest (ne_eqb k a ne))
          ∙ ap (λ xs. put xs (widen k places) rest) (set-other k a v done ne)
          ∙ put-double k places values (set done a v)
    ]

-- ---- the levels of all sequences
module _ (look : ℕ → Option Bracket) (base : ℕ) (characters : List ℕ) (classes : List BidiClass) (levels : List ℕ) (types : List BidiClass) (k : ℕ)
    (inner : IsInner (class_at classes k)) (none : look (slice_index characters k) ≡ None) (repeats : can_be_doubled (class_at types k) ≡ true)
    (in_classes : k < length classes) (in_levels : k < length levels) where
  abbrev old_levels : List ℕ → List ℕ
  old_levels = levels_in look base characters classes levels types

  abbrev new_levels : List ℕ → List ℕ
  new_levels = levels_in look base (double k characters) (double k classes) (double k levels) (double k types)

  some-double : (a : ℕ) (run : List ℕ) → new_levels (widen k (a ∷ run)) ≡ stutter (flags_of k (a ∷ run)) (old_levels (a ∷ run))
  unfolding AreCalm
  some-double a run =
      let s = a ∷ run in
      let w = widen k s in
      let flags = flags_of k s in
      let level : slice_index (double k levels) (first_of w) ≡ slice_index levels (first_of s) =
      ap (slice_index (double k levels)) (first-double k s) ∙ get_or-double k levels (shift k a) 0 ∙ ap (slice_index levels) (collapse-shift k a) in
      let own = map (slice_index characters) s in
      let kinds = map (class_at types) s in
      let calm : AreCalm look (slice_index levels a) (sos base levels s) (eos base classes levels s) own kinds 0 flags =
      λ i set. let at = flagged-at k s i set in
      let e : 0 + i ≡ i = omega arith in
      subst (λ j. (look (slice_index own j) ≡ None) × (can_be_doubled (class_at kinds j) ≡ true) × (j < length kinds)) (sym e) (
        ap look (get_or-map (slice_index characters) s i 0 0 at.0 ∙ ap (slice_index characters) at.1) ∙ none,
        ap can_be_doubled (get_or-map (class_at types) s i 0 ON at.0 ∙ ap (class_at types) at.1) ∙ repeats,
        omega (arith, at.0, length-map s (class_at types)),
      ) in
      ap (λ n. sequence_levels look n (sos base (double k levels) w) (eos base (double k classes) (double k levels) w) (map (slice_index (double k characters)) w) (map (class_at (double k types)) w)) level
      ∙ ap (λ t. sequence_levels look (slice_index levels a) t (eos base (double k classes) (double k levels) w) (map (slice_index (double k characters)) w) (map (class_at (double k types)) w)) (sos-double base levels k s)
      ∙ ap (λ t. sequence_levels look (slice_index levels a) (sos base levels s) t (map (slice_index (double k characters)) w) (map (class_at (double k types)) w)) (eos-double classes k inner in_classes base levels a run in_levels)
      ∙ ap (λ xs. sequence_levels look (slice_index levels a) (sos base levels s) (eos base classes levels s) xs (map (class_at (double k types)) w))
      (map-widen k (slice_index characters) (slice_index (double k characters)) (λ j. get_or-double k characters j 0) s)
      ∙ ap (sequence_levels look (slice_index levels a) (sos base levels s) (eos base classes levels s) (stutter flags own))
      (map-widen k (class_at types) (class_at (double k types)) (λ j. get_or-double k types j ON) s)
      ∙ stutter-levels look (slice_index levels a) (sos base levels s) (eos base classes levels s) own kinds flags 0 calm

  levels_in-double : (s : List ℕ) → new_levels (widen k s) ≡ stutter (flags_of k s) (old_levels s)
  levels_in-double [] = refl
  levels_in-double (a ∷ run) = some-double a run

  put-all : (parts : List (List ℕ)) (done : List ℕ)
      → fold (λ done s. put done s (new_levels s)) (double k done) (map (widen k) parts) ≡ double k (fold (λ done s. put done s (old_levels s)) done parts)
  put-all [] done = refl
  put-all (s ∷ parts) done =
      ap (λ xs. fold (λ done s. put done s (new_levels s)) xs (map (widen k) parts)) (ap (put (double k done) (widen k s)) (levels_in-double s) ∙ put-double k s (old_levels s) done)
      ∙ put-all parts (put done s (old_levels s))

  pub resolved-double : resolved look base (double k characters) (double k classes) (double k levels) (double k types) ≡ double k (resolved look base characters classes levels types)
  resolved-double =
      ap (fold (λ done s. put done s (new_levels s)) (double k levels)) (sequences-double classes k inner in_classes levels in_levels)
      ∙ put-all (sequences classes levels) levels

-- repeating a character repeats its level and changes no other level of the paragraph
pub levels_by-double : (look : ℕ → Option Bracket) (text : List ℕ) (classes : List BidiClass) (base k : ℕ) → k < length classes → can_be_doubled (class_at classes k) ≡ true → look (slice_index text k) ≡ None
    → levels_by look (double k text) (double k classes) base ≡ double k (levels_by look text classes base)
levels_by-double look text classes base k within is none =
    let n = length classes in
    let p : ℕ → Bool = λ j. not (is_removed (class_at classes j)) in
    let q : ℕ → Bool = λ j. not (is_removed (class_at (double k classes) j)) in
    let same : (j : ℕ) → q j ≡ p (collapse k j) = λ j. ap (λ c. not (is_removed c)) (get_or-double k classes j ON) in
    let kept : is_removed (class_at classes k) ≡ false = repeat-kept (class_at classes k) is in
    let here : p k ≡ true = ap not kept in
    let place = length (filter p (range_with_len 0 k)) in
    let start : 0 + k ≡ k = omega arith in
    let more : (λ (m : ℕ). filter q (range_with_len 0 m)) (length (double k classes)) ≡ filter q (range_with_len 0 (suc n)) = ap (λ m. filter q (range_with_len 0 m)) (length-double k classes within) in
    let opens = repeat-opens (class_at classes k) is in
    let characters = map (slice_index text) (retained classes) in
    let own = map (class_at classes) (retained classes) in
    let levels = map (level_at base classes) (retained classes) in
    let types = map (type_at base classes) (retained classes) in
    let characters_are : map (slice_index (double k text)) (retained (double k classes)) ≡ double place characters =
    ap (map (slice_index (double k text))) more ∙ stay-double k p q same here (slice_index text) (slice_index (double k text)) (λ j. get_or-double k text j 0) n 0 k start within in
    let own_are : map (class_at (double k classes)) (retained (double k classes)) ≡ double place own =
    ap (map (class_at (double k classes))) more ∙ stay-double k p q same here (class_at classes) (class_at (double k classes)) (λ j. get_or-double k classes j ON) n 0 k start within in
    let levels_are : map (level_at base (double k classes)) (retained (double k classes)) ≡ double place levels =
    ap (map (level_at base (double k classes))) more ∙ stay-double k p q same here (level_at base classes) (level_at base (double k classes)) (level_at-double classes k opens base) n 0 k start within in
    let types_are : map (type_at base (double k classes)) (retained (double k classes)) ≡ double place types =
    ap (map (type_at base (double k classes))) more ∙ stay-double k p q same here (type_at base classes) (type_at base (double k classes)) (type_at-double classes k opens base) n 0 k start within in
    let character = stay-at k p here (slice_index text) 0 n 0 k start within in
    let class = stay-at k p here (class_at classes) ON n 0 k start within in
    let level = stay-at k p here (level_at base classes) 0 n 0 k start within in
    let type = stay-at k p here (type_at base classes) ON n 0 k start within in
    let place_is : place ≡ kept_to k classes = kept-range p k 0 classes (omega (arith, within)) (λ i. let e : 0 + i ≡ i = omega arith in ap p e) in
    ap (λ xs. put_back base (double k classes) (resolved look base xs (map (class_at (double k classes)) (retained (double k classes)))
    (map (level_at base (double k classes)) (retained (double k classes))) (map (type_at base (double k classes)) (retained (double k classes))))) characters_are
    ∙ ap (λ xs. put_back base (double k classes) (resolved look base (double place characters) xs
    (map (level_at base (double k classes)) (retained (double k classes))) (map (type_at base (double k classes)) (retained (double k classes))))) own_are
    ∙ ap (λ xs. put_back base (double k classes) (resolved look base (double place characters) (double place own) xs (map (type_at base (double k classes)) (retained (double k classes))))) levels_are
    ∙ ap (λ xs. put_back base (double k classes) (resolved look base (double place characters) (double place own) (double place levels) xs)) types_are
    ∙ ap (put_back base (double k classes)) (resolved-double look base characters own levels types place
    (subst IsInner (sym class.1) (repeat-inner (class_at classes k) is)) (ap look character.1 ∙ none) (ap can_be_doubled type.1 ∙ type-repeats base classes k is) class.0 level.0)
    ∙ ap (λ m. put_back base (double k classes) (double m (resolved look base characters own levels types))) place_is
    ∙ put_back-double k classes base (resolved look base characters own levels types) kept

pub paragraph-double : (look : ℕ → Option Bracket) (text : List ℕ) (classes : List BidiClass) (base k : ℕ) → k < length classes → can_be_doubled (class_at classes k) ≡ true → look (slice_index text k) ≡ None
    → paragraph_levels look (double k text) (double k classes) base ≡ double k (paragraph_levels look text classes base)
paragraph-double look text classes base k within is none =
    let same = directed-here classes k within is in
    let long : k < length (directed classes) = (let e = length-map-range_with_len (λ j. directed_at classes j (class_at classes j)) 0 (length classes) in omega (arith, e, within)) in
    ap (λ cs. levels_by look (double k text) cs base) (directed-double classes k (repeat-inner (class_at classes k) is) within)
    ∙ levels_by-double look text (directed classes) base k long (ap can_be_doubled same ∙ is) none
