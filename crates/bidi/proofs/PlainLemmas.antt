-- A paragraph without openers, closers and characters that X9 removes is one isolating run sequence.
use Rattle.std.proofs.Common.{◌≡◌, ℕ, zero, suc, ◌+◌, ◌-◌, ◌<◌, ◌==◌, max, is_none, Bool, true, false, ◌&&◌, not, if◌then◌else◌, List, [], ◌∷◌, ◌++◌, length, get_or, set, take, map, filter, fold, replicate, unwrap_or, slice_index, Option, refl, sym, ap, ◌∙◌, inl, inr, arith, append_assoc, zero-add}
use Rattle.std.specs.List.{range_with_len, All}
use Rattle.std.proofs.lemmas.Bool.{cond-true, cond-false, cases_lt, eq-eqb, not_from_false}
use Rattle.std.proofs.lemmas.List.{append-nil, get_or-replicate, get_or_default, length-replicate, length-set, nil_from_length, same_lists, take_all, take_more_set}
use Rattle.std.proofs.lemmas.List.Elements.{All-get_or, All-head, All-tail, All-weaker}
use Rattle.std.proofs.lemmas.List.FromFn.{get_or-map-range_with_len, length-map-range_with_len, length-range_with_len}
use Rattle.ucd.specs.declared.bidi_class.BidiClass.{BidiClass}
use Rattle.ucd.specs.declared.bidi_class.BidiClass.TheVariants.{ON, BN, LRE, LRO, RLE, RLO, PDF, LRI, RLI, FSI}
use Rattle.ucd.specs.declared.bracket.Bracket.{Bracket}
use Rattle.bidi.specs.Base.{match_of}
use Rattle.ucd.specs.Classes.{class_at, is_initiator, is_pdi, is_separator}
use Rattle.bidi.specs.Cuts.{paragraphs}
use Rattle.bidi.specs.Explicit.{directed, directed_at, inside, is_first_strong, level_at, open_after, type_at}
use Rattle.bidi.specs.Levels.{levels_by, levels_in, paragraph_levels, put, put_back, resolved, sequence_levels}
use Rattle.bidi.specs.Plain.{is_plain}
use Rattle.bidi.specs.Runs.{IsRunEnd, runs_from}
use Rattle.ucd.specs.Classes.{is_removed}
use Rattle.bidi.specs.Sequences.{changes, direction, eos, first_of, last_of, level_before, level_after, sequences, sequences_from, sos, retained}
use Rattle.bidi.proofs.RunLemmas.{first_of-range, last_of-range, runs_from-end, runs_from-run}

-- mapping each index to the item there yields the list itself
pub range-read : {X : Type 0} (f : ℕ → X) (xs : List X) (d : X) → ((k : ℕ) → k < length xs → f k ≡ get_or xs k d) → map f (range_with_len 0 (length xs)) ≡ xs
range-read f xs d reads =
    let sizes = length-map-range_with_len f 0 (length xs) in
    same_lists (map f (range_with_len 0 (length xs))) xs sizes (λ k e within.
    let inside : k < length xs = omega (arith, sizes) in
    get_or-map-range_with_len f 0 (length xs) k k e inside (zero-add k) ∙ reads k inside ∙ get_or_default xs k d e inside)

pub map-same : {X Y : Type 0} (f : X → Y) (y : Y) → ((x : X) → f x ≡ y) → (xs : List X) → map f xs ≡ replicate (length xs) y
map-same f y same [] = refl
map-same f y same (x ∷ xs) = ap (λ v. v ∷ map f xs) (same x) ∙ ap (λ vs. y ∷ vs) (map-same f y same xs)

pub map-agree : {X Y : Type 0} (f g : X → Y) → ((x : X) → f x ≡ g x) → (xs : List X) → map f xs ≡ map g xs
map-agree f g same [] = refl
map-agree f g same (x ∷ xs) = ap (λ v. v ∷ map f xs) (same x) ∙ ap (λ vs. g x ∷ vs) (map-agree f g same xs)

filter-range : (p : ℕ → Bool) (a n : ℕ) → ((k : ℕ) → k < a + n → p k ≡ true) → filter p (range_with_len a n) ≡ range_with_len a n
filter-range p a zero passes = refl
filter-range p a (suc n) passes =
    cond-true (p a) (a ∷ filter p (range_with_len (a + 1) n)) (filter p (range_with_len (a + 1) n)) (passes a (omega arith))
    ∙ ap (λ xs. a ∷ xs) (filter-range p (a + 1) n (λ k below. passes k (omega arith)))

-- writing values to all indices from a on replaces the rest of the list
put-range : (values levels : List ℕ) (a : ℕ) → a + length values ≡ length levels → put levels (range_with_len a (length values)) values ≡ take a levels ++ values
put-range [] levels a e = sym (append-nil (take a levels) ∙ take_all a levels (omega arith))
put-range (value ∷ values) levels a e =
    put-range values (set levels a value) (a + 1) (omega (arith, length-set levels a value))
    ∙ ap (λ xs. xs ++ values) (take_more_set levels a value (omega arith))
    ∙ append_assoc (take a levels) (value ∷ []) values

-- if no character is an opener, no opener is open at any index
module _ (classes : List BidiClass) (closed : All (λ class. open_after [] class ≡ []) classes) where
  none_open : (xs : List BidiClass) → All (λ class. open_after [] class ≡ []) xs → (k : ℕ) → fold open_after [] (take k xs) ≡ []
  none_open xs all zero = refl
  none_open [] all (suc k) = refl
  none_open (class ∷ xs) all (suc k) =
      ap (λ chain. fold open_after chain (take k xs)) (All-head (λ c. open_after [] c ≡ []) class xs all)
      ∙ none_open xs (All-tail (λ c. open_after [] c ≡ []) class xs all) k

  pub level_at-base : (base k : ℕ) → level_at base classes k ≡ base
  level_at-base base k =
      let place = if is_pdi (class_at classes k) then k + 1 else k in
      ap (λ chain. if is_separator (class_at classes k) then base else (inside base chain).level) (none_open classes closed place)
      ∙ elim (is_separator (class_at classes k)) as (λ b. (if b then base else base) ≡ base) [ true ↦ refl | false ↦ refl ]

  pub type_at-class : (base k : ℕ) → type_at base classes k ≡ class_at classes k
  type_at-class base k =
      let place = if is_pdi (class_at classes k) then k + 1 else k in
      let class = class_at classes k in
      ap (λ chain. if is_separator class then class else unwrap_or (inside base chain).override class) (none_open classes closed place)
      ∙ elim (is_separator class) as (λ b. (if b then class else class) ≡ class) [ true ↦ refl | false ↦ refl ]

-- replacing each FSI does not change other classes
directed_other : (classes : List BidiClass) (k : ℕ) (class : BidiClass) → is_first_strong class ≡ false → directed_at classes k class ≡ class
directed_other classes k FSI e = absurd (cc)
directed_other classes k class e = refl

pub directed-none : (classes : List BidiClass) → All (λ class. is_first_strong class ≡ false) classes → directed classes ≡ classes
directed-none classes none =
    range-read (λ k. directed_at classes k (class_at classes k)) classes ON (λ k within.
    directed_other classes k (class_at classes k) (All-get_or (λ c. is_first_strong c ≡ false) classes k ON within none))

-- if all levels are equal, there is one level run; it is one sequence unless its last character is an isolate initiator
module _ (bracket : ℕ → Option Bracket) (base : ℕ) (characters : List ℕ) (classes types : List BidiClass) (n : ℕ) (some : 0 < n)
    (classes_size : length classes ≡ n) (types_size : length types ≡ n) (characters_size : length characters ≡ n)
    (last_is : is_initiator (class_at classes (n - 1)) ≡ false) where
  abbrev levels : List ℕ
  levels = replicate n base

  abbrev places : List ℕ
  places = range_with_len 0 n

  abbrev values : List ℕ
  values = sequence_levels bracket base (direction base) (direction base) characters types

  size : length levels ≡ n
  size = length-replicate n base

  level_is : (k : ℕ) → k < n → slice_index levels k ≡ base
  level_is k within = get_or-replicate n k base 0 within

  one_run : runs_from levels 0 ≡ places ∷ []
  one_run =
      let end : IsRunEnd levels 0 n = record {
        above = some;
        within = omega (arith, size);
        same = λ k above below. level_is (k - 1) (omega arith) ∙ sym (level_is k below);
        other = λ more. absurd (omega (arith, size));
      } in
      let whole : n - 0 ≡ n = omega arith in
      runs_from-run levels 0 n end ∙ ap (λ m. range_with_len 0 m ∷ runs_from levels n) whole
      ∙ ap (λ runs. places ∷ runs) (runs_from-end levels n (omega (arith, size)))

  one_sequence : sequences classes levels ≡ places ∷ []
  one_sequence =
      let whole : length levels - 0 ≡ length levels = omega arith in
      ap (sequences_from classes []) (
      ap (λ m. paragraphs (changes levels) (range_with_len 0 m)) (sym whole) ∙ one_run)

  first_is : first_of places ≡ 0
  first_is =
      let whole : n - 0 ≡ n = omega arith in
      ap (λ m. first_of (range_with_len 0 m)) (sym whole) ∙ first_of-range 0 n some

  end_is : last_of places ≡ n - 1
  end_is =
      let whole : n - 0 ≡ n = omega arith in
      ap (λ m. last_of (range_with_len 0 m)) (sym whole) ∙ last_of-range 0 n some

  same_max : max base base ≡ base
  same_max = omega arith

  sos_is : sos base levels places ≡ direction base
  sos_is =
      ap (λ k. direction (max (slice_index levels k) (level_before base levels k))) first_is
      ∙ ap (λ m. direction (max m base)) (level_is 0 some) ∙ ap direction same_max

  after_is : level_after base classes levels (n - 1) ≡ base
  after_is =
      let end : (n - 1) + 1 ≡ length levels = omega (arith, size) in
      ap (λ b. if b && is_none (match_of classes (n - 1)) then base else (if (n - 1) + 1 == length levels then base else slice_index levels ((n - 1) + 1))) last_is
      ∙ cond-true ((n - 1) + 1 == length levels) base (slice_index levels ((n - 1) + 1)) (eq-eqb ((n - 1) + 1) (length levels) end)

  eos_is : eos base classes levels places ≡ direction base
  eos_is =
      ap (λ k. direction (max (slice_index levels k) (level_after base classes levels k))) end_is
      ∙ ap (λ m. direction (max m (level_after base classes levels (n - 1)))) (level_is (n - 1) (omega arith))
      ∙ ap (λ m. direction (max base m)) after_is ∙ ap direction same_max

  characters_are : map (slice_index characters) places ≡ characters
  characters_are =
      ap (λ m. map (slice_index characters) (range_with_len 0 m)) (sym characters_size) ∙ range-read (slice_index characters) characters 0 (λ k within. refl)

  types_are : map (class_at types) places ≡ types
  types_are = ap (λ m. map (class_at types) (range_with_len 0 m)) (sym types_size) ∙ range-read (class_at types) types ON (λ k within. refl)

  values_are : levels_in bracket base characters classes levels types places ≡ values
  values_are =
      let level : slice_index levels (first_of places) ≡ base = ap (slice_index levels) first_is ∙ level_is 0 some in
      ap (λ m. sequence_levels bracket m (sos base levels places) (eos base classes levels places) (map (slice_index characters) places) (map (class_at types) places)) level
      ∙ ap (λ d. sequence_levels bracket base d (eos base classes levels places) (map (slice_index characters) places) (map (class_at types) places)) sos_is
      ∙ ap (λ d. sequence_levels bracket base (direction base) d (map (slice_index characters) places) (map (class_at types) places)) eos_is
      ∙ ap (λ xs. sequence_levels bracket base (direction base) (direction base) xs (map (class_at types) places)) characters_are
      ∙ ap (sequence_levels bracket base (direction base) (direction base) characters) types_are

  pub resolved-one : length values ≡ n → resolved bracket base characters classes levels types ≡ values
  resolved-one whole =
      let all : 0 + length values ≡ length levels = omega (arith, size, whole) in
      ap (fold (λ done sequence. put done sequence (levels_in bracket base characters classes levels types sequence)) levels) one_sequence
      ∙ ap (put levels places) values_are
      ∙ ap (λ m. put levels (range_with_len 0 m) values) (sym whole)
      ∙ put-range values levels 0 all

-- if X9 removed nothing, `put_back` changes nothing
put_back-all : (before : ℕ) (classes : List BidiClass) (values : List ℕ) → All (λ class. is_removed class ≡ false) classes → length values ≡ length classes → put_back before classes values ≡ values
put_back-all before [] [] stays size = refl
put_back-all before [] (value ∷ values) stays size = absurd (omega arith)
put_back-all before (class ∷ classes) [] stays size = absurd (omega arith)
put_back-all before (class ∷ classes) (value ∷ values) stays size =
    cond-false (is_removed class) (before ∷ put_back before classes (value ∷ values)) (value ∷ put_back value classes values) (All-head (λ c. is_removed c ≡ false) class classes stays)
    ∙ ap (λ xs. value ∷ xs) (put_back-all value classes values (All-tail (λ c. is_removed c ≡ false) class classes stays) (omega arith))

-- a plain class is not an opener, and X9 keeps it
plain-closed : (class : BidiClass) → is_plain class ≡ true → open_after [] class ≡ []
plain-closed LRE e = absurd (cc)
plain-closed LRO e = absurd (cc)
plain-closed RLE e = absurd (cc)
plain-closed RLO e = absurd (cc)
plain-closed LRI e = absurd (cc)
plain-closed RLI e = absurd (cc)
plain-closed class e = refl

plain-directed : (class : BidiClass) → is_plain class ≡ true → is_first_strong class ≡ false
plain-directed FSI e = absurd (cc)
plain-directed class e = refl

plain-stays : (class : BidiClass) → is_plain class ≡ true → is_removed class ≡ false
plain-stays LRE e = absurd (cc)
plain-stays LRO e = absurd (cc)
plain-stays RLE e = absurd (cc)
plain-stays RLO e = absurd (cc)
plain-stays PDF e = absurd (cc)
plain-stays BN e = absurd (cc)
plain-stays class e = refl

plain-other : (class : BidiClass) → is_plain class ≡ true → is_initiator class ≡ false
plain-other LRI e = absurd (cc)
plain-other RLI e = absurd (cc)
plain-other FSI e = absurd (cc)
plain-other class e = refl

-- a paragraph of plain characters has the levels of a single sequence at the paragraph level
pub plain_levels : (bracket : ℕ → Option Bracket) (text : List ℕ) (classes : List BidiClass) (base : ℕ) → All (λ class. is_plain class ≡ true) classes → length text ≡ length classes
    → length (sequence_levels bracket base (direction base) (direction base) text classes) ≡ length classes
    → paragraph_levels bracket text classes base ≡ sequence_levels bracket base (direction base) (direction base) text classes
plain_levels bracket text classes base plain sizes whole =
    let n = length classes in
    let values = sequence_levels bracket base (direction base) (direction base) text classes in
    let closed = All-weaker (λ c. is_plain c ≡ true) (λ c. open_after [] c ≡ []) plain-closed classes plain in
    let stays = All-weaker (λ c. is_plain c ≡ true) (λ c. is_removed c ≡ false) plain-stays classes plain in
    let same : directed classes ≡ classes = directed-none classes (All-weaker (λ c. is_plain c ≡ true) (λ c. is_first_strong c ≡ false) plain-directed classes plain) in
    let places : retained classes ≡ range_with_len 0 n =
    filter-range (λ k. not (is_removed (class_at classes k))) 0 n (λ k below.
    not_from_false (is_removed (class_at classes k)) (All-get_or (λ c. is_removed c ≡ false) classes k ON (omega arith) stays)) in
    let characters : map (slice_index text) (range_with_len 0 n) ≡ text =
    ap (λ m. map (slice_index text) (range_with_len 0 m)) (sym sizes) ∙ range-read (slice_index text) text 0 (λ k within. refl) in
    let read : map (class_at classes) (range_with_len 0 n) ≡ classes = range-read (class_at classes) classes ON (λ k within. refl) in
    let levels : map (level_at base classes) (range_with_len 0 n) ≡ replicate n base =
    map-same (level_at base classes) base (level_at-base classes closed base) (range_with_len 0 n)
    ∙ ap (λ m. replicate m base) (length-range_with_len 0 n) in
    let types : map (type_at base classes) (range_with_len 0 n) ≡ classes =
    map-agree (type_at base classes) (class_at classes) (type_at-class classes closed base) (range_with_len 0 n) ∙ read in
    let done : resolved bracket base text classes (replicate n base) classes ≡ values =
    elim (cases_lt 0 n) [
      | inl some ↦ resolved-one bracket base text classes classes n some refl refl sizes
          (plain-other (class_at classes (n - 1)) (All-get_or (λ c. is_plain c ≡ true) classes (n - 1) ON (omega arith) plain)) whole
      | inr none ↦
          let empty : n ≡ 0 = omega arith in
          ap (λ m. resolved bracket base text classes (replicate m base) classes) empty
          ∙ sym (nil_from_length values (whole ∙ empty))
    ] in
    ap (λ cs. levels_by bracket text cs base) same
    ∙ ap (λ ps. put_back base classes (resolved bracket base (map (slice_index text) ps) (map (class_at classes) ps) (map (level_at base classes) ps) (map (type_at base classes) ps))) places
    ∙ ap (λ xs. put_back base classes
    (resolved bracket base xs (map (class_at classes) (range_with_len 0 n))
    (map (level_at base classes) (range_with_len 0 n)) (map (type_at base classes) (range_with_len 0 n))))
    characters
    ∙ ap (λ xs. put_back base classes (resolved bracket base text xs (map (level_at base classes) (range_with_len 0 n)) (map (type_at base classes) (range_with_len 0 n)))) read
    ∙ ap (λ xs. put_back base classes (resolved bracket base text classes xs (map (type_at base classes) (range_with_len 0 n)))) levels
    ∙ ap (λ xs. put_back base classes (resolved bracket base text classes (replicate n base) xs)) types
    ∙ ap (put_back base classes) done
    ∙ put_back-all base classes values stays whole
