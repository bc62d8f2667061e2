-- Matches depend only on initiators and PDIs, so neither replacing an FSI nor removing characters in X9
-- changes them.
use Rattle.std.proofs.Common.{◌≡◌, ℕ, zero, suc, ◌+◌, ◌-◌, ◌==◌, Bool, true, false, cond, not, if◌then◌else◌, List, [], ◌∷◌, length, map, filter, take, drop, get_or, count_by, slice_range, fold, unwrap_or, Some, refl, sym, ap, ap₂, ◌∙◌, inl, inr, arith}
use Rattle.std.specs.List.{range_with_len}
use Rattle.std.proofs.Math.ListN.{get_or-map}
use Rattle.std.proofs.lemmas.Bool.{cases_Bool}
use Rattle.std.proofs.lemmas.List.{drop-map, length-map, take-map}
use Rattle.std.proofs.lemmas.List.FromFn.{length-range_with_len}
use Rattle.std.proofs.lemmas.List.Sums.{count_by-le-length, length-filter}
use Rattle.ucd.specs.declared.bidi_class.BidiClass.{BidiClass}
use Rattle.ucd.specs.declared.bidi_class.BidiClass.TheVariants.{FSI, LRI, ON, RLI}
use Rattle.bidi.specs.Base.{first_strong_level, is_balanced, match_of}
use Rattle.ucd.specs.Classes.{class_at, is_initiator, is_pdi}
use Rattle.bidi.specs.Explicit.{directed, directed_at, span_of}
use Rattle.bidi.specs.Isolates.{match_at, matches_of}
use Rattle.ucd.specs.Least.{least}
use Rattle.ucd.specs.Classes.{is_removed}
use Rattle.bidi.specs.Sequences.{retained}
use Rattle.bidi.proofs.PlainLemmas.{range-read}

map_pointwise : {X Y : Type 0} (f g : X → Y) → ((x : X) → f x ≡ g x) → (xs : List X) → map f xs ≡ map g xs
map_pointwise f g same [] = refl
map_pointwise f g same (x ∷ xs) = ap₂ ◌∷◌ (same x) (map_pointwise f g same xs)

map_twice : {X Y Z : Type 0} (f : Y → Z) (g : X → Y) (xs : List X) → map f (map g xs) ≡ map (λ x. f (g x)) xs
map_twice f g [] = refl
map_twice f g (x ∷ xs) = ap (λ ys. f (g x) ∷ ys) (map_twice f g xs)

least_same : (p q : ℕ → Bool) → ((k : ℕ) → p k ≡ q k) → (low count : ℕ) → least p low count ≡ least q low count
least_same p q same low zero = refl
least_same p q same low (suc count) = ap₂ (λ b rest. if b then Some low else rest) (same low) (least_same p q same (suc low) count)

-- counting the items that pass a test is the same as counting the results that are `true`
count_from : {X : Type 0} (p : X → Bool) (n : ℕ) (xs : List X) → fold (λ k x. k + cond (p x) 1 0) n xs ≡ fold (λ k b. k + cond b 1 0) n (map p xs)
count_from p n [] = refl
count_from p n (x ∷ xs) = count_from p (n + cond (p x) 1 0) xs

count_answers : {X : Type 0} (p : X → Bool) (xs : List X) → count_by p xs ≡ count_by (λ b. b) (map p xs)
count_answers p xs = count_from p 0 xs

part_answers : {X : Type 0} (p : X → Bool) (xs : List X) (i j : ℕ) → map p (slice_range xs i j) ≡ slice_range (map p xs) i j
part_answers p xs i j = sym (take-map p (j - i) (drop i xs)) ∙ ap (take (j - i)) (sym (drop-map p i xs))

count_same : {X : Type 0} (p : X → Bool) (a b : List X) (i j : ℕ) → map p a ≡ map p b → count_by p (slice_range a i j) ≡ count_by p (slice_range b i j)
count_same p a b i j same =
    count_answers p (slice_range a i j)
    ∙ ap (count_by (λ b. b)) (part_answers p a i j ∙ ap (λ bs. slice_range bs i j) same ∙ sym (part_answers p b i j))
    ∙ sym (count_answers p (slice_range b i j))

module _ (a b : List BidiClass) (size : length a ≡ length b) (opens : map is_initiator a ≡ map is_initiator b) (closes : map is_pdi a ≡ map is_pdi b) where
  initiator_same : (k : ℕ) → is_initiator (class_at a k) ≡ is_initiator (class_at b k)
  initiator_same k =
      sym (get_or-map is_initiator a k ON) ∙ ap (λ bs. get_or bs k (is_initiator ON)) opens ∙ get_or-map is_initiator b k ON

  balanced_same : (i j : ℕ) → is_balanced a i j ≡ is_balanced b i j
  balanced_same i j = rw (count_same is_initiator a b i (j + 1) opens, count_same is_pdi a b i (j + 1) closes) refl

  match_same : (k : ℕ) → match_of a k ≡ match_of b k
  match_same k = ap (λ n. least (is_balanced a k) (k + 1) (n - (k + 1))) size ∙ least_same (is_balanced a k) (is_balanced b k) (balanced_same k) (k + 1) (length b - (k + 1))

  matches_same : matches_of a ≡ matches_of b
  matches_same =
      map_pointwise (match_at a) (match_at b) (λ k. rw (initiator_same k, match_same k, size) refl) (range_with_len 0 (length a))
      ∙ ap (λ n. map (match_at b) (range_with_len 0 n)) size

keeps_initiator : (classes : List BidiClass) (k : ℕ) (class : BidiClass) → is_initiator (directed_at classes k class) ≡ is_initiator class
keeps_initiator classes k FSI =
    elim (unwrap_or (first_strong_level (span_of classes k)) 0 == 1) as (λ b. is_initiator (if b then RLI else LRI) ≡ true) [ true ↦ refl | false ↦ refl ]
keeps_initiator classes k class = refl

keeps_pdi : (classes : List BidiClass) (k : ℕ) (class : BidiClass) → is_pdi (directed_at classes k class) ≡ is_pdi class
keeps_pdi classes k FSI =
    elim (unwrap_or (first_strong_level (span_of classes k)) 0 == 1) as (λ b. is_pdi (if b then RLI else LRI) ≡ false) [ true ↦ refl | false ↦ refl ]
keeps_pdi classes k class = refl

directed_keeps : (p : BidiClass → Bool) (classes : List BidiClass) → ((k : ℕ) (class : BidiClass) → p (directed_at classes k class) ≡ p class) → map p classes ≡ map p (directed classes)
directed_keeps p classes keeps =
    let answer : ℕ → Bool = λ k. p (directed_at classes k (class_at classes k)) in
    sym (
    map_twice p (λ k. directed_at classes k (class_at classes k)) (range_with_len 0 (length classes))
    ∙ ap (λ n. map answer (range_with_len 0 n)) (sym (length-map classes p))
    ∙ range-read answer (map p classes) (p ON) (λ k within. keeps k (class_at classes k) ∙ sym (get_or-map p classes k ON)))

-- the matches of a paragraph are the same before and after each FSI is replaced
pub matches_directed : (classes : List BidiClass) → length classes ≡ length (directed classes) → matches_of classes ≡ matches_of (directed classes)
matches_directed classes size =
    matches_same classes (directed classes) size (directed_keeps is_initiator classes (keeps_initiator classes)) (directed_keeps is_pdi classes (keeps_pdi classes))

filter_all : {X : Type 0} (p : X → Bool) (xs : List X) → length (filter p xs) ≡ length xs → filter p xs ≡ xs
filter_all p [] size = refl
filter_all p (x ∷ xs) size =
    elim (cases_Bool (p x)) [
      | inl passes ↦
          let more : length (x ∷ filter p xs) ≡ length (x ∷ xs) = rw passes at size in
          rw passes (ap (λ ys. x ∷ ys) (filter_all p xs (omega (arith, more))))
      | inr fails ↦
          let less : length (filter p xs) ≡ length (x ∷ xs) = rw fails at size in
          absurd (omega (arith, less, length-filter p xs, count_by-le-length p xs))
    ]

-- if the number of kept classes is the number of classes, X9 keeps all of them
pub all_stay : (classes left : List BidiClass) → left ≡ map (class_at classes) (retained classes) → length left ≡ length classes → left ≡ classes
all_stay classes left are size =
    let n : ℕ = length classes in
    let places : length (retained classes) ≡ length (range_with_len 0 n) =
    sym (length-map (retained classes) (class_at classes)) ∙ sym (ap length are) ∙ size ∙ sym (length-range_with_len 0 n) in
    are ∙ ap (map (class_at classes)) (filter_all (λ k. not (is_removed (class_at classes k))) (range_with_len 0 n) places)
    ∙ range-read (class_at classes) classes ON (λ k within. refl)
