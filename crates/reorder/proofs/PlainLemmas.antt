-- A line without odd levels is in logical order.
use Rattle.std.proofs.Common.{◌≡◌, ℕ, zero, suc, ◌<◌, ◌==◌, Bool, true, false, ◌&&◌, ◌||◌, not, List, [], ◌∷◌, length, map, take, drop, ◌++◌, get_or, None, refl, sym, ap, ◌∙◌, inl, inr, arith}
use Rattle.std.specs.List.{list_any, range_with_len}
use Rattle.std.proofs.lemmas.Bool.{and_left, and_right, both_ways, cases_Bool, cond-false, ne_eqb}
use Rattle.std.proofs.lemmas.List.{ext_get_or, get_or_past}
use Rattle.std.proofs.lemmas.List.FromFn.{get_or-range_with_len, get_or-map-range_with_len, length-range_with_len, length-map-range_with_len}
use Rattle.std.proofs.Math.Seq.{take-append_seam}
use Rattle.ucd.specs.declared.bidi_class.BidiClass.{BidiClass}
use Rattle.ucd.specs.Properties.{properties_of}
use Rattle.ucd.specs.Tables.{class_of}
use Rattle.ucd.specs.declared.tables.Tables.{Tables}
use Rattle.ucd.specs.Classes.{class_in}
use Rattle.ucd.specs.Within.{AreWithin}
use Rattle.reorder.specs.Mirroring.{mirrored, visual_chars}
use Rattle.reorder.specs.Order.{has_base, has_odd, highest, is_nonspacing_mark_at, is_odd, lowest_odd, ltov_of, order_of, places, precedes_nonspacing_mark, reverse_with_next, vtol_of}
use Rattle.reorder.proofs.InverseLemmas.{inverse_maps}
use Rattle.reorder.proofs.LevelLemmas.{least_none}
use Rattle.reorder.proofs.OrderLemmas.{without_odd}

abbrev pub AreZero : List ℕ → Type 0
AreZero levels = (k : ℕ) → get_or levels k 0 ≡ 0

-- if all levels are 0, so are the levels of a prefix
pub zero_take : (levels : List ℕ) (n : ℕ) → AreZero levels → AreZero (take n levels)
zero_take levels zero zeros k = get_or_past (take zero levels) k 0 (omega arith)
zero_take [] (suc n) zeros k = refl
zero_take (level ∷ levels) (suc n) zeros zero = zeros 0
zero_take (level ∷ levels) (suc n) zeros (suc k) = zero_take levels n (λ j. zeros (suc j)) k

abbrev pub AreEven : List ℕ → Type 0
AreEven levels = (k : ℕ) → is_odd (get_or levels k 0) ≡ false

pub zeros_even : (levels : List ℕ) → AreZero levels → AreEven levels
zeros_even levels zeros k = ap is_odd (zeros k)

-- if all levels are even, no odd level occurs
lacks : (levels : List ℕ) (m : ℕ) → AreEven levels → is_odd m ≡ true → list_any (λ other. other == m) levels ≡ false
lacks [] m evens odd = refl
lacks (level ∷ levels) m evens odd =
    let other : (level == m) ≡ false = ne_eqb level m (λ e. both_ways (is_odd level) (evens 0) (ap is_odd e ∙ odd)) in
    ap (λ b. b || list_any (λ other. other == m) levels) other ∙ lacks levels m (λ k. evens (suc k)) odd

none_odd : (levels : List ℕ) (m : ℕ) → AreEven levels → has_odd levels m ≡ false
none_odd levels m evens =
    elim (cases_Bool (is_odd m)) [
      | inl odd ↦ ap (λ b. is_odd m && b) (lacks levels m evens odd) ∙ and_right (is_odd m) false refl
      | inr e ↦ and_left (is_odd m) (list_any (λ other. other == m) levels) e
    ]

plain_order : (levels : List ℕ) → AreEven levels → range_with_len 0 (length levels) ≡ order_of levels
plain_order levels evens =
    let none : lowest_odd levels ≡ None = least_none (has_odd levels) 0 (suc (highest levels)) (λ m. none_odd levels m evens) in
    without_odd levels (places levels) refl (sym none)

-- if all levels are even, no nonspacing mark has a base
without_base : (classes : List BidiClass) (levels : List ℕ) (i : ℕ) → AreEven levels → has_base classes levels i ≡ false
without_base classes levels zero evens = refl
without_base classes levels (suc i) evens =
    let rest : Bool = not (is_nonspacing_mark_at classes i) || has_base classes levels i in
    let same : Bool = get_or levels (suc i) 0 == get_or levels i 0 in
    let none : precedes_nonspacing_mark classes levels i ≡ false =
    ap (λ odd. is_nonspacing_mark_at classes (suc i) && (odd && same)) (evens i) ∙ and_right (is_nonspacing_mark_at classes (suc i)) false refl in
    and_left (precedes_nonspacing_mark classes levels i) rest none

passed_by : (test : ℕ → Bool) (xs : List ℕ) → ((i : ℕ) → test i ≡ false) → reverse_with_next test [] xs ≡ xs
passed_by test [] fails = refl
passed_by test (x ∷ xs) fails =
    cond-false (test x) (reverse_with_next test (x ∷ []) xs) (x ∷ reverse_with_next test [] xs) (fails x) ∙ ap (λ ys. x ∷ ys) (passed_by test xs fails)

pub plain_vtol : (reordernsm : Bool) (classes : List BidiClass) (levels : List ℕ) → AreEven levels
    → range_with_len 0 (length levels) ≡ vtol_of reordernsm classes levels
unfolding vtol_of
plain_vtol false classes levels evens = plain_order levels evens
plain_vtol true classes levels evens =
    plain_order levels evens ∙ sym (passed_by (has_base classes levels) (order_of levels) (λ i. without_base classes levels i evens))

pub plain_ltov : (reordernsm : Bool) (classes : List BidiClass) (levels : List ℕ) → AreEven levels
    → range_with_len 0 (length levels) ≡ ltov_of reordernsm classes levels
unfolding ltov_of
plain_ltov reordernsm classes levels evens =
    let n : ℕ = length levels in
    let ltov : List ℕ = ltov_of reordernsm classes levels in
    let size : length ltov ≡ n = length-map-range_with_len _ 0 n in
    ext_get_or 0 (range_with_len 0 n) ltov (length-range_with_len 0 n ∙ sym size) (λ k below.
    let lt : k < n = omega (arith, below, length-range_with_len 0 n) in
    let here : get_or (range_with_len 0 n) k 0 ≡ k = get_or-range_with_len 0 n k 0 lt ∙ omega arith in
    let there : get_or (vtol_of reordernsm classes levels) k 0 ≡ k = ap (λ xs. get_or xs k 0) (sym (plain_vtol reordernsm classes levels evens)) ∙ here in
    here ∙ sym (ap (λ i. get_or ltov i 0) (sym there) ∙ (inverse_maps reordernsm classes levels).at_vtol k lt))

pub plain_chars : (t : Tables) (reordernsm : Bool) (classes : List BidiClass) (levels part : List ℕ) → length levels ≡ length part → AreEven levels
    → part ≡ visual_chars t levels part (vtol_of reordernsm classes levels)
plain_chars t reordernsm classes levels part sizes evens =
    let n : ℕ = length levels in
    let f : ℕ → ℕ = λ i. mirrored t (get_or levels i 0) (get_or part i 0) in
    let order : map f (range_with_len 0 n) ≡ visual_chars t levels part (vtol_of reordernsm classes levels) = ap (map f) (plain_vtol reordernsm classes levels evens) in
    ext_get_or 0 part (map f (range_with_len 0 n)) (sym sizes ∙ sym (length-map-range_with_len f 0 n)) (λ k below.
    let lt : k < n = omega (arith, below, sizes) in
    sym (get_or-map-range_with_len f 0 n k k 0 lt (omega arith) ∙ cond-false (is_odd (get_or levels k 0)) _ (get_or part k 0) (evens k)))
    ∙ order

pub plain_within : (n : ℕ) → AreWithin n (range_with_len 0 n)
plain_within n k below =
    let lt : k < n = omega (arith, below, length-range_with_len 0 n) in
    omega (arith, lt, get_or-range_with_len 0 n k 0 lt)

-- the class in a character's properties is the character's class in the tables
pub classes_are : (t : Tables) (line : List ℕ) → map class_in (map (properties_of t) line) ≡ map (class_of t) line
classes_are t [] = refl
classes_are t (c ∷ line) = ap (λ cs. class_of t c ∷ cs) (classes_are t line)

-- a list that is written over the front of another list is the front of the result
pub front_written : {X : Type 0} (new old : List X) (n : ℕ) → length new ≡ n → take n (new ++ drop n old) ≡ new
front_written new old n size = ap (λ k. take k (new ++ drop n old)) (sym size) ∙ take-append_seam new (drop n old)
