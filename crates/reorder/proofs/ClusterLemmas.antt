-- With the classes that keep clusters together, the characters of a cluster at one odd level are a group.
use Rattle.std.proofs.Common.{◌≡◌, ℕ, zero, suc, ◌+◌, ◌<◌, ◌≤◌, ◌==◌, Bool, true, false, ◌&&◌, ◌||◌, not, List, length, get_or, refl, sym, ap, ◌∙◌, inl, inr, arith}
use Rattle.std.specs.List.{range_with_len}
use Rattle.std.proofs.lemmas.Bool.{and_left, and_parts, and_right, both_ways, cases_Bool, cases_lt, eqb-true}
use Rattle.std.proofs.lemmas.List.{get_or-map, get_or_past}
use Rattle.std.proofs.lemmas.List.FromFn.{get_or-range_with_len, length-map-range_with_len, length-range_with_len}
use Rattle.std.specs.Prelude.{if◌then◌else◌}
use Rattle.ucd.specs.Classes.{class_at, is_nonspacing_mark}
use Rattle.ucd.specs.declared.bidi_class.BidiClass.{BidiClass}
use Rattle.ucd.specs.declared.bidi_class.BidiClass.TheVariants.{NSM, ON}
use Rattle.reorder.specs.Clusters.{cluster_classes, is_joined, joined_class, IsSequence, IsSingle}
use Rattle.reorder.specs.Groups.{IsAlone, IsGroup, StandsTogether}
use Rattle.reorder.specs.Order.{has_base, is_nonspacing_mark_at, is_odd, precedes_nonspacing_mark, vtol_of}
use Rattle.reorder.proofs.TogetherLemmas.{stays, together}

pub length-cluster_classes : (ends : List Bool) (levels : List ℕ) → length (cluster_classes ends levels) ≡ length levels
unfolding cluster_classes
length-cluster_classes ends levels = length-map-range_with_len (joined_class ends levels) 0 (length levels)

pub class_is : (ends : List Bool) (levels : List ℕ) (i : ℕ) → i < length levels → class_at (cluster_classes ends levels) i ≡ joined_class ends levels i
unfolding cluster_classes
class_is ends levels i within =
    get_or-map (joined_class ends levels) (range_with_len 0 (length levels)) i 0 ON (omega (arith, within, length-range_with_len 0 (length levels)))
    ∙ ap (joined_class ends levels) (get_or-range_with_len 0 (length levels) i 0 within ∙ omega arith)

module _ (ends : List Bool) (levels : List ℕ) where
  abbrev classes : List BidiClass
  classes = cluster_classes ends levels

  class_by : Bool → BidiClass
  class_by joined = if joined then NSM else ON

  pub marked : (i : ℕ) → i < length levels → is_joined ends levels i ≡ true → is_nonspacing_mark_at classes i ≡ true
  unfolding class_by
  marked i within joined = ap is_nonspacing_mark (class_is ends levels i within) ∙ ap (λ b. is_nonspacing_mark (class_by b)) joined

  pub unmarked : (i : ℕ) → is_joined ends levels i ≡ false → is_nonspacing_mark_at classes i ≡ false
  unfolding class_by
  unmarked i begins = elim (cases_lt i (length levels)) [
    | inl within ↦ ap is_nonspacing_mark (class_is ends levels i within) ∙ ap (λ b. is_nonspacing_mark (class_by b)) begins
    | inr past ↦ ap is_nonspacing_mark (get_or_past classes i ON (omega (arith, past, length-cluster_classes ends levels)))
  ]

  pub joined_of : (i : ℕ) → is_nonspacing_mark_at classes i ≡ true → is_joined ends levels i ≡ true
  joined_of i mark = elim (cases_Bool (is_joined ends levels i)) [
    | inl e ↦ e
    | inr none ↦ absurd (both_ways (is_nonspacing_mark_at classes i) (unmarked i none) mark)
  ]

  odd_within : (i : ℕ) → is_odd (get_or levels i 0) ≡ true → i < length levels
  odd_within i odd = elim (cases_lt i (length levels)) [
    | inl within ↦ within
    | inr past ↦ absurd (both_ways (is_odd (get_or levels i 0)) (ap is_odd (get_or_past levels i 0 past)) odd)
  ]

  same_level : (i : ℕ) → is_joined ends levels (suc i) ≡ true → get_or levels (suc i) 0 ≡ get_or levels i 0
  same_level i joined =
      let test : Bool = get_or levels (suc i) 0 == get_or levels i 0 in
      eqb-true (get_or levels (suc i) 0) (get_or levels i 0) (and_parts (not (get_or ends i false)) test joined).1

  level_in : (first n : ℕ) → IsSequence ends levels first n → (k : ℕ) → k ≤ n → get_or levels (first + k) 0 ≡ get_or levels first 0
  level_in first n is zero below = ap (λ m. get_or levels m 0) (omega arith)
  level_in first n is (suc k) below =
      let next : first + suc k ≡ suc (first + k) = omega arith in
      ap (λ m. get_or levels m 0) next
      ∙ same_level (first + k) (ap (is_joined ends levels) (sym next) ∙ is.joined (suc k) (omega arith) below)
      ∙ level_in first n is k (omega (arith, below))

  group_of : (first n : ℕ) → IsSequence ends levels first n → IsGroup classes levels first n
  group_of first n is = record {
    plain = unmarked first is.begins;
    odd = is.odd;
    marks = λ k some below. marked (first + k) (odd_within (first + k) (ap is_odd (level_in first n is k below) ∙ is.odd)) (is.joined k some below);
    same = λ k below. level_in first n is k below;
    whole = λ mark same. absurd (both_ways (is_joined ends levels (first + n + 1)) is.whole (joined_of (first + n + 1) mark));
  }

  pub sequences : (first n : ℕ) → IsSequence ends levels first n → StandsTogether classes levels first n
  sequences first n is = together classes levels first n (group_of first n is)

  none_after : (i : ℕ) → is_nonspacing_mark_at classes (suc i) ≡ false → has_base classes levels (suc i) ≡ false
  none_after i none =
      and_left (precedes_nonspacing_mark classes levels i) (not (is_nonspacing_mark_at classes i) || has_base classes levels i)
      (and_left (is_nonspacing_mark_at classes (suc i)) (is_odd (get_or levels i 0) && (get_or levels (suc i) 0 == get_or levels i 0)) none)

  even_after : (i : ℕ) → is_odd (get_or levels i 0) ≡ false → has_base classes levels (suc i) ≡ false
  even_after i even =
      let same : Bool = get_or levels (suc i) 0 == get_or levels i 0 in
      and_left (precedes_nonspacing_mark classes levels i) (not (is_nonspacing_mark_at classes i) || has_base classes levels i)
      (and_right (is_nonspacing_mark_at classes (suc i)) (is_odd (get_or levels i 0) && same) (and_left (is_odd (get_or levels i 0)) same even))

  even_here : (i : ℕ) → is_odd (get_or levels i 0) ≡ false → has_base classes levels i ≡ false
  even_here zero even = refl
  even_here (suc i) even =
      let odd : Bool = is_odd (get_or levels i 0) in
      let same : Bool = get_or levels (suc i) 0 == get_or levels i 0 in
      elim (cases_Bool same) [
        | inl e ↦ even_after i (ap is_odd (sym (eqb-true (get_or levels (suc i) 0) (get_or levels i 0) e)) ∙ even)
        | inr ne ↦
            and_left (precedes_nonspacing_mark classes levels i) (not (is_nonspacing_mark_at classes i) || has_base classes levels i)
            (and_right (is_nonspacing_mark_at classes (suc i)) (odd && same) (and_right odd same ne))
      ]

  single_here : (i : ℕ) → is_joined ends levels i ≡ false → has_base classes levels i ≡ false
  single_here zero none = refl
  single_here (suc i) none = none_after i (unmarked (suc i) none)

  alone_by : (place : ℕ) → IsSingle ends levels place → IsAlone classes levels place
  alone_by place (inl even) = record { no_base = even_here place even; no_marks = even_after place even }
  alone_by place (inr single) = record { no_base = single_here place single.0; no_marks = single_here (suc place) single.1 }

  pub singles_stay : (k : ℕ) → k < length levels → IsSingle ends levels (get_or (vtol_of false classes levels) k 0)
      → get_or (vtol_of true classes levels) k 0 ≡ get_or (vtol_of false classes levels) k 0
  singles_stay k within single = stays classes levels k within (alone_by (get_or (vtol_of false classes levels) k 0) single)
