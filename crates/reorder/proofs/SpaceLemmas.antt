-- L1 in one scan of a line from its end.
use Rattle.std.proofs.Common.{suc, refl, ap₂, ◌≡◌, ℕ, ◌+◌, ◌<◌, ◌≤◌, Bool, true, false, zero, ◌-◌, ◌&&◌, ◌||◌, if◌then◌else◌, List, [], ◌∷◌}
use Rattle.std.proofs.Common.{◌++◌, length, get_or, set, take, drop, sym, ap, subst, ◌∙◌, inl, inr, arith, append_assoc}
use Rattle.std.proofs.lemmas.Bool.{cases_Bool, cond-true, cond-false}
use Rattle.std.proofs.lemmas.List.{append-nil, drop_all, drop_more, get_or_default, length-take-le, take_all, take_more}
use Rattle.std.proofs.Math.Seq.{set-append_seam}
use Rattle.ucd.specs.declared.bidi_class.BidiClass.{BidiClass}
use Rattle.ucd.specs.declared.bidi_class.BidiClass.TheVariants.{L, ON}
use Rattle.ucd.specs.Classes.{class_at}
use Rattle.reorder.specs.NoEnds.{AreNoEnds}
use Rattle.reorder.specs.Spaces.{ends_segment, is_blank, is_reset, line_levels}

-- The state of the scan at the index `at`. The levels from `at` on are final, and `resets` says whether a blank
-- directly before `at` is reset.
pub record Walked (base : ℕ) (classes : List BidiClass) (old current : List ℕ) (resets : Bool) (at : ℕ) : Type 0 where
  pub within : at ≤ length classes
  pub blank : resets ≡ is_reset (drop at classes)
  pub done : current ≡ take at old ++ line_levels base (drop at classes) (drop at old)

pub Walked-start : (base : ℕ) (classes : List BidiClass) (old : List ℕ) (at : ℕ) → at ≡ length classes → length classes ≡ length old
    → Walked base classes old old true at
Walked-start base classes old at last sizes =
    let none : drop at classes ≡ [] = drop_all at classes (omega arith) in
    record {
      within = omega arith;
      blank = ap is_reset (sym none);
      done = sym (ap (λ cs. take at old ++ line_levels base cs (drop at old)) none
          ∙ append-nil (take at old)
          ∙ take_all at old (omega arith));
    }

pub Walked-end : (base : ℕ) (classes : List BidiClass) (old current : List ℕ) (resets : Bool) (at : ℕ) → Walked base classes old current resets at
    → at ≡ 0 → current ≡ line_levels base classes old
Walked-end base classes old current resets at w first = w.done ∙ ap (λ n. take n old ++ line_levels base (drop n classes) (drop n old)) first

-- the scan moves back by one character
next : (base : ℕ) (classes : List BidiClass) (old current : List ℕ) (resets after : Bool) (k : ℕ) (written : List ℕ)
    → Walked base classes old current resets (k + 1) → length classes ≡ length old
    → after ≡ (ends_segment (get_or classes k L) || (is_blank (get_or classes k L) && resets))
    → written ≡ (if after then set current k base else current)
    → Walked base classes old written after k
next base classes old current resets after k written w sizes found is =
    let within : k < length classes = omega (arith, w.within) in
    let inside : k < length old = omega arith in
    let class = get_or classes k L in
    let level = get_or old k 0 in
    let tail = line_levels base (drop (k + 1) classes) (drop (k + 1) old) in
    let first : drop k classes ≡ class ∷ drop (k + 1) classes = drop_more classes k L within in
    let own : drop k old ≡ level ∷ drop (k + 1) old = drop_more old k 0 inside in
    let now : after ≡ is_reset (class ∷ drop (k + 1) classes) = found ∙ ap (λ b. ends_segment class || (is_blank class && b)) w.blank in
    let whole : current ≡ take k old ++ level ∷ tail = w.done ∙ ap (λ front. front ++ tail) (take_more old k 0 inside) ∙ append_assoc (take k old) (level ∷ []) tail in
    let front : length (take k old) ≡ k = length-take-le k old (omega arith) in
    let put : set current k base ≡ take k old ++ base ∷ tail =
    ap (λ xs. set xs k base) whole
    ∙ ap (λ n. set (take k old ++ level ∷ tail) n base) (sym front)
    ∙ set-append_seam (take k old) level tail base in
    let here : written ≡ take k old ++ (if after then base else level) ∷ tail =
    elim (cases_Bool after) [
      | inl reset ↦ is ∙ cond-true after (set current k base) current reset ∙ put ∙ ap (λ l. take k old ++ l ∷ tail) (sym (cond-true after base level reset))
      | inr kept ↦ is ∙ cond-false after (set current k base) current kept ∙ whole ∙ ap (λ l. take k old ++ l ∷ tail) (sym (cond-false after base level kept))
    ] in
    record {
      within = omega arith;
      blank = now ∙ ap is_reset (sym first);
      done = here
          ∙ ap (λ b. take k old ++ (if b then base else level) ∷ tail) now
          ∙ sym (ap (λ cs. take k old ++ line_levels base cs (drop k old)) first
          ∙ ap (λ ls. take k old ++ line_levels base (class ∷ drop (k + 1) classes) ls) own);
    }

and_false : (b : Bool) → (b && false) ≡ false
and_false true = refl
and_false false = refl

no_reset : (ends blank : Bool) → ends ≡ false → false ≡ (ends || (blank && false))
no_reset true blank is = sym is
no_reset false blank is = sym (and_false blank)

passed_over : (base : ℕ) (classes : List BidiClass) (old current : List ℕ) (n d : ℕ) → Walked base classes old current false (n + d) → length classes ≡ length old
    → ((k : ℕ) → n ≤ k → k < n + d → ends_segment (get_or classes k L) ≡ false) → Walked base classes old current false n
passed_over base classes old current n zero w sizes passed = let same : n + 0 ≡ n = omega arith in subst (λ (k : ℕ). Walked base classes old current false k) same w
passed_over base classes old current n (suc d) w sizes passed =
    let there : n + suc d ≡ n + d + 1 = omega arith in
    let class = get_or classes (n + d) L in
    passed_over base classes old current n d
    (next base classes old current false false (n + d) current (subst (λ (k : ℕ). Walked base classes old current false k) there w) sizes
    (no_reset (ends_segment class) (is_blank class) (passed (n + d) (omega arith) (omega arith))) refl)
    sizes (λ k from to. passed k from (omega arith))

-- the scan skips a range without separators in which no character is reset
pub Walked-skip : (classes : List BidiClass) (base : ℕ) (old current : List ℕ) (resets : Bool) (at n : ℕ) → Walked base classes old current resets at → length classes ≡ length old
    → n ≤ at → (resets ≡ true → n ≡ at) → AreNoEnds classes n at → Walked base classes old current resets n
Walked-skip classes base old current true at n w sizes within stays passed = subst (λ (k : ℕ). Walked base classes old current true k) (sym (stays refl)) w
Walked-skip classes base old current false at n w sizes within stays passed =
    let there : n + (at - n) ≡ at = omega arith in
    passed_over base classes old current n (at - n) (subst (λ (k : ℕ). Walked base classes old current false k) (sym there) w) sizes
    (λ k from to.
    let before : k < at = omega arith in
    let inside : k < length classes = omega (arith, before, w.within) in
    subst (λ (c : BidiClass). ends_segment c ≡ false) (get_or_default classes k ON L inside) (passed k from before))

pub Walked-next : (classes : List BidiClass) (base : ℕ) (old current : List ℕ) (resets after : Bool) (at k : ℕ) (class : BidiClass) (written : List ℕ)
    → Walked base classes old current resets at → k + 1 ≡ at → length classes ≡ length old
    → class ≡ class_at classes k → after ≡ (ends_segment class || (is_blank class && resets))
    → written ≡ (if after then set current k base else current)
    → Walked base classes old written after k
Walked-next classes base old current resets after at k class written w e sizes read found is =
    let within : k < length classes = omega (arith, w.within) in
    let here : class ≡ get_or classes k L = read ∙ get_or_default classes k ON L within in
    next base classes old current resets after k written (subst (λ (n : ℕ). Walked base classes old current resets n) (sym e) w)
    sizes (found ∙ ap (λ b. ends_segment b || (is_blank b && resets)) here) is

-- L1 changes nothing if all levels and the paragraph level are 0
pub line_of_zeros : (classes : List BidiClass) (levels : List ℕ) → length classes ≡ length levels → ((k : ℕ) → get_or levels k 0 ≡ 0) → line_levels 0 classes levels ≡ levels
line_of_zeros [] [] sizes none = refl
line_of_zeros [] (level ∷ levels) sizes none = absurd (omega (arith, sizes))
line_of_zeros (class ∷ classes) [] sizes none = absurd (omega (arith, sizes))
line_of_zeros (class ∷ classes) (level ∷ levels) sizes none =
    let first : (if is_reset (class ∷ classes) then 0 else level) ≡ level =
    elim (cases_Bool (is_reset (class ∷ classes))) [
      | inl reset ↦ cond-true (is_reset (class ∷ classes)) 0 level reset ∙ sym (none 0)
      | inr kept ↦ cond-false (is_reset (class ∷ classes)) 0 level kept
    ] in
    ap₂ (λ (l : ℕ) (ls : List ℕ). l ∷ ls) first (line_of_zeros classes levels (omega (arith, sizes)) (λ k. none (suc k)))
