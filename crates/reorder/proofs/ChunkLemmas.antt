-- If each base with its nonspacing marks is reversed before L2, L2 puts the base first.
use Rattle.std.proofs.Common.{◌≡◌, ℕ, zero, suc, ◌+◌, ◌-◌, ◌<◌, ◌≤◌, ◌==◌, Bool, true, false, ◌&&◌, ◌||◌, not, List, [], ◌∷◌}
use Rattle.std.proofs.Common.{length, get_or, map, take, drop, reverse, Option, None, refl, sym, ap, subst, ◌∙◌, inl, inr, arith}
use Rattle.std.specs.Prelude.{nat_lt}
use Rattle.std.specs.List.{list_any}
use Rattle.std.proofs.lemmas.Bool.{and_from, and_left, and_parts, and_right, both_ways, cases_Bool, cases_lt, cond-false, eqb-true, eq-eqb, lt-ltb, ltb-true}
use Rattle.std.proofs.lemmas.List.{ext_get_or, get_or-append_right, get_or-drop, get_or-map, get_or-reverse, get_or-take, get_or_past, length-map, length-reverse, length-take-le, length-drop}
use Rattle.std.proofs.lemmas.List.Folds.{list_any_at}
use Rattle.std.proofs.lemmas.Slice.{drop-put_mid, take-put_mid, take-put_mid_below}
use borrow.Rule.Slice.PartMut.{put_mid, same_len_mid}
use Rattle.ucd.specs.declared.bidi_class.BidiClass.{BidiClass}
use Rattle.ucd.specs.declared.bidi_class.BidiClass.TheVariants.{ON}
use Rattle.ucd.specs.Classes.{is_nonspacing_mark}
use Rattle.reorder.proofs.InPlaceLemmas.{items_at_places}
use Rattle.reorder.proofs.OrderLemmas.{length-vtol}
use Rattle.reorder.specs.InPlace.{IsChunk}
use Rattle.reorder.specs.Groups.{IsAlone, IsGroup, StandsTogether}
use Rattle.reorder.specs.Order.{has_base, is_nonspacing_mark_at, is_odd, lowest_odd, ltov_of, order_by, order_of, precedes_nonspacing_mark, reverse_with_next, vtol_of, AreInverse}

-- ---- the groups that the scan finds

module _ (classes : List BidiClass) (levels : List ℕ) where
  -- The state of the scan after a base: `len` characters, namely the base and the nonspacing marks after it, have the
  -- same level.
  pub record MarksSoFar (start len : ℕ) : Type 0 where
    pub some : 0 < len
    pub within : start + len ≤ length levels
    pub marks : (k : ℕ) → 0 < k → k < len → is_nonspacing_mark_at classes (start + k) ≡ true
    pub same : (k : ℕ) → k < len → get_or levels (start + k) 0 ≡ get_or levels start 0

  pub MarksSoFar-start : (start : ℕ) → start < length levels → MarksSoFar start 1
  MarksSoFar-start start within = record {
    some = omega arith;
    within = omega arith;
    marks = λ k above below. absurd (omega arith);
    same = λ k below. ap (λ n. get_or levels n 0) (omega arith);
  }

  abbrev pub is_nonspacing_mark_of : ℕ → ℕ → Bool
  is_nonspacing_mark_of place level = nat_lt place (length levels) && (is_nonspacing_mark_at classes place && (get_or levels place 0 == level))

  pub MarksSoFar-next : (start len next : ℕ) → MarksSoFar start len → is_nonspacing_mark_of (start + len) (get_or levels start 0) ≡ true → next ≡ len + 1
      → MarksSoFar start next
  MarksSoFar-next start len next w found past =
      let level : ℕ = get_or levels start 0 in
      let place : ℕ = start + len in
      let both = and_parts (nat_lt place (length levels)) (is_nonspacing_mark_at classes place && (get_or levels place 0 == level)) found in
      let inner = and_parts (is_nonspacing_mark_at classes place) (get_or levels place 0 == level) both.1 in
      let inside : place < length levels = ltb-true place (length levels) both.0 in
      record {
        some = omega arith;
        within = omega (arith, inside, past);
        marks = λ k above below. elim (cases_lt k len) [
          | inl before ↦ w.marks k above before
          | inr after ↦ ap (λ n. is_nonspacing_mark_at classes (start + n)) (omega (arith, past, after, below)) ∙ inner.0
        ];
        same = λ k below. elim (cases_lt k len) [
          | inl before ↦ w.same k before
          | inr after ↦ ap (λ n. get_or levels (start + n) 0) (omega (arith, past, after, below)) ∙ eqb-true (get_or levels place 0) level inner.1
        ];
      }

  -- the character at which the scan ends is not a nonspacing mark of the base
  stops : (start place : ℕ) → is_nonspacing_mark_of place (get_or levels start 0) ≡ false → is_odd (get_or levels start 0) ≡ true
      → is_nonspacing_mark_at classes place ≡ true → get_or levels place 0 ≡ get_or levels start 0 → ⊥
  stops start place ended odd marked same =
      let level : ℕ = get_or levels start 0 in
      elim (cases_lt place (length levels)) [
        | inl inside ↦ both_ways (is_nonspacing_mark_of place level) ended
            (and_from (nat_lt place (length levels)) (is_nonspacing_mark_at classes place && (get_or levels place 0 == level)) (lt-ltb place (length levels) inside)
            (and_from (is_nonspacing_mark_at classes place) (get_or levels place 0 == level) marked (eq-eqb (get_or levels place 0) level same)))
        | inr past ↦ both_ways (is_odd level) (ap is_odd (sym same ∙ get_or_past levels place 0 past)) odd
      ]

  no_base_after : (i : ℕ) → precedes_nonspacing_mark classes levels i ≡ false → has_base classes levels (suc i) ≡ false
  no_base_after i none = and_left (precedes_nonspacing_mark classes levels i) (not (is_nonspacing_mark_at classes i) || has_base classes levels i) none

  -- a base with all its nonspacing marks is a chunk, and the character directly after the chunk has no base
  pub group_is : (start len : ℕ) → MarksSoFar start len → is_nonspacing_mark_of (start + len) (get_or levels start 0) ≡ false → is_odd (get_or levels start 0) ≡ true
      → is_nonspacing_mark_at classes start ≡ false → IsChunk classes levels start len × (has_base classes levels (start + len) ≡ false)
  group_is start len w ended odd plain =
      let level : ℕ = get_or levels start 0 in
      let n : ℕ = len - 1 in
      let last : ℕ = start + n in
      let next : start + len ≡ suc last = omega (arith, w.some) in
      let more : last + 1 ≡ start + len = omega (arith, w.some) in
      let at_last : get_or levels last 0 ≡ level = w.same n (omega (arith, w.some)) in
      let none : precedes_nonspacing_mark classes levels last ≡ false =
      elim (cases_Bool (precedes_nonspacing_mark classes levels last)) [
        | inr e ↦ e
        | inl found ↦
            let parts = and_parts (is_nonspacing_mark_at classes (suc last)) (is_odd (get_or levels last 0) && (get_or levels (suc last) 0 == get_or levels last 0)) found in
            let inner = and_parts (is_odd (get_or levels last 0)) (get_or levels (suc last) 0 == get_or levels last 0) parts.1 in
            absurd (stops start (start + len) ended odd (ap (is_nonspacing_mark_at classes) next ∙ parts.0)
            (ap (λ m. get_or levels m 0) next ∙ eqb-true (get_or levels (suc last) 0) (get_or levels last 0) inner.1 ∙ at_last))
      ] in (
        inl (record {
          plain = plain;
          odd = odd;
          marks = λ k above below. w.marks k above (omega (arith, w.some, below));
          same = λ k below. w.same k (omega (arith, w.some, below));
          whole = λ marked same. stops start (start + len) ended odd (ap (is_nonspacing_mark_at classes) (sym more) ∙ marked) (ap (λ m. get_or levels m 0) (sym more) ∙ same);
        }),
        ap (has_base classes levels) next ∙ no_base_after last none,
      )

  -- a character in no group is a chunk by itself
  alone : (start next : ℕ) → has_base classes levels start ≡ false → has_base classes levels (suc start) ≡ false → next ≡ start + 1
      → IsChunk classes levels start 1 × (has_base classes levels next ≡ false)
  alone start next none more past =
      let e : next ≡ suc start = omega (arith, past) in
      (inr (refl, record { no_base = none; no_marks = more }), ap (has_base classes levels) e ∙ more)

  pub alone_even : (start next : ℕ) → has_base classes levels start ≡ false → is_odd (get_or levels start 0) ≡ false → next ≡ start + 1
      → IsChunk classes levels start 1 × (has_base classes levels next ≡ false)
  alone_even start next none even past =
      alone start next none (no_base_after start (and_right (is_nonspacing_mark_at classes (suc start)) (is_odd (get_or levels start 0) && (get_or levels (suc start) 0 == get_or levels start 0))
      (and_left (is_odd (get_or levels start 0)) (get_or levels (suc start) 0 == get_or levels start 0) even))) past

  pub alone_mark : (start next : ℕ) → has_base classes levels start ≡ false → is_nonspacing_mark_at classes start ≡ true → next ≡ start + 1
      → IsChunk classes levels start 1 × (has_base classes levels next ≡ false)
  alone_mark start next none marked past =
      alone start next none (and_right (precedes_nonspacing_mark classes levels start) (not (is_nonspacing_mark_at classes start) || has_base classes levels start)
      (ap (λ b. not b || has_base classes levels start) marked ∙ none)) past

pub plain_order : (classes : List BidiClass) (levels : List ℕ) → vtol_of false classes levels ≡ order_of levels
unfolding vtol_of
plain_order classes levels = refl

-- ---- the scan of a line

module _ (classes : List BidiClass) (levels : List ℕ) where
  -- the character at `place` is in a chunk that has been reversed
  pub record IsTurned (old current : List ℕ) (place : ℕ) : Type 0 where
    pub start : ℕ
    pub len : ℕ
    pub chunk : IsChunk classes levels start len
    pub from : start ≤ place
    pub to : place < start + len
    pub there : get_or current place 0 ≡ get_or old (start + (len - 1 - (place - start))) 0

  -- The state of the scan at the index `at`: the chunks before `at` have been reversed, and the rest is
  -- unchanged.
  pub record Chunked (old current : List ℕ) (at : ℕ) : Type 0 where
    pub sizes : length current ≡ length old
    pub no_base : has_base classes levels at ≡ false
    pub turned : (k : ℕ) → k < at → IsTurned old current k
    pub left : (k : ℕ) → at ≤ k → get_or current k 0 ≡ get_or old k 0

  pub Chunked-start : (old : List ℕ) → Chunked old old 0
  Chunked-start old = record { sizes = refl; no_base = refl; turned = λ k below. absurd (omega arith); left = λ k above. refl }

  pub Chunked-next : (old current ys : List ℕ) (at len count next : ℕ) → Chunked old current at → 0 < len → at + len ≤ length old → IsChunk classes levels at len
      → count ≡ len → ys ≡ reverse (take count (drop at current)) → next ≡ at + len → has_base classes levels next ≡ false
      → Chunked old (put_mid at count current ys) next
  Chunked-next old current ys at len count next w some within chunk e is past none =
      let new : List ℕ = put_mid at count current ys in
      let part : List ℕ = take count (drop at current) in
      let wide : length part ≡ count = length-take-le count (drop at current) (omega (arith, length-drop at current, w.sizes)) in
      let size : length ys ≡ count = ap length is ∙ length-reverse part ∙ wide in
      let inside : at ≤ length current = omega (arith, w.sizes) in
      let before : (k : ℕ) → k < at → get_or new k 0 ≡ get_or current k 0 = λ k below.
      sym (get_or-take at new k 0 below) ∙ ap (λ (zs : List ℕ). get_or zs k 0) (take-put_mid_below at count current ys at (omega arith) inside) ∙ get_or-take at current k 0 below in
      let written : (k : ℕ) → at ≤ k → k < next → get_or new k 0 ≡ get_or ys (k - at) 0 = λ k above below.
      sym (get_or-take next new k 0 below) ∙ ap (λ (zs : List ℕ). get_or zs k 0) (take-put_mid at count current ys next (omega (arith, size)) inside)
      ∙ get_or-append_right (take at current) ys at k 0 (length-take-le at current inside) above in
      let after : (k : ℕ) → next ≤ k → get_or new k 0 ≡ get_or current k 0 = λ k above.
      let there : next + (k - next) ≡ k = omega (arith, above) in
      ap (λ n. get_or new n 0) (sym there) ∙ sym (get_or-drop next new (k - next) 0)
      ∙ ap (λ (zs : List ℕ). get_or zs (k - next) 0) (drop-put_mid at count current ys next (omega (arith, past, e)) inside size)
      ∙ get_or-drop next current (k - next) 0 ∙ ap (λ n. get_or current n 0) there in
      let mirrored : (k : ℕ) → at ≤ k → k < next → get_or new k 0 ≡ get_or old (at + (len - 1 - (k - at))) 0 = λ k above below.
      let j : ℕ = k - at in
      let m : ℕ = length part - 1 - j in
      let there : at + m ≡ at + (len - 1 - j) = omega (arith, wide, e) in
      written k above below ∙ ap (λ (zs : List ℕ). get_or zs j 0) is ∙ get_or-reverse part j 0 (omega (arith, wide, e, above, below, past))
      ∙ get_or-take count (drop at current) m 0 (omega (arith, wide, e, some)) ∙ get_or-drop at current m 0
      ∙ w.left (at + m) (omega arith) ∙ ap (λ n. get_or old n 0) there in
      record {
        sizes = same_len_mid at count current ys (size ∙ sym wide) ∙ w.sizes;
        no_base = none;
        turned = λ k below. elim (cases_lt k at) [
          | inl earlier ↦
              let t = w.turned k earlier in
              record { start = t.start; len = t.len; chunk = t.chunk; from = t.from; to = t.to; there = before k earlier ∙ t.there }
          | inr now ↦ record { start = at; len = len; chunk = chunk; from = now; to = omega (arith, below, past); there = mirrored k now below }
        ];
        left = λ k above. after k above ∙ w.left k (omega (arith, above, past));
      }

  -- the theorems on L2 and L3 are assumed for the groups of the line
  module _ (together : (base n : ℕ) → IsGroup classes levels base n → StandsTogether classes levels base n)
      (others : (k : ℕ) → k < length levels → IsAlone classes levels (get_or (vtol_of false classes levels) k 0)
      → get_or (vtol_of true classes levels) k 0 ≡ get_or (vtol_of false classes levels) k 0)
      (inverse : AreInverse (length levels) (vtol_of false classes levels) (ltov_of false classes levels)) where
    -- no character has two visual positions
    same_position : (j k : ℕ) → j < length levels → k < length levels
        → get_or (vtol_of false classes levels) j 0 ≡ get_or (vtol_of false classes levels) k 0 → j ≡ k
    same_position j k first second same =
        sym (inverse.at_vtol j first) ∙ ap (λ p. get_or (ltov_of false classes levels) p 0) same ∙ inverse.at_vtol k second

    -- reversing each group and then ordering by L2 puts the same item at each visual position as ordering with L3
    read_at : (old current : List ℕ) (k : ℕ) → k < length levels → IsTurned old current (get_or (vtol_of false classes levels) k 0)
        → get_or current (get_or (vtol_of false classes levels) k 0) 0 ≡ get_or old (get_or (vtol_of true classes levels) k 0) 0
    read_at old current k within t =
        let place : ℕ = get_or (vtol_of false classes levels) k 0 in
        let n : ℕ = t.len - 1 in
        let j : ℕ = place - t.start in
        elim t.chunk [
          | inl group ↦
              let s = together t.start n group in
              let at : ℕ = s.at + (n - j) in
              let e : t.start + (n - (n - j)) ≡ place = omega (arith, t.from, t.to) in
              let here : k ≡ at = same_position k at within (omega (arith, s.within)) (sym (s.reversed (n - j) (omega arith) ∙ e)) in
              t.there ∙ ap (λ m. get_or old m 0) (sym (s.read (n - j) (omega arith))) ∙ ap (λ m. get_or old (get_or (vtol_of true classes levels) m 0) 0) (sym here)
          | inr one ↦
              let e : t.start ≡ place = omega (arith, one.0, t.from, t.to) in
              let same : t.start + (t.len - 1 - j) ≡ place = omega (arith, one.0, t.from, t.to) in
              t.there ∙ ap (λ m. get_or old m 0) same
              ∙ ap (λ m. get_or old m 0) (sym (others k within (subst (λ (m : ℕ). IsAlone classes levels m) e one.1)))
        ]

    pub groups_read : (old current : List ℕ) (at : ℕ) → Chunked old current at → length levels ≤ at
        → map (λ p. get_or current p 0) (order_of levels) ≡ map (λ p. get_or old p 0) (vtol_of true classes levels)
    groups_read old current at w past =
        let plain : List ℕ = vtol_of false classes levels in
        let read : List ℕ = vtol_of true classes levels in
        let size : length plain ≡ length levels = length-vtol false classes levels plain refl in
        let wide : length read ≡ length levels = length-vtol true classes levels read refl in
        ap (map (λ p. get_or current p 0)) (sym (plain_order classes levels))
        ∙ ext_get_or 0 (map (λ p. get_or current p 0) plain) (map (λ p. get_or old p 0) read)
        (length-map plain (λ p. get_or current p 0) ∙ size ∙ sym wide ∙ sym (length-map read (λ p. get_or old p 0)))
        (λ k below.
        let within : k < length levels = omega (arith, below, length-map plain (λ p. get_or current p 0), size) in
        get_or-map (λ p. get_or current p 0) plain k 0 0 (omega (arith, within, size))
        ∙ read_at old current k within (w.turned (get_or plain k 0) (omega (arith, inverse.vtol_within k within, past)))
        ∙ sym (get_or-map (λ p. get_or old p 0) read k 0 0 (omega (arith, within, wide))))

-- ---- a line without groups

-- if no item passes the test, the list stays the same
none_reversed : (test : ℕ → Bool) (xs : List ℕ) → ((x : ℕ) → test x ≡ false) → reverse_with_next test [] xs ≡ xs
none_reversed test [] none = refl
none_reversed test (x ∷ xs) none =
    cond-false (test x) (reverse_with_next test (x ∷ []) xs) (x ∷ reverse_with_next test [] xs) (none x) ∙ ap (λ (zs : List ℕ). x ∷ zs) (none_reversed test xs none)

without_bases : (asked : Bool) (classes : List BidiClass) (levels : List ℕ) → ((place : ℕ) → has_base classes levels place ≡ false)
    → vtol_of asked classes levels ≡ order_of levels
unfolding vtol_of
without_bases false classes levels none = refl
without_bases true classes levels none = none_reversed (has_base classes levels) (order_of levels) none

base_of_mark : (classes : List BidiClass) (levels : List ℕ) (place : ℕ) → ((i : ℕ) → precedes_nonspacing_mark classes levels i ≡ false) → has_base classes levels place ≡ false
base_of_mark classes levels zero none = refl
base_of_mark classes levels (suc i) none = no_base_after classes levels i (none i)

pub without_marks : (asked : Bool) (classes : List BidiClass) (levels : List ℕ) → list_any is_nonspacing_mark classes ≡ false
    → vtol_of asked classes levels ≡ order_of levels
without_marks asked classes levels unmarked =
    let none : (k : ℕ) → is_nonspacing_mark_at classes k ≡ false = λ k. elim (cases_lt k (length classes)) [
      | inl within ↦ elim (cases_Bool (is_nonspacing_mark_at classes k)) [
        | inr e ↦ e
        | inl marked ↦ absurd (both_ways (list_any is_nonspacing_mark classes) unmarked (list_any_at is_nonspacing_mark classes k ON within marked))
      ]
      | inr past ↦ ap is_nonspacing_mark (get_or_past classes k ON past)
    ] in
    without_bases asked classes levels (λ place. base_of_mark classes levels place
    (λ i. and_left (is_nonspacing_mark_at classes (suc i)) (is_odd (get_or levels i 0) && (get_or levels (suc i) 0 == get_or levels i 0)) (none (suc i))))

pub without_odd : (asked : Bool) (classes : List BidiClass) (levels : List ℕ) → ((k : ℕ) → k < length levels → is_odd (get_or levels k 0) ≡ false)
    → vtol_of asked classes levels ≡ order_of levels
without_odd asked classes levels even =
    let all : (k : ℕ) → is_odd (get_or levels k 0) ≡ false = λ k. elim (cases_lt k (length levels)) [
      | inl within ↦ even k within
      | inr past ↦ ap is_odd (get_or_past levels k 0 past)
    ] in
    without_bases asked classes levels (λ place. base_of_mark classes levels place
    (λ i. and_right (is_nonspacing_mark_at classes (suc i)) (is_odd (get_or levels i 0) && (get_or levels (suc i) 0 == get_or levels i 0))
    (and_left (is_odd (get_or levels i 0)) (get_or levels (suc i) 0 == get_or levels i 0) (all i))))

-- if no level is odd, the visual order is the logical order, with or without L3
pub stays : (asked : Bool) (classes : List BidiClass) (levels old : List ℕ) → None ≡ lowest_odd levels
    → ((k : ℕ) → k < length levels → is_odd (get_or levels k 0) ≡ false) → length old ≡ length levels
    → old ≡ map (λ k. get_or old k 0) (vtol_of asked classes levels)
unfolding order_of
stays asked classes levels old none even same =
    items_at_places levels old same
    ∙ ap (λ (o : Option ℕ). map (λ k. get_or old k 0) (order_by levels o)) none
    ∙ ap (map (λ k. get_or old k 0)) (sym (without_odd asked classes levels even))
