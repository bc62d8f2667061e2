-- The stack and counts that X1 to X8 keep for a chain of openers, and how each step changes them.
use Rattle.std.proofs.Common.{◌≡◌, ℕ, suc, ◌+◌, ◌-◌, ◌<◌, ◌≤◌, ◌%◌, ◌==◌, ◌⊎◌, nat_lt, Bool, true, false, cond, ◌&&◌, ◌||◌, not, List, [], ◌∷◌, ◌++◌, length, get_or, take, drop, refl, sym, ap, ◌∙◌, inl, inr, arith, length-append, Option}
use Rattle.std.specs.List.{list_any, prefix_len}
use Rattle.std.proofs.lemmas.Bool.{cond-true, cond-false, cases_Bool, cases_eq, cases_lt, eq-eqb, ne_eqb, lt-ltb, le-ltb, both_ways, or_left, or_right, or_from, or_parts}
use Rattle.std.proofs.lemmas.List.{append_assoc}
use Rattle.std.proofs.Math.Seq.{take-append_seam, get_or-append_seam}
use Rattle.std.proofs.lemmas.List.Folds.{list_any-append}
use Rattle.ucd.specs.declared.bidi_class.BidiClass.{BidiClass}
use Rattle.bidi.specs.declared.explicit.Openers.{Openers}
use Rattle.bidi.specs.declared.explicit.Status.{Status}
use Rattle.ucd.specs.Classes.{is_initiator}
use Rattle.bidi.specs.Explicit.{close_embedding, close_isolate, opens_odd, level_above, override_of, Inside, inside}
use Rattle.bidi.specs.Openers.{entry_of, innermost, statuses, isolates, overflowed_isolates, overflowed_embeddings, Holds, AreBeforeIsolate, ClosesIsolate}

-- the level of an opener is above the level outside it
pub level_above-rises : (opener : BidiClass) (level : ℕ) → level < level_above opener level
level_above-rises opener level =
    elim (cases_Bool (opens_odd opener)) [
      | inl odd ↦ let e : level_above opener level ≡ level + 1 + level % 2 = cond-true (opens_odd opener) (level + 1 + level % 2) (level + 2 - level % 2) odd in omega arith
      | inr even ↦ let e : level_above opener level ≡ level + 2 - level % 2 = cond-false (opens_odd opener) (level + 1 + level % 2) (level + 2 - level % 2) even in omega arith
    ]

-- removing the last item of a list leaves the items before it
take-last : (items front : List Status) (last : Status) → items ≡ front ++ last ∷ [] → take (length items - 1) items ≡ front
take-last items front last e =
    let size : length items - 1 ≡ length front = omega (arith, ap length e, length-append front (last ∷ [])) in
    rw (size, e) (take-append_seam front (last ∷ []))

-- the item at the last index is the last item of the list
pub item-last : (items front : List Status) (last d : Status) → items ≡ front ++ last ∷ [] → get_or items (length items - 1) d ≡ last
item-last items front last d e =
    let size : length items - 1 ≡ length front = omega (arith, ap length e, length-append front (last ∷ [])) in
    rw (size, e) (get_or-append_seam front last [] d)

cases_last : (items : List Status) → (items ≡ []) ⊎ ((front : List Status) × (last : Status) × (items ≡ front ++ last ∷ []))
cases_last [] = inl refl
cases_last (s ∷ items) =
    elim (cases_last items) [
      | inl e ↦ inr ([], s, ap (λ (l : List Status). s ∷ l) e)
      | inr w ↦ inr (s ∷ w.0, w.1, ap (λ (l : List Status). s ∷ l) w.2)
    ]

-- if the popped entry is an isolate, the remaining entries are those below the last isolate
pub popped_isolate : (front entries rest : List Status) (status : Status) → AreBeforeIsolate front entries → entries ≡ rest ++ status ∷ [] → status.is_isolate ≡ true → rest ≡ front
popped_isolate front entries rest status h popped isolate =
    elim (cases_last h.inner) [
      | inl e ↦ let split = h.split ∙ ap (λ (l : List Status). front ++ h.isolate ∷ l) e in
          sym (take-last entries rest status popped) ∙ take-last entries front h.isolate split
      | inr w ↦ let split = h.split ∙ ap (λ (l : List Status). front ++ h.isolate ∷ l) w.2 ∙ sym (append_assoc front (h.isolate ∷ w.0) (w.1 ∷ [])) in
          let same : status ≡ w.1 = sym (item-last entries rest status status popped) ∙ item-last entries (front ++ h.isolate ∷ w.0) w.1 status split in
          let none = sym (list_any-append (λ (s : Status). s.is_isolate) w.0 (w.1 ∷ [])) ∙ sym (ap (list_any (λ (s : Status). s.is_isolate)) w.2) ∙ h.none in
          absurd (both_ways w.1.is_isolate
          (or_parts w.1.is_isolate false
          (or_parts (list_any (λ (s : Status). s.is_isolate) w.0) (w.1.is_isolate || false) none).1).0
          (sym (ap (λ (s : Status). s.is_isolate) same) ∙ isolate))
    ]

-- if the popped entry is not an isolate, the last isolate and the entries below it stay on the stack
pub popped_other : (front entries rest : List Status) (status : Status) → AreBeforeIsolate front entries → entries ≡ rest ++ status ∷ [] → status.is_isolate ≡ false → AreBeforeIsolate front rest
popped_other front entries rest status h popped other =
    elim (cases_last h.inner) [
      | inl e ↦ let split = h.split ∙ ap (λ (l : List Status). front ++ h.isolate ∷ l) e in
          let same : status ≡ h.isolate = sym (item-last entries rest status status popped) ∙ item-last entries front h.isolate status split in
          absurd (both_ways h.isolate.is_isolate (sym (ap (λ (s : Status). s.is_isolate) same) ∙ other) h.opens)
      | inr w ↦ let split = h.split ∙ ap (λ (l : List Status). front ++ h.isolate ∷ l) w.2 ∙ sym (append_assoc front (h.isolate ∷ w.0) (w.1 ∷ [])) in
          let none = sym (list_any-append (λ (s : Status). s.is_isolate) w.0 (w.1 ∷ [])) ∙ sym (ap (list_any (λ (s : Status). s.is_isolate)) w.2) ∙ h.none in
          record {
            isolate = h.isolate;
            inner = w.0;
            split = sym (take-last entries rest status popped) ∙ take-last entries (front ++ h.isolate ∷ w.0) w.1 split;
            opens = h.opens;
            none = (or_parts (list_any (λ (s : Status). s.is_isolate) w.0) (w.1.is_isolate || false) none).0;
          }
    ]

-- a stack with an isolate on it is not empty
pub popped_none : (front entries : List Status) → AreBeforeIsolate front entries → length entries ≡ 0 → ⊥
popped_none front entries h none = omega (arith, ap length h.split, length-append front (h.isolate ∷ h.inner))

-- pushing an entry that is not an isolate keeps the last isolate
AreBeforeIsolate-more : (front entries : List Status) (status : Status) → AreBeforeIsolate front entries → status.is_isolate ≡ false → AreBeforeIsolate front (entries ++ status ∷ [])
AreBeforeIsolate-more front entries status h other = record {
  isolate = h.isolate;
  inner = h.inner ++ status ∷ [];
  split = ap (λ (l : List Status). l ++ status ∷ []) h.split ∙ append_assoc front (h.isolate ∷ h.inner) (status ∷ []);
  opens = h.opens;
  none = list_any-append (λ (s : Status). s.is_isolate) h.inner (status ∷ [])
      ∙ or_from (list_any (λ (s : Status). s.is_isolate) h.inner) (status.is_isolate || false) h.none
      (or_from status.is_isolate false other refl);
}

-- closing an isolate removes the innermost opener if it is an isolate, and otherwise closes the innermost
-- isolate outside it
close_isolate-here : (opener : BidiClass) (outer : List BidiClass) → is_initiator opener ≡ true → close_isolate (opener ∷ outer) ≡ outer
close_isolate-here opener outer isolate =
    ap (λ (x : Bool). cond (x || list_any is_initiator outer) (drop (cond (not x) (1 + prefix_len (λ o. not (is_initiator o)) outer) 0 + 1) (opener ∷ outer)) (opener ∷ outer)) isolate

close_isolate-outside : (opener : BidiClass) (outer : List BidiClass) → is_initiator opener ≡ false → list_any is_initiator outer ≡ true → close_isolate (opener ∷ outer) ≡ close_isolate outer
close_isolate-outside opener outer embedding some =
    let p : ℕ = prefix_len (λ o. not (is_initiator o)) outer in
    let size : 1 + p + 1 ≡ suc (p + 1) = omega arith in
    ap (λ (x : Bool). cond (x || list_any is_initiator outer) (drop (cond (not x) (1 + p) 0 + 1) (opener ∷ outer)) (opener ∷ outer)) embedding
    ∙ cond-true (list_any is_initiator outer) (drop (1 + p + 1) (opener ∷ outer)) (opener ∷ outer) some
    ∙ ap (λ (n : ℕ). drop n (opener ∷ outer)) size
    ∙ sym (cond-true (list_any is_initiator outer) (drop (p + 1) outer) outer some)

module _ (base : ℕ) where
  -- the entries and counts that an opener adds, depending on whether it overflows (`void`) and whether it is
  -- an isolate initiator
  pub record Adds (void isolate : Bool) (opener : BidiClass) (outer : List BidiClass) : Type 0 where
    pub statuses_are : statuses base (opener ∷ outer) ≡ cond void (statuses base outer) (statuses base outer ++ innermost base (opener ∷ outer) ∷ [])
    pub isolates_are : isolates base (opener ∷ outer) ≡ cond (isolate && not void) (isolates base outer + 1) (isolates base outer)
    pub overflowed_isolates_are : overflowed_isolates base (opener ∷ outer) ≡ cond (isolate && void) (overflowed_isolates base outer + 1) (overflowed_isolates base outer)
    pub overflowed_embeddings_are : overflowed_embeddings base (opener ∷ outer)
        ≡ cond (not isolate && (void && overflowed_isolates base outer == 0)) (overflowed_embeddings base outer + 1) (overflowed_embeddings base outer)
    pub innermost_is : innermost base (opener ∷ outer) ≡ cond void (innermost base outer) (entry_of (inside base (opener ∷ outer)) isolate)

  pub adds : (void isolate : Bool) (opener : BidiClass) (outer : List BidiClass) → (inside base (opener ∷ outer)).is_void ≡ void → is_initiator opener ≡ isolate → Adds void isolate opener outer
  adds void isolate opener outer v i = record {
    statuses_are = ap (λ (x : Bool). cond x (statuses base outer) (statuses base outer ++ innermost base (opener ∷ outer) ∷ [])) v;
    isolates_are = ap (λ (x : Bool). cond (is_initiator opener && not x) (isolates base outer + 1) (isolates base outer)) v
        ∙ ap (λ (x : Bool). cond (x && not void) (isolates base outer + 1) (isolates base outer)) i;
    overflowed_isolates_are = ap (λ (x : Bool). cond (is_initiator opener && x) (overflowed_isolates base outer + 1) (overflowed_isolates base outer)) v
        ∙ ap (λ (x : Bool). cond (x && void) (overflowed_isolates base outer + 1) (overflowed_isolates base outer)) i;
    overflowed_embeddings_are =
        ap (λ (x : Bool). cond (not (is_initiator opener) && (x && overflowed_isolates base outer == 0)) (overflowed_embeddings base outer + 1) (overflowed_embeddings base outer)) v
        ∙ ap (λ (x : Bool). cond (not x && (void && overflowed_isolates base outer == 0)) (overflowed_embeddings base outer + 1) (overflowed_embeddings base outer)) i;
    innermost_is = ap (λ (x : Bool). cond x (innermost base outer) (entry_of (inside base (opener ∷ outer)) (is_initiator opener))) v
        ∙ ap (λ (x : Bool). cond void (innermost base outer) (entry_of (inside base (opener ∷ outer)) x)) i;
  }

  -- an opener that does not overflow, and an opener that overflows
  pub record IsEntered (opener : BidiClass) (outer : List BidiClass) : Type 0 where
    pub not_void : (inside base outer).is_void ≡ false
    pub fits : level_above opener (inside base outer).level ≤ 125
    pub is : inside base (opener ∷ outer) ≡ record { level = level_above opener (inside base outer).level; override = override_of opener; is_void = false }

  pub record IsVoid (opener : BidiClass) (outer : List BidiClass) : Type 0 where
    pub is : inside base (opener ∷ outer) ≡ record (inside base outer) { is_void = true }
    pub cause : ((inside base outer).is_void ≡ true) ⊎ (125 < level_above opener (inside base outer).level)

  pub entered : (opener : BidiClass) (outer : List BidiClass) → (inside base outer).is_void ≡ false → level_above opener (inside base outer).level ≤ 125 → IsEntered opener outer
  entered opener outer live within = record {
    not_void = live;
    fits = within;
    is = cond-false ((inside base outer).is_void || nat_lt 125 (level_above opener (inside base outer).level)) _ _
        (ap (λ (x : Bool). x || nat_lt 125 (level_above opener (inside base outer).level)) live ∙ le-ltb 125 (level_above opener (inside base outer).level) within);
  }

  pub voided : (opener : BidiClass) (outer : List BidiClass) → ((inside base outer).is_void ≡ true) ⊎ (125 < level_above opener (inside base outer).level) → IsVoid opener outer
  voided opener outer cause = record {
    is = cond-true ((inside base outer).is_void || nat_lt 125 (level_above opener (inside base outer).level)) _ _
        (elim (cases_Bool ((inside base outer).is_void)) [
          | inl void ↦ ap (λ (x : Bool). x || nat_lt 125 (level_above opener (inside base outer).level)) void
          | inr live ↦ ap (λ (x : Bool). x || nat_lt 125 (level_above opener (inside base outer).level)) live
              ∙ elim cause [ inl void ↦ absurd (both_ways ((inside base outer).is_void) live void) | inr above ↦ lt-ltb 125 (level_above opener (inside base outer).level) above ]
        ]);
    cause = cause;
  }

  pub cases_void : (opener : BidiClass) (outer : List BidiClass) → IsEntered opener outer ⊎ IsVoid opener outer
  cases_void opener outer =
      elim (cases_Bool ((inside base outer).is_void)) [
        | inl void ↦ inr (voided opener outer (inl void))
        | inr live ↦ elim (cases_lt 125 (level_above opener (inside base outer).level)) [
          | inl above ↦ inr (voided opener outer (inr above))
          | inr within ↦ inl (entered opener outer live within)
        ]
      ]

  -- the innermost entry has the level and override that apply inside the chain
  pub innermost-level : (chain : List BidiClass) → (innermost base chain).level ≡ (inside base chain).level
  innermost-level [] = refl
  innermost-level (opener ∷ outer) =
      elim (cases_void opener outer) [
        | inl e ↦ ap (λ (s : Status). s.level) (adds false (is_initiator opener) opener outer (ap (λ (i : Inside). i.is_void) e.is) refl).innermost_is
        | inr v ↦ ap (λ (s : Status). s.level) (adds true (is_initiator opener) opener outer (ap (λ (i : Inside). i.is_void) v.is) refl).innermost_is
            ∙ innermost-level outer ∙ sym (ap (λ (i : Inside). i.level) v.is)
      ]

  pub innermost-override : (chain : List BidiClass) → (innermost base chain).overriding ≡ (inside base chain).override
  innermost-override [] = refl
  innermost-override (opener ∷ outer) =
      elim (cases_void opener outer) [
        | inl e ↦ ap (λ (s : Status). s.overriding) (adds false (is_initiator opener) opener outer (ap (λ (i : Inside). i.is_void) e.is) refl).innermost_is
        | inr v ↦ ap (λ (s : Status). s.overriding) (adds true (is_initiator opener) opener outer (ap (λ (i : Inside). i.is_void) v.is) refl).innermost_is
            ∙ innermost-override outer ∙ sym (ap (λ (i : Inside). i.override) v.is)
      ]

  -- no level is above 125
  pub level-le : base ≤ 125 → (chain : List BidiClass) → (inside base chain).level ≤ 125
  level-le low [] = low
  level-le low (opener ∷ outer) =
      elim (cases_void opener outer) [
        | inl e ↦ rw e.is e.fits
        | inr v ↦ rw v.is (level-le low outer)
      ]

  -- the stack is not empty, and its last entry is `innermost`
  pub statuses-last : (chain : List BidiClass) → (front : List Status) × (statuses base chain ≡ front ++ innermost base chain ∷ [])
  statuses-last [] = ([], refl)
  statuses-last (opener ∷ outer) =
      elim (cases_void opener outer) [
        | inl e ↦ (statuses base outer, (adds false (is_initiator opener) opener outer (ap (λ (i : Inside). i.is_void) e.is) refl).statuses_are)
        | inr v ↦ let a = adds true (is_initiator opener) opener outer (ap (λ (i : Inside). i.is_void) v.is) refl in
            let before = statuses-last outer in
            (before.0, a.statuses_are ∙ before.1 ∙ ap (λ (s : Status). before.0 ++ s ∷ []) (sym a.innermost_is))
      ]

  -- the number of stack entries is at most the innermost level plus one
  pub statuses-length : (chain : List BidiClass) → length (statuses base chain) ≤ (inside base chain).level + 1
  statuses-length [] = omega arith
  statuses-length (opener ∷ outer) =
      elim (cases_void opener outer) [
        | inl e ↦ rw ((adds false (is_initiator opener) opener outer (ap (λ (i : Inside). i.is_void) e.is) refl).statuses_are, e.is, length-append)
            (omega (arith, statuses-length outer, level_above-rises opener (inside base outer).level))
        | inr v ↦ rw ((adds true (is_initiator opener) opener outer (ap (λ (i : Inside). i.is_void) v.is) refl).statuses_are, v.is) (statuses-length outer)
      ]

  -- if the innermost opener does not overflow, both overflow counts are 0
  pub none_void : (chain : List BidiClass) → (inside base chain).is_void ≡ false → (overflowed_isolates base chain ≡ 0) × (overflowed_embeddings base chain ≡ 0)
  none_void [] live = (refl, refl)
  none_void (opener ∷ outer) live =
      elim (cases_void opener outer) [
        | inl e ↦ let before = none_void outer e.not_void in
            elim (cases_Bool (is_initiator opener)) [
              | inl isolate ↦ let a = adds false true opener outer live isolate in (a.overflowed_isolates_are ∙ before.0, a.overflowed_embeddings_are ∙ before.1)
              | inr embedding ↦ let a = adds false false opener outer live embedding in (a.overflowed_isolates_are ∙ before.0, a.overflowed_embeddings_are ∙ before.1)
            ]
        | inr v ↦ absurd (both_ways ((inside base (opener ∷ outer)).is_void) live (ap (λ (i : Inside). i.is_void) v.is))
      ]

  -- an overflow embedding is counted if no overflow isolate is open
  pub embedding_counted : (opener : BidiClass) (outer : List BidiClass) → Adds true false opener outer
      → overflowed_isolates base outer ≡ 0 → overflowed_embeddings base (opener ∷ outer)
      ≡ overflowed_embeddings base outer + 1
  embedding_counted opener outer a none = a.overflowed_embeddings_are
      ∙ cond-true (overflowed_isolates base outer == 0) (overflowed_embeddings base outer + 1) (overflowed_embeddings base outer) (eq-eqb (overflowed_isolates base outer) 0 none)

  pub embedding_passed : (opener : BidiClass) (outer : List BidiClass) → Adds true false opener outer
      → 0 < overflowed_isolates base outer → overflowed_embeddings base (opener ∷ outer)
      ≡ overflowed_embeddings base outer
  embedding_passed opener outer a some = a.overflowed_embeddings_are
      ∙ cond-false (overflowed_isolates base outer == 0) (overflowed_embeddings base outer + 1) (overflowed_embeddings base outer) (ne_eqb (overflowed_isolates base outer) 0 (omega arith))

  -- if the innermost opener overflows, one of the overflow counts is above 0
  pub some_void : (chain : List BidiClass) → (inside base chain).is_void ≡ true → 0 < overflowed_isolates base chain + overflowed_embeddings base chain
  some_void [] void = absurd (cc)
  some_void (opener ∷ outer) void =
      elim (cases_Bool (is_initiator opener)) [
        | inl isolate ↦ let a = adds true true opener outer void isolate in omega (arith, a.overflowed_isolates_are)
        | inr embedding ↦ let a = adds true false opener outer void embedding in
            elim (cases_eq (overflowed_isolates base outer) 0) [
              | inl none ↦ omega (arith, embedding_counted opener outer a none)
              | inr some ↦ omega (arith, a.overflowed_isolates_are)
            ]
      ]

  -- each opener is counted at most once
  pub counts-le : (chain : List BidiClass) → isolates base chain + overflowed_isolates base chain + overflowed_embeddings base chain ≤ length chain
  counts-le [] = omega arith
  counts-le (opener ∷ outer) =
      let before = counts-le outer in
      elim (cases_Bool ((inside base (opener ∷ outer)).is_void)) [
        | inr live ↦ elim (cases_Bool (is_initiator opener)) [
          | inl isolate ↦ let a = adds false true opener outer live isolate in omega (arith, a.isolates_are, a.overflowed_isolates_are, a.overflowed_embeddings_are)
          | inr embedding ↦ let a = adds false false opener outer live embedding in omega (arith, a.isolates_are, a.overflowed_isolates_are, a.overflowed_embeddings_are)
        ]
        | inl void ↦ elim (cases_Bool (is_initiator opener)) [
          | inl isolate ↦ let a = adds true true opener outer void isolate in omega (arith, a.isolates_are, a.overflowed_isolates_are, a.overflowed_embeddings_are)
          | inr embedding ↦ let a = adds true false opener outer void embedding in
              elim (cases_eq (overflowed_isolates base outer) 0) [
                | inl none ↦ omega (arith, a.isolates_are, a.overflowed_isolates_are, embedding_counted opener outer a none)
                | inr some ↦ omega (arith, a.isolates_are, a.overflowed_isolates_are, embedding_passed opener outer a (omega arith))
              ]
        ]
      ]

  counts-entered : (isolate : Bool) (opener : BidiClass) (outer : List BidiClass) → Adds false isolate opener outer
      → (isolates base (opener ∷ outer) ≡ cond isolate (isolates base outer + 1) (isolates base outer))
      × (overflowed_isolates base (opener ∷ outer) ≡ overflowed_isolates base outer)
      × (overflowed_embeddings base (opener ∷ outer) ≡ overflowed_embeddings base outer)
  counts-entered true opener outer a = (a.isolates_are, a.overflowed_isolates_are, a.overflowed_embeddings_are)
  counts-entered false opener outer a = (a.isolates_are, a.overflowed_isolates_are, a.overflowed_embeddings_are)

  -- what holds if `openers` belongs to the chain
  module _ (openers : Openers) (chain : List BidiClass) (holds : Holds base openers chain) where
    pub is_live : openers.overflowed_isolates ≡ 0 → openers.overflowed_embeddings ≡ 0 → (inside base chain).is_void ≡ false
    is_live no_isolate no_embedding =
        elim (cases_Bool ((inside base chain).is_void)) [
          | inr live ↦ live
          | inl void ↦ absurd (omega (arith, some_void chain void, holds.overflowed_isolates_are, holds.overflowed_embeddings_are))
        ]

    pub is_void : 0 < openers.overflowed_isolates + openers.overflowed_embeddings → (inside base chain).is_void ≡ true
    is_void some =
        elim (cases_Bool ((inside base chain).is_void)) [
          | inl void ↦ void
          | inr live ↦ let none = none_void chain live in absurd (omega (arith, none.0, none.1, holds.overflowed_isolates_are, holds.overflowed_embeddings_are))
        ]

    -- an opener that does not overflow is pushed on the stack
    pub Holds-entered : (opener : BidiClass) (status : Status) (level : ℕ) (overriding : Option BidiClass) (isolate : Bool) (entries : List Status)
        → openers.overflowed_isolates ≡ 0 → openers.overflowed_embeddings ≡ 0 → status ≡ innermost base chain
        → level ≡ level_above opener status.level → level ≤ 125 → overriding ≡ override_of opener → isolate ≡ is_initiator opener
        → entries ≡ openers.statuses.items ++ record { level = level; overriding = overriding; is_isolate = isolate } ∷ []
        → (b : Bool) → isolate ≡ b → Holds base (record openers { statuses = record { items = entries }; isolates = cond b (openers.isolates + 1) openers.isolates }) (opener ∷ chain)
    Holds-entered opener status level overriding isolate entries no_isolate no_embedding inner level_is within overriding_is isolate_is pushed b b_is =
        let level_inside : level ≡ level_above opener (inside base chain).level
        = level_is ∙ ap (λ (s : Status). level_above opener s.level) inner ∙ ap (level_above opener) (innermost-level chain) in
        let e : IsEntered opener chain = entered opener chain (is_live no_isolate no_embedding) (rw level_inside at within) in
        let a : Adds false b opener chain = adds false b opener chain (ap (λ (i : Inside). i.is_void) e.is) (sym isolate_is ∙ b_is) in
        let entry : innermost base (opener ∷ chain) ≡ record { level = level; overriding = overriding; is_isolate = isolate }
        = a.innermost_is ∙ rw (e.is, level_inside, overriding_is, b_is) refl in
        record {
          statuses_are = pushed ∙ rw (holds.statuses_are, ← entry) (sym a.statuses_are);
          isolates_are = ap (λ n. cond b (n + 1) n) holds.isolates_are ∙ sym (counts-entered b opener chain a).0;
          overflowed_isolates_are = holds.overflowed_isolates_are ∙ sym (counts-entered b opener chain a).1;
          overflowed_embeddings_are = holds.overflowed_embeddings_are ∙ sym (counts-entered b opener chain a).2;
        }

    -- an opener that overflows raises an overflow count, unless it is an embedding inside an overflow isolate
    pub Holds-void_isolate : (opener : BidiClass) → ((inside base chain).is_void ≡ true) ⊎ (125 < level_above opener (inside base chain).level) → is_initiator opener ≡ true
        → Holds base (record openers { overflowed_isolates = openers.overflowed_isolates + 1 }) (opener ∷ chain)
    Holds-void_isolate opener cause isolate =
        let a : Adds true true opener chain = adds true true opener chain (ap (λ (i : Inside). i.is_void) (voided opener chain cause).is) isolate in
        record {
          statuses_are = holds.statuses_are ∙ sym a.statuses_are;
          isolates_are = holds.isolates_are ∙ sym a.isolates_are;
          overflowed_isolates_are = ap (λ n. n + 1) holds.overflowed_isolates_are ∙ sym a.overflowed_isolates_are;
          overflowed_embeddings_are = holds.overflowed_embeddings_are ∙ sym a.overflowed_embeddings_are;
        }

    pub Holds-void_embedding : (opener : BidiClass) → ((inside base chain).is_void ≡ true) ⊎ (125 < level_above opener (inside base chain).level) → is_initiator opener ≡ false
        → openers.overflowed_isolates ≡ 0 → Holds base (record openers { overflowed_embeddings = openers.overflowed_embeddings + 1 }) (opener ∷ chain)
    Holds-void_embedding opener cause embedding none =
        let a : Adds true false opener chain = adds true false opener chain (ap (λ (i : Inside). i.is_void) (voided opener chain cause).is) embedding in
        record {
          statuses_are = holds.statuses_are ∙ sym a.statuses_are;
          isolates_are = holds.isolates_are ∙ sym a.isolates_are;
          overflowed_isolates_are = holds.overflowed_isolates_are ∙ sym a.overflowed_isolates_are;
          overflowed_embeddings_are = ap (λ n. n + 1) holds.overflowed_embeddings_are ∙ sym (embedding_counted opener chain a (sym holds.overflowed_isolates_are ∙ none));
        }

    pub Holds-void_inside : (opener : BidiClass) → ((inside base chain).is_void ≡ true) ⊎ (125 < level_above opener (inside base chain).level) → is_initiator opener ≡ false
        → 0 < openers.overflowed_isolates → Holds base openers (opener ∷ chain)
    Holds-void_inside opener cause embedding some =
        let a : Adds true false opener chain = adds true false opener chain (ap (λ (i : Inside). i.is_void) (voided opener chain cause).is) embedding in
        record {
          statuses_are = holds.statuses_are ∙ sym a.statuses_are;
          isolates_are = holds.isolates_are ∙ sym a.isolates_are;
          overflowed_isolates_are = holds.overflowed_isolates_are ∙ sym a.overflowed_isolates_are;
          overflowed_embeddings_are = holds.overflowed_embeddings_are ∙ sym (embedding_passed opener chain a (omega (arith, holds.overflowed_isolates_are)));
        }

  -- PDF inside an overflow isolate changes nothing
  pub Holds-passed : (openers : Openers) (chain : List BidiClass) → Holds base openers chain → 0 < openers.overflowed_isolates → Holds base openers (close_embedding chain)
  Holds-passed openers [] holds some = absurd (omega (arith, holds.overflowed_isolates_are))
  Holds-passed openers (opener ∷ outer) holds some =
      elim (cases_Bool (is_initiator opener)) [
        | inl isolate ↦ rw (cond-true (is_initiator opener) (opener ∷ outer) outer isolate) holds
        | inr embedding ↦ rw (cond-false (is_initiator opener) (opener ∷ outer) outer embedding) (
            let a : Adds true false opener outer = adds true false opener outer (is_void openers (opener ∷ outer) holds (omega arith)) embedding in
            let e = holds.overflowed_isolates_are ∙ a.overflowed_isolates_are in
            record {
              statuses_are = holds.statuses_are ∙ a.statuses_are;
              isolates_are = holds.isolates_are ∙ a.isolates_are;
              overflowed_isolates_are = e;
              overflowed_embeddings_are = holds.overflowed_embeddings_are ∙ embedding_passed opener outer a (omega (arith, e));
            })
      ]

  -- PDF closes an overflow embedding
  pub Holds-void_closed : (openers : Openers) (chain : List BidiClass) → Holds base openers chain → openers.overflowed_isolates ≡ 0 → 0 < openers.overflowed_embeddings
      → Holds base (record openers { overflowed_embeddings = openers.overflowed_embeddings - 1 }) (close_embedding chain)
  Holds-void_closed openers [] holds none some = absurd (omega (arith, holds.overflowed_embeddings_are))
  Holds-void_closed openers (opener ∷ outer) holds none some =
      let void : (inside base (opener ∷ outer)).is_void ≡ true = is_void openers (opener ∷ outer) holds (omega arith) in
      elim (cases_Bool (is_initiator opener)) [
        | inl isolate ↦ let a : Adds true true opener outer = adds true true opener outer void isolate in absurd (omega (arith, holds.overflowed_isolates_are, a.overflowed_isolates_are))
        | inr embedding ↦ rw (cond-false (is_initiator opener) (opener ∷ outer) outer embedding) (
            let a : Adds true false opener outer = adds true false opener outer void embedding in
            let e = holds.overflowed_isolates_are ∙ a.overflowed_isolates_are in
            record {
              statuses_are = holds.statuses_are ∙ a.statuses_are;
              isolates_are = holds.isolates_are ∙ a.isolates_are;
              overflowed_isolates_are = e;
              overflowed_embeddings_are = omega (arith, holds.overflowed_embeddings_are, embedding_counted opener outer a (sym e ∙ none));
            })
      ]

  -- PDF closes an embedding that does not overflow
  pub Holds-closed : (openers : Openers) (chain : List BidiClass) → Holds base openers chain → openers.overflowed_isolates ≡ 0 → openers.overflowed_embeddings ≡ 0
      → (status : Status) (entries : List Status) → status ≡ innermost base chain → 1 < length openers.statuses.items → status.is_isolate ≡ false
      → entries ≡ take (length openers.statuses.items - 1) openers.statuses.items
      → Holds base (record openers { statuses = record { items = entries } }) (close_embedding chain)
  Holds-closed openers [] holds no_isolate no_embedding status entries inner more embedding popped = absurd (omega (arith, ap length holds.statuses_are))
  Holds-closed openers (opener ∷ outer) holds no_isolate no_embedding status entries inner more embedding popped =
      let live : (inside base (opener ∷ outer)).is_void ≡ false = is_live openers (opener ∷ outer) holds no_isolate no_embedding in
      let not_isolate : is_initiator opener ≡ false
      = sym (ap (λ (s : Status). s.is_isolate) (inner ∙ (adds false (is_initiator opener) opener outer live refl).innermost_is)) ∙ embedding in
      let a : Adds false false opener outer = adds false false opener outer live not_isolate in
      let entries_are : openers.statuses.items ≡ statuses base outer ++ innermost base (opener ∷ outer) ∷ [] = holds.statuses_are ∙ a.statuses_are in
      rw (cond-false (is_initiator opener) (opener ∷ outer) outer not_isolate) record {
        statuses_are = popped ∙ take-last openers.statuses.items (statuses base outer) (innermost base (opener ∷ outer)) entries_are;
        isolates_are = holds.isolates_are ∙ a.isolates_are;
        overflowed_isolates_are = holds.overflowed_isolates_are ∙ a.overflowed_isolates_are;
        overflowed_embeddings_are = holds.overflowed_embeddings_are ∙ a.overflowed_embeddings_are;
      }

  -- PDF closes nothing if the innermost entry is an isolate, or if the stack has only one entry
  pub Holds-kept : (openers : Openers) (chain : List BidiClass) → Holds base openers chain → openers.overflowed_isolates ≡ 0 → openers.overflowed_embeddings ≡ 0
      → (length openers.statuses.items ≤ 1) ⊎ ((status : Status) × (status ≡ innermost base chain) × (status.is_isolate ≡ true))
      → Holds base openers (close_embedding chain)
  Holds-kept openers [] holds no_isolate no_embedding why = holds
  Holds-kept openers (opener ∷ outer) holds no_isolate no_embedding why =
      let live : (inside base (opener ∷ outer)).is_void ≡ false = is_live openers (opener ∷ outer) holds no_isolate no_embedding in
      let a : Adds false (is_initiator opener) opener outer = adds false (is_initiator opener) opener outer live refl in
      elim why [
        | inl few ↦ let last = statuses-last outer in
            absurd (omega (
              arith,
              ap length (holds.statuses_are ∙ a.statuses_are),
              length-append (statuses base outer) (innermost base (opener ∷ outer) ∷ []),
              ap length last.1,
              length-append last.0 (innermost base outer ∷ []),
            ))
        | inr w ↦ rw (cond-true (is_initiator opener) (opener ∷ outer) outer (sym (ap (λ (s : Status). s.is_isolate) (w.1 ∙ a.innermost_is)) ∙ w.2)) holds
      ]

  -- if a count of isolates is above 0, the chain contains an isolate
  some_isolate : (chain : List BidiClass) → 0 < isolates base chain + overflowed_isolates base chain → list_any is_initiator chain ≡ true
  some_isolate [] some = absurd (omega arith)
  some_isolate (opener ∷ outer) some =
      elim (cases_Bool (is_initiator opener)) [
        | inl isolate ↦ or_left (is_initiator opener) (list_any is_initiator outer) isolate
        | inr embedding ↦ let a = adds ((inside base (opener ∷ outer)).is_void) false opener outer refl embedding in
            or_right (is_initiator opener) (list_any is_initiator outer) (some_isolate outer (omega (arith, a.isolates_are, a.overflowed_isolates_are)))
      ]

  no_isolate : (chain : List BidiClass) → isolates base chain ≡ 0 → overflowed_isolates base chain ≡ 0 → list_any is_initiator chain ≡ false
  no_isolate [] none none_void = refl
  no_isolate (opener ∷ outer) none none_void =
      elim (cases_Bool (is_initiator opener)) [
        | inl isolate ↦ elim (cases_Bool ((inside base (opener ∷ outer)).is_void)) [
          | inl void ↦ let a = adds true true opener outer void isolate in absurd (omega (arith, a.overflowed_isolates_are))
          | inr live ↦ let a = adds false true opener outer live isolate in absurd (omega (arith, a.isolates_are))
        ]
        | inr embedding ↦ let a = adds ((inside base (opener ∷ outer)).is_void) false opener outer refl embedding in
            or_from (is_initiator opener) (list_any is_initiator outer) embedding (no_isolate outer (omega (arith, a.isolates_are)) (omega (arith, a.overflowed_isolates_are)))
      ]

  -- PDI closes an overflow isolate
  pub Holds-void_isolate_closed : (openers : Openers) (chain : List BidiClass) → Holds base openers chain → 0 < openers.overflowed_isolates
      → Holds base (record openers { overflowed_isolates = openers.overflowed_isolates - 1 }) (close_isolate chain)
  Holds-void_isolate_closed openers [] holds some = absurd (omega (arith, holds.overflowed_isolates_are))
  Holds-void_isolate_closed openers (opener ∷ outer) holds some =
      let void : (inside base (opener ∷ outer)).is_void ≡ true = is_void openers (opener ∷ outer) holds (omega arith) in
      elim (cases_Bool (is_initiator opener)) [
        | inl isolate ↦ rw (close_isolate-here opener outer isolate) (
            let a : Adds true true opener outer = adds true true opener outer void isolate in
            record {
              statuses_are = holds.statuses_are ∙ a.statuses_are;
              isolates_are = holds.isolates_are ∙ a.isolates_are;
              overflowed_isolates_are = omega (arith, holds.overflowed_isolates_are, a.overflowed_isolates_are);
              overflowed_embeddings_are = holds.overflowed_embeddings_are ∙ a.overflowed_embeddings_are;
            })
        | inr embedding ↦
            let a : Adds true false opener outer = adds true false opener outer void embedding in
            let inner : 0 < overflowed_isolates base outer = omega (arith, holds.overflowed_isolates_are, a.overflowed_isolates_are) in
            rw (close_isolate-outside opener outer embedding (some_isolate outer (omega arith)))
            (Holds-void_isolate_closed openers outer record {
              statuses_are = holds.statuses_are ∙ a.statuses_are;
              isolates_are = holds.isolates_are ∙ a.isolates_are;
              overflowed_isolates_are = holds.overflowed_isolates_are ∙ a.overflowed_isolates_are;
              overflowed_embeddings_are = holds.overflowed_embeddings_are ∙ embedding_passed opener outer a inner;
            } some)
      ]

  -- the state after PDI has closed the innermost isolate of a chain, which does not overflow
  pub record IsIsolateClosed (chain : List BidiClass) : Type 0 where
    pub before : AreBeforeIsolate (statuses base (close_isolate chain)) (statuses base chain)
    pub isolates_are : isolates base (close_isolate chain) + 1 ≡ isolates base chain
    pub overflowed_isolates_are : overflowed_isolates base (close_isolate chain) ≡ 0
    pub overflowed_embeddings_are : overflowed_embeddings base (close_isolate chain) ≡ 0

  isolate_closed : (chain : List BidiClass) → overflowed_isolates base chain ≡ 0 → 0 < isolates base chain → IsIsolateClosed chain
  isolate_closed [] none some = absurd (omega arith)
  isolate_closed (opener ∷ outer) none some =
      elim (cases_Bool (is_initiator opener)) [
        | inl isolate ↦ elim (cases_void opener outer) [
          | inr v ↦ let a = adds true true opener outer (ap (λ (i : Inside). i.is_void) v.is) isolate in absurd (omega (arith, a.overflowed_isolates_are))
          | inl e ↦ let a : Adds false true opener outer = adds false true opener outer (ap (λ (i : Inside). i.is_void) e.is) isolate in
              let counts = none_void outer e.not_void in
              let here : close_isolate (opener ∷ outer) ≡ outer = close_isolate-here opener outer isolate in
              record {
                before = rw here record {
                  isolate = innermost base (opener ∷ outer);
                  inner = [];
                  split = a.statuses_are;
                  opens = ap (λ (s : Status). s.is_isolate) a.innermost_is;
                  none = refl;
                };
                isolates_are = ap (λ c. isolates base c + 1) here ∙ sym a.isolates_are;
                overflowed_isolates_are = ap (overflowed_isolates base) here ∙ counts.0;
                overflowed_embeddings_are = ap (overflowed_embeddings base) here ∙ counts.1;
              }
        ]
        | inr embedding ↦
            let b = adds ((inside base (opener ∷ outer)).is_void) false opener outer refl embedding in
            let some_outside : 0 < isolates base outer = omega (arith, b.isolates_are) in
            let outside : close_isolate (opener ∷ outer) ≡ close_isolate outer = close_isolate-outside opener outer embedding (some_isolate outer (omega arith)) in
            let rest : IsIsolateClosed outer = isolate_closed outer (omega (arith, b.overflowed_isolates_are)) some_outside in
            record {
              before = rw outside (elim (cases_Bool ((inside base (opener ∷ outer)).is_void)) [
                | inl void ↦ rw (adds true false opener outer void embedding).statuses_are rest.before
                | inr live ↦ let a : Adds false false opener outer = adds false false opener outer live embedding in
                    rw a.statuses_are (AreBeforeIsolate-more _ _ (innermost base (opener ∷ outer)) rest.before (ap (λ (s : Status). s.is_isolate) a.innermost_is))
              ]);
              isolates_are = ap (λ c. isolates base c + 1) outside ∙ rest.isolates_are ∙ sym b.isolates_are;
              overflowed_isolates_are = ap (overflowed_isolates base) outside ∙ rest.overflowed_isolates_are;
              overflowed_embeddings_are = ap (overflowed_embeddings base) outside ∙ rest.overflowed_embeddings_are;
            }
      ]

  -- PDI closes an isolate that does not overflow
  pub Holds-isolate_closed : (openers : Openers) (chain : List BidiClass) → Holds base openers chain → openers.overflowed_isolates ≡ 0 → 0 < openers.isolates
      → (entries : List Status) → ClosesIsolate openers.statuses.items entries
      → Holds base (record openers { statuses = record { items = entries }; isolates = openers.isolates - 1; overflowed_embeddings = 0 }) (close_isolate chain)
  Holds-isolate_closed openers chain holds none some entries closes =
      let closed : IsIsolateClosed chain = isolate_closed chain (sym holds.overflowed_isolates_are ∙ none) (omega (arith, holds.isolates_are)) in
      record {
        statuses_are = closes (statuses base (close_isolate chain)) (rw holds.statuses_are closed.before);
        isolates_are = omega (arith, closed.isolates_are, holds.isolates_are);
        overflowed_isolates_are = none ∙ sym closed.overflowed_isolates_are;
        overflowed_embeddings_are = sym closed.overflowed_embeddings_are;
      }

  -- PDI closes nothing if no isolate is open
  pub Holds-no_isolate : (openers : Openers) (chain : List BidiClass) → Holds base openers chain → openers.overflowed_isolates ≡ 0 → openers.isolates ≡ 0
      → Holds base openers (close_isolate chain)
  Holds-no_isolate openers chain holds none_void none =
      rw (cond-false (list_any is_initiator chain) (drop (prefix_len (λ opener. not (is_initiator opener)) chain + 1) chain) chain
      (no_isolate chain (sym holds.isolates_are ∙ none) (sym holds.overflowed_isolates_are ∙ none_void)))
      holds
