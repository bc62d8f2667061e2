-- Lists of entries: the value of a code point, and what adding an entry changes.
use Rattle.std.proofs.Common.{◌≡◌, ℕ, zero, suc, ◌+◌, ◌<◌, ◌≤◌, nat_le, nat_lt, ◌&&◌, Bool, true, false, List, [], ◌∷◌, ◌++◌, length, take, get_or, slice_get, Option, Some, None, is_some, IsTrue, if◌then◌else◌, refl, sym, ◌∙◌, ap, ◌⊎◌, inl, inr, arith}
use Rattle.std.proofs.lemmas.Bool.{cases_Bool, cond-true, cond-false}
use Rattle.std.proofs.lemmas.Bool.Decides.{nat_tests}
use Rattle.std.proofs.lemmas.Grind.{common_steps}
use Rattle.std.proofs.lemmas.List.{take-append-le, take_more}
use Rattle.std.proofs.Math.Seq.{take-append_seam}
use Rattle.std.proofs.lemmas.Option.{slice_get_within, get_or_from_slice_get}
use Rattle.ucd.specs.Answers.{PropertyAnswers}
use Rattle.ucd.specs.Puts.{put_by}
use Rattle.ucd.specs.declared.grammar.Entry.{Entry}
use Rattle.ucd.specs.Entries.{covers, value_at, AddsEntry, AreApart, AreNamed, IsFree}

module _ {V : Type 0} where
  -- appending an entry gives its value to the code points that it covers, and leaves the other values
  -- unchanged
  value_push : (es : List (Entry V)) (e : Entry V) (c : ℕ) → (IsTrue (covers e c) → value_at es c ≡ None) → value_at (es ++ e ∷ []) c ≡ (if covers e c then Some e.value else value_at es c)
  value_push [] e c free = refl
  value_push (x ∷ es) e c free = grind (arith, nat_tests, value_push es e c)

  not_some : (o : Option V) → is_some o ≡ false → o ≡ None
  not_some None none = refl
  not_some (Some v) none = cc

  -- an entry of an extended list is in the old list, or is the appended one
  entry_push : (es : List (Entry V)) (e x : Entry V) (i : ℕ) → slice_get (es ++ e ∷ []) i ≡ Some x → ((i < length es) × (slice_get es i ≡ Some x)) ⊎ ((i ≡ length es) × (x ≡ e))
  entry_push [] e x zero is = inr (refl, cc)
  entry_push [] e x (suc i) is = cc
  entry_push (y ∷ es) e x zero is = inl (omega arith, is)
  entry_push (y ∷ es) e x (suc i) is = elim (entry_push es e x i is) [
    | inl (lt, here) ↦ inl (omega arith, here)
    | inr (end, same) ↦ inr (omega arith, same)
  ]

  -- an entry is free if no code point in its range is flagged as named
  pub free_from : (es : List (Entry V)) (named : List Bool) (e : Entry V) → AreNamed es named → e.last < 1114112 → ((c : ℕ) → e.first ≤ c → c < e.last + 1 → get_or named c false ≡ false) → IsFree es e
  free_from es named e are within none c covered =
      let from : e.first ≤ c = grind (arith, nat_tests) in
      let to : c ≤ e.last = grind (arith, nat_tests) in
      not_some (value_at es c) (sym (are.each c (omega arith)) ∙ none c from (omega arith))

  -- an entry that was free stays free after an entry with lower code points has been added
  pub free_after : (old mid : List (Entry V)) (one other : Entry V) → AddsEntry old mid one → one.last < other.first → IsFree old other → IsFree mid other
  free_after old mid one other adds lt free c covered =
      let outside : covers one c ≡ false = grind (arith, nat_tests) in
      adds.values c ∙ cond-false (covers one c) (Some one.value) (value_at old c) outside ∙ free c covered

  -- appending a free entry adds its value, keeps the entries apart, and sets the flags of its range
  module _ (es : List (Entry V)) (named : List Bool) (e : Entry V) (apart : AreApart es) (are : AreNamed es named) (whole : e.first ≤ e.last) (within : e.last < 1114112) (free : IsFree es e) where
    pub adds_push : AddsEntry es (es ++ e ∷ []) e
    adds_push = record { free = free; values = λ c. value_push es e c (free c) }

    pub apart_push : AreApart (es ++ e ∷ [])
    apart_push = record {
      whole = λ i x is. elim (entry_push es e x i is) [
        | inl (lt, here) ↦ apart.whole i x here
        | inr (end, same) ↦ rw same (whole, within)
      ];
      apart = λ i x is c covered. elim (entry_push es e x i is) [
        | inl (lt, here) ↦ rw (take-append-le i es (e ∷ []) (omega arith)) (apart.apart i x here c covered)
        | inr (end, same) ↦ rw (end, take-append_seam es (e ∷ [])) (free c (rw same at covered))
      ];
    }

    pub named_push : (new : List Bool) → length new ≡ length named
        → ((c : ℕ) → get_or new c false
        ≡ (if nat_le e.first c && nat_lt c (e.last + 1) then true else get_or named c false))
        → AreNamed (es ++ e ∷ []) new
    named_push new len each = record {
      len = len ∙ are.len;
      each = λ c lt. rw (value_push es e c (free c)) (grind (arith, nat_tests, common_steps, each c, are.each c lt));
    }

  -- In the first i + 1 entries, a code point that entry i covers has the value of entry i. Other code points
  -- have the same value as in the first i entries.
  pub value_more : (es : List (Entry V)) → AreApart es → (i : ℕ) (e : Entry V) → slice_get es i ≡ Some e → (c : ℕ)
      → value_at (take (i + 1) es) c ≡ (if covers e c then Some e.value else value_at (take i es) c)
  value_more es apart i e is c =
      let more : take (i + 1) es ≡ take i es ++ e ∷ [] = take_more es i e (slice_get_within es i e is) ∙ ap (λ x. take i es ++ x ∷ []) (get_or_from_slice_get es i e e is) in
      rw more (value_push (take i es) e c (apart.apart i e is c))

  -- applying entry i to the code points that it covers turns the properties after the first i entries into
  -- those after the first i + 1
  pub put_more : (put : V → PropertyAnswers → PropertyAnswers) (es : List (Entry V)) → AreApart es → (i : ℕ) (e : Entry V) → slice_get es i ≡ Some e → (c : ℕ) (old mid new : PropertyAnswers) →
      mid ≡ put_by put (value_at (take i es) c) old → new ≡ (if nat_le e.first c && nat_lt c (e.last + 1) then put e.value mid else mid) → new ≡ put_by put (value_at (take (i + 1) es) c) old
  put_more put es apart i e is c old mid new before after =
      let here : Bool = nat_le e.first c && nat_lt c (e.last + 1) in
      rw (value_more es apart i e is c) (elim (cases_Bool (covers e c)) [
        | inl covered ↦
            let none : value_at (take i es) c ≡ None = apart.apart i e is c covered in
            let same : mid ≡ old = before ∙ ap (λ v. put_by put v old) none in
            let is_here : here ≡ true = grind (arith, nat_tests) in
            let value : (if covers e c then Some e.value else value_at (take i es) c) ≡ Some e.value = cond-true (covers e c) (Some e.value) (value_at (take i es) c) covered in
            after ∙ cond-true here (put e.value mid) mid is_here ∙ ap (put e.value) same ∙ sym (ap (λ v. put_by put v old) value)
        | inr outside ↦
            let is_not : here ≡ false = grind (arith, nat_tests) in
            let value : (if covers e c then Some e.value else value_at (take i es) c) ≡ value_at (take i es) c = cond-false (covers e c) (Some e.value) (value_at (take i es) c) outside in
            after ∙ cond-false here (put e.value mid) mid is_not ∙ before ∙ sym (ap (λ v. put_by put v old) value)
      ])

  -- at an index below the length, `slice_get` returns the same entry as `get_or`
  pub entry_read : (es : List (Entry V)) (i : ℕ) (e : Entry V) → i < length es → e ≡ get_or es i e → slice_get es i ≡ Some e
  entry_read [] i e lt is = absurd (omega arith)
  entry_read (x ∷ es) zero e lt is = ap Some (sym is)
  entry_read (x ∷ es) (suc i) e lt is = entry_read es i e (omega arith) is
