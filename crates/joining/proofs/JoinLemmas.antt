-- The character that another joins, found in one pass.
use Rattle.std.proofs.Common.{◌≡◌, ℕ, zero, suc, ◌+◌, ◌-◌, ◌<◌, ◌≤◌, Bool, true, false, ◌&&◌, cond, List, [], ◌∷◌, length, take, drop, Option, Some, None, refl, sym, ap, ◌∙◌, inl, inr, arith, add-one, nat_lt, length-drop, drop-cons}
use Rattle.std.proofs.lemmas.List.{get_or-drop}
use Rattle.std.proofs.Math.Bool.{and-false}
use Rattle.std.proofs.lemmas.Bool.{cond-true, cond-false, cases_Bool, eq-eqb, lt-ltb}
use Rattle.std.specs.List.{list_all, slice_range}
use Rattle.std.specs.Option.{option_or}
use Rattle.ucd.specs.Least.{least}
use Rattle.ucd_bidi.specs.declared.JoiningType.{JoiningType}
use Rattle.ucd_bidi.specs.declared.JoiningType.TheVariants.{DualJoining, JoinCausing, LeftJoining, NonJoining, RightJoining, Transparent}
use Rattle.joining.specs.Joiners.{is_rtl, is_transparent, joiner_at, joins_after, joins_before, joins_left, joins_right, transparent}
use Rattle.joining.specs.Joins.{agree, agrees, joins, leading_level, level_after, next_joined}
use Rattle.joining.specs.declared.joiner.Agreement.{Agreement}
use Rattle.joining.specs.declared.joiner.Agreement.TheVariants.{All, WithFirst}
use Rattle.joining.specs.declared.joiner.Joiner.{Joiner}

-- the index of the character that a character joins, given the level before the remaining characters, the index of the
-- first of them, and these characters
abbrev pub joined_in : Agreement → Option ℕ → ℕ → List Joiner → Option ℕ
joined_in by level k [] = None
joined_in by level k (next ∷ rest) =
    cond (agrees level next.level)
    (cond (is_transparent next) (joined_in by (level_after by level next.level) (k + 1) rest)
    (cond (joins_before next) (Some k) None))
    None

-- ---- agreement

pub agrees_self : (level : Option ℕ) → agrees level level ≡ true
agrees_self None = refl
agrees_self (Some level) = eq-eqb level level refl

pub agrees_none : (level : Option ℕ) → agrees level None ≡ true
agrees_none None = refl
agrees_none (Some level) = refl

and_swap : (a b c : Bool) → (a && (b && c)) ≡ (b && (a && c))
and_swap true b c = refl
and_swap false true c = refl
and_swap false false c = refl

agree_one : (by : Agreement) (t : JoiningType) (l : Option ℕ) → agree by (record { joining = t; level = l } ∷ []) ≡ true
agree_one WithFirst t l = ap (λ b. b && true) (agrees_self l)
agree_one All t None = refl
agree_one All t (Some level) = ap (λ b. b && true) (eq-eqb level level refl)

-- characters agree if the first two do, and the others agree with these two
agree_more : (by : Agreement) (s t u : JoiningType) (l m : Option ℕ) (rest : List Joiner)
    → agree by (record { joining = s; level = l } ∷ record { joining = t; level = m } ∷ rest)
    ≡ (agrees l m && agree by (record { joining = u; level = level_after by l m } ∷ rest))
agree_more WithFirst s t u l m rest = and_swap (agrees l l) (agrees l m) (list_all (λ (c : Joiner). agrees l c.level) rest)
agree_more All s t u None m rest =
    let level : Option ℕ = option_or m (leading_level All rest) in
    ap (λ b. b && (agrees level m && list_all (λ (c : Joiner). agrees level c.level) rest)) (agrees_none level)
agree_more All s t u (Some v) m rest = and_swap (agrees (Some v) (Some v)) (agrees (Some v) m) (list_all (λ (c : Joiner). agrees (Some v) c.level) rest)

type_joins : (rtl : Bool) (t : JoiningType) → transparent t ≡ true → cond rtl (joins_right t) (joins_left t) ≡ false
type_joins true Transparent is = refl
type_joins false Transparent is = refl
type_joins rtl DualJoining is = absurd (cc)
type_joins rtl JoinCausing is = absurd (cc)
type_joins rtl LeftJoining is = absurd (cc)
type_joins rtl RightJoining is = absurd (cc)
type_joins rtl NonJoining is = absurd (cc)

transparent_joins : (c : Joiner) → is_transparent c ≡ true → joins_before c ≡ false
transparent_joins c is = type_joins (is_rtl c.level) c.joining is

-- ---- one pass

-- whether a character of a level joins the one that n others separate from it
abbrev ahead : Agreement → Option ℕ → List Joiner → ℕ → Bool
ahead by level rest n =
    agree by (record { joining = NonJoining; level = level } ∷ take (suc n) rest) && list_all is_transparent (take n rest) && joins_before (joiner_at rest n)

pub least_none : (p : ℕ → Bool) (low count : ℕ) → ((m : ℕ) → low ≤ m → m < low + count → p m ≡ false) → least p low count ≡ None
least_none p low zero fails = refl
least_none p low (suc count) fails =
    cond-false (p low) (Some low) (least p (suc low) count) (fails low (omega arith) (omega arith))
    ∙ least_none p (suc low) count (λ m above below. fails m (omega arith) (omega arith))

-- the steps of `ahead`: at the next character, and at one past it
module _ (by : Agreement) (level : Option ℕ) (c : Joiner) (rest : List Joiner) where
  abbrev next_level : Option ℕ
  next_level = level_after by level c.level

  ahead_now : ahead by level (c ∷ rest) 0 ≡ (agrees level c.level && joins_before c)
  ahead_now =
      ap (λ b. b && true && joins_before c) (agree_more by NonJoining c.joining NonJoining level c.level [] ∙ ap (λ b. agrees level c.level && b) (agree_one by NonJoining next_level))
      ∙ simp_and (agrees level c.level) (joins_before c)
    where
      simp_and : (a b : Bool) → (a && true && true && b) ≡ (a && b)
      simp_and true b = refl
      simp_and false b = refl

  ahead_later : (n : ℕ) → ahead by level (c ∷ rest) (suc n) ≡ (agrees level c.level && (is_transparent c && ahead by next_level rest n))
  ahead_later n =
      ap (λ b. b && list_all is_transparent (c ∷ take n rest) && joins_before (joiner_at rest n)) (agree_more by NonJoining c.joining NonJoining level c.level (take (suc n) rest))
      ∙ regroup (agrees level c.level) (agree by (record { joining = NonJoining; level = next_level } ∷ take (suc n) rest)) (is_transparent c)
      (list_all is_transparent (take n rest)) (joins_before (joiner_at rest n))
    where
      regroup : (a b t u v : Bool) → (a && b && (t && u) && v) ≡ (a && (t && (b && u && v)))
      regroup false b t u v = refl
      regroup true false true u v = refl
      regroup true false false u v = refl
      regroup true true true u v = refl
      regroup true true false u v = refl

pub found : (by : Agreement) (level : Option ℕ) (k : ℕ) (rest : List Joiner) (p : ℕ → Bool) → ((n : ℕ) → n < length rest → p (k + n) ≡ ahead by level rest n)
    → least p k (length rest) ≡ joined_in by level k rest
found by level k [] p is = refl
found by level k (c ∷ rest) p is =
    elim (cases_Bool (agrees level c.level)) [
      | inl agreed ↦ elim (cases_Bool (is_transparent c)) [
        | inl clear ↦
            cond-false (p k) (Some k) later (now ∙ ap (λ b. agrees level c.level && b) (transparent_joins c clear) ∙ and-false (agrees level c.level))
            ∙ found by next (suc k) rest p (λ n within. past n within ∙ ap (λ b. b && (is_transparent c && ahead by next rest n)) agreed ∙ ap (λ b. b && ahead by next rest n) clear)
            ∙ ap (λ i. joined_in by next i rest) (sym (add-one k))
            ∙ sym (cond-true (is_transparent c) (joined_in by next (k + 1) rest) (cond (joins_before c) (Some k) None) clear)
            ∙ sym (cond-true (agrees level c.level) _ None agreed)
        | inr solid ↦
            ap (λ b. cond b (Some k) later) (now ∙ ap (λ b. b && joins_before c) agreed)
            ∙ ap (λ r. cond (joins_before c) (Some k) r)
            (least_none p (suc k) (length rest) (λ m from to. after m from to
            ∙ ap (λ b. agrees level c.level && (b && ahead by next rest (m - suc k))) solid ∙ and-false (agrees level c.level)))
            ∙ sym (cond-false (is_transparent c) (joined_in by next (k + 1) rest) (cond (joins_before c) (Some k) None) solid)
            ∙ sym (cond-true (agrees level c.level) _ None agreed)
      ]
      | inr other ↦
          cond-false (p k) (Some k) later (now ∙ ap (λ b. b && joins_before c) other)
          ∙ least_none p (suc k) (length rest) (λ m from to. after m from to ∙ ap (λ b. b && (is_transparent c && ahead by next rest (m - suc k))) other)
          ∙ sym (cond-false (agrees level c.level) (cond (is_transparent c) (joined_in by next (k + 1) rest) (cond (joins_before c) (Some k) None)) None other)
    ]
  where
    next : Option ℕ
    next = level_after by level c.level

    later : Option ℕ
    later = least p (suc k) (length rest)

    now : p k ≡ (agrees level c.level && joins_before c)
    now = ap p (omega arith) ∙ is 0 (omega arith) ∙ ahead_now by level c rest

    past : (n : ℕ) → n < length rest → p (suc k + n) ≡ (agrees level c.level && (is_transparent c && ahead by next rest n))
    past n within = ap p (omega arith) ∙ is (suc n) (omega arith) ∙ ahead_later by level c rest n

    after : (m : ℕ) → suc k ≤ m → m < suc k + length rest → p m ≡ (agrees level c.level && (is_transparent c && ahead by next rest (m - suc k)))
    after m from to = ap p (omega arith) ∙ past (m - suc k) (omega arith)

-- ---- the whole text

agree_level : (by : Agreement) (s t : JoiningType) (level : Option ℕ) (rest : List Joiner)
    → agree by (record { joining = s; level = level } ∷ rest) ≡ agree by (record { joining = t; level = level } ∷ rest)
agree_level WithFirst s t level rest = refl
agree_level All s t level rest = refl

module _ (by : Agreement) (text : List Joiner) (a : ℕ) (within : a < length text) where
  abbrev first : Joiner
  first = joiner_at text a

  abbrev others : List Joiner
  others = drop (a + 1) text

  others_are : length text - (a + 1) ≡ length others
  others_are = sym (length-drop (a + 1) text)

  joins_is : (n : ℕ) → n < length others → joins by text a (a + 1 + n) ≡ (joins_after first && ahead by first.level others n)
  unfolding joins
  joins_is n more =
      ap (λ b. b && nat_lt (a + 1 + n) (length text) && joins_after first && joins_before (joiner_at text (a + 1 + n))
      && list_all is_transparent (slice_range text (a + 1) (a + 1 + n)) && agree by (slice_range text a (a + 1 + n + 1))) (lt-ltb a (a + 1 + n) (omega arith))
      ∙ ap (λ b. b && joins_after first && joins_before (joiner_at text (a + 1 + n))
      && list_all is_transparent (slice_range text (a + 1) (a + 1 + n)) && agree by (slice_range text a (a + 1 + n + 1))) (lt-ltb (a + 1 + n) (length text) (omega (arith, others_are)))
      ∙ ap (λ (c : Joiner). joins_after first && joins_before c && list_all is_transparent (slice_range text (a + 1) (a + 1 + n)) && agree by (slice_range text a (a + 1 + n + 1)))
      (sym (get_or-drop (a + 1) text n (record { joining = NonJoining; level = None })))
      ∙ ap (λ xs. joins_after first && joins_before (joiner_at others n) && list_all is_transparent xs && agree by (slice_range text a (a + 1 + n + 1))) between
      ∙ ap (λ xs. joins_after first && joins_before (joiner_at others n) && list_all is_transparent (take n others) && agree by xs) whole
      ∙ ap (λ b. joins_after first && joins_before (joiner_at others n) && list_all is_transparent (take n others) && b) (agree_level by first.joining NonJoining first.level (take (suc n) others))
      ∙ reorder (joins_after first) (joins_before (joiner_at others n)) (list_all is_transparent (take n others)) (agree by (record { joining = NonJoining; level = first.level } ∷ take (suc n) others))
    where
      between : slice_range text (a + 1) (a + 1 + n) ≡ take n others
      between = ap (λ i. take i others) (omega arith)

      whole : slice_range text a (a + 1 + n + 1) ≡ first ∷ take (suc n) others
      whole =
          let count : a + 1 + n + 1 - a ≡ suc (suc n) = omega arith in
          ap (λ i. take i (drop a text)) count ∙ ap (take (suc (suc n))) (drop-cons text a (record { joining = NonJoining; level = None }) within)
          ∙ ap (λ i. first ∷ take (suc n) (drop i text)) (sym (add-one a))

      reorder : (a b t g : Bool) → (a && b && t && g) ≡ (a && (g && t && b))
      reorder false b t g = refl
      reorder true false t g = sym (and-false (g && t))
      reorder true true true true = refl
      reorder true true true false = refl
      reorder true true false true = refl
      reorder true true false false = refl

  pub next_none : joins_after first ≡ false → next_joined by text a ≡ None
  unfolding next_joined
  next_none ends =
      least_none (joins by text a) (a + 1) (length text - (a + 1))
      (λ m from to. ap (joins by text a) (omega arith) ∙ joins_is (m - (a + 1)) (omega (arith, others_are)) ∙ ap (λ b. b && ahead by first.level others (m - (a + 1))) ends)

  pub next_is : joins_after first ≡ true → joined_in by first.level (a + 1) others ≡ next_joined by text a
  unfolding next_joined
  next_is goes =
      sym
      (ap (least (joins by text a) (a + 1)) others_are
      ∙ found by first.level (a + 1) others (joins by text a) (λ n more. joins_is n more ∙ ap (λ b. b && ahead by first.level others n) goes))

  pub next_from : cond (joins_after first) (joined_in by first.level (a + 1) others) None ≡ next_joined by text a
  next_from =
      elim (cases_Bool (joins_after first)) [
        | inl goes ↦ cond-true (joins_after first) (joined_in by first.level (a + 1) others) None goes ∙ next_is goes
        | inr ends ↦ cond-false (joins_after first) (joined_in by first.level (a + 1) others) None ends ∙ sym (next_none ends)
      ]
