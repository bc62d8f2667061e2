-- Entries in ascending order, and files whose entries can be sorted into that order.
use Rattle.std.proofs.Common.{◌≡◌, ℕ, zero, suc, ◌+◌, ◌<◌, ◌≤◌, Bool, true, false, List, [], ◌∷◌, ◌++◌, length, get_or, take, slice_get, Option, Some, None, is_some, IsSome, Result, Ok, Err, IsOk, inl, inr, if◌then◌else◌, refl, sym, ◌∙◌, ap, arith}
use Rattle.std.specs.Char.{IsScalar}
use Rattle.std.specs.List.{Contains, sum_by}
use Rattle.std.specs.List.Sorted.{IsPermutation}
use Rattle.std.proofs.lemmas.Bool.{false≢true, cases_Bool, cond-true, cond-false}
use Rattle.std.proofs.lemmas.Bool.Decides.{nat_tests}
use Rattle.std.proofs.lemmas.List.Recursion.{is_sum_by}
use Rattle.std.proofs.lemmas.List.Sorted.{sum_by-IsPermutation, Contains-permutation}
use Rattle.ucd.specs.declared.fault.Cause.{Cause}
use Rattle.ucd.specs.declared.grammar.Entry.{Entry}
use Rattle.ucd.specs.Entries.{covers, value_at, AreApart}
use Rattle.ucd.specs.Files.{given_by, given, or_else, value_in, line_at, HoldsFile}
use Rattle.ucd.specs.Grammar.{Form, reading_of}
use Rattle.ucd.specs.Rising.{AreRisingFrom, characters_of, entries_by, entries_in, AreRead}
use Rattle.ucd.proofs.FileLines.{given_entry, entry_gives}

abbrev one_if : Bool → ℕ
one_if b = if b then 1 else 0

module _ {V : Type 0} where
  -- the number of entries that cover the code point
  abbrev covering : ℕ → List (Entry V) → ℕ
  covering c [] = 0
  covering c (e ∷ es) = one_if (covers e c) + covering c es

  covering_here : (c : ℕ) (e : Entry V) (es : List (Entry V)) → covers e c ≡ true → covering c (e ∷ es) ≡ 1 + covering c es
  covering_here c e es covered = ap (λ n. n + covering c es) (cond-true (covers e c) 1 0 covered)

  covering_later : (c : ℕ) (e : Entry V) (es : List (Entry V)) → covers e c ≡ false → covering c (e ∷ es) ≡ covering c es
  covering_later c e es outside = let none : one_if (covers e c) ≡ 0 = cond-false (covers e c) 1 0 outside in omega (arith, none)

  value_here : (c : ℕ) (e : Entry V) (es : List (Entry V)) → covers e c ≡ true → value_at (e ∷ es) c ≡ Some e.value
  value_here c e es covered = cond-true (covers e c) (Some e.value) (value_at es c) covered

  value_later : (c : ℕ) (e : Entry V) (es : List (Entry V)) → covers e c ≡ false → value_at (e ∷ es) c ≡ value_at es c
  value_later c e es outside = cond-false (covers e c) (Some e.value) (value_at es c) outside

  before_first : (e : Entry V) (c : ℕ) → c < e.first → covers e c ≡ false
  before_first e c lt = grind (arith, nat_tests)

  after_last : (e : Entry V) (c : ℕ) → e.last < c → covers e c ≡ false
  after_last e c lt = grind (arith, nat_tests)

  covered_from : (e : Entry V) (c : ℕ) → covers e c ≡ true → e.first ≤ c
  covered_from e c covered = grind (arith, nat_tests)

  covered_to : (e : Entry V) (c : ℕ) → covers e c ≡ true → c ≤ e.last
  covered_to e c covered = grind (arith, nat_tests)

  -- entries that ascend from `low` on cover no code point below `low`, and no code point twice
  none_before : (low : ℕ) (es : List (Entry V)) (c : ℕ) → AreRisingFrom low es → c < low → covering c es ≡ 0
  none_before low [] c rising lt = refl
  none_before low (e ∷ es) c (from, whole, within, rest) lt = covering_later c e es (before_first e c (omega arith)) ∙ none_before (e.last + 1) es c rest (omega arith)

  once : (low : ℕ) (es : List (Entry V)) (c : ℕ) → AreRisingFrom low es → covering c es ≤ 1
  once low [] c rising = omega arith
  once low (e ∷ es) c (from, whole, within, rest) = elim (cases_Bool (covers e c)) [
    | inl covered ↦ omega (arith, covering_here c e es covered, none_before (e.last + 1) es c rest (omega (arith, covered_to e c covered)))
    | inr outside ↦ omega (arith, covering_later c e es outside, once (e.last + 1) es c rest)
  ]

  -- a code point has no value if and only if no entry covers it
  none_covering : (es : List (Entry V)) (c : ℕ) → covering c es ≡ 0 → value_at es c ≡ None
  none_covering [] c none = refl
  none_covering (e ∷ es) c none = elim (cases_Bool (covers e c)) [
    | inl covered ↦ absurd (omega (arith, none, covering_here c e es covered))
    | inr outside ↦ value_later c e es outside ∙ none_covering es c (sym (covering_later c e es outside) ∙ none)
  ]

  covering_none : (es : List (Entry V)) (c : ℕ) → value_at es c ≡ None → covering c es ≡ 0
  covering_none [] c none = refl
  covering_none (e ∷ es) c none = elim (cases_Bool (covers e c)) [
    | inl covered ↦ absurd (let some : Some e.value ≡ None = sym (value_here c e es covered) ∙ none in cc)
    | inr outside ↦ covering_later c e es outside ∙ covering_none es c (sym (value_later c e es outside) ∙ none)
  ]

  -- if a code point has a value, an entry that covers it has the same value
  entry_of_value : (es : List (Entry V)) (c : ℕ) (v : V) → value_at es c ≡ Some v → (e : Entry V) × Contains es e × (covers e c ≡ true) × (e.value ≡ v)
  entry_of_value [] c v is = absurd (let no : ⊥ = cc in no)
  entry_of_value (e ∷ es) c v is = elim (cases_Bool (covers e c)) [
    | inl covered ↦ (e, (0, omega arith, refl), covered, (let same : Some e.value ≡ Some v = sym (value_here c e es covered) ∙ is in cc))
    | inr outside ↦
        let later = entry_of_value es c v (sym (value_later c e es outside) ∙ is) in
        (later.0, (suc later.1.0, omega (arith, later.1.1), later.1.2), later.2, later.3)
  ]

  covering_at : (es : List (Entry V)) (c : ℕ) (e : Entry V) (k : ℕ) → k < length es → get_or es k e ≡ e → covers e c ≡ true → 1 ≤ covering c es
  covering_at [] c e k lt is covered = absurd (omega arith)
  covering_at (x ∷ es) c e zero lt is covered = omega (arith, covering_here c x es (ap (λ y. covers y c) is ∙ covered))
  covering_at (x ∷ es) c e (suc k) lt is covered = omega (arith, covering_at es c e k (omega arith) is covered)

  -- if only one entry covers a code point, the code point has the value of that entry
  value_of_entry : (es : List (Entry V)) (c : ℕ) (e : Entry V) (k : ℕ) → k < length es → get_or es k e ≡ e → covers e c ≡ true → covering c es ≤ 1 → value_at es c ≡ Some e.value
  value_of_entry [] c e k lt is covered one = absurd (omega arith)
  value_of_entry (x ∷ es) c e zero lt is covered one = value_here c x es (ap (λ y. covers y c) is ∙ covered) ∙ ap (λ y. Some y.value) is
  value_of_entry (x ∷ es) c e (suc k) lt is covered one = elim (cases_Bool (covers x c)) [
    | inl here ↦ absurd (omega (arith, one, covering_here c x es here, covering_at es c e k (omega arith) is covered))
    | inr outside ↦ value_later c x es outside ∙ value_of_entry es c e k (omega arith) is covered (omega (arith, one, covering_later c x es outside))
  ]

  -- the number of entries that cover a given code point is the same in a permutation of the entries
  same_covering : (es sorted : List (Entry V)) (c : ℕ) → IsPermutation es sorted → covering c sorted ≡ covering c es
  same_covering es sorted c moved =
      let count : Entry V → ℕ = λ e. one_if (covers e c) in
      let is : (xs : List (Entry V)) → covering c xs ≡ sum_by count xs = is_sum_by (covering c) count refl (λ x xs. refl) in
      is sorted ∙ sum_by-IsPermutation count es sorted moved ∙ sym (is es)

  -- sorting keeps the values if no two entries cover the same code point
  same_value : (es sorted : List (Entry V)) (c : ℕ) → IsPermutation es sorted → covering c sorted ≤ 1 → value_at sorted c ≡ value_at es c
  same_value es sorted c moved one = by (value_at es c) refl
    where
      by : (o : Option V) → value_at es c ≡ o → value_at sorted c ≡ value_at es c
      by None none = none_covering sorted c (same_covering es sorted c moved ∙ covering_none es c none) ∙ sym none
      by (Some v) some =
          let found = entry_of_value es c v some in
          let there = Contains-permutation es sorted found.0 moved found.1 in
          value_of_entry sorted c found.0 there.0 there.1 there.2 found.2 one ∙ ap Some found.3 ∙ sym some

  -- `AreApart` holds for entries in ascending order
  first_from : (low : ℕ) (es : List (Entry V)) (i : ℕ) (e : Entry V) → AreRisingFrom low es → slice_get es i ≡ Some e → (low ≤ e.first) × (e.first ≤ e.last) × (e.last < 1114112)
  first_from low [] i e rising is = absurd (let no : ⊥ = cc in no)
  first_from low (x ∷ es) zero e (from, whole, within, rest) is = let same : x ≡ e = cc in rw (← same) (from, whole, within)
  first_from low (x ∷ es) (suc i) e (from, whole, within, rest) is = let later = first_from (x.last + 1) es i e rest is in (omega (arith, later.0), later.1, later.2)

  apart_at : (low : ℕ) (es : List (Entry V)) (i : ℕ) (e : Entry V) → AreRisingFrom low es → slice_get es i ≡ Some e → (c : ℕ) → e.first ≤ c → value_at (take i es) c ≡ None
  apart_at low [] i e rising is c le = absurd (let no : ⊥ = cc in no)
  apart_at low (x ∷ es) zero e rising is c le = refl
  apart_at low (x ∷ es) (suc i) e (from, whole, within, rest) is c le =
      let later = first_from (x.last + 1) es i e rest is in
      value_later c x (take i es) (after_last x c (omega (arith, later.0))) ∙ apart_at (x.last + 1) es i e rest is c le

  pub rising_apart : (low : ℕ) (es : List (Entry V)) → AreRisingFrom low es → AreApart es
  rising_apart low es rising = record {
    whole = λ i e is. let at = first_from low es i e rising is in (at.1, at.2);
    apart = λ i e is c covered. apart_at low es i e rising is c (covered_from e c covered);
  }

-- ---- the values that the lines of a file assign to a character, and how many lines list it
module _ {V : Type 0} (form : Form V) where
  value_append : (xs ys : List (Entry V)) (c : ℕ) → value_at (xs ++ ys) c ≡ or_else form (value_at xs c) (value_at ys c)
  value_append [] ys c = refl
  value_append (x ∷ xs) ys c = elim (cases_Bool (covers x c)) [
    | inl covered ↦ value_here c x (xs ++ ys) covered ∙ sym (ap (λ o. or_else form o (value_at ys c)) (value_here c x xs covered))
    | inr outside ↦ value_later c x (xs ++ ys) outside ∙ value_append xs ys c ∙ sym (ap (λ o. or_else form o (value_at ys c)) (value_later c x xs outside))
  ]

  covering_append : (xs ys : List (Entry V)) (c : ℕ) → covering c (xs ++ ys) ≡ covering c xs + covering c ys
  covering_append [] ys c = omega arith
  covering_append (x ∷ xs) ys c = omega (arith, covering_append xs ys c)

  abbrev count_of : Option V → ℕ
  count_of o = one_if (is_some o)

  -- an entry without its surrogates assigns the entry's value to each of its characters
  value_characters : (e : Entry V) (c : ℕ) → IsScalar c → value_at (characters_of e) c ≡ (if covers e c then Some e.value else None)
  value_characters e c is = grind (arith, nat_tests, is)

  covering_characters : (e : Entry V) (c : ℕ) → IsScalar c → covering c (characters_of e) ≡ one_if (covers e c)
  covering_characters e c is = grind (arith, nat_tests, is)

  value_by : (r : Result (Option (Entry V)) Cause) (c : ℕ) → IsScalar c → value_at (entries_by r) c ≡ given_by form r c
  value_by (Ok (Some e)) c is = value_characters e c is ∙ sym (given_entry form e c is)
  value_by (Ok None) c is = refl
  value_by (Err why) c is = refl

  count_entry : (b : Bool) (v : V) → one_if b ≡ count_of (if b then Some v else None)
  count_entry true v = refl
  count_entry false v = refl

  covering_by : (r : Result (Option (Entry V)) Cause) (c : ℕ) → IsScalar c → covering c (entries_by r) ≡ count_of (given_by form r c)
  covering_by (Ok (Some e)) c is = covering_characters e c is ∙ count_entry (covers e c) e.value ∙ sym (ap count_of (given_entry form e c is))
  covering_by (Ok None) c is = refl
  covering_by (Err why) c is = refl

  value_lines : (lines : List (List ℕ)) (c : ℕ) → IsScalar c → value_at (entries_in form lines) c ≡ value_in form lines c
  value_lines [] c is = refl
  value_lines (line ∷ lines) c is =
      value_append (entries_by (reading_of form line)) (entries_in form lines) c
      ∙ ap (λ o. or_else form o (value_at (entries_in form lines) c)) (value_by (reading_of form line) c is)
      ∙ ap (or_else form (given form line c)) (value_lines lines c is)

  -- the number of lines that list the character
  abbrev naming : ℕ → List (List ℕ) → ℕ
  naming c [] = 0
  naming c (line ∷ lines) = count_of (given form line c) + naming c lines

  covering_lines : (lines : List (List ℕ)) (c : ℕ) → IsScalar c → covering c (entries_in form lines) ≡ naming c lines
  covering_lines [] c is = refl
  covering_lines (line ∷ lines) c is =
      covering_append (entries_by (reading_of form line)) (entries_in form lines) c
      ∙ ap (λ n. n + covering c (entries_in form lines)) (covering_by (reading_of form line) c is)
      ∙ ap (λ n. count_of (given form line c) + n) (covering_lines lines c is)

  counted : (o : Option V) → IsSome o → count_of o ≡ 1
  counted None some = absurd (false≢true some)
  counted (Some v) some = refl

  naming_one : (lines : List (List ℕ)) (c k : ℕ) → k < length lines → IsSome (given form (line_at form lines k) c) → 1 ≤ naming c lines
  naming_one [] c k lt some = absurd (omega arith)
  naming_one (line ∷ lines) c zero lt some = omega (arith, counted (given form line c) some)
  naming_one (line ∷ lines) c (suc k) lt some = omega (arith, naming_one lines c k (omega arith) some)

  naming_two : (lines : List (List ℕ)) (c j k : ℕ) → j < k → k < length lines → IsSome (given form (line_at form lines j) c) → IsSome (given form (line_at form lines k) c) → 2 ≤ naming c lines
  naming_two [] c j k before lt one other = absurd (omega arith)
  naming_two (line ∷ lines) c j zero before lt one other = absurd (omega arith)
  naming_two (line ∷ lines) c zero (suc k) before lt one other = omega (arith, counted (given form line c) one, naming_one lines c k (omega arith) other)
  naming_two (line ∷ lines) c (suc j) (suc k) before lt one other = omega (arith, naming_two lines c j k (omega arith) (omega arith) one other)

  given_scalar : (r : Result (Option (Entry V)) Cause) (c : ℕ) → IsSome (given_by form r c) → IsScalar c
  given_scalar (Ok (Some e)) c some = (entry_gives form e c some).0
  given_scalar (Ok None) c some = absurd (false≢true some)
  given_scalar (Err why) c some = absurd (false≢true some)

  read_ok : (r : Result (Option (Entry V)) Cause) (why : Cause) → IsOk r → ¬ (r ≡ Err why)
  read_ok (Ok read) why ok is = cc
  read_ok (Err other) why ok is = false≢true ok

  line_read : (lines : List (List ℕ)) (k : ℕ) → AreRead form lines → k < length lines → IsOk (reading_of form (line_at form lines k))
  line_read [] k read lt = absurd (omega arith)
  line_read (line ∷ lines) zero read lt = read.0
  line_read (line ∷ lines) (suc k) read lt = line_read lines k read.1 (omega arith)

  -- if all lines can be read, and their entries can be sorted into ascending order, no line is faulty
  pub holds_sorted : (lines : List (List ℕ)) (es sorted : List (Entry V)) → es ≡ entries_in form lines → AreRead form lines → IsPermutation es sorted → AreRisingFrom 0 sorted → HoldsFile form lines sorted
  holds_sorted lines es sorted are read moved rising = record {
    good = λ k why lt fault. elim fault [
      | inl err ↦ read_ok (reading_of form (line_at form lines k)) why (line_read lines k read lt) err
      | inr (named, (j, c, before, one, other)) ↦
          let is : IsScalar c = given_scalar (reading_of form (line_at form lines k)) c other in
          let two = naming_two lines c j k before lt one other in
          let no : ⊥ = omega (arith, two, covering_lines lines c is, ap (covering c) are, same_covering es sorted c moved, once 0 sorted c rising) in
          no
    ];
    values = λ c is. same_value es sorted c moved (once 0 sorted c rising) ∙ ap (λ xs. value_at xs c) are ∙ value_lines lines c is;
  }

-- ---- the values before the first entry
module _ {V : Type 0} where
  value_before : (low : ℕ) (es : List (Entry V)) (c : ℕ) → AreRisingFrom low es → c < low → value_at es c ≡ None
  value_before low es c rising lt = none_covering es c (none_before low es c rising lt)

  from_first : (e : Entry V) (es : List (Entry V)) → AreRisingFrom 0 (e ∷ es) → AreRisingFrom e.first (e ∷ es)
  from_first e es (from, whole, within, rest) = (omega arith, whole, within, rest)

  -- no code point before the first entry has a value
  pub value_none : (es : List (Entry V)) (e : Entry V) (c : ℕ) → slice_get es 0 ≡ Some e → AreRisingFrom 0 es → c < e.first → value_at es c ≡ None
  value_none [] e c is rising lt = absurd (let no : ⊥ = cc in no)
  value_none (x ∷ es) e c is rising lt = let same : x ≡ e = cc in value_before x.first (x ∷ es) c (from_first x es rising) (rw same lt)

  weaker : (low : ℕ) (es : List (Entry V)) → AreRisingFrom low es → AreRisingFrom 0 es
  weaker low [] rising = rising
  weaker low (e ∷ es) (from, whole, within, rest) = (omega arith, whole, within, rest)

  -- if the first entry is removed, the others are still in ascending order, and code points above the first
  -- entry keep their values
  pub rising_rest : (es : List (Entry V)) (e : Entry V) (rest : List (Entry V)) → es ≡ e ∷ rest → AreRisingFrom 0 es → AreRisingFrom 0 rest
  rising_rest es e rest is rising = let parts : AreRisingFrom 0 (e ∷ rest) = rw is at rising in weaker (e.last + 1) rest parts.3

  pub value_rest : (es : List (Entry V)) (e : Entry V) (rest : List (Entry V)) (c : ℕ) → es ≡ e ∷ rest → e.last < c → value_at rest c ≡ value_at es c
  value_rest es e rest c is lt = sym (ap (λ xs. value_at xs c) is ∙ value_later c e rest (after_last e c lt))
