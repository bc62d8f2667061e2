-- Adding what the lines of ArabicShaping.txt or UnicodeData.txt say, one by one.
use Rattle.std.proofs.Common.{◌≡◌, ℕ, zero, suc, ◌+◌, ◌<◌, ◌≤◌, List, [], ◌∷◌, ◌++◌, length, take, drop, Option, Some, None, IsSome, IsOk, Ok, Err, ◌⊎◌, inl, inr, refl, sym, ◌∙◌, ap, subst, arith}
use Rattle.std.specs.Option.{option_or}
use Rattle.std.proofs.lemmas.Bool.{false≢true, cases_lt}
use Rattle.std.proofs.lemmas.List.{take_more, take_all}
use Rattle.ucd.specs.declared.claims.Claims.{Claims}
use Rattle.ucd.specs.declared.fault.Cause.{Cause}
use Rattle.ucd.specs.declared.fault.Cause.TheVariants as cause
use Rattle.ucd.specs.declared.joining_line.JoiningFile.{JoiningFile}
use Rattle.ucd.specs.Grammar.{lines_of, parts_of}
use Rattle.ucd.specs.JoiningFiles.{Adds, AddsValues, HasFault, Holds, IsFaultIn, IsFirstFault, IsLineCause, IsTaken, Meets, NamesAgain, Reading, Share, claimed_form, claimed_type, form_from, reading_at, readings, readings_from, type_from, value_in}
use Rattle.ucd.specs.JoiningLines.{before_next, claim_in}
use Rattle.ucd.specs.Tables.{fault_by}
use Rattle.ucd.proofs.FileLines.{at_drop, first_left, lines_left}

-- none of the first k lines is faulty, and the claims are those of these lines
pub record HoldsFirst (rs : List Reading) (k : ℕ) (t : Claims) : Type 0 where
  pub good : (j : ℕ) (why : Cause) → j < k → ¬ (HasFault rs j why)
  pub types : (c : ℕ) → claimed_type t c ≡ value_in type_from (take k rs) c
  pub forms : (key : ℕ) → claimed_form t key ≡ value_in form_from (take k rs) key

module _ {V : Type 0} where
  or_None : (o : Option V) → option_or o None ≡ o
  or_None None = refl
  or_None (Some v) = refl

  or_assoc : (o p q : Option V) → option_or o (option_or p q) ≡ option_or (option_or o p) q
  or_assoc None p q = refl
  or_assoc (Some v) p q = refl

  or_left : (o p : Option V) → IsSome o → IsSome (option_or o p)
  or_left None p some = absurd (false≢true some)
  or_left (Some v) p some = refl

  or_right : (o p : Option V) → IsSome p → IsSome (option_or o p)
  or_right None p some = some
  or_right (Some v) p some = refl

  or_cases : (o p : Option V) → IsSome (option_or o p) → IsSome o ⊎ IsSome p
  or_cases None p some = inr some
  or_cases (Some v) p some = inl refl

  not_some : (o : Option V) → o ≡ None → ¬ (IsSome o)
  not_some None is some = false≢true some
  not_some (Some v) is some = cc

module _ {V : Type 0} (by : Reading → ℕ → Option V) where
  value_push : (rs : List Reading) (r : Reading) (n : ℕ) → value_in by (rs ++ r ∷ []) n ≡ option_or (value_in by rs n) (by r n)
  value_push [] r n = or_None (by r n)
  value_push (s ∷ rs) r n = ap (option_or (by s n)) (value_push rs r n) ∙ or_assoc (by s n) (value_in by rs n) (by r n)

  -- a number that one of the first k lines names has a value in these lines
  value_of_line : (rs : List Reading) (k j n : ℕ) → j < k → j < length rs → IsSome (by (reading_at rs j) n) → IsSome (value_in by (take k rs) n)
  value_of_line [] k j n lt within some = absurd (omega arith)
  value_of_line (r ∷ rs) zero j n lt within some = absurd (omega arith)
  value_of_line (r ∷ rs) (suc k) zero n lt within some = or_left (by r n) (value_in by (take k rs) n) some
  value_of_line (r ∷ rs) (suc k) (suc j) n lt within some =
      or_right (by r n) (value_in by (take k rs) n) (value_of_line rs k j n (omega arith) (omega arith) some)

  -- a number that has a value in the first k lines is named in one of them
  line_of_value : (rs : List Reading) (k n : ℕ) → IsSome (value_in by (take k rs) n) → (j : ℕ) × (j < k) × IsSome (by (reading_at rs j) n)
  line_of_value rs zero n some = absurd (false≢true some)
  line_of_value [] (suc k) n some = absurd (false≢true some)
  line_of_value (r ∷ rs) (suc k) n some = elim (or_cases (by r n) (value_in by (take k rs) n) some) [
    | inl here ↦ (0, omega arith, here)
    | inr later ↦ let line = line_of_value rs k n later in (suc line.0, omega (arith, line.1), line.2)
  ]

  module _ (rs : List Reading) (k : ℕ) (old : ℕ → Option V) (held : (n : ℕ) → old n ≡ value_in by (take k rs) n) (within : k < length rs) where
    -- a number of line k that has no value yet is in no line before it
    not_shared : (new : ℕ → Option V) → AddsValues by old new (reading_at rs k) → (j : ℕ) → j < k → ¬ (Share by (reading_at rs j) (reading_at rs k))
    not_shared new adds j lt (n, before, here) =
        not_some (value_in by (take k rs) n) (sym (held n) ∙ adds.free n here) (value_of_line rs k j n lt (omega arith) before)

    values_more : (new : ℕ → Option V) → AddsValues by old new (reading_at rs k) → (n : ℕ) → new n ≡ value_in by (take (k + 1) rs) n
    values_more new adds n =
        adds.values n ∙ ap (λ o. option_or o (by (reading_at rs k) n)) (held n)
        ∙ sym (value_push (take k rs) (reading_at rs k) n) ∙ sym (ap (λ xs. value_in by xs n) (take_more rs k (Ok None) within))

    met : Meets by old (reading_at rs k) → (j : ℕ) × (j < k) × Share by (reading_at rs j) (reading_at rs k)
    met (n, here, some) =
        let line = line_of_value rs k n (subst IsSome (held n) some) in
        (line.0, line.1, (n, line.2, here))

read_ok : (r : Reading) (why : Cause) → IsOk r → ¬ (r ≡ Err why)
read_ok (Ok read) why ok is = cc
read_ok (Err other) why ok is = false≢true ok

module _ (rs : List Reading) (k : ℕ) (t : Claims) (held : HoldsFirst rs k t) (within : k < length rs) where
  one_good : (new : Claims) → IsOk (reading_at rs k) → Adds t new (reading_at rs k) → (why : Cause) → ¬ (HasFault rs k why)
  one_good new ok adds why (inl err) = read_ok (reading_at rs k) why ok err
  one_good new ok adds why (inr (named, (j, lt, inl share))) =
      not_shared type_from rs k (claimed_type t) held.types within (claimed_type new) adds.0 j lt share
  one_good new ok adds why (inr (named, (j, lt, inr share))) =
      not_shared form_from rs k (claimed_form t) held.forms within (claimed_form new) adds.1 j lt share

  one_more : (new : Claims) → IsOk (reading_at rs k) → Adds t new (reading_at rs k) → HoldsFirst rs (k + 1) new
  one_more new ok adds = record {
    good = λ j why lt fault. elim (cases_lt j k) [
      | inl before ↦ held.good j why before fault
      | inr from ↦ let here : j ≡ k = omega arith in one_good new ok adds why (rw here at fault)
    ];
    types = values_more type_from rs k (claimed_type t) held.types within (claimed_type new) adds.0;
    forms = values_more form_from rs k (claimed_form t) held.forms within (claimed_form new) adds.1;
  }

  fault_for : (number : ℕ) (why : Cause) → HasFault rs k why → IsFaultIn number rs (fault_by number (k + 1) why)
  fault_for number cause.Memory fault = (refl, refl)
  fault_for number why fault =
      (refl, omega arith, subst (λ n. IsFirstFault rs n why) {x = k} (omega arith) (record { in_range = within; fault = fault; earlier = held.good }))

  taken : IsTaken t (reading_at rs k) → NamesAgain rs k
  taken (inl meets) = let line = met type_from rs k (claimed_type t) held.types within meets in (line.0, line.1, inl line.2)
  taken (inr meets) = let line = met form_from rs k (claimed_form t) held.forms within meets in (line.0, line.1, inr line.2)

  fault_here : (number : ℕ) (why : Cause) → IsLineCause (reading_at rs k) t why → IsFaultIn number rs (fault_by number (k + 1) why)
  fault_here number why (inl memory) = subst (λ w. IsFaultIn number rs (fault_by number (k + 1) w)) (sym memory) (refl, refl)
  fault_here number why (inr (inl err)) = fault_for number why (inl err)
  fault_here number why (inr (inr (named, is))) = fault_for number why (inr (named, taken is))

-- what holds after the first line of the remaining text
module _ (file : JoiningFile) (text : List ℕ) (k : ℕ) (t : Claims) (before : Option ℕ) (left front : List ℕ) (rest : Option (List ℕ))
    (held : HoldsFirst (readings file (lines_of text)) k t)
    (is : drop k (readings file (lines_of text)) ≡ readings_from file before (lines_of left))
    (parts : lines_of left ≡ parts_of 10 front rest) where
  line_here : (k < length (readings file (lines_of text))) × (reading_at (readings file (lines_of text)) k ≡ claim_in file before front)
      × (drop (k + 1) (readings file (lines_of text)) ≡ readings_from file (before_next (claim_in file before front)) (lines_left rest))
  line_here =
      at_drop (readings file (lines_of text)) k (Ok None) (claim_in file before front) (readings_from file (before_next (claim_in file before front)) (lines_left rest))
      (is ∙ ap (readings_from file before) (first_left left front rest parts))

  pub next_left : (next : Option ℕ) → next ≡ before_next (claim_in file before front)
      → drop (k + 1) (readings file (lines_of text)) ≡ readings_from file next (lines_left rest)
  next_left next same = line_here.2 ∙ ap (λ b. readings_from file b (lines_left rest)) (sym same)

  pub next_held : (new : Claims) → IsOk (claim_in file before front) → Adds t new (claim_in file before front)
      → HoldsFirst (readings file (lines_of text)) (k + 1) new
  next_held new ok adds =
      one_more (readings file (lines_of text)) k t held line_here.0 new (subst IsOk (sym line_here.1) ok) (subst (Adds t new) (sym line_here.1) adds)

  pub next_fault : (number : ℕ) (why : Cause) → IsLineCause (claim_in file before front) t why
      → IsFaultIn number (readings file (lines_of text)) (fault_by number (k + 1) why)
  next_fault number why because =
      fault_here (readings file (lines_of text)) k t held line_here.0 number why (subst (λ r. IsLineCause r t why) (sym line_here.1) because)

-- if no lines are left after the first k, there are at most k
pub nothing_left : (rs : List Reading) (k : ℕ) → drop k rs ≡ [] → length rs ≤ k
nothing_left [] k left = omega arith
nothing_left (r ∷ rs) zero left = absurd (let no : ⊥ = cc in no)
nothing_left (r ∷ rs) (suc k) left = omega (arith, nothing_left rs k left)

-- if all lines have been read, the claims are those of the file
pub holds_all : (rs : List Reading) (k : ℕ) (t : Claims) → HoldsFirst rs k t → drop k rs ≡ [] → Holds rs t
holds_all rs k t held left =
    let all = nothing_left rs k left in
    record {
      good = λ j why lt. held.good j why (omega (arith, all));
      types = λ c. held.types c ∙ ap (λ xs. value_in type_from xs c) (take_all k rs all);
      forms = λ key. held.forms key ∙ ap (λ xs. value_in form_from xs key) (take_all k rs all);
    }
