-- Adding the lines of a file to the entries, one by one.
use Rattle.std.proofs.Common.{◌≡◌, ℕ, zero, suc, ◌+◌, ◌<◌, ◌≤◌, ◌==◌, nat_lt, not, Bool, true, false, ◌&&◌, List, [], ◌∷◌, ◌++◌, length, get_or, take, drop, Option, Some, None, IsSome, IfSome, option_map, Result, Ok, Err, ◌⊎◌, inl, inr, IsTrue, add-one, refl, sym, ◌∙◌, ap, subst, if◌then◌else◌, arith}
use Rattle.std.specs.Char.{IsScalar}
use Rattle.std.proofs.Math.Utf8.{scalar}
use Rattle.std.proofs.lemmas.Bool.{false≢true, and_parts, cases_Bool, cases_lt, cond-true, cond-false}
use Rattle.std.proofs.lemmas.List.{length-drop, take_more, take_all}
use Rattle.ucd.specs.declared.fault.Cause.{Cause}
use Rattle.ucd.specs.declared.fault.Cause.TheVariants as cause
use Rattle.ucd.specs.declared.grammar.Entry.{Entry}
use Rattle.std.specs.List.{list_all}
use Rattle.std.specs.Char.{is_ascii}
use Rattle.ucd.specs.Grammar.{Form, before_comment, content_of, fields_of, points_of, by_value, by_points, by_fields, reading_of, lines_of, parts_of}
use Rattle.ucd.specs.Entries.{covers, value_at, IsTaken, NamesSome}
use Rattle.ucd.specs.Files.{given_by, given, or_else, value_in, line_at, HasFault, IsFirstFault, AddsReading, AddsLine, IsReadingCause, IsLineCause, HoldsFile, IsFaultFor, WantsMemoryAt}

-- the lines that have not been read
abbrev pub lines_left : Option (List ℕ) → List (List ℕ)
lines_left None = []
lines_left (Some text) = lines_of text

-- the number of bytes that have not been read, plus one if any lines are left
abbrev pub size_left : Option (List ℕ) → ℕ
size_left None = 0
size_left (Some text) = length text + 1

-- none of the first k lines is faulty, and the entries hold the values of these lines
pub record HoldsLines {V : Type 0} (form : Form V) (lines : List (List ℕ)) (k : ℕ) (es : List (Entry V)) : Type 0 where
  pub good : (j : ℕ) (why : Cause) → j < k → ¬ (HasFault form lines j why)
  pub values : (c : ℕ) → IsScalar c → value_at es c ≡ value_in form (take k lines) c

-- the lines of the remaining text are its first line, followed by the lines that are left after the first one
pub first_left : (text front : List ℕ) (rest : Option (List ℕ)) → lines_of text ≡ parts_of 10 front rest → lines_of text ≡ front ∷ lines_left rest
first_left text front None is = is
first_left text front (Some rest) is = is

-- if `drop k xs` is `y ∷ ys`, then `y` is at index k, and `drop (k + 1) xs` is `ys`
pub at_drop : {X : Type 0} (xs : List X) (k : ℕ) (d y : X) (ys : List X) → drop k xs ≡ y ∷ ys → (k < length xs) × (get_or xs k d ≡ y) × (drop (k + 1) xs ≡ ys)
at_drop [] zero d y ys is = cc
at_drop [] (suc k) d y ys is = cc
at_drop (x ∷ xs) zero d y ys is = (omega arith, cc, cc)
at_drop (x ∷ xs) (suc k) d y ys is = let rest = at_drop xs k d y ys is in (omega arith, rest.1, rw add-one (rw add-one at rest.2))

-- reading a line never results in the cause `Memory`
module _ {V : Type 0} (form : Form V) where
  value_reads : (first last : ℕ) (value : Option (Option V)) → ¬ (by_value form first last value ≡ Err cause.Memory)
  value_reads first last None is = cc
  value_reads first last (Some None) is = cc
  value_reads first last (Some (Some v)) is = cc

  points_read : (points : Option (ℕ × ℕ)) (value : Option (Option V)) → ¬ (by_points form points value ≡ Err cause.Memory)
  points_read None value is = cc
  points_read (Some (first, last)) value is = go (nat_lt last first) is
    where
      go : (b : Bool) → ¬ ((if b then Err cause.Reversed else by_value form first last value) ≡ Err cause.Memory)
      go true err = cc
      go false err = value_reads first last value err

  fields_read : (fields : List (List ℕ)) → ¬ (by_fields form fields ≡ Err cause.Memory)
  fields_read [] is = cc
  fields_read (a ∷ []) is = cc
  fields_read (a ∷ b ∷ []) is = go form.has_third is
    where
      go : (third : Bool) → ¬ ((if third then Err cause.FieldCount else by_points form (points_of form.has_ranges a) (form.value b [])) ≡ Err cause.Memory)
      go true err = cc
      go false err = points_read (points_of form.has_ranges a) (form.value b []) err
  fields_read (a ∷ b ∷ c ∷ []) is = go form.has_third is
    where
      go : (third : Bool) → ¬ ((if third then by_points form (points_of form.has_ranges a) (form.value b c) else Err cause.FieldCount) ≡ Err cause.Memory)
      go true err = points_read (points_of form.has_ranges a) (form.value b c) err
      go false err = cc
  fields_read (a ∷ b ∷ c ∷ d ∷ more) is = cc

  reads_no_memory : (line : List ℕ) → ¬ (reading_of form line ≡ Err cause.Memory)
  reads_no_memory line is = go (list_all is_ascii (before_comment line)) (length (content_of line) == 0) is
    where
      go : (ascii empty : Bool) → ¬ ((if not ascii then Err cause.NotAscii else (if empty then Ok None else by_fields form (fields_of (content_of line)))) ≡ Err cause.Memory)
      go false empty err = cc
      go true true err = cc
      go true false err = fields_read (fields_of (content_of line)) err

-- `or_else` is associative, and `None` is its unit. Its result is `Some` if either argument is.
module _ {V : Type 0} (form : Form V) where
  or_else_None : (o : Option V) → or_else form o None ≡ o
  or_else_None None = refl
  or_else_None (Some v) = refl

  or_else_assoc : (o p q : Option V) → or_else form o (or_else form p q) ≡ or_else form (or_else form o p) q
  or_else_assoc None p q = refl
  or_else_assoc (Some v) p q = refl

  or_else_left : (o p : Option V) → IsSome o → IsSome (or_else form o p)
  or_else_left None p some = absurd (false≢true some)
  or_else_left (Some v) p some = refl

  or_else_right : (o p : Option V) → IsSome p → IsSome (or_else form o p)
  or_else_right None p some = some
  or_else_right (Some v) p some = refl

  or_else_cases : (o p : Option V) → IsSome (or_else form o p) → IsSome o ⊎ IsSome p
  or_else_cases None p some = inr some
  or_else_cases (Some v) p some = inl refl

  value_in_push : (lines : List (List ℕ)) (line : List ℕ) (c : ℕ) → value_in form (lines ++ line ∷ []) c ≡ or_else form (value_in form lines c) (given form line c)
  value_in_push [] line c = or_else_None (given form line c)
  value_in_push (l ∷ lines) line c = ap (or_else form (given form l c)) (value_in_push lines line c) ∙ or_else_assoc (given form l c) (value_in form lines c) (given form line c)

  -- a character that one of the first k lines lists has a value in these lines
  value_of_line : (lines : List (List ℕ)) (k j c : ℕ) → j < k → j < length lines → IsSome (given form (line_at form lines j) c) → IsSome (value_in form (take k lines) c)
  value_of_line [] k j c lt within some = absurd (omega arith)
  value_of_line (l ∷ lines) zero j c lt within some = absurd (omega arith)
  value_of_line (l ∷ lines) (suc k) zero c lt within some = or_else_left (given form l c) (value_in form (take k lines) c) some
  value_of_line (l ∷ lines) (suc k) (suc j) c lt within some = or_else_right (given form l c) (value_in form (take k lines) c) (value_of_line lines k j c (omega arith) (omega arith) some)

  -- a character that has a value in the first k lines is listed in one of them
  line_of_value : (lines : List (List ℕ)) (k c : ℕ) → IsSome (value_in form (take k lines) c) → (j : ℕ) × (j < k) × IsSome (given form (line_at form lines j) c)
  line_of_value lines zero c some = absurd (false≢true some)
  line_of_value [] (suc k) c some = absurd (false≢true some)
  line_of_value (l ∷ lines) (suc k) c some = elim (or_else_cases (given form l c) (value_in form (take k lines) c) some) [
    | inl here ↦ (0, omega arith, here)
    | inr later ↦ let line = line_of_value lines k c later in (suc line.0, omega (arith, line.1), line.2)
  ]

  -- a line with an entry assigns the entry's value to a character if the entry covers the character, and otherwise no
  -- value
  pub given_entry : (e : Entry V) (c : ℕ) → IsScalar c → given_by form (Ok (Some e)) c ≡ (if covers e c then Some e.value else None)
  given_entry e c character = rw character refl

  entry_given : (e : Entry V) (c : ℕ) → IsScalar c → IsTrue (covers e c) → IsSome (given_by form (Ok (Some e)) c)
  entry_given e c character covered = rw (given_entry e c character, covered) refl

  if_some : (b : Bool) (v : V) → IsSome (if b then Some v else None) → b ≡ true
  if_some true v some = refl
  if_some false v some = absurd (false≢true some)

  pub entry_gives : (e : Entry V) (c : ℕ) → IsSome (given_by form (Ok (Some e)) c) → IsScalar c × IsTrue (covers e c)
  entry_gives e c some = and_parts (scalar c) (covers e c) (if_some (scalar c && covers e c) e.value some)

  module _ (lines : List (List ℕ)) (k : ℕ) (es : List (Entry V)) (held : HoldsLines form lines k es) (within : k < length lines) where
    not_refused : (new : List (Entry V)) (r : Result (Option (Entry V)) Cause) → reading_of form (line_at form lines k) ≡ r → AddsReading form r es new → (why : Cause) → ¬ (HasFault form lines k why)
    not_refused new (Ok None) is adds why (inl err) = cc
    not_refused new (Ok None) is adds why (inr (named, (j, c, lt, before, here))) = false≢true (rw is at here)
    not_refused new (Ok (Some e)) is adds why (inl err) = cc
    not_refused new (Ok (Some e)) is adds why (inr (named, (j, c, lt, before, here))) =
        let names = entry_gives e c (rw is at here) in
        let none : value_in form (take k lines) c ≡ None = sym (held.values c names.0) ∙ adds.free c names.0 names.1 in
        let some = value_of_line lines k j c lt (omega arith) before in
        false≢true (rw none at some)
    not_refused new (Err other) is adds why fault = absurd adds

    -- after line k has been added, each character has its earlier value, or the value from line k if it had
    -- none
    added : (new : List (Entry V)) (r : Result (Option (Entry V)) Cause) → AddsReading form r es new → (c : ℕ) → IsScalar c → value_at new c ≡ or_else form (value_at es c) (given_by form r c)
    added new (Ok None) adds c is = rw adds (sym (or_else_None (value_at es c)))
    added new (Ok (Some e)) adds c is = elim (cases_Bool (covers e c)) [
      | inl covered ↦
          let gives : given_by form (Ok (Some e)) c ≡ Some e.value = given_entry e c is ∙ cond-true (covers e c) _ _ covered in
          adds.values c is ∙ cond-true (covers e c) _ _ covered ∙ rw (adds.free c is covered, gives) refl
      | inr outside ↦
          let gives : given_by form (Ok (Some e)) c ≡ None = given_entry e c is ∙ cond-false (covers e c) _ _ outside in
          adds.values c is ∙ cond-false (covers e c) _ _ outside ∙ rw gives (sym (or_else_None (value_at es c)))
    ]
    added new (Err why) adds c is = absurd adds

    -- if line k is added, none of the first k + 1 lines is faulty, and the entries hold the values of these lines
    one_more : (new : List (Entry V)) → AddsLine form es new (line_at form lines k) → HoldsLines form lines (k + 1) new
    one_more new adds = record {
      good = λ j why lt fault. elim (cases_lt j k) [
        | inl before ↦ held.good j why before fault
        | inr from ↦ let here : j ≡ k = omega arith in not_refused new _ refl adds why (rw here at fault)
      ];
      values = λ c is.
          rw (take_more lines k [] within, value_in_push (take k lines) (line_at form lines k) c, ← held.values c is) (added new _ adds c is);
    }

    fault_for : (why : Cause) → HasFault form lines k why → IsFaultFor form lines (k + 1) why
    fault_for cause.Memory (inl err) = absurd (reads_no_memory form (line_at form lines k) err)
    fault_for cause.Memory (inr (named, again)) = absurd (let no : ⊥ = cc in no)
    fault_for why fault = (omega arith, subst (λ n. IsFirstFault form lines n why) {x = k} (omega arith) (record { in_range = within; fault = fault; earlier = held.good }))

    -- if no character of a line's entry has a value yet, the line is not faulty, so an allocation failure can be
    -- reported for it
    not_named : (e : Entry V) → reading_of form (line_at form lines k) ≡ Ok (Some e) → ¬ (IsTaken es e) → (why : Cause) → ¬ (HasFault form lines k why)
    not_named e is free why (inl err) = cc
    not_named e is free why (inr (named, (j, c, lt, before, here))) =
        let names = entry_gives e c (rw is at here) in
        let some = value_of_line lines k j c lt (omega arith) before in
        free (c, names.0, names.1, rw (held.values c names.0) some)

    memory_at : (e : Entry V) → reading_of form (line_at form lines k) ≡ Ok (Some e) → ¬ (IsTaken es e) → NamesSome e → WantsMemoryAt form lines k
    memory_at e is free names = record {
      entry = e;
      reads = is;
      names = names;
      good = λ j why le fault. elim (cases_lt j k) [
        | inl before ↦ held.good j why before fault
        | inr from ↦ let here : j ≡ k = omega arith in not_named e is free why (rw here at fault)
      ];
    }

    -- if adding line k fails, line k is the first faulty line, or memory ran out there
    refused : (r : Result (Option (Entry V)) Cause) → reading_of form (line_at form lines k) ≡ r → (why : Cause) → IsReadingCause form r es why → IsFaultFor form lines (k + 1) why
    refused (Ok None) is why because = absurd because
    refused (Ok (Some e)) is cause.NamedBefore (c, character, covered, some) =
        let line = line_of_value lines k c (rw (held.values c character) at some) in
        let here : IsSome (given form (line_at form lines k) c) = rw is (entry_given e c character covered) in
        fault_for cause.NamedBefore (inr (refl, (line.0, c, line.1, line.2, here)))
    refused (Ok (Some e)) is cause.Memory (free, some) = (omega arith, subst (WantsMemoryAt form lines) {x = k} (omega arith) (memory_at e is free some))
    refused (Ok (Some e)) is why because = absurd because
    refused (Err other) is why because = fault_for why (inl (is ∙ ap Err (sym because)))

    fault_here : (why : Cause) → IsLineCause form es (line_at form lines k) why → IsFaultFor form lines (k + 1) why
    fault_here why because = refused _ refl why because

-- if all lines have been read, the entries hold the values of the file
pub holds_file : {V : Type 0} (form : Form V) (lines : List (List ℕ)) (k : ℕ) (es : List (Entry V)) → HoldsLines form lines k es → length lines ≤ k → HoldsFile form lines es
holds_file form lines k es held all = record {
  good = λ j why lt. held.good j why (omega arith);
  values = λ c is. held.values c is ∙ ap (λ ls. value_in form ls c) (take_all k lines all);
}

-- What holds after the first line of the remaining text: which lines are left, what the entries contain if
-- the line was added, and what the fault is if not.
module _ {V : Type 0} (form : Form V) (file : List ℕ) (k : ℕ) (es : List (Entry V)) (text front : List ℕ)
    (rest : Option (List ℕ)) (held : HoldsLines form (lines_of file) k es) (left : drop k (lines_of file)
    ≡ lines_of text) (parts : lines_of text ≡ parts_of 10 front rest) where
  line_here : (k < length (lines_of file)) × (line_at form (lines_of file) k ≡ front) × (drop (k + 1) (lines_of file) ≡ lines_left rest)
  line_here = at_drop (lines_of file) k [] front (lines_left rest) (left ∙ first_left text front rest parts)

  pub next_left : drop (k + 1) (lines_of file) ≡ lines_left rest
  next_left = line_here.2

  pub next_held : (new : List (Entry V)) → AddsLine form es new front → HoldsLines form (lines_of file) (k + 1) new
  next_held new adds = one_more form (lines_of file) k es held line_here.0 new (subst (AddsLine form es new) (sym line_here.1) adds)

  pub next_fault : (why : Cause) → IsLineCause form es front why → IsFaultFor form (lines_of file) (k + 1) why
  next_fault why because = fault_here form (lines_of file) k es held line_here.0 why (subst (λ line. IsLineCause form es line why) (sym line_here.1) because)

-- the size of the remaining text is at most `n` if the text is shorter than `n` or there is none
pub size_falls : {B : Type 0} (f : B → List ℕ) (rest : Option B) (n : ℕ) → IfSome rest (λ r. length (f r) < n) → size_left (option_map f rest) ≤ n
size_falls f None n shorter = omega arith
size_falls f (Some rest) n shorter = omega arith

-- if no lines are left after the first k, the list has at most k lines
pub none_left : (lines : List (List ℕ)) (k : ℕ) → drop k lines ≡ [] → length lines ≤ k
none_left lines k left = omega (arith, simp length-drop at (ap length left))
