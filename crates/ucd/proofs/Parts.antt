-- Splitting fields and lines of which the last part may contain another separator.
use Rattle.std.proofs.Common.{◌≡◌, ℕ, ◌<◌, Bool, true, false, List, [], ◌∷◌, length, get_or, map, Some, None, Option, is_some, option_map, Err, refl, sym, inl, inr, arith}
use Rattle.std.specs.List.{slice_split, position_or_len, after_first, list_all}
use Rattle.std.specs.Char.{is_ascii_hexdigit}
use Rattle.std.proofs.lemmas.Bool.{false≢true, cases_lt, eqb-true}
use Rattle.std.proofs.lemmas.List.Elements.{All-from_get_or}
use Rattle.std.proofs.lemmas.List.Folds.{list_all_at}
use Rattle.std.proofs.lemmas.List.Sums.{fails_before_first, passes_at_first}
use Rattle.std.proofs.lemmas.List.Splits.{slice_split_first, slice_split_none, length-slice_split}
use Rattle.ucd.specs.declared.fault.Cause.TheVariants as cause
use Rattle.ucd.specs.Grammar.{is_delimiter, spaces, is_one_of, trimmed, code_point, both, points_by, Form, by_fields, parts_of}

-- a split has at least one part
has_first : (parts : List (List ℕ)) → 0 < length parts → (part : List ℕ) × (rest : List (List ℕ)) × (parts ≡ part ∷ rest)
has_first [] h = absurd (omega arith)
has_first (part ∷ rest) h = (part, rest, refl)

first_part : (p : ℕ → Bool) (bytes : List ℕ) → (part : List ℕ) × (rest : List (List ℕ)) × (slice_split p bytes ≡ part ∷ rest)
first_part p bytes = has_first (slice_split p bytes) (omega (arith, length-slice_split p bytes))

both_None : (o : Option ℕ) → None ≡ both o None
both_None None = refl
both_None (Some x) = refl

-- a string that contains a dot is not a code point
no_code_point : (bytes : List ℕ) → position_or_len (is_delimiter 46) bytes < length bytes → None ≡ code_point bytes
no_code_point bytes lt =
    let dot : get_or bytes (position_or_len (is_delimiter 46) bytes) 0 ≡ 46 = eqb-true _ _ (passes_at_first (is_delimiter 46) bytes 0 lt) in
    let bad : list_all is_ascii_hexdigit bytes ≡ false = list_all_at is_ascii_hexdigit bytes _ 0 lt (rw dot refl) in
    grind (arith, bad)

-- the end `y` of a range can be parsed without splitting it at dots, because no code point contains a dot
pub points_last : (x y : List ℕ) → both (code_point x) (code_point y) ≡ points_by true (x ∷ [] ∷ slice_split (is_delimiter 46) y)
points_last x y = elim (cases_lt (position_or_len (is_delimiter 46) y) (length y)) [
  | inl lt ↦ let more = first_part (is_delimiter 46) (after_first (is_delimiter 46) y) in rw (slice_split_first (is_delimiter 46) y 0 lt, more.2, ← no_code_point y lt) (sym (both_None (code_point x)))
  | inr ge ↦ rw (slice_split_none (is_delimiter 46) y (All-from_get_or (λ b. is_delimiter 46 b ≡ false) y 0 (λ k lt. fails_before_first (is_delimiter 46) y k 0 (omega arith)))) refl
]

third_or_more : {V : Type 0} (form : Form V) (x y z : List ℕ) (rest : List (List ℕ)) → form.has_third ≡ false
    → Err cause.FieldCount ≡ by_fields form (map (trimmed (is_one_of spaces)) (x ∷ y ∷ z ∷ rest))
third_or_more form x y z [] third = rw third refl
third_or_more form x y z (w ∷ rest) third = refl

-- a line with four or more fields has the wrong number of fields
pub too_many : {V B : Type 0} (form : Form V) (x y z : List ℕ) (f : B → List ℕ) (more : Option B) → is_some more ≡ true
    → Err cause.FieldCount ≡ by_fields form
    (map (trimmed (is_one_of spaces)) (x ∷ y ∷ parts_of 59 z (option_map f more)))
too_many form x y z f None some = absurd (false≢true some)
too_many form x y z f (Some more) some = let first = first_part (is_delimiter 59) (f more) in rw first.2 refl

-- a line with two fields is rejected if the file has three
pub one_missing : {V : Type 0} (form : Form V) (x y : List ℕ) → form.has_third ≡ true → Err cause.FieldCount ≡ by_fields form (map (trimmed (is_one_of spaces)) (x ∷ y ∷ []))
one_missing form x y third = rw third refl

-- a line with three or more fields is rejected if the file has two
pub one_more : {V : Type 0} (form : Form V) (x y more : List ℕ) → form.has_third ≡ false → Err cause.FieldCount
    ≡ by_fields form (map (trimmed (is_one_of spaces)) (x ∷ y ∷ slice_split (is_delimiter 59) more))
one_more form x y more third =
    let first = first_part (is_delimiter 59) more in
    rw first.2 (third_or_more form x y first.0 first.1 third)
