-- Removing the first part of a text.
use Rattle.std.proofs.Common.{◌≡◌, ℕ, suc, ◌+◌, ◌<◌, ◌==◌, Bool, not, List, [], ◌∷◌, length, map, take, drop, refl, sym, ap, ◌∙◌, if◌then◌else◌, zero, inl, inr, arith}
use Rattle.std.specs.List.{count_by, position_or_len, slice_split, onto_first}
use Rattle.std.proofs.lemmas.Bool.{cases_Bool, cond-true, cond-false, not_from_true, not_from_false, ne_eqb}
use Rattle.std.proofs.lemmas.List.Splits.{slice_split-cons_yes, slice_split-cons_no, length-slice_split}
use Rattle.sequences.specs.Looks.{single, value}
use Rattle.sequences.specs.Parameters.{fields, number}
use Rattle.sequences.specs.Parts.{fields_after, first_len, parameters_after, parts_after}

module _ (separator : ℕ) where
  abbrev pub ends : ℕ → Bool
  ends x = x == separator

  abbrev pub end_of : List ℕ → ℕ
  end_of text = position_or_len ends text

  pub split_first : (text : List ℕ) → slice_split ends text ≡ take (end_of text) text ∷ parts_after separator (drop (end_of text) text)
  split_first [] = refl
  split_first (x ∷ xs) =
      elim (cases_Bool (ends x)) [
        | inl first ↦ (let e : end_of (x ∷ xs) ≡ 0 = cond-false (not (ends x)) (1 + end_of xs) 0 (not_from_true (ends x) first) in
            slice_split-cons_yes ends x xs first ∙ ap (λ n. take n (x ∷ xs) ∷ parts_after separator (drop n (x ∷ xs))) (sym e))
        | inr other ↦ (let e : end_of (x ∷ xs) ≡ suc (end_of xs) = cond-true (not (ends x)) (1 + end_of xs) 0 (not_from_false (ends x) other) ∙ omega arith in
            slice_split-cons_no ends x xs other ∙ ap (onto_first x) (split_first xs) ∙ ap (λ n. take n (x ∷ xs) ∷ parts_after separator (drop n (x ∷ xs))) (sym e))
      ]

  -- the parts of a non-empty text are its first part, followed by the parts of the rest
  pub parts_after-first : (text : List ℕ) → 0 < length text
      → parts_after separator text ≡ drop 1 (take (first_len separator text) text) ∷ parts_after separator (drop (first_len separator text) text)
  parts_after-first [] some = absurd (omega arith)
  parts_after-first (c ∷ text) some = split_first text

  -- the parts of the rest of a text are its parts without the first one
  pub parts_after_drop : (text : List ℕ) → parts_after separator (drop (first_len separator text) text) ≡ drop 1 (parts_after separator text)
  parts_after_drop [] = refl
  parts_after_drop (c ∷ text) = ap (drop 1) (sym (parts_after-first (c ∷ text) (omega arith)))

  pub part_count : (c : ℕ) (text : List ℕ) → length (parts_after separator (c ∷ text)) ≡ count_by ends text + 1
  part_count c text = length-slice_split ends text

module _ {X : Type 0} (f : X → ℕ) where
  pub value-drop : (xs : List X) (k : ℕ) → value (map f xs) k ≡ value (map f (drop k xs)) 0
  value-drop [] zero = refl
  value-drop [] (suc k) = refl
  value-drop (x ∷ xs) zero = refl
  value-drop (x ∷ xs) (suc k) = value-drop xs k

pub drop-map : (k : ℕ) (parts : List (List ℕ)) → drop k (map fields parts) ≡ map fields (drop k parts)
drop-map zero parts = refl
drop-map (suc k) [] = refl
drop-map (suc k) (part ∷ parts) = drop-map k parts

-- the first parameter has the fields of the text up to the first semicolon
pub first_fields : (text : List ℕ) → value (map single (parameters_after text)) 0 ≡ single (fields_after (take (first_len 0x3B text) text))
first_fields [] = refl
first_fields (c ∷ text) = ap (λ parts. value (map single (map fields parts)) 0) (split_first 0x3B text)

pub first_number : (c : ℕ) (text : List ℕ) → value (fields_after (c ∷ text)) 0 ≡ number (take (end_of 0x3A text) text)
first_number c text = ap (λ parts. value (map number parts) 0) (split_first 0x3A text)

pub single-is : (values : List ℕ) → single values ≡ (if length values == 1 then value values 0 else 256)
single-is [] = refl
single-is (n ∷ []) = refl
single-is (n ∷ m ∷ values) = sym (cond-false (length (n ∷ m ∷ values) == 1) n 256 (ne_eqb (length (n ∷ m ∷ values)) 1 (λ e. omega arith)))

pub value_at : (f : List ℕ → ℕ) (rest parts : List (List ℕ)) (k : ℕ) → rest ≡ drop k parts → value (map f parts) k ≡ value (map f rest) 0
value_at f rest parts k e = value-drop f parts k ∙ ap (λ xs. value (map f xs) 0) (sym e)

pub single_at : (rest parts : List (List ℕ)) (k : ℕ) → rest ≡ drop k parts → value (map single (map fields parts)) k ≡ value (map single (map fields rest)) 0
single_at rest parts k e = value-drop single (map fields parts) k ∙ ap (λ xs. value (map single xs) 0) (drop-map k parts ∙ ap (map fields) (sym e))

-- the parameters of a non-empty text are its first parameter, followed by the parameters of the rest
pub parameters-first : (text : List ℕ) → 0 < length text
    → parameters_after text ≡ fields_after (take (first_len 0x3B text) text) ∷ parameters_after (drop (first_len 0x3B text) text)
parameters-first [] some = absurd (omega arith)
parameters-first (c ∷ text) some = ap (map fields) (split_first 0x3B text)
