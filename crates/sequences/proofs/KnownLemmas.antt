-- If the end of a sequence is known, appending text does not change the sequence.
use Rattle.std.proofs.Common.{◌≡◌, ℕ, zero, suc, ◌+◌, ◌-◌, ◌<◌, ◌==◌, Bool, true, false, List, [], ◌∷◌, ◌++◌, length, drop, slice_index, nat_lt, Option, Some, None, if◌then◌else◌, refl, sym, ap, inl, inr, ◌∙◌, arith}
use Rattle.std.specs.Prelude.{◌&&◌, ◌||◌, not, option_map}
use Rattle.std.specs.List.{prefix_len}
use Rattle.std.proofs.lemmas.Bool.{and_right, cases_Bool, cond-true, cond-false, ltb-true, false≢true}
use Rattle.std.proofs.lemmas.List.{drop-append-le, length-drop}
use Rattle.sequences.specs.Characters.{ends_piece, is_c1_introducer, is_inline}
use Rattle.sequences.specs.Known.{knows_after_escape, knows_long, knows_sequence, knows_string}
use Rattle.sequences.specs.Sequences.{csi_end, csi_len, escape_len, is_csi_final, is_escape_final, is_intermediate, is_parameter, len_after_escape, long_len, opens_string, sequence_len, string_end, string_len, terminator_len}
use Rattle.sequences.specs.declared.lengths.TheConstants.{LONGEST_STRING}

module _ (more : List ℕ) where
  prefix_known : (p : ℕ → Bool) (text : List ℕ) → prefix_len p text < length text → prefix_len p (text ++ more) ≡ prefix_len p text
  prefix_known p [] less = absurd (omega (arith, less))
  prefix_known p (c ∷ text) less =
      elim (cases_Bool (p c)) [
        | inl y ↦ ap (λ (n : ℕ). if p c then 1 + n else 0) (prefix_known p text (omega (arith, less, cond-true (p c) (1 + prefix_len p text) 0 y)))
        | inr n ↦ cond-false (p c) (1 + prefix_len p (text ++ more)) 0 n ∙ sym (cond-false (p c) (1 + prefix_len p text) 0 n)
      ]

  index_known : (text : List ℕ) (n : ℕ) → n < length text → slice_index (text ++ more) n ≡ slice_index text n
  index_known [] n less = absurd (omega (arith, less))
  index_known (c ∷ text) zero less = refl
  index_known (c ∷ text) (suc n) less = index_known text n (omega (arith, less))

  csi_end_known : (text : List ℕ) → csi_end text < length text → csi_end (text ++ more) ≡ csi_end text
  csi_end_known text less =
      let n = prefix_len is_parameter text in
      let m = prefix_len is_intermediate (drop n text) in
      let first : prefix_len is_parameter (text ++ more) ≡ n = prefix_known is_parameter text (omega (arith, less)) in
      ap (λ k. k + prefix_len is_intermediate (drop k (text ++ more))) first
      ∙ ap (λ t. n + prefix_len is_intermediate t) (drop-append-le n text more (omega (arith, less)))
      ∙ ap (λ k. n + k) (prefix_known is_intermediate (drop n text) (omega (arith, less, length-drop n text)))

  ended_known : (p : ℕ → Bool) (text : List ℕ) (n m : ℕ) → n ≡ m → m < length text
      → (if p (slice_index (text ++ more) n) then Some (n + 1) else None) ≡ (if p (slice_index text m) then Some (m + 1) else None)
  ended_known p text n m e less =
      ap (λ k. if p (slice_index (text ++ more) k) then Some (k + 1) else None) e
      ∙ ap (λ c. if p c then Some (m + 1) else None) (index_known text m less)

  csi_known : (text : List ℕ) → csi_end text < length text → csi_len (text ++ more) ≡ csi_len text
  csi_known text less = ended_known is_csi_final text _ _ (csi_end_known text less) less

  escape_known : (text : List ℕ) → prefix_len is_intermediate text < length text → escape_len (text ++ more) ≡ escape_len text
  escape_known text less = ended_known is_escape_final text _ _ (prefix_known is_intermediate text less) less

  terminator_known : (is_osc : Bool) (text : List ℕ) → (if slice_index text 0 == 0x1B then 1 else 0) < length text → terminator_len is_osc (text ++ more) ≡ terminator_len is_osc text
  terminator_known is_osc [] less = absurd (omega (arith, less, cond-false {A = ℕ} (0 == 0x1B) 1 0 refl))
  terminator_known is_osc (x ∷ y ∷ text) less = refl
  terminator_known is_osc (x ∷ []) less =
      let no : (x == 0x1B) ≡ false = elim (cases_Bool (x == 0x1B)) [
        | inl y ↦ absurd (omega (arith, less, cond-true {A = ℕ} (x == 0x1B) 1 0 y))
        | inr n ↦ n
      ] in
      ap (λ (b : Bool). if x == 0x9C || (is_osc && x == 0x07) then 1 else (if b && slice_index more 0 == 0x5C then 2 else 0)) no
      ∙ sym (ap (λ (b : Bool). if x == 0x9C || (is_osc && x == 0x07) then 1 else (if b && 0 == 0x5C then 2 else 0)) no)

  -- if a text begins with a string terminator, appending more text does not change the terminator's length
  terminator_kept : (is_osc : Bool) (text : List ℕ) → (terminator_len is_osc text == 0) ≡ false → terminator_len is_osc (text ++ more) ≡ terminator_len is_osc text
  terminator_kept is_osc [] some = absurd (none (and_right is_osc false refl))
    where
      none : (is_osc && false) ≡ false → ⊥
      none e =
          let zero : terminator_len is_osc [] ≡ 0 = cond-false (is_osc && false) 1 0 e in
          false≢true (sym some ∙ ap (λ (n : ℕ). n == 0) zero)
  terminator_kept is_osc (x ∷ y ∷ text) some = refl
  terminator_kept is_osc (x ∷ []) some =
      elim (cases_Bool (x == 0x9C || (is_osc && x == 0x07))) [
        | inl y ↦ cond-true (x == 0x9C || (is_osc && x == 0x07)) 1 _ y ∙ sym (cond-true (x == 0x9C || (is_osc && x == 0x07)) 1 _ y)
        | inr n ↦ absurd (false≢true (sym some ∙ ap (λ (k : ℕ). k == 0) (zero n)))
      ]
    where
      zero : (x == 0x9C || (is_osc && x == 0x07)) ≡ false → terminator_len is_osc (x ∷ []) ≡ 0
      zero n = cond-false (x == 0x9C || (is_osc && x == 0x07)) 1 _ n ∙ cond-false (x == 0x1B && 0 == 0x5C) 2 0 (and_right (x == 0x1B) (0 == 0x5C) refl)

  long_some : (is_osc : Bool) (text : List ℕ) → knows_long is_osc text ≡ true → 0 < length text
  long_some is_osc [] known = absurd (false≢true known)
  long_some is_osc (c ∷ text) known = omega arith

  abbrev long_by : ℕ → ℕ → ℕ
  long_by terminator rest = if terminator == 0 then suc rest else terminator

  long_known : (is_osc : Bool) (text : List ℕ) → knows_long is_osc text ≡ true → long_len is_osc (text ++ more) ≡ long_len is_osc text
  long_known is_osc [] known = absurd (false≢true known)
  long_known is_osc (c ∷ text) known =
      elim (cases_Bool (ends_piece c)) [
        | inl y ↦ cond-true (ends_piece c) 0 _ y ∙ sym (cond-true (ends_piece c) 0 _ y)
        | inr n ↦
            cond-false (ends_piece c) 0 _ n
            ∙ goes_on text (long_known is_osc text) (sym (ap (λ (b : Bool). b || (not (terminator_len is_osc (c ∷ text) == 0) || knows_long is_osc text)) n) ∙ known)
            ∙ sym (cond-false (ends_piece c) 0 _ n)
      ]
    where
      over : (text : List ℕ) → (knows_long is_osc text ≡ true → long_len is_osc (text ++ more) ≡ long_len is_osc text) → knows_long is_osc text ≡ true
          → long_by (terminator_len is_osc (c ∷ (text ++ more))) (long_len is_osc (text ++ more)) ≡ long_by (terminator_len is_osc (c ∷ text)) (long_len is_osc text)
      over [] rest known = absurd (false≢true known)
      over (d ∷ text) rest known = ap (long_by (terminator_len is_osc (c ∷ d ∷ text))) (rest known)

      goes_on : (text : List ℕ) → (knows_long is_osc text ≡ true → long_len is_osc (text ++ more) ≡ long_len is_osc text)
          → (not (terminator_len is_osc (c ∷ text) == 0) || knows_long is_osc text) ≡ true
          → long_by (terminator_len is_osc (c ∷ (text ++ more))) (long_len is_osc (text ++ more)) ≡ long_by (terminator_len is_osc (c ∷ text)) (long_len is_osc text)
      goes_on text rest known =
          let terminator = terminator_len is_osc (c ∷ text) in
          elim (cases_Bool (terminator == 0)) [
            | inl y ↦ over text rest (sym (ap (λ (b : Bool). not b || knows_long is_osc text) y) ∙ known)
            | inr n ↦
                ap (λ (t : ℕ). long_by t (long_len is_osc (text ++ more))) (terminator_kept is_osc (c ∷ text) n)
                ∙ cond-false (terminator == 0) (suc (long_len is_osc (text ++ more))) terminator n
                ∙ sym (cond-false (terminator == 0) (suc (long_len is_osc text)) terminator n)
          ]

  abbrev short_ended : ℕ → ℕ → Option ℕ
  short_ended n terminator = if terminator == 0 then None else Some (n + terminator)

  abbrev string_by : Bool → ℕ → List ℕ → Option ℕ
  string_by is_osc n rest = if nat_lt LONGEST_STRING n then Some (n + long_len is_osc rest) else short_ended n (terminator_len is_osc rest)

  string_same : (is_osc : Bool) (text : List ℕ) → string_end text < length text → string_len is_osc (text ++ more) ≡ string_by is_osc (string_end text) (drop (string_end text) text ++ more)
  string_same is_osc text less =
      ap (λ k. string_by is_osc k (drop k (text ++ more))) (prefix_known is_inline text less)
      ∙ ap (string_by is_osc (string_end text)) (drop-append-le (string_end text) text more (omega (arith, less)))

  string_known : (is_osc : Bool) (text : List ℕ) → knows_string is_osc text ≡ true → string_len is_osc (text ++ more) ≡ string_len is_osc text
  string_known is_osc text known =
      let n = string_end text in
      let is_long = nat_lt LONGEST_STRING n in
      elim (cases_Bool is_long) [
        | inl y ↦ long y (sym (cond-true is_long _ _ y) ∙ known)
        | inr n_is ↦ short n_is (ltb-true _ (length text) (sym (cond-false is_long _ _ n_is) ∙ known))
      ]
    where
      index_drop : (n : ℕ) (text : List ℕ) → slice_index (drop n text) 0 ≡ slice_index text n
      index_drop zero text = refl
      index_drop (suc n) [] = refl
      index_drop (suc n) (c ∷ text) = index_drop n text

      long : nat_lt LONGEST_STRING (string_end text) ≡ true → knows_long is_osc (drop (string_end text) text) ≡ true → string_len is_osc (text ++ more) ≡ string_len is_osc text
      long y known =
          let n = string_end text in
          let less : n < length text = omega (arith, long_some is_osc (drop n text) known, length-drop n text) in
          string_same is_osc text less ∙ cond-true (nat_lt LONGEST_STRING n) _ _ y ∙ ap (λ k. Some (n + k)) (long_known is_osc (drop n text) known)
          ∙ sym (cond-true (nat_lt LONGEST_STRING n) _ _ y)

      short : nat_lt LONGEST_STRING (string_end text) ≡ false → string_end text + (if slice_index text (string_end text) == 0x1B then 1 else 0) < length text
          → string_len is_osc (text ++ more) ≡ string_len is_osc text
      short few_is less =
          let n = string_end text in
          let few : (if slice_index (drop n text) 0 == 0x1B then 1 else 0) < length (drop n text) =
          omega (arith, ap {B = ℕ} (λ c. if c == 0x1B then 1 else 0) (index_drop n text), less, length-drop n text) in
          string_same is_osc text (omega (arith, less)) ∙ cond-false (nat_lt LONGEST_STRING n) _ _ few_is
          ∙ ap (short_ended n) (terminator_known is_osc (drop n text) few) ∙ sym (cond-false (nat_lt LONGEST_STRING n) _ _ few_is)

  abbrev other_escape : ℕ → List ℕ → Option ℕ
  other_escape c t = if opens_string c then option_map suc (string_len (c == 0x5D) t) else escape_len (c ∷ t)

  after_escape_known : (text : List ℕ) → knows_after_escape text ≡ true → len_after_escape (text ++ more) ≡ len_after_escape text
  after_escape_known [] known = absurd (false≢true known)
  after_escape_known (c ∷ text) known =
      elim (cases_Bool (c == 0x5B)) [
        | inl y ↦
            cond-true (c == 0x5B) _ _ y ∙ ap (option_map suc) (csi_known text (ltb-true _ _ (sym (cond-true (c == 0x5B) _ _ y) ∙ known))) ∙ sym (cond-true (c == 0x5B) _ _ y)
        | inr n ↦ cond-false (c == 0x5B) _ _ n ∙ other (sym (cond-false (c == 0x5B) _ _ n) ∙ known) ∙ sym (cond-false (c == 0x5B) _ _ n)
      ]
    where
      other : (if opens_string c then knows_string (c == 0x5D) text else nat_lt (prefix_len is_intermediate (c ∷ text)) (length (c ∷ text))) ≡ true → other_escape c (text ++ more) ≡ other_escape c text
      other known =
          elim (cases_Bool (opens_string c)) [
            | inl y ↦
                cond-true (opens_string c) _ _ y ∙ ap (option_map suc) (string_known (c == 0x5D) text (sym (cond-true (opens_string c) _ _ y) ∙ known)) ∙ sym (cond-true (opens_string c) _ _ y)
            | inr n ↦
                cond-false (opens_string c) _ _ n ∙ escape_known (c ∷ text) (ltb-true _ _ (sym (cond-false (opens_string c) _ _ n) ∙ known))
                ∙ sym (cond-false (opens_string c) _ _ n)
          ]

  abbrev c1_len : ℕ → List ℕ → Option ℕ
  c1_len c t = if is_c1_introducer c then len_after_escape ((c - 0x40) ∷ t) else None

  pub sequence_known : (text : List ℕ) → knows_sequence text ≡ true → sequence_len (text ++ more) ≡ sequence_len text
  sequence_known [] known = absurd (false≢true known)
  sequence_known (c ∷ text) known =
      elim (cases_Bool (c == 0x1B)) [
        | inl y ↦
            cond-true (c == 0x1B) _ _ y ∙ ap (option_map suc) (after_escape_known text (sym (cond-true (c == 0x1B) _ _ y) ∙ known)) ∙ sym (cond-true (c == 0x1B) _ _ y)
        | inr n ↦ cond-false (c == 0x1B) _ _ n ∙ other (sym (cond-false (c == 0x1B) _ _ n) ∙ known) ∙ sym (cond-false (c == 0x1B) _ _ n)
      ]
    where
      other : (if is_c1_introducer c then knows_after_escape ((c - 0x40) ∷ text) else true) ≡ true → c1_len c (text ++ more) ≡ c1_len c text
      other known =
          elim (cases_Bool (is_c1_introducer c)) [
            | inl y ↦
                cond-true (is_c1_introducer c) _ _ y ∙ after_escape_known ((c - 0x40) ∷ text) (sym (cond-true (is_c1_introducer c) _ _ y) ∙ known)
                ∙ sym (cond-true (is_c1_introducer c) _ _ y)
            | inr n ↦ cond-false (is_c1_introducer c) _ _ n ∙ sym (cond-false (is_c1_introducer c) _ _ n)
          ]
