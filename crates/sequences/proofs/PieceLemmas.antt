-- No part of a text spans a character that ends a piece, so text after the character does not affect what is
-- shown before it.
use Rattle.std.proofs.Common.{◌≡◌, ℕ, zero, suc, ◌+◌, ◌-◌, ◌*◌, ◌<◌, ◌≤◌, ◌==◌, Bool, true, false, ◌&&◌, ◌||◌, List, [], ◌∷◌, ◌++◌, length, take, drop, slice_index, nat_le, nat_lt, Some, None, if◌then◌else◌, refl, sym, ap, subst, ◌∙◌, append_assoc, inl, inr, arith}
use Rattle.std.specs.Prelude.{fold, not, MatchOption, Option, option_map, unwrap_or, ⊤}
use Rattle.std.specs.List.{prefix_len}
use Rattle.std.proofs.lemmas.Bool.{eqb-true, cases_eq, cond-false, cond-true, cond_both, and_left, and_right, or_from, or_parts, not-true, false≢true}
use Rattle.std.proofs.lemmas.Bool.Decides.{nat_tests}
use Rattle.std.proofs.lemmas.List.{append-nil, drop-append-le, length-drop, take-append-le}
use Rattle.sequences.specs.Characters.{ends_piece, is_c1_introducer, is_dropped, is_inline}
use Rattle.sequences.specs.Parameters.{is_sgr, osc_link, parameters, sgr}
use Rattle.sequences.specs.Sequences.{after_escape, csi_end, csi_len, escape_len, is_csi_final, is_escape_final, is_intermediate, is_parameter, len_after_escape, long_len, opens_string, sequence_len, string_end, string_len, terminator_len}
use Rattle.sequences.specs.Laws.{characters_of, ShowsPieces}
use Rattle.sequences.proofs.LawLemmas.{same_characters}
use Rattle.sequences.specs.Overstrikes.{after_backspaces, is_underlined_only, strike, strikes, struck_look}
use Rattle.sequences.specs.Styled.{after_first_part, after_part, after_sequence, first_shown, more_len, Pen, pen_after, pen_at_end, shown_text, START, Style, styled, styled_after, with_link, with_osc, with_sgr}
use Rattle.sequences.specs.declared.overstrikes.Struck.{Struck}
use Rattle.sequences.proofs.PlainLemmas.{no_backspaces, no_sequence, not_among}
use Rattle.sequences.specs.declared.lengths.TheConstants.{LONGEST_STRING}

-- a character from U+0020 to U+007E can be in a string
inline_ascii : (c : ℕ) → 0x20 ≤ c → c ≤ 0x7E → is_inline c ≡ true
inline_ascii c low high = grind (arith, nat_tests)

-- `c` ends a piece, and `one` and `two` are arbitrary texts after `c`
module _ (c : ℕ) (kept : is_dropped c ≡ false) (outer : is_inline c ≡ false) where
  no_parameter : is_parameter c ≡ false
  no_parameter = grind (arith, nat_tests)

  no_intermediate : is_intermediate c ≡ false
  no_intermediate = grind (arith, nat_tests)

  no_csi_final : is_csi_final c ≡ false
  no_csi_final = grind (arith, nat_tests)

  no_escape_final : is_escape_final c ≡ false
  no_escape_final = grind (arith, nat_tests)

  no_sgr : is_sgr c ≡ false
  no_sgr = grind (arith, nat_tests)

  opens_none : opens_string c ≡ false
  opens_none = grind (arith, nat_tests)

  not_equal : (d : ℕ) → (is_inline d ≡ true) → (c == d) ≡ false
  not_equal d e = go (c == d) refl
    where
      go : (b : Bool) → (c == d) ≡ b → b ≡ false
      go true is = absurd (false≢true (sym outer ∙ ap is_inline (eqb-true c d is) ∙ e))
      go false is = refl

  module _ (one two : List ℕ) where
    prefix_same : (p : ℕ → Bool) → p c ≡ false → (text : List ℕ) → prefix_len p (text ++ c ∷ one) ≡ prefix_len p (text ++ c ∷ two)
    prefix_same p e [] = cond-false (p c) (1 + prefix_len p one) 0 e ∙ sym (cond-false (p c) (1 + prefix_len p two) 0 e)
    prefix_same p e (x ∷ text) = ap (λ (n : ℕ). if p x then 1 + n else 0) (prefix_same p e text)

    index_same : (text : List ℕ) (n : ℕ) → n ≤ length text → slice_index (text ++ c ∷ one) n ≡ slice_index (text ++ c ∷ two) n
    index_same [] zero le = refl
    index_same [] (suc n) le = absurd (omega arith)
    index_same (x ∷ text) zero le = refl
    index_same (x ∷ text) (suc n) le = index_same text n (omega arith)

  module _ (one : List ℕ) where
    prefix_within : (p : ℕ → Bool) → p c ≡ false → (text : List ℕ) → prefix_len p (text ++ c ∷ one) ≤ length text
    prefix_within p e [] = subst (λ (n : ℕ). n ≤ 0) (sym (cond-false (p c) (1 + prefix_len p one) 0 e)) (omega arith)
    prefix_within p e (x ∷ text) =
        cond_both (p x) (1 + prefix_len p (text ++ c ∷ one)) 0 (λ n. n ≤ length (x ∷ text)) (λ _. let rest = prefix_within p e text in omega arith) (λ _. omega arith)

    index_at : (text : List ℕ) → slice_index (text ++ c ∷ one) (length text) ≡ c
    index_at [] = refl
    index_at (x ∷ text) = index_at text

    -- if `c` fails a test and the character at an index up to that of `c` passes, the index is less than that
    -- of `c`
    passes_before : (p : ℕ → Bool) → p c ≡ false → (text : List ℕ) (n : ℕ) → n ≤ length text → p (slice_index (text ++ c ∷ one) n) ≡ true → n < length text
    passes_before p e text n le passed =
        elim (cases_eq n (length text)) [
          | inl here ↦ absurd (false≢true (sym e ∙ ap p (sym (index_at text)) ∙ ap (λ (k : ℕ). p (slice_index (text ++ c ∷ one) k)) (sym here) ∙ passed))
          | inr other ↦ omega arith
        ]

  drop_whole : (one text : List ℕ) (n : ℕ) → n ≤ length text → drop n (text ++ c ∷ one) ≡ drop n text ++ c ∷ one
  drop_whole one text n le = drop-append-le n text (c ∷ one) le

  -- ---- control sequences
  csi_end_within : (one text : List ℕ) → csi_end (text ++ c ∷ one) ≤ length text
  csi_end_within one text =
      let n = prefix_len is_parameter (text ++ c ∷ one) in
      let le : n ≤ length text = prefix_within one is_parameter no_parameter text in
      let rest : prefix_len is_intermediate (drop n (text ++ c ∷ one)) ≤ length (drop n text) =
      subst (λ (t : List ℕ). prefix_len is_intermediate t ≤ length (drop n text)) (sym (drop_whole one text n le))
      (prefix_within one is_intermediate no_intermediate (drop n text)) in
      omega (arith, length-drop n text)

  csi_end_same : (one two text : List ℕ) → csi_end (text ++ c ∷ one) ≡ csi_end (text ++ c ∷ two)
  csi_end_same one two text =
      let n = prefix_len is_parameter (text ++ c ∷ one) in
      let le : n ≤ length text = prefix_within one is_parameter no_parameter text in
      let same : n ≡ prefix_len is_parameter (text ++ c ∷ two) = prefix_same one two is_parameter no_parameter text in
      ap (λ (t : List ℕ). n + prefix_len is_intermediate t) (drop_whole one text n le)
      ∙ ap (λ (k : ℕ). n + k) (prefix_same one two is_intermediate no_intermediate (drop n text))
      ∙ ap (λ (t : List ℕ). n + prefix_len is_intermediate t) (sym (drop_whole two text n le))
      ∙ ap (λ (k : ℕ). k + prefix_len is_intermediate (drop k (text ++ c ∷ two))) same

  abbrev ended : (ℕ → Bool) → ℕ → ℕ → Option ℕ
  ended p d n = if p d then Some (n + 1) else None

  ended_same : (p : ℕ → Bool) (one two text : List ℕ) (n m : ℕ) → n ≤ length text → n ≡ m
      → ended p (slice_index (text ++ c ∷ one) n) n ≡ ended p (slice_index (text ++ c ∷ two) m) m
  ended_same p one two text n m le e =
      ap (λ (d : ℕ). ended p d n) (index_same one two text n le) ∙ ap (λ (k : ℕ). ended p (slice_index (text ++ c ∷ two) k) k) e

  -- a length, if there is one, is at most n
  abbrev IsWithin : ℕ → Option ℕ → Type 0
  IsWithin n found = MatchOption found ⊤ (λ len. len ≤ n)

  ended_within : (p : ℕ → Bool) → p c ≡ false → (one text : List ℕ) (n : ℕ) → n ≤ length text → IsWithin (length text) (ended p (slice_index (text ++ c ∷ one) n) n)
  ended_within p e one text n le =
      cond_both (p (slice_index (text ++ c ∷ one) n)) (Some (n + 1)) None (IsWithin (length text))
      (λ final. let lt = passes_before one p e text n le final in omega arith) (λ _. tt)

  csi_len_same : (one two text : List ℕ) → csi_len (text ++ c ∷ one) ≡ csi_len (text ++ c ∷ two)
  csi_len_same one two text = ended_same is_csi_final one two text _ _ (csi_end_within one text) (csi_end_same one two text)

  csi_len_within : (one text : List ℕ) → IsWithin (length text) (csi_len (text ++ c ∷ one))
  csi_len_within one text = ended_within is_csi_final no_csi_final one text _ (csi_end_within one text)

  -- ---- escape sequences
  escape_len_same : (one two text : List ℕ) → escape_len (text ++ c ∷ one) ≡ escape_len (text ++ c ∷ two)
  escape_len_same one two text =
      ended_same is_escape_final one two text _ _ (prefix_within one is_intermediate no_intermediate text) (prefix_same one two is_intermediate no_intermediate text)

  escape_len_within : (one text : List ℕ) → IsWithin (length text) (escape_len (text ++ c ∷ one))
  escape_len_within one text = ended_within is_escape_final no_escape_final one text _ (prefix_within one is_intermediate no_intermediate text)

  -- ---- strings
  terminator_none : (is_osc : Bool) (one : List ℕ) → terminator_len is_osc (c ∷ one) ≡ 0
  terminator_none is_osc one =
      cond-false (c == 0x9C || (is_osc && c == 0x07)) 1 _
      (or_from (c == 0x9C) (is_osc && c == 0x07) (not_among c 0x9C kept refl) (and_right is_osc (c == 0x07) (not_among c 0x07 kept refl)))
      ∙ cond-false (c == 0x1B && slice_index one 0 == 0x5C) 2 0 (and_left (c == 0x1B) (slice_index one 0 == 0x5C) (not_among c 0x1B kept refl))

  terminator_same : (is_osc : Bool) (one two text : List ℕ) → terminator_len is_osc (text ++ c ∷ one) ≡ terminator_len is_osc (text ++ c ∷ two)
  terminator_same is_osc one two [] = terminator_none is_osc one ∙ sym (terminator_none is_osc two)
  terminator_same is_osc one two (x ∷ []) = refl
  terminator_same is_osc one two (x ∷ y ∷ text) = refl

  terminator_within : (is_osc : Bool) (one text : List ℕ) → terminator_len is_osc (text ++ c ∷ one) ≤ length text
  terminator_within is_osc one [] = subst (λ (n : ℕ). n ≤ 0) (sym (terminator_none is_osc one)) (omega arith)
  terminator_within is_osc one (x ∷ []) =
      cond_both (x == 0x9C || (is_osc && x == 0x07)) 1 _ (λ n. n ≤ 1) (λ _. omega arith)
      (λ _. subst (λ (n : ℕ). n ≤ 1)
      (sym (cond-false (x == 0x1B && c == 0x5C) 2 0 (and_right (x == 0x1B) (c == 0x5C) (not_equal 0x5C refl)))) (omega arith))
  terminator_within is_osc one (x ∷ y ∷ text) =
      cond_both (x == 0x9C || (is_osc && x == 0x07)) 1 _ (λ n. n ≤ length (x ∷ y ∷ text)) (λ _. omega arith)
      (λ _. cond_both _ 2 0 (λ n. n ≤ length (x ∷ y ∷ text)) (λ _. omega arith) (λ _. omega arith))

  cut_here : ends_piece c ≡ true
  cut_here = ap (λ b. not (b || is_inline c)) kept ∙ ap not outer

  long_none : (is_osc : Bool) (one : List ℕ) → long_len is_osc (c ∷ one) ≡ 0
  long_none is_osc one = cond-true (ends_piece c) 0 _ cut_here

  long_same : (is_osc : Bool) (one two text : List ℕ) → long_len is_osc (text ++ c ∷ one) ≡ long_len is_osc (text ++ c ∷ two)
  long_same is_osc one two [] = long_none is_osc one ∙ sym (long_none is_osc two)
  long_same is_osc one two (x ∷ text) =
      ap (λ (t : ℕ). long_by x t (long_len is_osc (text ++ c ∷ one))) (terminator_same is_osc one two (x ∷ text))
      ∙ ap (long_by x (terminator_len is_osc (x ∷ (text ++ c ∷ two)))) (long_same is_osc one two text)
    where
      long_by : ℕ → ℕ → ℕ → ℕ
      long_by x terminator rest = if ends_piece x then 0 else (if terminator == 0 then suc rest else terminator)

  long_within : (is_osc : Bool) (one text : List ℕ) → long_len is_osc (text ++ c ∷ one) ≤ length text
  long_within is_osc one [] = subst (λ (n : ℕ). n ≤ 0) (sym (long_none is_osc one)) (omega arith)
  long_within is_osc one (x ∷ text) =
      let terminator = terminator_len is_osc (x ∷ (text ++ c ∷ one)) in
      cond_both (ends_piece x) 0 _ (λ n. n ≤ length (x ∷ text)) (λ _. omega arith)
      (λ _. cond_both (terminator == 0) (suc (long_len is_osc (text ++ c ∷ one))) terminator (λ n. n ≤ length (x ∷ text))
      (λ _. let rest = long_within is_osc one text in omega arith) (λ _. terminator_within is_osc one (x ∷ text)))

  abbrev string_ended : ℕ → ℕ → ℕ → Option ℕ
  string_ended n long terminator =
      if nat_lt LONGEST_STRING n then Some (n + long) else (if terminator == 0 then None else Some (n + terminator))

  abbrev string_by : Bool → ℕ → List ℕ → Option ℕ
  string_by is_osc n rest = string_ended n (long_len is_osc rest) (terminator_len is_osc rest)

  string_len_same : (is_osc : Bool) (one two text : List ℕ) → string_len is_osc (text ++ c ∷ one) ≡ string_len is_osc (text ++ c ∷ two)
  string_len_same is_osc one two text =
      let n = string_end (text ++ c ∷ one) in
      let le : n ≤ length text = prefix_within one is_inline outer text in
      let same : n ≡ string_end (text ++ c ∷ two) = prefix_same one two is_inline outer text in
      ap (string_by is_osc n) (drop_whole one text n le)
      ∙ ap (λ (l : ℕ). string_ended n l (terminator_len is_osc (drop n text ++ c ∷ one))) (long_same is_osc one two (drop n text))
      ∙ ap (string_ended n (long_len is_osc (drop n text ++ c ∷ two))) (terminator_same is_osc one two (drop n text))
      ∙ ap (string_by is_osc n) (sym (drop_whole two text n le))
      ∙ ap (λ (k : ℕ). string_by is_osc k (drop k (text ++ c ∷ two))) same

  string_len_within : (is_osc : Bool) (one text : List ℕ) → IsWithin (length text) (string_len is_osc (text ++ c ∷ one))
  string_len_within is_osc one text =
      let n = string_end (text ++ c ∷ one) in
      let le : n ≤ length text = prefix_within one is_inline outer text in
      let terminator = terminator_len is_osc (drop n (text ++ c ∷ one)) in
      let long = long_len is_osc (drop n (text ++ c ∷ one)) in
      let ended : terminator ≤ length (drop n text) =
      subst (λ (t : List ℕ). terminator_len is_osc t ≤ length (drop n text)) (sym (drop_whole one text n le)) (terminator_within is_osc one (drop n text)) in
      let passed : long ≤ length (drop n text) =
      subst (λ (t : List ℕ). long_len is_osc t ≤ length (drop n text)) (sym (drop_whole one text n le)) (long_within is_osc one (drop n text)) in
      cond_both (nat_lt LONGEST_STRING n) (Some (n + long)) _ (IsWithin (length text)) (λ _. omega (arith, passed, length-drop n text))
      (λ _. cond_both (terminator == 0) None (Some (n + terminator)) (IsWithin (length text)) (λ _. tt) (λ _. omega (arith, ended, length-drop n text)))

  -- ---- all sequences, after ESC
  suc_within : (n : ℕ) (found : Option ℕ) → IsWithin n found → IsWithin (suc n) (option_map suc found)
  suc_within n None within = tt
  suc_within n (Some len) within = omega arith

  more_within : (n : ℕ) (found : Option ℕ) → IsWithin n found → IsWithin (suc n) found
  more_within n None within = tt
  more_within n (Some len) within = omega arith

  after_escape_none : (one : List ℕ) → len_after_escape (c ∷ one) ≡ None
  after_escape_none one =
      cond-false (c == 0x5B) _ _ (not_equal 0x5B refl) ∙ cond-false (opens_string c) _ _ opens_none
      ∙ ap (λ (n : ℕ). ended is_escape_final (slice_index (c ∷ one) n) n) (cond-false (is_intermediate c) (1 + prefix_len is_intermediate one) 0 no_intermediate)
      ∙ cond-false (is_escape_final c) (Some 1) None no_escape_final

  len_after_escape_same : (one two text : List ℕ) → len_after_escape (text ++ c ∷ one) ≡ len_after_escape (text ++ c ∷ two)
  len_after_escape_same one two [] = after_escape_none one ∙ sym (after_escape_none two)
  len_after_escape_same one two (x ∷ text) =
      ap (λ (csi : Option ℕ). if x == 0x5B then option_map suc csi else (if opens_string x then option_map suc (string_len (x == 0x5D) (text ++ c ∷ one)) else escape_len (x ∷ (text ++ c ∷ one))))
      (csi_len_same one two text)
      ∙ ap (λ (string : Option ℕ). if x == 0x5B then option_map suc (csi_len (text ++ c ∷ two)) else (if opens_string x then option_map suc string else escape_len (x ∷ (text ++ c ∷ one))))
      (string_len_same (x == 0x5D) one two text)
      ∙ ap (λ (escape : Option ℕ). if x == 0x5B then option_map suc (csi_len (text ++ c ∷ two)) else (if opens_string x then option_map suc (string_len (x == 0x5D) (text ++ c ∷ two)) else escape))
      (escape_len_same one two (x ∷ text))

  len_after_escape_within : (one text : List ℕ) → IsWithin (length text) (len_after_escape (text ++ c ∷ one))
  len_after_escape_within one [] = subst (IsWithin 0) (sym (after_escape_none one)) tt
  len_after_escape_within one (x ∷ text) =
      cond_both (x == 0x5B) _ _ (IsWithin (length (x ∷ text))) (λ _. suc_within (length text) _ (csi_len_within one text))
      (λ _. cond_both (opens_string x) _ _ (IsWithin (length (x ∷ text))) (λ _. suc_within (length text) _ (string_len_within (x == 0x5D) one text))
      (λ _. escape_len_within one (x ∷ text)))

  sequence_len_same : (one two : List ℕ) (x : ℕ) (text : List ℕ) → sequence_len (x ∷ (text ++ c ∷ one)) ≡ sequence_len (x ∷ (text ++ c ∷ two))
  sequence_len_same one two x text =
      ap (λ (escape : Option ℕ). if x == 0x1B then option_map suc escape else (if is_c1_introducer x then len_after_escape ((x - 0x40) ∷ (text ++ c ∷ one)) else None))
      (len_after_escape_same one two text)
      ∙ ap (λ (c1 : Option ℕ). if x == 0x1B then option_map suc (len_after_escape (text ++ c ∷ two)) else (if is_c1_introducer x then c1 else None))
      (len_after_escape_same one two ((x - 0x40) ∷ text))

  pub sequence_len_within : (one : List ℕ) (x : ℕ) (text : List ℕ) → IsWithin (suc (length text)) (sequence_len (x ∷ (text ++ c ∷ one)))
  sequence_len_within one x text =
      cond_both (x == 0x1B) _ _ (IsWithin (suc (length text))) (λ _. suc_within (length text) _ (len_after_escape_within one text))
      (λ _. cond_both (is_c1_introducer x) _ _ (IsWithin (suc (length text))) (λ _. len_after_escape_within one ((x - 0x40) ∷ text)) (λ _. tt))

  -- ---- the effects of sequences
  take_whole : (one text : List ℕ) (n : ℕ) → n ≤ length text → take n (text ++ c ∷ one) ≡ take n text
  take_whole one text n le = take-append-le n text (c ∷ one) le

  abbrev sgr_by : ℕ → List ℕ → Option (List (List ℕ))
  sgr_by final text = if final == 0x6D then Some (parameters text) else None

  sgr_same : (one two text : List ℕ) → sgr (text ++ c ∷ one) ≡ sgr (text ++ c ∷ two)
  sgr_same one two text =
      let n = prefix_len is_sgr (text ++ c ∷ one) in
      let le : n ≤ length text = prefix_within one is_sgr no_sgr text in
      let same : n ≡ prefix_len is_sgr (text ++ c ∷ two) = prefix_same one two is_sgr no_sgr text in
      ap (λ (d : ℕ). sgr_by d (take n (text ++ c ∷ one))) (index_same one two text n le)
      ∙ ap (sgr_by (slice_index (text ++ c ∷ two) n)) (take_whole one text n le ∙ sym (take_whole two text n le))
      ∙ ap (λ (k : ℕ). sgr_by (slice_index (text ++ c ∷ two) k) (take k (text ++ c ∷ two))) same

  with_osc_same : (pen : Pen) (one two text : List ℕ) → with_osc pen (text ++ c ∷ one) ≡ with_osc pen (text ++ c ∷ two)
  with_osc_same pen one two text =
      let n = string_end (text ++ c ∷ one) in
      let le : n ≤ length text = prefix_within one is_inline outer text in
      let same : n ≡ string_end (text ++ c ∷ two) = prefix_same one two is_inline outer text in
      ap (λ (t : List ℕ). if nat_le n LONGEST_STRING then with_link pen (osc_link t) else pen) (take_whole one text n le ∙ sym (take_whole two text n le))
      ∙ ap (λ (k : ℕ). if nat_le k LONGEST_STRING then with_link pen (osc_link (take k (text ++ c ∷ two))) else pen) same

  after_none : (pen : Pen) (one : List ℕ) → after_sequence pen (c ∷ one) ≡ pen
  after_none pen one = cond-false (c == 0x5B) _ _ (not_equal 0x5B refl) ∙ cond-false (c == 0x5D) _ _ (not_equal 0x5D refl)

  after_sequence_same : (pen : Pen) (one two text : List ℕ) → after_sequence pen (text ++ c ∷ one) ≡ after_sequence pen (text ++ c ∷ two)
  after_sequence_same pen one two [] = after_none pen one ∙ sym (after_none pen two)
  after_sequence_same pen one two (x ∷ text) =
      ap (λ (found : Option (List (List ℕ))). if x == 0x5B then with_sgr pen found else (if x == 0x5D then with_osc pen (text ++ c ∷ one) else pen)) (sgr_same one two text)
      ∙ ap (λ (after : Pen). if x == 0x5B then with_sgr pen (sgr (text ++ c ∷ two)) else (if x == 0x5D then after else pen)) (with_osc_same pen one two text)

  after_escape_same : (pen : Pen) (one two : List ℕ) (x : ℕ) (text : List ℕ)
      → after_sequence pen (after_escape (x ∷ (text ++ c ∷ one))) ≡ after_sequence pen (after_escape (x ∷ (text ++ c ∷ two)))
  after_escape_same pen one two x text = go (x == 0x1B)
    where
      go : (b : Bool) → after_sequence pen (if b then text ++ c ∷ one else (x - 0x40) ∷ (text ++ c ∷ one)) ≡ after_sequence pen (if b then text ++ c ∷ two else (x - 0x40) ∷ (text ++ c ∷ two))
      go true = after_sequence_same pen one two text
      go false = after_sequence_same pen one two ((x - 0x40) ∷ text)

  -- ---- overstrikes
  backspaces_none : (one : List ℕ) → after_backspaces (c ∷ one) ≡ []
  backspaces_none one = no_backspaces c one kept

  backspaces_same : (one two text : List ℕ) → after_backspaces (text ++ c ∷ one) ≡ after_backspaces (text ++ c ∷ two)
  backspaces_same one two [] = backspaces_none one ∙ sym (backspaces_none two)
  backspaces_same one two (x ∷ []) =
      cond-false (x == 0x08 && is_inline c) _ _ (and_right (x == 0x08) (is_inline c) outer) ∙ sym (cond-false (x == 0x08 && is_inline c) _ _ (and_right (x == 0x08) (is_inline c) outer))
  backspaces_same one two (x ∷ y ∷ text) = ap (λ (xs : List ℕ). if x == 0x08 && is_inline y then y ∷ xs else []) (backspaces_same one two text)

  backspaces_within : (one text : List ℕ) → 2 * length (after_backspaces (text ++ c ∷ one)) ≤ length text
  backspaces_within one [] = subst (λ (xs : List ℕ). 2 * length xs ≤ 0) (sym (backspaces_none one)) (omega arith)
  backspaces_within one (x ∷ []) =
      subst (λ (xs : List ℕ). 2 * length xs ≤ 1) (sym (cond-false (x == 0x08 && is_inline c) (c ∷ after_backspaces one) [] (and_right (x == 0x08) (is_inline c) outer))) (omega arith)
  backspaces_within one (x ∷ y ∷ text) =
      cond_both (x == 0x08 && is_inline y) (y ∷ after_backspaces (text ++ c ∷ one)) [] (λ xs. 2 * length xs ≤ length (x ∷ y ∷ text))
      (λ _. let rest = backspaces_within one text in omega arith) (λ _. omega arith)

  strikes_same : (one two : List ℕ) (x : ℕ) (text : List ℕ) → strikes x (text ++ c ∷ one) ≡ strikes x (text ++ c ∷ two)
  strikes_same one two x text = ap (λ (xs : List ℕ). if is_inline x then xs else []) (backspaces_same one two text)

  strikes_within : (one : List ℕ) (x : ℕ) (text : List ℕ) → 2 * length (strikes x (text ++ c ∷ one)) ≤ length text
  strikes_within one x text =
      cond_both (is_inline x) (after_backspaces (text ++ c ∷ one)) [] (λ xs. 2 * length xs ≤ length text) (λ _. backspaces_within one text) (λ _. omega arith)

  -- ---- the first part of a text
  abbrev place_of : Pen → ℕ → List ℕ → Struck
  place_of pen x xs = fold (strike pen.after_underline) (record { shown = x; bold = false; underlined = false }) xs

  first_shown_same : (pen : Pen) (one two : List ℕ) (x : ℕ) (text : List ℕ) → first_shown pen x (text ++ c ∷ one) ≡ first_shown pen x (text ++ c ∷ two)
  first_shown_same pen one two x text =
      ap (λ (xs : List ℕ). if is_dropped x then [] else shown_with xs ∷ []) (strikes_same one two x text)
    where
      shown_with : List ℕ → ℕ × Style
      shown_with xs = ((place_of pen x xs).shown, record { look = struck_look pen.style.look (place_of pen x xs); link = pen.style.link })

  more_len_same : (one two : List ℕ) (x : ℕ) (text : List ℕ) → more_len x (text ++ c ∷ one) ≡ more_len x (text ++ c ∷ two)
  more_len_same one two x text =
      ap (λ (found : Option ℕ). unwrap_or found (1 + 2 * length (strikes x (text ++ c ∷ one))) - 1) (sequence_len_same one two x text)
      ∙ ap (λ (xs : List ℕ). unwrap_or (sequence_len (x ∷ (text ++ c ∷ two))) (1 + 2 * length xs) - 1) (strikes_same one two x text)

  more_len_within : (one : List ℕ) (x : ℕ) (text : List ℕ) → more_len x (text ++ c ∷ one) ≤ length text
  more_len_within one x text = go (sequence_len (x ∷ (text ++ c ∷ one))) (sequence_len_within one x text)
    where
      go : (found : Option ℕ) → IsWithin (suc (length text)) found → unwrap_or found (1 + 2 * length (strikes x (text ++ c ∷ one))) - 1 ≤ length text
      go None within = let least = strikes_within one x text in omega arith
      go (Some len) within = omega arith

  after_part_same : (pen : Pen) (one two : List ℕ) (x : ℕ) (text : List ℕ) (found : Option ℕ)
      → after_part pen x (text ++ c ∷ one) found ≡ after_part pen x (text ++ c ∷ two) found
  after_part_same pen one two x text (Some n) = after_escape_same pen one two x text
  after_part_same pen one two x text None = ap (λ (xs : List ℕ). if is_dropped x then pen else after xs) (strikes_same one two x text)
    where
      after : List ℕ → Pen
      after xs = record pen { after_underline = is_underlined_only (struck_look pen.style.look (place_of pen x xs)) }

  after_first_part_same : (pen : Pen) (one two : List ℕ) (x : ℕ) (text : List ℕ) → after_first_part pen x (text ++ c ∷ one) ≡ after_first_part pen x (text ++ c ∷ two)
  after_first_part_same pen one two x text =
      ap (after_part pen x (text ++ c ∷ one)) (sequence_len_same one two x text) ∙ after_part_same pen one two x text (sequence_len (x ∷ (text ++ c ∷ two)))

  -- ---- at `c` itself
  strikes_none : (rest : List ℕ) → strikes c rest ≡ []
  strikes_none rest = cond-false (is_inline c) (after_backspaces rest) [] outer

  first_shown_at : (pen : Pen) (rest : List ℕ) → first_shown pen c rest ≡ first_shown pen c []
  first_shown_at pen rest = ap (λ (xs : List ℕ). if is_dropped c then [] else shown_with xs ∷ []) (strikes_none rest ∙ sym (strikes_none []))
    where
      shown_with : List ℕ → ℕ × Style
      shown_with xs = ((place_of pen c xs).shown, record { look = struck_look pen.style.look (place_of pen c xs); link = pen.style.link })

  more_len_at : (rest : List ℕ) → more_len c rest ≡ 0
  more_len_at rest =
      ap (λ (found : Option ℕ). unwrap_or found (1 + 2 * length (strikes c rest)) - 1) (no_sequence c rest kept)
      ∙ ap (λ (xs : List ℕ). 1 + 2 * length xs - 1) (strikes_none rest)

  after_first_part_at : (pen : Pen) (rest : List ℕ) → after_first_part pen c rest ≡ after_first_part pen c []
  after_first_part_at pen rest =
      ap (after_part pen c rest) (no_sequence c rest kept)
      ∙ ap (λ (xs : List ℕ). if is_dropped c then pen else after xs) (strikes_none rest ∙ sym (strikes_none []))
      ∙ ap (after_part pen c []) (sym (no_sequence c [] kept))
    where
      after : List ℕ → Pen
      after xs = record pen { after_underline = is_underlined_only (struck_look pen.style.look (place_of pen c xs)) }

  -- a text shows what the piece up to `c` shows, and then what the rest shows
  pieces_text : (skip : ℕ) (pen : Pen) (text rest : List ℕ) → skip ≤ length text
      → styled_after skip pen (text ++ c ∷ rest) ≡ styled_after skip pen (text ++ c ∷ []) ++ styled_after 0 (pen_after skip pen (text ++ c ∷ [])) rest
  pieces_text zero pen [] rest le =
      let next = after_first_part pen c [] in
      ap (λ shown. shown ++ styled_after (more_len c rest) (after_first_part pen c rest) rest) (first_shown_at pen rest)
      ∙ ap (λ (n : ℕ). first_shown pen c [] ++ styled_after n (after_first_part pen c rest) rest) (more_len_at rest)
      ∙ ap (λ (p : Pen). first_shown pen c [] ++ styled_after 0 p rest) (after_first_part_at pen rest)
      ∙ ap (λ shown. shown ++ styled_after 0 next rest) (sym (append-nil (first_shown pen c [])))
  pieces_text (suc skip) pen [] rest le = absurd (omega arith)
  pieces_text (suc skip) pen (x ∷ text) rest le = pieces_text skip pen text rest (omega arith)
  pieces_text zero pen (x ∷ text) rest le =
      let whole = text ++ c ∷ rest in
      let piece = text ++ c ∷ [] in
      let first = first_shown pen x piece in
      let n = more_len x piece in
      let next = after_first_part pen x piece in
      ap (λ shown. shown ++ styled_after (more_len x whole) (after_first_part pen x whole) whole) (first_shown_same pen rest [] x text)
      ∙ ap (λ (k : ℕ). first ++ styled_after k (after_first_part pen x whole) whole) (more_len_same rest [] x text)
      ∙ ap (λ (p : Pen). first ++ styled_after n p whole) (after_first_part_same pen rest [] x text)
      ∙ ap (λ shown. first ++ shown) (pieces_text n next text rest (more_len_within [] x text))
      ∙ sym (append_assoc first (styled_after n next piece) (styled_after 0 (pen_after n next piece) rest))

  pieces_pen : (skip : ℕ) (pen : Pen) (text rest : List ℕ) → skip ≤ length text
      → pen_after skip pen (text ++ c ∷ rest) ≡ pen_after 0 (pen_after skip pen (text ++ c ∷ [])) rest
  pieces_pen zero pen [] rest le =
      ap (λ (n : ℕ). pen_after n (after_first_part pen c rest) rest) (more_len_at rest) ∙ ap (λ (p : Pen). pen_after 0 p rest) (after_first_part_at pen rest)
  pieces_pen (suc skip) pen [] rest le = absurd (omega arith)
  pieces_pen (suc skip) pen (x ∷ text) rest le = pieces_pen skip pen text rest (omega arith)
  pieces_pen zero pen (x ∷ text) rest le =
      let whole = text ++ c ∷ rest in
      let piece = text ++ c ∷ [] in
      ap (λ (k : ℕ). pen_after k (after_first_part pen x whole) whole) (more_len_same rest [] x text)
      ∙ ap (λ (p : Pen). pen_after (more_len x piece) p whole) (after_first_part_same pen rest [] x text)
      ∙ pieces_pen (more_len x piece) (after_first_part pen x piece) text rest (more_len_within [] x text)

characters_of-append : (xs ys : List (ℕ × Style)) → characters_of (xs ++ ys) ≡ characters_of xs ++ characters_of ys
characters_of-append [] ys = refl
characters_of-append (x ∷ xs) ys = ap (λ rest. x.0 ∷ rest) (characters_of-append xs ys)

pub shows_pieces : ShowsPieces
unfolding styled pen_at_end shown_text
shows_pieces = record {
  text = λ pen piece rest c e. let parts = ends c e in pieces_text c parts.0 parts.1 0 pen piece rest (omega arith);
  pen = λ pen piece rest c e. let parts = ends c e in pieces_pen c parts.0 parts.1 0 pen piece rest (omega arith);
  characters = λ piece rest c e. let parts = ends c e in
      ap characters_of (pieces_text c parts.0 parts.1 0 START piece rest (omega arith))
      ∙ characters_of-append (styled_after 0 START (piece ++ c ∷ [])) _
      ∙ ap (λ xs. characters_of (styled_after 0 START (piece ++ c ∷ [])) ++ xs) (same_characters 0 (pen_after 0 START (piece ++ c ∷ [])) START rest);
}
  where
    ends : (c : ℕ) → ends_piece c ≡ true → (is_dropped c ≡ false) × (is_inline c ≡ false)
    ends c e = or_parts (is_dropped c) (is_inline c) (not-true _ e)
