-- How many characters of a line are shown, given the margin up to which spaces of its tail are shown.
use Rattle.std.proofs.Common.{◌≡◌, ◌∙◌, ℕ, suc, ◌+◌, ◌-◌, ◌<◌, ◌≤◌, Bool, true, false, not, ◌&&◌, nat_le, List, length, take, take-take, Option, Some, None, unwrap_or, sym, ap, subst, inl, inr, arith}
use Rattle.std.proofs.lemmas.Bool.{and_from, and_parts, cases_Bool, cases_eq, cases_lt, cond-true, cond-false, le-leb, not-false}
use Rattle.std.proofs.lemmas.List.{length-take-le}
use Rattle.bidi.proofs.LeastLemmas.{least_before, least_found, least_none, least_passes, least_within}
use Rattle.lines.specs.CharInfos.{advance, is_space}
use Rattle.lines.specs.Filling.{before_tail, columns, place_at, text_len}
use Rattle.lines.specs.ShownParts.{is_space_within, margin_of, shown, shown_len}
use Rattle.lines.specs.declared.char_info.CharInfo.{CharInfo}
use Rattle.lines.specs.declared.options.Options.{Options}
use Rattle.lines.proofs.FillingLemmas.{columns_after}
use Rattle.lines.proofs.WidthLemmas.{columns_take}

-- whether a character is not a space within the margin
abbrev stops : ℕ → List CharInfo → ℕ → Bool
stops margin line k = not (is_space_within margin line k)

pub shown_len-within : (margin : Option ℕ) (line : List CharInfo) → shown_len margin line ≤ length line
shown_len-within None line = omega arith
shown_len-within (Some margin) line = least_within (stops margin line) (text_len line) (length line - text_len line) (length line) (omega arith)

-- spaces within the margin are shown, up to the first character that is not such a space
pub spaces_to : (margin : ℕ) (line : List CharInfo) (k : ℕ) → text_len line ≤ k → k < length line
    → ((j : ℕ) → text_len line ≤ j → j < k → is_space_within margin line j ≡ true) → is_space_within margin line k ≡ false → k ≡ shown_len (Some margin) line
spaces_to margin line k from below spaces ends =
    sym (ap (λ o. unwrap_or o (length line))
    (least_found (stops margin line) (text_len line) (length line - text_len line) k from (omega (arith, below)) (ap not ends) (λ j above to. ap not (spaces j above to))))

pub all_spaces : (margin : ℕ) (line : List CharInfo)
    → ((j : ℕ) → text_len line ≤ j → j < length line → is_space_within margin line j ≡ true) → length line ≡ shown_len (Some margin) line
all_spaces margin line spaces =
    sym (ap (λ o. unwrap_or o (length line))
    (least_none (stops margin line) (text_len line) (length line - text_len line) (λ j above to. ap not (spaces j above (omega (arith, to))))))

-- whether the line is shown up to character k, and `columns_shown` are the columns up to there
pub record AreSpacesTo (margin : ℕ) (line : List CharInfo) (k columns_shown : ℕ) : Type 0 where
  pub from : text_len line ≤ k
  pub within : k ≤ length line
  pub spaces : (j : ℕ) → text_len line ≤ j → j < k → is_space_within margin line j ≡ true
  pub columns_are : columns_shown ≡ columns (take k line)

pub spaces_next : (margin : ℕ) (line : List CharInfo) (k columns_shown : ℕ) → AreSpacesTo margin line k columns_shown → k < length line
    → (is_space (place_at line k).trailing && nat_le (advance columns_shown (place_at line k)) margin) ≡ true
    → AreSpacesTo margin line (k + 1) (advance columns_shown (place_at line k))
spaces_next margin line k columns_shown so_far below here =
    let next : k + 1 ≡ suc k = omega arith in
    let sum : advance columns_shown (place_at line k) ≡ columns (take (suc k) line) =
    ap (λ n. advance n (place_at line k)) so_far.columns_are ∙ sym (columns_after line k below) in
    record {
      from = omega (arith, so_far.from);
      within = omega (arith, below);
      spaces = λ j above to.
          elim (cases_eq j k) [
            | inl e ↦ subst (λ m. is_space_within margin line m ≡ true) (sym e) (ap (λ n. is_space (place_at line k).trailing && nat_le n margin) (sym sum) ∙ here)
            | inr ne ↦ so_far.spaces j above (omega (arith, to, ne))
          ];
      columns_are = sum ∙ ap (λ m. columns (take m line)) (sym next);
    }

-- the characters before the tail are shown, so a shown part is no narrower than they are
text_shown : (margin : Option ℕ) (line : List CharInfo) → text_len line ≤ shown_len margin line
text_shown None line = omega arith
text_shown (Some margin) line =
    elim (cases_lt (shown_len (Some margin) line) (length line)) [
      | inl below ↦ (least_passes (stops margin line) (text_len line) (length line - text_len line) (length line) (omega arith) below).0
      | inr past ↦ omega (arith, past)
    ]

columns_rise : (line : List CharInfo) (j k : ℕ) → j ≤ k → columns (take j line) ≤ columns (take k line)
columns_rise line j k below = subst (λ ps. columns ps ≤ columns (take k line)) (take-take j k line below) (columns_take j (take k line))

pub text_narrow : (margin : Option ℕ) (line : List CharInfo) → columns (before_tail line) ≤ columns (shown margin line)
text_narrow margin line = columns_rise line (text_len line) (shown_len margin line) (text_shown margin line)

-- if the shown part fits another margin, and the character after it is not a space within that margin, the
-- shown part is the same with both margins
same_spaces : (old margin : ℕ) (line : List CharInfo) → columns (shown (Some old) line) ≤ margin
    → (shown_len (Some old) line < length line → is_space_within margin line (shown_len (Some old) line) ≡ false)
    → shown_len (Some margin) line ≡ shown_len (Some old) line
same_spaces old margin line fit ends =
    let n : ℕ = shown_len (Some old) line in
    let before : (j : ℕ) → text_len line ≤ j → j < n → is_space_within margin line j ≡ true =
    λ j above to.
    let was = not-false (is_space_within old line j)
    (least_before (stops old line) (text_len line) (length line - text_len line) (length line) j (omega arith) above to) in
    and_from (is_space (place_at line j).trailing) (nat_le (columns (take (suc j) line)) margin)
    (and_parts (is_space (place_at line j).trailing) (nat_le (columns (take (suc j) line)) old) was).0
    (le-leb (columns (take (suc j) line)) margin (omega (arith, columns_rise line (suc j) n (omega (arith, to)), fit))) in
    elim (cases_lt n (length line)) [
      | inl below ↦ sym (spaces_to margin line n (text_shown (Some old) line) below before (ends below))
      | inr past ↦
          let all : n ≡ length line = omega (arith, past, shown_len-within (Some old) line) in
          sym (all ∙ all_spaces margin line (λ j above to. before j above (omega (arith, to, all))))
    ]

pub same_part : (options : Options) (old width : ℕ) (line : List CharInfo) → columns (shown (margin_of options old) line) ≤ width
    → (options.show_spaces ≡ true → shown_len (margin_of options old) line < length line
    → is_space_within width line (shown_len (margin_of options old) line) ≡ false)
    → shown_len (margin_of options width) line ≡ shown_len (margin_of options old) line
same_part options old width line fit ends =
    elim (cases_Bool options.show_spaces) [
      | inl on ↦
          let was : margin_of options old ≡ Some old = cond-true options.show_spaces (Some old) None on in
          let is : margin_of options width ≡ Some width = cond-true options.show_spaces (Some width) None on in
          ap (λ m. shown_len m line) is
          ∙ same_spaces old width line (subst (λ m. columns (shown m line) ≤ width) was fit)
          (subst (λ m. shown_len m line < length line → is_space_within width line (shown_len m line) ≡ false) was (ends on))
          ∙ ap (λ m. shown_len m line) (sym was)
      | inr off ↦ ap (λ m. shown_len m line) (cond-false options.show_spaces (Some width) None off ∙ sym (cond-false options.show_spaces (Some old) None off))
    ]

-- the spaces end at the end of the line, or before a character that is not a space within the margin
pub spaces_len : (margin : ℕ) (line : List CharInfo) (k columns_shown : ℕ) → AreSpacesTo margin line k columns_shown
    → (k < length line → (is_space (place_at line k).trailing && nat_le (advance columns_shown (place_at line k)) margin) ≡ false) → k ≡ shown_len (Some margin) line
spaces_len margin line k columns_shown so_far ends =
    elim (cases_lt k (length line)) [
      | inl below ↦
          let sum : columns (take (suc k) line) ≡ advance columns_shown (place_at line k) =
          columns_after line k below ∙ ap (λ n. advance n (place_at line k)) (sym so_far.columns_are) in
          spaces_to margin line k so_far.from below so_far.spaces (ap (λ n. is_space (place_at line k).trailing && nat_le n margin) sum ∙ ends below)
      | inr past ↦
          let all : k ≡ length line = omega (arith, past, so_far.within) in
          all ∙ all_spaces margin line (λ j above to. so_far.spaces j above (omega (arith, to, all)))
    ]

pub spaces_part : (margin : ℕ) (line : List CharInfo) (k columns_shown : ℕ) → AreSpacesTo margin line k columns_shown
    → (k < length line → (is_space (place_at line k).trailing && nat_le (advance columns_shown (place_at line k)) margin) ≡ false)
    → (k ≡ length (shown (Some margin) line)) × (columns_shown ≡ columns (shown (Some margin) line))
spaces_part margin line k columns_shown so_far ends =
    let e = spaces_len margin line k columns_shown so_far ends in (
      sym (length-take-le k line so_far.within) ∙ ap (λ n. length (take n line)) e,
      so_far.columns_are ∙ ap (λ n. columns (take n line)) e,
    )
