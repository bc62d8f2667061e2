-- Ends of blocks that are the same whatever follows a text.
use Rattle.std.proofs.Common.{◌≡◌, ℕ, zero, suc, ◌+◌, ◌-◌, ◌*◌, ◌<◌, ◌≤◌, ◌==◌, Bool, true, false, ◌&&◌, not, List, [], ◌∷◌, ◌++◌, length, drop, get_or, ◌⊎◌, Option, Some, None, refl, sym, subst, ap, ap₂, inl, inr, ◌∙◌, append_assoc, arith}
use Rattle.std.specs.Prelude.{unwrap_or}
use Rattle.std.proofs.lemmas.Bool.{and_left, and_parts, and_right, cases_Bool, cases_lt, cond-true, cond-false, false≢true, eqb-true}
use Rattle.std.proofs.lemmas.List.{drop-append-le, drop_more, get_or-drop, get_or_append_left, length-append, length-drop, take-append-le}
use Rattle.lines.specs.Layouts.{Rules, cut_by}
use Rattle.ucd.specs.Classes.{is_separator}
use Rattle.ucd.specs.Tables.{class_of}
use Rattle.ucd.specs.declared.bidi_class.BidiClass.{BidiClass}
use Rattle.bidi.specs.Cuts.{first_cut}
use Rattle.bidi.proofs.LeastLemmas.{least_before}
use Rattle.sequences.specs.Characters.{is_dropped, is_inline}
use Rattle.sequences.specs.Known.{knows_sequence}
use Rattle.sequences.specs.Overstrikes.{after_backspaces, strikes}
use Rattle.sequences.specs.Sequences.{sequence_len}
use Rattle.sequences.specs.Styled.{more_len}
use Rattle.sequences.proofs.KnownLemmas as known
use Rattle.sequences.proofs.PlainLemmas.{inline_remains, no_sequence}
use Rattle.terminal.specs.Ends.{AreNoEnds, IsFirst, knows_after, knows_next}
use Rattle.terminal.specs.Texts.{blocks, ends_block, is_apart, next_after, next_character}
use Rattle.terminal.proofs.EndLemmas.{block_ends, cut_same, none_skipped}

-- nothing is struck over a control that is dropped
pub no_strikes : (c : ℕ) (text : List ℕ) → is_dropped c ≡ true → strikes c text ≡ []
no_strikes c text dropped =
    let no : is_inline c ≡ false = elim (cases_Bool (is_inline c)) [
      | inl y ↦ absurd (false≢true (sym (inline_remains c y) ∙ dropped))
      | inr n ↦ n
    ] in
    cond-false (is_inline c) (after_backspaces text) [] no

more_len_by : (c : ℕ) (text : List ℕ) → is_dropped c ≡ true → more_len c text ≡ unwrap_or (sequence_len (c ∷ text)) 1 - 1
more_len_by c text dropped = ap (λ (xs : List ℕ). unwrap_or (sequence_len (c ∷ text)) (1 + 2 * length xs) - 1) (no_strikes c text dropped)

more_len_known : (c : ℕ) (text more : List ℕ) → is_dropped c ≡ true → knows_sequence (c ∷ text) ≡ true → more_len c (text ++ more) ≡ more_len c text
more_len_known c text more dropped sure =
    more_len_by c (text ++ more) dropped ∙ ap (λ (o : Option ℕ). unwrap_or o 1 - 1) (known.sequence_known more (c ∷ text) sure) ∙ sym (more_len_by c text dropped)

next_known : (skip : ℕ) (text more : List ℕ) → knows_after skip text ≡ true → next_after skip (text ++ more) ≡ next_after skip text
next_known skip [] more known = absurd (false≢true (by_skip skip ∙ known))
  where
    by_skip : (skip : ℕ) → false ≡ knows_after skip []
    by_skip zero = refl
    by_skip (suc skip) = refl
next_known (suc skip) (c ∷ text) more known = next_known skip text more known
next_known zero (c ∷ text) more known =
    elim (cases_Bool (is_dropped c)) [
      | inl y ↦
          let both = and_parts (knows_sequence (c ∷ text)) (knows_after (more_len c text) text) (sym (cond-true (is_dropped c) _ _ y) ∙ known) in
          cond-true (is_dropped c) _ _ y ∙ ap (λ (n : ℕ). next_after n (text ++ more)) (more_len_known c text more y both.0)
          ∙ next_known (more_len c text) text more both.1 ∙ sym (cond-true (is_dropped c) _ _ y)
      | inr n ↦ cond-false (is_dropped c) _ _ n ∙ sym (cond-false (is_dropped c) _ _ n)
    ]

-- ---- skipping the first part of a text

knows-skip : (skip : ℕ) (text : List ℕ) → knows_after skip text ≡ knows_after 0 (drop skip text)
knows-skip zero text = refl
knows-skip (suc skip) [] = refl
knows-skip (suc skip) (c ∷ text) = knows-skip skip text

part_known : (c : ℕ) (text : List ℕ) (n : ℕ) → is_dropped c ≡ true → suc (more_len c text) ≡ n
    → knows_next (c ∷ text) ≡ (knows_sequence (c ∷ text) && knows_next (drop n (c ∷ text)))
part_known c text n dropped len =
    cond-true (is_dropped c) _ _ dropped ∙ ap (λ b. knows_sequence (c ∷ text) && b) (knows-skip (more_len c text) text)
    ∙ ap (λ k. knows_sequence (c ∷ text) && knows_next (drop k (c ∷ text))) len

pub sequence_known : (text : List ℕ) (n : ℕ) → 0 < length text → Some n ≡ sequence_len text → 0 < n
    → knows_next text ≡ (knows_sequence text && knows_next (drop n text))
sequence_known [] n some e pos = absurd (omega (arith, some))
sequence_known (c ∷ text) n some e pos =
    elim (cases_Bool (is_dropped c)) [
      | inl y ↦
          let len : suc (more_len c text) ≡ n = ap suc (more_len_by c text y) ∙ ap (λ (o : Option ℕ). suc (unwrap_or o 1 - 1)) (sym e) ∙ whole n pos in
          part_known c text n y len
      | inr kept ↦ absurd (not_both n (e ∙ no_sequence c text kept))
    ]
  where
    whole : (n : ℕ) → 0 < n → suc (n - 1) ≡ n
    whole n pos = omega (arith, pos)

    not_both : (n : ℕ) → Some n ≡ None → ⊥
    not_both n h = cc

pub control_known : (text : List ℕ) → 0 < length text → None ≡ sequence_len text → is_dropped (get_or text 0 0) ≡ true
    → knows_next text ≡ (knows_sequence text && knows_next (drop 1 text))
control_known [] some e dropped = absurd (omega (arith, some))
control_known (c ∷ text) some e dropped =
    part_known c text 1 dropped (ap suc (more_len_by c text dropped) ∙ ap (λ (o : Option ℕ). suc (unwrap_or o 1 - 1)) (sym e))

pub none_known : (text : List ℕ) → 0 < length text → is_dropped (get_or text 0 0) ≡ false → knows_next text ≡ true
none_known [] some e = absurd (omega (arith, some))
none_known (c ∷ text) some e = cond-false (is_dropped c) _ _ e

-- whether a block ends after a character does not depend on what follows the text, unless the character is a
-- CR whose next character is not known
pub end_known : (rules : Rules) (c : ℕ) (text more : List ℕ) → (c ≡ 13 → knows_next text ≡ true)
    → ends_block (cut_by rules) c (text ++ more) ≡ ends_block (cut_by rules) c text
end_known rules c text more known =
    elim (cases_Bool (c == 13)) [
      | inl y ↦ ap (λ (next : ℕ). is_apart c && cut_by rules c next) (next_known 0 text more (known (eqb-true c 13 y)))
      | inr n ↦ ap (λ (b : Bool). is_apart c && b) (cut_same (class_of rules.tables) c (next_character (text ++ more)) (next_character text) n)
    ]

module _ (rules : Rules) where
  -- `AreNoEnds` still holds after one more character that ends no block
  pub no_end_more : (text : List ℕ) (k : ℕ) → AreNoEnds (cut_by rules) k text → (get_or text k 0 ≡ 13 → knows_next (drop (k + 1) text) ≡ true)
      → ends_block (cut_by rules) (get_or text k 0) (drop (k + 1) text) ≡ false → AreNoEnds (cut_by rules) (k + 1) text
  no_end_more text k none known here j below more =
      elim (cases_lt j k) [
        | inl less ↦ none j less more
        | inr last ↦
            let same : k ≡ j = omega (arith, last, below) in
            subst (λ i. ends_block (cut_by rules) (get_or text i 0) (drop (i + 1) text ++ more) ≡ false) same
            (end_known rules (get_or text k 0) (drop (k + 1) text) more known ∙ here)
      ]

  pub first_is : (text : List ℕ) (k : ℕ) → k < length text → AreNoEnds (cut_by rules) k text → (get_or text k 0 ≡ 13 → knows_next (drop (k + 1) text) ≡ true)
      → ends_block (cut_by rules) (get_or text k 0) (drop (k + 1) text) ≡ true → IsFirst (cut_by rules) (k + 1) text
  first_is text k within none known here = record {
    some = omega arith;
    within = omega (arith, within);
    none = let same : k ≡ k + 1 - 1 = omega arith in subst (λ n. AreNoEnds (cut_by rules) n text) same none;
    block = λ more.
        let all = text ++ more in
        let at : (j : ℕ) → j < length text → ends_block (cut_by rules) (get_or all j 0) (drop (j + 1) all) ≡ ends_block (cut_by rules) (get_or text j 0) (drop (j + 1) text ++ more) =
        λ j less. ap₂ (ends_block (cut_by rules)) (get_or_append_left text more 0 j less) (drop-append-le (j + 1) text more (omega (arith, less))) in
        block_ends (cut_by rules) all k (omega (arith, within, length-append text more))
        (λ j below. at j (omega (arith, below, within)) ∙ none j below more)
        (at k within ∙ end_known rules (get_or text k 0) (drop (k + 1) text) more known ∙ here)
        ∙ ap₂ (λ (x rest : List ℕ). x ∷ blocks (cut_by rules) rest) (take-append-le (k + 1) text more (omega (arith, within)))
        (drop-append-le (k + 1) text more (omega (arith, within)));
  }

-- a character that ends no block still ends none when more text follows
pub no_ends_append : (is_cut : ℕ → ℕ → Bool) (n : ℕ) (text more : List ℕ) → n ≤ length text → AreNoEnds is_cut n text → AreNoEnds is_cut n (text ++ more)
no_ends_append is_cut n text more within none k below rest =
    ap₂ (ends_block is_cut) (get_or_append_left text more 0 k (omega (arith, below, within)))
    (ap (λ t. t ++ rest) (drop-append-le (k + 1) text more (omega (arith, below, within))) ∙ append_assoc (drop (k + 1) text) more rest)
    ∙ none k below (more ++ rest)

-- ---- paragraph boundaries between adjacent characters

module _ (rules : Rules) where
  -- if there is no boundary between two characters, no block ends between them, whatever follows
  uncut_no_end : (c d : ℕ) (rest : List ℕ) → cut_by rules c d ≡ false → ends_block (cut_by rules) c (d ∷ rest) ≡ false
  uncut_no_end c d rest uncut = and_right (is_apart c) (cut_by rules c (next_character (d ∷ rest))) (by_drop (cases_Bool (is_dropped d)))
    where
      class : ℕ → BidiClass
      class = class_of rules.tables

      no_separator : is_separator (class c) ≡ false → cut_by rules c (next_character (d ∷ rest)) ≡ false
      no_separator other = and_left (is_separator (class c)) _ other

      -- a control that is dropped is not LF
      no_lf : is_dropped d ≡ true → (d == 10) ≡ false
      no_lf dropped = elim (cases_Bool (d == 10)) [
        | inl y ↦ absurd (false≢true (ap is_dropped (sym (eqb-true d 10 y)) ∙ dropped))
        | inr n ↦ n
      ]

      last : (b : Bool) → (b && not false) ≡ false → b ≡ false
      last true e = e
      last false e = refl

      by_drop : (is_dropped d ≡ true) ⊎ (is_dropped d ≡ false) → cut_by rules c (next_character (d ∷ rest)) ≡ false
      by_drop (inr kept) = ap (cut_by rules c) (none_skipped (d ∷ rest) (omega arith) kept) ∙ uncut
      by_drop (inl dropped) =
          let same : cut_by rules c d ≡ (is_separator (class c) && not (c == 13 && false)) =
          ap (λ (b : Bool). is_separator (class c) && not (c == 13 && (b && is_separator (class d)))) (no_lf dropped) in
          let never : (c == 13 && false) ≡ false = and_right (c == 13) false refl in
          no_separator (last (is_separator (class c)) (ap (λ (b : Bool). is_separator (class c) && not b) (sym never) ∙ sym same ∙ uncut))

  -- there is no boundary between two adjacent characters before the first boundary
  pub uncut_before : (rest : List ℕ) (found : Option ℕ) (k : ℕ) → found ≡ first_cut (cut_by rules) rest → 0 < length rest → k + 1 < unwrap_or found (length rest)
      → cut_by rules (get_or rest k 0) (get_or rest (k + 1) 0) ≡ false
  uncut_before rest found k f some below =
      let test : ℕ → Bool = λ m. cut_by rules (get_or rest (m - 1) 0) (get_or rest m 0) in
      let inside : k + 1 < unwrap_or (first_cut (cut_by rules) rest) (length rest) = subst (λ (o : Option ℕ). k + 1 < unwrap_or o (length rest)) f below in
      let same : k + 1 - 1 ≡ k = omega arith in
      subst (λ (i : ℕ). cut_by rules (get_or rest i 0) (get_or rest (k + 1) 0) ≡ false) same
      (least_before test 1 (length rest - 1) (length rest) (k + 1) (omega (arith, some)) (omega arith) inside)

  -- `AreNoEnds` still holds after more characters without a boundary between them
  pub no_ends_uncut : (text rest : List ℕ) (from n : ℕ) → rest ≡ drop from text → n ≤ length rest - 1 → AreNoEnds (cut_by rules) from text
      → ((k : ℕ) → k < n → cut_by rules (get_or rest k 0) (get_or rest (k + 1) 0) ≡ false) → AreNoEnds (cut_by rules) (from + n) text
  no_ends_uncut text rest from n r within none uncut j below more =
      elim (cases_lt j from) [
        | inl less ↦ none j less more
        | inr over ↦
            let size : length rest ≡ length text - from = ap length r ∙ length-drop from text in
            let first : get_or rest (j - from) 0 ≡ get_or text j 0 = read (j - from) j (omega (arith, over)) in
            let second : get_or rest (j - from + 1) 0 ≡ get_or text (j + 1) 0 = read (j - from + 1) (j + 1) (omega (arith, over)) in
            let here : cut_by rules (get_or text j 0) (get_or text (j + 1) 0) ≡ false =
            ap₂ (cut_by rules) (sym first) (sym second) ∙ uncut (j - from) (omega (arith, over, below)) in
            ap (λ (t : List ℕ). ends_block (cut_by rules) (get_or text j 0) (t ++ more)) (drop_more text (j + 1) 0 (omega (arith, size, within, over, below)))
            ∙ uncut_no_end (get_or text j 0) (get_or text (j + 1) 0) (drop (j + 1 + 1) text ++ more) here
      ]
    where
      read : (k i : ℕ) → from + k ≡ i → get_or rest k 0 ≡ get_or text i 0
      read k i e = ap (λ (xs : List ℕ). get_or xs k 0) r ∙ get_or-drop from text k 0 ∙ ap (λ (m : ℕ). get_or text m 0) e
