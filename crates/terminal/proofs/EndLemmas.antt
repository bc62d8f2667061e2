-- Where the blocks of a text end.
use Rattle.std.proofs.Common.{◌≡◌, ℕ, zero, suc, ◌+◌, ◌-◌, ◌*◌, ◌<◌, ◌==◌, Bool, true, false, ◌&&◌, not, List, [], ◌∷◌, length, take, drop, get_or, Option, Some, None, refl, sym, ap, ap₂, inl, inr, ◌∙◌, arith}
use Rattle.std.specs.Prelude.{unwrap_or}
use Rattle.std.specs.List.{onto_first}
use Rattle.std.proofs.lemmas.Bool.{cases_Bool, cond-true, cond-false, false≢true}
use Rattle.std.proofs.lemmas.List.{drop_all, get_or-take, get_or_default, take_all}
use Rattle.ucd.specs.Classes.{is_separator}
use Rattle.bidi.specs.Cuts.{cut}
use Rattle.ucd.specs.declared.bidi_class.BidiClass.{BidiClass}
use Rattle.sequences.specs.Characters.{is_dropped, is_inline}
use Rattle.sequences.specs.Overstrikes.{after_backspaces, strikes}
use Rattle.sequences.specs.Sequences.{sequence_len}
use Rattle.sequences.specs.Styled.{more_len}
use Rattle.sequences.proofs.PlainLemmas.{inline_remains, no_sequence}
use Rattle.terminal.specs.Texts.{blocks, ends_block, next_after, next_character}

-- ---- the next character

next_after-skip : (skip : ℕ) (text : List ℕ) → next_after skip text ≡ next_after 0 (drop skip text)
next_after-skip zero text = refl
next_after-skip (suc skip) [] = refl
next_after-skip (suc skip) (c ∷ text) = next_after-skip skip text

-- skipping a dropped first part does not change the next character
skipped : (c : ℕ) (text : List ℕ) (n : ℕ) → is_dropped c ≡ true → suc (more_len c text) ≡ n → next_character (c ∷ text) ≡ next_character (drop n (c ∷ text))
skipped c text n e len =
    cond-true (is_dropped c) (next_after (more_len c text) text) c e ∙ next_after-skip (more_len c text) text ∙ ap (λ k. next_character (drop k (c ∷ text))) len

pub sequence_skipped : (text : List ℕ) (n : ℕ) → 0 < length text → Some n ≡ sequence_len text → 0 < n → next_character text ≡ next_character (drop n text)
sequence_skipped [] n some e pos = absurd (omega (arith, some))
sequence_skipped (c ∷ text) n some e pos =
    let len : suc (more_len c text) ≡ n = ap (λ (o : Option ℕ). suc (unwrap_or o (1 + 2 * length (strikes c text)) - 1)) (sym e) ∙ whole n pos in
    elim (cases_Bool (is_dropped c)) [
      | inl y ↦ skipped c text n y len
      | inr kept ↦ absurd (not_both n (e ∙ no_sequence c text kept))
    ]
  where
    whole : (n : ℕ) → 0 < n → suc (n - 1) ≡ n
    whole n pos = omega (arith, pos)

    not_both : (n : ℕ) → Some n ≡ None → ⊥
    not_both n h = cc

pub control_skipped : (text : List ℕ) → 0 < length text → None ≡ sequence_len text → is_dropped (get_or text 0 0) ≡ true → next_character text ≡ next_character (drop 1 text)
control_skipped [] some e dropped = absurd (omega (arith, some))
control_skipped (c ∷ text) some e dropped =
    let no : is_inline c ≡ false = elim (cases_Bool (is_inline c)) [
      | inl y ↦ absurd (false≢true (sym (inline_remains c y) ∙ dropped))
      | inr n ↦ n
    ] in
    let none : strikes c text ≡ [] = cond-false (is_inline c) (after_backspaces text) [] no in
    let len : suc (more_len c text) ≡ 1 =
    ap (λ (o : Option ℕ). suc (unwrap_or o (1 + 2 * length (strikes c text)) - 1)) (sym e) ∙ ap (λ (xs : List ℕ). suc (1 + 2 * length xs - 1)) none in
    skipped c text 1 dropped len

pub none_skipped : (text : List ℕ) → 0 < length text → is_dropped (get_or text 0 0) ≡ false → next_character text ≡ get_or text 0 0
none_skipped [] some e = absurd (omega (arith, some))
none_skipped (c ∷ text) some e = cond-false (is_dropped c) (next_after (more_len c text) text) c e

-- ---- ends of blocks

-- after a character other than CR, a paragraph boundary does not depend on the character that follows
pub cut_same : (class_of : ℕ → BidiClass) (c a b : ℕ) → (c == 13) ≡ false → cut class_of c a ≡ cut class_of c b
cut_same class_of c a b other =
    ap (λ t. is_separator (class_of c) && not (t && (a == 10 && is_separator (class_of a)))) other
    ∙ sym (ap (λ t. is_separator (class_of c) && not (t && (b == 10 && is_separator (class_of b)))) other)

module _ (is_cut : ℕ → ℕ → Bool) where
  -- the first block ends at the first character that ends a block
  first_block : (text : List ℕ) (k : ℕ) → k < length text → ((j : ℕ) → j < k → ends_block is_cut (get_or text j 0) (drop (suc j) text) ≡ false)
      → ends_block is_cut (get_or text k 0) (drop (suc k) text) ≡ true → blocks is_cut text ≡ take (suc k) text ∷ blocks is_cut (drop (suc k) text)
  first_block [] k within none here = absurd (omega (arith, within))
  first_block (c ∷ text) zero within none here =
      cond-true (ends_block is_cut c text) ((c ∷ []) ∷ blocks is_cut text) (onto_first c (blocks is_cut text)) here
  first_block (c ∷ text) (suc k) within none here =
      cond-false (ends_block is_cut c text) ((c ∷ []) ∷ blocks is_cut text) (onto_first c (blocks is_cut text)) (none 0 (omega arith))
      ∙ ap (onto_first c) (first_block text k (omega (arith, within)) (λ j below. none (suc j) (omega (arith, below))) here)

  only_block : (text : List ℕ) → 0 < length text → ((j : ℕ) → j < length text → ends_block is_cut (get_or text j 0) (drop (suc j) text) ≡ false)
      → blocks is_cut text ≡ text ∷ []
  only_block [] some none = absurd (omega (arith, some))
  only_block (c ∷ []) some none = cond-false (ends_block is_cut c []) ((c ∷ []) ∷ []) ((c ∷ []) ∷ []) (none 0 (omega arith))
  only_block (c ∷ d ∷ text) some none =
      cond-false (ends_block is_cut c (d ∷ text)) ((c ∷ []) ∷ blocks is_cut (d ∷ text)) (onto_first c (blocks is_cut (d ∷ text))) (none 0 (omega arith))
      ∙ ap (onto_first c) (only_block (d ∷ text) (omega arith) (λ j below. none (suc j) (omega (arith, below))))

  next_is : (j : ℕ) → suc j ≡ j + 1
  next_is j = omega arith

  pub block_ends : (text : List ℕ) (k : ℕ) → k < length text → ((j : ℕ) → j < k → ends_block is_cut (get_or text j 0) (drop (j + 1) text) ≡ false)
      → ends_block is_cut (get_or text k 0) (drop (k + 1) text) ≡ true → blocks is_cut text ≡ take (k + 1) text ∷ blocks is_cut (drop (k + 1) text)
  block_ends text k within none here =
      first_block text k within (λ j below. ap (λ n. ends_block is_cut (get_or text j 0) (drop n text)) (next_is j) ∙ none j below)
      (ap (λ n. ends_block is_cut (get_or text k 0) (drop n text)) (next_is k) ∙ here) ∙ ap (λ n. take n text ∷ blocks is_cut (drop n text)) (next_is k)

  -- if no block ends in a text, the text is one block
  pub block_last : (text : List ℕ) → 0 < length text → ((j : ℕ) → j < length text → ends_block is_cut (get_or text j 0) (drop (j + 1) text) ≡ false)
      → blocks is_cut text ≡ take (length text) text ∷ blocks is_cut (drop (length text) text)
  block_last text some none =
      only_block text some (λ j below. ap (λ n. ends_block is_cut (get_or text j 0) (drop n text)) (next_is j) ∙ none j below)
      ∙ ap₂ (λ (x : List ℕ) (xs : List ℕ). x ∷ blocks is_cut xs) (sym (take_all (length text) text (omega arith))) (sym (drop_all (length text) text (omega arith)))

-- the last character of the first k + 1 characters is the text's character at k
pub read_front : (text front : List ℕ) (k x : ℕ) → front ≡ take (k + 1) text → k < length text → x ≡ get_or front k x → x ≡ get_or text k 0
read_front text front k x f within e =
    e ∙ ap (λ xs. get_or xs k x) f ∙ get_or-take (k + 1) text k x (omega arith) ∙ get_or_default text k x 0 within
