-- What the blocks of a text show, one after the other.
use Rattle.std.proofs.Common.{◌≡◌, ◌⊎◌, ℕ, zero, suc, ◌+◌, ◌-◌, ◌*◌, ◌<◌, ◌≤◌, ◌==◌, Bool, true, false, ◌&&◌, ◌||◌, not, List, [], ◌∷◌, ◌++◌, length, take, drop, Option, Some, None, fold, refl, sym, subst, ap, ap₂, inl, inr, ◌∙◌, append_assoc, arith}
use Rattle.std.specs.Prelude.{MatchOption, unwrap_or, ⊤}
use Rattle.std.specs.List.{concat, flat_map, onto_first}
use Rattle.std.proofs.lemmas.Bool.{and_parts, and_right, cases_Bool, cond-true, cond-false, cond_both, not-true, or_parts}
use Rattle.std.proofs.lemmas.List.{append-nil, length-append, length-drop, length-map, nil_from_length, take-append-drop}
use Rattle.bidi.specs.Cuts.{paragraphs}
use Rattle.bidi.specs.Pieces.{ParagraphsArePieces}
use Rattle.bidi.proofs.FrontLemmas.{first_paragraph}
use Rattle.lines.specs.Layouts.{Rules, cut_by}
use Rattle.ucd.specs.Classes.{is_separator}
use Rattle.ucd.specs.Tables.{class_of}
use Rattle.sequences.specs.Characters.{ends_piece, is_dropped, is_inline}
use Rattle.sequences.specs.Laws.{characters_of}
use Rattle.sequences.specs.Overstrikes.{after_backspaces, strike, strikes, struck}
use Rattle.sequences.specs.Sequences.{sequence_len}
use Rattle.sequences.specs.Styled.{Pen, START, Style, after_first_part, first_shown, more_len, next_paragraph, pen_at_end, shown_text, struck_style, styled, styled_after}
use Rattle.sequences.proofs.LawLemmas.{shows_the_same}
use Rattle.sequences.proofs.PieceLemmas.{sequence_len_within, shows_pieces}
use Rattle.sequences.proofs.PlainLemmas.{no_sequence}
use Rattle.sequences.proofs.ShownLemmas.{AreAlike, first_alike}
use Rattle.terminal.specs.Newlines.{EndsIn}
use Rattle.terminal.specs.Texts.{blocks, ends_block, is_apart, next_after, next_character, regrouped, shown_blocks}
use Rattle.terminal.specs.Whole.{ShowsWhole, joined}

pub characters_of-append : (xs ys : List (ℕ × Style)) → characters_of (xs ++ ys) ≡ characters_of xs ++ characters_of ys
characters_of-append [] ys = refl
characters_of-append (x ∷ xs) ys = ap (λ rest. x.0 ∷ rest) (characters_of-append xs ys)

pub onto_concat : (c : ℕ) (parts : List (List ℕ)) → concat (onto_first c parts) ≡ c ∷ concat parts
onto_concat c [] = refl
onto_concat c (p ∷ parts) = refl

apart_ends : (c : ℕ) → is_apart c ≡ true → ends_piece c ≡ true
apart_ends c e = by_tests (is_inline c) (is_dropped c) e
  where
    by_tests : (a b : Bool) → not (a || b) ≡ true → not (b || a) ≡ true
    by_tests true b e = absurd cc
    by_tests false true e = absurd cc
    by_tests false false e = refl

module _ (is_cut : ℕ → ℕ → Bool) where
  blocks_whole : (text : List ℕ) → concat (blocks is_cut text) ≡ text
  blocks_whole [] = refl
  blocks_whole (c ∷ text) =
      elim (cases_Bool (ends_block is_cut c text)) [
        | inl y ↦ ap concat (cond-true (ends_block is_cut c text) _ _ y) ∙ ap (λ t. c ∷ t) (blocks_whole text)
        | inr n ↦ ap concat (cond-false (ends_block is_cut c text) _ _ n) ∙ onto_concat c (blocks is_cut text) ∙ ap (λ t. c ∷ t) (blocks_whole text)
      ]

  -- a text is one block, or its first block ends at a character that no sequence spans
  pub record Splits (text : List ℕ) : Type 0 where
    pub piece : List ℕ
    pub end : ℕ
    pub rest : List ℕ
    pub whole : text ≡ piece ++ end ∷ rest
    pub ends : ends_block is_cut end rest ≡ true
    pub cut : blocks is_cut text ≡ (piece ++ end ∷ []) ∷ blocks is_cut rest

  first_split : (c : ℕ) (text : List ℕ) → ends_block is_cut c text ≡ true → Splits (c ∷ text)
  first_split c text y = record {
    piece = [];
    end = c;
    rest = text;
    whole = refl;
    ends = y;
    cut = cond-true (ends_block is_cut c text) _ _ y;
  }

  later_split : (c d : ℕ) (text : List ℕ) → ends_block is_cut c (d ∷ text) ≡ false → Splits (d ∷ text) → Splits (c ∷ d ∷ text)
  later_split c d text n s = record {
    piece = c ∷ s.piece;
    end = s.end;
    rest = s.rest;
    whole = ap (λ t. c ∷ t) s.whole;
    ends = s.ends;
    cut = cond-false (ends_block is_cut c (d ∷ text)) _ _ n ∙ ap (onto_first c) s.cut;
  }

  pub split : (c : ℕ) (text : List ℕ) → (blocks is_cut (c ∷ text) ≡ (c ∷ text) ∷ []) ⊎ Splits (c ∷ text)
  split c [] =
      elim (cases_Bool (ends_block is_cut c [])) [
        | inl y ↦ inr (first_split c [] y)
        | inr n ↦ inl (cond-false (ends_block is_cut c []) _ _ n)
      ]
  split c (d ∷ text) =
      let found = split d text in
      elim (cases_Bool (ends_block is_cut c (d ∷ text))) [
        | inl y ↦ inr (first_split c (d ∷ text) y)
        | inr n ↦ elim found [
          | inl one ↦ inl (cond-false (ends_block is_cut c (d ∷ text)) _ _ n ∙ ap (onto_first c) one)
          | inr s ↦ inr (later_split c d text n s)
        ]
      ]

  pub shown_whole : (fuel : ℕ) (pen : Pen) (text : List ℕ) → length text ≤ fuel → characters_of (joined (shown_blocks pen (blocks is_cut text))) ≡ shown_text text
  unfolding shown_text
  shown_whole fuel pen [] short = refl
  shown_whole zero pen (c ∷ text) short = absurd (omega (arith, short))
  shown_whole (suc fuel) pen (c ∷ text) short =
      elim (split c text) [
        | inl one ↦
            ap (λ (parts : List (List ℕ)). characters_of (joined (shown_blocks pen parts))) one ∙ ap characters_of (append-nil (styled pen (c ∷ text)))
            ∙ shows_the_same pen (c ∷ text)
        | inr s ↦
            let block = s.piece ++ s.end ∷ [] in
            let next = next_paragraph (pen_at_end pen block) in
            let others = joined (shown_blocks next (blocks is_cut s.rest)) in
            let less : length s.rest ≤ fuel = omega (arith, short, ap length s.whole, length-append s.piece (s.end ∷ s.rest)) in
            ap (λ (parts : List (List ℕ)). characters_of (joined (shown_blocks pen parts))) s.cut ∙ characters_of-append (styled pen block) others
            ∙ ap₂ (λ (xs ys : List ℕ). xs ++ ys) (shows_the_same pen block) (shown_whole fuel next s.rest less)
            ∙ sym (shows_pieces.characters s.piece s.rest s.end (apart_ends s.end (and_parts (is_apart s.end) (is_cut s.end (next_character s.rest)) s.ends).0)) ∙ ap shown_text (sym s.whole)
      ]

  regrouped_whole : (groups : List (List ℕ)) (shown : List (ℕ × Style)) → length (concat groups) ≡ length shown → joined (regrouped groups shown) ≡ shown
  regrouped_whole [] shown len = sym (nil_from_length shown (sym len))
  regrouped_whole (group ∷ groups) shown len =
      let n = length group in
      ap (λ (rest : List (ℕ × Style)). take n shown ++ rest)
      (regrouped_whole groups (drop n shown) (omega (arith, len, length-append group (concat groups), length-drop n shown)))
      ∙ take-append-drop n shown

-- ---- the last character that a block shows

module _ (c : ℕ) (kept : is_dropped c ≡ false) (outer : is_inline c ≡ false) where
  struck_none : (x : ℕ) → (x == 0x08 && is_inline c) ≡ false
  struck_none x = and_right (x == 0x08) (is_inline c) outer

  backspaces_within : (text : List ℕ) → 2 * length (after_backspaces (text ++ c ∷ [])) ≤ length text
  backspaces_within [] = omega arith
  backspaces_within (x ∷ []) = subst (λ (xs : List ℕ). 2 * length xs ≤ 1) (sym (cond-false (x == 0x08 && is_inline c) (c ∷ []) [] (struck_none x))) (omega arith)
  backspaces_within (x ∷ y ∷ text) =
      cond_both (x == 0x08 && is_inline y) (y ∷ after_backspaces (text ++ c ∷ [])) [] (λ xs. 2 * length xs ≤ length (x ∷ y ∷ text))
      (λ _. let rest = backspaces_within text in omega (arith, rest)) (λ _. omega arith)

  strikes_within : (x : ℕ) (text : List ℕ) → 2 * length (strikes x (text ++ c ∷ [])) ≤ length text
  strikes_within x text =
      cond_both (is_inline x) (after_backspaces (text ++ c ∷ [])) [] (λ xs. 2 * length xs ≤ length text) (λ _. backspaces_within text) (λ _. omega arith)

  more_within : (x : ℕ) (text : List ℕ) → more_len x (text ++ c ∷ []) ≤ length text
  more_within x text = go (sequence_len (x ∷ (text ++ c ∷ []))) (sequence_len_within c kept outer [] x text)
    where
      go : (found : Option ℕ) → MatchOption found ⊤ (λ len. len ≤ suc (length text)) → unwrap_or found (1 + 2 * length (strikes x (text ++ c ∷ []))) - 1 ≤ length text
      go None within = let least = strikes_within x text in omega (arith, least)
      go (Some len) within = omega (arith, within)

  no_strikes_at : strikes c [] ≡ []
  no_strikes_at = cond-false (is_inline c) [] [] outer

  more_at : more_len c [] ≡ 0
  more_at =
      ap (λ (found : Option ℕ). unwrap_or found (1 + 2 * length (strikes c [])) - 1) (no_sequence c [] kept) ∙ ap (λ (xs : List ℕ). 1 + 2 * length xs - 1) no_strikes_at

  first_at : (pen : Pen) → characters_of (first_shown pen c []) ≡ c ∷ []
  first_at pen =
      ap characters_of (cond-false (is_dropped c) [] (((struck pen.after_underline c []).shown, struck_style pen c []) ∷ []) kept)
      ∙ ap (λ (xs : List ℕ). (fold (strike pen.after_underline) (record { shown = c; bold = false; underlined = false }) xs).shown ∷ []) no_strikes_at

  pub ends_shown : (skip : ℕ) (pen : Pen) (text : List ℕ) → skip ≤ length text → EndsIn c (characters_of (styled_after skip pen (text ++ c ∷ [])))
  ends_shown zero pen [] le =
      let rest = λ (n : ℕ). styled_after n (after_first_part pen c []) [] in
      record {
        front = [];
        is = characters_of-append (first_shown pen c []) (rest (more_len c [])) ∙ ap₂ (λ xs (n : ℕ). xs ++ characters_of (rest n)) (first_at pen) more_at;
      }
  ends_shown (suc skip) pen [] le = absurd (omega (arith, le))
  ends_shown (suc skip) pen (x ∷ text) le = ends_shown skip pen text (omega (arith, le))
  ends_shown zero pen (x ∷ text) le =
      let whole = text ++ c ∷ [] in
      let first = first_shown pen x whole in
      let later = ends_shown (more_len x whole) (after_first_part pen x whole) text (more_within x text) in
      record {
        front = characters_of first ++ later.front;
        is = characters_of-append first (styled_after (more_len x whole) (after_first_part pen x whole) whole) ∙ ap (λ xs. characters_of first ++ xs) later.is
            ∙ sym (append_assoc (characters_of first) later.front (c ∷ []));
      }

-- ---- the first character that a text shows

-- either nothing is shown, or `AreAlike` holds for the first character shown and n
abbrev IsLed : ℕ → List ℕ → Type 0
IsLed n shown = (shown ≡ []) ⊎ ((d : ℕ) × (rest : List ℕ) × (shown ≡ d ∷ rest) × AreAlike d n)

led_shown : (skip : ℕ) (pen : Pen) (text : List ℕ) → IsLed (next_after skip text) (characters_of (styled_after skip pen text))
led_shown skip pen [] = inl (nothing skip)
  where
    nothing : (skip : ℕ) → characters_of (styled_after skip pen []) ≡ []
    nothing zero = refl
    nothing (suc skip) = refl
led_shown (suc skip) pen (c ∷ text) = led_shown skip pen text
led_shown zero pen (c ∷ text) =
    let n = more_len c text in
    let rest = styled_after n (after_first_part pen c text) text in
    let one : List (ℕ × Style) = ((struck pen.after_underline c text).shown, struck_style pen c text) ∷ [] in
    elim (cases_Bool (is_dropped c)) [
      | inl y ↦
          subst (λ k. IsLed k (characters_of (first_shown pen c text ++ rest))) (sym (cond-true (is_dropped c) (next_after n text) c y))
          (subst (λ (xs : List (ℕ × Style)). IsLed (next_after n text) (characters_of (xs ++ rest))) (sym (cond-true (is_dropped c) [] one y))
          (led_shown n (after_first_part pen c text) text))
      | inr k ↦ inr (
        (struck pen.after_underline c text).shown,
        characters_of rest,
        ap (λ (xs : List (ℕ × Style)). characters_of (xs ++ rest)) (cond-false (is_dropped c) [] one k),
        subst (AreAlike (struck pen.after_underline c text).shown) (sym (cond-false (is_dropped c) (next_after n text) c k)) (first_alike pen.after_underline c text),
      )
    ]

-- ---- paragraphs

onto_join : (x : ℕ) (ps qs : List (List ℕ)) → 0 < length ps → onto_first x (ps ++ qs) ≡ onto_first x ps ++ qs
onto_join x [] qs some = absurd (omega (arith, some))
onto_join x (p ∷ ps) qs some = refl

module _ (is_cut : ℕ → ℕ → Bool) where
  paragraphs_some : (a : ℕ) (text : List ℕ) → 0 < length (paragraphs is_cut (a ∷ text))
  paragraphs_some a text = let first = first_paragraph is_cut a text in omega (arith, ap length first.2)

  join_step : (x y : ℕ) (text ys : List ℕ) → paragraphs is_cut ((y ∷ text) ++ ys) ≡ paragraphs is_cut (y ∷ text) ++ paragraphs is_cut ys
      → paragraphs is_cut ((x ∷ y ∷ text) ++ ys) ≡ paragraphs is_cut (x ∷ y ∷ text) ++ paragraphs is_cut ys
  join_step x y text ys e =
      let all = paragraphs is_cut (y ∷ (text ++ ys)) in
      let own = paragraphs is_cut (y ∷ text) in
      elim (cases_Bool (is_cut x y)) [
        | inl t ↦ cond-true (is_cut x y) ((x ∷ []) ∷ all) (onto_first x all) t ∙ ap (λ (ps : List (List ℕ)). (x ∷ []) ∷ ps) e
            ∙ ap (λ (ps : List (List ℕ)). ps ++ paragraphs is_cut ys) (sym (cond-true (is_cut x y) ((x ∷ []) ∷ own) (onto_first x own) t))
        | inr f ↦ cond-false (is_cut x y) ((x ∷ []) ∷ all) (onto_first x all) f ∙ ap (onto_first x) e ∙ onto_join x own (paragraphs is_cut ys) (paragraphs_some y text)
            ∙ ap (λ (ps : List (List ℕ)). ps ++ paragraphs is_cut ys) (sym (cond-false (is_cut x y) ((x ∷ []) ∷ own) (onto_first x own) f))
      ]

  join_cut : (front : List ℕ) (c d : ℕ) (ys : List ℕ) → is_cut c d ≡ true
      → paragraphs is_cut ((front ++ c ∷ []) ++ d ∷ ys) ≡ paragraphs is_cut (front ++ c ∷ []) ++ paragraphs is_cut (d ∷ ys)
  join_cut [] c d ys e = cond-true (is_cut c d) ((c ∷ []) ∷ paragraphs is_cut (d ∷ ys)) (onto_first c (paragraphs is_cut (d ∷ ys))) e
  join_cut (x ∷ []) c d ys e = join_step x c [] (d ∷ ys) (join_cut [] c d ys e)
  join_cut (x ∷ y ∷ front) c d ys e = join_step x y (front ++ c ∷ []) (d ∷ ys) (join_cut (y ∷ front) c d ys e)

  join_shown : ((c x y : ℕ) → (x == 10) ≡ false → (y == 10) ≡ false → is_cut c x ≡ is_cut c y) → (front : List ℕ) (c n : ℕ) (ys : List ℕ) → is_cut c n ≡ true → IsLed n ys
      → paragraphs is_cut ((front ++ c ∷ []) ++ ys) ≡ paragraphs is_cut (front ++ c ∷ []) ++ paragraphs is_cut ys
  join_shown same front c n ys cut (inl none) =
      ap (λ t. paragraphs is_cut ((front ++ c ∷ []) ++ t)) none ∙ ap (paragraphs is_cut) (append-nil (front ++ c ∷ []))
      ∙ sym (append-nil (paragraphs is_cut (front ++ c ∷ []))) ∙ ap (λ t. paragraphs is_cut (front ++ c ∷ []) ++ paragraphs is_cut t) (sym none)
  join_shown same front c n ys cut (inr (d, rest, e, alike)) =
      ap (λ t. paragraphs is_cut ((front ++ c ∷ []) ++ t)) e ∙ join_cut front c d rest (by_alike alike)
      ∙ ap (λ t. paragraphs is_cut (front ++ c ∷ []) ++ paragraphs is_cut t) (sym e)
    where
      by_alike : AreAlike d n → is_cut c d ≡ true
      by_alike (inl equal) = ap (is_cut c) equal ∙ cut
      by_alike (inr (one, other)) = same c d n one other ∙ cut

  cuts_whole : ((c x y : ℕ) → (x == 10) ≡ false → (y == 10) ≡ false → is_cut c x ≡ is_cut c y) → (fuel : ℕ) (pen : Pen) (text : List ℕ) → length text ≤ fuel
      → flat_map (λ shown. paragraphs is_cut (characters_of shown)) (shown_blocks pen (blocks is_cut text)) ≡ paragraphs is_cut (shown_text text)
  unfolding shown_text
  cuts_whole same fuel pen [] short = refl
  cuts_whole same zero pen (c ∷ text) short = absurd (omega (arith, short))
  cuts_whole same (suc fuel) pen (c ∷ text) short =
      let each : List (ℕ × Style) → List (List ℕ) = λ shown. paragraphs is_cut (characters_of shown) in
      elim (split is_cut c text) [
        | inl one ↦
            ap (λ (parts : List (List ℕ)). flat_map each (shown_blocks pen parts)) one ∙ append-nil (each (styled pen (c ∷ text)))
            ∙ ap (paragraphs is_cut) (shows_the_same pen (c ∷ text))
        | inr s ↦
            let block = s.piece ++ s.end ∷ [] in
            let next = next_paragraph (pen_at_end pen block) in
            let tests = and_parts (is_apart s.end) (is_cut s.end (next_character s.rest)) s.ends in
            let parts = or_parts (is_inline s.end) (is_dropped s.end) (not-true _ tests.0) in
            let less : length s.rest ≤ fuel = omega (arith, short, ap length s.whole, length-append s.piece (s.end ∷ s.rest)) in
            let last : EndsIn s.end (shown_text block) = ends_shown s.end parts.1 parts.0 0 START s.piece (omega arith) in
            let joined : paragraphs is_cut (shown_text block ++ shown_text s.rest) ≡ paragraphs is_cut (shown_text block) ++ paragraphs is_cut (shown_text s.rest) =
            ap (λ t. paragraphs is_cut (t ++ shown_text s.rest)) last.is
            ∙ join_shown same last.front s.end (next_character s.rest) (shown_text s.rest) tests.1 (led_shown 0 START s.rest)
            ∙ ap (λ t. paragraphs is_cut t ++ paragraphs is_cut (shown_text s.rest)) (sym last.is) in
            ap (λ (ps : List (List ℕ)). flat_map each (shown_blocks pen ps)) s.cut
            ∙ ap₂ (λ (xs ys : List (List ℕ)). xs ++ ys) (ap (paragraphs is_cut) (shows_the_same pen block)) (cuts_whole same fuel next s.rest less)
            ∙ sym joined ∙ ap (paragraphs is_cut) (sym (shows_pieces.characters s.piece s.rest s.end (apart_ends s.end tests.0)) ∙ ap shown_text (sym s.whole))
      ]

-- whether there is a boundary after c depends only on whether the next character is LF
lf_alone : (rules : Rules) (c x y : ℕ) → (x == 10) ≡ false → (y == 10) ≡ false → cut_by rules c x ≡ cut_by rules c y
lf_alone rules c x y one other =
    let class_at = class_of rules.tables in
    ap (λ t. is_separator (class_at c) && not (c == 13 && (t && is_separator (class_at x)))) one
    ∙ sym (ap (λ t. is_separator (class_at c) && not (c == 13 && (t && is_separator (class_at y)))) other)

pub shows_whole : ParagraphsArePieces → ShowsWhole
shows_whole law = record {
  whole = blocks_whole;
  characters = λ is_cut pen text. shown_whole is_cut (length text) pen text (omega arith);
  cuts = λ rules pen text. cuts_whole (cut_by rules) (lf_alone rules) (length text) pen text (omega arith);
  groups = λ is_cut shown. regrouped_whole is_cut (paragraphs is_cut (characters_of shown)) shown
      (ap length (law.whole is_cut (characters_of shown)) ∙ length-map shown (λ (c : ℕ × Style). c.0));
}
