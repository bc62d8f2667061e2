-- Theorems about all texts.
use Rattle.std.proofs.Common.{◌≡◌, ℕ, zero, suc, ◌+◌, ◌-◌, ◌*◌, ◌==◌, Bool, true, false, ◌&&◌, ◌||◌, not, List, [], ◌∷◌, ◌++◌, length, map, fold, if◌then◌else◌, refl, sym, ap, ◌∙◌}
use Rattle.std.specs.Prelude.{Option, unwrap_or}
use Rattle.std.specs.List.{list_all}
use Rattle.std.proofs.lemmas.Bool.{and_from, and_parts, cond-false, cond_both, not-true}
use Rattle.std.proofs.lemmas.List.Folds.{list_all-append}
use Rattle.sequences.specs.Characters.{is_dropped, is_inline}
use Rattle.sequences.specs.Laws.{characters_of, remains, ShowsItself, ShowsNoControls, ShowsPlainText, ShowsTheSame}
use Rattle.sequences.specs.Overstrikes.{after_backspaces, strike, strikes, struck, struck_look}
use Rattle.sequences.specs.Styled.{after_character, after_first_part, after_part, first_shown, more_len, Pen, shown_text, START, struck_style, Style, styled, styled_after}
use Rattle.sequences.specs.declared.look.Look.{Look}
use Rattle.sequences.specs.declared.overstrikes.Struck.{Struck}
use Rattle.sequences.proofs.PlainLemmas.{inline_remains, no_backspaces_in, no_sequence, no_strikes, plain_look}

-- a property of both the character shown so far and the struck character also holds for the character shown
-- after the strike
strike-shown : (P : ℕ → Type 0) (after_underline : Bool) (s : Struck) (c : ℕ) → P s.shown → P c → P (strike after_underline s c).shown
strike-shown P after_underline s c old new =
    let Q : Struck → Type 0 = λ r. P r.shown in
    cond_both (c == s.shown) _ _ Q
    (λ _. cond_both (c == 0x5F && not (s.bold || s.underlined)) _ _ Q (λ _. old) (λ _. cond_both (c == 0x5F) _ _ Q (λ _. old) (λ _. old)))
    (λ _. cond_both (c == 0x5F) _ _ Q (λ _. old) (λ _. cond_both (s.shown == 0x5F) _ _ Q (λ _. new) (λ _. new)))

-- if the first character at a position is not dropped, the character that is shown there is not dropped
struck-remains : (after_underline : Bool) (s : Struck) (text : List ℕ) → is_dropped s.shown ≡ false
    → is_dropped (fold (strike after_underline) s (after_backspaces text)).shown ≡ false
struck-remains after_underline s [] e = e
struck-remains after_underline s (b ∷ []) e = e
struck-remains after_underline s (b ∷ c ∷ text) e =
    cond_both (b == 0x08 && is_inline c) (c ∷ after_backspaces text) [] (λ xs. is_dropped (fold (strike after_underline) s xs).shown ≡ false)
    (λ both. struck-remains after_underline (strike after_underline s c) text
    (strike-shown (λ x. is_dropped x ≡ false) after_underline s c e (inline_remains c (and_parts (b == 0x08) (is_inline c) both).1)))
    (λ _. e)

first-remains : (after_underline : Bool) (c : ℕ) (text : List ℕ) → is_dropped c ≡ false → is_dropped (struck after_underline c text).shown ≡ false
first-remains after_underline c text e =
    let first : Struck = record { shown = c; bold = false; underlined = false } in
    cond_both (is_inline c) (after_backspaces text) [] (λ xs. is_dropped (fold (strike after_underline) first xs).shown ≡ false)
    (λ _. struck-remains after_underline first text e) (λ _. e)

first_shown-remains : (pen : Pen) (c : ℕ) (text : List ℕ) → list_all remains (characters_of (first_shown pen c text)) ≡ true
first_shown-remains pen c text =
    cond_both (is_dropped c) [] (((struck pen.after_underline c text).shown, struck_style pen c text) ∷ []) (λ xs. list_all remains (characters_of xs) ≡ true)
    (λ _. refl) (λ e. ap (λ b. not b && true) (first-remains pen.after_underline c text e))

characters_of-append : (xs ys : List (ℕ × Style)) → characters_of (xs ++ ys) ≡ characters_of xs ++ characters_of ys
characters_of-append [] ys = refl
characters_of-append (x ∷ xs) ys = ap (λ rest. x.0 ∷ rest) (characters_of-append xs ys)

all_remain : (skip : ℕ) (pen : Pen) (text : List ℕ) → list_all remains (characters_of (styled_after skip pen text)) ≡ true
all_remain skip pen [] = refl
all_remain (suc skip) pen (c ∷ text) = all_remain skip pen text
all_remain zero pen (c ∷ text) =
    let rest = styled_after (more_len c text) (after_first_part pen c text) text in
    ap (list_all remains) (characters_of-append (first_shown pen c text) rest)
    ∙ list_all-append remains (characters_of (first_shown pen c text)) (characters_of rest)
    ∙ and_from _ _ (first_shown-remains pen c text) (all_remain (more_len c text) (after_first_part pen c text) text)

-- the first part of a text is one character, which is shown unchanged and does not change the style
abbrev pub IsPlainPart : Pen → ℕ → List ℕ → Type 0
IsPlainPart pen c text =
    (first_shown pen c text ≡ (c, pen.style) ∷ []) × (more_len c text ≡ 0) × ((after_first_part pen c text).style ≡ pen.style)

pub plain_part : (pen : Pen) (c : ℕ) (text : List ℕ) → is_dropped c ≡ false → after_backspaces text ≡ [] → IsPlainPart pen c text
plain_part pen c text e none = (
  cond-false (is_dropped c) [] (((struck pen.after_underline c text).shown, struck_style pen c text) ∷ []) e
      ∙ ap (λ (xs : List ℕ). shown_by xs ∷ []) (no_strikes c text none)
      ∙ ap (λ (look : Look). with_look look ∷ []) (plain_look pen.style.look c),
  ap (λ (o : Option ℕ). unwrap_or o (1 + 2 * length (strikes c text)) - 1) (no_sequence c text e)
      ∙ ap (λ (xs : List ℕ). 1 + 2 * length xs - 1) (no_strikes c text none),
  ap (λ (o : Option ℕ). (after_part pen c text o).style) (no_sequence c text e)
      ∙ ap (λ (p : Pen). p.style) (cond-false (is_dropped c) pen (after_character pen c text) e),
)
  where
    place : List ℕ → Struck
    place xs = fold (strike pen.after_underline) (record { shown = c; bold = false; underlined = false }) xs

    with_look : Look → ℕ × Style
    with_look look = (c, record { look = look; link = pen.style.link })

    shown_by : List ℕ → ℕ × Style
    shown_by xs = ((place xs).shown, record { look = struck_look pen.style.look (place xs); link = pen.style.link })

plain_text : (pen : Pen) (text : List ℕ) → list_all remains text ≡ true → styled_after 0 pen text ≡ map (λ c. (c, pen.style)) text
plain_text pen [] e = refl
plain_text pen (c ∷ text) e =
    let parts = and_parts (remains c) (list_all remains text) e in
    let part = plain_part pen c text (not-true (is_dropped c) parts.0) (no_backspaces_in text parts.1) in
    let next = after_first_part pen c text in
    ap (λ shown. shown ++ styled_after (more_len c text) next text) part.0
    ∙ ap (λ (n : ℕ). (c, pen.style) ∷ styled_after n next text) part.1
    ∙ ap (λ rest. (c, pen.style) ∷ rest) (plain_text next text parts.1)
    ∙ ap (λ (style : Style). (c, pen.style) ∷ map (λ d. (d, style)) text) part.2

-- the character that is shown after a strike; attributes do not affect this character
abbrev shown_over : ℕ → ℕ → ℕ
shown_over old c = if c == old then old else (if c == 0x5F then old else c)

shown_by_tests : (same first low under after_underline : Bool) (s : Struck) (c : ℕ)
    → (if same then (if first then record s { bold = not after_underline; underlined = after_underline }
    else (if low then record s { bold = true; underlined = true } else record s { bold = true }))
    else (if low then record s { underlined = true }
    else (if under then record { shown = c; bold = false; underlined = true } else record { shown = c; bold = false; underlined = false }))).shown
    ≡ (if same then s.shown else (if low then s.shown else c))
shown_by_tests true true low under after_underline s c = refl
shown_by_tests true false true under after_underline s c = refl
shown_by_tests true false false under after_underline s c = refl
shown_by_tests false first true under after_underline s c = refl
shown_by_tests false first false true after_underline s c = refl
shown_by_tests false first false false after_underline s c = refl

shown_is : (after_underline : Bool) (s : Struck) (c : ℕ) → (strike after_underline s c).shown ≡ shown_over s.shown c
shown_is after_underline s c =
    shown_by_tests (c == s.shown) (c == 0x5F && not (s.bold || s.underlined)) (c == 0x5F) (s.shown == 0x5F) after_underline s c

struck-same : (one other : Bool) (s t : Struck) (xs : List ℕ) → s.shown ≡ t.shown → (fold (strike one) s xs).shown ≡ (fold (strike other) t xs).shown
struck-same one other s t [] e = e
struck-same one other s t (c ∷ xs) e =
    struck-same one other (strike one s c) (strike other t c) xs (shown_is one s c ∙ ap (λ x. shown_over x c) e ∙ sym (shown_is other t c))

shown_if : (dropped : Bool) (c : ℕ) (style : Style) → characters_of (if dropped then [] else (c, style) ∷ []) ≡ (if dropped then [] else c ∷ [])
shown_if true c style = refl
shown_if false c style = refl

first_characters : (pen other : Pen) (c : ℕ) (text : List ℕ) → characters_of (first_shown pen c text) ≡ characters_of (first_shown other c text)
first_characters pen other c text =
    let first : Struck = record { shown = c; bold = false; underlined = false } in
    shown_if (is_dropped c) (struck pen.after_underline c text).shown (struck_style pen c text)
    ∙ ap (λ (x : ℕ). if is_dropped c then [] else x ∷ []) (struck-same pen.after_underline other.after_underline first first (strikes c text) refl)
    ∙ sym (shown_if (is_dropped c) (struck other.after_underline c text).shown (struck_style other c text))

pub same_characters : (skip : ℕ) (pen other : Pen) (text : List ℕ) → characters_of (styled_after skip pen text) ≡ characters_of (styled_after skip other text)
same_characters skip pen other [] = refl
same_characters (suc skip) pen other (c ∷ text) = same_characters skip pen other text
same_characters zero pen other (c ∷ text) =
    let rest = λ (p : Pen). styled_after (more_len c text) (after_first_part p c text) text in
    characters_of-append (first_shown pen c text) (rest pen)
    ∙ ap (λ xs. xs ++ characters_of (rest pen)) (first_characters pen other c text)
    ∙ ap (λ xs. characters_of (first_shown other c text) ++ xs) (same_characters (more_len c text) (after_first_part pen c text) (after_first_part other c text) text)
    ∙ sym (characters_of-append (first_shown other c text) (rest other))

characters_of-map : (style : Style) (text : List ℕ) → characters_of (map (λ c. (c, style)) text) ≡ text
characters_of-map style [] = refl
characters_of-map style (c ∷ text) = ap (λ rest. c ∷ rest) (characters_of-map style text)

pub shows_no_controls : ShowsNoControls
unfolding styled
shows_no_controls pen text = all_remain 0 pen text

pub shows_plain_text : ShowsPlainText
unfolding styled
shows_plain_text pen text e = plain_text pen text e

pub shows_the_same : ShowsTheSame
unfolding styled shown_text
shows_the_same pen text = same_characters 0 pen START text

pub shows_itself : ShowsItself
unfolding styled shown_text
shows_itself text =
    let shown = characters_of (styled_after 0 START text) in
    ap characters_of (plain_text START shown (all_remain 0 START text)) ∙ characters_of-map START.style shown
