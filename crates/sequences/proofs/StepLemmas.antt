-- What a text shows, one part after the other.
use Rattle.std.proofs.Common.{Bool, true, false, not, ◌&&◌, map, ◌+◌, ◌≡◌, ℕ, zero, suc, ◌≤◌, List, [], ◌∷◌, ◌++◌, length, take, drop, get_or, fold, ◌<◌, ◌==◌, arith, refl, sym, ap, ◌∙◌, append_assoc}
use Rattle.std.proofs.Math.ListN.{drop_of_length-le}
use Rattle.std.proofs.lemmas.List.{append-nil, take-append-drop}
use Rattle.std.specs.List.{list_all, prefix_len}
use Rattle.std.proofs.lemmas.Bool.{and_from, and_parts, cond-false, cond-true, not-true}
use Rattle.sequences.specs.Characters.{is_dropped, is_inline}
use Rattle.sequences.specs.Overstrikes.{after_backspaces, is_underlined_only, strike, struck_look}
use Rattle.sequences.specs.declared.look.Look.{Look}
use Rattle.sequences.specs.PlainRuns.{plain_pen, plain_step}
use Rattle.sequences.proofs.LawLemmas.{plain_part}
use Rattle.sequences.proofs.PlainLemmas.{no_backspaces, no_sequence, no_strikes, plain_look}
use Rattle.sequences.specs.Styled.{after_character, after_first_part, after_part, first_shown, more_len, Pen, pen_after, pen_at_end, Style, styled, styled_after}

styled_after-skip : (skip : ℕ) (pen : Pen) (text : List ℕ) → styled_after skip pen text ≡ styled_after 0 pen (drop skip text)
styled_after-skip zero pen text = refl
styled_after-skip (suc skip) pen [] = refl
styled_after-skip (suc skip) pen (c ∷ text) = styled_after-skip skip pen text

pen_after-skip : (skip : ℕ) (pen : Pen) (text : List ℕ) → pen_after skip pen text ≡ pen_after 0 pen (drop skip text)
pen_after-skip zero pen text = refl
pen_after-skip (suc skip) pen [] = refl
pen_after-skip (suc skip) pen (c ∷ text) = pen_after-skip skip pen text

pub styled-none : (pen : Pen) → styled pen [] ≡ []
unfolding styled
styled-none pen = refl

pub pen_at_end-none : (pen : Pen) → pen_at_end pen [] ≡ pen
unfolding pen_at_end
pen_at_end-none pen = refl

pub styled-part : (pen : Pen) (c : ℕ) (text : List ℕ)
    → styled pen (c ∷ text) ≡ first_shown pen c text ++ styled (after_first_part pen c text) (drop (suc (more_len c text)) (c ∷ text))
unfolding styled
styled-part pen c text = ap (λ rest. first_shown pen c text ++ rest) (styled_after-skip (more_len c text) (after_first_part pen c text) text)

pub pen_at_end-part : (pen : Pen) (c : ℕ) (text : List ℕ)
    → pen_at_end pen (c ∷ text) ≡ pen_at_end (after_first_part pen c text) (drop (suc (more_len c text)) (c ∷ text))
unfolding pen_at_end
pen_at_end-part pen c text = pen_after-skip (more_len c text) (after_first_part pen c text) text

-- after a step over the first part, the characters shown so far and those that the rest shows are still all
-- that the text shows
pub step_text : (pen next : Pen) (before after : List (ℕ × Style)) (c : ℕ) (rest text : List ℕ) (len : ℕ) → text ≡ c ∷ rest → len ≡ suc (more_len c rest)
    → after ≡ before ++ first_shown pen c rest → next ≡ after_first_part pen c rest → after ++ styled next (drop len text) ≡ before ++ styled pen text
step_text pen next before after c rest text len t l a n =
    let left = drop (suc (more_len c rest)) (c ∷ rest) in
    ap (λ xs. xs ++ styled next (drop len text)) a ∙ ap (λ p. (before ++ first_shown pen c rest) ++ styled p (drop len text)) n
    ∙ ap (λ k. (before ++ first_shown pen c rest) ++ styled (after_first_part pen c rest) (drop k text)) l
    ∙ ap (λ xs. (before ++ first_shown pen c rest) ++ styled (after_first_part pen c rest) (drop (suc (more_len c rest)) xs)) t
    ∙ append_assoc before (first_shown pen c rest) (styled (after_first_part pen c rest) left)
    ∙ ap (λ xs. before ++ xs) (sym (styled-part pen c rest)) ∙ ap (λ xs. before ++ styled pen xs) (sym t)

pub step_pen : (pen next : Pen) (c : ℕ) (rest text : List ℕ) (len : ℕ) → text ≡ c ∷ rest → len ≡ suc (more_len c rest)
    → next ≡ after_first_part pen c rest → pen_at_end next (drop len text) ≡ pen_at_end pen text
step_pen pen next c rest text len t l n =
    ap (λ p. pen_at_end p (drop len text)) n ∙ ap (λ k. pen_at_end (after_first_part pen c rest) (drop k text)) l
    ∙ ap (λ xs. pen_at_end (after_first_part pen c rest) (drop (suc (more_len c rest)) xs)) t ∙ sym (pen_at_end-part pen c rest) ∙ ap (pen_at_end pen) (sym t)

-- at the end of the text, all characters that the text shows have been shown
pub end_text : (pen : Pen) (shown all : List (ℕ × Style)) (text : List ℕ) (at : ℕ) → length text ≤ at → shown ++ styled pen (drop at text) ≡ all → shown ≡ all
end_text pen shown all text at end e =
    sym (append-nil shown) ∙ ap (λ xs. shown ++ xs) (sym (styled-none pen)) ∙ ap (λ xs. shown ++ styled pen xs) (sym (drop_of_length-le text end)) ∙ e

pub end_pen : (pen last : Pen) (text : List ℕ) (at : ℕ) → length text ≤ at → pen_at_end pen (drop at text) ≡ last → pen ≡ last
end_pen pen last text at end e = sym (pen_at_end-none pen) ∙ ap (pen_at_end pen) (sym (drop_of_length-le text end)) ∙ e

-- a character that nothing is struck over changes the pen as `plain_step` does
after_first_part-plain : (pen : Pen) (c : ℕ) (text : List ℕ) → is_dropped c ≡ false → after_backspaces text ≡ [] → after_first_part pen c text ≡ plain_step pen
after_first_part-plain pen c text e none =
    ap (after_part pen c text) (no_sequence c text e) ∙ cond-false (is_dropped c) pen (after_character pen c text) e
    ∙ ap (λ (xs : List ℕ). with_look (struck_look pen.style.look (fold (strike pen.after_underline) (record { shown = c; bold = false; underlined = false }) xs))) (no_strikes c text none)
    ∙ ap with_look (plain_look pen.style.look c)
  where
    with_look : Look → Pen
    with_look look = record pen { after_underline = is_underlined_only look }

quiet : (run rest : List ℕ) → list_all (λ c. not (is_dropped c)) run ≡ true → after_backspaces rest ≡ [] → after_backspaces (run ++ rest) ≡ []
quiet [] rest e none = none
quiet (c ∷ run) rest e none = no_backspaces c (run ++ rest) (not-true (is_dropped c) (and_parts (not (is_dropped c)) _ e).0)

plain_run-text : (pen : Pen) (run rest : List ℕ) → list_all (λ c. not (is_dropped c)) run ≡ true → after_backspaces rest ≡ []
    → styled_after 0 pen (run ++ rest) ≡ map (λ c. (c, pen.style)) run ++ styled_after 0 (plain_pen pen run) rest
plain_run-text pen [] rest e none = refl
plain_run-text pen (c ∷ run) rest e none =
    let text = run ++ rest in
    let parts = and_parts (not (is_dropped c)) (list_all (λ d. not (is_dropped d)) run) e in
    let kept = not-true (is_dropped c) parts.0 in
    let part = plain_part pen c text kept (quiet run rest parts.1 none) in
    ap (λ shown. shown ++ styled_after (more_len c text) (after_first_part pen c text) text) part.0
    ∙ ap (λ (n : ℕ). (c, pen.style) ∷ styled_after n (after_first_part pen c text) text) part.1
    ∙ ap (λ (p : Pen). (c, pen.style) ∷ styled_after 0 p text) (after_first_part-plain pen c text kept (quiet run rest parts.1 none))
    ∙ ap (λ shown. (c, pen.style) ∷ shown) (plain_run-text (plain_step pen) run rest parts.1 none)

plain_run-pen : (pen : Pen) (run rest : List ℕ) → list_all (λ c. not (is_dropped c)) run ≡ true → after_backspaces rest ≡ []
    → pen_after 0 pen (run ++ rest) ≡ pen_after 0 (plain_pen pen run) rest
plain_run-pen pen [] rest e none = refl
plain_run-pen pen (c ∷ run) rest e none =
    let text = run ++ rest in
    let parts = and_parts (not (is_dropped c)) (list_all (λ d. not (is_dropped d)) run) e in
    let kept = not-true (is_dropped c) parts.0 in
    let part = plain_part pen c text kept (quiet run rest parts.1 none) in
    ap (λ (n : ℕ). pen_after n (after_first_part pen c text) text) part.1
    ∙ ap (λ (p : Pen). pen_after 0 p text) (after_first_part-plain pen c text kept (quiet run rest parts.1 none))
    ∙ plain_run-pen (plain_step pen) run rest parts.1 none

-- the pen after a non-empty run of characters without overstrikes does not depend on the run's length
plain_pen-some : (pen : Pen) (c : ℕ) (run : List ℕ) → plain_pen pen (c ∷ run) ≡ plain_step pen
plain_pen-some pen c [] = refl
plain_pen-some pen c (d ∷ run) = plain_pen-some (plain_step pen) d run

pub plain_pen-run : (pen : Pen) (run : List ℕ) → 0 < length run → plain_pen pen run ≡ plain_step pen
plain_pen-run pen [] some = absurd (omega arith)
plain_pen-run pen (c ∷ run) some = plain_pen-some pen c run

-- `step_text` for a step over a run of characters without overstrikes
pub plain_step_text : (pen next : Pen) (before after : List (ℕ × Style)) (text : List ℕ) (n : ℕ) → list_all (λ c. not (is_dropped c)) (take n text) ≡ true
    → after_backspaces (drop n text) ≡ [] → after ≡ before ++ map (λ c. (c, pen.style)) (take n text) → next ≡ plain_pen pen (take n text)
    → after ++ styled next (drop n text) ≡ before ++ styled pen text
unfolding styled
plain_step_text pen next before after text n e none a p =
    let run = map (λ c. (c, pen.style)) (take n text) in
    ap (λ xs. xs ++ styled_after 0 next (drop n text)) a ∙ ap (λ (q : Pen). (before ++ run) ++ styled_after 0 q (drop n text)) p
    ∙ append_assoc before run (styled_after 0 (plain_pen pen (take n text)) (drop n text))
    ∙ ap (λ xs. before ++ xs) (sym (plain_run-text pen (take n text) (drop n text) e none))
    ∙ ap (λ xs. before ++ styled_after 0 pen xs) (take-append-drop n text)

pub plain_step_pen : (pen next : Pen) (text : List ℕ) (n : ℕ) → list_all (λ c. not (is_dropped c)) (take n text) ≡ true
    → after_backspaces (drop n text) ≡ [] → next ≡ plain_pen pen (take n text) → pen_at_end next (drop n text) ≡ pen_at_end pen text
unfolding pen_at_end
plain_step_pen pen next text n e none p =
    ap (λ (q : Pen). pen_after 0 q (drop n text)) p ∙ sym (plain_run-pen pen (take n text) (drop n text) e none)
    ∙ ap (pen_after 0 pen) (take-append-drop n text)

-- all characters of a prefix pass a test if the prefix is at most `prefix_len` characters long
pub prefix_all : (p : ℕ → Bool) (text : List ℕ) (n : ℕ) → n ≤ prefix_len p text → list_all p (take n text) ≡ true
prefix_all p text zero le = refl
prefix_all p [] (suc n) le = refl
prefix_all p (c ∷ text) (suc n) le = go (p c) refl (prefix_all p text n)
  where
    go : (b : Bool) → p c ≡ b → (n ≤ prefix_len p text → list_all p (take n text) ≡ true) → (p c && list_all p (take n text)) ≡ true
    go true e rest = and_from (p c) _ e (rest (omega (arith, sym (cond-true (p c) (1 + prefix_len p text) 0 e))))
    go false e rest = absurd (omega (arith, cond-false (p c) (1 + prefix_len p text) 0 e))

pub no_backspaces_at : (text : List ℕ) (n : ℕ) → (n < length text → (get_or text n 0 == 0x08) ≡ false) → after_backspaces (drop n text) ≡ []
no_backspaces_at [] zero other = refl
no_backspaces_at [] (suc n) other = refl
no_backspaces_at (c ∷ []) zero other = refl
no_backspaces_at (c ∷ d ∷ text) zero other =
    cond-false (c == 0x08 && is_inline d) _ _ (ap (λ b. b && is_inline d) (other (omega arith)))
no_backspaces_at (c ∷ text) (suc n) other = no_backspaces_at text n (λ lt. other (omega arith))
