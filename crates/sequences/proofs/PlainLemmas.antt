-- Characters that are not dropped, and texts that consist only of such characters.
use Rattle.std.proofs.Common.{◌≡◌, ℕ, ◌==◌, Bool, true, false, ◌&&◌, ◌||◌, not, List, [], ◌∷◌, None, refl, sym, ap, ◌∙◌, arith}
use Rattle.std.specs.List.{list_all}
use Rattle.std.proofs.lemmas.Bool.{and_parts, cond-false, cond_both, eqb-true, false≢true, not-true, or_parts}
use Rattle.std.proofs.lemmas.Bool.Decides.{nat_tests}
use Rattle.std.proofs.Math.Bool.{or-false}
use Rattle.sequences.specs.Characters.{is_c1_introducer, is_control, is_dropped, is_inline, is_kept_control}
use Rattle.sequences.specs.Sequences.{sequence_len}
use Rattle.sequences.specs.Overstrikes.{after_backspaces, strikes, struck_look}
use Rattle.sequences.specs.declared.look.Look.{Look}

-- a character that can be in a string or an overstrike is not dropped
pub inline_remains : (c : ℕ) → is_inline c ≡ true → is_dropped c ≡ false
inline_remains c e =
    let parts = or_parts (is_control c) (c == 0x2028 || c == 0x2029) (not-true _ e) in
    ap (λ b. b && not (is_kept_control c)) parts.0

-- a character that is not dropped is none of the dropped ones, such as ESC or BS
pub not_among : (c dropped : ℕ) → is_dropped c ≡ false → is_dropped dropped ≡ true → (c == dropped) ≡ false
not_among c dropped e d = go (c == dropped) refl
  where
    go : (b : Bool) → (c == dropped) ≡ b → b ≡ false
    go true is = absurd (false≢true (sym e ∙ ap is_dropped (eqb-true c dropped is) ∙ d))
    go false is = refl

pub escape_is_dropped : (c : ℕ) → is_dropped c ≡ false → (c == 0x1B) ≡ false
escape_is_dropped c e = not_among c 0x1B e refl

pub backspace_is_dropped : (c : ℕ) → is_dropped c ≡ false → (c == 0x08) ≡ false
backspace_is_dropped c e = not_among c 0x08 e refl

pub introducer_is_dropped : (c : ℕ) → is_dropped c ≡ false → is_c1_introducer c ≡ false
introducer_is_dropped c e = grind (arith, nat_tests)

pub no_sequence : (c : ℕ) (text : List ℕ) → is_dropped c ≡ false → sequence_len (c ∷ text) ≡ None
no_sequence c text e =
    cond-false (c == 0x1B) _ _ (escape_is_dropped c e) ∙ cond-false (is_c1_introducer c) _ _ (introducer_is_dropped c e)

-- a text that begins with a character that is not dropped, so not with BS, strikes nothing over a character
-- before it
pub no_backspaces : (c : ℕ) (text : List ℕ) → is_dropped c ≡ false → after_backspaces (c ∷ text) ≡ []
no_backspaces c [] e = refl
no_backspaces c (d ∷ text) e = cond-false (c == 0x08 && is_inline d) _ _ (ap (λ b. b && is_inline d) (backspace_is_dropped c e))

pub no_strikes : (c : ℕ) (text : List ℕ) → after_backspaces text ≡ [] → strikes c text ≡ []
no_strikes c text e = cond_both (is_inline c) (after_backspaces text) [] (λ xs. xs ≡ []) (λ _. e) (λ _. refl)

pub no_backspaces_in : (text : List ℕ) → list_all (λ c. not (is_dropped c)) text ≡ true → after_backspaces text ≡ []
no_backspaces_in [] e = refl
no_backspaces_in (c ∷ text) e = no_backspaces c text (not-true _ (and_parts (not (is_dropped c)) _ e).0)

-- without overstrikes, a character has the attributes that SGR has set
pub plain_look : (look : Look) (c : ℕ) → struck_look look (record { shown = c; bold = false; underlined = false }) ≡ look
plain_look look c = ap (λ bold. let l : Look = record look { bold = bold } in l) (or-false look.bold)
