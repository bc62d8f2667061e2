-- The character that is shown at a position, compared with the first character there.
use Rattle.std.proofs.Common.{◌≡◌, ◌⊎◌, ℕ, ◌==◌, Bool, true, false, ◌&&◌, ◌||◌, not, List, [], ◌∷◌, fold, sym, subst, ap, inl, inr, ◌∙◌}
use Rattle.std.proofs.lemmas.Bool.{and_parts, cases_Bool, cond-true, cond-false, cond_both, eqb-true, false≢true}
use Rattle.sequences.specs.Characters.{is_inline}
use Rattle.sequences.specs.Overstrikes.{after_backspaces, strike, struck}
use Rattle.sequences.specs.declared.overstrikes.Struck.{Struck}

inline_no_lf : (c : ℕ) → is_inline c ≡ true → (c == 10) ≡ false
inline_no_lf c e =
    elim (cases_Bool (c == 10)) [
      | inl y ↦ absurd (false≢true (ap is_inline (sym (eqb-true c 10 y)) ∙ e))
      | inr n ↦ n
    ]

strike_inline : (after_underline : Bool) (s : Struck) (c : ℕ) → is_inline s.shown ≡ true → is_inline c ≡ true → is_inline (strike after_underline s c).shown ≡ true
strike_inline after_underline s c old new =
    let Q : Struck → Type 0 = λ r. is_inline r.shown ≡ true in
    cond_both (c == s.shown) _ _ Q
    (λ _. cond_both (c == 0x5F && not (s.bold || s.underlined)) _ _ Q (λ _. old) (λ _. cond_both (c == 0x5F) _ _ Q (λ _. old) (λ _. old)))
    (λ _. cond_both (c == 0x5F) _ _ Q (λ _. old) (λ _. cond_both (s.shown == 0x5F) _ _ Q (λ _. new) (λ _. new)))

struck_inline : (after_underline : Bool) (s : Struck) (text : List ℕ) → is_inline s.shown ≡ true → is_inline (fold (strike after_underline) s (after_backspaces text)).shown ≡ true
struck_inline after_underline s [] e = e
struck_inline after_underline s (b ∷ []) e = e
struck_inline after_underline s (b ∷ c ∷ text) e =
    cond_both (b == 0x08 && is_inline c) (c ∷ after_backspaces text) [] (λ xs. is_inline (fold (strike after_underline) s xs).shown ≡ true)
    (λ both. struck_inline after_underline (strike after_underline s c) text (strike_inline after_underline s c e (and_parts (b == 0x08) (is_inline c) both).1))
    (λ _. e)

-- two characters are equal, or neither is LF
abbrev pub AreAlike : ℕ → ℕ → Type 0
AreAlike d n = (d ≡ n) ⊎ (((d == 10) ≡ false) × ((n == 10) ≡ false))

pub first_alike : (after_underline : Bool) (c : ℕ) (text : List ℕ) → AreAlike (struck after_underline c text).shown c
first_alike after_underline c text =
    let s : Struck = record { shown = c; bold = false; underlined = false } in
    elim (cases_Bool (is_inline c)) [
      | inl y ↦ inr (
        inline_no_lf _ (subst (λ (xs : List ℕ). is_inline (fold (strike after_underline) s xs).shown ≡ true) (sym (cond-true (is_inline c) (after_backspaces text) [] y))
            (struck_inline after_underline s text y)),
        inline_no_lf c y,
      )
      | inr n ↦ inl (ap (λ (xs : List ℕ). (fold (strike after_underline) s xs).shown) (cond-false (is_inline c) (after_backspaces text) [] n))
    ]
