-- Parameters, each after a semicolon, become an SGR sequence once `[` replaces the first semicolon.
use Rattle.std.proofs.Common.{◌≡◌, ℕ, ◌+◌, List, [], ◌∷◌, ◌++◌, length, map, take, drop, refl, sym, ap, ◌∙◌, append_assoc}
use Rattle.std.specs.List.{join_with_byte}
use Rattle.std.proofs.lemmas.List.{append-nil, drop-drop, drop_at, take_at}
use Rattle.sequences.specs.Led.{led}
use Rattle.sequences.specs.Laws.{WritesPlainText}
use Rattle.sequences.specs.Output.{between, sgr_of, written, written_after}
use Rattle.sequences.specs.Styled.{DEFAULT}

led-cons : (p : List ℕ) (ps : List (List ℕ)) → led (p ∷ ps) ≡ 0x3B ∷ join_with_byte 0x3B (p ∷ ps)
led-cons p [] = append-nil (0x3B ∷ p)
led-cons p (q ∷ ps) = ap (λ rest. (0x3B ∷ p) ++ rest) (led-cons q ps)

led-drop : (ps : List (List ℕ)) → drop 1 (led ps) ≡ join_with_byte 0x3B ps
led-drop [] = refl
led-drop (p ∷ ps) = ap (drop 1) (led-cons p ps)

pub sgr_written : (old opened parameters ended all : List ℕ) (ps : List (List ℕ)) (start : ℕ) → opened ≡ old ++ 0x1B ∷ [] → start ≡ length opened
    → parameters ≡ opened ++ led ps → ended ≡ take start parameters ++ 91 ∷ drop (start + 1) parameters → all ≡ ended ++ 0x6D ∷ [] → all ≡ old ++ sgr_of ps
sgr_written old opened parameters ended all ps start o s p e a =
    let front : take start parameters ≡ opened = ap (take start) p ∙ take_at opened (led ps) start (sym s) in
    let back : drop (start + 1) parameters ≡ join_with_byte 0x3B ps =
    sym (drop-drop 1 start parameters) ∙ ap (λ xs. drop 1 (drop start xs)) p ∙ ap (drop 1) (drop_at opened (led ps) start (sym s)) ∙ led-drop ps in
    a ∙ ap (λ xs. xs ++ 0x6D ∷ []) (e ∙ ap (λ xs. xs ++ 91 ∷ drop (start + 1) parameters) (front ∙ o) ∙ ap (λ xs. (old ++ 0x1B ∷ []) ++ 91 ∷ xs) back)
    ∙ append_assoc (old ++ 0x1B ∷ []) (91 ∷ join_with_byte 0x3B ps) (0x6D ∷ [])
    ∙ append_assoc old (0x1B ∷ []) ((91 ∷ join_with_byte 0x3B ps) ++ 0x6D ∷ [])

plain_line : (text : List ℕ) → written_after DEFAULT (map (λ c. (c, DEFAULT)) text) ≡ text
unfolding between
plain_line [] = refl
plain_line (c ∷ text) = ap (λ rest. c ∷ rest) (plain_line text)

pub writes_plain_text : WritesPlainText
unfolding written
writes_plain_text text = plain_line text
