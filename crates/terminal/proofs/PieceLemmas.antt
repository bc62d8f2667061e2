-- Paragraphs over the limit.
use Rattle.std.proofs.Common.{◌≡◌, ◌⊎◌, ℕ, zero, suc, ◌+◌, ◌-◌, ◌<◌, ◌≤◌, Bool, false, ◌||◌, List, [], ◌∷◌, ◌++◌, length, take, drop, refl, sym, subst, ap, ap₂, inl, inr, ◌∙◌, append_assoc, arith, get_or-drop, get_or-take}
use Rattle.std.specs.Prelude.{nat_lt, slice_range}
use Rattle.std.specs.List.{concat, flat_map, list_any}
use Rattle.std.proofs.lemmas.Bool.{le-ltb}
use Rattle.std.proofs.lemmas.List.{append-nil, drop-drop, length-append, length-drop, length-map, length-take-le, nil_from_length, take_all}
use Rattle.bidi.specs.Cuts.{paragraphs}
use Rattle.bidi.specs.Pieces.{ArePieces, IsPiece, ParagraphsArePieces}
use Rattle.lines.specs.Layouts.{IsParagraph, Rules, base_of, cut_by}
use Rattle.sequences.specs.Laws.{characters_of}
use Rattle.sequences.specs.Styled.{Style}
use Rattle.terminal.specs.Pieces.{IsWhole, first_pieces, has_over, in_direction, pieces, printed_each, printed_pieces}
use Rattle.terminal.specs.Paragraphs.{styles_of}
use Rattle.terminal.specs.Prefixes.{printed_bytes, printed_paragraph}
use Rattle.terminal.specs.declared.form.Form.{Form}

-- ---- the pieces of a text

-- `first_pieces` has the same result for all numbers that are at least the number of characters
enough : {A : Type 0} (m n : ℕ) (text : List A) → length text ≤ m → length text ≤ n → first_pieces m text ≡ first_pieces n text
enough zero zero [] a b = refl
enough zero (suc n) [] a b = refl
enough (suc m) zero [] a b = refl
enough (suc m) (suc n) [] a b = refl
enough zero n (c ∷ text) a b = absurd (omega (arith, a))
enough (suc m) zero (c ∷ text) a b = absurd (omega (arith, b))
enough (suc m) (suc n) (c ∷ text) a b =
    let rest = drop 1048576 (c ∷ text) in
    let less : length rest ≡ length (c ∷ text) - 1048576 = length-drop 1048576 (c ∷ text) in
    ap (λ ps. take 1048576 (c ∷ text) ∷ ps) (enough m n rest (omega (arith, less, a)) (omega (arith, less, b)))

pub pieces_none : {A : Type 0} (text : List A) → length text ≡ 0 → pieces text ≡ []
unfolding pieces
pieces_none text none = ap (λ t. first_pieces (length t) t) (nil_from_length text none)

pub pieces_some : {A : Type 0} (text : List A) → 0 < length text → pieces text ≡ take 1048576 text ∷ pieces (drop 1048576 text)
unfolding pieces
pieces_some [] some = absurd (omega (arith, some))
pieces_some (c ∷ text) some =
    let rest = drop 1048576 (c ∷ text) in
    ap (λ ps. take 1048576 (c ∷ text) ∷ ps) (enough (length text) (length rest) rest (omega (arith, length-drop 1048576 (c ∷ text))) (omega arith))

-- the next piece of a text ends at the computed index
pub next_piece : {A : Type 0} (text : List A) (at end : ℕ) → at < length text → ((end ≡ length text) × (length text - at ≤ 1048576)) ⊎ (end ≡ at + 1048576)
    → pieces (drop at text) ≡ take (end - at) (drop at text) ∷ pieces (drop end text)
next_piece text at end within (inl (all, short)) =
    let rest = drop at text in
    let len : length rest ≡ length text - at = length-drop at text in
    let size : end - at ≡ length rest = omega (arith, all, len) in
    let last : pieces (drop 1048576 rest) ≡ pieces (drop end text) =
    pieces_none (drop 1048576 rest) (omega (arith, length-drop 1048576 rest, len, short)) ∙ sym (pieces_none (drop end text) (omega (arith, length-drop end text, all))) in
    pieces_some rest (omega (arith, len, within))
    ∙ ap₂ (λ p ps. p ∷ ps) (take_all 1048576 rest (omega (arith, len, short)) ∙ sym (take_all (end - at) rest (omega (arith, size)))) last
next_piece text at end within (inr full) =
    let rest = drop at text in
    let size : end - at ≡ 1048576 = omega (arith, full) in
    pieces_some rest (omega (arith, length-drop at text, within))
    ∙ ap₂ (λ k t. take k rest ∷ pieces t) (sym size) (drop-drop 1048576 at text ∙ ap (λ k. drop k text) (sym full))

-- ---- paragraphs

module _ (law : ParagraphsArePieces) (rules : Rules) (text : List ℕ) (whole : IsWhole rules text) where
  piece : IsPiece (cut_by rules) text
  piece = subst (ArePieces (cut_by rules)) whole (law.pieces (cut_by rules) text)

  -- a piece of a paragraph is a paragraph
  pub piece_is : (at end : ℕ) → at < end → end ≤ length text → end - at ≤ 1048576 → IsParagraph rules (slice_range text at end)
  piece_is at end some within short =
      let own = take (end - at) (drop at text) in
      let len : length own ≡ end - at = length-take-le (end - at) (drop at text) (omega (arith, length-drop at text, within)) in
      let is : IsPiece (cut_by rules) own = record {
        filled = omega (arith, len, some);
        uncut = λ k h.
            let below : k + 1 < end - at = omega (arith, h, len) in
            let next : at + (k + 1) ≡ (at + k) + 1 = omega arith in
            rw (get_or-take (end - at) (drop at text) k 0 (omega (arith, below)), get_or-take (end - at) (drop at text) (k + 1) 0 below, get_or-drop at text k 0, get_or-drop at text (k + 1) 0, next)
            (piece.uncut (at + k) (omega (arith, below, within)));
      } in
      record {
        whole = ap (paragraphs (cut_by rules)) (sym (append-nil own)) ∙ law.only (cut_by rules) (own ∷ []) is;
        within = omega (arith, len, short);
      }

pub piece_by : ParagraphsArePieces → (rules now : Rules) (text own : List ℕ) (at end : ℕ) → now ≡ rules → IsWhole rules text → own ≡ slice_range text at end → at < end → end ≤ length text
    → end - at ≤ 1048576 → IsParagraph now own
piece_by law rules now text own at end n whole o some within short =
    subst (λ (q : Rules). IsParagraph q own) (sym n) (subst (IsParagraph rules) (sym o) (piece_is law rules text whole at end some within short))

-- ---- the lines of pieces

module _ (rules : Rules) (form : Form) where
  -- a paragraph within the limit is laid out as a whole
  pub pieces_short : (shown : List (ℕ × Style)) → length shown ≤ 1048576 → printed_pieces rules form shown ≡ printed_paragraph rules form shown
  unfolding printed_pieces
  pieces_short shown short =
      let none : pieces (drop 1048576 shown) ≡ [] = pieces_none (drop 1048576 shown) (omega (arith, length-drop 1048576 shown, short)) in
      ap₂ (λ (first : List (ℕ × Style)) (rest : List (List (ℕ × Style))). printed_paragraph rules form first
      ++ flat_map (printed_paragraph (in_direction rules (base_of rules (characters_of first))) form) rest) (take_all 1048576 shown short) none
      ∙ append-nil (printed_paragraph rules form shown)

  -- `pieces_short` for a paragraph whose characters and styles are given separately
  pub whole_piece : (text : List ℕ) (styles : List Style) (shown : List (ℕ × Style)) (old new : List ℕ) → text ≡ characters_of shown → styles_of shown ≡ styles → length text ≤ 1048576
      → new ≡ old ++ printed_bytes rules form text styles → new ≡ old ++ printed_pieces rules form shown
  whole_piece text styles shown old new same s short e =
      let count : length text ≡ length shown = ap length same ∙ length-map shown (λ (c : ℕ × Style). c.0) in
      e ∙ ap (λ t. old ++ t) (ap₂ (printed_bytes rules form) same (sym s) ∙ sym (pieces_short shown (omega (arith, count, short))))

  -- printing the first piece of a paragraph, and then the other pieces in its direction, prints
  -- `printed_pieces`
  pub pieces_are : (now : Rules) (shown : List (ℕ × Style)) (first : List ℕ) (base : ℕ) (old mid new : List ℕ) → now ≡ rules → first ≡ characters_of (take 1048576 shown)
      → base ≡ base_of rules first → mid ≡ old ++ printed_paragraph rules form (take 1048576 shown)
      → new ≡ mid ++ printed_each (in_direction now base) form (drop 1048576 shown) → new ≡ old ++ printed_pieces rules form shown
  unfolding printed_pieces
  pieces_are now shown first base old mid new n f b m e =
      let direction : in_direction now base ≡ in_direction rules (base_of rules (characters_of (take 1048576 shown))) =
      ap₂ in_direction n (b ∙ ap (base_of rules) f) in
      e ∙ ap₂ (λ (t : List ℕ) (r : Rules). t ++ printed_each r form (drop 1048576 shown)) m direction ∙ append_assoc old _ _

  -- if no piece is left, all pieces have been printed
  pub last_each : (shown : List (ℕ × Style)) (at : ℕ) (old all : List ℕ) → length shown ≤ at → old ++ printed_each rules form (drop at shown) ≡ all → old ≡ all
  last_each shown at old all end h =
      sym (append-nil old)
      ∙ ap (λ (ps : List (List (ℕ × Style))). old ++ flat_map (printed_paragraph rules form) ps) (sym (pieces_none (drop at shown) (omega (arith, end, length-drop at shown)))) ∙ h

-- ---- one more piece
pub next_each : (rules now : Rules) (form : Form) → now ≡ rules → (shown : List (ℕ × Style)) (at end : ℕ) (old new all : List ℕ)
    → pieces (drop at shown) ≡ take (end - at) (drop at shown) ∷ pieces (drop end shown) → new ≡ old ++ printed_paragraph now form (take (end - at) (drop at shown))
    → old ++ printed_each rules form (drop at shown) ≡ all → new ++ printed_each rules form (drop end shown) ≡ all
next_each rules now form e shown at end old new all split n h =
    let first = take (end - at) (drop at shown) in
    ap (λ t. t ++ printed_each rules form (drop end shown)) (n ∙ ap (λ (r : Rules). old ++ printed_paragraph r form first) e)
    ∙ append_assoc old (printed_paragraph rules form first) (printed_each rules form (drop end shown))
    ∙ ap (λ (ps : List (List (ℕ × Style))). old ++ flat_map (printed_paragraph rules form) ps) (sym split) ∙ h

pub full_is : (text : List ℕ) (shown : List (ℕ × Style)) (at end : ℕ) → text ≡ characters_of shown → ((end ≡ length text) × (length text - at ≤ 1048576)) ⊎ (end ≡ at + 1048576)
    → ((end ≡ length shown) × (length shown - at ≤ 1048576)) ⊎ (end ≡ at + 1048576)
full_is text shown at end same full =
    let count : length text ≡ length shown = ap length same ∙ length-map shown (λ (c : ℕ × Style). c.0) in
    subst (λ n. ((end ≡ n) × (n - at ≤ 1048576)) ⊎ (end ≡ at + 1048576)) count full

-- ---- paragraphs over the limit

none_over : (parts : List (List ℕ)) → length (concat parts) ≤ 1048576 → list_any (λ (part : List ℕ). nat_lt 1048576 (length part)) parts ≡ false
none_over [] short = refl
none_over (part ∷ parts) short =
    let all : length (part ++ concat parts) ≡ length part + length (concat parts) = length-append part (concat parts) in
    ap (λ (b : Bool). b || list_any (λ (p : List ℕ). nat_lt 1048576 (length p)) parts) (le-ltb 1048576 (length part) (omega (arith, all, short)))
    ∙ none_over parts (omega (arith, all, short))

-- if a text is within the limit, so is each of its paragraphs
pub not_over : ParagraphsArePieces → (rules : Rules) (text : List ℕ) → length text ≤ 1048576 → has_over rules text ≡ false
not_over law rules text short = none_over (paragraphs (cut_by rules) text) (omega (arith, ap length (law.whole (cut_by rules) text), short))
