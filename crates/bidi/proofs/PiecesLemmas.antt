-- The paragraphs of a text are its parts between boundaries, for any definition of a boundary.
use Rattle.std.proofs.Common.{◌≡◌, ℕ, zero, suc, ◌+◌, ◌-◌, ◌<◌, ◌≤◌, Bool, true, false, List, [], ◌∷◌, ◌++◌, length, take, drop, slice_index, refl, sym, ap, subst, ◌∙◌, inl, inr, arith, add-one, sub-one}
use Rattle.std.specs.List.{concat, onto_first}
use Rattle.std.proofs.lemmas.Bool.{cond-true, cond-false, cases_Bool}
use Rattle.std.proofs.lemmas.List.{append-nil, take-append-drop, drop_more, take_all, length-take-le, get_or-take}
use Rattle.bidi.specs.Cuts.{paragraphs}
use Rattle.bidi.specs.Pieces.{IsPiece, ArePieces, ParagraphsArePieces}

-- prepending a character to a text does not change the text's last character
last-cons : (a b : ℕ) (text : List ℕ) → slice_index (a ∷ b ∷ text) (length (a ∷ b ∷ text) - 1) ≡ slice_index (b ∷ text) (length (b ∷ text) - 1)
last-cons a b text = rw (sub-one (length (a ∷ b ∷ text)), sub-one (length (b ∷ text))) refl

concat-onto_first : (a : ℕ) (parts : List (List ℕ)) → concat (onto_first a parts) ≡ a ∷ concat parts
concat-onto_first a [] = refl
concat-onto_first a (part ∷ parts) = refl

module _ (is_cut : ℕ → ℕ → Bool) where
  -- ---- prepending a character to a text, with and without a boundary after the character
  paragraphs-cut : (a b : ℕ) (text : List ℕ) → is_cut a b ≡ true → paragraphs is_cut (a ∷ b ∷ text) ≡ (a ∷ []) ∷ paragraphs is_cut (b ∷ text)
  paragraphs-cut a b text = cond-true (is_cut a b) ((a ∷ []) ∷ paragraphs is_cut (b ∷ text)) (onto_first a (paragraphs is_cut (b ∷ text)))

  paragraphs-uncut : (a b : ℕ) (text : List ℕ) → is_cut a b ≡ false → paragraphs is_cut (a ∷ b ∷ text) ≡ onto_first a (paragraphs is_cut (b ∷ text))
  paragraphs-uncut a b text = cond-false (is_cut a b) ((a ∷ []) ∷ paragraphs is_cut (b ∷ text)) (onto_first a (paragraphs is_cut (b ∷ text)))

  IsPiece-one : (a : ℕ) → IsPiece is_cut (a ∷ [])
  IsPiece-one a = record { filled = omega arith; uncut = λ k h. absurd (omega arith) }

  IsPiece-cons : (a b : ℕ) (text : List ℕ) → is_cut a b ≡ false → IsPiece is_cut (b ∷ text) → IsPiece is_cut (a ∷ b ∷ text)
  IsPiece-cons a b text joined piece = record { filled = omega arith; uncut = at }
    where
      at : (k : ℕ) → k + 1 < length (a ∷ b ∷ text) → is_cut (slice_index (a ∷ b ∷ text) k) (slice_index (a ∷ b ∷ text) (k + 1)) ≡ false
      at zero h = joined
      at (suc k) h = rw (add-one (suc k)) (rw (add-one k) at (piece.uncut k (omega arith)))

  IsPiece-tail : (a b : ℕ) (text : List ℕ) → IsPiece is_cut (a ∷ b ∷ text) → IsPiece is_cut (b ∷ text)
  IsPiece-tail a b text piece = record {
    filled = omega arith;
    uncut = λ k h. rw (add-one k) (rw (add-one (suc k)) at (piece.uncut (suc k) (omega arith)));
  }

  -- a part without a boundary is one paragraph
  paragraphs-piece : (piece : List ℕ) → IsPiece is_cut piece → paragraphs is_cut piece ≡ piece ∷ []
  paragraphs-piece [] h = let filled = h.filled in absurd (omega arith)
  paragraphs-piece (a ∷ []) h = refl
  paragraphs-piece (a ∷ b ∷ text) h =
      paragraphs-uncut a b text (h.uncut 0 (omega arith)) ∙ ap (onto_first a) (paragraphs-piece (b ∷ text) (IsPiece-tail a b text h))

  -- a part without a boundary inside, followed by a boundary, is the first paragraph
  paragraphs-append : (piece : List ℕ) (c : ℕ) (text : List ℕ) → IsPiece is_cut piece → is_cut (slice_index piece (length piece - 1)) c ≡ true
      → paragraphs is_cut (piece ++ c ∷ text) ≡ piece ∷ paragraphs is_cut (c ∷ text)
  paragraphs-append [] c text h split = let filled = h.filled in absurd (omega arith)
  paragraphs-append (a ∷ []) c text h split = paragraphs-cut a c text split
  paragraphs-append (a ∷ b ∷ rest) c text h split =
      paragraphs-uncut a b (rest ++ c ∷ text) (h.uncut 0 (omega arith))
      ∙ ap (onto_first a) (paragraphs-append (b ∷ rest) c text (IsPiece-tail a b rest h) (rw (last-cons a b rest) at split))

  -- a text up to its first boundary has no boundary inside
  front_is_piece : (text : List ℕ) (k : ℕ) → 0 < k → k ≤ length text → ((m : ℕ) → 1 ≤ m → m < k → is_cut (slice_index text (m - 1)) (slice_index text m) ≡ false) → IsPiece is_cut (take k text)
  front_is_piece text k some within before =
      let size : length (take k text) ≡ k = length-take-le k text within in
      record {
        filled = omega arith;
        uncut = λ m h. let e : m + 1 - 1 ≡ m = omega arith in
            rw (get_or-take k text m 0 (omega arith), get_or-take k text (m + 1) 0 (omega arith)) (rw e at (before (m + 1) (omega arith) (omega arith)));
      }

  pub paragraphs-at_cut : (text : List ℕ) (k : ℕ) → 0 < k → k < length text → ((m : ℕ) → 1 ≤ m → m < k → is_cut (slice_index text (m - 1)) (slice_index text m) ≡ false)
      → is_cut (slice_index text (k - 1)) (slice_index text k) ≡ true → paragraphs is_cut text ≡ take k text ∷ paragraphs is_cut (drop k text)
  paragraphs-at_cut text k some within before here =
      let size : length (take k text) ≡ k = length-take-le k text (omega arith) in
      let rest : slice_index text k ∷ drop (k + 1) text ≡ drop k text = sym (drop_more text k 0 within) in
      let split : is_cut (slice_index (take k text) (length (take k text) - 1)) (slice_index text k) ≡ true = rw (size, get_or-take k text (k - 1) 0 (omega arith)) here in
      ap (paragraphs is_cut) (sym (ap (λ ys. take k text ++ ys) rest ∙ take-append-drop k text))
      ∙ paragraphs-append (take k text) (slice_index text k) (drop (k + 1) text) (front_is_piece text k some (omega arith) before) split
      ∙ ap (λ ys. take k text ∷ paragraphs is_cut ys) rest

  -- a text without a boundary is one paragraph
  pub paragraphs-no_cut : (text : List ℕ) → 0 < length text → ((m : ℕ) → 1 ≤ m → m < length text → is_cut (slice_index text (m - 1)) (slice_index text m) ≡ false) → paragraphs is_cut text ≡ text ∷ []
  paragraphs-no_cut text some none =
      paragraphs-piece text (subst (IsPiece is_cut) (take_all (length text) text (omega arith)) (front_is_piece text (length text) some (omega arith) none))

  -- the first paragraph of a text begins with the text's first character
  paragraphs-cons : (a : ℕ) (text : List ℕ) → (rest : List ℕ) × (parts : List (List ℕ)) × (paragraphs is_cut (a ∷ text) ≡ (a ∷ rest) ∷ parts)
  paragraphs-cons a [] = ([], [], refl)
  paragraphs-cons a (b ∷ text) =
      elim (cases_Bool (is_cut a b)) [
        | inl split ↦ ([], paragraphs is_cut (b ∷ text), paragraphs-cut a b text split)
        | inr joined ↦ let next = paragraphs-cons b text in (b ∷ next.0, next.1, paragraphs-uncut a b text joined ∙ ap (onto_first a) next.2)
      ]

  -- prepending a character to the first part keeps the parts valid if there is no boundary after the character
  ArePieces-onto_first : (a b : ℕ) (rest : List ℕ) (parts : List (List ℕ)) → is_cut a b ≡ false → ArePieces is_cut ((b ∷ rest) ∷ parts) → ArePieces is_cut ((a ∷ b ∷ rest) ∷ parts)
  ArePieces-onto_first a b rest [] joined piece = IsPiece-cons a b rest joined piece
  ArePieces-onto_first a b rest (next ∷ parts) joined pieces = (IsPiece-cons a b rest joined pieces.0, rw (last-cons a b rest) pieces.1, pieces.2)

  paragraphs_are : (text : List ℕ) → ArePieces is_cut (paragraphs is_cut text)
  paragraphs_are [] = tt
  paragraphs_are (a ∷ []) = IsPiece-one a
  paragraphs_are (a ∷ b ∷ text) =
      let next = paragraphs-cons b text in
      let pieces : ArePieces is_cut ((b ∷ next.0) ∷ next.1) = subst (ArePieces is_cut) next.2 (paragraphs_are (b ∷ text)) in
      elim (cases_Bool (is_cut a b)) [
        | inl split ↦ subst (ArePieces is_cut) (sym (paragraphs-cut a b text split ∙ ap (λ parts. (a ∷ []) ∷ parts) next.2)) (IsPiece-one a, split, pieces)
        | inr joined ↦ subst (ArePieces is_cut) (sym (paragraphs-uncut a b text joined ∙ ap (onto_first a) next.2)) (ArePieces-onto_first a b next.0 next.1 joined pieces)
      ]

  concat-paragraphs : (text : List ℕ) → concat (paragraphs is_cut text) ≡ text
  concat-paragraphs [] = refl
  concat-paragraphs (a ∷ []) = refl
  concat-paragraphs (a ∷ b ∷ text) =
      elim (cases_Bool (is_cut a b)) [
        | inl split ↦ ap concat (paragraphs-cut a b text split) ∙ ap (λ rest. a ∷ rest) (concat-paragraphs (b ∷ text))
        | inr joined ↦ ap concat (paragraphs-uncut a b text joined) ∙ concat-onto_first a (paragraphs is_cut (b ∷ text)) ∙ ap (λ rest. a ∷ rest) (concat-paragraphs (b ∷ text))
      ]

  paragraphs-concat : (pieces : List (List ℕ)) → ArePieces is_cut pieces → paragraphs is_cut (concat pieces) ≡ pieces
  paragraphs-concat [] h = refl
  paragraphs-concat (piece ∷ []) h = ap (paragraphs is_cut) (append-nil piece) ∙ paragraphs-piece piece h
  paragraphs-concat (piece ∷ [] ∷ pieces) h = absurd (empty_piece pieces h.2)
    where
      empty_piece : (pieces : List (List ℕ)) → ArePieces is_cut ([] ∷ pieces) → ⊥
      empty_piece [] h = let filled = h.filled in omega arith
      empty_piece (next ∷ pieces) h = let filled = h.0.filled in omega arith
  paragraphs-concat (piece ∷ (c ∷ rest) ∷ pieces) h =
      paragraphs-append piece c (rest ++ concat pieces) h.0 h.1 ∙ ap (λ parts. piece ∷ parts) (paragraphs-concat ((c ∷ rest) ∷ pieces) h.2)

pub ParagraphsArePieces-holds : ParagraphsArePieces
ParagraphsArePieces-holds = record { pieces = paragraphs_are; whole = concat-paragraphs; only = paragraphs-concat }
