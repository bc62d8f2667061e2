-- The first paragraph of a text has no boundary inside it. A text without a paragraph boundary is one paragraph.
use Rattle.std.proofs.Common.{◌≡◌, ◌∙◌, ℕ, ◌<◌, ◌≤◌, Bool, List, [], ◌∷◌, length, take, Some, None, sym, subst, ap, arith}
use Rattle.std.proofs.lemmas.List.{append-nil, length-take-le}
use Rattle.bidi.specs.Cuts.{SplitsAt, paragraphs}
use Rattle.bidi.specs.Pieces.{ArePieces, IsPiece, ParagraphsArePieces}
use Rattle.lines.specs.Layouts.{IsParagraph, Rules, cut_by}

first_piece : (is_cut : ℕ → ℕ → Bool) (p : List ℕ) (ps : List (List ℕ)) → ArePieces is_cut (p ∷ ps) → IsPiece is_cut p
first_piece is_cut p [] pieces = pieces
first_piece is_cut p (q ∷ ps) pieces = pieces.0

first_alone : ParagraphsArePieces → (is_cut : ℕ → ℕ → Bool) (text p : List ℕ) (ps : List (List ℕ)) → paragraphs is_cut text ≡ p ∷ ps → paragraphs is_cut p ≡ p ∷ []
first_alone law is_cut text p ps splits =
    let piece = first_piece is_cut p ps (subst (ArePieces is_cut) splits (law.pieces is_cut text)) in
    ap (paragraphs is_cut) (sym (append-nil p)) ∙ law.only is_cut (p ∷ []) piece

pub first_is_paragraph : ParagraphsArePieces → (rules : Rules) (text paragraph : List ℕ) (k : ℕ) → SplitsAt (cut_by rules) text (Some k) → k ≤ 1048576
    → paragraph ≡ take k text → IsParagraph rules paragraph
first_is_paragraph law rules text paragraph k splits short is =
    let len : length (take k text) ≡ k = length-take-le k text (omega (arith, splits.1)) in
    subst (IsParagraph rules) (sym is) (record {
      whole = first_alone law (cut_by rules) text (take k text) _ splits.2;
      within = omega (arith, len, short);
    })

pub last_is_paragraph : (rules : Rules) (text : List ℕ) → SplitsAt (cut_by rules) text None → 0 < length text → length text ≤ 1048576 → IsParagraph rules text
last_is_paragraph rules text splits some short = record { whole = splits some; within = short }
