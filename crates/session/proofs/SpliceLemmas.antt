-- Replacing the middle of a text: if the first and last characters of the middle stay the same, the
-- paragraphs around it are unchanged.
use Rattle.std.proofs.Common.{◌≡◌, ℕ, ◌+◌, ◌-◌, ◌<◌, ◌≤◌, Bool, true, ◌&&◌, List, [], ◌∷◌, ◌++◌, length, take, drop, slice_index, nat_le, zero-add, suc-add, add_assoc, refl, sym, ap, ◌∙◌, arith}
use Rattle.std.specs.List.{concat}
use Rattle.std.proofs.lemmas.List.{append-nil, append_assoc, get_or-append-add, get_or_append_left, length-append, length-drop, length-take-le, get_or-take, get_or-drop, take-append-le, drop-append-le}
use Rattle.std.proofs.lemmas.List.Folds.{concat-append, list_all-append}
use Rattle.std.proofs.Math.Bool.{and-true}
use Rattle.std.proofs.lemmas.Bool.{and_parts}
use Rattle.bidi.specs.Cuts.{paragraphs}
use Rattle.bidi.specs.Pieces.{ArePieces, ParagraphsArePieces}
use Rattle.session.specs.Edits.{replaced, replacing, are_within}
use Rattle.lines.specs.declared.engine.TheConstants.{PARAGRAPH_LIMIT}
use Rattle.session.specs.Kept.{IsCutAt}

-- two concatenated texts start with the first character of the first text, and end with the last character of
-- the second
first-append : (before after : List ℕ) → 0 < length before → slice_index (before ++ after) 0 ≡ slice_index before 0
first-append before after some = get_or_append_left before after 0 0 some

last-append : (before after : List ℕ) → 0 < length after → slice_index (before ++ after) (length (before ++ after) - 1) ≡ slice_index after (length after - 1)
last-append before after some =
    let n : length before + length after - 1 ≡ length before + (length after - 1) = omega arith in
    rw (length-append before after, n) (get_or-append-add before after (length after - 1) 0)

module _ (is_cut : ℕ → ℕ → Bool) where
  first_is_filled : (piece : List ℕ) (pieces : List (List ℕ)) → ArePieces is_cut (piece ∷ pieces) → 0 < length piece
  first_is_filled piece [] h = h.filled
  first_is_filled piece (next ∷ pieces) h = h.0.filled

  some-concat : (piece : List ℕ) (pieces : List (List ℕ)) → ArePieces is_cut (piece ∷ pieces) → 0 < length (concat (piece ∷ pieces))
  some-concat piece pieces h = let some = first_is_filled piece pieces h in rw (length-append piece (concat pieces)) (omega arith)

  -- if there is a paragraph boundary between two texts, their pieces together are the pieces of the
  -- concatenated text, and vice versa
  pub ArePieces-append : (before after : List (List ℕ)) → ArePieces is_cut before → ArePieces is_cut after → IsCutAt is_cut (concat before) (concat after) → ArePieces is_cut (before ++ after)
  ArePieces-append [] after h g between = g
  ArePieces-append (piece ∷ []) [] h g between = h
  ArePieces-append (piece ∷ []) (next ∷ after) h g between =
      let some = first_is_filled next after g in
      let here = between (rw append-nil h.filled) (some-concat next after g) in
      (h, rw (append-nil piece, first-append next (concat after) some) at here, g)
  ArePieces-append (piece ∷ next ∷ before) after h g between =
      let some = some-concat next before h.2 in
      let step : 0 < length (concat (piece ∷ next ∷ before)) = rw (length-append piece (concat (next ∷ before))) (omega arith) in
      (h.0, h.1, ArePieces-append (next ∷ before) after h.2 g (λ _ filled. rw (last-append piece (concat (next ∷ before)) some) at (between step filled)))

  ArePieces-before : (before after : List (List ℕ)) → ArePieces is_cut (before ++ after) → ArePieces is_cut before
  ArePieces-before [] after h = tt
  ArePieces-before (piece ∷ []) [] h = h
  ArePieces-before (piece ∷ []) (next ∷ after) h = h.0
  ArePieces-before (piece ∷ next ∷ before) after h = (h.0, h.1, ArePieces-before (next ∷ before) after h.2)

  ArePieces-after : (before after : List (List ℕ)) → ArePieces is_cut (before ++ after) → ArePieces is_cut after
  ArePieces-after [] after h = h
  ArePieces-after (piece ∷ []) [] h = tt
  ArePieces-after (piece ∷ []) (next ∷ after) h = h.2
  ArePieces-after (piece ∷ next ∷ before) after h = ArePieces-after (next ∷ before) after h.2

  ArePieces-between : (before after : List (List ℕ)) → ArePieces is_cut (before ++ after) → IsCutAt is_cut (concat before) (concat after)
  ArePieces-between [] after h some filled = absurd (omega arith)
  ArePieces-between (piece ∷ []) [] h some filled = absurd (omega arith)
  ArePieces-between (piece ∷ []) (next ∷ after) h some filled =
      rw (append-nil piece, first-append next (concat after) (first_is_filled next after h.2)) h.1
  ArePieces-between (piece ∷ next ∷ before) after h some filled =
      let last = some-concat next before (ArePieces-before (next ∷ before) after h.2) in
      rw (last-append piece (concat (next ∷ before)) last) (ArePieces-between (next ∷ before) after h.2 last filled)

  -- if a new text replaces the middle pieces and keeps their first and last characters, its paragraphs
  -- replace these pieces
  pub paragraphs-splice : ParagraphsArePieces → (left mid right : List (List ℕ)) (new : List ℕ) → ArePieces is_cut (left ++ (mid ++ right))
      → (0 < length (concat left) → (0 < length (concat mid)) × (0 < length new) × (slice_index new 0 ≡ slice_index (concat mid) 0))
      → (0 < length (concat right) → (0 < length (concat mid)) × (0 < length new) × (slice_index new (length new - 1) ≡ slice_index (concat mid) (length (concat mid) - 1)))
      → paragraphs is_cut (concat left ++ (new ++ concat right)) ≡ left ++ (paragraphs is_cut new ++ right)
  paragraphs-splice law left mid right new h first last =
      let inner = ArePieces-after left (mid ++ right) h in
      let after : IsCutAt is_cut new (concat right) = λ _ filled.
      let same = last filled in rw same.2 (ArePieces-between mid right inner same.0 filled) in
      let tail : ArePieces is_cut (paragraphs is_cut new ++ right) =
      ArePieces-append (paragraphs is_cut new) right (law.pieces is_cut new) (ArePieces-after mid right inner) (rw (law.whole is_cut new) after) in
      let text : concat (paragraphs is_cut new ++ right) ≡ new ++ concat right = concat-append (paragraphs is_cut new) right ∙ ap (λ t. t ++ concat right) (law.whole is_cut new) in
      let before : IsCutAt is_cut (concat left) (new ++ concat right) = λ filled _.
      let same = first filled in
      let mid_some : 0 < length (concat (mid ++ right)) = rw (concat-append mid right, length-append (concat mid) (concat right)) (omega arith) in
      let cut = ArePieces-between left (mid ++ right) h filled mid_some in
      rw (first-append new (concat right) same.1, same.2) (rw (concat-append mid right, first-append (concat mid) (concat right) same.0) at cut) in
      let all : ArePieces is_cut (left ++ (paragraphs is_cut new ++ right)) =
      ArePieces-append left (paragraphs is_cut new ++ right) (ArePieces-before left (mid ++ right) h) tail (rw text before) in
      let whole : concat (left ++ (paragraphs is_cut new ++ right)) ≡ concat left ++ (new ++ concat right) =
      concat-append left (paragraphs is_cut new ++ right) ∙ ap (λ t. concat left ++ t) text in
      ap (paragraphs is_cut) (sym whole) ∙ law.only is_cut (left ++ (paragraphs is_cut new ++ right)) all

-- an edit inside the middle of a text changes only the middle
take-add : (left rest : List ℕ) (n : ℕ) → take (length left + n) (left ++ rest) ≡ left ++ take n rest
take-add [] rest n = rw zero-add refl
take-add (x ∷ left) rest n = rw suc-add (ap (λ t. x ∷ t) (take-add left rest n))

drop-add : (left rest : List ℕ) (n : ℕ) → drop (length left + n) (left ++ rest) ≡ drop n rest
drop-add [] rest n = rw zero-add refl
drop-add (x ∷ left) rest n = rw suc-add (drop-add left rest n)

pub replaced-middle : (left mid right piece : List ℕ) (from count : ℕ) → from + count ≤ length mid
    → replaced (left ++ (mid ++ right)) (replacing (length left + from) count piece) ≡ left ++ (replaced mid (replacing from count piece) ++ right)
replaced-middle left mid right piece from count within =
    let front : take (length left + from) (left ++ (mid ++ right)) ≡ left ++ take from mid =
    take-add left (mid ++ right) from ∙ ap (λ t. left ++ t) (take-append-le from mid right (omega arith)) in
    let back : drop (length left + from + count) (left ++ (mid ++ right)) ≡ drop (from + count) mid ++ right =
    ap (λ n. drop n (left ++ (mid ++ right))) (add_assoc (length left) from count) ∙ drop-add left (mid ++ right) (from + count) ∙ drop-append-le (from + count) mid right within in
    rw (front, back) (simp append_assoc)

-- an edit that does not reach the ends of a text keeps the text's first and last characters
pub first-replaced : (mid piece : List ℕ) (from count : ℕ) → 0 < from → from + count ≤ length mid
    → (0 < length mid) × (0 < length (replaced mid (replacing from count piece))) × (slice_index (replaced mid (replacing from count piece)) 0 ≡ slice_index mid 0)
first-replaced mid piece from count some within =
    let front : length (take from mid) ≡ from = length-take-le from mid (omega arith) in (
      omega arith,
      rw (length-append (take from mid) (piece ++ drop (from + count) mid)) (omega arith),
      first-append (take from mid) (piece ++ drop (from + count) mid) (omega arith) ∙ get_or-take from mid 0 0 some,
    )

pub last-replaced : (mid piece : List ℕ) (from count : ℕ) → from + count < length mid
    → (0 < length mid) × (0 < length (replaced mid (replacing from count piece)))
    × (slice_index (replaced mid (replacing from count piece))
    (length (replaced mid (replacing from count piece)) - 1) ≡ slice_index mid (length mid - 1))
last-replaced mid piece from count within =
    let back : length (drop (from + count) mid) ≡ length mid - (from + count) = length-drop (from + count) mid in
    let tail : 0 < length (piece ++ drop (from + count) mid) = rw (length-append piece (drop (from + count) mid)) (omega arith) in
    let place : from + count + (length (drop (from + count) mid) - 1) ≡ length mid - 1 = omega arith in (
      omega arith,
      rw (length-append (take from mid) (piece ++ drop (from + count) mid)) (omega arith),
      last-append (take from mid) (piece ++ drop (from + count) mid) tail
          ∙ last-append piece (drop (from + count) mid) (omega arith)
          ∙ get_or-drop (from + count) mid (length (drop (from + count) mid) - 1) 0
          ∙ ap (slice_index mid) place,
    )

pub length-replaced : (mid piece : List ℕ) (from count : ℕ) → from + count ≤ length mid → length (replaced mid (replacing from count piece)) ≡ length mid - count + length piece
length-replaced mid piece from count within =
    let front : length (take from mid) ≡ from = length-take-le from mid (omega arith) in
    let back : length (drop (from + count) mid) ≡ length mid - (from + count) = length-drop (from + count) mid in
    rw (length-append (take from mid) (piece ++ drop (from + count) mid), length-append piece (drop (from + count) mid)) (omega arith)

-- if no old paragraph is too long, then after the change some paragraph is too long only if a new one is
pub are_within-splice : (left mid right new : List (List ℕ)) → are_within (left ++ (mid ++ right)) ≡ true → are_within (left ++ (new ++ right)) ≡ are_within new
are_within-splice left mid right new h =
    let p : List ℕ → Bool = λ q. nat_le (length q) PARAGRAPH_LIMIT in
    let outer = and_parts (are_within left) (are_within (mid ++ right)) (rw (list_all-append p left (mid ++ right)) at h) in
    let inner = and_parts (are_within mid) (are_within right) (rw (list_all-append p mid right) at outer.1) in
    list_all-append p left (new ++ right) ∙ ap (λ b. b && are_within (new ++ right)) outer.0
    ∙ list_all-append p new right ∙ ap (λ b. are_within new && b) inner.1 ∙ and-true (are_within new)
