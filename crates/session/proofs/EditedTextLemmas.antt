-- The text that an edit makes of a paragraph: how many code units it has, and that it has no new boundaries except near the
-- edited characters.
use Rattle.std.proofs.Common.{◌≡◌, ◌∙◌, ℕ, ◌+◌, ◌-◌, ◌<◌, ◌≤◌, Bool, false, List, [], ◌∷◌, length, take, drop, get_or, sum_by, inl, inr, sym, ap, subst, arith}
use Rattle.std.specs.Prelude.{min}
use Rattle.std.specs.List.{slice_range}
use Rattle.std.proofs.lemmas.Bool.{cases_lt}
use Rattle.std.proofs.lemmas.List.{append-nil, drop-drop, get_or-drop, get_or-take, length-drop, length-take-le}
use Rattle.std.proofs.lemmas.List.Sums.{sum_by-take-drop}
use Rattle.bidi.specs.Cuts.{paragraphs}
use Rattle.bidi.specs.Pieces.{ArePieces, IsPiece, ParagraphsArePieces}
use Rattle.lines.specs.SameKind.{IsEdited}
use Rattle.lines.specs.declared.same_kind.Replacement.{Replacement}

module _ (f : ℕ → ℕ) where
  -- the sum over a text in three parts
  in_parts : (xs : List ℕ) (at n : ℕ) → sum_by f (take at xs) + (sum_by f (slice_range xs at (at + n)) + sum_by f (drop (at + n) xs)) ≡ sum_by f xs
  in_parts xs at n =
      let size : at + n - at ≡ n = omega arith in
      ap (λ m. sum_by f (take at xs) + (sum_by f (take m (drop at xs)) + sum_by f (drop (at + n) xs))) size
      ∙ ap (λ (ys : List ℕ). sum_by f (take at xs) + (sum_by f (take n (drop at xs)) + sum_by f ys)) (sym (drop-drop n at xs))
      ∙ ap (λ m. sum_by f (take at xs) + m) (sum_by-take-drop f (drop at xs) n) ∙ sum_by-take-drop f xs at

  -- the sum over a text before and after an edit
  edited_sum : (old new : List ℕ) (edit : Replacement) → IsEdited old new edit
      → sum_by f new + sum_by f (slice_range old edit.at (edit.at + edit.removed)) ≡ sum_by f old + sum_by f (slice_range new edit.at (edit.at + edit.inserted))
  edited_sum old new edit is =
      omega (
        arith,
        in_parts old edit.at edit.removed,
        in_parts new edit.at edit.inserted,
        ap (λ (xs : List ℕ). sum_by f xs) is.before,
        ap (λ (xs : List ℕ). sum_by f xs) is.after,
      )

  -- the sum over the new text, from the sums over the old text and over the characters that were removed and inserted
  pub new_sum : (old new : List ℕ) (edit : Replacement) (whole removed inserted : ℕ) → IsEdited old new edit → whole ≡ sum_by f old
      → removed ≡ sum_by f (slice_range old edit.at (edit.at + edit.removed)) → inserted ≡ sum_by f (slice_range new edit.at (edit.at + edit.inserted))
      → (removed ≤ whole) × (whole - removed + inserted ≡ sum_by f new)
  new_sum old new edit whole removed inserted is whole_is removed_is inserted_is =
      let sums = edited_sum old new edit is in
      let part = in_parts old edit.at edit.removed in
      (omega (arith, whole_is, removed_is, part), omega (arith, whole_is, removed_is, inserted_is, part, sums))

module _ (law : ParagraphsArePieces) (is_cut : ℕ → ℕ → Bool) where
  -- a text that is one paragraph has no boundary inside
  piece_of : (text : List ℕ) → paragraphs is_cut text ≡ text ∷ [] → IsPiece is_cut text
  piece_of text one = subst (ArePieces is_cut) one (law.pieces is_cut text)

  module _ (old new : List ℕ) (edit : Replacement) (is : IsEdited old new edit) (some : 0 < length new) (one : paragraphs is_cut old ≡ old ∷ []) where
    abbrev «end» : ℕ
    «end» = edit.at + edit.inserted

    -- the characters next to the edited ones, and those, are one paragraph
    pub still_one : (from to : ℕ) → from ≡ edit.at - 1 → to ≡ min (length new) («end» + 1)
        → (0 < length (slice_range new from to) → paragraphs is_cut (slice_range new from to) ≡ slice_range new from to ∷ []) → paragraphs is_cut new ≡ new ∷ []
    still_one from to from_is to_is near =
        let around : List ℕ = slice_range new from to in
        let uncut : (k : ℕ) → k + 1 < length new → is_cut (get_or new k 0) (get_or new (k + 1) 0) ≡ false =
        λ k inside. elim (cases_lt (k + 1) edit.at) [
          | inl before ↦
              let same : (j : ℕ) → j < edit.at → get_or old j 0 ≡ get_or new j 0 =
              λ j below. sym (get_or-take edit.at old j 0 below) ∙ ap (λ (xs : List ℕ). get_or xs j 0) (sym is.before) ∙ get_or-take edit.at new j 0 below in
              subst (λ c. is_cut c (get_or new (k + 1) 0) ≡ false) (same k (omega (arith, before)))
              (subst (λ d. is_cut (get_or old k 0) d ≡ false) (same (k + 1) before) ((piece_of old one).uncut k (omega (arith, before, is.within.0))))
          | inr not_before ↦
              elim (cases_lt k «end») [
                | inl inner ↦
                    let size : length around ≡ to - from = length-take-le (to - from) (drop from new) (omega (arith, length-drop from new, to_is)) in
                    let low : from ≤ k = omega (arith, not_before, from_is) in
                    let high : k + 1 < to = omega (arith, inner, inside, to_is) in
                    let read : (j : ℕ) → from ≤ j → j < to → get_or around (j - from) 0 ≡ get_or new j 0 =
                    λ j above below.
                    let place : from + (j - from) ≡ j = omega (arith, above) in
                    get_or-take (to - from) (drop from new) (j - from) 0 (omega (arith, above, below)) ∙ get_or-drop from new (j - from) 0 ∙ ap (λ m. get_or new m 0) place in
                    let next : k - from + 1 ≡ k + 1 - from = omega (arith, low) in
                    subst (λ c. is_cut c (get_or new (k + 1) 0) ≡ false) (read k low (omega (arith, high)))
                    (subst (λ d. is_cut (get_or around (k - from) 0) d ≡ false) (ap (λ m. get_or around m 0) next ∙ read (k + 1) (omega (arith, low)) high)
                    ((piece_of around (near (omega (arith, size, low, high)))).uncut (k - from) (omega (arith, size, low, high))))
                | inr behind ↦
                    let gone : ℕ = edit.at + edit.removed in
                    let sizes : length new - «end» ≡ length old - gone =
                    sym (length-drop «end» new) ∙ ap (λ (xs : List ℕ). length xs) is.after ∙ length-drop gone old in
                    let same : (j : ℕ) → «end» ≤ j → get_or old (gone + (j - «end»)) 0 ≡ get_or new j 0 =
                    λ j above.
                    let place : «end» + (j - «end») ≡ j = omega (arith, above) in
                    sym (get_or-drop gone old (j - «end») 0) ∙ ap (λ (xs : List ℕ). get_or xs (j - «end») 0) (sym is.after) ∙ get_or-drop «end» new (j - «end») 0
                    ∙ ap (λ m. get_or new m 0) place in
                    let high : «end» ≤ k = omega (arith, behind) in
                    let next : gone + (k - «end») + 1 ≡ gone + (k + 1 - «end») = omega (arith, high) in
                    subst (λ c. is_cut c (get_or new (k + 1) 0) ≡ false) (same k high)
                    (subst (λ d. is_cut (get_or old (gone + (k - «end»)) 0) d ≡ false) (ap (λ m. get_or old m 0) next ∙ same (k + 1) (omega (arith, high)))
                    ((piece_of old one).uncut (gone + (k - «end»)) (omega (arith, sizes, inside, high, is.within.0, is.within.1))))
              ]
        ] in
        let whole : IsPiece is_cut new = record { filled = some; uncut = uncut } in
        ap (paragraphs is_cut) (sym (append-nil new)) ∙ law.only is_cut (new ∷ []) whole
