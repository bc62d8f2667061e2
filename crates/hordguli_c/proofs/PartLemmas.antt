-- Copying the text of a range to an array, part by part.
use Rattle.std.proofs.Common.{◌≡◌, ℕ, zero, suc, ◌+◌, ◌-◌, ◌≤◌, List, [], ◌∷◌, ◌++◌, length, drop, take, nat_lt, unwrap_or, Some, None, refl, sym, ap, ◌∙◌, arith}
use Rattle.std.specs.List.{slice_range}
use Rattle.std.proofs.lemmas.Bool.{cond-false, le-ltb}
use Rattle.std.proofs.lemmas.List.{drop-drop, length-take}
use Rattle.std.proofs.Math.Seq.{take-add}
use Rattle.std.proofs.lemmas.Slice.{take-put_mid}
use borrow.Rule.Slice.PartMut.{put_mid}
use Rattle.lines.specs.Layouts.{Layout}
use Rattle.session.specs.Kept.{text_of}
use Rattle.session.specs.Reading.{paragraph_end, text_part}

-- a prefix of a prefix of a list is a prefix of the list
front_is : {A : Type 0} (a b : ℕ) (zs : List A) → take a (take b zs) ≡ take (length (take a (take b zs))) zs
front_is zero b zs = refl
front_is (suc a) zero zs = refl
front_is (suc a) (suc b) [] = refl
front_is (suc a) (suc b) (z ∷ zs) = ap (λ ys. z ∷ ys) (front_is a b zs)

-- ---- the part that `text_part` returns for the rest of a range
module _ (kept : List Layout) (at count : ℕ) (within : at + count ≤ length (text_of kept)) where
  part_within : text_part kept at count ≡ Some (take count (slice_range (text_of kept) at (paragraph_end kept at)))
  part_within = cond-false (nat_lt (length (text_of kept)) (at + count)) None _ (le-ltb (length (text_of kept)) (at + count) within)

  pub part_there : None ≡ text_part kept at count → ⊥
  part_there none = let wrong = none ∙ part_within in cc wrong

  module _ (part : List ℕ) (read : Some part ≡ text_part kept at count) where
    part_is : part ≡ take count (slice_range (text_of kept) at (paragraph_end kept at))
    part_is = ap (λ o. unwrap_or o part) (read ∙ part_within)

    pub part_few : length part ≤ count
    part_few = omega (arith, ap length part_is, length-take count (slice_range (text_of kept) at (paragraph_end kept at)))

    pub part_front : part ≡ take (length part) (drop at (text_of kept))
    part_front =
        let is = part_is in
        is ∙ front_is count (paragraph_end kept at - at) (drop at (text_of kept)) ∙ ap (λ (cs : List ℕ). take (length cs) (drop at (text_of kept))) (sym is)

-- if an array begins with the first `done` characters of a range, copying the next part of the range to index
-- `done` extends this prefix by that part
pub next_part : (text part array written : List ℕ) (pos done k : ℕ) → part ≡ take (length part) (drop (pos + done) text) → written ≡ part
    → done ≤ length array → take done array ≡ take done (drop pos text)
    → take (done + length part) (put_mid done k array written) ≡ take (done + length part) (drop pos text)
next_part text part array written pos done k front same within before =
    take-put_mid done k array written (done + length part) (ap (λ (cs : List ℕ). done + length cs) (sym same)) within
    ∙ ap (λ cs. cs ++ written) before
    ∙ ap (λ cs. take done (drop pos text) ++ cs) (same ∙ front ∙ ap (take (length part)) (sym (drop-drop done pos text)))
    ∙ sym (take-add done (length part) (drop pos text))
