-- Extents in one list, and lists of extents and of character properties that are written one item at a time.
use Rattle.std.proofs.Common.{◌≡◌, ℕ, zero, suc, ◌+◌, ◌*◌, ◌/◌, ◌<◌, ◌≤◌, List, [], ◌∷◌, ◌++◌, length, length-append, map, take, drop, get_or, set, subst, refl, ap, ap₂, sym, ◌∙◌, arith}
use Rattle.std.proofs.lemmas.List.{map-append, take_all, take_more, take_more_set}
use Rattle.std.proofs.lemmas.List.{append_assoc}
use Rattle.std.proofs.Math.Seq.{drop-append_seam, take-append_seam}
use Rattle.lines.specs.Extents.{from_pairs, in_pairs, unpacked, LineExtents}
use Rattle.lines.specs.declared.fill.Shown.{Shown}

pub spans_as : (starts seen : List ℕ) (parts seen_parts : List Shown) → starts ≡ seen → parts ≡ seen_parts
    → let here : LineExtents = record { starts = starts; shown = parts } in here ≡ record { starts = seen; shown = seen_parts }
spans_as starts seen parts seen_parts e f = rw (e, f) refl

pub length-in_pairs : (parts : List Shown) → length (in_pairs parts) ≡ 2 * length parts
length-in_pairs [] = refl
length-in_pairs (part ∷ parts) = omega (arith, length-in_pairs parts)

from_in : (parts : List Shown) → from_pairs (in_pairs parts) ≡ parts
from_in [] = refl
from_in (part ∷ parts) = ap (λ (ps : List Shown). part ∷ ps) (from_in parts)

pub in_pairs-append : (parts more : List Shown) → in_pairs (parts ++ more) ≡ in_pairs parts ++ in_pairs more
in_pairs-append [] more = refl
in_pairs-append (part ∷ parts) more = ap (λ (xs : List ℕ). part.len ∷ part.columns ∷ xs) (in_pairs-append parts more)

-- appending the pair of part k to those of the first k parts yields those of the first k + 1
pub pairs_more : (starts items more : List ℕ) (parts : List Shown) (k : ℕ) (part : Shown) → k < length parts → part ≡ get_or parts k part
    → items ≡ starts ++ in_pairs (take k parts) → more ≡ (items ++ part.len ∷ []) ++ part.columns ∷ [] → more ≡ starts ++ in_pairs (take (k + 1) parts)
pairs_more starts items more parts k part below is so_far put =
    let pair : List ℕ = part.len ∷ part.columns ∷ [] in
    let pairs : List ℕ = in_pairs (take k parts) in
    let next : in_pairs (take (k + 1) parts) ≡ pairs ++ pair =
    ap in_pairs (take_more parts k part below ∙ ap (λ (p : Shown). take k parts ++ p ∷ []) (sym is)) ∙ in_pairs-append (take k parts) (part ∷ []) in
    put ∙ append_assoc items (part.len ∷ []) (part.columns ∷ []) ∙ ap (λ (xs : List ℕ). xs ++ pair) so_far ∙ append_assoc starts pairs pair ∙ ap (λ (xs : List ℕ). starts ++ xs) (sym next)

-- a list that consists of starts and shown parts is unpacked to extents with these starts and shown parts
pub unpacked_is : (starts : List ℕ) (parts : List Shown) → length parts ≡ length starts
    → unpacked (starts ++ in_pairs parts) ≡ record { starts = starts; shown = parts }
unpacked_is starts parts same =
    let items : List ℕ = starts ++ in_pairs parts in
    let count : length starts ≡ length items / 3 = omega (arith, length-append starts (in_pairs parts), length-in_pairs parts, same) in
    spans_as _ _ _ _
    (subst (λ (n : ℕ). take n items ≡ starts) count (take-append_seam starts (in_pairs parts)))
    (subst (λ (n : ℕ). from_pairs (drop n items) ≡ parts) count (ap from_pairs (drop-append_seam starts (in_pairs parts)) ∙ from_in parts))

pub starts_in : (items starts : List ℕ) (parts : List Shown) → length parts ≡ length starts → items ≡ starts ++ in_pairs parts → (unpacked items).starts ≡ starts
starts_in items starts parts same is = ap (λ (e : LineExtents). e.starts) (ap unpacked is ∙ unpacked_is starts parts same)

pub parts_in : (items starts : List ℕ) (parts : List Shown) → length parts ≡ length starts → items ≡ starts ++ in_pairs parts → (unpacked items).shown ≡ parts
parts_in items starts parts same is = ap (λ (e : LineExtents). e.shown) (ap unpacked is ∙ unpacked_is starts parts same)

-- the k-th shown part has the k-th pair
pub pair_at : (items : List ℕ) (k : ℕ) (d : Shown) → 2 * k + 1 < length items
    → get_or (from_pairs items) k d ≡ record { len = get_or items (2 * k) 0; columns = get_or items (2 * k + 1) 0 }
pair_at [] k d h = absurd (omega (arith, h))
pair_at (a ∷ []) k d h = absurd (omega (arith, h))
pair_at (a ∷ b ∷ items) zero d h = refl
pair_at (a ∷ b ∷ items) (suc k) d h =
    let first : suc (suc (2 * k)) ≡ 2 * suc k = omega arith in
    let second : suc (suc (2 * k + 1)) ≡ 2 * suc k + 1 = omega arith in
    pair_at items k d (omega (arith, h))
    ∙ ap₂ (λ (i j : ℕ). let part : Shown = record { len = get_or (a ∷ b ∷ items) i 0; columns = get_or (a ∷ b ∷ items) j 0 } in part) first second

module _ {A : Type 0} (f : ℕ → A) (text : List ℕ) (list : List A) (k : ℕ) where
  pub looked_up : (c : ℕ) (answer : A) → k < length text → length list ≡ length text → c ≡ get_or text k c → answer ≡ f c
      → take k list ≡ map f (take k text) → take (k + 1) (set list k answer) ≡ map f (take (k + 1) text)
  looked_up c answer below size is answered so_far =
      take_more_set list k answer (omega (arith, below, size))
      ∙ ap₂ (λ (xs : List A) (x : A). xs ++ x ∷ []) so_far (answered ∙ ap f is)
      ∙ sym (ap (map f) (take_more text k c below) ∙ map-append f (take k text) (get_or text k c ∷ []))

  pub all_looked_up : length list ≡ length text → length text ≤ k → take k list ≡ map f (take k text) → list ≡ map f text
  all_looked_up size last so_far =
      sym (take_all k list (omega (arith, size, last))) ∙ so_far ∙ ap (map f) (take_all k text last)
