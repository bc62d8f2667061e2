-- Each line of a text is a line of one of its paragraphs.
use Rattle.std.proofs.Common.{◌≡◌, ℕ, zero, suc, zero-add, suc-add, ◌+◌, ◌<◌, ◌≤◌, List, [], ◌∷◌, ◌++◌, length, Some, None, refl, sym, ap, ap₂, ◌∙◌, arith}
use Rattle.std.specs.List.{slice_get}
use Rattle.std.proofs.lemmas.List.Concat.{flat_map-append}
use Rattle.std.proofs.lemmas.Option.{slice_get_past}
use Rattle.lines.specs.Layouts.{Layout}
use Rattle.store.specs.Finding.{Finds}
use Rattle.store.specs.declared.found.Found.{Found}
use Rattle.lines.specs.Layouts.{visuals}
use Rattle.session.specs.Kept.{lines_in}
use Rattle.session.proofs.BorderLemmas.{chars_of, lines_of, length-lines, length-visuals, item_read}

pub slice_get_after : {A : Type 0} (xs ys : List A) (i : ℕ) → slice_get (xs ++ ys) (length xs + i) ≡ slice_get ys i
slice_get_after [] ys i = rw zero-add refl
slice_get_after (x ∷ xs) ys i = rw suc-add (slice_get_after xs ys i)

pub slice_get_left : {A : Type 0} (xs ys : List A) (i : ℕ) → i < length xs → slice_get (xs ++ ys) i ≡ slice_get xs i
slice_get_left [] ys i within = absurd (omega arith)
slice_get_left (x ∷ xs) ys zero within = refl
slice_get_left (x ∷ xs) ys (suc i) within = slice_get_left xs ys i (omega arith)

pub line_read : (kept : List Layout) (n : ℕ) (found : Found) → Finds lines_of chars_of lines_of kept n found → (l : Layout) → Some l ≡ slice_get kept found.index
    → slice_get (lines_in kept) n ≡ slice_get (visuals l) found.rest
line_read kept n found f l read =
    let item : l ≡ f.item = item_read lines_of kept n found f l read in
    let whole : lines_in kept ≡ lines_in f.before ++ (visuals f.item ++ lines_in f.after) = ap lines_in f.place ∙ flat_map-append visuals f.before (f.item ∷ f.after) in
    let place : n ≡ length (lines_in f.before) + found.rest = sym f.rest ∙ ap (λ m. m + found.rest) (sym (length-lines f.before)) in
    let within : found.rest < length (visuals f.item) = omega (arith, f.within, length-visuals f.item) in
    ap₂ slice_get whole place ∙ slice_get_after (lines_in f.before) (visuals f.item ++ lines_in f.after) found.rest
    ∙ slice_get_left (visuals f.item) (lines_in f.after) found.rest within
    ∙ ap (λ x. slice_get (visuals x) found.rest) (sym item)

pub line_past : (kept : List Layout) (n total : ℕ) → total ≡ length (lines_in kept) → total ≤ n → None ≡ slice_get (lines_in kept) n
line_past kept n total is past = sym (slice_get_past (lines_in kept) n (omega arith))
