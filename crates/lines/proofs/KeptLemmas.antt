-- The stored lines of a paragraph: their starts, their shown parts, and the k-th line.
use Rattle.std.proofs.Common.{◌≡◌, ℕ, zero, suc, ◌+◌, ◌<◌, ◌≤◌, false, List, [], ◌∷◌, length, map, Some, slice_get, slice_index, slice_index_or, slice_range, refl, ap, ap₂, subst, ◌∙◌, arith}
use Rattle.std.proofs.lemmas.List.Elements.{All-get_or}
use Rattle.std.proofs.lemmas.Option.{get_or_from_slice_get, slice_get_within}
use Rattle.std.specs.List.{All}
use Rattle.lines.specs.Extents.{shown_in}
use Rattle.lines.specs.Kept.{line_in, lines_by}
use Rattle.lines.specs.Layouts.{is_line_within, start_of}
use Rattle.lines.specs.Visual.{Line}
use Rattle.lines.specs.declared.fill.Shown.{Shown}
use Rattle.lines.proofs.ShowLemmas.{length_range}

module _ (levels ltov vtol chars : List ℕ) where
  -- the stored lines start at the listed positions
  pub starts_of_lines : (starts : List ℕ) (shown : List Shown) → length shown ≡ length starts → map start_of (lines_by levels ltov vtol chars starts shown) ≡ starts
  starts_of_lines [] shown e = refl
  starts_of_lines (s ∷ starts) [] e = absurd (omega (arith, e))
  starts_of_lines (s ∷ starts) (part ∷ shown) e = ap (λ xs. s ∷ xs) (starts_of_lines starts shown (omega (arith, e)))

  -- the stored lines have the listed shown parts
  pub shown_of_lines : (starts : List ℕ) (shown : List Shown) (d : Shown) → length shown ≡ length starts
      → ((k : ℕ) → k < length starts → slice_index starts k + (slice_index_or shown k d).len ≤ length levels)
      → map shown_in (lines_by levels ltov vtol chars starts shown) ≡ shown
  shown_of_lines [] [] d e within = refl
  shown_of_lines [] (part ∷ shown) d e within = absurd (omega (arith, e))
  shown_of_lines (s ∷ starts) [] d e within = absurd (omega (arith, e))
  shown_of_lines (s ∷ starts) (part ∷ shown) d e within =
      let fits : s + part.len ≤ length levels = within zero (omega arith) in
      let len : length (slice_range levels s (s + part.len)) ≡ part.len = length_range levels s (s + part.len) (omega arith) fits ∙ omega arith in
      ap₂ (λ (n : ℕ) (ps : List Shown). record { len = n; columns = part.columns } ∷ ps) len
      (shown_of_lines starts shown d (omega (arith, e)) (λ k below. within (suc k) (omega (arith, below))))

  -- there are as many stored lines as starts
  pub length-lines : (starts : List ℕ) (shown : List Shown) → length shown ≡ length starts → length (lines_by levels ltov vtol chars starts shown) ≡ length starts
  length-lines [] shown e = refl
  length-lines (s ∷ starts) [] e = absurd (omega (arith, e))
  length-lines (s ∷ starts) (part ∷ shown) e = ap suc (length-lines starts shown (omega (arith, e)))

  -- the k-th stored line has the k-th start and the k-th shown part
  pub line_at : (starts : List ℕ) (shown : List Shown) (k : ℕ) (d : Shown) → length shown ≡ length starts → k < length starts
      → slice_get (lines_by levels ltov vtol chars starts shown) k ≡ Some (line_in levels ltov vtol chars (slice_index starts k) (slice_index_or shown k d))
  line_at [] shown k d e within = absurd (omega (arith, within))
  line_at (s ∷ starts) [] k d e within = absurd (omega (arith, e))
  line_at (s ∷ starts) (part ∷ shown) zero d e within = refl
  line_at (s ∷ starts) (part ∷ shown) (suc k) d e within = line_at starts shown k d (omega (arith, e)) (omega (arith, within))

  -- unless there is exactly one line, `is_line_within` is false
  pub not_one : (width : ℕ) (starts : List ℕ) (shown : List Shown) → length shown ≡ length starts → (length shown ≡ 1 → ⊥)
      → false ≡ is_line_within width (lines_by levels ltov vtol chars starts shown)
  not_one width [] shown e other = refl
  not_one width (s ∷ starts) [] e other = absurd (omega (arith, e))
  not_one width (s ∷ []) (part ∷ shown) e other = absurd (other e)
  not_one width (s ∷ t ∷ starts) (part ∷ []) e other = absurd (omega (arith, e))
  not_one width (s ∷ t ∷ starts) (part ∷ next ∷ shown) e other = refl

-- a property of all lines holds for the k-th line
pub holds_at : (P : Line → Type 0) (lines : List Line) (k : ℕ) (line : Line) → All P lines → slice_get lines k ≡ Some line → P line
holds_at P lines k line all e =
    subst P (get_or_from_slice_get lines k line line e) (All-get_or P lines k line (slice_get_within lines k line e) all)
