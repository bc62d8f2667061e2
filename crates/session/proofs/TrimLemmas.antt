-- The damaged lines without the unchanged lines at their start and at their end.
use Rattle.std.proofs.Common.{◌≡◌, ℕ, ◌+◌, ◌-◌, ◌<◌, ◌≤◌, List, [], ◌++◌, length, take, drop, min, get_or, sum_by, refl, sym, ap, ap₂, subst, ◌∙◌, arith}
use Rattle.std.specs.List.{All, slice_get, slice_range, splice}
use Rattle.std.proofs.Math.Seq.{drop-append-add, take-append-add}
use Rattle.std.proofs.lemmas.List.{append-nil, append_assoc, drop-append-le, drop-drop, get_or-append-add, get_or_append_left, length-append, take-append-drop, take-append-le}
use Rattle.std.proofs.lemmas.List.Concat.{flat_map-append}
use Rattle.std.proofs.lemmas.List.Sums.{sum_by-append}
use Rattle.lines.specs.Layouts.{visuals, Layout}
use Rattle.lines.specs.Matching.{MatchAtEnd, MatchAtStart}
use Rattle.lines.specs.Visual.{Visual}
use Rattle.session.specs.Borders.{damage_between, IsBorder}
use Rattle.session.specs.Changes.{without_same, AreChanged, AreFound, HasLines}
use Rattle.session.specs.Kept.{lines_in}
use Rattle.session.specs.declared.borders.Border.{Border}
use Rattle.session.specs.declared.edits.Damage.{Damage}
use Rattle.session.proofs.BorderLemmas.{lines_of}
use Rattle.session.proofs.EditLemmas.{take_both}
use Rattle.session.proofs.LineLemmas.{slice_get_after, slice_get_left}

module _ (left lo ln right : List Visual) (damage : Damage) (s e : ℕ) (start : MatchAtStart lo ln s) (end : MatchAtEnd lo ln e)
    (first-is : damage.first_line ≡ length left) (old-is : damage.old_lines ≡ length lo) (new-is : damage.new_lines ≡ length ln) where
  abbrev most : ℕ
  most = min damage.old_lines damage.new_lines

  abbrev front : ℕ
  front = min s (min damage.old_lines damage.new_lines)

  abbrev back : ℕ
  back = min e (min damage.old_lines damage.new_lines - min s (min damage.old_lines damage.new_lines))

  front-is : front ≡ s
  front-is = omega (arith, start.in_first, start.in_second, old-is, new-is)

  back-most : back ≤ e
  back-most = omega arith

  back-old : s + back ≤ length lo
  back-old = omega (arith, start.in_first, start.in_second, old-is, new-is)

  back-new : s + back ≤ length ln
  back-new = omega (arith, start.in_first, start.in_second, old-is, new-is)

  -- if the last e lines match and `back` is at most e, the last `back` lines match
  last : drop (length ln - back) ln ≡ drop (length lo - back) lo
  last =
      let a : length ln - e + (e - back) ≡ length ln - back = omega (arith, end.in_second, back-most) in
      let b : length lo - e + (e - back) ≡ length lo - back = omega (arith, end.in_first, back-most) in
      ap (λ n. drop n ln) (sym a) ∙ sym (drop-drop (e - back) (length ln - e) ln) ∙ ap (drop (e - back)) (sym end.same) ∙ drop-drop (e - back) (length lo - e) lo ∙ ap (λ n. drop n lo) b

  read : (xs : List Visual) (k : ℕ) → k < length xs → slice_get (left ++ (xs ++ right)) (length left + k) ≡ slice_get xs k
  read xs k below = slice_get_after left (xs ++ right) k ∙ slice_get_left xs right k below

  front_part : (xs : List Visual) → s ≤ length xs → take (damage.first_line + front) (left ++ (xs ++ right)) ≡ left ++ take s xs
  front_part xs within =
      ap₂ (λ i j. take (i + j) (left ++ (xs ++ right))) first-is front-is ∙ take-append-add left (xs ++ right) s ∙ ap (λ l. left ++ l) (take-append-le s xs right within)

  back_part : (xs : List Visual) (n : ℕ) → n ≡ length xs → s + back ≤ length xs → drop (damage.first_line + front + (n - front - back)) (left ++ (xs ++ right)) ≡ drop (length xs - back) xs ++ right
  back_part xs n n-is within =
      let at : damage.first_line + front + (n - front - back) ≡ length left + (length xs - back) = omega (arith, first-is, front-is, n-is, within) in
      ap (λ i. drop i (left ++ (xs ++ right))) at ∙ drop-append-add left (xs ++ right) (length xs - back) ∙ drop-append-le (length xs - back) xs right (omega arith)

  sizes : (xs : List Visual) → length (left ++ (xs ++ right)) ≡ length left + (length xs + length right)
  sizes xs = length-append left (xs ++ right) ∙ ap (λ n. length left + n) (length-append xs right)

  pub changed_lines : AreChanged (left ++ (lo ++ right)) (left ++ (ln ++ right)) damage (without_same damage s e)
  changed_lines = record {
    start = omega arith;
    end = omega (arith, back-old, front-is, old-is);
    lines = record {
      size = omega (arith, sizes lo, sizes ln, back-old, back-new, front-is, old-is, new-is);
      front = front_part ln start.in_second ∙ ap (λ l. left ++ l) (sym start.same) ∙ sym (front_part lo start.in_first);
      back = back_part ln damage.new_lines new-is back-new ∙ ap (λ l. l ++ right) last ∙ sym (back_part lo damage.old_lines old-is back-old);
    };
    first_differs = λ first second same.
        let in_lo : s < length lo = omega (arith, first, front-is, old-is) in
        let in_ln : s < length ln = omega (arith, second, front-is, new-is) in
        let at : damage.first_line + front ≡ length left + s = omega (arith, first-is, front-is) in
        start.most in_lo in_ln (sym (read lo s in_lo) ∙ sym (ap (slice_get (left ++ (lo ++ right))) at) ∙ same ∙ ap (slice_get (left ++ (ln ++ right))) at ∙ read ln s in_ln);
    last_differs = λ first second same.
        let whole : back ≡ e = omega (arith, first, second, front-is, old-is, new-is) in
        let in_lo : e < length lo = omega (arith, first, whole, front-is, old-is) in
        let in_ln : e < length ln = omega (arith, second, whole, front-is, new-is) in
        let a : damage.first_line + front + (damage.old_lines - front - back) - 1 ≡ length left + (length lo - e - 1) = omega (arith, first-is, front-is, old-is, whole, first, in_lo) in
        let b : damage.first_line + front + (damage.new_lines - front - back) - 1 ≡ length left + (length ln - e - 1) = omega (arith, first-is, front-is, new-is, whole, second, in_ln) in
        end.most in_lo in_ln
        (sym (read lo (length lo - e - 1) (omega (arith, in_lo))) ∙ sym (ap (slice_get (left ++ (lo ++ right))) a) ∙ same ∙ ap (slice_get (left ++ (ln ++ right))) b
        ∙ read ln (length ln - e - 1) (omega (arith, in_ln)));
  }

-- ---- new paragraphs between two borders

module _ (kept new : List Layout) (front back : Border) (f : IsBorder kept front) (b : IsBorder kept back) (order : front.index ≤ back.index) where
  abbrev mid : List Layout
  mid = slice_range kept front.index back.index

  upto : take back.index kept ≡ take front.index kept ++ mid
  upto = take_both kept front.index back.index order

  all_lines : lines_in kept ≡ lines_in (take front.index kept) ++ (lines_in mid ++ lines_in (drop back.index kept))
  all_lines =
      ap lines_in (sym (take-append-drop back.index kept)) ∙ flat_map-append visuals (take back.index kept) (drop back.index kept)
      ∙ ap (λ vs. vs ++ lines_in (drop back.index kept)) (ap lines_in upto ∙ flat_map-append visuals (take front.index kept) mid)
      ∙ append_assoc (lines_in (take front.index kept)) (lines_in mid) (lines_in (drop back.index kept))

  new_lines : lines_in (splice kept front.index back.index new) ≡ lines_in (take front.index kept) ++ (lines_in new ++ lines_in (drop back.index kept))
  new_lines =
      flat_map-append visuals (take front.index kept) (new ++ drop back.index kept)
      ∙ ap (λ vs. lines_in (take front.index kept) ++ vs) (flat_map-append visuals new (drop back.index kept))

  pub old_count : back.lines - front.lines ≡ length (lines_in mid)
  old_count =
      omega (arith, f.lines, b.lines, ap (λ ks. length (lines_in ks)) upto, ap length (flat_map-append visuals (take front.index kept) mid), length-append (lines_in (take front.index kept)) (lines_in mid))

  pub new_most : sum_by lines_of new ≤ sum_by lines_of (splice kept front.index back.index new)
  new_most =
      omega (arith, sum_by-append lines_of (take front.index kept) (new ++ drop back.index kept), sum_by-append lines_of new (drop back.index kept))

  pub damage_fits : (damage_between front back new).first_line + (damage_between front back new).old_lines ≡ back.lines
  damage_fits =
      omega (arith, f.lines, b.lines, ap (λ ks. length (lines_in ks)) upto, ap length (flat_map-append visuals (take front.index kept) mid), length-append (lines_in (take front.index kept)) (lines_in mid))

  new_have : All HasLines (splice kept front.index back.index new) → All HasLines new
  new_have all k d within =
      let left = take front.index kept in
      let right = drop back.index kept in
      let is : get_or (left ++ (new ++ right)) (length left + k) d ≡ get_or new k d = get_or-append-add left (new ++ right) k d ∙ get_or_append_left new right d k within in
      subst HasLines is (all (length left + k) d (omega (arith, within, length-append left (new ++ right), length-append new right)))

  pub AreFound-put : (s e : ℕ) → (All HasLines kept → All HasLines new → MatchAtStart (lines_in mid) (lines_in new) s) → (All HasLines kept → All HasLines new → MatchAtEnd (lines_in mid) (lines_in new) e)
      → AreFound kept (splice kept front.index back.index new) (damage_between front back new) (without_same (damage_between front back new) s e)
  AreFound-put s e start end all all_2 =
      subst (λ xs. AreChanged xs (lines_in (splice kept front.index back.index new)) (damage_between front back new) (without_same (damage_between front back new) s e)) (sym all_lines)
      (subst (λ ys. AreChanged (lines_in (take front.index kept) ++ (lines_in mid ++ lines_in (drop back.index kept))) ys (damage_between front back new) (without_same (damage_between front back new) s e)) (sym new_lines)
      (changed_lines (lines_in (take front.index kept)) (lines_in mid) (lines_in new) (lines_in (drop back.index kept)) (damage_between front back new) s e
      (start all (new_have all_2)) (end all (new_have all_2)) f.lines old_count refl))

-- ---- all paragraphs at another width

pub AreFound-all : (kept made : List Layout) (damage : Damage) (s e : ℕ) → damage.first_line ≡ 0 → damage.old_lines ≡ length (lines_in kept) → damage.new_lines ≡ length (lines_in made)
    → (All HasLines kept → All HasLines made → MatchAtStart (lines_in kept) (lines_in made) s) → (All HasLines kept → All HasLines made → MatchAtEnd (lines_in kept) (lines_in made) e)
    → AreFound kept made damage (without_same damage s e)
AreFound-all kept made damage s e first old new start end all all_2 =
    subst (λ xs. AreChanged xs (lines_in made) damage (without_same damage s e)) (append-nil (lines_in kept))
    (subst (λ ys. AreChanged (lines_in kept ++ []) ys damage (without_same damage s e)) (append-nil (lines_in made))
    (changed_lines [] (lines_in kept) (lines_in made) [] damage s e (start all all_2) (end all all_2) first old new))

-- if no line was replaced, no line has changed
pub AreFound-none : (kept : List Layout) (damage : Damage) → damage.first_line ≡ 0 → damage.old_lines ≡ 0 → damage.new_lines ≡ 0
    → AreFound kept kept damage (record { first_line = 0; old_lines = 0; new_lines = 0 })
AreFound-none kept damage first old new all all_2 = record {
  start = omega (arith, first);
  end = omega arith;
  lines = record { size = refl; front = refl; back = refl };
  first_differs = λ a b _. absurd (omega (arith, a, first, old));
  last_differs = λ a b _. absurd (omega (arith, a));
}
