-- Extents in one list, of which others replace a part.
use Rattle.std.proofs.Common.{◌≡◌, ◌∙◌, ℕ, zero, suc, ◌+◌, ◌*◌, ◌-◌, ◌≤◌, min, List, [], ◌∷◌, ◌++◌, length, length-append, map, take, drop, slice_range, refl, sym, ap, ap₂, arith}
use Rattle.std.proofs.lemmas.List.{append_assoc, drop-drop, drop_min, length-drop, length-map, length-take, take_all, take_min, take_rest}
use Rattle.std.proofs.lemmas.Slice.{between_from_start}
use Rattle.lines.specs.Extents.{from_pairs, in_pairs}
use Rattle.lines.specs.Spliced.{spliced_shown, spliced_starts}
use Rattle.lines.specs.Splicing.{moved_start}
use Rattle.lines.specs.declared.fill.Shown.{Shown}
use Rattle.lines.specs.declared.splicing.Gap.{Gap}
use Rattle.lines.proofs.ExtentLemmas.{in_pairs-append}

-- ---- pairs of some lines

take_pairs : (k : ℕ) (items : List ℕ) → 2 * k ≤ length items → in_pairs (take k (from_pairs items)) ≡ take (2 * k) items
take_pairs zero items within = refl
take_pairs (suc k) [] within = absurd (omega (arith, within))
take_pairs (suc k) (a ∷ []) within = absurd (omega (arith, within))
take_pairs (suc k) (a ∷ b ∷ items) within =
    let two : suc (suc (2 * k)) ≡ 2 * suc k = omega arith in
    ap (λ (xs : List ℕ). a ∷ b ∷ xs) (take_pairs k items (omega (arith, within))) ∙ ap (λ m. take m (a ∷ b ∷ items)) two

drop_pairs : (k : ℕ) (items : List ℕ) → drop k (from_pairs items) ≡ from_pairs (drop (2 * k) items)
drop_pairs zero items = refl
drop_pairs (suc k) [] =
    let two : suc (suc (2 * k)) ≡ 2 * suc k = omega arith in
    ap (λ m. from_pairs (drop m [])) two
drop_pairs (suc k) (a ∷ []) =
    let two : suc (suc (2 * k)) ≡ 2 * suc k = omega arith in
    ap (λ m. from_pairs (drop m (a ∷ []))) two
drop_pairs (suc k) (a ∷ b ∷ items) =
    let two : suc (suc (2 * k)) ≡ 2 * suc k = omega arith in
    drop_pairs k items ∙ ap (λ m. from_pairs (drop m (a ∷ b ∷ items))) two

-- the pairs of lines i to j in a list that has n other items before them
pub pairs_range : (items : List ℕ) (n i j : ℕ) → i ≤ j → n + 2 * j ≤ length items
    → in_pairs (slice_range (from_pairs (drop n items)) i j) ≡ slice_range items (n + 2 * i) (n + 2 * j)
pairs_range items n i j order within =
    let size : 2 * (j - i) ≡ n + 2 * j - (n + 2 * i) = omega arith in
    ap (λ (parts : List Shown). in_pairs (take (j - i) parts)) (drop_pairs i (drop n items))
    ∙ take_pairs (j - i) (drop (2 * i) (drop n items)) (omega (arith, order, within, length-drop (2 * i) (drop n items), length-drop n items))
    ∙ ap₂ (λ m (xs : List ℕ). take m xs) size (drop-drop (2 * i) n items)

-- ---- extents of which others replace a part

module _ (gap : Gap) (n : ℕ) (starts between : List ℕ) (parts others : List Shown) (same : length parts ≡ length starts) (alike : length others ≡ length between) where
  abbrev line : ℕ
  line = min gap.line (length starts)

  abbrev end_line : ℕ
  end_line = min gap.end_line (length starts)

  front_parts : slice_range parts 0 line ≡ take gap.line parts
  front_parts = between_from_start parts line ∙ ap (λ m. take (min gap.line m) parts) (sym same) ∙ take_min gap.line parts

  back_parts : slice_range parts end_line (length starts) ≡ drop gap.end_line parts
  back_parts =
      ap (λ m. slice_range parts (min gap.end_line m) m) (sym same)
      ∙ take_rest parts (min gap.end_line (length parts)) ∙ drop_min gap.end_line parts

  all_parts : slice_range others 0 (length between) ≡ others
  all_parts = between_from_start others (length between) ∙ take_all (length between) others (omega (arith, alike))

  -- there are as many shown parts as starts
  pub length-spliced_shown : length (spliced_shown gap parts others) ≡ length (spliced_starts gap n starts between)
  length-spliced_shown =
      let moves : List ℕ = map (moved_start 0 gap.start) between in
      let later : List ℕ = map (moved_start gap.end (gap.start + n)) (drop gap.end_line starts) in
      omega (
        arith,
        same,
        alike,
        length-append (take gap.line parts) (others ++ drop gap.end_line parts),
        length-append others (drop gap.end_line parts),
        length-append (take gap.line starts) (moves ++ later),
        length-append moves later,
        length-map between (moved_start 0 gap.start),
        length-map (drop gap.end_line starts) (moved_start gap.end (gap.start + n)),
        length-take gap.line parts,
        length-take gap.line starts,
        length-drop gap.end_line parts,
        length-drop gap.end_line starts,
      )

  -- the list after each part has been appended; l and e are the numbers of lines before the gap and before its end
  abbrev put : List ℕ → List ℕ → ℕ → ℕ → List ℕ
  put ss bs l e =
      ((((take l ss ++ map (moved_start 0 gap.start) bs) ++ map (moved_start gap.end (gap.start + n)) (drop e ss))
      ++ in_pairs (slice_range parts 0 l)) ++ in_pairs (slice_range others 0 (length bs))) ++ in_pairs (slice_range parts e (length ss))

  put_all : put starts between line end_line ≡ spliced_starts gap n starts between ++ in_pairs (spliced_shown gap parts others)
  put_all =
      let front : List ℕ = take gap.line starts in
      let moves : List ℕ = map (moved_start 0 gap.start) between in
      let later : List ℕ = map (moved_start gap.end (gap.start + n)) (drop gap.end_line starts) in
      let before : List ℕ = in_pairs (take gap.line parts) in
      let inside : List ℕ = in_pairs others in
      let after : List ℕ = in_pairs (drop gap.end_line parts) in
      let pairs : before ++ (inside ++ after) ≡ in_pairs (spliced_shown gap parts others) =
      ap (λ (xs : List ℕ). before ++ xs) (sym (in_pairs-append others (drop gap.end_line parts))) ∙ sym (in_pairs-append (take gap.line parts) (others ++ drop gap.end_line parts)) in
      ap₂ (λ (xs ys : List ℕ). ((((xs ++ moves) ++ map (moved_start gap.end (gap.start + n)) ys)
      ++ in_pairs (slice_range parts 0 line)) ++ in_pairs (slice_range others 0 (length between))) ++ in_pairs (slice_range parts end_line (length starts)))
      (take_min gap.line starts) (drop_min gap.end_line starts)
      ∙ ap (λ (ps : List Shown). ((((front ++ moves) ++ later) ++ in_pairs ps) ++ in_pairs (slice_range others 0 (length between))) ++ in_pairs (slice_range parts end_line (length starts))) front_parts
      ∙ ap₂ (λ (ps qs : List Shown). ((((front ++ moves) ++ later) ++ before) ++ in_pairs ps) ++ in_pairs qs) all_parts back_parts
      ∙ append_assoc (((front ++ moves) ++ later) ++ before) inside after
      ∙ append_assoc ((front ++ moves) ++ later) before (inside ++ after)
      ∙ ap₂ (λ (xs ys : List ℕ). xs ++ ys) (append_assoc front moves later) pairs

  pub items_are : (ss bs : List ℕ) (l e : ℕ) → ss ≡ starts → bs ≡ between → l ≡ min gap.line (length ss) → e ≡ min gap.end_line (length ss)
      → put ss bs l e ≡ spliced_starts gap n starts between ++ in_pairs (spliced_shown gap parts others)
  items_are ss bs l e same_starts same_between first last =
      ap₂ (λ (i j : ℕ). put ss bs i j) first last
      ∙ ap₂ (λ (xs ys : List ℕ). put xs ys (min gap.line (length xs)) (min gap.end_line (length xs))) same_starts same_between
      ∙ put_all
