-- How many items two lists share at their start or at their end.
use Rattle.std.proofs.Common.{◌≡◌, ℕ, ◌+◌, ◌-◌, ◌<◌, List, ◌∷◌, length, take, drop, get_or, slice_get, inl, inr, unwrap_or, ap, ap₂, subst, sym, ◌∙◌, arith}
use Rattle.std.proofs.lemmas.List.{drop_more, length-map, take_more_same}
use Rattle.std.proofs.Math.Seq.{drop-length}
use Rattle.std.proofs.lemmas.List.FromFn.{length-enumerate_from}
use Rattle.std.proofs.lemmas.Option.{slice_get_cases, unwrap_or-slice_get}
use Rattle.std.specs.List.{enumerate_from}
use Rattle.lines.specs.Layouts.{visuals, Layout}
use Rattle.lines.specs.Visual.{visual_of}

pub length-visuals : (l : Layout) → length (visuals l) ≡ length l.lines
length-visuals l = length-map (enumerate_from 0 l.lines) (λ nth. visual_of l.base l.tab_width l.advances l.text l.lines nth.0 nth.1) ∙ length-enumerate_from 0 l.lines

module _ {A : Type 0} (xs ys : List A) where
  -- if two lists have the same item at two indices, or both have none there, reading these indices with the
  -- same default yields the same value
  read_both : (i j : ℕ) (d : A) → slice_get xs i ≡ slice_get ys j → get_or xs i d ≡ get_or ys j d
  read_both i j d same = sym (unwrap_or-slice_get xs i d) ∙ ap (λ o. unwrap_or o d) same ∙ unwrap_or-slice_get ys j d

  -- if the first k items match, and so do the next ones, the first k + 1 items match
  pub start_more : (k : ℕ) → k < length xs → k < length ys → take k xs ≡ take k ys → slice_get xs k ≡ slice_get ys k → take (k + 1) xs ≡ take (k + 1) ys
  start_more k x y so_far here = elim (slice_get_cases xs k).1 [
    | inl found ↦ take_more_same xs ys k found.0 x y so_far (read_both k k found.0 here)
    | inr past ↦ absurd (omega (arith, past.0, x))
  ]

  -- if the last k items match, and so do the ones before them, the last k + 1 items match
  pub end_more : (k : ℕ) → k < length xs → k < length ys → drop (length xs - k) xs ≡ drop (length ys - k) ys → slice_get xs (length xs - k - 1) ≡ slice_get ys (length ys - k - 1)
      → drop (length xs - (k + 1)) xs ≡ drop (length ys - (k + 1)) ys
  end_more k x y so_far here =
      let i : ℕ = length xs - k - 1 in
      let j : ℕ = length ys - k - 1 in
      let i-is : length xs - (k + 1) ≡ length xs - k - 1 = omega arith in
      let j-is : length ys - (k + 1) ≡ length ys - k - 1 = omega arith in
      let i-next : length xs - k - 1 + 1 ≡ length xs - k = omega (arith, x) in
      let j-next : length ys - k - 1 + 1 ≡ length ys - k = omega (arith, y) in
      elim (slice_get_cases xs i).1 [
        | inl found ↦
            ap (λ n. drop n xs) i-is
            ∙ drop_more xs i found.0 found.1
            ∙ ap₂ (λ (a : A) (more : List A). a ∷ more) (read_both i j found.0 here)
            (ap (λ n. drop n xs) i-next ∙ so_far ∙ sym (ap (λ n. drop n ys) j-next))
            ∙ sym (drop_more ys j found.0 (omega (arith, y)))
            ∙ sym (ap (λ n. drop n ys) j-is)
        | inr past ↦ absurd (omega (arith, past.0, x))
      ]

  pub end_init : drop (length xs - 0) xs ≡ drop (length ys - 0) ys
  end_init =
      let i : length xs - 0 ≡ length xs = omega arith in
      let j : length ys - 0 ≡ length ys = omega arith in
      ap (λ n. drop n xs) i ∙ drop-length xs ∙ sym (ap (λ n. drop n ys) j ∙ drop-length ys)

  -- in a comparison of the items before the last k, numbers that equal the lengths can replace the lengths
  pub read_as : (n m k : ℕ) → n ≡ length xs → m ≡ length ys → slice_get xs (n - k - 1) ≡ slice_get ys (m - k - 1)
      → slice_get xs (length xs - k - 1) ≡ slice_get ys (length ys - k - 1)
  read_as n m k n-is m-is same =
      subst (λ i. slice_get xs (i - k - 1) ≡ slice_get ys (length ys - k - 1)) n-is (subst (λ j. slice_get xs (n - k - 1) ≡ slice_get ys (j - k - 1)) m-is same)

  pub read_by : (n m k : ℕ) → n ≡ length xs → m ≡ length ys → slice_get xs (length xs - k - 1) ≡ slice_get ys (length ys - k - 1)
      → slice_get xs (n - k - 1) ≡ slice_get ys (m - k - 1)
  read_by n m k n-is m-is same =
      subst (λ i. slice_get xs (i - k - 1) ≡ slice_get ys (m - k - 1)) (sym n-is) (subst (λ j. slice_get xs (length xs - k - 1) ≡ slice_get ys (j - k - 1)) (sym m-is) same)
