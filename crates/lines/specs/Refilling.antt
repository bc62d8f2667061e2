-- Which line starts of a paragraph stay the same when part of the paragraph changes.
use Rattle.std.specs.Prelude.{◌≡◌, ◌⊎◌, ℕ, suc, ◌+◌, ◌-◌, ◌<◌, ◌≤◌, Bool, true, false, List, ◌++◌, map, take, drop, slice_get, Some}
use Rattle.lines.specs.Filling.{cluster_ends_at, line_starts_of, may_end}
use Rattle.lines.specs.declared.char_info.CharInfo.{CharInfo}

-- From each line start on, the line starts are the same as if the paragraph began there. So if two paragraphs
-- have the same characters from their line starts s and t on, their next line starts are at the same
-- distances from s and t.
pub record StartsFollow (nobreak : Bool) (width : ℕ) (ps qs : List CharInfo) : Type 0 where
  pub alone : (i s : ℕ) → slice_get (line_starts_of nobreak width ps) i ≡ Some s
      → drop i (line_starts_of nobreak width ps) ≡ map (λ k. s + k) (line_starts_of nobreak width (drop s ps))
  pub moved : (i j s t : ℕ) → slice_get (line_starts_of nobreak width ps) i ≡ Some s → slice_get (line_starts_of nobreak width qs) j ≡ Some t → drop s ps ≡ drop t qs
      → drop j (line_starts_of nobreak width qs) ≡ map (λ k. t + (k - s)) (drop i (line_starts_of nobreak width ps))

-- Two paragraphs have the same first n characters, and s is the i-th line start of the first paragraph. The second
-- paragraph has the same line starts up to s in each of these cases:
-- - a line may end after one of the characters from s up to n
-- - a cluster ends after one of these characters, and the line before s does not end at a break opportunity
-- - two lines from s on end at or before n, and a third line follows
--
-- It is not enough that one line from s on ends before n. If this line does not end at a break opportunity, the line
-- before it may become longer.
pub record StartsStay (nobreak : Bool) (width : ℕ) (ps qs : List CharInfo) (n : ℕ) : Type 0 where
  pub before_break : (i s k : ℕ) → slice_get (line_starts_of nobreak width ps) i ≡ Some s → s ≤ k → k < n → may_end ps k ≡ true
      → take (suc i) (line_starts_of nobreak width qs) ≡ take (suc i) (line_starts_of nobreak width ps)
  pub before_cluster : (i s k : ℕ) → slice_get (line_starts_of nobreak width ps) i ≡ Some s → s ≤ k → k < n → cluster_ends_at ps k ≡ true → may_end ps (s - 1) ≡ false
      → take (suc i) (line_starts_of nobreak width qs) ≡ take (suc i) (line_starts_of nobreak width ps)
  pub before_lines : (i t : ℕ) → slice_get (line_starts_of nobreak width ps) (i + 2) ≡ Some t → t ≤ n
      → take (suc i) (line_starts_of nobreak width qs) ≡ take (suc i) (line_starts_of nobreak width ps)

-- whether s is the first line start, or a line may end after the character k, which is at or after s and before n
abbrev pub StaysFrom : List CharInfo → ℕ → ℕ → ℕ → ℕ → Type 0
StaysFrom ps n i s k = (i ≡ 0) ⊎ ((s ≤ k) × ((k < n) × (may_end ps k ≡ true)))

-- The line starts of a changed paragraph, in three parts. Both paragraphs have the same first n characters, and s is
-- the i-th line start of the first paragraph, from which it has a break opportunity before n, unless s is 0.
-- `window` are the first m characters of the second paragraph from s on.
-- - If the window is the rest of the paragraph, the lines from s on are those of the window.
-- - If t is the j-th line start of the window, which has a break opportunity after t, and the second paragraph is
--   from s + t on the first one from its line start u on, the lines up to s + t are those of the window, and those
--   after it are the lines of the first paragraph from u on.
pub record StartsSplice (nobreak : Bool) (width : ℕ) (ps qs : List CharInfo) (n : ℕ) : Type 0 where
  pub to_end : (i s k : ℕ) → slice_get (line_starts_of nobreak width ps) i ≡ Some s → StaysFrom ps n i s k
      → line_starts_of nobreak width qs ≡ take i (line_starts_of nobreak width ps) ++ map (λ l. s + l) (line_starts_of nobreak width (drop s qs))
  pub to_start : (i s k m j t l b u : ℕ) → slice_get (line_starts_of nobreak width ps) i ≡ Some s → StaysFrom ps n i s k
      → slice_get (line_starts_of nobreak width (take m (drop s qs))) j ≡ Some t → t ≤ l → l < m → may_end (take m (drop s qs)) l ≡ true
      → slice_get (line_starts_of nobreak width ps) b ≡ Some u → drop u ps ≡ drop (s + t) qs
      → line_starts_of nobreak width qs
      ≡ take i (line_starts_of nobreak width ps) ++ (map (λ l. s + l) (take j (line_starts_of nobreak width (take m (drop s qs)))) ++ map (λ l. s + t + (l - u)) (drop b (line_starts_of nobreak width ps)))
