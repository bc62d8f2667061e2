-- The stored lines of a paragraph, of which others replace a part.
use Rattle.std.proofs.Common.{◌≡◌, ◌∙◌, ℕ, zero, suc, ◌+◌, ◌-◌, ◌<◌, ◌≤◌, List, [], ◌∷◌, ◌++◌, length, length-append, map, take, drop, refl, sym, ap, ap₂, subst, slice_index, slice_index_or, slice_range, arith}
use Rattle.std.proofs.lemmas.List.{drop-drop, drop_at, length-drop, length-map, length-take, length-take-le, take_all, take_at}
use Rattle.std.proofs.lemmas.List.Elements.{All-append, All-cons, All-drop, All-head, All-map, All-nil, All-tail, All-take}
use Rattle.std.specs.Bool.{⊤}
use Rattle.std.specs.List.{All}
use Rattle.ucd.specs.Within.{AreWithin}
use Rattle.lines.specs.Kept.{line_in, lines_by, lines_in, IsSound}
use Rattle.lines.specs.Layouts.{AreWithin as LinesAreWithin, Filled}
use Rattle.lines.specs.Showing.{nothing_shown}
use Rattle.lines.specs.Spliced.{spliced, spliced_lines, spliced_shown, spliced_starts}
use Rattle.lines.specs.Splicing.{moved, moved_start}
use Rattle.lines.specs.Visual.{Line}
use Rattle.lines.specs.declared.fill.Shown.{Shown}
use Rattle.lines.specs.declared.splicing.Gap.{Gap}
use Rattle.lines.proofs.ShowLemmas.{length_range}
use Rattle.lines.proofs.SplicedExtents.{length-spliced_shown}
use Rattle.lines.proofs.SplicingLemmas.{range_before}

-- ---- parts of lists

-- the items from u + d to u + f are part of the n items from u on
range_after : {X : Type 0} (xs : List X) (n u d f : ℕ) → d ≤ f → f ≤ n → slice_range xs (u + d) (u + f) ≡ slice_range (take n (drop u xs)) d f
range_after xs n u d f order within =
    let size : u + f - (u + d) ≡ f - d = omega arith in
    ap (λ m. take m (drop (u + d) xs)) size
    ∙ ap (take (f - d)) (sym (drop-drop d u xs))
    ∙ sym (range_before (drop u xs) n d f order within)

-- if the n items from u on in a list are those from v on in another, this holds for each part of them
same_range : {X : Type 0} (xs ys : List X) (n u v a e : ℕ) → take n (drop u xs) ≡ take n (drop v ys) → u ≤ a → a ≤ e → e ≤ u + n
    → slice_range ys (v + (a - u)) (v + (e - u)) ≡ slice_range xs a e
same_range xs ys n u v a e same low order high =
    let within : e - u ≤ n = omega (arith, high) in
    let rising : a - u ≤ e - u = omega (arith, order) in
    let first : u + (a - u) ≡ a = omega (arith, low) in
    let last : u + (e - u) ≡ e = omega (arith, low, order) in
    range_after ys n v (a - u) (e - u) rising within
    ∙ ap (λ (zs : List _). slice_range zs (a - u) (e - u)) (sym same)
    ∙ sym (range_after xs n u (a - u) (e - u) rising within)
    ∙ ap₂ (λ i j. slice_range xs i j) first last

module _ {X : Type 0} (gap : Gap) (old between : List X) where
  front_same : gap.start ≤ length old → take gap.start (drop 0 old) ≡ take gap.start (drop 0 (spliced gap old between))
  front_same within = sym (take_at (take gap.start old) (between ++ drop gap.end old) gap.start (length-take-le gap.start old within))

  rest_is : gap.start ≤ length old → drop gap.start (spliced gap old between) ≡ between ++ drop gap.end old
  rest_is within = drop_at (take gap.start old) (between ++ drop gap.end old) gap.start (length-take-le gap.start old within)

  between_same : (n : ℕ) → length between ≡ n → gap.start ≤ length old → take n (drop 0 between) ≡ take n (drop gap.start (spliced gap old between))
  between_same n size within =
      take_all n between (omega (arith, size))
      ∙ sym (ap (take n) (rest_is within) ∙ take_at between (drop gap.end old) n size)

  back_same : (m n : ℕ) → length between ≡ n → gap.start ≤ length old → take m (drop gap.end old) ≡ take m (drop (gap.start + n) (spliced gap old between))
  back_same m n size within =
      ap (take m) (sym (sym (drop-drop n gap.start (spliced gap old between)) ∙ ap (drop n) (rest_is within) ∙ drop_at between (drop gap.end old) n size))

  pub length-spliced : gap.start ≤ length old → length (spliced gap old between) ≡ gap.start + length between + (length old - gap.end)
  length-spliced within =
      omega (
        arith,
        length-append (take gap.start old) (between ++ drop gap.end old),
        length-append between (drop gap.end old),
        length-take-le gap.start old within,
        length-drop gap.end old,
      )

-- ---- shown parts between two positions

abbrev Fit : ℕ → ℕ → List ℕ → List Shown → Type 0
Fit low high (s ∷ starts) (part ∷ parts) = (low ≤ s) × ((s + part.len ≤ high) × Fit low high starts parts)
Fit low high starts parts = ⊤

fit_wider : (low high less more : ℕ) (starts : List ℕ) (parts : List Shown) → less ≤ low → high ≤ more → Fit low high starts parts → Fit less more starts parts
fit_wider low high less more [] parts l h fit = tt
fit_wider low high less more (s ∷ starts) [] l h fit = tt
fit_wider low high less more (s ∷ starts) (part ∷ parts) l h fit =
    (omega (arith, l, fit.0), (omega (arith, h, fit.1.0), fit_wider low high less more starts parts l h fit.1.1))

fit_append : (low high : ℕ) (starts more : List ℕ) (parts others : List Shown) → length parts ≡ length starts → Fit low high starts parts → Fit low high more others
    → Fit low high (starts ++ more) (parts ++ others)
fit_append low high [] more [] others e fit rest = rest
fit_append low high [] more (part ∷ parts) others e fit rest = absurd (omega (arith, e))
fit_append low high (s ∷ starts) more [] others e fit rest = absurd (omega (arith, e))
fit_append low high (s ∷ starts) more (part ∷ parts) others e fit rest =
    (fit.0, (fit.1.0, fit_append low high starts more parts others (omega (arith, e)) fit.1.1 rest))

fit_moved : (low high to : ℕ) (starts : List ℕ) (parts : List Shown) → Fit low high starts parts → Fit to (to + (high - low)) (map (moved_start low to) starts) parts
fit_moved low high to [] parts fit = tt
fit_moved low high to (s ∷ starts) [] fit = tt
fit_moved low high to (s ∷ starts) (part ∷ parts) fit = (omega arith, (omega (arith, fit.0, fit.1.0), fit_moved low high to starts parts fit.1.1))

fit_at : (low high : ℕ) (starts : List ℕ) (parts : List Shown) (d : Shown) → length parts ≡ length starts → Fit low high starts parts
    → (k : ℕ) → k < length starts → slice_index starts k + (slice_index_or parts k d).len ≤ high
fit_at low high [] parts d e fit k below = absurd (omega (arith, below))
fit_at low high (s ∷ starts) [] d e fit k below = absurd (omega (arith, e))
fit_at low high (s ∷ starts) (part ∷ parts) d e fit zero below = fit.1.0
fit_at low high (s ∷ starts) (part ∷ parts) d e fit (suc k) below = fit_at low high starts parts d (omega (arith, e)) fit.1.1 k (omega (arith, below))

fit_from : (high : ℕ) (starts : List ℕ) (parts : List Shown) (d : Shown)
    → ((k : ℕ) → k < length starts → slice_index starts k + (slice_index_or parts k d).len ≤ high) → Fit 0 high starts parts
fit_from high [] parts d within = tt
fit_from high (s ∷ starts) [] d within = tt
fit_from high (s ∷ starts) (part ∷ parts) d within =
    (omega arith, (within zero (omega arith), fit_from high starts parts d (λ k below. within (suc k) (omega (arith, below)))))

fit_take : (low high n : ℕ) (starts : List ℕ) (parts : List Shown) → Fit low high starts parts → Fit low high (take n starts) (take n parts)
fit_take low high zero starts parts fit = tt
fit_take low high (suc n) [] parts fit = tt
fit_take low high (suc n) (s ∷ starts) [] fit = tt
fit_take low high (suc n) (s ∷ starts) (part ∷ parts) fit = (fit.0, (fit.1.0, fit_take low high n starts parts fit.1.1))

fit_none : (low high : ℕ) (starts : List ℕ) → Fit low high starts []
fit_none low high [] = tt
fit_none low high (s ∷ starts) = tt

fit_drop : (low high n : ℕ) (starts : List ℕ) (parts : List Shown) → Fit low high starts parts → Fit low high (drop n starts) (drop n parts)
fit_drop low high zero starts parts fit = fit
fit_drop low high (suc n) [] parts fit = tt
fit_drop low high (suc n) (s ∷ starts) [] fit = fit_none low high (drop n starts)
fit_drop low high (suc n) (s ∷ starts) (part ∷ parts) fit = fit_drop low high n starts parts fit.1.1

fit_each : (P : ℕ → Type 0) (low high : ℕ) (starts : List ℕ) (parts : List Shown) → length parts ≡ length starts → Fit low high starts parts
    → ((s : ℕ) → low ≤ s → s ≤ high → P s) → All P starts
fit_each P low high [] parts e fit each = All-nil P
fit_each P low high (s ∷ starts) [] e fit each = absurd (omega (arith, e))
fit_each P low high (s ∷ starts) (part ∷ parts) e fit each =
    All-cons P s starts (each s fit.0 (omega (arith, fit.1.0))) (fit_each P low high starts parts (omega (arith, e)) fit.1.1 each)

-- ---- stored lines

-- the lists with one item per character
record Items : Type 0 where
  pub levels : List ℕ
  pub ltov : List ℕ
  pub vtol : List ℕ
  pub chars : List ℕ

abbrev line_of : Items → ℕ → Shown → Line
line_of of s part = line_in of.levels of.ltov of.vtol of.chars s part

abbrev held : Items → List ℕ → List Shown → List Line
held of starts parts = lines_by of.levels of.ltov of.vtol of.chars starts parts

-- the n items from u on are those from v on in other lists
record Agree (n u v : ℕ) (old new : Items) : Type 0 where
  pub levels : take n (drop u old.levels) ≡ take n (drop v new.levels)
  pub ltov : take n (drop u old.ltov) ≡ take n (drop v new.ltov)
  pub vtol : take n (drop u old.vtol) ≡ take n (drop v new.vtol)
  pub chars : take n (drop u old.chars) ≡ take n (drop v new.chars)

same_line : (old new : Items) (s a : ℕ) (part : Shown) → slice_range new.levels a (a + part.len) ≡ slice_range old.levels s (s + part.len)
    → slice_range new.ltov a (a + part.len) ≡ slice_range old.ltov s (s + part.len) → slice_range new.vtol a (a + part.len) ≡ slice_range old.vtol s (s + part.len)
    → slice_range new.chars a (a + part.len) ≡ slice_range old.chars s (s + part.len) → line_of new a part ≡ record (line_of old s part) { start = a }
same_line old new s a part levels ltov vtol chars = rw (levels, ltov, vtol, chars) refl

module _ (n u v : ℕ) (old new : Items) (agree : Agree n u v old new) where
  line_moves : (s : ℕ) (part : Shown) → u ≤ s → s + part.len ≤ u + n → line_of new (moved_start u v s) part ≡ moved u v (line_of old s part)
  line_moves s part low high =
      let a : ℕ = v + (s - u) in
      let end : a + part.len ≡ v + (s + part.len - u) = omega (arith, low) in
      let same : (xs ys : List ℕ) → take n (drop u xs) ≡ take n (drop v ys) → slice_range ys a (a + part.len) ≡ slice_range xs s (s + part.len) =
      λ xs ys e. ap (slice_range ys a) end ∙ same_range xs ys n u v s (s + part.len) e low (omega arith) high in
      same_line old new s a part (same old.levels new.levels agree.levels) (same old.ltov new.ltov agree.ltov) (same old.vtol new.vtol agree.vtol) (same old.chars new.chars agree.chars)

  lines_move : (high : ℕ) (starts : List ℕ) (parts : List Shown) → high ≤ u + n → Fit u high starts parts
      → held new (map (moved_start u v) starts) parts ≡ map (moved u v) (held old starts parts)
  lines_move high [] parts most fit = refl
  lines_move high (s ∷ starts) [] most fit = refl
  lines_move high (s ∷ starts) (part ∷ parts) most fit =
      ap₂ (λ line (ls : List Line). line ∷ ls) (line_moves s part fit.0 (omega (arith, fit.1.0, most))) (lines_move high starts parts most fit.1.1)

module _ (n : ℕ) (old new : Items) (agree : Agree n 0 0 old new) where
  line_stays : (s : ℕ) (part : Shown) → s + part.len ≤ n → line_of new s part ≡ line_of old s part
  line_stays s part high =
      let here : 0 + (s - 0) ≡ s = omega arith in
      subst (λ (a : ℕ). line_of new a part ≡ record (line_of old s part) { start = a }) here (line_moves n 0 0 old new agree s part (omega arith) (omega (arith, high)))

  lines_stay : (starts : List ℕ) (parts : List Shown) → Fit 0 n starts parts → held new starts parts ≡ held old starts parts
  lines_stay [] parts fit = refl
  lines_stay (s ∷ starts) [] fit = refl
  lines_stay (s ∷ starts) (part ∷ parts) fit = ap₂ (λ line (ls : List Line). line ∷ ls) (line_stays s part fit.1.0) (lines_stay starts parts fit.1.1)

module _ (of : Items) where
  held_append : (starts more : List ℕ) (parts others : List Shown) → length parts ≡ length starts
      → held of (starts ++ more) (parts ++ others) ≡ held of starts parts ++ held of more others
  held_append [] more [] others e = refl
  held_append [] more (part ∷ parts) others e = absurd (omega (arith, e))
  held_append (s ∷ starts) more [] others e = absurd (omega (arith, e))
  held_append (s ∷ starts) more (part ∷ parts) others e = ap (λ (ls : List Line). line_of of s part ∷ ls) (held_append starts more parts others (omega (arith, e)))

  held_none : (starts : List ℕ) → [] ≡ held of starts []
  held_none [] = refl
  held_none (s ∷ starts) = refl

  take_held : (k : ℕ) (starts : List ℕ) (parts : List Shown) → take k (held of starts parts) ≡ held of (take k starts) (take k parts)
  take_held zero starts parts = refl
  take_held (suc k) [] parts = refl
  take_held (suc k) (s ∷ starts) [] = refl
  take_held (suc k) (s ∷ starts) (part ∷ parts) = ap (λ (ls : List Line). line_of of s part ∷ ls) (take_held k starts parts)

  drop_held : (k : ℕ) (starts : List ℕ) (parts : List Shown) → drop k (held of starts parts) ≡ held of (drop k starts) (drop k parts)
  drop_held zero starts parts = refl
  drop_held (suc k) [] parts = refl
  drop_held (suc k) (s ∷ starts) [] = held_none (drop k starts)
  drop_held (suc k) (s ∷ starts) (part ∷ parts) = drop_held k starts parts

  -- if the lines are before a position, so are their shown parts
  fit_before : (high : ℕ) (starts : List ℕ) (parts : List Shown) → Fit 0 (length of.levels) starts parts → LinesAreWithin high (held of starts parts) → Fit 0 high starts parts
  fit_before high [] parts fit within = tt
  fit_before high (s ∷ starts) [] fit within = tt
  fit_before high (s ∷ starts) (part ∷ parts) fit within =
      let P : Line → Type 0 = λ line. line.start + length line.levels ≤ high in
      let len : length (slice_range of.levels s (s + part.len)) ≡ s + part.len - s = length_range of.levels s (s + part.len) (omega arith) fit.1.0 in
      let here : s + length (slice_range of.levels s (s + part.len)) ≤ high = All-head P (line_of of s part) (held of starts parts) within in
      (omega arith, (omega (arith, len, here), fit_before high starts parts fit.1.1 (All-tail P (line_of of s part) (held of starts parts) within)))

  fit_after : (low high : ℕ) (starts : List ℕ) (parts : List Shown) → Fit 0 high starts parts → All (λ (line : Line). low ≤ line.start) (held of starts parts) → Fit low high starts parts
  fit_after low high [] parts fit after = tt
  fit_after low high (s ∷ starts) [] fit after = tt
  fit_after low high (s ∷ starts) (part ∷ parts) fit after =
      let P : Line → Type 0 = λ line. low ≤ line.start in (
        All-head P (line_of of s part) (held of starts parts) after,
        (fit.1.0, fit_after low high starts parts fit.1.1 (All-tail P (line_of of s part) (held of starts parts) after)),
      )

-- ---- lines of which others replace a part

record AreLong (n : ℕ) (of : Items) : Type 0 where
  pub levels : length of.levels ≡ n
  pub ltov : length of.ltov ≡ n
  pub vtol : length of.vtol ≡ n
  pub chars : length of.chars ≡ n

module _ (gap : Gap) (old window : Items) (len n : ℕ) (long : AreLong len old) (wide : AreLong n window) (order : gap.start ≤ gap.end) (within : gap.end ≤ len) where
  abbrev joined : Items
  joined = record {
    levels = spliced gap old.levels window.levels;
    ltov = spliced gap old.ltov window.ltov;
    vtol = spliced gap old.vtol window.vtol;
    chars = spliced gap old.chars window.chars;
  }

  front_agrees : Agree gap.start 0 0 old joined
  front_agrees = record {
    levels = front_same gap old.levels window.levels (omega (arith, long.levels, order, within));
    ltov = front_same gap old.ltov window.ltov (omega (arith, long.ltov, order, within));
    vtol = front_same gap old.vtol window.vtol (omega (arith, long.vtol, order, within));
    chars = front_same gap old.chars window.chars (omega (arith, long.chars, order, within));
  }

  window_agrees : Agree n 0 gap.start window joined
  window_agrees = record {
    levels = between_same gap old.levels window.levels n wide.levels (omega (arith, long.levels, order, within));
    ltov = between_same gap old.ltov window.ltov n wide.ltov (omega (arith, long.ltov, order, within));
    vtol = between_same gap old.vtol window.vtol n wide.vtol (omega (arith, long.vtol, order, within));
    chars = between_same gap old.chars window.chars n wide.chars (omega (arith, long.chars, order, within));
  }

  back_agrees : Agree (len - gap.end) gap.end (gap.start + n) old joined
  back_agrees = record {
    levels = back_same gap old.levels window.levels (len - gap.end) n wide.levels (omega (arith, long.levels, order, within));
    ltov = back_same gap old.ltov window.ltov (len - gap.end) n wide.ltov (omega (arith, long.ltov, order, within));
    vtol = back_same gap old.vtol window.vtol (len - gap.end) n wide.vtol (omega (arith, long.vtol, order, within));
    chars = back_same gap old.chars window.chars (len - gap.end) n wide.chars (omega (arith, long.chars, order, within));
  }

  module _ (starts between : List ℕ) (parts others : List Shown) (same : length parts ≡ length starts) (alike : length others ≡ length between)
      (before : Fit 0 gap.start (take gap.line starts) (take gap.line parts)) (fit : Fit 0 n between others)
      (after : Fit gap.end len (drop gap.end_line starts) (drop gap.end_line parts)) where
    abbrev moves : List ℕ
    moves = map (moved_start 0 gap.start) between

    abbrev later : List ℕ
    later = map (moved_start gap.end (gap.start + n)) (drop gap.end_line starts)

    front_shown : length (take gap.line parts) ≡ length (take gap.line starts)
    front_shown = omega (arith, length-take gap.line parts, length-take gap.line starts, same)

    moves_shown : length others ≡ length moves
    moves_shown = alike ∙ sym (length-map between (moved_start 0 gap.start))

    back_shown : length (drop gap.end_line parts) ≡ length later
    back_shown =
        omega (
          arith,
          length-drop gap.end_line parts,
          length-drop gap.end_line starts,
          length-map (drop gap.end_line starts) (moved_start gap.end (gap.start + n)),
          same,
        )

    joined_lines : held joined (spliced_starts gap n starts between) (spliced_shown gap parts others) ≡ spliced_lines gap n (held old starts parts) (held window between others)
    joined_lines =
        held_append joined (take gap.line starts) (moves ++ later) (take gap.line parts) (others ++ drop gap.end_line parts) front_shown
        ∙ ap₂ (λ (xs ys : List Line). xs ++ ys)
        (lines_stay gap.start old joined front_agrees (take gap.line starts) (take gap.line parts) before ∙ sym (take_held old gap.line starts parts))
        (held_append joined moves later others (drop gap.end_line parts) moves_shown
        ∙ ap₂ (λ (xs ys : List Line). xs ++ ys)
        (lines_move n 0 gap.start window joined window_agrees n between others (omega arith) fit)
        (lines_move (len - gap.end) gap.end (gap.start + n) old joined back_agrees len (drop gap.end_line starts) (drop gap.end_line parts) (omega (arith, within)) after
        ∙ ap (map (moved gap.end (gap.start + n))) (sym (drop_held old gap.end_line starts parts))))

    joined_fit : Fit 0 (gap.start + n + (len - gap.end)) (spliced_starts gap n starts between) (spliced_shown gap parts others)
    joined_fit =
        let end : ℕ = gap.start + n + (len - gap.end) in
        fit_append 0 end (take gap.line starts) (moves ++ later) (take gap.line parts) (others ++ drop gap.end_line parts) front_shown
        (fit_wider 0 gap.start 0 end (take gap.line starts) (take gap.line parts) (omega arith) (omega arith) before)
        (fit_append 0 end moves later others (drop gap.end_line parts) moves_shown
        (fit_wider gap.start (gap.start + (n - 0)) 0 end moves others (omega arith) (omega arith) (fit_moved 0 n gap.start between others fit))
        (fit_wider (gap.start + n) end 0 end later (drop gap.end_line parts) (omega arith) (omega arith)
        (fit_moved gap.end len (gap.start + n) (drop gap.end_line starts) (drop gap.end_line parts) after)))

-- ---- both maps in one list

-- stored lines, and those of a window that replace the lines in a gap
module _ (gap : Gap) (starts : List ℕ) (parts : List Shown) (levels maps chars : List ℕ) (between : List ℕ) (others : List Shown) (new_levels new_maps new_chars : List ℕ)
    (sound : IsSound starts parts levels maps chars) (fresh : IsSound between others new_levels new_maps new_chars)
    (seen : Filled) (is : record { lines = lines_in starts parts levels maps chars; len = length levels } ≡ seen)
    (order : gap.start ≤ gap.end) (within_seen : gap.end ≤ seen.len) (before_seen : LinesAreWithin gap.start (take gap.line seen.lines))
    (after_seen : All (λ (line : Line). gap.end ≤ line.start) (drop gap.end_line seen.lines)) where
  within : gap.end ≤ length levels
  within = subst (λ (f : Filled). gap.end ≤ f.len) (sym is) within_seen

  before : LinesAreWithin gap.start (take gap.line (lines_in starts parts levels maps chars))
  before = subst (λ (f : Filled). LinesAreWithin gap.start (take gap.line f.lines)) (sym is) before_seen

  after : All (λ (line : Line). gap.end ≤ line.start) (drop gap.end_line (lines_in starts parts levels maps chars))
  after = subst (λ (f : Filled). All (λ (line : Line). gap.end ≤ line.start) (drop gap.end_line f.lines)) (sym is) after_seen

  abbrev old : Items
  old = record { levels = levels; ltov = take (length levels) maps; vtol = drop (length levels) maps; chars = chars }

  abbrev window : Items
  window = record { levels = new_levels; ltov = take (length new_levels) new_maps; vtol = drop (length new_levels) new_maps; chars = new_chars }

  abbrev pub joined_maps : List ℕ
  joined_maps = spliced gap old.ltov window.ltov ++ spliced gap old.vtol window.vtol

  long : AreLong (length levels) old
  long = record {
    levels = refl;
    ltov = length-take-le (length levels) maps (omega (arith, sound.maps_len));
    vtol = omega (arith, length-drop (length levels) maps, sound.maps_len);
    chars = sound.chars_len;
  }

  wide : AreLong (length new_levels) window
  wide = record {
    levels = refl;
    ltov = length-take-le (length new_levels) new_maps (omega (arith, fresh.maps_len));
    vtol = omega (arith, length-drop (length new_levels) new_maps, fresh.maps_len);
    chars = fresh.chars_len;
  }

  shown_fit : Fit 0 (length levels) starts parts
  shown_fit = fit_from (length levels) starts parts nothing_shown sound.within

  front_fit : Fit 0 gap.start (take gap.line starts) (take gap.line parts)
  front_fit =
      fit_before old gap.start (take gap.line starts) (take gap.line parts) (fit_take 0 (length levels) gap.line starts parts shown_fit)
      (subst (LinesAreWithin gap.start) (take_held old gap.line starts parts) before)

  window_fit : Fit 0 (length new_levels) between others
  window_fit = fit_from (length new_levels) between others nothing_shown fresh.within

  back_fit : Fit gap.end (length levels) (drop gap.end_line starts) (drop gap.end_line parts)
  back_fit =
      fit_after old gap.end (length levels) (drop gap.end_line starts) (drop gap.end_line parts) (fit_drop 0 (length levels) gap.end_line starts parts shown_fit)
      (subst (All (λ (line : Line). gap.end ≤ line.start)) (drop_held old gap.end_line starts parts) after)

  -- a property of the starts of the lines after the gap
  pub later_starts : (P : ℕ → Type 0) → ((s : ℕ) → gap.end ≤ s → s ≤ length levels → P s) → All P (drop gap.end_line starts)
  later_starts P each =
      fit_each P gap.end (length levels) (drop gap.end_line starts) (drop gap.end_line parts)
      (omega (arith, length-drop gap.end_line starts, length-drop gap.end_line parts, sound.all_shown)) back_fit each

  pub length-levels : length (spliced gap levels new_levels) ≡ gap.start + length new_levels + (length levels - gap.end)
  length-levels = length-spliced gap levels new_levels (omega (arith, order, within))

  length-ltov : length (spliced gap old.ltov window.ltov) ≡ length (spliced gap levels new_levels)
  length-ltov = omega (arith, length-levels, length-spliced gap old.ltov window.ltov (omega (arith, order, within, long.ltov)), long.ltov, wide.ltov)

  length-vtol : length (spliced gap old.vtol window.vtol) ≡ length (spliced gap levels new_levels)
  length-vtol = omega (arith, length-levels, length-spliced gap old.vtol window.vtol (omega (arith, order, within, long.vtol)), long.vtol, wide.vtol)

  pub lines_are : lines_in (spliced_starts gap (length new_levels) starts between) (spliced_shown gap parts others) (spliced gap levels new_levels) joined_maps (spliced gap chars new_chars)
      ≡ spliced_lines gap (length new_levels) (lines_in starts parts levels maps chars) (lines_in between others new_levels new_maps new_chars)
  lines_are =
      let all : List ℕ = spliced gap levels new_levels in
      ap₂ (λ ltov vtol. lines_by all ltov vtol (spliced gap chars new_chars) (spliced_starts gap (length new_levels) starts between) (spliced_shown gap parts others))
      (take_at (spliced gap old.ltov window.ltov) (spliced gap old.vtol window.vtol) (length all) length-ltov)
      (drop_at (spliced gap old.ltov window.ltov) (spliced gap old.vtol window.vtol) (length all) length-ltov)
      ∙ joined_lines gap old window (length levels) (length new_levels) long wide order within starts between parts others sound.all_shown fresh.all_shown front_fit window_fit back_fit

  abbrev IsPlaced : Line → Type 0
  IsPlaced line = AreWithin (length line.levels) line.vtol

  pub are_sound : IsSound (spliced_starts gap (length new_levels) starts between) (spliced_shown gap parts others) (spliced gap levels new_levels) joined_maps (spliced gap chars new_chars)
  are_sound =
      let shown = length-spliced_shown gap (length new_levels) starts between parts others sound.all_shown fresh.all_shown in
      let fit = joined_fit gap old window (length levels) (length new_levels) long wide order within starts between parts others sound.all_shown fresh.all_shown front_fit window_fit back_fit in
      let lines : List Line = lines_in starts parts levels maps chars in
      let news : List Line = lines_in between others new_levels new_maps new_chars in
      record {
        all_shown = shown;
        maps_len = omega (arith, length-append (spliced gap old.ltov window.ltov) (spliced gap old.vtol window.vtol), length-ltov, length-vtol);
        chars_len = omega (arith, length-levels, length-spliced gap chars new_chars (omega (arith, order, within, long.chars)), long.chars, wide.chars);
        places = subst (All IsPlaced) (sym lines_are)
            (All-append IsPlaced (take gap.line lines) _ (All-take IsPlaced gap.line lines sound.places)
            (All-append IsPlaced (map (moved 0 gap.start) news) _ (All-map IsPlaced (moved 0 gap.start) news fresh.places)
            (All-map IsPlaced (moved gap.end (gap.start + length new_levels)) (drop gap.end_line lines) (All-drop IsPlaced gap.end_line lines sound.places))));
        within = λ k below.
            omega (arith, length-levels, fit_at 0 _ _ _ nothing_shown shown fit k below);
      }

  module _ (ss : List ℕ) (ps : List Shown) (ls ms cs : List ℕ) (starts_are : ss ≡ spliced_starts gap (length new_levels) starts between) (shown_are : ps ≡ spliced_shown gap parts others)
      (levels_are : ls ≡ spliced gap levels new_levels) (maps_are : ms ≡ joined_maps) (chars_are : cs ≡ spliced gap chars new_chars) where
    pub put_lines : lines_in ss ps ls ms cs ≡ spliced_lines gap (length new_levels) seen.lines (lines_in between others new_levels new_maps new_chars)
    put_lines =
        let all : lines_in ss ps ls ms cs ≡ spliced_lines gap (length new_levels) (lines_in starts parts levels maps chars) (lines_in between others new_levels new_maps new_chars) =
        rw (starts_are, shown_are, levels_are, maps_are, chars_are) lines_are in
        all ∙ ap (λ (f : Filled). spliced_lines gap (length new_levels) f.lines (lines_in between others new_levels new_maps new_chars)) is

    pub put_sound : IsSound ss ps ls ms cs
    put_sound = rw (starts_are, shown_are, levels_are, maps_are, chars_are) are_sound
