-- The bytes of a paragraph's lines, one line at a time.
use Rattle.std.proofs.Common.{◌≡◌, ◌∙◌, ℕ, zero, suc, ◌+◌, ◌<◌, ◌≤◌, List, [], ◌∷◌, ◌++◌, length, map, take, get_or, Option, Some, None, refl, sym, ap, arith}
use Rattle.std.specs.Prelude.{option_map, slice_get}
use Rattle.std.specs.List.{concat, enumerate_from, flat_map}
use Rattle.std.proofs.lemmas.List.{get_or-map, length-map, take_all}
use Rattle.std.proofs.lemmas.List.Folds.{flat_map-map}
use Rattle.std.proofs.lemmas.List.FromFn.{get_or-enumerate_from, length-enumerate_from}
use Rattle.std.proofs.lemmas.Option.{get_or_from_slice_get}
use Rattle.lines.specs.Bytes.{line_bytes}
use Rattle.lines.specs.Layouts.{Layout, visuals}
use Rattle.lines.specs.Pages.{layout_bytes, lines_bytes}
use Rattle.lines.specs.Visual.{Line, Visual, visual_of}
use Rattle.lines.specs.declared.printing.print.Print.{Print}

-- if the lines of a list are numbered from 0, item k is the pair of k and line k
line_with : (lines : List Line) (k : ℕ) (line : Line) → k < length lines → slice_get lines k ≡ Some line → get_or (enumerate_from 0 lines) k (0, line) ≡ (k, line)
line_with lines k line within got =
    let place : 0 + k ≡ k = omega arith in
    let there : get_or lines k line ≡ line = get_or_from_slice_get lines k line line got in
    get_or-enumerate_from 0 lines k (0, line) within ∙ rw (place, there) refl

-- in a list that is numbered from k on and then mapped, item i has the number k + i
slice_get_numbered : {A B : Type 0} (f : ℕ → A → B) (k : ℕ) (xs : List A) (i : ℕ) → slice_get (map (λ nth. f nth.0 nth.1) (enumerate_from k xs)) i ≡ option_map (f (k + i)) (slice_get xs i)
slice_get_numbered f k [] i = refl
slice_get_numbered f k (x ∷ xs) zero = let same : k ≡ k + 0 = omega arith in ap (λ n. Some (f n x)) same
slice_get_numbered f k (x ∷ xs) (suc i) = let same : k + 1 + i ≡ k + suc i = omega arith in slice_get_numbered f (k + 1) xs i ∙ ap (λ n. option_map (f n) (slice_get xs i)) same

-- the n-th visual line of a layout shows its n-th line
pub visual_at : (layout : Layout) (n : ℕ) → option_map (visual_of layout.base layout.tab_width layout.advances layout.text layout.lines n) (slice_get layout.lines n) ≡ slice_get (visuals layout) n
visual_at layout n =
    let same : n ≡ 0 + n = omega arith in
    ap (λ k. option_map (visual_of layout.base layout.tab_width layout.advances layout.text layout.lines k) (slice_get layout.lines n)) same
    ∙ sym (slice_get_numbered (visual_of layout.base layout.tab_width layout.advances layout.text layout.lines) 0 layout.lines n)

-- the printed bytes of a layout are those of its visual lines, in order
pub layout_by_lines : (width : ℕ) (print : Print) (layout : Layout) → layout_bytes width print layout ≡ flat_map (line_bytes width print) (visuals layout)
layout_by_lines width print layout =
    sym (flat_map-map (line_bytes width print) (λ (nth : ℕ × Line). visual_of layout.base layout.tab_width layout.advances layout.text layout.lines nth.0 nth.1) (enumerate_from 0 layout.lines))

-- if lines and the data that they share are those of a layout, their printed bytes are the printed bytes of
-- the layout
pub laid_bytes : (width : ℕ) (print : Print) (base tab_width : ℕ) (advances : Option (List ℕ)) (text : List ℕ) (lines : List Line) (layout : Layout)
    → base ≡ layout.base → tab_width ≡ layout.tab_width → advances ≡ layout.advances → text ≡ layout.text → lines ≡ layout.lines
    → lines_bytes width print base tab_width advances text lines ≡ layout_bytes width print layout
laid_bytes width print base tab_width advances text lines layout b t a c s = rw (b, t, a, c, s) refl

module _ (width : ℕ) (print : Print) (base tab_width : ℕ) (advances : Option (List ℕ)) (text : List ℕ) where
  -- the printed bytes of a line, given the pair of its number and the line
  abbrev pub bytes_at : List Line → ℕ × Line → List ℕ
  bytes_at lines nth = line_bytes width print (visual_of base tab_width advances text lines nth.0 nth.1)

  -- the printed bytes of each line
  abbrev pub pieces : List Line → List (List ℕ)
  pieces lines = map (bytes_at lines) (enumerate_from 0 lines)

  joined : (lines : List Line) (xs : List (ℕ × Line)) → concat (map (bytes_at lines) xs) ≡ flat_map (bytes_at lines) xs
  joined lines [] = refl
  joined lines (x ∷ xs) = ap (λ more. bytes_at lines x ++ more) (joined lines xs)

  pub pieces_whole : (lines : List Line) → concat (pieces lines) ≡ lines_bytes width print base tab_width advances text lines
  pieces_whole lines = joined lines (enumerate_from 0 lines)

  pub length-pieces : (lines : List Line) → length (pieces lines) ≡ length lines
  length-pieces lines = length-map (enumerate_from 0 lines) (bytes_at lines) ∙ length-enumerate_from 0 lines

  pub piece_within : (lines : List Line) (k : ℕ) → k < length lines → k < length (pieces lines)
  piece_within lines k within = rw (length-pieces lines) within

  piece_of : (lines : List Line) (k : ℕ) (line : Line) → k < length lines → slice_get lines k ≡ Some line → get_or (pieces lines) k [] ≡ bytes_at lines (k, line)
  piece_of lines k line within got =
      get_or-map (bytes_at lines) (enumerate_from 0 lines) k (0, line) [] (rw (length-enumerate_from 0 lines) within) ∙ ap (bytes_at lines) (line_with lines k line within got)

  -- the k-th piece is the printed bytes of the k-th visual line
  pub piece_at : (lines : List Line) (k : ℕ) (visual : Visual) → k < length lines → Some visual ≡ option_map (visual_of base tab_width advances text lines k) (slice_get lines k)
      → line_bytes width print visual ≡ get_or (pieces lines) k []
  piece_at lines k visual within shown = go (slice_get lines k) refl
    where
      go : (o : Option Line) → slice_get lines k ≡ o → line_bytes width print visual ≡ get_or (pieces lines) k []
      go None none =
          let bad : Some visual ≡ None = rw none at shown in
          cc
      go (Some line) got =
          let same : Some visual ≡ Some (visual_of base tab_width advances text lines k line) = rw got at shown in
          let is : visual ≡ visual_of base tab_width advances text lines k line = cc in
          ap (line_bytes width print) is ∙ sym (piece_of lines k line within got)

  -- if there are at most k lines, the first k pieces are the bytes of all lines
  pub pieces_all : (lines : List Line) (k : ℕ) → length lines ≤ k → concat (take k (pieces lines)) ≡ lines_bytes width print base tab_width advances text lines
  pieces_all lines k past = ap concat (take_all k (pieces lines) (rw (length-pieces lines) past)) ∙ pieces_whole lines
