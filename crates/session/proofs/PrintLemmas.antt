-- The printed bytes of a session's paragraphs and of its lines, in order.
use Rattle.std.proofs.Common.{◌≡◌, ℕ, zero, suc, ◌+◌, ◌-◌, ◌<◌, ◌≤◌, min, List, [], ◌∷◌, ◌++◌, length, map, take, drop, get_or, Some, unwrap_or, inl, inr, arith, refl, sym, ap, ap₂, subst, ◌∙◌}
use Rattle.std.specs.List.{concat, flat_map, slice_get}
use Rattle.std.proofs.lemmas.List.{append-nil, append_assoc, drop_at, get_or-map, length-drop, length-map, length-take, take-append-le, take_all}
use Rattle.std.proofs.lemmas.Bool.{cases_lt}
use Rattle.std.proofs.Math.Seq.{drop-append-add, drop-append-le, take-append-add}
use Rattle.store.specs.Finding.{Finds}
use Rattle.store.specs.declared.found.Found.{Found}
use Rattle.session.proofs.BorderLemmas.{chars_of, length-lines, length-visuals, lines_of}
use Rattle.std.proofs.lemmas.List.Concat.{flat_map-append}
use Rattle.std.proofs.lemmas.Option.{get_or_from_slice_get, slice_get_within}
use Rattle.lines.specs.Bytes.{line_bytes}
use Rattle.lines.specs.Layouts.{Layout, visuals}
use Rattle.lines.specs.Visual.{Visual}
use Rattle.lines.specs.Pages.{layout_bytes}
use Rattle.lines.specs.declared.printing.print.Print.{Print}
use Rattle.session.specs.Kept.{lines_in}
use Rattle.session.specs.Printing.{lines_page, PrintsNot}
use Rattle.session.specs.declared.printing.RangeFault.{RangeFault}
use Rattle.session.specs.declared.printing.RangeFault.TheVariants.{Write}
use Rattle.lines.specs.declared.printing.bytes.WriteFault.{WriteFault}
use Rattle.session.specs.Sessions.{SessionState, IsWholeLayout, page_at}

module _ (width : ℕ) (print : Print) where
  -- the printed bytes of each paragraph
  abbrev pub pieces : List Layout → List (List ℕ)
  pieces kept = map (layout_bytes width print) kept

  pub pieces_whole : (kept : List Layout) → concat (pieces kept) ≡ flat_map (layout_bytes width print) kept
  pieces_whole [] = refl
  pieces_whole (l ∷ kept) = ap (λ more. layout_bytes width print l ++ more) (pieces_whole kept)

  pub pieces_all : (kept : List Layout) (k : ℕ) → length kept ≤ k → concat (take k (pieces kept)) ≡ flat_map (layout_bytes width print) kept
  pieces_all kept k past = ap concat (take_all k (pieces kept) (rw (length-map kept (layout_bytes width print)) past)) ∙ pieces_whole kept

  -- ---- the printed bytes of the paragraph that was read at index k
  module _ (kept : List Layout) (k : ℕ) (l : Layout) (read : Some l ≡ slice_get kept k) where
    pub piece_within : k < length (pieces kept)
    piece_within = rw (length-map kept (layout_bytes width print)) (slice_get_within kept k l (sym read))

    pub piece_read : layout_bytes width print l ≡ get_or (pieces kept) k []
    piece_read =
        sym (get_or-map (layout_bytes width print) kept k l [] (slice_get_within kept k l (sym read)) ∙ ap (layout_bytes width print) (get_or_from_slice_get kept k l l (sym read)))

-- the printed bytes of the kept layouts are those of the fresh layout of the whole text
pub page_of_kept : (state : SessionState) (print : Print) → IsWholeLayout state → flat_map (layout_bytes state.width print) state.kept ≡ page_at state print
page_of_kept state print whole = ap (flat_map (layout_bytes state.width print)) whole.kept

-- the printed bytes of a layout are those of its visual lines, in order
abbrev pub LinesArePrinted : Type 0
LinesArePrinted = (width : ℕ) (print : Print) (layout : Layout) → layout_bytes width print layout ≡ flat_map (line_bytes width print) (visuals layout)

by_lines : LinesArePrinted → (width : ℕ) (print : Print) (kept : List Layout) → flat_map (layout_bytes width print) kept ≡ flat_map (line_bytes width print) (lines_in kept)
by_lines law width print [] = refl
by_lines law width print (l ∷ kept) =
    ap₂ (λ (x y : List ℕ). x ++ y) (law width print l) (by_lines law width print kept) ∙ sym (flat_map-append (line_bytes width print) (visuals l) (lines_in kept))

pub page_by_lines : LinesArePrinted → (state : SessionState) (print : Print) → IsWholeLayout state → page_at state print ≡ flat_map (line_bytes state.width print) (lines_in state.kept)
page_by_lines law state print whole = sym (page_of_kept state print whole) ∙ by_lines law state.width print state.kept

-- ---- a range of lines

-- item n of a range that starts at `from` is item from + n of the list
part_get : {A : Type 0} (xs : List A) (from count n : ℕ) → n < count → slice_get (take count (drop from xs)) n ≡ slice_get xs (from + n)
part_get [] zero zero n below = absurd (omega (arith, below))
part_get [] zero (suc count) n below = refl
part_get [] (suc from) zero n below = absurd (omega (arith, below))
part_get [] (suc from) (suc count) n below = refl
part_get (x ∷ xs) zero zero n below = absurd (omega (arith, below))
part_get (x ∷ xs) zero (suc count) zero below = refl
part_get (x ∷ xs) zero (suc count) (suc n) below = let e : suc (0 + n) ≡ 0 + suc n = omega arith in part_get xs zero count n (omega (arith, below)) ∙ ap (slice_get (x ∷ xs)) e
part_get (x ∷ xs) (suc from) count n below = let e : suc (from + n) ≡ suc from + n = omega arith in part_get xs from count n below ∙ ap (slice_get (x ∷ xs)) e

module _ (width : ℕ) (print : Print) where
  abbrev pub line_pieces : List Visual → List (List ℕ)
  line_pieces lines = map (line_bytes width print) lines

  pub line_pieces_whole : (lines : List Visual) → concat (line_pieces lines) ≡ flat_map (line_bytes width print) lines
  line_pieces_whole [] = refl
  line_pieces_whole (line ∷ lines) = ap (λ more. line_bytes width print line ++ more) (line_pieces_whole lines)

  pub line_pieces_all : (lines : List Visual) (k : ℕ) → length lines ≤ k → concat (take k (line_pieces lines)) ≡ flat_map (line_bytes width print) lines
  line_pieces_all lines k past = ap concat (take_all k (line_pieces lines) (rw (length-map lines (line_bytes width print)) past)) ∙ line_pieces_whole lines

  module _ (lines : List Visual) (from count n : ℕ) (below : n < count) (line : Visual) (read : Some line ≡ slice_get lines (from + n)) where
    read_there : slice_get (take count (drop from lines)) n ≡ Some line
    read_there = part_get lines from count n below ∙ sym read

    pub line_within : n < length (line_pieces (take count (drop from lines)))
    line_within = rw (length-map (take count (drop from lines)) (line_bytes width print)) (slice_get_within (take count (drop from lines)) n line read_there)

    pub line_piece : line_bytes width print line ≡ get_or (line_pieces (take count (drop from lines))) n []
    line_piece =
        sym (get_or-map (line_bytes width print) (take count (drop from lines)) n line [] (slice_get_within (take count (drop from lines)) n line read_there)
        ∙ ap (line_bytes width print) (get_or_from_slice_get (take count (drop from lines)) n line line read_there))

pub part_few : {A : Type 0} (xs : List A) (from count : ℕ) → length (take count (drop from xs)) ≤ count
part_few xs from count = omega (arith, length-take count (drop from xs))

-- ---- the lines of one paragraph, and those of the paragraphs after it

pub lines_there : (kept : List Layout) (i : ℕ) (l : Layout) → Some l ≡ slice_get kept i → lines_in (drop i kept) ≡ visuals l ++ lines_in (drop (i + 1) kept)
lines_there [] i l read = absurd (cc read)
lines_there (x ∷ kept) zero l read = ap (λ y. visuals y ++ lines_in kept) (ap (λ o. unwrap_or o x) (sym read))
lines_there (x ∷ kept) (suc i) l read = let e : suc (i + 1) ≡ suc i + 1 = omega arith in lines_there kept i l read ∙ ap (λ j. visuals l ++ lines_in (drop j (x ∷ kept))) e

pub lines_begin : (kept : List Layout) (first : ℕ) (found : Found) → Finds lines_of chars_of lines_of kept first found
    → drop found.rest (lines_in (drop found.index kept)) ≡ drop first (lines_in kept)
lines_begin kept first found f =
    let there : drop found.index kept ≡ f.item ∷ f.after = ap (drop found.index) f.place ∙ drop_at f.before (f.item ∷ f.after) found.index (sym f.index) in
    let place : length (lines_in f.before) + found.rest ≡ first = omega (arith, f.rest, length-lines f.before) in
    let whole : lines_in kept ≡ lines_in f.before ++ lines_in (f.item ∷ f.after) = ap lines_in f.place ∙ flat_map-append visuals f.before (f.item ∷ f.after) in
    ap (λ ks. drop found.rest (lines_in ks)) there
    ∙ sym (ap₂ (λ (n : ℕ) (vs : List Visual). drop n vs) (sym place) whole ∙ drop-append-add (lines_in f.before) (lines_in (f.item ∷ f.after)) found.rest)

-- a range of the concatenation of two lists that starts in the first list is a range of the first list,
-- followed by a prefix of the second
pub wanted_parts : {A : Type 0} (xs ys : List A) (from left part : ℕ) → from ≤ length xs → part ≡ min left (length xs - from)
    → take left (drop from (xs ++ ys)) ≡ take part (drop from xs) ++ take (left - part) ys
wanted_parts xs ys from left part within part-is =
    let size : length (drop from xs) ≡ length xs - from = length-drop from xs in
    let front : drop from (xs ++ ys) ≡ drop from xs ++ ys = drop-append-le from xs ys within in
    elim (cases_lt (length xs - from) left) [
      | inl more ↦
          let all : part ≡ length (drop from xs) = omega (arith, part-is, size, more) in
          let rest : left ≡ length (drop from xs) + (left - part) = omega (arith, all, size, more) in
          ap₂ (λ n zs. take n zs) rest front ∙ take-append-add (drop from xs) ys (left - part)
          ∙ ap (λ zs. zs ++ take (left - part) ys) (sym (take_all part (drop from xs) (omega (arith, all))))
      | inr few ↦
          let all : left ≡ part = omega (arith, part-is, few) in
          let none : left - part ≡ 0 = omega (arith, all) in
          ap (take left) front ∙ take-append-le left (drop from xs) ys (omega (arith, few, size))
          ∙ ap (λ n. take n (drop from xs)) all ∙ sym (append-nil (take part (drop from xs))) ∙ ap (λ n. take part (drop from xs) ++ take n ys) (sym none)
    ]

-- the written lines and the remaining ones still make up the whole range after the lines of one more
-- paragraph have been written
pub front_more : (kept : List Layout) (i from left part : ℕ) (l : Layout) → Some l ≡ slice_get kept i → from ≤ length l.lines → part ≡ min left (length l.lines - from)
    → (front whole : List Visual) → front ++ take left (drop from (lines_in (drop i kept))) ≡ whole
    → (front ++ take part (drop from (visuals l))) ++ take (left - part) (lines_in (drop (i + 1) kept)) ≡ whole
front_more kept i from left part l read within part-is front whole so_far =
    let rest : List Visual = lines_in (drop (i + 1) kept) in
    append_assoc front (take part (drop from (visuals l))) (take (left - part) rest)
    ∙ ap (λ vs. front ++ vs)
    (sym (ap (λ vs. take left (drop from vs)) (lines_there kept i l read)
    ∙ wanted_parts (visuals l) rest from left part (omega (arith, within, length-visuals l)) (part-is ∙ ap (λ n. min left (n - from)) (sym (length-visuals l)))))
    ∙ so_far

-- printing all lines yields the printed bytes of the whole text
pub lines_page_all : (state : SessionState) (print : Print) (count : ℕ) → count ≡ length (lines_in state.kept) → page_at state print ≡ flat_map (line_bytes state.width print) (lines_in state.kept)
    → lines_page state 0 count print ≡ page_at state print
lines_page_all state print count is law =
    ap (flat_map (line_bytes state.width print)) (take_all (0 + count - 0) (lines_in state.kept) (omega (arith, is))) ∙ sym law

-- if printing fails with `Write`, the sink failed
pub fault_of_sink : (state : SessionState) (first count : ℕ) (untouched : Type 0) (stopped : ℕ → Type 0) (fault : RangeFault) (of_sink : WriteFault) → fault ≡ Write of_sink
    → PrintsNot state first count untouched stopped fault → stopped of_sink.written
fault_of_sink state first count untouched stopped fault of_sink is h = (subst (PrintsNot state first count untouched stopped) is h).1
