-- Where lines start, and on which line a character is.
use Rattle.std.proofs.Common.{◌≡◌, ℕ, zero, suc, ◌+◌, ◌-◌, ◌<◌, ◌≤◌, Bool, true, false, cond, ◌==◌, ◌&&◌, ◌||◌, if◌then◌else◌, nat_le, nat_lt, List, [], ◌∷◌, ◌++◌, length, map, take, get_or, sum_by, Some, None, is_none, refl, sym, ap, ap₂, subst, ◌∙◌, inl, inr, arith}
use Rattle.std.specs.List.{All, slice_get}
use Rattle.std.proofs.Math.ListN.{get_or-eq_default}
use Rattle.std.proofs.lemmas.Bool.{cases_lt, cond-true, cond-false, le-leb, le-ltb, lt-leb, lt-ltb, eq-eqb, ne_eqb}
use Rattle.std.proofs.lemmas.List.{append_assoc, get_or-append-add, get_or_append_left, get_or_default, length-append, length-map}
use Rattle.std.proofs.lemmas.List.Elements.{All-append, All-head, All-tail}
use Rattle.std.proofs.lemmas.List.Sums.{count_by-le-length, sum_by-append, sum_by-cons}
use Rattle.std.proofs.lemmas.Option.{get_or_from_slice_get, slice_get_past, slice_get_within}
use Rattle.std.specs.List.Sorted.{IsNonDecreasing}
use Rattle.lines.specs.Kept.{AreStarts}
use Rattle.bidi.specs.Pieces.{ParagraphsArePieces}
use Rattle.lines.specs.Beginnings.{BeginInOrder}
use Rattle.lines.specs.Engine.{rules_of}
use Rattle.lines.specs.Layouts.{Layout, Rules, cut_by, lines_of as lines_at, start_of as begins, visuals}
use Rattle.lines.specs.declared.engine.Engine.{Engine}
use Rattle.lines.proofs.SkippedLemmas.{some_text}
use Rattle.lines.specs.Visual.{Line}
use Rattle.store.specs.Finding.{Finds}
use Rattle.store.specs.declared.found.Found.{Found}
use Rattle.session.specs.Kept.{lines_in, rules_for, text_of, IsFresh}
use Rattle.session.specs.Places.{count_to, first_line_at, lines_from, line_starts, paragraph_starts, paragraphs_from, is_closed, next_place, place_at, place_in, IsLined}
use Rattle.session.specs.Sessions.{SessionState, IsWholeLayout, cuts_at, state_of, text_at}
use Rattle.session.specs.declared.edits.TheConstants.{TEXT_LIMIT}
use Rattle.session.proofs.RefusalLemmas.{allowed-length}
use Rattle.session.proofs.WidthLemmas.{all_each, each_laid_out}
use Rattle.session.specs.declared.places.Place.{Place}
use Rattle.session.proofs.BorderLemmas.{chars_of, lines_of, item_read, length-lines, length-text, length-visuals, sum_whole}
use Rattle.session.proofs.LineLemmas.{slice_get_after, slice_get_left}

-- ---- where lines start

abbrev starts_at : ℕ → Layout → List ℕ
starts_at place l = map (λ line. place + line.start) l.lines

lines_from-append : (place : ℕ) (xs ys : List Layout) → lines_from place (xs ++ ys) ≡ lines_from place xs ++ lines_from (place + length (text_of xs)) ys
lines_from-append place [] ys = ap (λ n. lines_from n ys) (omega arith)
lines_from-append place (l ∷ xs) ys =
    let next : ℕ = place + length l.text in
    ap (λ more. starts_at place l ++ more) (lines_from-append next xs ys ∙ ap (λ n. lines_from next xs ++ lines_from n ys) (omega (arith, length-append l.text (text_of xs))))
    ∙ sym (append_assoc (starts_at place l) (lines_from next xs) (lines_from (place + length (text_of (l ∷ xs))) ys))

pub length-lines_from : (place : ℕ) (kept : List Layout) → length (lines_from place kept) ≡ length (lines_in kept)
length-lines_from place [] = refl
length-lines_from place (l ∷ kept) =
    length-append (starts_at place l) (lines_from (place + length l.text) kept)
    ∙ ap₂ (λ n m. n + m) (length-map l.lines (λ line. place + line.start) ∙ sym (length-visuals l)) (length-lines_from (place + length l.text) kept)
    ∙ sym (length-append (visuals l) (lines_in kept))

-- the line starts of a text are those before the found paragraph, those in it, and those after it
starts_whole : (size : Layout → ℕ) (kept : List Layout) (n : ℕ) (found : Found) (f : Finds size chars_of lines_of kept n found)
    → line_starts kept ≡ lines_from 0 f.before ++ (starts_at (sum_by chars_of f.before) f.item ++ lines_from (sum_by chars_of f.before + chars_of f.item) f.after)
starts_whole size kept n found f =
    ap line_starts f.place ∙ lines_from-append 0 f.before (f.item ∷ f.after)
    ∙ ap (λ m. lines_from 0 f.before ++ lines_from m (f.item ∷ f.after)) (omega (arith, length-text f.before))

start_at : (place : ℕ) (lines : List Line) (i : ℕ) → i < length lines → slice_get (map (λ line. place + line.start) lines) i ≡ Some (place + get_or (map begins lines) i 0)
start_at place [] i within = absurd (omega (arith, within))
start_at place (line ∷ lines) zero within = refl
start_at place (line ∷ lines) (suc i) within = start_at place lines i (omega (arith, within))

pub start_read : (kept : List Layout) (n : ℕ) (found : Found) → Finds lines_of chars_of lines_of kept n found → (l : Layout) → Some l ≡ slice_get kept found.index
    → slice_get (line_starts kept) n ≡ Some (found.chars_before + get_or (map begins l.lines) found.rest 0)
start_read kept n found f l read =
    let item : l ≡ f.item = item_read lines_of kept n found f l read in
    let before : ℕ = sum_by chars_of f.before in
    let place : n ≡ length (lines_from 0 f.before) + found.rest = omega (arith, f.rest, length-lines_from 0 f.before, length-lines f.before) in
    let within : found.rest < length (starts_at before f.item) = omega (arith, f.within, length-map f.item.lines (λ line. before + line.start)) in
    ap₂ slice_get (starts_whole lines_of kept n found f) place
    ∙ slice_get_after (lines_from 0 f.before) (starts_at before f.item ++ lines_from (before + chars_of f.item) f.after) found.rest
    ∙ slice_get_left (starts_at before f.item) (lines_from (before + chars_of f.item) f.after) found.rest within
    ∙ start_at before f.item.lines found.rest f.within
    ∙ ap₂ (λ (m : ℕ) (x : Layout). Some (m + get_or (map begins x.lines) found.rest 0)) (sym f.chars_before) (sym item)

-- a search by lines finds a paragraph that starts within the text, and one of that paragraph's lines
pub before_within : (kept : List Layout) (n : ℕ) (found : Found) → Finds lines_of chars_of lines_of kept n found → found.chars_before ≤ length (text_of kept)
before_within kept n found f = omega (arith, f.chars_before, sum_whole lines_of kept n found f chars_of, length-text kept)

pub rest_within : (kept : List Layout) (n : ℕ) (found : Found) → Finds lines_of chars_of lines_of kept n found → (l : Layout) → Some l ≡ slice_get kept found.index
    → found.rest < length (map begins l.lines)
rest_within kept n found f l read = omega (arith, f.within, length-map l.lines begins, ap (λ (x : Layout). length x.lines) (item_read lines_of kept n found f l read))

-- ---- the number of starts at or before a position

count_cons : (pos s : ℕ) (starts : List ℕ) → count_to pos (s ∷ starts) ≡ cond (nat_le s pos) 1 0 + count_to pos starts
count_cons pos s starts = sum_by-cons (λ k. cond (nat_le k pos) 1 0) s starts

count_append : (pos : ℕ) (xs ys : List ℕ) → count_to pos (xs ++ ys) ≡ count_to pos xs + count_to pos ys
count_append pos xs ys = sum_by-append (λ k. cond (nat_le k pos) 1 0) xs ys

-- if exactly the first i starts are at or before a position, their count is i
pub count_point : (pos : ℕ) (starts : List ℕ) (i : ℕ) → i ≤ length starts → ((k : ℕ) → k < i → get_or starts k 0 ≤ pos)
    → ((k : ℕ) → i ≤ k → k < length starts → pos < get_or starts k 0) → count_to pos starts ≡ i
count_point pos [] i within before after = omega (arith, within)
count_point pos (s ∷ starts) zero within before after =
    omega (
      arith,
      count_cons pos s starts,
      cond-false {A = ℕ} (nat_le s pos) 1 0 (lt-leb s pos (after 0 (omega arith) (omega arith))),
      count_point pos starts 0 (omega arith) (λ k below. absurd (omega (arith, below))) (λ k above under. after (suc k) (omega arith) (omega (arith, under))),
    )
count_point pos (s ∷ starts) (suc i) within before after =
    omega (
      arith,
      count_cons pos s starts,
      cond-true {A = ℕ} (nat_le s pos) 1 0 (le-leb s pos (before 0 (omega arith))),
      count_point pos starts i (omega (arith, within)) (λ k below. before (suc k) (omega (arith, below))) (λ k above under. after (suc k) (omega (arith, above)) (omega (arith, under))),
    )

pub some_to : (pos : ℕ) (starts : List ℕ) → slice_get starts 0 ≡ Some 0 → 1 ≤ count_to pos starts
some_to pos [] first = absurd (cc first)
some_to pos (s ∷ starts) first =
    let zero_start : s ≡ 0 = get_or_from_slice_get (s ∷ starts) 0 0 0 first in
    omega (arith, count_cons pos s starts, cond-true {A = ℕ} (nat_le s pos) 1 0 (le-leb s pos (omega (arith, zero_start))))

leb_shift : (place s pos : ℕ) → nat_le (place + s) (place + pos) ≡ nat_le s pos
leb_shift place s pos =
    elim (cases_lt pos s) [
      | inl below ↦ lt-leb (place + s) (place + pos) (omega arith) ∙ sym (lt-leb s pos below)
      | inr above ↦ le-leb (place + s) (place + pos) (omega arith) ∙ sym (le-leb s pos above)
    ]

count_shift : (place pos : ℕ) (lines : List Line) → count_to (place + pos) (map (λ line. place + line.start) lines) ≡ count_to pos (map begins lines)
count_shift place pos [] = refl
count_shift place pos (line ∷ lines) =
    count_cons (place + pos) (place + line.start) (map (λ line. place + line.start) lines)
    ∙ ap₂ (λ (b : Bool) (n : ℕ). cond b 1 0 + n) (leb_shift place line.start pos) (count_shift place pos lines)
    ∙ sym (count_cons pos line.start (map begins lines))

-- ---- bounds of line starts and paragraph starts

line_value : (place : ℕ) (lines : List Line) (i d : ℕ) → i < length lines → get_or (map (λ line. place + line.start) lines) i d ≡ place + get_or (map begins lines) i 0
line_value place [] i d within = absurd (omega (arith, within))
line_value place (line ∷ lines) zero d within = refl
line_value place (line ∷ lines) (suc i) d within = line_value place lines i d (omega (arith, within))

lines_above : (place : ℕ) (kept : List Layout) → All (λ s. place ≤ s) (lines_from place kept)
lines_above place [] = λ k d within. absurd (omega (arith, within))
lines_above place (l ∷ kept) =
    All-append (λ s. place ≤ s) (starts_at place l) (lines_from (place + length l.text) kept)
    (λ k d within. omega (arith, line_value place l.lines k d (omega (arith, within, length-map l.lines (λ line. place + line.start)))))
    (λ k d within. omega (arith, lines_above (place + length l.text) kept k d within))

lines_below : (place : ℕ) (kept : List Layout) → All IsLined kept → All (λ s. s < place + length (text_of kept)) (lines_from place kept)
lines_below place [] lined = λ k d within. absurd (omega (arith, within))
lines_below place (l ∷ kept) lined =
    let one : IsLined l = All-head IsLined l kept lined in
    let size = length-append l.text (text_of kept) in
    All-append (λ s. s < place + length (text_of (l ∷ kept))) (starts_at place l) (lines_from (place + length l.text) kept)
    (λ k d within.
    let few : k < length l.lines = omega (arith, within, length-map l.lines (λ line. place + line.start)) in
    omega (arith, size, line_value place l.lines k d few, one.lines.starts.below k (omega (arith, few, length-map l.lines begins))))
    (λ k d within. omega (arith, size, lines_below (place + length l.text) kept (All-tail IsLined l kept lined) k d within))

paragraphs_above : (place : ℕ) (kept : List Layout) → All (λ s. place ≤ s) (paragraphs_from place kept)
paragraphs_above place [] = λ k d within. absurd (omega (arith, within))
paragraphs_above place (l ∷ kept) = λ k d within. elim (cases_lt k 1) [
  | inl first ↦ let e : k ≡ 0 = omega arith in subst (λ j. place ≤ get_or (place ∷ paragraphs_from (place + length l.text) kept) j d) (sym e) (omega arith)
  | inr other ↦ let e : k ≡ suc (k - 1) = omega arith in
      subst (λ j. place ≤ get_or (place ∷ paragraphs_from (place + length l.text) kept) j d) (sym e) (omega (arith, paragraphs_above (place + length l.text) kept (k - 1) d (omega (arith, within))))
]

paragraphs_below : (place : ℕ) (kept : List Layout) → All IsLined kept → All (λ s. s < place + length (text_of kept)) (paragraphs_from place kept)
paragraphs_below place [] lined = λ k d within. absurd (omega (arith, within))
paragraphs_below place (l ∷ kept) lined = λ k d within.
    let one : IsLined l = All-head IsLined l kept lined in
    let size = length-append l.text (text_of kept) in
    elim (cases_lt k 1) [
      | inl first ↦ let e : k ≡ 0 = omega arith in
          subst (λ j. get_or (place ∷ paragraphs_from (place + length l.text) kept) j d < place + length (text_of (l ∷ kept))) (sym e) (omega (arith, size, one.some))
      | inr other ↦ let e : k ≡ suc (k - 1) = omega arith in
          subst (λ j. get_or (place ∷ paragraphs_from (place + length l.text) kept) j d < place + length (text_of (l ∷ kept))) (sym e)
          (omega (arith, size, paragraphs_below (place + length l.text) kept (All-tail IsLined l kept lined) (k - 1) d (omega (arith, within))))
    ]

length-paragraphs_from : (place : ℕ) (kept : List Layout) → length (paragraphs_from place kept) ≡ length kept
length-paragraphs_from place [] = refl
length-paragraphs_from place (l ∷ kept) = ap suc (length-paragraphs_from (place + length l.text) kept)

paragraphs_from-append : (place : ℕ) (xs ys : List Layout) → paragraphs_from place (xs ++ ys) ≡ paragraphs_from place xs ++ paragraphs_from (place + length (text_of xs)) ys
paragraphs_from-append place [] ys = ap (λ n. paragraphs_from n ys) (omega arith)
paragraphs_from-append place (l ∷ xs) ys =
    let next : ℕ = place + length l.text in
    ap (λ more. place ∷ more) (paragraphs_from-append next xs ys ∙ ap (λ n. paragraphs_from next xs ++ paragraphs_from n ys) (omega (arith, length-append l.text (text_of xs))))

-- ---- the place of a character

pub lined_read : (kept : List Layout) (i : ℕ) (l : Layout) → All IsLined kept → Some l ≡ slice_get kept i → IsLined l
lined_read kept i l lined read = subst IsLined (get_or_from_slice_get kept i l l (sym read)) (lined i l (slice_get_within kept i l (sym read)))

all_before : (xs ys : List Layout) → All IsLined (xs ++ ys) → All IsLined xs
all_before xs ys all = λ k d within. subst IsLined (get_or_append_left xs ys d k within) (all k d (omega (arith, within, length-append xs ys)))

rises : (n : ℕ) (starts : List ℕ) → AreStarts n starts → (i k : ℕ) → i + k < length starts → get_or starts i 0 ≤ get_or starts (i + k) 0
rises n starts are i zero within = let e : i ≡ i + 0 = omega arith in subst (λ j. get_or starts i 0 ≤ get_or starts j 0) e (omega arith)
rises n starts are i (suc k) within =
    let e : i + k + 1 ≡ i + suc k = omega arith in
    subst (λ j. get_or starts i 0 ≤ get_or starts j 0) e (omega (arith, rises n starts are i k (omega (arith, within)), are.rising (i + k) (omega (arith, within))))

pub starts_sorted : (n : ℕ) (starts : List ℕ) → AreStarts n starts → IsNonDecreasing starts
starts_sorted n starts are = λ i j d order within.
    let e : i + (j - i) ≡ j = omega arith in
    let rise : get_or starts i 0 ≤ get_or starts j 0 = subst (λ m. get_or starts i 0 ≤ get_or starts m 0) e (rises n starts are i (j - i) (omega (arith, within, order))) in
    omega (arith, rise, get_or_default starts i d 0 (omega (arith, within, order)), get_or_default starts j d 0 within)

same_place : (p n o q m r : ℕ) → p ≡ q → n ≡ m → o ≡ r
    → let here : Place = record { paragraph = p; line = n; offset = o } in here ≡ record { paragraph = q; line = m; offset = r }
same_place p n o q m r e f h = rw (e, f, h) refl

module _ (kept : List Layout) (pos : ℕ) (found : Found) (f : Finds chars_of chars_of lines_of kept pos found)
    (l : Layout) (read : Some l ≡ slice_get kept found.index) (lined : All IsLined kept) (j : ℕ)
    (j-is : j ≡ count_to found.rest (map begins l.lines)) where
  abbrev before : ℕ
  before = sum_by chars_of f.before

  item : l ≡ f.item
  item = item_read chars_of kept pos found f l read

  one : IsLined l
  one = lined_read kept found.index l lined read

  pub place-some : 1 ≤ j
  place-some = subst (λ n. 1 ≤ n) (sym j-is) (some_to found.rest (map begins l.lines) (one.lines.first one.some))

  pub place-few : j ≤ length (map begins l.lines)
  place-few = subst (λ n. n ≤ length (map begins l.lines)) (sym j-is) (count_by-le-length (λ s. nat_le s found.rest) (map begins l.lines))

  lines_there : length (map begins l.lines) ≡ lines_of f.item
  lines_there = length-map l.lines begins ∙ ap (λ (x : Layout). length x.lines) item

  pub place-fits : (total : ℕ) → total ≡ sum_by lines_of kept → found.lines_before + (j - 1) ≤ total
  place-fits total is = omega (arith, is, f.lines_before, place-few, lines_there, sum_whole chars_of kept pos found f lines_of)

  lined_before : All IsLined f.before
  lined_before = all_before f.before (f.item ∷ f.after) (subst (All IsLined) f.place lined)

  whole_lines : line_starts kept ≡ lines_from 0 f.before ++ (starts_at before f.item ++ lines_from (before + chars_of f.item) f.after)
  whole_lines = starts_whole chars_of kept pos found f

  size_before : length (lines_from 0 f.before) ≡ found.lines_before
  size_before = length-lines_from 0 f.before ∙ length-lines f.before ∙ sym f.lines_before

  count_lines : count_to pos (line_starts kept) ≡ found.lines_before + j
  count_lines =
      let front : List ℕ = lines_from 0 f.before in
      let mid : List ℕ = starts_at before f.item in
      let back : List ℕ = lines_from (before + chars_of f.item) f.after in
      let all : count_to pos front ≡ length front =
      count_point pos front (length front) (omega arith)
      (λ k below. omega (arith, f.rest, length-text f.before, lines_below 0 f.before lined_before k 0 below)) (λ k above under. absurd (omega (arith, above, under))) in
      let none : count_to pos back ≡ 0 =
      count_point pos back 0 (omega arith) (λ k below. absurd (omega (arith, below)))
      (λ k above under. omega (arith, f.rest, f.within, lines_above (before + chars_of f.item) f.after k 0 under)) in
      let here : count_to pos mid ≡ j =
      ap (λ n. count_to n mid) (sym f.rest) ∙ count_shift before found.rest f.item.lines ∙ ap (λ (x : Layout). count_to found.rest (map begins x.lines)) (sym item) ∙ sym j-is in
      ap (count_to pos) whole_lines ∙ count_append pos front (mid ++ back) ∙ omega (arith, all, none, here, count_append pos mid back, size_before)

  whole_paragraphs : paragraph_starts kept ≡ paragraphs_from 0 f.before ++ before ∷ paragraphs_from (before + chars_of f.item) f.after
  whole_paragraphs =
      ap paragraph_starts f.place ∙ paragraphs_from-append 0 f.before (f.item ∷ f.after)
      ∙ ap (λ m. paragraphs_from 0 f.before ++ paragraphs_from m (f.item ∷ f.after)) (omega (arith, length-text f.before))

  pub count_paragraphs : count_to pos (paragraph_starts kept) ≡ found.index + 1
  count_paragraphs =
      let front : List ℕ = paragraphs_from 0 f.before in
      let back : List ℕ = paragraphs_from (before + chars_of f.item) f.after in
      let all : count_to pos front ≡ length front =
      count_point pos front (length front) (omega arith)
      (λ k below. omega (arith, f.rest, length-text f.before, paragraphs_below 0 f.before lined_before k 0 below)) (λ k above under. absurd (omega (arith, above, under))) in
      let none : count_to pos back ≡ 0 =
      count_point pos back 0 (omega arith) (λ k below. absurd (omega (arith, below)))
      (λ k above under. omega (arith, f.rest, f.within, paragraphs_above (before + chars_of f.item) f.after k 0 under)) in
      ap (count_to pos) whole_paragraphs ∙ count_append pos front (before ∷ back)
      ∙ omega (arith, all, none, count_cons pos before back, cond-true {A = ℕ} (nat_le before pos) 1 0 (le-leb before pos (omega (arith, f.rest))), length-paragraphs_from 0 f.before, f.index)

  start_there : get_or (line_starts kept) (found.lines_before + (j - 1)) 0 ≡ before + get_or (map begins l.lines) (j - 1) 0
  start_there =
      let front : List ℕ = lines_from 0 f.before in
      let mid : List ℕ = starts_at before f.item in
      let back : List ℕ = lines_from (before + chars_of f.item) f.after in
      let few : j - 1 < length f.item.lines = omega (arith, place-few, place-some, lines_there) in
      ap₂ (λ (ss : List ℕ) (n : ℕ). get_or ss n 0) whole_lines (ap (λ n. n + (j - 1)) (sym size_before))
      ∙ get_or-append-add front (mid ++ back) (j - 1) 0
      ∙ get_or_append_left mid back 0 (j - 1) (omega (arith, few, length-map f.item.lines (λ line. before + line.start)))
      ∙ line_value before f.item.lines (j - 1) 0 few
      ∙ ap (λ (x : Layout). before + get_or (map begins x.lines) (j - 1) 0) (sym item)

  pub place-is : let here : Place = record { paragraph = found.index; line = found.lines_before + (j - 1); offset = found.rest - get_or (map begins l.lines) (j - 1) 0 } in here ≡ place_in kept pos
  place-is =
      let n : count_to pos (line_starts kept) - 1 ≡ found.lines_before + (j - 1) = omega (arith, count_lines, place-some) in
      same_place found.index (found.lines_before + (j - 1)) (found.rest - get_or (map begins l.lines) (j - 1) 0) _ _ _
      (omega (arith, count_paragraphs)) (sym n)
      (omega (arith, f.rest, start_there) ∙ ap (λ m. pos - get_or (line_starts kept) m 0) (sym n))

-- ---- the end of the text, and past it

pub closed_by_last : (rules : Rules) (text : List ℕ) (last : ℕ) → (length text ≡ 0 → ⊥) → last ≡ get_or text (length text - 1) 0 → cut_by rules last last ≡ is_closed rules text
closed_by_last rules text last some is =
    let there = get_or text (length text - 1) 0 in
    ap (λ c. cut_by rules c c) is ∙ sym (ap (λ b. b || cut_by rules there there) (ne_eqb (length text) 0 some))

pub closed_empty : (rules : Rules) (text : List ℕ) → length text ≡ 0 → true ≡ is_closed rules text
closed_empty rules text none = sym (ap (λ n. n == 0 || cut_by rules (get_or text (n - 1) 0) (get_or text (n - 1) 0)) none)

pub open_some : (rules : Rules) (text : List ℕ) → is_closed rules text ≡ false → 0 < length text
open_some rules [] h = absurd (cc h)
open_some rules (c ∷ text) h = omega arith

module _ (rules : Rules) (kept : List Layout) (pos : ℕ) where
  pub place_past : length (text_of kept) < pos → None ≡ place_at rules kept pos
  place_past past = sym (cond-true (nat_lt (length (text_of kept)) pos) None _ (lt-ltb (length (text_of kept)) pos past))

  pub place_inside : pos < length (text_of kept) → Some (place_in kept pos) ≡ place_at rules kept pos
  place_inside within =
      sym (cond-false (nat_lt (length (text_of kept)) pos) None _ (le-ltb (length (text_of kept)) pos (omega arith))
      ∙ cond-false (pos == length (text_of kept) && is_closed rules (text_of kept)) (Some (next_place kept)) (Some (place_in kept pos))
      (ap (λ b. b && is_closed rules (text_of kept)) (ne_eqb pos (length (text_of kept)) (λ e. omega (arith, e)))))

  pub place_end : pos ≡ length (text_of kept) → place_at rules kept pos ≡ (if is_closed rules (text_of kept) then Some (next_place kept) else Some (place_in kept pos))
  place_end at_end =
      cond-false (nat_lt (length (text_of kept)) pos) None _ (le-ltb (length (text_of kept)) pos (omega arith))
      ∙ ap (λ b. if b && is_closed rules (text_of kept) then Some (next_place kept) else Some (place_in kept pos)) (eq-eqb pos (length (text_of kept)) at_end)

  pub place_closed : pos ≡ length (text_of kept) → is_closed rules (text_of kept) ≡ true → place_at rules kept pos ≡ Some (next_place kept)
  place_closed at_end closed = place_end at_end ∙ cond-true (is_closed rules (text_of kept)) (Some (next_place kept)) (Some (place_in kept pos)) closed

  pub place_open : pos ≡ length (text_of kept) → is_closed rules (text_of kept) ≡ false → place_at rules kept pos ≡ Some (place_in kept pos)
  place_open at_end opened = place_end at_end ∙ cond-false (is_closed rules (text_of kept)) (Some (next_place kept)) (Some (place_in kept pos)) opened

all_up_to : (pos : ℕ) (starts : List ℕ) → All (λ s. s < pos + 1) starts → count_to pos starts ≡ length starts
all_up_to pos starts below =
    count_point pos starts (length starts) (omega arith) (λ k within. omega (arith, below k 0 within)) (λ k above under. absurd (omega (arith, above, under)))

last_below : (pos : ℕ) (starts : List ℕ) (k : ℕ) → All (λ s. s < pos + 1) starts → get_or starts k 0 ≤ pos
last_below pos starts k below = elim (cases_lt k (length starts)) [
  | inl within ↦ omega (arith, below k 0 within)
  | inr past ↦ omega (arith, get_or-eq_default starts 0 past)
]

-- the end of the text is on the line of the last character, and its offset is greater by 1
pub place_after : (kept : List Layout) (pos : ℕ) → All IsLined kept → pos + 1 ≡ length (text_of kept) → (last : Place) → last ≡ place_in kept pos
    → let here : Place = record { paragraph = last.paragraph; line = last.line; offset = last.offset + 1 } in here ≡ place_in kept (length (text_of kept))
place_after kept pos lined is last last-is =
    let lines : All (λ s. s < pos + 1) (line_starts kept) = λ k d within. omega (arith, is, lines_below 0 kept lined k d within) in
    let pars : All (λ s. s < pos + 1) (paragraph_starts kept) = λ k d within. omega (arith, is, paragraphs_below 0 kept lined k d within) in
    let here = all_up_to pos (line_starts kept) lines in
    let there = all_up_to (pos + 1) (line_starts kept) (λ k d within. omega (arith, lines k d within)) in
    let same_lines : count_to (pos + 1) (line_starts kept) ≡ count_to pos (line_starts kept) = there ∙ sym here in
    let same_pars : count_to (pos + 1) (paragraph_starts kept) ≡ count_to pos (paragraph_starts kept) =
    all_up_to (pos + 1) (paragraph_starts kept) (λ k d within. omega (arith, pars k d within)) ∙ sym (all_up_to pos (paragraph_starts kept) pars) in
    let k : ℕ = count_to pos (line_starts kept) - 1 in
    subst (λ (p : Place). let one : Place = record { paragraph = p.paragraph; line = p.line; offset = p.offset + 1 } in one ≡ place_in kept (length (text_of kept))) (sym last-is)
    (subst (λ n. let one : Place = record { paragraph = count_to pos (paragraph_starts kept) - 1; line = k; offset = pos - get_or (line_starts kept) k 0 + 1 } in one ≡ place_in kept n) is
    (same_place _ _ _ _ _ _ (ap (λ n. n - 1) (sym same_pars)) (ap (λ n. n - 1) (sym same_lines))
    (omega (arith, last_below pos (line_starts kept) k lines) ∙ ap (λ n. pos + 1 - get_or (line_starts kept) (n - 1) 0) (sym same_lines))))

pub text_append : (xs ys : List Layout) → text_of (xs ++ ys) ≡ text_of xs ++ text_of ys
text_append [] ys = refl
text_append (x ∷ xs) ys = ap (λ more. x.text ++ more) (text_append xs ys) ∙ sym (append_assoc x.text (text_of xs) (text_of ys))

-- the character at `rest` in the found paragraph is the text's character at the searched position
pub char_read : (kept : List Layout) (pos : ℕ) (found : Found) → Finds chars_of chars_of lines_of kept pos found → (l : Layout) → Some l ≡ slice_get kept found.index
    → (found.rest < length l.text) × (get_or l.text found.rest 0 ≡ get_or (text_of kept) pos 0)
char_read kept pos found f l read =
    let item : l ≡ f.item = item_read chars_of kept pos found f l read in
    let within : found.rest < length l.text = omega (arith, f.within, ap chars_of item) in
    let place : length (text_of f.before) + found.rest ≡ pos = omega (arith, f.rest, length-text f.before) in
    let whole : text_of kept ≡ text_of f.before ++ (f.item.text ++ text_of f.after) = ap text_of f.place ∙ text_append f.before (f.item ∷ f.after) in (
      within,
      sym (ap₂ (λ (cs : List ℕ) (n : ℕ). get_or cs n 0) whole (sym place) ∙ get_or-append-add (text_of f.before) (f.item.text ++ text_of f.after) found.rest 0
          ∙ get_or_append_left f.item.text (text_of f.after) 0 found.rest f.within ∙ ap (λ (x : Layout). get_or x.text found.rest 0) (sym item)),
    )

-- each layout that a session keeps has a non-empty text, and its lines start in order
pub lines_lined : ParagraphsArePieces → ((rules : Rules) (width : ℕ) (text : List ℕ) → BeginInOrder text (lines_at rules width text)) → (engine : Engine) (width : ℕ) (is_measured : Bool) (kept : List Layout)
    → IsWholeLayout (state_of engine width is_measured kept) → All IsLined kept
lines_lined law begin engine width is_measured kept whole = λ k d within.
    let l : Layout = get_or kept k d in
    let own : Rules = rules_for (rules_of engine) l in
    let laid : IsFresh (rules_of engine) l = all_each (IsFresh (rules_of engine)) kept (each_laid_out law engine width is_measured kept whole) k d within in
    record {
      some = some_text own l.text laid.paragraph;
      lines = subst (BeginInOrder l.text) (sym (ap (λ (m : Layout). m.lines) laid.from_scratch)) (begin own laid.width l.text);
    }

none_within : {A : Type 0} (xs : List A) (n : ℕ) → n < length xs → is_none (slice_get xs n) ≡ false
none_within [] n within = absurd (omega (arith, within))
none_within (x ∷ xs) zero within = refl
none_within (x ∷ xs) (suc n) within = none_within xs n (omega (arith, within))

none_if : {A : Type 0} (a b : Bool) (x y : A) → is_none (if a then None else (if b then Some x else Some y)) ≡ a
none_if true b x y = refl
none_if false true x y = refl
none_if false false x y = refl

pub none_past : {A : Type 0} (xs : List A) (n total : ℕ) → total ≡ length xs → is_none (slice_get xs n) ≡ nat_le total n
none_past xs n total is = elim (cases_lt n total) [
  | inl within ↦ none_within xs n (omega arith) ∙ sym (lt-leb total n within)
  | inr past ↦ ap is_none (slice_get_past xs n (omega arith)) ∙ sym (le-leb total n past)
]

pub none_place : (rules : Rules) (kept : List Layout) (pos : ℕ) → is_none (place_at rules kept pos) ≡ nat_lt (length (text_of kept)) pos
none_place rules kept pos = none_if (nat_lt (length (text_of kept)) pos) (pos == length (text_of kept) && is_closed rules (text_of kept)) (next_place kept) (place_in kept pos)

-- ---- where a paragraph starts

start_from : (place : ℕ) (kept : List Layout) (i : ℕ) → i < length kept → slice_get (paragraphs_from place kept) i ≡ Some (place + sum_by chars_of (take i kept))
start_from place [] i within = absurd (omega (arith, within))
start_from place (l ∷ kept) zero within = ap Some (omega arith)
start_from place (l ∷ kept) (suc i) within =
    start_from (place + length l.text) kept i (omega (arith, within)) ∙ ap Some (omega (arith, sum_by-cons chars_of l (take i kept)))

module _ (kept : List Layout) (i : ℕ) where
  pub paragraph_start_is : (chars : ℕ) → i < length kept → chars ≡ sum_by chars_of (take i kept) → Some chars ≡ slice_get (paragraph_starts kept) i
  paragraph_start_is chars within is =
      let there : chars ≡ 0 + sum_by chars_of (take i kept) = omega (arith, is) in
      ap Some there ∙ sym (start_from 0 kept i within)

  pub no_paragraph_start : length kept ≤ i → None ≡ slice_get (paragraph_starts kept) i
  no_paragraph_start past = sym (slice_get_past (paragraph_starts kept) i (omega (arith, past, length-paragraphs_from 0 kept)))

  pub first_line_is : (lines : ℕ) → i < length kept → lines ≡ sum_by lines_of (take i kept) → Some lines ≡ first_line_at kept i
  first_line_is lines within is =
      ap Some (is ∙ sym (length-lines (take i kept))) ∙ sym (cond-true (nat_lt i (length kept)) (Some (length (lines_in (take i kept)))) None (lt-ltb i (length kept) within))

  pub no_first_line : length kept ≤ i → None ≡ first_line_at kept i
  no_first_line past = sym (cond-false (nat_lt i (length kept)) (Some (length (lines_in (take i kept)))) None (le-ltb i (length kept) past))

-- the text of a session is at most as long as the limit
pub text_short : (state : SessionState) → IsWholeLayout state → length (text_at state) ≤ TEXT_LIMIT
text_short state whole = allowed-length (cuts_at state) state.advances (text_at state) whole.allowed
