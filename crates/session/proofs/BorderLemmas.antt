-- Sums over a store's paragraphs, and searches by these sums.
use Rattle.std.proofs.Common.{◌≡◌, ℕ, ◌+◌, ◌-◌, ◌<◌, ◌≤◌, List, [], ◌∷◌, ◌++◌, length, take, get_or, sum_by, Option, Some, None, unwrap_or, refl, sym, ap, ◌∙◌, inl, inr, arith}
use Rattle.std.specs.List.{concat, enumerate_from, slice_get}
use Rattle.std.specs.Option.{option_map}
use Rattle.std.proofs.lemmas.List.{length-append, length-map, take-map, take_at, take_all, append_assoc}
use Rattle.std.proofs.lemmas.Bool.{cases_eq}
use Rattle.std.proofs.lemmas.List.FromFn.{length-enumerate_from}
use Rattle.std.proofs.lemmas.List.Sums.{sum_by-cons, sum_by-append, sum_by_more, sum_by_more_le, sum_by_push}
use Rattle.std.proofs.lemmas.Option.{get_or_from_slice_get, slice_get_cases, slice_get-map, slice_get_within, unwrap_or-slice_get}
use Rattle.lines.specs.Layouts.{Layout}
use Rattle.lines.specs.Visual.{visual_of}
use Rattle.store.specs.Finding.{Finds}
use Rattle.store.specs.declared.found.Found.{Found}
use Rattle.session.specs.Borders.{IsBorder, IsFrontBorder, IsBackBorder}
use Rattle.lines.specs.Layouts.{visuals}
use Rattle.session.specs.Kept.{advance_lists, pars_of, text_of, lines_in}
use Rattle.session.specs.Touched.{start_of}
use Rattle.session.specs.declared.borders.Border.{Border}
use Rattle.session.proofs.TouchedLemmas.{start_of-le, start_of-le-length}

abbrev pub chars_of : Layout → ℕ
chars_of l = length l.text

abbrev pub lines_of : Layout → ℕ
lines_of l = length l.lines

-- sums over paragraphs give the number of characters of a text, its number of lines, and the start of each
-- paragraph
pub length-text : (kept : List Layout) → length (text_of kept) ≡ sum_by chars_of kept
length-text [] = refl
length-text (l ∷ kept) = length-append l.text (text_of kept) ∙ ap (λ n. length l.text + n) (length-text kept) ∙ sym (sum_by-cons chars_of l kept)

pub length-visuals : (l : Layout) → length (visuals l) ≡ length l.lines
length-visuals l = length-map (enumerate_from 0 l.lines) (λ nth. visual_of l.base l.tab_width l.advances l.text l.lines nth.0 nth.1) ∙ length-enumerate_from 0 l.lines

pub length-lines : (kept : List Layout) → length (lines_in kept) ≡ sum_by lines_of kept
length-lines [] = refl
length-lines (l ∷ kept) =
    length-append (visuals l) (lines_in kept) ∙ ap (λ n. n + length (lines_in kept)) (length-visuals l)
    ∙ ap (λ n. length l.lines + n) (length-lines kept) ∙ sym (sum_by-cons lines_of l kept)

pub start_of-is : (kept : List Layout) (i : ℕ) → start_of (pars_of kept) i ≡ sum_by chars_of (take i kept)
start_of-is kept i = ap (λ ps. length (concat ps)) (take-map (λ l. l.text) i kept) ∙ length-text (take i kept)

-- paragraph i of the text is the text of the layout that was read at index i
pub text_read : (kept : List Layout) (i : ℕ) (read : Option Layout) → read ≡ slice_get kept i → get_or (pars_of kept) i [] ≡ unwrap_or (option_map (λ l. l.text) read) []
text_read kept i read e =
    sym (unwrap_or-slice_get (pars_of kept) i []) ∙ ap (λ o. unwrap_or o []) (slice_get-map (λ l. l.text) kept i) ∙ ap (λ o. unwrap_or (option_map (λ l. l.text) o) []) (sym e)

-- the advances of paragraph i are those of the layout that was read at index i
pub list_read : (kept : List Layout) (i : ℕ) (read : Option Layout) → read ≡ slice_get kept i
    → get_or (advance_lists kept) i [] ≡ unwrap_or (option_map (λ (l : Layout). unwrap_or l.advances []) read) []
list_read kept i read e =
    sym (unwrap_or-slice_get (advance_lists kept) i []) ∙ ap (λ o. unwrap_or o []) (slice_get-map (λ (l : Layout). unwrap_or l.advances []) kept i)
    ∙ ap (λ o. unwrap_or (option_map (λ (l : Layout). unwrap_or l.advances []) o) []) (sym e)

-- the item that a search finds is the item at the returned index
slice_get_at : {A : Type 0} (before : List A) (x : A) (after : List A) → slice_get (before ++ x ∷ after) (length before) ≡ Some x
slice_get_at [] x after = refl
slice_get_at (y ∷ before) x after = slice_get_at before x after

module _ (size : Layout → ℕ) (kept : List Layout) (n : ℕ) (found : Found) (f : Finds size chars_of lines_of kept n found) where
  pub found_item : Some f.item ≡ slice_get kept found.index
  found_item = sym (ap (λ ks. slice_get ks found.index) f.place ∙ ap (slice_get (f.before ++ f.item ∷ f.after)) f.index ∙ slice_get_at f.before f.item f.after)

  pub item_read : (l : Layout) → Some l ≡ slice_get kept found.index → l ≡ f.item
  item_read l e = ap (λ o. unwrap_or o l) (e ∙ sym found_item)

  pub found_some : None ≡ slice_get kept found.index → ⊥
  found_some e = cc (e ∙ sym found_item)

  pub found_within : found.index < length kept
  found_within = slice_get_within kept found.index f.item (sym found_item)

  pub front_is : take found.index kept ≡ f.before
  front_is = ap (take found.index) f.place ∙ take_at f.before (f.item ∷ f.after) found.index (sym f.index)

  next_is : take (found.index + 1) kept ≡ f.before ++ f.item ∷ []
  next_is =
      ap (take (found.index + 1)) (f.place ∙ sym (append_assoc f.before (f.item ∷ []) f.after))
      ∙ take_at (f.before ++ f.item ∷ []) f.after (found.index + 1) (length-append f.before (f.item ∷ []) ∙ omega (arith, f.index))

  pub sum_next : (g : Layout → ℕ) → sum_by g (take (found.index + 1) kept) ≡ sum_by g f.before + g f.item
  sum_next g = ap (sum_by g) next_is ∙ sum_by_push g f.before f.item

  pub sum_whole : (g : Layout → ℕ) → sum_by g kept ≡ sum_by g f.before + (g f.item + sum_by g f.after)
  sum_whole g = ap (sum_by g) f.place ∙ sum_by-append g f.before (f.item ∷ f.after) ∙ ap (λ m. sum_by g f.before + m) (sum_by-cons g f.item f.after)

pub IsFrontBorder-found : (kept : List Layout) (pos : ℕ) (found : Found) → (pos ≡ 0 → ⊥) → Finds chars_of chars_of lines_of kept (pos - 1) found
    → IsFrontBorder kept pos (record { index = found.index; chars = pos - 1 - found.rest; lines = found.lines_before })
IsFrontBorder-found kept pos found some f =
    let start : start_of (pars_of kept) found.index ≡ sum_by chars_of f.before = start_of-is kept found.index ∙ ap (sum_by chars_of) (front_is chars_of kept (pos - 1) found f) in
    let next : start_of (pars_of kept) (found.index + 1) ≡ sum_by chars_of f.before + chars_of f.item = start_of-is kept (found.index + 1) ∙ sum_next chars_of kept (pos - 1) found f chars_of in
    record {
      border_is = record {
        within = omega (arith, found_within chars_of kept (pos - 1) found f);
        chars = omega (arith, f.rest, start);
        lines = f.lines_before ∙ sym (ap (sum_by lines_of) (front_is chars_of kept (pos - 1) found f)) ∙ sym (length-lines (take found.index kept));
      };
      before = λ _. omega (arith, f.rest, some);
      after = λ _. omega (arith, f.rest, f.within, next);
    }

pub IsBackBorder-found : (kept : List Layout) (to : ℕ) (found : Found) (l : Layout) → Some l ≡ slice_get kept found.index → Finds chars_of chars_of lines_of kept to found
    → IsBackBorder kept to (record { index = found.index + 1; chars = to - found.rest + chars_of l; lines = found.lines_before + lines_of l })
IsBackBorder-found kept to found l read f =
    let start : start_of (pars_of kept) found.index ≡ sum_by chars_of f.before = start_of-is kept found.index ∙ ap (sum_by chars_of) (front_is chars_of kept to found f) in
    let item : l ≡ f.item = item_read chars_of kept to found f l read in
    let size : chars_of l ≡ chars_of f.item = ap chars_of item in
    let next : start_of (pars_of kept) (found.index + 1) ≡ sum_by chars_of f.before + chars_of f.item = start_of-is kept (found.index + 1) ∙ sum_next chars_of kept to found f chars_of in
    record {
      border_is = record {
        within = omega (arith, found_within chars_of kept to found f);
        chars = omega (arith, f.rest, next, size);
        lines = ap (λ n. n + lines_of l) f.lines_before ∙ ap (λ x. sum_by lines_of f.before + lines_of x) item
            ∙ sym (length-lines (take (found.index + 1) kept) ∙ sum_next chars_of kept to found f lines_of);
      };
      before = λ i below. let le = start_of-le (pars_of kept) i found.index (omega arith) in omega (arith, le, start, f.rest);
      after = λ _. omega (arith, f.rest, f.within, size);
    }

pub IsBackBorder-end : (kept : List Layout) (to count chars lines : ℕ) → count ≡ length kept → chars ≡ sum_by chars_of kept → lines ≡ sum_by lines_of kept → to ≡ chars
    → IsBackBorder kept to (record { index = count; chars = chars; lines = lines })
IsBackBorder-end kept to count chars lines count-is chars-is lines-is at_end =
    let size = length-text kept in
    record {
      border_is = record {
        within = omega arith;
        chars = chars-is ∙ sym (start_of-is kept count ∙ ap (sum_by chars_of) (take_all count kept (omega arith)));
        lines = lines-is ∙ sym (length-lines (take count kept) ∙ ap (sum_by lines_of) (take_all count kept (omega arith)));
      };
      before = λ i below. let le = start_of-le-length (pars_of kept) i in omega (arith, le, size);
      after = λ more. absurd (omega arith);
    }

-- No position in the text exceeds the store's total number of characters. The sums up to the end of a found
-- paragraph do not exceed the store's sums.
pub pos_within : (kept : List Layout) (pos : ℕ) → pos ≤ length (text_of kept) → (pos ≡ 0 → ⊥) → pos - 1 < sum_by chars_of kept
pos_within kept pos within some = omega (arith, length-text kept, some)

pub to_within : (kept : List Layout) (to chars : ℕ) → to ≤ length (text_of kept) → chars ≡ sum_by chars_of kept → (to ≡ chars → ⊥) → to < sum_by chars_of kept
to_within kept to chars within chars-is other =
    let size = length-text kept in
    elim (cases_eq to chars) [ inl e ↦ absurd (other e) | inr ne ↦ omega arith ]

pub chars_next : (kept : List Layout) (to chars : ℕ) (found : Found) (l : Layout) → Some l ≡ slice_get kept found.index → Finds chars_of chars_of lines_of kept to found → chars ≡ sum_by chars_of kept
    → to - found.rest + chars_of l ≤ chars
chars_next kept to chars found l read f chars-is =
    let size : chars_of l ≡ chars_of f.item = ap chars_of (item_read chars_of kept to found f l read) in
    omega (arith, f.rest, size, sum_whole chars_of kept to found f chars_of)

pub lines_next : (kept : List Layout) (to lines : ℕ) (found : Found) (l : Layout) → Some l ≡ slice_get kept found.index → Finds chars_of chars_of lines_of kept to found → lines ≡ sum_by lines_of kept
    → found.lines_before + lines_of l ≤ lines
lines_next kept to lines found l read f lines-is =
    let size : lines_of l ≡ lines_of f.item = ap lines_of (item_read chars_of kept to found f l read) in
    omega (arith, f.lines_before, size, sum_whole chars_of kept to found f lines_of)

-- ---- the end of the paragraph that starts at a border

module _ (kept : List Layout) (start : Border) (l : Layout) (border : IsBorder kept start) (read : Some l ≡ slice_get kept start.index) where
  pub start_within : start.index < length kept
  start_within = slice_get_within kept start.index l (sym read)

  item_at : get_or kept start.index l ≡ l
  item_at = get_or_from_slice_get kept start.index l l (sym read)

  sum_through : (g : Layout → ℕ) → sum_by g (take (start.index + 1) kept) ≡ sum_by g (take start.index kept) + g l
  sum_through g = sum_by_more g kept start.index l start_within ∙ ap (λ (x : Layout). sum_by g (take start.index kept) + g x) item_at

  sum_most : (g : Layout → ℕ) → sum_by g (take start.index kept) + g l ≤ sum_by g kept
  sum_most g = omega (arith, sum_by_more_le g kept start.index l start_within, ap g item_at)

  chars-is : start.chars ≡ sum_by chars_of (take start.index kept)
  chars-is = border.chars ∙ start_of-is kept start.index

  lines-is : start.lines ≡ sum_by lines_of (take start.index kept)
  lines-is = border.lines ∙ length-lines (take start.index kept)

  pub chars_through : start.chars + chars_of l ≤ sum_by chars_of kept
  chars_through = omega (arith, chars-is, sum_most chars_of)

  pub lines_through : start.lines + lines_of l ≤ sum_by lines_of kept
  lines_through = omega (arith, lines-is, sum_most lines_of)

  pub IsBorder-next : IsBorder kept (record { index = start.index + 1; chars = start.chars + chars_of l; lines = start.lines + lines_of l })
  IsBorder-next = record {
    within = omega (arith, start_within);
    chars = ap (λ n. n + chars_of l) chars-is ∙ sym (start_of-is kept (start.index + 1) ∙ sum_through chars_of);
    lines = ap (λ n. n + lines_of l) lines-is ∙ sym (length-lines (take (start.index + 1) kept) ∙ sum_through lines_of);
  }

pub IsBackBorder-next : (kept : List Layout) (to : ℕ) (start end : Border) → IsBorder kept start → IsBorder kept end → end.index ≡ start.index + 1 → start.chars ≤ to → to < end.chars
    → IsBackBorder kept to end
IsBackBorder-next kept to start end from border index above under = record {
  border_is = border;
  before = λ i below. let le = start_of-le (pars_of kept) i start.index (omega (arith, index, below)) in omega (arith, le, from.chars, above);
  after = λ _. omega (arith, under);
}

pub IsBackBorder-last : (kept : List Layout) (to : ℕ) (end : Border) → IsBorder kept end → None ≡ slice_get kept end.index → end.chars ≤ to → IsBackBorder kept to end
IsBackBorder-last kept to end border none above =
    let past : length kept ≤ end.index = elim (slice_get_cases kept end.index).1 [
      | inl found ↦ absurd (cc (none ∙ found.2))
      | inr beyond ↦ beyond.0
    ] in
    record {
      border_is = border;
      before = λ i below. let le = start_of-le (pars_of kept) i end.index (omega (arith, below)) in omega (arith, le, border.chars, above);
      after = λ more. absurd (omega (arith, more, past));
    }
