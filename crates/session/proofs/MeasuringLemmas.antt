-- The advances of a range of characters, and the layout of their paragraphs.
use Rattle.std.proofs.Common.{◌≡◌, ℕ, suc, ◌+◌, ◌-◌, ◌^◌, ◌<◌, ◌≤◌, nat_lt, Bool, true, false, ◌&&◌, List, [], ◌∷◌, ◌++◌, length, take, drop, get_or, sum, inl, inr, Some, None, unwrap_or, refl, sym, ap, ap₂, subst, ◌∙◌, arith}
use Rattle.std.specs.List.{All, concat, slice_get, slice_range}
use Rattle.std.proofs.lemmas.Bool.{and_parts, le-ltb, lt-ltb, ltb-true}
use Rattle.std.proofs.lemmas.List.{append-nil, append_assoc, drop-drop, drop_more, get_or-drop, get_or-take, length-append, length-drop, length-map, length-take-le, take_all, take_more}
use Rattle.std.proofs.lemmas.List.Sums.{sum_by-take-drop, sum_by_push}
use Rattle.std.proofs.lemmas.Option.{slice_get_cases, slice_get_within, unwrap_or-slice_get}
use Rattle.lines.specs.Engine.{analysed_of, filled_of, rules_of, written_of, FillsAtMost, SameRules}
use Rattle.lines.specs.Layouts.{Layout, Rules, layout_of, with_advances}
use Rattle.lines.specs.declared.engine.Engine.{Engine}
use Rattle.session.specs.Edits.{have_room}
use Rattle.session.specs.Kept.{layouts_from, pars_of, IsFresh}
use Rattle.session.proofs.BorderLemmas.{text_read}

-- ---- a range of a list of advances

module _ (list : List ℕ) (from len : ℕ) (within : from + len ≤ length list) where
  abbrev part : List ℕ
  part = take len (drop from list)

  length-part : length part ≡ len
  length-part = length-take-le len (drop from list) (omega (arith, length-drop from list, within))

  -- the first k + 1 advances are the first k and the one at `from + k`
  pub part_more : (k : ℕ) → k < len → take (k + 1) part ≡ take k part ++ get_or list (from + k) 0 ∷ []
  part_more k below =
      take_more part k 0 (omega (arith, length-part, below))
      ∙ ap (λ x. take k part ++ x ∷ []) (get_or-take len (drop from list) k 0 below ∙ get_or-drop from list k 0)

  pub part_whole : (k : ℕ) → len ≤ k → take k part ≡ part
  part_whole k all = take_all k part (omega (arith, length-part, all))

  -- ---- the sum of the first advances
  module _ (k total : ℕ) (so_far : total ≡ sum (take k part)) where
    pub sum_more : k < len → total + get_or list (from + k) 0 ≡ sum (take (k + 1) part)
    sum_more below =
        ap (λ n. n + get_or list (from + k) 0) so_far
        ∙ sym (ap sum (part_more k below) ∙ sum_by_push (λ (x : ℕ). x) (take k part) (get_or list (from + k) 0))

    pub sum_past : k < len → 2 ^ 32 ≤ total + get_or list (from + k) 0 → false ≡ nat_lt (sum part) (2 ^ 32)
    sum_past below past = sym (le-ltb (sum part) (2 ^ 32) (omega (arith, past, sum_more below, sum_by-take-drop (λ (x : ℕ). x) part (k + 1))))

    pub sum_whole : len ≤ k → total < 2 ^ 32 → true ≡ nat_lt (sum part) (2 ^ 32)
    sum_whole all few = sym (lt-ltb (sum part) (2 ^ 32) (omega (arith, so_far, ap sum (part_whole k all), few)))

-- ---- one paragraph after another

slice_more : (pars : List (List ℕ)) (i end : ℕ) → i < end → end ≤ length pars → slice_range pars i end ≡ get_or pars i [] ∷ slice_range pars (i + 1) end
slice_more pars i end below within =
    let n : end - i ≡ suc (end - (i + 1)) = omega arith in
    ap (λ m. take m (drop i pars)) n ∙ ap (take (suc (end - (i + 1)))) (drop_more pars i [] (omega arith))

slice_none : (pars : List (List ℕ)) (i end : ℕ) → end ≤ i → slice_range pars i end ≡ []
slice_none pars i end past = let n : end - i ≡ 0 = omega arith in ap (λ m. take m (drop i pars)) n

-- The advances from `from` on are those of the paragraphs from `i` on. All paragraphs are within the limit if
-- and only if the paragraphs from `i` on are.
pub record HavePassed (pars : List (List ℕ)) (list : List ℕ) (first end i from : ℕ) : Type 0 where
  pub low : first ≤ i
  pub size : from + length (concat (slice_range pars i end)) ≡ length list
  pub room : have_room list (slice_range pars first end) ≡ have_room (drop from list) (slice_range pars i end)

pub passed_none : (pars : List (List ℕ)) (list : List ℕ) (first end : ℕ) → length list ≡ length (concat (slice_range pars first end)) → HavePassed pars list first end first 0
passed_none pars list first end each = record { low = omega arith; size = omega (arith, each); room = refl }

module _ (pars : List (List ℕ)) (list : List ℕ) (first end i from : ℕ) (within : end ≤ length pars) (passed : HavePassed pars list first end i from) (below : i < end) where
  abbrev next : List ℕ
  next = get_or pars i []

  abbrev others : List (List ℕ)
  others = slice_range pars (i + 1) end

  parts : slice_range pars i end ≡ next ∷ others
  parts = slice_more pars i end below within

  sizes : from + (length next + length (concat others)) ≡ length list
  sizes = omega (arith, passed.size, ap (λ ps. length (concat ps)) parts, length-append next (concat others))

  pub next_within : from + length next ≤ length list
  next_within = omega (arith, sizes)

  fits : Bool
  fits = nat_lt (sum (take (length next) (drop from list))) (2 ^ 32)

  room_is : have_room list (slice_range pars first end) ≡ (nat_lt (sum (take (length next) (drop from list))) (2 ^ 32) && have_room (drop (from + length next) list) others)
  room_is =
      passed.room ∙ ap (have_room (drop from list)) parts
      ∙ ap (λ l. nat_lt (sum (take (length next) (drop from list))) (2 ^ 32) && have_room l others) (drop-drop (length next) from list)

  pub passed_more : (b : Bool) → b ≡ nat_lt (sum (take (length next) (drop from list))) (2 ^ 32) → b ≡ true → HavePassed pars list first end (i + 1) (from + length next)
  passed_more b b-is is = record {
    low = omega (arith, passed.low);
    size = omega (arith, sizes);
    room = room_is ∙ ap (λ c. c && have_room (drop (from + length next) list) others) (sym b-is ∙ is);
  }

  pub room_past : (b : Bool) → b ≡ nat_lt (sum (take (length next) (drop from list))) (2 ^ 32) → b ≡ false → false ≡ have_room list (slice_range pars first end)
  room_past b b-is is = sym (room_is ∙ ap (λ c. c && have_room (drop (from + length next) list) others) (sym b-is ∙ is))

pub passed_all : (pars : List (List ℕ)) (list : List ℕ) (first end i from : ℕ) → HavePassed pars list first end i from → end ≤ i → true ≡ have_room list (slice_range pars first end)
passed_all pars list first end i from passed all = sym (passed.room ∙ ap (have_room (drop from list)) (slice_none pars i end all))

-- the layouts so far, followed by those of the remaining paragraphs, are the layouts of all paragraphs
pub record AreMade (rules : Rules) (width : ℕ) (pars : List (List ℕ)) (list : List ℕ) (first end i from : ℕ) (made : List Layout) : Type 0 where
  pub low : first ≤ i
  pub size : from + length (concat (slice_range pars i end)) ≡ length list
  pub room : have_room (drop from list) (slice_range pars i end) ≡ true
  pub laid_out : made ++ layouts_from rules width (Some (drop from list)) (slice_range pars i end) ≡ layouts_from rules width (Some list) (slice_range pars first end)

pub made_none : (rules : Rules) (width : ℕ) (pars : List (List ℕ)) (list : List ℕ) (first end : ℕ) (made : List Layout) → length list ≡ length (concat (slice_range pars first end))
    → have_room list (slice_range pars first end) ≡ true → made ≡ [] → AreMade rules width pars list first end first 0 made
made_none rules width pars list first end made each has none = record {
  low = omega arith;
  size = omega (arith, each);
  room = has;
  laid_out = ap (λ (ls : List Layout). ls ++ layouts_from rules width (Some list) (slice_range pars first end)) none;
}

module _ (rules : Rules) (width : ℕ) (pars : List (List ℕ)) (list : List ℕ) (first end i from : ℕ) (made : List Layout) (within : end ≤ length pars)
    (so_far : AreMade rules width pars list first end i from made) (below : i < end) where
  abbrev this : List ℕ
  this = get_or pars i []

  abbrev left : List (List ℕ)
  left = slice_range pars (i + 1) end

  split : slice_range pars i end ≡ this ∷ left
  split = slice_more pars i end below within

  lengths : from + (length this + length (concat left)) ≡ length list
  lengths = omega (arith, so_far.size, ap (λ ps. length (concat ps)) split, length-append this (concat left))

  pub this_within : from + length this ≤ length list
  this_within = omega (arith, lengths)

  both : (nat_lt (sum (take (length this) (drop from list))) (2 ^ 32) ≡ true) × (have_room (drop (length this) (drop from list)) left ≡ true)
  both =
      and_parts (nat_lt (sum (take (length this) (drop from list))) (2 ^ 32)) (have_room (drop (length this) (drop from list)) left)
      (ap (have_room (drop from list)) (sym split) ∙ so_far.room)

  pub this_room : sum (take (length this) (drop from list)) < 2 ^ 32
  this_room = ltb-true (sum (take (length this) (drop from list))) (2 ^ 32) both.0

  pub this_each : length (take (length this) (drop from list)) ≡ length this
  this_each = length-take-le (length this) (drop from list) (omega (arith, length-drop from list, this_within))

  pub made_more : (one : Layout) (more : List Layout) → one ≡ layout_of (with_advances rules (Some (take (length this) (drop from list)))) width this → more ≡ made ++ one ∷ []
      → AreMade rules width pars list first end (i + 1) (from + length this) more
  made_more one more one-is more-is = record {
    low = omega (arith, so_far.low);
    size = omega (arith, lengths);
    room = ap (λ l. have_room l left) (sym (drop-drop (length this) from list)) ∙ both.1;
    laid_out =
        ap₂ (λ (ls : List Layout) (l : List ℕ). ls ++ layouts_from rules width (Some l) left) more-is (sym (drop-drop (length this) from list))
        ∙ append_assoc made (one ∷ []) (layouts_from rules width (Some (drop (length this) (drop from list))) left)
        ∙ ap (λ (l : Layout). made ++ l ∷ layouts_from rules width (Some (drop (length this) (drop from list))) left) one-is
        ∙ ap (λ ps. made ++ layouts_from rules width (Some (drop from list)) ps) (sym split)
        ∙ so_far.laid_out;
  }

pub made_all : (rules : Rules) (width : ℕ) (pars : List (List ℕ)) (list : List ℕ) (first end i from : ℕ) (made : List Layout) → AreMade rules width pars list first end i from made → end ≤ i
    → made ≡ layouts_from rules width (Some list) (slice_range pars first end)
made_all rules width pars list first end i from made m all =
    sym (append-nil made)
    ∙ ap (λ ps. made ++ layouts_from rules width (Some (drop from list)) ps) (sym (slice_none pars i end all))
    ∙ m.laid_out

-- ---- the text of the paragraph that was read at an index
module _ (kept : List Layout) (i : ℕ) (l : Layout) (read : Some l ≡ slice_get kept i) where
  pub read_text : get_or (pars_of kept) i [] ≡ l.text
  read_text = text_read kept i (Some l) read

  pub read_within : i < length kept
  read_within = slice_get_within kept i l (sym read)

  pub read_fresh : (start now : Engine) → SameRules start now → All (IsFresh (rules_of start)) kept → IsFresh (rules_of now) l
  read_fresh start now same all =
      let here : get_or kept i l ≡ l = sym (unwrap_or-slice_get kept i l) ∙ ap (λ o. unwrap_or o l) (sym read) in
      subst (λ r. IsFresh r l) (sym same) (subst (IsFresh (rules_of start)) here (all i l read_within))

-- there is a layout at each index below the length of a list
pub read_some : (kept : List Layout) (i : ℕ) → i < length kept → None ≡ slice_get kept i → ⊥
read_some kept i below none = elim (slice_get_cases kept i).1 [
  | inl found ↦ cc (none ∙ found.2)
  | inr past ↦ absurd (omega (arith, past.0, below))
]

-- an end of a range of layouts is also within the list of their texts
pub as_many : (kept : List Layout) (end : ℕ) → end ≤ length kept → end ≤ length (pars_of kept)
as_many kept end within = omega (arith, within, length-map kept (λ (l : Layout). l.text))

-- the length of a range of paragraphs is the length of its first paragraph plus the length of the others
pub rest_sizes : (pars : List (List ℕ)) (i end : ℕ) → i < end → end ≤ length pars
    → length (concat (slice_range pars i end)) ≡ length (get_or pars i []) + length (concat (slice_range pars (i + 1) end))
rest_sizes pars i end below within =
    ap (λ ps. length (concat ps)) (slice_more pars i end below within) ∙ length-append (get_or pars i []) (concat (slice_range pars (i + 1) end))

-- one more paragraph of n characters is filled, and `rest` characters remain
module _ (start now next : Engine) (n rest all : ℕ) (analysed : analysed_of now ≡ analysed_of start)
    (filled : filled_of start ≤ filled_of now) (filled_most : filled_of now + (n + rest) ≤ filled_of start + all)
    (written : written_of start ≤ written_of now) (written_most : written_of now + (n + rest) ≤ written_of start + all) (more : FillsAtMost n now next) where
  pub fills_all : FillsAtMost all start next
  fills_all = record {
    analysed = more.analysed ∙ analysed;
    filled = record { least = omega (arith, filled, more.filled.least); most = omega (arith, filled_most, more.filled.most) };
    written = record { least = omega (arith, written, more.written.least); most = omega (arith, written_most, more.written.most) };
  }
