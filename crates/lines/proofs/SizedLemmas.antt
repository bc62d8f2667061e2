-- Advances in place of columns change the widths of characters, and nothing else.
use Rattle.std.proofs.Common.{◌≡◌, ◌∙◌, ℕ, zero, suc, ◌+◌, ◌-◌, ◌<◌, ◌≤◌, Bool, ◌||◌, List, [], ◌∷◌, ◌++◌, length, map, take, drop, Option, None, Some, unwrap_or, slice_range, get_or, refl, sym, ap, ap₂, inl, inr, arith}
use Rattle.std.specs.Prelude.{min, sum}
use Rattle.std.proofs.Math.Seq.{take-add}
use Rattle.std.proofs.lemmas.Bool.{cases_lt}
use Rattle.std.proofs.lemmas.List.{drop_all, length-drop, take_all}
use Rattle.std.proofs.lemmas.List.Sums.{sum_by-append}
use Rattle.bidi.specs.Brackets.{greatest}
use Rattle.ucd.specs.Least.{least}
use Rattle.lines.specs.Bare.{bare, AreAlike}
use Rattle.ucd.specs.declared.tables.Tables.{Tables}
use Rattle.lines.specs.CharInfos.{infos_of, measured, sized}
use Rattle.lines.specs.Extents.{extents_of, shown_between, shown_from, LineExtents}
use Rattle.lines.specs.Filling.{cluster_ends_at, columns, first_end, is_break, is_must, line_starts_of, may_end, must_end, place_at, stop, trails}
use Rattle.lines.specs.declared.char_info.CharInfo.{CharInfo}
use Rattle.lines.specs.Layouts.{Rules, with_advances}
use Rattle.lines.specs.ShownParts.{margin_of, shown}
use Rattle.lines.specs.declared.fill.Shown.{Shown}
use Rattle.lines.specs.declared.options.Options.{Options}
use Rattle.lines.proofs.BareLemmas.{greatest_same, least_same}
use Rattle.lines.proofs.WidthLemmas.{length-sized}

-- ---- one character

measured_at : (advances : List ℕ) (ps : List CharInfo) (k : ℕ) → place_at (measured advances ps) k ≡ record (place_at ps k) { columns = (place_at (measured advances ps) k).columns }
measured_at advances [] k = refl
measured_at [] (p ∷ ps) zero = refl
measured_at [] (p ∷ ps) (suc k) = measured_at [] ps k
measured_at (size ∷ advances) (p ∷ ps) zero = refl
measured_at (size ∷ advances) (p ∷ ps) (suc k) = measured_at advances ps k

pub sized_at : (advances : Option (List ℕ)) (ps : List CharInfo) (k : ℕ) → place_at (sized advances ps) k ≡ record (place_at ps k) { columns = (place_at (sized advances ps) k).columns }
sized_at None ps k = refl
sized_at (Some advances) ps k = measured_at advances ps k

pub sized_trails : (advances : Option (List ℕ)) (ps : List CharInfo) (k : ℕ) → trails (place_at (sized advances ps) k) ≡ trails (place_at ps k)
sized_trails advances ps k = ap trails (sized_at advances ps k)

pub sized_must : (advances : Option (List ℕ)) (ps : List CharInfo) (k : ℕ) → must_end (sized advances ps) k ≡ must_end ps k
sized_must advances ps k = ap (λ (p : CharInfo). is_must p.mark) (sized_at advances ps k)

-- the size of a character: its advance, or 0 past the last advance
pub measured_size : (advances : List ℕ) (ps : List CharInfo) (k : ℕ) → k < length ps → (place_at (measured advances ps) k).columns ≡ get_or advances k 0
measured_size advances [] k within = absurd (omega (arith, within))
measured_size [] (p ∷ ps) zero within = refl
measured_size [] (p ∷ ps) (suc k) within = measured_size [] ps k (omega (arith, within))
measured_size (size ∷ advances) (p ∷ ps) zero within = refl
measured_size (size ∷ advances) (p ∷ ps) (suc k) within = measured_size advances ps k (omega (arith, within))

pub measured_place : (advances : List ℕ) (ps : List CharInfo) (k : ℕ) → k < length ps → place_at (measured advances ps) k ≡ record (place_at ps k) { columns = get_or advances k 0 }
measured_place advances ps k within =
    measured_at advances ps k ∙ ap (λ size. let p : CharInfo = record (place_at ps k) { columns = size } in p) (measured_size advances ps k within)

-- ---- advances from a character on

pub clipped : (advances : List ℕ) (start at : ℕ) → at ≡ min start (length advances) → take (length advances - at) (drop at advances) ≡ drop start advances
clipped advances start at is =
    take_all (length advances - at) (drop at advances) (omega (arith, length-drop at advances))
    ∙ elim (cases_lt start (length advances)) [
      | inl below ↦ let e : at ≡ start = omega (arith, is, below) in ap (λ n. drop n advances) e
      | inr past ↦ drop_all at advances (omega (arith, is, past)) ∙ sym (drop_all start advances past)
    ]

pub sums_from : (start k : ℕ) (advances : List ℕ) → sum (take start advances) + sum (take k (drop start advances)) ≤ sum (take (start + k) advances)
sums_from start k advances =
    let parts : take (start + k) advances ≡ take start advances ++ take k (drop start advances) = take-add start k advances in
    omega (arith, ap sum parts, sum_by-append (λ x. x) (take start advances) (take k (drop start advances)))

-- ---- parts of a paragraph

pub measured_drop : (s : ℕ) (advances : List ℕ) (ps : List CharInfo) → measured (drop s advances) (drop s ps) ≡ drop s (measured advances ps)
measured_drop zero advances ps = refl
measured_drop (suc s) advances [] = refl
measured_drop (suc s) [] (p ∷ ps) = ap (λ xs. measured xs (drop s ps)) (sym (drop_all s [] (omega arith))) ∙ measured_drop s [] ps
measured_drop (suc s) (size ∷ advances) (p ∷ ps) = measured_drop s advances ps

measured_take : (n : ℕ) (advances : List ℕ) (ps : List CharInfo) → measured advances (take n ps) ≡ take n (measured advances ps)
measured_take zero advances ps = refl
measured_take (suc n) advances [] = refl
measured_take (suc n) [] (p ∷ ps) = ap (λ xs. record p { columns = 0 } ∷ xs) (measured_take n [] ps)
measured_take (suc n) (size ∷ advances) (p ∷ ps) = ap (λ xs. record p { columns = size } ∷ xs) (measured_take n advances ps)

pub sized_take : (n : ℕ) (advances : Option (List ℕ)) (ps : List CharInfo) → sized advances (take n ps) ≡ take n (sized advances ps)
sized_take n None ps = refl
sized_take n (Some advances) ps = measured_take n advances ps

-- the sizes of a range of characters are the same range of the sizes of all characters
pub sized_range : (advances later : Option (List ℕ)) (ps : List CharInfo) (s e : ℕ) → sized later (drop s ps) ≡ drop s (sized advances ps)
    → sized later (slice_range ps s e) ≡ slice_range (sized advances ps) s e
sized_range advances later ps s e from = sized_take (e - s) later (drop s ps) ∙ ap (take (e - s)) from

-- how much of a range of characters is shown can be computed from the sizes from the start of the range on
pub shown_range : (margin : Option ℕ) (advances later : Option (List ℕ)) (ps : List CharInfo) (s e : ℕ) (part : Shown) → sized later (drop s ps) ≡ drop s (sized advances ps)
    → part.len ≡ length (shown margin (sized later (slice_range ps s e))) → part.columns ≡ columns (shown margin (sized later (slice_range ps s e)))
    → part ≡ shown_between margin (sized advances ps) s e
shown_range margin advances later ps s e part from len width =
    let same : sized later (slice_range ps s e) ≡ slice_range (sized advances ps) s e = sized_range advances later ps s e from in
    ap₂ (λ (n w : ℕ). let it : Shown = record { len = n; columns = w } in it)
    (len ∙ ap (λ qs. length (shown margin qs)) same) (width ∙ ap (λ qs. columns (shown margin qs)) same)

-- ---- cluster ends

measured_bare : (advances : List ℕ) (ps : List CharInfo) → map bare (measured advances ps) ≡ measured advances (map bare ps)
measured_bare advances [] = refl
measured_bare [] (p ∷ ps) = ap (λ (xs : List CharInfo). record (bare p) { columns = 0 } ∷ xs) (measured_bare [] ps)
measured_bare (size ∷ advances) (p ∷ ps) = ap (λ (xs : List CharInfo). record (bare p) { columns = size } ∷ xs) (measured_bare advances ps)

sized_bare : (advances : Option (List ℕ)) (ps : List CharInfo) → map bare (sized advances ps) ≡ sized advances (map bare ps)
sized_bare None ps = refl
sized_bare (Some advances) ps = measured_bare advances ps

pub sized_alike : (advances : Option (List ℕ)) (xs ys : List CharInfo) → AreAlike xs ys → AreAlike (sized advances xs) (sized advances ys)
sized_alike advances xs ys alike = sized_bare advances xs ∙ ap (sized advances) alike ∙ sym (sized_bare advances ys)

-- ---- where lines may end

pub sized_stop : (advances : Option (List ℕ)) (ps : List CharInfo) → stop (sized advances ps) ≡ stop ps
sized_stop advances ps =
    ap₂ (λ n o. unwrap_or o (n - 1)) (length-sized advances ps)
    (ap (least (must_end (sized advances ps)) 0) (length-sized advances ps) ∙ least_same (must_end (sized advances ps)) (must_end ps) 0 (length ps) (sized_must advances ps))

pub sized_first_end : (advances : Option (List ℕ)) (ps : List CharInfo) → first_end (sized advances ps) ≡ first_end ps
sized_first_end advances ps =
    let test : List CharInfo → ℕ → Bool = λ qs k. may_end qs k || cluster_ends_at qs k in
    ap₂ (λ n o. unwrap_or o (n - 1)) (length-sized advances ps)
    (ap (least (test (sized advances ps)) 0) (length-sized advances ps)
    ∙ least_same (test (sized advances ps)) (test ps) 0 (length ps) (λ k. ap (λ (p : CharInfo). is_break p.mark || p.ends_cluster) (sized_at advances ps k)))

-- sizes do not change the last break opportunity or the last cluster end among the first n characters
pub sized_break : (advances : Option (List ℕ)) (ps : List CharInfo) (n : ℕ) → greatest (may_end (sized advances ps)) n ≡ greatest (may_end ps) n
sized_break advances ps n =
    greatest_same (may_end (sized advances ps)) (may_end ps) n (λ k. ap (λ (p : CharInfo). is_break p.mark) (sized_at advances ps k))

pub sized_cluster : (advances : Option (List ℕ)) (ps : List CharInfo) (n : ℕ) → greatest (cluster_ends_at (sized advances ps)) n ≡ greatest (cluster_ends_at ps) n
sized_cluster advances ps n =
    greatest_same (cluster_ends_at (sized advances ps)) (cluster_ends_at ps) n (λ k. ap (λ (p : CharInfo). p.ends_cluster) (sized_at advances ps k))

-- the infos of a measured paragraph are those of its characters with the advances
pub sized_infos : (t : Tables) (options : Options) (advances : Option (List ℕ)) (text : List ℕ) → sized advances (infos_of t options None text) ≡ infos_of t options advances text
unfolding infos_of
sized_infos t options advances text = refl

-- extents whose starts and shown parts are computed from the infos with advances are those that `extents_of`
-- defines
pub found_extents : (rules : Rules) (advances given : Option (List ℕ)) (width : ℕ) (text : List ℕ) (infos : List CharInfo) (extents : LineExtents) → given ≡ advances
    → infos ≡ infos_of rules.tables rules.options None text
    → extents.starts ≡ line_starts_of rules.options.nobreak width (sized given infos)
    → extents.shown ≡ shown_from (margin_of rules.options width) (length text) (sized given infos) extents.starts
    → extents ≡ extents_of (with_advances rules advances) width text
found_extents rules advances given width text infos extents same are starts shown =
    let ps : sized given infos ≡ infos_of rules.tables rules.options advances text = ap₂ sized same are ∙ sized_infos rules.tables rules.options advances text in
    let at : extents.starts ≡ line_starts_of rules.options.nobreak width (infos_of rules.tables rules.options advances text) = starts ∙ ap (line_starts_of rules.options.nobreak width) ps in
    ap₂ (λ (ss : List ℕ) (parts : List Shown). let it : LineExtents = record { starts = ss; shown = parts } in it) at
    (shown ∙ ap₂ (λ qs (ss : List ℕ). shown_from (margin_of rules.options width) (length text) qs ss) ps at)
