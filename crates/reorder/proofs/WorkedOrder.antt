-- Examples of L1, L2 and L4.
use Rattle.std.proofs.Common.{◌≡◌, true, false, [], ◌∷◌, Some, None, unwrap_or, refl}
use Rattle.ucd.specs.Tables.{mirror_of}
use Rattle.ucd.specs.declared.bidi_class.BidiClass.TheVariants.{L, R, EN, NSM, S, B, WS, PDI, RLI, RLE, PDF}
use Rattle.ucd.specs.declared.tables.Tables.{Tables}
use Rattle.reorder.specs.Mirroring.{visual_chars}
use Rattle.reorder.specs.Order.{lowest_odd, ltov_of, order_of, vtol_of}
use Rattle.reorder.specs.Spaces.{line_levels}

-- L1: blanks inside the line keep their levels; separators and the blanks before a separator or before the
-- end are reset
tab : line_levels 0 (R ∷ WS ∷ R ∷ WS ∷ PDI ∷ S ∷ R ∷ WS ∷ RLI ∷ PDF ∷ []) (1 ∷ 1 ∷ 1 ∷ 1 ∷ 1 ∷ 1 ∷ 1 ∷ 1 ∷ 1 ∷ 1 ∷ [])
    ≡ 1 ∷ 1 ∷ 1 ∷ 0 ∷ 0 ∷ 0 ∷ 1 ∷ 0 ∷ 0 ∷ 0 ∷ []
tab = refl

separator : line_levels 1 (L ∷ WS ∷ RLE ∷ B ∷ []) (2 ∷ 2 ∷ 2 ∷ 2 ∷ []) ≡ 2 ∷ 1 ∷ 1 ∷ 1 ∷ []
separator = refl

blanks : line_levels 0 (WS ∷ WS ∷ []) (1 ∷ 3 ∷ []) ≡ 0 ∷ 0 ∷ []
blanks = refl

-- L2: one interval is reversed, and the characters around it keep their positions
middle : order_of (0 ∷ 0 ∷ 1 ∷ 1 ∷ 0 ∷ []) ≡ 0 ∷ 1 ∷ 3 ∷ 2 ∷ 4 ∷ []
unfolding order_of
middle = refl

-- a higher level in a right-to-left line
number : order_of (1 ∷ 1 ∷ 2 ∷ 2 ∷ []) ≡ 2 ∷ 3 ∷ 1 ∷ 0 ∷ []
unfolding order_of
number = refl

number_places : ltov_of false [] (1 ∷ 1 ∷ 2 ∷ 2 ∷ []) ≡ 3 ∷ 2 ∷ 0 ∷ 1 ∷ []
unfolding ltov_of vtol_of order_of
number_places = refl

digit : order_of (1 ∷ 1 ∷ 2 ∷ []) ≡ 2 ∷ 1 ∷ 0 ∷ []
unfolding order_of
digit = refl

-- lines without odd levels stay in logical order
even : order_of (2 ∷ 2 ∷ []) ≡ 0 ∷ 1 ∷ []
unfolding order_of
even = refl

even_levels : order_of (0 ∷ 2 ∷ []) ≡ 0 ∷ 1 ∷ []
unfolding order_of
even_levels = refl

nested : order_of (1 ∷ 2 ∷ 3 ∷ 2 ∷ 1 ∷ []) ≡ 4 ∷ 1 ∷ 2 ∷ 3 ∷ 0 ∷ []
unfolding order_of
nested = refl

-- level 2 is below the lowest odd level, so its interval is not reversed
above : order_of (3 ∷ 3 ∷ 2 ∷ 0 ∷ []) ≡ 1 ∷ 0 ∷ 2 ∷ 3 ∷ []
unfolding order_of
above = refl

nothing : order_of [] ≡ []
unfolding order_of
nothing = refl

lowest : lowest_odd (2 ∷ 5 ∷ 3 ∷ 4 ∷ []) ≡ Some 3
lowest = refl

no_odd : lowest_odd (2 ∷ 4 ∷ []) ≡ None
no_odd = refl

-- a nonspacing mark is to the left of its base without L3, and to its right with L3
point : vtol_of false (R ∷ NSM ∷ R ∷ []) (1 ∷ 1 ∷ 1 ∷ []) ≡ 2 ∷ 1 ∷ 0 ∷ []
unfolding vtol_of order_of
point = refl

point_read : vtol_of true (R ∷ NSM ∷ R ∷ []) (1 ∷ 1 ∷ 1 ∷ []) ≡ 2 ∷ 0 ∷ 1 ∷ []
unfolding vtol_of order_of
point_read = refl

point_places : ltov_of true (R ∷ NSM ∷ R ∷ []) (1 ∷ 1 ∷ 1 ∷ []) ≡ 1 ∷ 2 ∷ 0 ∷ []
unfolding ltov_of vtol_of order_of
point_places = refl

points_read : vtol_of true (R ∷ NSM ∷ NSM ∷ []) (1 ∷ 1 ∷ 1 ∷ []) ≡ 0 ∷ 1 ∷ 2 ∷ []
unfolding vtol_of order_of
points_read = refl

-- at an even level, a nonspacing mark is to the right of its base, with or without L3
digit_read : vtol_of true (R ∷ EN ∷ NSM ∷ []) (1 ∷ 2 ∷ 2 ∷ []) ≡ 1 ∷ 2 ∷ 0 ∷ []
unfolding vtol_of order_of
digit_read = refl

digit_places : ltov_of true (R ∷ EN ∷ NSM ∷ []) (1 ∷ 2 ∷ 2 ∷ []) ≡ 2 ∷ 0 ∷ 1 ∷ []
unfolding ltov_of vtol_of order_of
digit_places = refl

-- nonspacing marks without a base: at a different level from the character before, at the start of the line, or after
-- such a nonspacing mark
other_level : vtol_of true (R ∷ NSM ∷ NSM ∷ []) (1 ∷ 3 ∷ 3 ∷ []) ≡ 2 ∷ 1 ∷ 0 ∷ []
unfolding vtol_of order_of
other_level = refl

no_base : vtol_of true (NSM ∷ NSM ∷ R ∷ NSM ∷ []) (1 ∷ 1 ∷ 1 ∷ 1 ∷ []) ≡ 2 ∷ 3 ∷ 1 ∷ 0 ∷ []
unfolding vtol_of order_of
no_base = refl

-- the order contains only the characters of the shown part
shown_part : vtol_of true (R ∷ NSM ∷ NSM ∷ []) (1 ∷ 1 ∷ []) ≡ 0 ∷ 1 ∷ []
unfolding vtol_of order_of
shown_part = refl

-- L4: a character at level 1 is mirrored, and one at level 2 is not
mirrors : (t : Tables) → visual_chars t (1 ∷ 2 ∷ 0 ∷ []) (40 ∷ 41 ∷ 97 ∷ []) (1 ∷ 0 ∷ 2 ∷ []) ≡ 41 ∷ unwrap_or (mirror_of t 40) 40 ∷ 97 ∷ []
mirrors t = refl
