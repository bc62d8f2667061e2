-- Each line's shown part is inside the paragraph.
use Rattle.std.proofs.Common.{◌≡◌, ℕ, zero, suc, ◌+◌, ◌-◌, ◌<◌, ◌≤◌, Bool, Option, List, [], ◌∷◌, length, map, take, drop, slice_index, slice_range, subst, refl, arith}
use Rattle.std.proofs.lemmas.List.{length-take}
use Rattle.std.proofs.lemmas.List.Elements.{All-cons, All-nil}
use Rattle.std.specs.Prelude.{⊤}
use Rattle.ucd.specs.Tables.{class_of}
use Rattle.ucd.specs.declared.tables.Tables.{Tables}
use Rattle.breaks.specs.Marks.{marks_of}
use Rattle.breaks.specs.declared.mark.Mark.{Mark}
use Rattle.lines.specs.Clusters.{cluster_ends}
use Rattle.lines.specs.Extents.{extents_of}
use Rattle.lines.specs.Filling.{line_len, line_starts_of, starts}
use Rattle.lines.specs.Kept.{AreStarts}
use Rattle.lines.specs.Measures.{FollowFrom}
use Rattle.lines.specs.Layouts.{AreWithin, Rules, base_of, lines_of}
use Rattle.lines.specs.CharInfos.{infos, infos_of}
use Rattle.reorder.specs.Spaces.{line_levels}
use Rattle.lines.specs.ShownParts.{margin_of, shown, shown_len}
use Rattle.lines.specs.Tabs.{tab_width_in}
use Rattle.lines.specs.Visual.{Line, line_between, lines_from}
use Rattle.lines.specs.declared.options.Options.{Options}
use Rattle.lines.specs.declared.char_info.CharInfo.{CharInfo}
use Rattle.lines.proofs.WidthLemmas.{length-sized}
use Rattle.bidi.specs.Levels.{levels_of}

-- whether the numbers are strictly ascending, start at `low` or above, and are below n
abbrev pub Rise : ℕ → ℕ → List ℕ → Type 0
Rise low n [] = ⊤
Rise low n (x ∷ xs) = (low ≤ x) × (x < n) × Rise (suc x) n xs

rise_from : (low above n : ℕ) (xs : List ℕ) → low ≤ above → Rise above n xs → Rise low n xs
rise_from low above n [] below rise = tt
rise_from low above n (x ∷ xs) below rise = (omega (arith, below, rise.0), rise.1, rise.2)

rise_to : (low n m : ℕ) (xs : List ℕ) → n ≤ m → Rise low n xs → Rise low m xs
rise_to low n m [] below rise = tt
rise_to low n m (x ∷ xs) below rise = (rise.0, omega (arith, below, rise.1), rise_to (suc x) n m xs below rise.2)

-- line starts are strictly ascending
pub starts_rise : (nobreak : Bool) (width place left n : ℕ) (rest : List CharInfo) → place + length rest ≡ n → Rise (place + left) n (starts nobreak width place left rest)
starts_rise nobreak width place zero n [] e = tt
starts_rise nobreak width place (suc left) n [] e = tt
starts_rise nobreak width place zero n (p ∷ rest) e = (
  omega arith,
  omega (arith, e),
  rise_from (suc place) (suc place + (line_len nobreak width (p ∷ rest) - 1)) n (starts nobreak width (suc place) (line_len nobreak width (p ∷ rest) - 1) rest) (omega arith)
      (starts_rise nobreak width (suc place) (line_len nobreak width (p ∷ rest) - 1) n rest (omega (arith, e))),
)
starts_rise nobreak width place (suc left) n (p ∷ rest) e =
    rise_from (place + suc left) (suc place + left) n (starts nobreak width (suc place) left rest) (omega arith) (starts_rise nobreak width (suc place) left n rest (omega (arith, e)))

-- there are at most as many `CharInfo`s as characters
length-infos : (t : Tables) (n : ℕ) (text : List ℕ) (marks : List Mark) (clusters : List Bool) → length (infos t n text marks clusters) ≤ length text
length-infos t n [] marks clusters = omega arith
length-infos t n (c ∷ text) [] clusters = omega arith
length-infos t n (c ∷ text) (mark ∷ marks) [] = omega arith
length-infos t n (c ∷ text) (mark ∷ marks) (ends ∷ clusters) = omega (arith, length-infos t n text marks clusters)

length-take-most : {X : Type 0} (n : ℕ) (xs : List X) → length (take n xs) ≤ n
length-take-most n xs = omega (arith, length-take n xs)

-- the shown part of a line is no longer than the line
pub levels_most : (tables : Tables) (options : Options) (margin : Option ℕ) (base : ℕ) (text levels : List ℕ) (ps : List CharInfo) (s e : ℕ) → length (line_between tables options margin base text levels ps s e).levels ≤ e - s
levels_most tables options margin base text levels ps s e =
    let span : List CharInfo = slice_range ps s e in
    omega (
      arith,
      length-take-most (length (shown margin span)) (line_levels base (map (class_of tables) (slice_range text s e)) (slice_range levels s e)),
      length-take (shown_len margin span) span,
      length-take-most (e - s) (drop s ps),
    )

from_within : (tables : Tables) (options : Options) (margin : Option ℕ) (base : ℕ) (text levels : List ℕ) (ps : List CharInfo) (low n : ℕ) (at : List ℕ) → n ≡ length text → Rise low n at
    → AreWithin n (lines_from tables options margin base text levels ps at)
from_within tables options margin base text levels ps low n [] e rise = All-nil (λ (line : Line). line.start + length line.levels ≤ n)
from_within tables options margin base text levels ps low n (s ∷ []) e rise =
    All-cons (λ (line : Line). line.start + length line.levels ≤ n) (line_between tables options margin base text levels ps s (length text)) []
    (omega (arith, levels_most tables options margin base text levels ps s (length text), rise.1, e)) (All-nil (λ (line : Line). line.start + length line.levels ≤ n))
from_within tables options margin base text levels ps low n (s ∷ t ∷ at) e rise =
    All-cons (λ (line : Line). line.start + length line.levels ≤ n) (line_between tables options margin base text levels ps s t) (lines_from tables options margin base text levels ps (t ∷ at))
    (omega (arith, levels_most tables options margin base text levels ps s t, rise.2.0, rise.2.1)) (from_within tables options margin base text levels ps (suc s) n (t ∷ at) e rise.2)

pub few_infos : (rules : Rules) (text : List ℕ) → length (infos_of rules.tables rules.options rules.advances text) ≤ length text
unfolding infos_of
few_infos rules text =
    let tab_width : ℕ = tab_width_in rules.tables rules.options in
    let marks : List Mark = marks_of rules.tables rules.options.whole_numbers text in
    omega (
      arith,
      length-sized rules.advances (infos rules.tables tab_width text marks (cluster_ends text)),
      length-infos rules.tables tab_width text marks (cluster_ends text),
    )

-- the line starts of a paragraph are strictly ascending
pub starts_in : (rules : Rules) (width : ℕ) (text : List ℕ) → Rise 0 (length text) (line_starts_of rules.options.nobreak width (infos_of rules.tables rules.options rules.advances text))
unfolding line_starts_of
starts_in rules width text =
    let ps : List CharInfo = infos_of rules.tables rules.options rules.advances text in
    rise_to 0 (length ps) (length text) (line_starts_of rules.options.nobreak width ps) (few_infos rules text)
    (starts_rise rules.options.nobreak width 0 0 (length ps) ps (omega arith))

-- the shown parts of a paragraph's lines are inside the paragraph
pub lines_within : (rules : Rules) (width : ℕ) (text : List ℕ) → AreWithin (length text) (lines_of rules width text)
unfolding line_starts_of
lines_within rules width text =
    let ps : List CharInfo = infos_of rules.tables rules.options rules.advances text in
    from_within rules.tables rules.options (margin_of rules.options width) (base_of rules text) text (levels_of rules.tables text rules.options.base) ps 0 (length text) (line_starts_of rules.options.nobreak width ps) refl
    (rise_to 0 (length ps) (length text) (line_starts_of rules.options.nobreak width ps) (few_infos rules text)
    (starts_rise rules.options.nobreak width 0 0 (length ps) ps (omega arith)))

-- the shown parts of a paragraph's lines follow one another
follow_line : (tables : Tables) (options : Options) (margin : Option ℕ) (base : ℕ) (text levels : List ℕ) (ps : List CharInfo) (low bound s n : ℕ) (at : List ℕ)
    → bound ≤ s → Rise low n (s ∷ at) → FollowFrom bound (lines_from tables options margin base text levels ps (s ∷ at))
follow_line tables options margin base text levels ps low bound s n [] from rise = (from, tt)
follow_line tables options margin base text levels ps low bound s n (t ∷ at) from rise = (
  from,
  follow_line tables options margin base text levels ps (suc s) (s + length (line_between tables options margin base text levels ps s t).levels) t n at
      (omega (arith, levels_most tables options margin base text levels ps s t, rise.2.0)) rise.2,
)

follow_all : (tables : Tables) (options : Options) (margin : Option ℕ) (base : ℕ) (text levels : List ℕ) (ps : List CharInfo) (n : ℕ) (at : List ℕ)
    → Rise 0 n at → FollowFrom 0 (lines_from tables options margin base text levels ps at)
follow_all tables options margin base text levels ps n [] rise = tt
follow_all tables options margin base text levels ps n (s ∷ at) rise = follow_line tables options margin base text levels ps 0 0 s n at (omega arith) rise

pub lines_follow : (rules : Rules) (width : ℕ) (text : List ℕ) → FollowFrom 0 (lines_of rules width text)
lines_follow rules width text =
    let ps : List CharInfo = infos_of rules.tables rules.options rules.advances text in
    follow_all rules.tables rules.options (margin_of rules.options width) (base_of rules text) text (levels_of rules.tables text rules.options.base) ps (length text)
    (line_starts_of rules.options.nobreak width ps) (starts_in rules width text)

-- if `Rise` holds for a list of numbers, they are below n and each is less than the next one
rise_below : (low n : ℕ) (xs : List ℕ) (k : ℕ) → Rise low n xs → k < length xs → slice_index xs k < n
rise_below low n [] k rise below = absurd (omega (arith, below))
rise_below low n (x ∷ xs) zero rise below = rise.1
rise_below low n (x ∷ xs) (suc k) rise below = rise_below (suc x) n xs k rise.2 (omega (arith, below))

rise_rising : (low n : ℕ) (xs : List ℕ) (k : ℕ) → Rise low n xs → k + 1 < length xs → slice_index xs k < slice_index xs (k + 1)
rise_rising low n [] k rise below = absurd (omega (arith, below))
rise_rising low n (x ∷ []) k rise below = absurd (omega (arith, below))
rise_rising low n (x ∷ y ∷ xs) zero rise below = omega (arith, rise.2.0)
rise_rising low n (x ∷ y ∷ xs) (suc k) rise below =
    let e : suc (k + 1) ≡ suc k + 1 = omega arith in
    subst (λ j. slice_index (y ∷ xs) k < slice_index (x ∷ y ∷ xs) j) e (rise_rising (suc x) n (y ∷ xs) k rise.2 (omega (arith, below)))

-- at every width, the line starts of a paragraph are in order and inside the paragraph
pub starts_within : (rules : Rules) (width : ℕ) (text : List ℕ) → AreStarts (length text) (extents_of rules width text).starts
unfolding line_starts_of
starts_within rules width text =
    let ps : List CharInfo = infos_of rules.tables rules.options rules.advances text in
    let rise = rise_to 0 (length ps) (length text) (line_starts_of rules.options.nobreak width ps)
    (few_infos rules text)
    (starts_rise rules.options.nobreak width 0 0 (length ps) ps (omega arith)) in
    record {
      below = λ k h. rise_below 0 (length text) (line_starts_of rules.options.nobreak width ps) k rise h;
      rising = λ k h. rise_rising 0 (length text) (line_starts_of rules.options.nobreak width ps) k rise h;
    }
