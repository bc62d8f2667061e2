-- What a session keeps for a text: the layout of each of its paragraphs.
use Rattle.std.specs.Prelude.{◌≡◌, ℕ, ◌-◌, ◌<◌, ◌≤◌, ◌^◌, Bool, true, false, List, [], ◌∷◌, length, map, take, drop, replicate, sum_by, slice_index, Option, Some, None, IfSome, option_map, unwrap_or, if◌then◌else◌, refl}
use Rattle.std.specs.List.{concat, flat_map}
use Rattle.bidi.specs.Cuts.{paragraphs}
use Rattle.lines.specs.Extents.{extents_in, extents_of, reflowed, LineExtents}
use Rattle.lines.specs.Layouts.{Layout, Rules, IsLaidOut, cut_by, keeps_lines, layout_of, lines_of, visuals, with_advances}
use Rattle.lines.specs.Measures.{given_if}
use Rattle.lines.specs.Visual.{Visual}
use Rattle.session.specs.Offsets.{units_of}
use Rattle.session.specs.declared.offsets.Encoding.TheVariants.{Utf8, Utf16}

-- whether there is a paragraph boundary between two texts, or one of them is empty
abbrev pub IsCutAt : (ℕ → ℕ → Bool) → List ℕ → List ℕ → Type 0
IsCutAt is_cut before after = 0 < length before → 0 < length after → is_cut (slice_index before (length before - 1)) (slice_index after 0) ≡ true

-- the paragraphs of a list of layouts
abbrev pub pars_of : List Layout → List (List ℕ)
pars_of kept = map (λ l. l.text) kept

-- the whole text of a list of layouts
abbrev pub text_of : List Layout → List ℕ
text_of kept = concat (pars_of kept)

-- the visual lines of a list of layouts
abbrev pub lines_in : List Layout → List Visual
lines_in kept = flat_map visuals kept

-- the advances of each paragraph
abbrev pub advance_lists : List Layout → List (List ℕ)
advance_lists kept = map (λ l. unwrap_or l.advances []) kept

-- the advances of a text; `None` if it is not measured
abbrev pub advances_in : Bool → List Layout → Option (List ℕ)
advances_in is_measured kept = given_if is_measured (concat (advance_lists kept))

-- the advances with which a text of n characters is opened: all 0 if it is measured, and otherwise `None`
abbrev pub first_advances : Bool → ℕ → Option (List ℕ)
first_advances is_measured n = given_if is_measured (replicate n 0)

-- the advances of the first n characters of a text
abbrev pub front_advances : ℕ → Option (List ℕ) → Option (List ℕ)
front_advances n advances = option_map (take n) advances

-- the advances of a text without those of its first n characters
abbrev pub back_advances : ℕ → Option (List ℕ) → Option (List ℕ)
back_advances n advances = option_map (drop n) advances

-- whether there is one advance for each character of a text, if it is measured
abbrev pub AreForEach : Option (List ℕ) → List ℕ → Type 0
AreForEach advances text = IfSome advances (λ list. length list ≡ length text)

-- whether the numbers of characters, lines, UTF-8 bytes and UTF-16 code units of all layouts fit in a `usize`
pub record TotalsFit (kept : List Layout) : Type 0 where
  pub chars : sum_by (λ l. length l.text) kept < 2 ^ 64
  pub lines : sum_by (λ l. length l.lines) kept < 2 ^ 64
  pub bytes : sum_by (units_of Utf8) kept < 2 ^ 64
  pub utf16 : sum_by (units_of Utf16) kept < 2 ^ 64

-- the fresh layouts of adjacent paragraphs at a width, given the advances of all their characters if the text
-- is measured
abbrev pub layouts_from : Rules → ℕ → Option (List ℕ) → List (List ℕ) → List Layout
layouts_from rules width advances [] = []
layouts_from rules width advances (p ∷ pars) =
    layout_of (with_advances rules (front_advances (length p) advances)) width p ∷ layouts_from rules width (back_advances (length p) advances) pars

-- the fresh layouts of a text at a width; the rules hold its advances if it is measured
abbrev pub layouts_of : Rules → ℕ → List ℕ → List Layout
layouts_of rules width text = layouts_from (with_advances rules None) width rules.advances (paragraphs (cut_by rules) text)

-- the rules for laying out a paragraph again: the same rules with the paragraph's own advances
abbrev pub rules_for : Rules → Layout → Rules
rules_for rules kept = with_advances rules kept.advances

-- whether a layout is the fresh layout of its text with its advances
abbrev pub IsFresh : Rules → Layout → Type 0
IsFresh rules kept = IsLaidOut (rules_for rules kept) kept

-- how many characters of a paragraph are refilled when the width changes: 0 if the paragraph keeps its only
-- line, or else all
abbrev pub changed_in : Rules → ℕ → Layout → ℕ
changed_in rules width kept = if keeps_lines rules width kept then 0 else length kept.text

-- how many characters of a text are refilled when the width changes
abbrev pub changed : Rules → ℕ → List Layout → ℕ
changed rules width kept = sum_by (changed_in rules width) kept

-- the parameters for writing the lines of paragraphs: the rules, and the capacity of the scratch space
pub record Writer : Type 0 where
  pub rules : Rules
  pub capacity : ℕ

-- a `Writer`, and the count of characters whose lines were written with it
pub record ReflowState : Type 0 where
  pub by : Writer
  pub written : ℕ

-- a layout after its lines are rewritten from the given extents; without extents, the layout is unchanged
abbrev pub put_into : Writer → Layout → Option LineExtents → Layout
put_into writer kept None = kept
put_into writer kept (Some extents) = reflowed writer.rules kept extents

-- the extents of the replaced lines, or `None` if no lines are replaced
abbrev pub taken_from : Layout → Option LineExtents → Option LineExtents
taken_from kept None = None
taken_from kept (Some extents) = Some (extents_in kept.lines)

-- the number of characters whose lines are written: 0 without extents, and otherwise the paragraph's length
abbrev pub written_for : Layout → Option LineExtents → ℕ
written_for kept None = 0
written_for kept (Some extents) = length kept.text

-- rewriting the lines of a paragraph does not change its text
pub text_stays : (writer : Writer) (kept : Layout) (part : Option LineExtents) → (put_into writer kept part).text ≡ kept.text
text_stays writer kept None = refl
text_stays writer kept (Some extents) = refl

-- whether the extents are those of the laid-out text at some width, and the scratch space is large enough for
-- that text
pub record CanBePut (writer : Writer) (kept : Layout) (extents : LineExtents) : Type 0 where
  pub laid_out : IsFresh writer.rules kept
  pub at_width : (width : ℕ) × (extents ≡ extents_of (rules_for writer.rules kept) width kept.text)
  pub capacity : length kept.text ≤ writer.capacity

-- Whether the extents are those of the paragraph's lines at a width. They are `None` if the paragraph keeps
-- its only line, which is then already its line at that width.
abbrev pub BringsTo : Rules → ℕ → Layout → Option LineExtents → Type 0
BringsTo rules width kept None = (keeps_lines rules width kept ≡ true) × (kept.lines ≡ lines_of (rules_for rules kept) width kept.text)
BringsTo rules width kept (Some extents) = (keeps_lines rules width kept ≡ false) × (extents ≡ extents_of (rules_for rules kept) width kept.text)
