-- A text in three parts: the text before an edit, the inserted text, and the text after the edit.
use Rattle.std.specs.Prelude.{◌≡◌, ℕ, List, [], ◌∷◌, ◌++◌, length, replicate, Bool, None, Option, Some, IfSome}
use Rattle.std.specs.Str.{chars}
use Rattle.lines.specs.Layouts.{visuals, IsLaidAt, Layout, Rules}
use Rattle.lines.specs.Matching.{ShareEnds}
use Rattle.lines.specs.Measures.{given_if}
use Rattle.lines.specs.SameKind.{IsEdited}
use Rattle.lines.specs.declared.matching.SharedLines.{SharedLines}
use Rattle.session.specs.Kept.{rules_for}
use Rattle.session.specs.declared.joined.Edited.{Edited}
use Rattle.session.specs.declared.joined.Part.{Part}

-- the text of the three parts, joined; the inserted text is given as UTF-8 bytes
abbrev pub joined_text : Part → List ℕ → Part → List ℕ
joined_text front piece back = front.text.now ++ (chars piece ++ back.text.now)

-- the advances of the joined text if it is measured; those of inserted characters are 0
abbrev pub joined_advances : Bool → Part → List ℕ → Part → Option (List ℕ)
joined_advances is_measured front piece back =
    given_if is_measured (front.advances.now ++ (replicate (length (chars piece)) 0 ++ back.advances.now))

-- if a paragraph is given, it is laid out at this width, and the edit makes the text of it
abbrev pub BecomesBy : Rules → ℕ → Option Edited → List ℕ → Type 0
BecomesBy rules width edited text = IfSome edited (λ e. IsLaidAt (rules_for rules e.kept.now) width e.kept.now × IsEdited e.kept.now.text text e.edit)

-- If an edit has made a paragraph of a laid-out one, both have these lines in common. Otherwise, there are none.
abbrev pub IsShared : Option Edited → Layout → SharedLines → Type 0
IsShared None kept shared = (shared.front ≡ 0) × (shared.back ≡ 0)
IsShared (Some edited) kept shared = ShareEnds (visuals edited.kept.now) (visuals kept) shared.front shared.back

-- the same if the edit has made a list of paragraphs that has just one
abbrev pub AreShared : Option Edited → List Layout → SharedLines → Type 0
AreShared edited kept shared = (only : Layout) → kept ≡ only ∷ [] → IsShared edited only shared
