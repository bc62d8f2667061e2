-- How the units of a line, and the steps over them, relate to the columns of the line.
use Rattle.std.specs.Prelude.{◌≡◌, ℕ, zero, suc, ◌<◌, ◌≤◌, ◌⊎◌, List, Some, None, Option, option_and_then, if◌then◌else◌}
use Rattle.lines.specs.Layouts.{Layout, Rules}
use Rattle.lines.specs.Visual.{Visual}
use Rattle.reorder.specs.Order.{is_odd}
use Rattle.session.specs.Edges.{edge_at, edge_caret_at, line_at, step_at, unit_at}
use Rattle.session.specs.declared.carets.Caret.{Caret}
use Rattle.session.specs.declared.edges.Direction.{Direction}
use Rattle.session.specs.declared.edges.Direction.TheVariants.{Left, Right}
use Rattle.session.specs.declared.edges.Edge.{Edge}
use Rattle.session.specs.declared.units.CaretUnit.{CaretUnit}

-- the column of the left end of a unit
abbrev pub left_of : CaretUnit → ℕ
left_of unit = if is_odd unit.level then unit.trailing else unit.leading

-- the column of the right end of a unit
abbrev pub right_of : CaretUnit → ℕ
right_of unit = if is_odd unit.level then unit.leading else unit.trailing

-- a line of a text, and the position at which it starts
module _ (kept : List Layout) (line : Visual) (start : ℕ) where
  -- whether a unit is found at a column, has this column between its two ends, and is found at every column
  -- between its ends
  pub record Covers (column : ℕ) (unit : CaretUnit) : Type 0 where
    pub found : unit_at kept line start column ≡ Some unit
    pub left : left_of unit ≤ column
    pub right : column < right_of unit
    pub within : right_of unit ≤ line.columns
    pub whole : (c : ℕ) → left_of unit ≤ c → c < right_of unit → unit_at kept line start c ≡ Some unit

  -- whether the units of a line tile the line's columns: each column belongs to exactly one unit
  abbrev pub UnitsTile : Type 0
  UnitsTile = (column : ℕ) → column < line.columns → (unit : CaretUnit) × Covers column unit

  -- whether a unit begins or ends at a column; on a line without columns, column 0 is the only boundary
  abbrev pub IsBoundary : ℕ → Type 0
  IsBoundary column =
      ((c : ℕ) × (unit : CaretUnit) × (unit_at kept line start c ≡ Some unit) × ((left_of unit ≡ column) ⊎ (right_of unit ≡ column)))
      ⊎ ((line.columns ≡ 0) × (column ≡ 0))

-- whether column `to` is further in a direction than column `from`
abbrev pub IsFurther : Direction → ℕ → ℕ → Type 0
IsFurther Right from to = from < to
IsFurther Left from to = to < from

-- the caret of an edge, the line that the caret is on, and the position at which that line starts
pub record IsOn (rules : Rules) (kept : List Layout) (edge : Edge) (caret : Caret) (line : Visual) (start : ℕ) : Type 0 where
  pub drawn : edge_caret_at rules kept edge ≡ Some caret
  pub read : line_at kept caret.line ≡ Some (line, start)

-- the opposite direction
abbrev pub back : Direction → Direction
back Left = Right
back Right = Left

-- the edge after `count` steps in one direction; `None` if any of these steps is not possible
abbrev pub after_steps : Rules → List Layout → Direction → ℕ → Edge → Option Edge
after_steps rules kept direction zero edge = Some edge
after_steps rules kept direction (suc count) edge = option_and_then (after_steps rules kept direction count) (step_at rules kept edge direction)

-- steps from a caret on a line that starts at the position `start`
module _ (rules : Rules) (kept : List Layout) (line : Visual) (start : ℕ) (direction : Direction) (caret : Caret) where
  -- whether the edge that a step returns is at the nearest boundary in the step's direction, on the same line
  pub record StepsTo (next : Edge) : Type 0 where
    pub to : Caret
    pub drawn : edge_caret_at rules kept next ≡ Some to
    pub line_stays : to.line ≡ caret.line
    pub further : IsFurther direction caret.column to.column
    pub boundary : IsBoundary kept line start to.column
    pub nearest : (c : ℕ) → IsBoundary kept line start c → IsFurther direction caret.column c → IsFurther direction to.column c ⊎ (c ≡ to.column)

  -- whether a step returns the edge at the nearest boundary in its direction, or `None` if there is none
  abbrev pub IsStep : Option Edge → Type 0
  IsStep (Some next) = StepsTo next
  IsStep None = (c : ℕ) → IsBoundary kept line start c → IsFurther direction caret.column c → ⊥

-- whether repeated steps from the edge of a caret reach a column: after some number of steps, the caret is at
-- that column, on the same line
pub record Meets (rules : Rules) (kept : List Layout) (direction : Direction) (edge : Edge) (caret : Caret) (column : ℕ) : Type 0 where
  pub count : ℕ
  pub last : Edge
  pub to : Caret
  pub steps : after_steps rules kept direction count edge ≡ Some last
  pub drawn : edge_caret_at rules kept last ≡ Some to
  pub line_stays : to.line ≡ caret.line
  pub there : to.column ≡ column

-- from a boundary, a step and a step back return to the same column
abbrev pub Returns : Rules → List Layout → Visual → ℕ → Direction → Edge → Caret → Type 0
Returns rules kept line start direction edge caret = IsBoundary kept line start caret.column → (next : Edge) → step_at rules kept edge direction ≡ Some next
    → (again : Edge) × (step_at rules kept next (back direction) ≡ Some again)
    × (to : Caret) × (edge_caret_at rules kept again ≡ Some to) × (to.column ≡ caret.column)

-- whether an edge is on line n, at the line's last boundary that is not past a column
pub record IsLastTo (rules : Rules) (kept : List Layout) (n : ℕ) (line : Visual) (start column : ℕ) (edge : Edge) : Type 0 where
  pub to : Caret
  pub drawn : edge_caret_at rules kept edge ≡ Some to
  pub on_line : to.line ≡ n
  pub boundary : IsBoundary kept line start to.column
  pub within : to.column ≤ column
  pub last : (c : ℕ) → IsBoundary kept line start c → c ≤ column → c ≤ to.column

-- Whether the units of each line tile the line's columns. The edge at a column is at the last boundary up to
-- that column. From each edge, a step leads to the nearest boundary, and repeated steps reach all boundaries
-- in their direction. From a boundary, a step and a step back return to the same column.
pub record StepsAreNearest (rules : Rules) (kept : List Layout) : Type 0 where
  pub tile : (n : ℕ) (line : Visual) (start : ℕ) → line_at kept n ≡ Some (line, start) → UnitsTile kept line start
  pub at : (n : ℕ) (line : Visual) (start : ℕ) → line_at kept n ≡ Some (line, start)
      → (column : ℕ) → (edge : Edge) × (edge_at rules kept n column ≡ Some edge) × IsLastTo rules kept n line start column edge
  pub steps : (edge : Edge) (caret : Caret) (line : Visual) (start : ℕ) → IsOn rules kept edge caret line start
      → (direction : Direction) → IsStep rules kept line start direction caret (step_at rules kept edge direction)
  pub meet : (edge : Edge) (caret : Caret) (line : Visual) (start : ℕ) → IsOn rules kept edge caret line start
      → (direction : Direction) (c : ℕ) → IsBoundary kept line start c → IsFurther direction caret.column c → Meets rules kept direction edge caret c
  pub return : (edge : Edge) (caret : Caret) (line : Visual) (start : ℕ) → IsOn rules kept edge caret line start
      → (direction : Direction) → Returns rules kept line start direction edge caret
