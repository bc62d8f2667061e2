-- The edges of a position, and the unit that covers a column.
use Rattle.std.proofs.Common.{◌≡◌, ℕ, zero, suc, ◌+◌, ◌-◌, ◌≤◌, false, nat_le, List, length, get_or, Some, None, option_and_then, option_map, if◌then◌else◌, ap, refl, sym, ◌∙◌, arith}
use Rattle.std.proofs.lemmas.Bool.Decides.{nat_tests}
use Rattle.lines.specs.Columns.{covering}
use Rattle.lines.specs.Layouts.{Layout, Rules}
use Rattle.lines.specs.Visual.{Visual}
use Rattle.session.specs.Clusters.{cluster_at}
use Rattle.session.specs.Edges.{caret_of, edge_caret_at, edge_caret_by, unit_at, unit_in}
use Rattle.session.specs.Kept.{text_of}
use Rattle.session.specs.Places.{place_in}
use Rattle.session.specs.Units.{unit_of}
use Rattle.session.specs.declared.clusters.Cluster.{Cluster}
use Rattle.session.specs.declared.edges.Edge.{Edge}
use Rattle.session.specs.declared.edges.Side.TheVariants.{After}
use Rattle.session.specs.declared.units.CaretUnit.{CaretUnit}

-- the caret after a character is on the line of that character
module _ (rules : Rules) (kept : List Layout) where
  after_by : (pos : ℕ) → (pos ≡ 0 → ⊥) → pos ≤ length (text_of kept)
      → caret_of kept After (pos - 1) (place_in kept (pos - 1)) ≡ edge_caret_by rules kept After pos
  after_by zero some within = absurd (some refl)
  after_by (suc pos) some within =
      let last : suc pos - 1 ≡ pos = omega arith in
      let inside : nat_le (length (text_of kept)) pos ≡ false = grind (arith, nat_tests, within) in
      ap (λ i. caret_of kept After i (place_in kept i)) last
      ∙ ap (λ b. if b then None else caret_of kept After pos (place_in kept pos)) (sym inside)

  pub after_is : (edge : Edge) → edge.side ≡ After → (edge.pos ≡ 0 → ⊥) → edge.pos ≤ length (text_of kept)
      → caret_of kept After (edge.pos - 1) (place_in kept (edge.pos - 1)) ≡ edge_caret_at rules kept edge
  after_is edge side some within = after_by edge.pos some within ∙ ap (λ side. edge_caret_by rules kept side edge.pos) (sym side)

-- the unit at a column is that of the character that covers it
pub unit_found : (kept : List Layout) (line : Visual) (start column place k : ℕ) (cluster : Cluster) (unit : CaretUnit)
    → Some place ≡ covering line column → k ≡ get_or line.vtol place 0 → Some cluster ≡ cluster_at kept (start + k) → unit ≡ unit_of line start cluster k
    → Some unit ≡ unit_at kept line start column
unit_found kept line start column place k cluster unit covers is clusters whole =
    ap Some whole ∙ ap (option_map (λ cluster. unit_of line start cluster k)) clusters ∙ ap (unit_in kept line start) is
    ∙ ap (option_and_then (λ place. unit_in kept line start (get_or line.vtol place 0))) covers
