-- Places, carets, hits, clusters and words at positions of a text; the columns of a selection; the edges of positions, and steps from
-- edge to edge.
use Rattle.std.specs.Prelude.{◌≡◌, ℕ, ◌-◌, ◌<◌, ◌==◌, Bool, true, false, List, length, map, option_and_then, option_map, slice_get, Option, Some, None, if◌then◌else◌}
use Rattle.lines.specs.Engine.{rules_of}
use Rattle.lines.specs.Spans.{spans_of}
use Rattle.lines.specs.Visual.{Visual}
use Rattle.lines.specs.declared.spans.Span.{Span}
use Rattle.session.specs.Clusters.{cluster_at, line_clusters}
use Rattle.session.specs.Edges.{edge_at, edge_caret_at, is_edge_in, line_edges, nearest_edge, step_at, HasCharacter}
use Rattle.session.specs.Kept.{lines_in}
use Rattle.session.specs.Places.{line_starts}
use Rattle.session.specs.Sessions.{SessionState, text_at}
use Rattle.session.specs.Words.{word_at}
use Rattle.session.specs.declared.carets.Caret.{Caret}
use Rattle.session.specs.declared.clusters.Cluster.{Cluster}
use Rattle.session.specs.declared.edges.Direction.{Direction}
use Rattle.session.specs.declared.edges.Direction.TheVariants.{Left, Right}
use Rattle.session.specs.declared.edges.Edge.{Edge}
use Rattle.session.specs.declared.edges.LineEdges.{LineEdges}
use Rattle.session.specs.declared.edges.Side.{Side}
use Rattle.session.specs.declared.edges.Side.TheVariants.{Before, After}
use Rattle.session.specs.declared.hits.Hit.{Hit}
use Rattle.session.specs.declared.places.Place.{Place}
use Rattle.session.specs.declared.words.Word.{Word}
use Rattle.hordguli_c.specs.Arrays.{PutsItems}
use Rattle.hordguli_c.specs.Calls.{Gives, OrNoMemory}
use Rattle.hordguli_c.specs.Flags.{flag}
use Rattle.hordguli_c.specs.declared.edge_calls.CaretOut.{CaretOut}
use Rattle.hordguli_c.specs.declared.edge_calls.ClusterOut.{ClusterOut}
use Rattle.hordguli_c.specs.declared.edge_calls.EdgeOut.{EdgeOut}
use Rattle.hordguli_c.specs.declared.edge_calls.HitOut.{HitOut}
use Rattle.hordguli_c.specs.declared.edge_calls.PlaceOut.{PlaceOut}
use Rattle.hordguli_c.specs.declared.edge_calls.SpanOut.{SpanOut}
use Rattle.hordguli_c.specs.declared.edge_calls.WordOut.{WordOut}
use Rattle.hordguli_c.specs.declared.status.Status.{Status}
use Rattle.hordguli_c.specs.declared.status.Status.TheVariants as is

abbrev pub place_out : Place → PlaceOut
place_out place = record { paragraph = place.paragraph; line = place.line; offset = place.offset }

abbrev pub caret_out : Caret → CaretOut
caret_out caret = record { line = caret.line; column = caret.column; level = caret.level; zero = 0 }

abbrev pub hit_out : Hit → HitOut
hit_out hit = record { pos = hit.pos; trailing = flag hit.trailing; zero = 0 }

abbrev pub cluster_out : Cluster → ClusterOut
cluster_out cluster = record { start = cluster.start; end = cluster.end }

-- the cluster of the character at `pos` is stored, if there is such a character
abbrev pub GivesCluster : ℕ → Status → SessionState → ClusterOut → ClusterOut → Type 0
GivesCluster pos status state old new =
    OrNoMemory (pos < length (text_at state)) status (new ≡ old)
    (Gives (option_map cluster_out (cluster_at state.kept pos)) status old new)

abbrev pub word_out : Word → WordOut
word_out word = record { start = word.start; end = word.end; kind = flag word.has_letter; zero = 0 }

-- the word of the character at `pos` is stored, if there is such a character
abbrev pub GivesWord : ℕ → Status → SessionState → WordOut → WordOut → Type 0
GivesWord pos status state old new =
    OrNoMemory (pos < length (text_at state)) status (new ≡ old)
    (Gives (option_map word_out (word_at state.kept pos)) status old new)

abbrev pub span_out : Span → SpanOut
span_out span = record { left = span.left; right = span.right }

-- the spans that a range covers in a line; `from` and `to` are counted from the start of the line
abbrev pub spans_out : Visual → ℕ → ℕ → List SpanOut
spans_out line from to = map span_out (spans_of line from to)

-- the spans of a range of text positions in a line are stored, if the line exists
abbrev pub ShowsSpans : ℕ → ℕ → Option ℕ → Option Visual → Status → List SpanOut × ℕ → List SpanOut × ℕ → Type 0
ShowsSpans from to (Some start) (Some line) status old new = PutsItems (spans_out line (from - start) (to - start)) status old new
ShowsSpans from to start line status old new = (status ≡ is.OutOfRange) × (new ≡ old)

abbrev pub GivesSpans : ℕ → ℕ → ℕ → Status → SessionState → List SpanOut × ℕ → List SpanOut × ℕ → Type 0
GivesSpans n from to status state = ShowsSpans from to (slice_get (line_starts state.kept) n) (slice_get (lines_in state.kept) n) status

-- the side, the direction and the edge with these numbers, or `None` if a number is unknown
abbrev pub side_of : ℕ → Option Side
side_of side = if side == 0 then Some Before else if side == 1 then Some After else None

abbrev pub step_direction : ℕ → Option Direction
step_direction direction = if direction == 0 then Some Left else if direction == 1 then Some Right else None

abbrev pub edge_of : ℕ → ℕ → Option Edge
edge_of pos side = option_map (λ side. record { pos = pos; side = side }) (side_of side)

abbrev pub side_number : Side → ℕ
side_number Before = 0
side_number After = 1

abbrev pub edge_out : Edge → EdgeOut
edge_out edge = record { pos = edge.pos; side = side_number edge.side; zero = 0 }

-- whether an edge belongs to a character; otherwise, finding its caret does not allocate
unfoldable pub IsOfCharacter : SessionState → Edge → Type 0
IsOfCharacter state edge = HasCharacter (length (text_at state)) edge

-- the caret at an edge is stored, if the edge exists
abbrev pub GivesEdgeCaret : Edge → Status → SessionState → CaretOut → CaretOut → Type 0
GivesEdgeCaret edge status state old new =
    OrNoMemory (IsOfCharacter state edge) status (new ≡ old)
    (Gives (option_map caret_out (edge_caret_at (rules_of state.engine) state.kept edge)) status old new)

-- The edge after a step is stored, and 1 as the number of steps. If no step is possible in that direction,
-- only the number 0 is stored.
abbrev pub Steps : Option Edge → Status → EdgeOut × ℕ → EdgeOut × ℕ → Type 0
Steps None status old new = (status ≡ is.Ok) × (new ≡ (old.0, 0))
Steps (Some next) status old new = (status ≡ is.Ok) × (new ≡ (edge_out next, 1))

-- the result of a step from an edge, given whether the edge exists; may allocate if the text is not empty
abbrev pub StepsIf : Bool → ℕ → Option Edge → Status → EdgeOut × ℕ → EdgeOut × ℕ → Type 0
StepsIf true chars next status old new = OrNoMemory (0 < chars) status (new ≡ old) (Steps next status old new)
StepsIf false chars next status old new = (status ≡ is.OutOfRange) × (new ≡ old)

abbrev pub GivesStep : Edge × Direction → Status → SessionState → EdgeOut × ℕ → EdgeOut × ℕ → Type 0
GivesStep asked status state old new =
    let chars = length (text_at state) in
    (StepsIf (is_edge_in chars asked.0) chars (step_at (rules_of state.engine) state.kept asked.0 asked.1) status old new)

-- an edge and a direction, or `None` if a number is unknown
abbrev pub step_of : ℕ → ℕ → ℕ → Option (Edge × Direction)
step_of pos side direction = option_and_then (λ edge. option_map (λ towards. (edge, towards)) (step_direction direction)) (edge_of pos side)

-- the edge at a column of line n is stored
abbrev pub GivesEdge : ℕ → ℕ → Status → SessionState → EdgeOut → EdgeOut → Type 0
GivesEdge n column status state old new =
    OrNoMemory (n < length (lines_in state.kept)) status (new ≡ old)
    (Gives (option_map edge_out (edge_at (rules_of state.engine) state.kept n column)) status old new)

-- the edge nearest to a column of line n is stored
abbrev pub GivesNearestEdge : ℕ → ℕ → Status → SessionState → EdgeOut → EdgeOut → Type 0
GivesNearestEdge n column status state old new =
    OrNoMemory (n < length (lines_in state.kept)) status (new ≡ old)
    (Gives (option_map edge_out (nearest_edge (rules_of state.engine) state.kept n column)) status old new)

-- the first and the last edge of a line, in the form in which they are stored
abbrev pub edges_out : LineEdges → EdgeOut × EdgeOut
edges_out edges = (edge_out edges.first, edge_out edges.last)

abbrev pub GivesLineEdges : ℕ → Status → SessionState → EdgeOut × EdgeOut → EdgeOut × EdgeOut → Type 0
GivesLineEdges n status state old new = Gives (option_map edges_out (line_edges (rules_of state.engine) state.kept n)) status old new

-- the ends of a line's clusters are stored, if the line exists
abbrev pub PutsClusters : Option (List ℕ) → Status → List ℕ × ℕ → List ℕ × ℕ → Type 0
PutsClusters None status old new = (status ≡ is.OutOfRange) × (new ≡ old)
PutsClusters (Some ends) status old new = PutsItems ends status old new

abbrev pub GivesLineClusters : ℕ → Status → SessionState → List ℕ × ℕ → List ℕ × ℕ → Type 0
GivesLineClusters n status state old new =
    OrNoMemory (n < length (lines_in state.kept)) status (new ≡ old) (PutsClusters (line_clusters state.kept n) status old new)
