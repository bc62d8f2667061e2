-- The replies to queries about a text that is laid out at a width.
use Rattle.std.specs.Prelude.{not, ◌≡◌, ℕ, ◌+◌, ◌-◌, ◌<◌, nat_lt, ◌&&◌, Bool, false, true, List, [], ◌∷◌, ◌++◌, length, codes, slice_get, slice_index, Option, Some, None, option_map, if◌then◌else◌}
use Rattle.std.specs.Fmt.{decimal}
use Rattle.std.specs.List.{flat_map, slice_range}
use Rattle.device.specs.Device.{Device}
use Rattle.lines.specs.Bytes.{line_bytes}
use Rattle.lines.specs.Columns.{covering, padding_of}
use Rattle.lines.specs.Layouts.{Layout, Rules}
use Rattle.reorder.specs.Order.{is_odd}
use Rattle.reorder.specs.Runs.{runs_of}
use Rattle.reorder.specs.declared.runs.Run.{Run}
use Rattle.lines.specs.Spans.{spans_of}
use Rattle.lines.specs.Visual.{Visual}
use Rattle.lines.specs.Writing.{StoppedIn}
use Rattle.lines.specs.declared.printing.print.Print.{Print}
use Rattle.lines.specs.declared.spans.Span.{Span}
use Rattle.session.specs.Carets.{caret_at}
use Rattle.session.specs.Clusters.{cluster_at, line_clusters}
use Rattle.session.specs.Edges.{edge_at, edge_caret_at, is_edge_in, line_edges, step_at, HasCharacter}
use Rattle.session.specs.Hits.{hit_at}
use Rattle.session.specs.Kept.{lines_in, text_of}
use Rattle.session.specs.Offsets.{offset_of, position_of}
use Rattle.session.specs.Places.{line_starts}
use Rattle.session.specs.Reading.{utf8_part}
use Rattle.session.specs.Reasons.{reasons_at}
use Rattle.session.specs.Words.{word_at}
use Rattle.session.specs.declared.carets.Caret.{Caret}
use Rattle.session.specs.declared.edges.Direction.{Direction}
use Rattle.session.specs.declared.edges.Direction.TheVariants.{Left, Right}
use Rattle.session.specs.declared.edges.Edge.{Edge}
use Rattle.session.specs.declared.edges.LineEdges.{LineEdges}
use Rattle.session.specs.declared.edges.Side.{Side}
use Rattle.session.specs.declared.edges.Side.TheVariants.{Before, After}
use Rattle.session.specs.declared.hits.Hit.{Hit}
use Rattle.session.specs.declared.offsets.Encoding.{Encoding}
use Rattle.session.specs.declared.reasons.CharReasons.{CharReasons}
use Rattle.session.specs.declared.offsets.Encoding.TheVariants.{Utf16, Utf8}
use Rattle.text_run.specs.declared.faults.RunFault.{RunFault}
use Rattle.text_run.specs.declared.faults.RunFault.TheVariants as f
use Rattle.script_commands.specs.declared.commands.Query.{Query}
use Rattle.script_commands.specs.declared.commands.Query.TheVariants as ask
use Rattle.tool.specs.Reasons.{reasons_text}

-- the numbers as text, with a space before each
abbrev pub listed : List ℕ → List ℕ
listed numbers = flat_map (λ n. codes " " ++ decimal n) numbers

-- the reply that consists of `=`, each of these numbers after a space, and a newline
abbrev pub numbers_answer : List ℕ → List ℕ
numbers_answer numbers = codes "=" ++ listed numbers ++ codes "\n"

-- the reply to a query for a position, a line or a range past the end
abbrev pub out_of_range : List ℕ
out_of_range = codes "! range\n"

abbrev pub optional_answer : Option (List ℕ) → List ℕ
optional_answer (Some numbers) = numbers_answer numbers
optional_answer None = out_of_range

-- the start of a reply that lists items: `=` and the number of items
abbrev pub count_answer : ℕ → List ℕ
count_answer count = codes "= " ++ decimal count

-- A reply that lists items: it begins with `count_answer`, and ends with a newline. Between these are the numbers of
-- each item, with a space before each number.
abbrev pub list_answer : {A : Type 0} → (A → List ℕ) → List A → List ℕ
list_answer numbers items = count_answer (length items) ++ flat_map (λ item. listed (numbers item)) items ++ codes "\n"

-- a side as a word; an edge as its position and its side, with a space before each
abbrev pub side_text : Side → List ℕ
side_text Before = codes "before"
side_text After = codes "after"

abbrev pub edge_text : Edge → List ℕ
edge_text edge = codes " " ++ decimal edge.pos ++ codes " " ++ side_text edge.side

-- the reply that consists of one edge, and the reply that consists of two edges
abbrev pub edge_answer : Edge → List ℕ
edge_answer edge = codes "=" ++ edge_text edge ++ codes "\n"

abbrev pub edges_answer : Edge → Edge → List ℕ
edges_answer first last = codes "=" ++ edge_text first ++ edge_text last ++ codes "\n"

-- the reply to `step` if the edge is at the end of its line in that direction
abbrev pub line_end_answer : List ℕ
line_end_answer = codes "= end\n"

-- the edge and the direction that the arguments of a query denote
abbrev pub edge_of : ℕ → Bool → Edge
edge_of pos is_after = record { pos = pos; side = if is_after then After else Before }

abbrev pub direction_of : Bool → Direction
direction_of is_right = if is_right then Right else Left

-- The number of columns of the screen to the left of a line's shown part. For a line that does not exist yet,
-- the number depends on the base level.
abbrev pub screen_left : Print → ℕ → Visual → ℕ
screen_left print width line = if print.nopad then 0 else padding_of width line

abbrev pub empty_left : Print → ℕ → ℕ → ℕ
empty_left print width level = if not print.nopad && is_odd level then width else 0

abbrev pub left_of : Print → ℕ → Option Visual → ℕ → ℕ
left_of print width (Some line) level = screen_left print width line
left_of print width None level = empty_left print width level

-- The hit at a column to the left of the shown part: the leftmost character of nonzero width, trailing if its
-- level is odd. In a line of width 0, the hit is the start of the line.
abbrev pub is_odd_at : Visual → Option ℕ → Bool
is_odd_at line (Some place) = is_odd (slice_index line.levels (slice_index line.vtol place))
is_odd_at line None = false

abbrev pub leftmost : Visual → Hit → Hit
leftmost line hit = record { pos = hit.pos; trailing = is_odd_at line (covering line 0) }

-- the numbers that a reply lists for a span: its columns on the screen, where the shown part starts at column
-- `left`; and for a run: its start, length and level
abbrev pub span_numbers : ℕ → Span → List ℕ
span_numbers left span = (left + span.left) ∷ (left + span.right) ∷ []

abbrev pub run_numbers : Run → List ℕ
run_numbers run = run.start ∷ run.len ∷ run.level ∷ []

-- ---- queries about a text laid out at a width

module _ (print : Print) (width : ℕ) (kept : List Layout) where
  -- the reply to `caret`: a line, a column of the screen and a level
  abbrev pub caret_numbers : Caret → List ℕ
  caret_numbers caret = caret.line ∷ (left_of print width (slice_get (lines_in kept) caret.line) caret.level + caret.column) ∷ caret.level ∷ []

  abbrev pub caret_text : Rules → ℕ → List ℕ
  caret_text rules pos = optional_answer (option_map caret_numbers (caret_at rules kept pos))

  -- the hit at a column of the screen, and the reply to `hit`: the position of the hit, and 1 if the hit is
  -- trailing, else 0
  abbrev pub screen_hit_on : ℕ → ℕ → Option Visual → Option Hit
  screen_hit_on n column (Some line) =
      if nat_lt column (screen_left print width line) then option_map (leftmost line) (hit_at kept n 0) else hit_at kept n (column - screen_left print width line)
  screen_hit_on n column None = None

  abbrev pub screen_hit : ℕ → ℕ → Option Hit
  screen_hit n column = screen_hit_on n column (slice_get (lines_in kept) n)

  abbrev pub hit_text : ℕ → ℕ → List ℕ
  hit_text n column = optional_answer (option_map (λ hit. hit.pos ∷ (if hit.trailing then 1 else 0) ∷ []) (screen_hit n column))

  -- the reply to `edge`: a line, a column of the screen and a level
  abbrev pub edge_caret_text : Rules → Edge → List ℕ
  edge_caret_text rules edge = optional_answer (option_map caret_numbers (edge_caret_at rules kept edge))

  -- The reply to `at`: the edge at a column of the screen. The columns of the padding count as the first column of the shown part.
  abbrev pub optional_edge : Option Edge → List ℕ
  optional_edge (Some edge) = edge_answer edge
  optional_edge None = out_of_range

  abbrev pub left_columns : Option Visual → ℕ
  left_columns (Some line) = screen_left print width line
  left_columns None = 0

  abbrev pub at_text : Rules → ℕ → ℕ → List ℕ
  at_text rules n column = optional_edge (edge_at rules kept n (column - left_columns (slice_get (lines_in kept) n)))

  -- the reply to `spans`: the columns of the screen that the characters from position `start` up to `end` cover in line n
  abbrev pub spans_on : ℕ → ℕ → Option ℕ → Option Visual → List ℕ
  spans_on start end (Some at) (Some line) = list_answer (span_numbers (screen_left print width line)) (spans_of line (start - at) (end - at))
  spans_on start end at line = out_of_range

  abbrev pub spans_text : ℕ → ℕ → ℕ → List ℕ
  spans_text n start end = spans_on start end (slice_get (line_starts kept) n) (slice_get (lines_in kept) n)

  -- the reply to `lines`: the number of lines that follow, and the lines
  abbrev pub lines_text : ℕ → ℕ → List ℕ
  lines_text first count =
      if nat_lt (length (lines_in kept)) (first + count) then out_of_range
      else numbers_answer (count ∷ []) ++ flat_map (line_bytes width print) (slice_range (lines_in kept) first (first + count))

-- the reply to `why`: the reasons for a character's level and break mark
abbrev pub why_by : Option CharReasons → List ℕ
why_by (Some reasons) = reasons_text reasons
why_by None = out_of_range

module _ (kept : List Layout) where
  abbrev pub why_text : Rules → ℕ → List ℕ
  why_text rules pos = why_by (reasons_at rules kept pos)

  abbrev pub cluster_text : ℕ → List ℕ
  cluster_text pos = optional_answer (option_map (λ cluster. cluster.start ∷ cluster.end ∷ []) (cluster_at kept pos))

  abbrev pub word_text : ℕ → List ℕ
  word_text pos = optional_answer (option_map (λ word. word.start ∷ word.end ∷ (if word.has_letter then 1 else 0) ∷ []) (word_at kept pos))

  -- the reply to `step`: the next edge, or `end` if the edge is at the end of the line in that direction
  abbrev pub step_by : Option Caret → Option Edge → List ℕ
  step_by None next = out_of_range
  step_by (Some caret) (Some next) = edge_answer next
  step_by (Some caret) None = line_end_answer

  abbrev pub step_text : Rules → Edge → Direction → List ℕ
  step_text rules edge direction = step_by (edge_caret_at rules kept edge) (step_at rules kept edge direction)

  -- the reply to `ends`: the first and the last edge of a line
  abbrev pub ends_by : Option LineEdges → List ℕ
  ends_by (Some edges) = edges_answer edges.first edges.last
  ends_by None = out_of_range

  abbrev pub ends_text : Rules → ℕ → List ℕ
  ends_text rules n = ends_by (line_edges rules kept n)

  -- the reply to `runs`: the level runs of a line, with positions counted from the start of the line
  abbrev pub runs_by : Option Visual → List ℕ
  runs_by (Some line) = list_answer run_numbers (runs_of line.levels)
  runs_by None = out_of_range

  abbrev pub runs_text : ℕ → List ℕ
  runs_text n = runs_by (slice_get (lines_in kept) n)

  -- the reply to `clusters`: where each cluster ends, counted from the start of the line
  abbrev pub clusters_by : Option (List ℕ) → List ℕ
  clusters_by (Some ends) = list_answer (λ end. end ∷ []) ends
  clusters_by None = out_of_range

  abbrev pub clusters_text : ℕ → List ℕ
  clusters_text n = clusters_by (line_clusters kept n)

  abbrev pub size_text : List ℕ
  size_text = numbers_answer (length (text_of kept) ∷ length (lines_in kept) ∷ length kept ∷ [])

  -- the replies to `byte` and `utf16`: an offset; and to `frombyte` and `fromutf16`: a position, and how many
  -- units of its character precede the offset
  abbrev pub offset_text : Encoding → ℕ → List ℕ
  offset_text encoding pos = optional_answer (option_map (λ offset. offset ∷ []) (offset_of encoding (text_of kept) pos))

  abbrev pub position_text : Encoding → ℕ → List ℕ
  position_text encoding offset = optional_answer (option_map (λ place. place.0 ∷ place.1 ∷ []) (position_of encoding (text_of kept) offset))

  -- the reply to `text`: the number of bytes that follow, the characters, and a newline
  abbrev pub part_text : ℕ → ℕ → List ℕ
  part_text pos count =
      if nat_lt (length (text_of kept)) (pos + count) then out_of_range
      else numbers_answer (length (utf8_part kept pos count) ∷ []) ++ utf8_part kept pos count ++ codes "\n"

abbrev pub query_text : Rules → Print → ℕ → List Layout → Query → List ℕ
query_text rules print width kept (ask.Lines first count) = lines_text print width kept first count
query_text rules print width kept (ask.Caret pos) = caret_text print width kept rules pos
query_text rules print width kept (ask.Hit n column) = hit_text print width kept n column
query_text rules print width kept (ask.Cluster pos) = cluster_text kept pos
query_text rules print width kept (ask.Word pos) = word_text kept pos
query_text rules print width kept ask.Size = size_text kept
query_text rules print width kept (ask.Text pos count) = part_text kept pos count
query_text rules print width kept (ask.Byte pos) = offset_text kept Utf8 pos
query_text rules print width kept (ask.Utf16 pos) = offset_text kept Utf16 pos
query_text rules print width kept (ask.FromByte byte) = position_text kept Utf8 byte
query_text rules print width kept (ask.FromUtf16 unit) = position_text kept Utf16 unit
query_text rules print width kept (ask.Edge pos is_after) = edge_caret_text print width kept rules (edge_of pos is_after)
query_text rules print width kept (ask.Step pos is_after is_right) = step_text kept rules (edge_of pos is_after) (direction_of is_right)
query_text rules print width kept (ask.At n column) = at_text print width kept rules n column
query_text rules print width kept (ask.Ends n) = ends_text kept rules n
query_text rules print width kept (ask.Spans n start end) = spans_text print width kept n start end
query_text rules print width kept (ask.Runs n) = runs_text kept n
query_text rules print width kept (ask.Clusters n) = clusters_text kept n
query_text rules print width kept (ask.Why pos) = why_text kept rules pos

-- Whether a query may allocate. `cluster`, `word` and `why` may allocate if the character exists, and `edge`
-- if the edge belongs to a character. `step` may allocate if the text has the edge and is not empty. `at` and
-- `clusters` may allocate if the line exists.
abbrev pub AsksMemory : List Layout → Query → Type 0
AsksMemory kept (ask.Cluster pos) = pos < length (text_of kept)
AsksMemory kept (ask.Word pos) = pos < length (text_of kept)
AsksMemory kept (ask.Edge pos is_after) = HasCharacter (length (text_of kept)) (edge_of pos is_after)
AsksMemory kept (ask.Step pos is_after is_right) =
    (is_edge_in (length (text_of kept)) (edge_of pos is_after) ≡ true) × (0 < length (text_of kept))
AsksMemory kept (ask.At n column) = n < length (lines_in kept)
AsksMemory kept (ask.Clusters n) = n < length (lines_in kept)
AsksMemory kept (ask.Why pos) = pos < length (text_of kept)
AsksMemory kept query = ⊥

-- a reply was not written completely: a write failed, or an allocation failed and nothing was written
abbrev pub AnswersNot : List ℕ → List Layout → Query → ℕ → Device → Device → RunFault → Type 0
AnswersNot answer kept query written old new (f.Write n) = StoppedIn answer written old new n
AnswersNot answer kept query written old new f.Memory = AsksMemory kept query × (new ≡ old)
AnswersNot answer kept query written old new fault = ⊥
