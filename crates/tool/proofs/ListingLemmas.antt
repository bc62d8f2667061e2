-- Writing the items of a reply one after another, and upper bounds on the number of items.
use Rattle.std.proofs.Common.{◌≡◌, ℕ, ◌-◌, ◌<◌, ◌≤◌, Bool, List, [], ◌∷◌, ◌++◌, length, filter, Result, IfErr, sym, subst, ap, ◌∙◌, arith, append-nil}
use Rattle.std.specs.List.{flat_map, range_with_len}
use Rattle.std.proofs.lemmas.Grind.{flat_map-append}
use Rattle.std.proofs.lemmas.List.{append_assoc, length-map}
use Rattle.std.proofs.lemmas.List.Elements.{All-head, All-tail}
use Rattle.std.specs.Prelude.{All}
use Rattle.std.proofs.lemmas.List.FromFn.{length-range_with_len}
use Rattle.std.proofs.lemmas.List.Sums.{count_by-le-length, length-filter}
use Rattle.device.specs.Device.{Device}
use Rattle.lines.specs.Columns.{columns_left}
use Rattle.lines.specs.Spans.{is_covered, is_left_edge, span_at, spans_from, spans_of, AreMaximal}
use Rattle.lines.specs.declared.spans.Span.{Span}
use Rattle.lines.specs.Visual.{Visual}
use Rattle.lines.specs.Writing.{PassedOn}
use Rattle.lines.proofs.WriteLemmas.{passed-append}
use Rattle.reorder.proofs.OrderLemmas.{length-order}
use Rattle.reorder.specs.Order.{order_of}
use Rattle.reorder.specs.Runs.{begins_run, run_from, runs_of}
use Rattle.text_run.specs.declared.faults.RunFault.{RunFault}
use Rattle.tool.specs.Reading.{Stops}
use Rattle.tool.proofs.QueryLemmas.{each_stops-after, stops-after, stops-before}

-- the bytes of each item
module _ {A : Type 0} (piece : A → List ℕ) where
  -- the items before `rest` were written
  pub record AreWritten (all rest : List A) (before : ℕ) (old new : Device) (n : ℕ) : Type 0 where
    pub done : List A
    pub items : done ++ rest ≡ all
    pub wrote : PassedOn (flat_map piece done) before old new n

  module _ {all rest : List A} {x : A} {before n : ℕ} {old mid : Device} (front : AreWritten all (x ∷ rest) before old mid n) where
    -- one more item was written
    pub written-next : {new : Device} {m : ℕ} → PassedOn (piece x) n mid new m → AreWritten all rest before old new m
    written-next next =
        let more : flat_map piece (front.done ++ x ∷ []) ≡ flat_map piece front.done ++ piece x =
        flat_map-append piece front.done (x ∷ []) ∙ ap (λ (t : List ℕ). flat_map piece front.done ++ t) (append-nil (piece x)) in
        record {
          done = front.done ++ x ∷ [];
          items = append_assoc front.done (x ∷ []) rest ∙ front.items;
          wrote = rw more (passed-append front.wrote next);
        }

    -- a write failed within the next item
    pub written-stops : (new : Device) (fault : RunFault) → Stops (piece x) n mid new fault → Stops (flat_map piece all) before old new fault
    written-stops new fault stopped =
        let whole : flat_map piece all ≡ flat_map piece front.done ++ (piece x ++ flat_map piece rest) =
        ap (flat_map piece) (sym front.items) ∙ flat_map-append piece front.done (x ∷ rest) in
        rw whole (stops-after old mid new (flat_map piece front.done) (piece x ++ flat_map piece rest) before n fault front.wrote (stops-before mid new (piece x) (flat_map piece rest) n fault stopped))

  pub written-all : {all : List A} {before n : ℕ} {old new : Device} → AreWritten all [] before old new n → PassedOn (flat_map piece all) before old new n
  written-all {all = all} front =
      let whole : all ≡ front.done = sym front.items ∙ append-nil front.done in
      rw whole front.wrote

-- a reply of three parts: the front, the items and the end
module _ (old first : Device) (xs ys zs : List ℕ) (before n : ℕ) where
  -- a write failed within the front
  pub front-stops : (fault : RunFault) → Stops xs before old first fault → Stops (xs ++ ys ++ zs) before old first fault
  front-stops fault stopped = stops-before old first (xs ++ ys) zs before fault (stops-before old first xs ys before fault stopped)

  module _ (front : PassedOn xs before old first n) (second : Device) where
    -- a write failed within the items
    pub items-stop : (fault : RunFault) → Stops ys n first second fault → Stops (xs ++ ys ++ zs) before old second fault
    items-stop fault stopped = stops-before old second (xs ++ ys) zs before fault (stops-after old first second xs ys before n fault front stopped)

    -- a write failed within the end
    pub end-stops : (m : ℕ) → PassedOn ys n first second m → (new : Device) (r : Result ℕ RunFault) → IfErr r (Stops zs m second new)
        → IfErr r (Stops (xs ++ ys ++ zs) before old new)
    end-stops m items new r stops = each_stops-after old second new (xs ++ ys) zs before m r (passed-append front items) stops

-- there are no more spans than columns
pub spans_few : (line : Visual) (start end : ℕ) → length (spans_of line start end) ≤ columns_left line (length line.vtol)
unfolding spans_from
spans_few line start end =
    let covered = is_covered line start end in
    let width = columns_left line (length line.vtol) in
    let columns = range_with_len 0 (width - 0) in
    let edges = filter (is_left_edge covered) columns in
    omega (
      arith,
      length-map edges (span_at covered width),
      length-filter (is_left_edge covered) columns,
      count_by-le-length (is_left_edge covered) columns,
      length-range_with_len 0 (width - 0),
    )

-- there are no more runs than characters
pub runs_few : (levels : List ℕ) → length (runs_of levels) ≤ length levels
unfolding runs_of
runs_few levels =
    let order = order_of levels in
    omega (
      arith,
      length-map (filter (begins_run levels) order) (run_from levels),
      length-filter (begins_run levels) order,
      count_by-le-length (begins_run levels) order,
      length-order levels,
    )

-- a property that holds for all items of a list holds for all items of a suffix
all-after : {A : Type 0} (P : A → Type 0) (done rest : List A) → All P (done ++ rest) → All P rest
all-after P [] rest all = all
all-after P (x ∷ done) rest all = all-after P done rest (All-tail P x (done ++ rest) all)

-- the next span has at least one column, and is within the line
pub next-within : (is_covered : ℕ → Bool) (width : ℕ) (all done rest : List Span) (span : Span) → AreMaximal is_covered width all → done ++ span ∷ rest ≡ all
    → (span.left < span.right) × (span.right ≤ width)
next-within is_covered width all done rest span are is = (
  All-head (λ (s : Span). s.left < s.right) span rest (all-after (λ (s : Span). s.left < s.right) done (span ∷ rest) (subst (All (λ (s : Span). s.left < s.right)) (sym is) are.some)),
  All-head (λ (s : Span). s.right ≤ width) span rest (all-after (λ (s : Span). s.right ≤ width) done (span ∷ rest) (subst (All (λ (s : Span). s.right ≤ width)) (sym is) are.within)),
)
