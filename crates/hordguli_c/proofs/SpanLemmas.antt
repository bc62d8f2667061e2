-- Bounds on the number of spans, and copying items to an array one after another.
use Rattle.std.proofs.Common.{◌≡◌, ℕ, zero, suc, add-one, ◌+◌, ◌<◌, ◌≤◌, ◌-◌, List, [], ◌∷◌, ◌++◌, length, drop, filter, refl, sym, ap, ap₂, ◌∙◌, arith, append-nil}
use Rattle.std.proofs.Math.Seq.{set-append_seam}
use Rattle.std.proofs.Math.ListN.{set}
use Rattle.std.proofs.lemmas.List.{append_assoc, length-append, length-map}
use Rattle.std.proofs.lemmas.List.FromFn.{length-range_with_len}
use Rattle.std.proofs.lemmas.List.Sums.{count_by-le-length, length-filter}
use Rattle.std.specs.List.{range_with_len}
use Rattle.lines.specs.Columns.{columns_left}
use Rattle.lines.specs.Spans.{is_covered, is_left_edge, span_at, spans_from, spans_of}
use Rattle.lines.specs.Visual.{Visual}
use Rattle.lines.specs.declared.spans.Span.{Span}
use Rattle.hordguli_c.specs.Edges.{span_out, spans_out}

-- there are no more spans than columns
pub spans_few : (line : Visual) (from to : ℕ) → length (spans_out line from to) ≤ columns_left line (length line.vtol)
unfolding spans_from
spans_few line from to =
    let covered = is_covered line from to in
    let width = columns_left line (length line.vtol) in
    let columns = range_with_len 0 (width - 0) in
    let edges = filter (is_left_edge covered) columns in
    omega (
      arith,
      length-map (spans_of line from to) span_out,
      length-map edges (span_at covered width),
      length-filter (is_left_edge covered) columns,
      count_by-le-length (is_left_edge covered) columns,
      length-range_with_len 0 (width - 0),
    )

-- the first k items of `all` were copied to the front of the array, whose other elements are unchanged;
-- `rest` lists the remaining items
pub record IsPut {A : Type 0} (all array_old rest array : List A) (k : ℕ) : Type 0 where
  pub done : List A
  pub len : length done ≡ k
  pub items : done ++ rest ≡ all
  pub array_is : array ≡ done ++ drop k array_old

pub put_none : {A : Type 0} (all array : List A) → IsPut all array all array 0
put_none all array = record { done = []; len = refl; items = refl; array_is = refl }

pub put_all : {A : Type 0} (all array_old array : List A) (k : ℕ) → IsPut all array_old [] array k → array ≡ all ++ drop (length all) array_old
put_all all array_old array k put =
    let same : put.done ≡ all = sym (append-nil put.done) ∙ put.items in
    let n : k ≡ length all = sym put.len ∙ ap length same in
    put.array_is ∙ ap₂ (λ (xs : List _) (i : ℕ). xs ++ drop i array_old) same n

pub put_within : {A : Type 0} (all array_old array rest : List A) (x : A) (k : ℕ) → length all ≤ length array_old
    → IsPut all array_old (x ∷ rest) array k → k < length array_old
put_within all array_old array rest x k fits put =
    omega (arith, fits, put.len, length-append put.done (x ∷ rest), ap length put.items)

-- the suffix of a list from index k on is the item at k, followed by the suffix from index k + 1 on
uncons : {A : Type 0} (xs : List A) (k : ℕ) → k < length xs → (y : A) × (drop k xs ≡ y ∷ drop (k + 1) xs)
uncons [] k within = absurd (omega arith)
uncons (x ∷ xs) zero within = (x, refl)
uncons (x ∷ xs) (suc k) within = let later = uncons xs k (omega (arith, within)) in (later.0, rw add-one (rw add-one at later.1))

pub put_next : {A : Type 0} (all array_old array rest : List A) (x : A) (k : ℕ) → k < length array_old
    → IsPut all array_old (x ∷ rest) array k → IsPut all array_old rest (set array k x) (k + 1)
put_next all array_old array rest x k within put =
    let at = uncons array_old k within in
    record {
      done = put.done ++ x ∷ [];
      len = length-append put.done (x ∷ []) ∙ ap (λ n. n + 1) put.len;
      items = append_assoc put.done (x ∷ []) rest ∙ put.items;
      array_is =
          ap (λ t. set t k x) (put.array_is ∙ ap (λ t. put.done ++ t) at.1)
          ∙ ap (λ i. set (put.done ++ at.0 ∷ drop (k + 1) array_old) i x) (sym put.len)
          ∙ set-append_seam put.done at.0 (drop (k + 1) array_old) x
          ∙ sym (append_assoc put.done (x ∷ []) (drop (k + 1) array_old));
    }

-- `spans_out` has one item for each span that a new iterator yields
pub length-out : (line : Visual) (from to : ℕ) (spans : List Span) → spans ≡ spans_of line from to
    → length spans ≡ length (spans_out line from to)
length-out line from to spans is = ap (λ (s : List Span). length s) is ∙ sym (length-map (spans_of line from to) span_out)
