-- The paragraphs of a text after an edit: those of the edited region replace the touched ones, and all others
-- are unchanged.
use Rattle.std.proofs.Common.{◌≡◌, ℕ, ◌+◌, ◌-◌, ◌≤◌, Bool, true, List, ◌++◌, length, take, drop, sym, ap, subst, ◌∙◌, arith}
use Rattle.std.specs.List.{concat, slice_range}
use Rattle.std.proofs.lemmas.List.{length-append, take-append-drop}
use Rattle.std.proofs.lemmas.List.Folds.{concat-append, drop_split}
use Rattle.bidi.specs.Cuts.{paragraphs}
use Rattle.bidi.specs.Pieces.{ArePieces, ParagraphsArePieces}
use Rattle.session.specs.Edits.{replaced, replacing, are_within, is_within_limit}
use Rattle.session.specs.Touched.{AreTouched, region_edit, Span}
use Rattle.session.specs.Touched.{start_of, first_touched, touched_count, fresh}
use Rattle.session.proofs.SpliceLemmas.{paragraphs-splice, replaced-middle, first-replaced, last-replaced, length-replaced, are_within-splice}

-- the text that replaces the touched paragraphs
abbrev pub region_of : List (List ℕ) → Span → ℕ → ℕ → List ℕ → List ℕ
region_of pars touched pos end piece =
    replaced (concat (slice_range pars touched.first touched.end)) (region_edit (pos - touched.start) (end - touched.start) piece)

pub record IsSpliced (is_cut : ℕ → ℕ → Bool) (pars : List (List ℕ)) (pos count : ℕ) (piece : List ℕ) (touched : Span) : Type 0 where
  pub order : pos - touched.start ≤ pos + count - touched.start
  pub reach : pos + count - touched.start ≤ length (concat (slice_range pars touched.first touched.end))
  pub text : replaced (concat pars) (replacing pos count piece) ≡ concat (take touched.first pars) ++ (region_of pars touched pos (pos + count) piece ++ concat (drop touched.end pars))
  pub pieces : paragraphs is_cut (replaced (concat pars) (replacing pos count piece)) ≡ take touched.first pars
      ++ (paragraphs is_cut (region_of pars touched pos (pos + count) piece) ++ drop touched.end pars)
  pub first : touched.first ≡ first_touched pars (replacing pos count piece)
  pub number : touched.end ≡ touched.first + touched_count pars (replacing pos count piece)
  pub size : length (region_of pars touched pos (pos + count) piece) ≡ fresh pars (replacing pos count piece)
  pub limit : are_within pars ≡ true → is_within_limit is_cut (replaced (concat pars) (replacing pos count piece)) ≡ is_within_limit is_cut (region_of pars touched pos (pos + count) piece)

pub length-replaced_text : (text piece : List ℕ) (pos count : ℕ) → pos + count ≤ length text → length (replaced text (replacing pos count piece)) ≡ length text - count + length piece
length-replaced_text = length-replaced

-- an edit of the concatenated paragraphs changes only the touched ones
pub spliced_text : (pars : List (List ℕ)) (pos count : ℕ) (piece : List ℕ) (touched : Span) → pos + count ≤ length (concat pars) → AreTouched pars pos (pos + count) touched
    → replaced (concat pars) (replacing pos count piece) ≡ concat (take touched.first pars) ++ (region_of pars touched pos (pos + count) piece ++ concat (drop touched.end pars))
spliced_text pars pos count piece touched within t =
    let left = take touched.first pars in
    let mid = slice_range pars touched.first touched.end in
    let right = drop touched.end pars in
    let from = pos - touched.start in
    let rise : touched.first ≤ touched.end = omega (arith, t.count) in
    let rest : drop touched.first pars ≡ mid ++ right = drop_split pars touched.first touched.end rise in
    let split : pars ≡ left ++ (mid ++ right) = sym (take-append-drop touched.first pars) ∙ ap (λ ps. left ++ ps) rest in
    let joined : concat pars ≡ concat left ++ (concat mid ++ concat right) =
    ap concat split ∙ concat-append left (mid ++ right) ∙ ap (λ cs. concat left ++ cs) (concat-append mid right) in
    let total : length (concat pars) ≡ length (concat left) + (length (concat mid) + length (concat right)) =
    ap length joined ∙ length-append (concat left) (concat mid ++ concat right) ∙ ap (λ n. length (concat left) + n) (length-append (concat mid) (concat right)) in
    let end_split : length (concat pars) ≡ start_of pars touched.end + length (concat right) =
    ap (λ ps. length (concat ps)) (sym (take-append-drop touched.end pars)) ∙ ap length (concat-append (take touched.end pars) right) ∙ length-append (concat (take touched.end pars)) (concat right) in
    let n : pos + count - touched.start - from ≡ count = omega (arith, t.before) in
    let place : length (concat left) + from ≡ pos = omega (arith, t.start, t.before) in
    let reach : from + count ≤ length (concat mid) = omega (arith, t.start, t.stop, t.before, t.after) in
    let region_is : region_of pars touched pos (pos + count) piece ≡ replaced (concat mid) (replacing from count piece) =
    ap (λ m. replaced (concat mid) (replacing from m piece)) n in
    ap (λ cs. replaced cs (replacing pos count piece)) joined
    ∙ ap (λ p. replaced (concat left ++ (concat mid ++ concat right)) (replacing p count piece)) (sym place)
    ∙ replaced-middle (concat left) (concat mid) (concat right) piece from count reach
    ∙ ap (λ r. concat left ++ (r ++ concat right)) (sym region_is)

pub IsSpliced-from_touched : ParagraphsArePieces → (is_cut : ℕ → ℕ → Bool) (pars : List (List ℕ)) (pos count : ℕ) (piece : List ℕ) (touched : Span)
    → paragraphs is_cut (concat pars) ≡ pars → pos + count ≤ length (concat pars) → AreTouched pars pos (pos + count) touched → IsSpliced is_cut pars pos count piece touched
IsSpliced-from_touched law is_cut pars pos count piece touched whole within t =
    let left = take touched.first pars in
    let mid = slice_range pars touched.first touched.end in
    let right = drop touched.end pars in
    let from = pos - touched.start in
    let rise : touched.first ≤ touched.end = omega (arith, t.count) in
    let rest : drop touched.first pars ≡ mid ++ right = drop_split pars touched.first touched.end rise in
    let split : pars ≡ left ++ (mid ++ right) = sym (take-append-drop touched.first pars) ∙ ap (λ ps. left ++ ps) rest in
    let joined : concat pars ≡ concat left ++ (concat mid ++ concat right) =
    ap concat split ∙ concat-append left (mid ++ right) ∙ ap (λ cs. concat left ++ cs) (concat-append mid right) in
    let total : length (concat pars) ≡ length (concat left) + (length (concat mid) + length (concat right)) =
    ap length joined ∙ length-append (concat left) (concat mid ++ concat right) ∙ ap (λ n. length (concat left) + n) (length-append (concat mid) (concat right)) in
    let end_split : length (concat pars) ≡ start_of pars touched.end + length (concat right) =
    ap (λ ps. length (concat ps)) (sym (take-append-drop touched.end pars)) ∙ ap length (concat-append (take touched.end pars) right) ∙ length-append (concat (take touched.end pars)) (concat right) in
    let n : pos + count - touched.start - from ≡ count = omega (arith, t.before) in
    let place : length (concat left) + from ≡ pos = omega (arith, t.start, t.before) in
    let reach : from + count ≤ length (concat mid) = omega (arith, t.start, t.stop, t.before, t.after) in
    let region_is : region_of pars touched pos (pos + count) piece ≡ replaced (concat mid) (replacing from count piece) =
    ap (λ m. replaced (concat mid) (replacing from m piece)) n in
    let text : replaced (concat pars) (replacing pos count piece) ≡ concat left ++ (replaced (concat mid) (replacing from count piece) ++ concat right) =
    spliced_text pars pos count piece touched within t ∙ ap (λ r. concat left ++ (r ++ concat right)) region_is in
    let old : ArePieces is_cut (left ++ (mid ++ right)) = subst (ArePieces is_cut) (whole ∙ split) (law.pieces is_cut (concat pars)) in
    let pieces : paragraphs is_cut (replaced (concat pars) (replacing pos count piece)) ≡ left ++ (paragraphs is_cut (replaced (concat mid) (replacing from count piece)) ++ right) =
    ap (paragraphs is_cut) text
    ∙ paragraphs-splice is_cut law left mid right (replaced (concat mid) (replacing from count piece)) old
    (λ some. first-replaced (concat mid) piece from count (omega (arith, t.start, t.before_strictly)) reach)
    (λ some. last-replaced (concat mid) piece from count (omega (arith, t.start, t.stop, t.before, t.after_strictly))) in
    let gap : pos + count - pos ≡ count = omega arith in
    let first : touched.first ≡ first_touched pars (replacing pos count piece) = t.first ∙ ap (λ m. first_touched pars (replacing pos m piece)) gap in
    let size : length (replaced (concat mid) (replacing from count piece)) ≡ length (concat mid) - count + length piece = length-replaced (concat mid) piece from count reach in
    let counted : touched.end ≡ touched.first + touched_count pars (replacing pos count piece) = t.count ∙ ap (λ m. touched.first + touched_count pars (replacing pos m piece)) gap in
    let slice : mid ≡ slice_range pars (first_touched pars (replacing pos count piece)) (first_touched pars (replacing pos count piece) + touched_count pars (replacing pos count piece)) =
    ap (λ e. slice_range pars touched.first e) counted ∙ ap (λ f. slice_range pars f (f + touched_count pars (replacing pos count piece))) first in
    record {
      order = omega arith;
      reach = omega (arith, t.before);
      text = rw region_is text;
      pieces = rw region_is pieces;
      first = first;
      number = counted;
      size = rw region_is (size ∙ ap (λ ps. length (concat ps) - count + length piece) slice);
      limit = λ few. ap are_within pieces
          ∙ are_within-splice left mid right (paragraphs is_cut (replaced (concat mid) (replacing from count piece)))
          (rw split at few) ∙ ap (is_within_limit is_cut) (sym region_is);
    }
