-- The levels of all sequences, found run by run.
use Rattle.std.proofs.Common.{◌≡◌, ◌≢◌, ℕ, ◌-◌, ◌<◌, ◌≤◌, nat_lt, ◌==◌, Bool, true, false, ◌&&◌, ◌||◌, not, List, [], ◌∷◌, length, set, get_or, slice_index, fold, Option, Some, None, if◌then◌else◌, refl, sym, ap, ◌∙◌, inl, inr, arith}
use Rattle.std.specs.List.{list_any, range_with_len}
use Rattle.std.proofs.lemmas.Bool.{cond-true, cond-false, cases_Bool, cases_eq, eq-eqb, ne_eqb, and_from, not_from_false, lt-ltb, or_left}
use Rattle.std.proofs.lemmas.List.{get_or-set_same, get_or-set_other, length-set}
use Rattle.ucd.specs.declared.bidi_class.BidiClass.{BidiClass}
use Rattle.ucd.specs.declared.bracket.Bracket.{Bracket}
use Rattle.bidi.specs.Base.{match_of}
use Rattle.ucd.specs.Classes.{class_at, is_initiator}
use Rattle.bidi.specs.Isolates.{match_at}
use Rattle.bidi.specs.Levels.{put, levels_in, resolved}
use Rattle.bidi.specs.Runs.{IsRunEnd, runs_from, sequence_at, next_start, flagged, joined_first}
use Rattle.bidi.specs.Cuts.{paragraphs}
use Rattle.bidi.specs.Sequences.{changes, runs, first_of, last_of, is_match, continues_in, joined, sequences_from}
use Rattle.bidi.proofs.RunLemmas.{continues-match_at, next_start-within, runs_from-run, runs_from-end, first_of-range, last_of-range}

-- writing values at some indices keeps the length of the list
pub length-put : (levels places values : List ℕ) → length (put levels places values) ≡ length levels
length-put levels [] values = refl
length-put levels (place ∷ places) [] = refl
length-put levels (place ∷ places) (value ∷ values) = length-put (set levels place value) places values ∙ length-set levels place value

-- whether one of the earlier runs continues in the run that begins at j
abbrev pub continued_at : List BidiClass → List (List ℕ) → ℕ → Bool
continued_at classes earlier j = list_any (λ run. is_initiator (class_at classes (last_of run)) && is_match (match_of classes (last_of run)) j) earlier

-- A pass over the level runs that adds one sequence after the other to its result. Adding a sequence does not
-- change the `size` of the result.
module _ {D : Type 0} (add : D → List ℕ → D) (size : D → ℕ) (keeps : (done : D) (sequence : List ℕ) → size (add done sequence) ≡ size done)
    (none all : D) (classes : List BidiClass) (levels : List ℕ) where
  -- The state of the pass at the run that begins at `start`. `flags` is set at the start of each run in which an
  -- earlier run continues. Adding the sequences that begin at `start` or later completes `done`.
  pub record Adds (start : ℕ) (flags : List Bool) (done : D) : Type 0 where
    pub earlier : List (List ℕ)
    pub edge : 0 < start → start < length levels → slice_index levels (start - 1) ≢ slice_index levels start
    pub sized : size done ≡ size none
    pub flags_len : length flags ≡ length levels
    pub flags_are : (j : ℕ) → j < length levels → (0 < j → slice_index levels (j - 1) ≢ slice_index levels j) → get_or flags j false ≡ continued_at classes earlier j
    pub whole : fold add done (sequences_from classes earlier (runs_from levels start)) ≡ all

  pub Adds-start : fold add none (sequences_from classes [] (runs levels)) ≡ all → (flags : List Bool) → length flags ≡ length levels
      → ((j : ℕ) → j < length levels → get_or flags j false ≡ false) → Adds 0 flags none
  Adds-start is flags size clear = record {
    earlier = [];
    edge = λ h. absurd (omega arith);
    sized = refl;
    flags_len = size;
    flags_are = λ j within start. clear j within;
    whole = let size : length levels - 0 ≡ length levels = omega arith in
        ap (λ n. fold add none (sequences_from classes [] (paragraphs (changes levels) (range_with_len 0 n)))) size ∙ is;
  }

  -- The pass moves on by one run. It adds the sequence that begins with the run, unless an earlier run
  -- continues in it. It flags the run in which the run continues, if there is one.
  pub Adds-next : (sizes : length classes ≡ length levels) (start end : ℕ) (flags after : List Bool) (done next : D) → IsRunEnd levels start end → (now : Adds start flags done)
      → next ≡ (if get_or flags start false then done else add done (sequence_at classes levels start)) → length after ≡ length levels
      → ((j : ℕ) → j < length levels → (0 < j → slice_index levels (j - 1) ≢ slice_index levels j) → get_or after j false ≡ ((match_at classes (end - 1) == j) || get_or flags j false))
      → Adds end after next
  Adds-next sizes start end flags after done next run now written flags_len flagged =
      let above = run.above in
      let within = run.within in
      let first = range_with_len start (end - start) in
      let begins : first_of first ≡ start = first_of-range start end above in
      let ends : last_of first ≡ end - 1 = last_of-range start end above in
      let later = runs_from levels end in
      let rest = sequences_from classes (first ∷ now.earlier) later in
      let test = list_any (λ before. continues_in classes before first) now.earlier in
      let is_flagged : test ≡ get_or flags start false =
      ap (λ j. list_any (λ before. is_initiator (class_at classes (last_of before)) && is_match (match_of classes (last_of before)) j) now.earlier) begins
      ∙ sym (now.flags_are start (omega arith) (λ some. now.edge some (omega arith))) in
      let split : sequences_from classes now.earlier (runs_from levels start)
      ≡ (if test then rest else joined classes first later ∷ rest) =
      ap (sequences_from classes now.earlier) (runs_from-run levels start end run) in
      let here : sequence_at classes levels start ≡ joined classes first later = ap (joined_first classes) (runs_from-run levels start end run) in
      record {
        earlier = first ∷ now.earlier;
        edge = λ some inside. run.other inside;
        sized = elim (cases_Bool (get_or flags start false)) [
          | inl skipped ↦ ap size (written ∙ cond-true (get_or flags start false) done (add done (sequence_at classes levels start)) skipped) ∙ now.sized
          | inr begun ↦ ap size (written ∙ cond-false (get_or flags start false) done (add done (sequence_at classes levels start)) begun)
              ∙ keeps done (sequence_at classes levels start) ∙ now.sized
        ];
        flags_len = flags_len;
        flags_are = λ j inside edge. flagged j inside edge
            ∙ ap (λ b. b || get_or flags j false) (sym (ap (λ l. is_initiator (class_at classes l) && is_match (match_of classes l) j) ends ∙ continues-match_at classes (end - 1) j (omega arith)))
            ∙ ap (λ b. (is_initiator (class_at classes (last_of first)) && is_match (match_of classes (last_of first)) j) || b) (now.flags_are j inside edge);
        whole = elim (cases_Bool (get_or flags start false)) [
          | inl skipped ↦
              ap (λ xs. fold add xs rest) (written ∙ cond-true (get_or flags start false) done (add done (sequence_at classes levels start)) skipped)
              ∙ ap (fold add done) (sym (split ∙ cond-true test rest (joined classes first later ∷ rest) (is_flagged ∙ skipped)))
              ∙ now.whole
          | inr begun ↦
              ap (λ xs. fold add xs rest) (written ∙ cond-false (get_or flags start false) done (add done (sequence_at classes levels start)) begun ∙ ap (add done) here)
              ∙ ap (fold add done) (sym (split ∙ cond-false test rest (joined classes first later ∷ rest) (is_flagged ∙ begun)))
              ∙ now.whole
        ];
      }

  pub Adds-end : (start : ℕ) (flags : List Bool) (done : D) → length levels ≤ start → Adds start flags done → done ≡ all
  Adds-end start flags done past now = ap (λ runs. fold add done (sequences_from classes now.earlier runs)) (sym (runs_from-end levels start past)) ∙ now.whole

module _ (bracket_of : ℕ → Option Bracket) (base : ℕ) (characters : List ℕ) (classes : List BidiClass) (levels : List ℕ) (types : List BidiClass) where
  -- the levels `done`, after the levels of one more sequence have been written into them
  abbrev pub write : List ℕ → List ℕ → List ℕ
  write done sequence = put done sequence (levels_in bracket_of base characters classes levels types sequence)

  pub kept_by : (done sequence : List ℕ) → length (write done sequence) ≡ length done
  kept_by done sequence = length-put done sequence (levels_in bracket_of base characters classes levels types sequence)

  -- the pass that writes levels
  abbrev pub Resolves : ℕ → List Bool → List ℕ → Type 0
  Resolves start flags done = Adds write (λ xs. length xs) kept_by levels (resolved bracket_of base characters classes levels types) classes levels start flags done

  pub Resolves-start : (flags : List Bool) → length flags ≡ length levels → ((j : ℕ) → j < length levels → get_or flags j false ≡ false) → Resolves 0 flags levels
  Resolves-start = Adds-start write (λ xs. length xs) kept_by levels (resolved bracket_of base characters classes levels types) classes levels refl

  pub Resolves-next : (sizes : length classes ≡ length levels) (start end : ℕ) (flags after : List Bool) (done next : List ℕ) → IsRunEnd levels start end → (now : Resolves start flags done)
      → next ≡ (if get_or flags start false then done else write done (sequence_at classes levels start)) → length after ≡ length levels
      → ((j : ℕ) → j < length levels → (0 < j → slice_index levels (j - 1) ≢ slice_index levels j) → get_or after j false ≡ ((match_at classes (end - 1) == j) || get_or flags j false))
      → Resolves end after next
  Resolves-next = Adds-next write (λ xs. length xs) kept_by levels (resolved bracket_of base characters classes levels types) classes levels

  -- at the end of the runs, all levels have been written
  pub Resolves-end : (start : ℕ) (flags : List Bool) (done : List ℕ) → length levels ≤ start → Resolves start flags done → done ≡ resolved bracket_of base characters classes levels types
  Resolves-end = Adds-end write (λ xs. length xs) kept_by levels (resolved bracket_of base characters classes levels types) classes levels

-- The pass flags the run in which a run continues. If the run is the last of its sequence, the pass sets no
-- flag.
flagged_some : (levels : List ℕ) (m next j : ℕ) (flags : List Bool) → next_start levels m ≡ Some next → length flags ≡ length levels → j < length levels
    → get_or (set flags next true) j false ≡ ((m == j) || get_or flags j false)
flagged_some levels m next j flags e size within =
    let at = next_start-within levels m next e in
    elim (cases_eq j next) [
      | inl same ↦
          let inside : next < length flags = omega (arith, at.1) in
          rw (same, get_or-set_same) (sym (or_left (m == next) (get_or flags next false) (eq-eqb m next (sym at.0))))
      | inr ne ↦ rw get_or-set_other (sym (ap (λ b. b || get_or flags j false) (ne_eqb m j (λ same. ne (sym same ∙ sym at.0)))))
    ]

flagged_none : (levels : List ℕ) (m j : ℕ) (flags : List Bool) → next_start levels m ≡ None → 0 < m → j < length levels → (0 < j → slice_index levels (j - 1) ≢ slice_index levels j)
    → get_or flags j false ≡ ((m == j) || get_or flags j false)
flagged_none levels m j flags e some within edge =
    elim (cases_eq m j) [
      | inr ne ↦ sym (ap (λ b. b || get_or flags j false) (ne_eqb m j ne))
      | inl same ↦
          let inside : m < length levels = omega arith in
          let changed : slice_index levels m ≢ slice_index levels (m - 1) = rw same (λ (level : slice_index levels j ≡ slice_index levels (j - 1)). edge (omega arith) (sym level)) in
          let found : next_start levels m ≡ Some m =
          cond-true (nat_lt m (length levels) && not (slice_index levels m == slice_index levels (m - 1))) (Some m) None
          (and_from (nat_lt m (length levels)) (not (slice_index levels m == slice_index levels (m - 1))) (lt-ltb m (length levels) inside)
          (not_from_false (slice_index levels m == slice_index levels (m - 1)) (ne_eqb (slice_index levels m) (slice_index levels (m - 1)) changed))) in
          let clash : Some m ≡ None = sym found ∙ e in
          absurd (cc)
    ]

pub flagged-is : (levels : List ℕ) (m j : ℕ) (flags : List Bool) (next : Option ℕ) → next ≡ next_start levels m
    → length flags ≡ length levels → 0 < m → j < length levels
    → (0 < j → slice_index levels (j - 1) ≢ slice_index levels j)
    → get_or (flagged flags next) j false ≡ ((m == j) || get_or flags j false)
flagged-is levels m j flags None e size some within edge = flagged_none levels m j flags (sym e) some within edge
flagged-is levels m j flags (Some next) e size some within edge = flagged_some levels m next j flags (sym e) size within

pub length-flagged : (flags : List Bool) (next : Option ℕ) → length (flagged flags next) ≡ length flags
length-flagged flags None = refl
length-flagged flags (Some next) = length-set flags next true
