-- No level of a paragraph is below the paragraph level.
use Rattle.std.proofs.Common.{◌≡◌, ℕ, zero, suc, ◌+◌, ◌-◌, ◌%◌, ◌<◌, ◌≤◌, nat_lt, Bool, true, false, ◌||◌, ◌&&◌, ◌==◌, List, [], ◌∷◌, ◌++◌, length, map, take, drop, fold, get_or, set, Option}
use Rattle.std.proofs.Common.{if◌then◌else◌, refl, sym, ap, subst, inl, inr, arith}
use Rattle.std.specs.List.{list_any, onto_first, range_with_len}
use Rattle.std.proofs.lemmas.Bool.{cases_Bool, cond-true, cond-false}
use Rattle.std.proofs.lemmas.Nat.{mod_below}
use Rattle.ucd.specs.Classes.{class_at, is_pdi, is_removed, is_separator}
use Rattle.ucd.specs.Tables.{bracket_of, class_of}
use Rattle.ucd.specs.declared.bidi_class.BidiClass.{BidiClass}
use Rattle.ucd.specs.declared.bracket.Bracket.{Bracket}
use Rattle.ucd.specs.declared.tables.Tables.{Tables}
use Rattle.bidi.specs.Base.{base_level_of}
use Rattle.bidi.specs.Cuts.{paragraphs}
use Rattle.bidi.specs.Explicit.{Inside, directed, inside, inside_at, level_above, level_at, open_chain, opens_odd, override_of, type_at}
use Rattle.bidi.specs.Levels.{levels_in, levels_of, put, put_back, resolved}
use Rattle.bidi.specs.Neutral.{implicit_level, rise_even, rise_odd}
use Rattle.bidi.specs.Sequences.{changes, continues_in, first_of, joined, runs, sequences, sequences_from, retained}
use Rattle.bidi.specs.declared.base.Base.{Base}
use Rattle.reorder.specs.Spaces.{ends_segment, is_blank, is_reset, line_levels}
use Rattle.ucd.specs.declared.bidi_class.BidiClass.TheVariants.{S}
use Rattle.lines.specs.Tabs.{is_segment_separator}

-- whether no number of a list is below `low`
abbrev pub Above : ℕ → List ℕ → Type 0
Above low [] = Unit {0}
Above low (x ∷ xs) = (low ≤ x) × Above low xs

pub above_at : (low : ℕ) (xs : List ℕ) (k : ℕ) → Above low xs → k < length xs → low ≤ get_or xs k 0
above_at low [] k above within = absurd (omega (arith, within))
above_at low (x ∷ xs) zero above within = above.0
above_at low (x ∷ xs) (suc k) above within = above_at low xs k above.1 (omega (arith, within))

-- ---- explicit levels

above_opener : (opener : BidiClass) (level : ℕ) → level ≤ level_above opener level
above_opener opener level =
    elim (cases_Bool (opens_odd opener)) [
      | inl odd ↦ subst (λ m. level ≤ m) (sym (cond-true (opens_odd opener) (level + 1 + level % 2) (level + 2 - level % 2) odd)) (omega arith)
      | inr even ↦ subst (λ m. level ≤ m) (sym (cond-false (opens_odd opener) (level + 1 + level % 2) (level + 2 - level % 2) even)) (omega (arith, mod_below level 2 (omega arith)))
    ]

inside_above : (base : ℕ) (openers : List BidiClass) → base ≤ (inside base openers).level
inside_above base [] = omega arith
inside_above base (opener ∷ outer) =
    let o : Inside = inside base outer in
    let void : Inside = record o { is_void = true } in
    let next : Inside = record { level = level_above opener o.level; override = override_of opener; is_void = false } in
    let full : Bool = o.is_void || nat_lt 125 (level_above opener o.level) in
    elim (cases_Bool full) [
      | inl on ↦ subst (λ (s : Inside). base ≤ s.level) (sym (cond-true full void next on)) (inside_above base outer)
      | inr off ↦ subst (λ (s : Inside). base ≤ s.level) (sym (cond-false full void next off)) (omega (arith, inside_above base outer, above_opener opener o.level))
    ]

explicit_above : (base : ℕ) (classes : List BidiClass) (k : ℕ) → base ≤ level_at base classes k
explicit_above base classes k =
    let own : Bool = is_separator (class_at classes k) in
    elim (cases_Bool own) [
      | inl on ↦ subst (λ m. base ≤ m) (sym (cond-true own base (inside_at base classes k).level on)) (omega arith)
      | inr off ↦
          subst (λ m. base ≤ m) (sym (cond-false own base (inside_at base classes k).level off))
          (inside_above base (open_chain classes (if is_pdi (class_at classes k) then k + 1 else k)))
    ]

explicit_all : (base : ℕ) (classes : List BidiClass) (places : List ℕ) → Above base (map (level_at base classes) places)
explicit_all base classes [] = tt
explicit_all base classes (k ∷ places) = (explicit_above base classes k, explicit_all base classes places)

-- ---- implicit levels

implicit_above : (level : ℕ) (type : BidiClass) → level ≤ implicit_level level type
implicit_above level type =
    elim (cases_Bool (level % 2 == 0)) [
      | inl even ↦ subst (λ m. level ≤ m) (sym (cond-true (level % 2 == 0) (level + rise_even type) (level + rise_odd type) even)) (omega arith)
      | inr odd ↦ subst (λ m. level ≤ m) (sym (cond-false (level % 2 == 0) (level + rise_even type) (level + rise_odd type) odd)) (omega arith)
    ]

implicit_all : (low level : ℕ) (types : List BidiClass) → low ≤ level → Above low (map (implicit_level level) types)
implicit_all low level [] from = tt
implicit_all low level (type ∷ types) from = (omega (arith, from, implicit_above level type), implicit_all low level types from)

set_above : (low : ℕ) (xs : List ℕ) (k x : ℕ) → Above low xs → low ≤ x → Above low (set xs k x)
set_above low [] zero x above from = tt
set_above low [] (suc k) x above from = tt
set_above low (y ∷ xs) zero x above from = (from, above.1)
set_above low (y ∷ xs) (suc k) x above from = (above.0, set_above low xs k x above.1 from)

put_above : (low : ℕ) (levels places values : List ℕ) → Above low levels → Above low values → Above low (put levels places values)
put_above low levels [] values above new = above
put_above low levels (place ∷ places) [] above new = above
put_above low levels (place ∷ places) (value ∷ values) above new =
    put_above low (set levels place value) places values (set_above low levels place value above new.0) new.1

-- ---- sequences

-- whether a sequence begins with a number below n, and whether all sequences do
abbrev Begins : ℕ → List ℕ → Type 0
Begins n run = (0 < length run) × (get_or run 0 0 < n)

abbrev AllBegin : ℕ → List (List ℕ) → Type 0
AllBegin n [] = Unit {0}
AllBegin n (run ∷ runs) = Begins n run × AllBegin n runs

abbrev AllBelow : ℕ → List ℕ → Type 0
AllBelow n [] = Unit {0}
AllBelow n (x ∷ xs) = (x < n) × AllBelow n xs

range_below : (n a m : ℕ) → a + m ≤ n → AllBelow n (range_with_len a m)
range_below n a zero within = tt
range_below n a (suc m) within = (omega (arith, within), range_below n (a + 1) m (omega (arith, within)))

onto_begins : (n a : ℕ) (runs : List (List ℕ)) → a < n → AllBegin n runs → AllBegin n (onto_first a runs)
onto_begins n a [] below all = ((omega arith, below), tt)
onto_begins n a (run ∷ runs) below all = ((omega arith, below), all.1)

parts_begin : (is_cut : ℕ → ℕ → Bool) (n : ℕ) (xs : List ℕ) → AllBelow n xs → AllBegin n (paragraphs is_cut xs)
parts_begin is_cut n [] below = tt
parts_begin is_cut n (a ∷ []) below = ((omega arith, below.0), tt)
parts_begin is_cut n (a ∷ b ∷ xs) below =
    let rest : List (List ℕ) = paragraphs is_cut (b ∷ xs) in
    let all : AllBegin n rest = parts_begin is_cut n (b ∷ xs) below.1 in
    elim (cases_Bool (is_cut a b)) [
      | inl on ↦ subst (AllBegin n) (sym (cond-true (is_cut a b) ((a ∷ []) ∷ rest) (onto_first a rest) on)) ((omega arith, below.0), all)
      | inr off ↦ subst (AllBegin n) (sym (cond-false (is_cut a b) ((a ∷ []) ∷ rest) (onto_first a rest) off)) (onto_begins n a rest below.0 all)
    ]

append_begins : (n : ℕ) (run more : List ℕ) → Begins n run → Begins n (run ++ more)
append_begins n [] more begins = absurd (omega (arith, begins.0))
append_begins n (x ∷ run) more begins = (omega arith, begins.1)

module _ (classes : List BidiClass) (n : ℕ) where
  joined_begins : (run : List ℕ) (later : List (List ℕ)) → Begins n run → Begins n (joined classes run later)
  joined_begins run [] begins = begins
  joined_begins run (next ∷ later) begins =
      let on : List ℕ = run ++ joined classes next later in
      let off : List ℕ = joined classes run later in
      elim (cases_Bool (continues_in classes run next)) [
        | inl on_is ↦ subst (Begins n) (sym (cond-true (continues_in classes run next) on off on_is)) (append_begins n run (joined classes next later) begins)
        | inr off_is ↦ subst (Begins n) (sym (cond-false (continues_in classes run next) on off off_is)) (joined_begins run later begins)
      ]

  sequences_begin : (earlier later : List (List ℕ)) → AllBegin n later → AllBegin n (sequences_from classes earlier later)
  sequences_begin earlier [] all = tt
  sequences_begin earlier (run ∷ later) all =
      let continued : Bool = list_any (λ before. continues_in classes before run) earlier in
      let rest : List (List ℕ) = sequences_from classes (run ∷ earlier) later in
      let ends : AllBegin n rest = sequences_begin (run ∷ earlier) later all.1 in
      elim (cases_Bool continued) [
        | inl on_is ↦ subst (AllBegin n) (sym (cond-true continued rest (joined classes run later ∷ rest) on_is)) ends
        | inr off_is ↦ subst (AllBegin n) (sym (cond-false continued rest (joined classes run later ∷ rest) off_is)) (joined_begins run later all.0, ends)
      ]

-- ---- all levels

module _ (bracket : ℕ → Option Bracket) (base : ℕ) (characters : List ℕ) (classes : List BidiClass) (levels : List ℕ) (types : List BidiClass) (above : Above base levels) where
  write : (done : List ℕ) (all : List (List ℕ)) → Above base done → AllBegin (length levels) all
      → Above base (fold (λ old sequence. put old sequence (levels_in bracket base characters classes levels types sequence)) done all)
  write done [] so_far begin = so_far
  write done (sequence ∷ all) so_far begin =
      write (put done sequence (levels_in bracket base characters classes levels types sequence)) all
      (put_above base done sequence (levels_in bracket base characters classes levels types sequence) so_far
      (implicit_all base (get_or levels (first_of sequence) 0) _ (above_at base levels (first_of sequence) above begin.0.1)))
      begin.1

  resolved_above : Above base (resolved bracket base characters classes levels types)
  resolved_above =
      write levels (sequences classes levels) above
      (sequences_begin classes (length levels) [] (runs levels) (parts_begin (changes levels) (length levels) (range_with_len 0 (length levels)) (range_below (length levels) 0 (length levels) (omega arith))))

back_above : (low before : ℕ) (classes : List BidiClass) (levels : List ℕ) → low ≤ before → Above low levels → Above low (put_back before classes levels)
back_above low before [] levels from above = tt
back_above low before (class ∷ classes) [] from above = (from, back_above low before classes [] from above)
back_above low before (class ∷ classes) (level ∷ levels) from above =
    let on : List ℕ = before ∷ put_back before classes (level ∷ levels) in
    let off : List ℕ = level ∷ put_back level classes levels in
    elim (cases_Bool (is_removed class)) [
      | inl removed ↦ subst (Above low) (sym (cond-true (is_removed class) on off removed)) (from, back_above low before classes (level ∷ levels) from above)
      | inr kept ↦ subst (Above low) (sym (cond-false (is_removed class) on off kept)) (above.0, back_above low level classes levels above.0 above.1)
    ]

pub levels_above : (tables : Tables) (text : List ℕ) (base : Base) → Above (base_level_of (map (class_of tables) text) base) (levels_of tables text base)
levels_above tables text base =
    let all : List BidiClass = map (class_of tables) text in
    let level : ℕ = base_level_of all base in
    let classes : List BidiClass = directed all in
    let places : List ℕ = retained classes in
    back_above level level classes
    (resolved (bracket_of tables) level (map (λ k. get_or text k 0) places) (map (class_at classes) places) (map (level_at level classes) places) (map (type_at level classes) places))
    (omega arith)
    (resolved_above (bracket_of tables) level (map (λ k. get_or text k 0) places) (map (class_at classes) places) (map (level_at level classes) places) (map (type_at level classes) places)
    (explicit_all level classes places))

-- ---- the levels of a line

pub above_take : (low n : ℕ) (xs : List ℕ) → Above low xs → Above low (take n xs)
above_take low zero [] above = tt
above_take low zero (x ∷ xs) above = tt
above_take low (suc n) [] above = tt
above_take low (suc n) (x ∷ xs) above = (above.0, above_take low n xs above.1)

pub above_drop : (low n : ℕ) (xs : List ℕ) → Above low xs → Above low (drop n xs)
above_drop low zero xs above = above
above_drop low (suc n) [] above = tt
above_drop low (suc n) (x ∷ xs) above = above_drop low n xs above.1

-- if no level is below the paragraph level, L1 leaves none below it
pub above_reset : (base : ℕ) (classes : List BidiClass) (levels : List ℕ) → Above base levels → Above base (line_levels base classes levels)
above_reset base [] levels above = tt
above_reset base (class ∷ classes) [] above = tt
above_reset base (class ∷ classes) (level ∷ levels) above =
    elim (cases_Bool (is_reset (class ∷ classes))) [
      | inl on_is ↦ (subst (λ m. base ≤ m) (sym (cond-true (is_reset (class ∷ classes)) base level on_is)) (omega arith), above_reset base classes levels above.1)
      | inr off_is ↦ (subst (λ m. base ≤ m) (sym (cond-false (is_reset (class ∷ classes)) base level off_is)) above.0, above_reset base classes levels above.1)
    ]

separator_ends : (class : BidiClass) → is_segment_separator class ≡ true → ends_segment class ≡ true
separator_ends S is = refl
separator_ends class is = cc

pub separator_reset : (base : ℕ) (classes : List BidiClass) (levels : List ℕ) (k : ℕ) → k < length (line_levels base classes levels) → is_segment_separator (class_at classes k) ≡ true
    → get_or (line_levels base classes levels) k 0 ≡ base
separator_reset base [] levels k within is = absurd (omega (arith, within))
separator_reset base (class ∷ classes) [] k within is = absurd (omega (arith, within))
separator_reset base (class ∷ classes) (level ∷ levels) zero within is =
    cond-true (is_reset (class ∷ classes)) base level (ap (λ b. b || (is_blank class && is_reset classes)) (separator_ends class is))
separator_reset base (class ∷ classes) (level ∷ levels) (suc k) within is = separator_reset base classes levels k (omega (arith, within)) is
