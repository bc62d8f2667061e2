-- Each entry of the break table of Unicode 17.0 agrees with the rules, which is checked by computation.
use Rattle.std.proofs.Common.{◌≡◌, ℕ, ◌+◌, ◌*◌, ◌/◌, ◌==◌, nat_lt, nat_le, Bool, true, false, not, ◌&&◌, ◌||◌, List, [], ◌∷◌, map, get_or, drop, refl, ap, ◌∙◌, if◌then◌else◌}
use Rattle.std.specs.List.{list_all}
use Rattle.std.proofs.Math.ListN.{get_or-map}
use Rattle.ucd.specs.Answers.{line_answers_at}
use Rattle.ucd.specs.declared.line_class.LineClass.{LineClass}
use Rattle.ucd.specs.declared.line_class.LineClass.TheVariants.{AK, AL, AS, CM, CP, IS, NU, OP, QU, SP, VF, XX, ZWJ}
use Rattle.ucd.specs.declared.version.Version.TheVariants.{V17_0}
use Rattle.breaks.specs.Bases.{BaseCharacter, Character, alone, class_of, is_east_asian}
use Rattle.breaks.specs.Classes.{is_same, is_one_of}
use Rattle.breaks.specs.Rules.{rows_before_numbers, rows_of_numbers, rows_after_numbers, after_final, is, is_dotted_circle}
use Rattle.breaks.specs.Symbols.{character_in, narrow, shown_17, symbols_17, as_read_17, wide}
use Rattle.breaks.specs.Walk.{base, unattached}
use Rattle.breaks.specs.Walk17.{Bits, answered_17, answers_17, bases_at_17, by_width, carried_17, decided_17, mark_of_17, marks_17, rows_17, states_17}
use Rattle.breaks.specs.declared.mark.Mark.{Mark}
use Rattle.breaks.specs.declared.mark.Mark.TheVariants.{Never, May}
use Rattle.breaks.specs.declared.symbol_17.TheConstants.{ATTACHED, JOINER, SYMBOLS, SYMBOL_COUNT}
use Rattle.breaks.specs.declared.entries_17.TheConstants.{ANSWERS, NEXT_ROWS, OUTCOMES}
use Rattle.breaks.specs.declared.table_17.TheConstants.{LAST_ROW, LB15B, LB25_IS, OUTCOME_COUNT, QUESTION_COUNT, STATE_COUNT, STAYS}
use Rattle.breaks.proofs.BoolLemmas.{same, all_same, all_below}
use Rattle.breaks.proofs.Computed.{is_character, is_mark}

-- The mark of the first row whose conditions before and after both hold, or `May` (LB31) if there is none. The rows
-- after that row are not computed.
abbrev pub decide_17 : List Mark → List Bool → List Bool → Mark
decide_17 (mark ∷ marks) (before ∷ befores) (after ∷ afters) =
    elim (before && after) as (λ _. Mark) [ true ↦ mark | false ↦ decide_17 marks befores afters ]
decide_17 _ _ _ = May

abbrev pub marks_by_row_17 : List Mark
marks_by_row_17 = map (λ row. row.mark) rows_17

-- the results of all conditions on the bases after a position: a base that begins with c, and others
abbrev pub answers_after_17 : Character → List BaseCharacter → List Bool
answers_after_17 c rest = map (λ row. row.after (alone c ∷ rest)) rows_17

-- Examples of the bases after the next one: none, and one of each kind that the rules distinguish, narrow and wide.
-- The kinds are NU, IS before NU, other bases of LB15b, VF, and all others.
abbrev pub rests : List (List BaseCharacter)
rests =
    [] ∷
    (base NU ∷ []) ∷ (base IS ∷ base NU ∷ []) ∷ (base SP ∷ []) ∷ (base VF ∷ []) ∷ (base AL ∷ []) ∷
    (alone (wide NU) ∷ []) ∷ (alone (wide IS) ∷ base NU ∷ []) ∷ (alone (wide SP) ∷ []) ∷ (alone (wide VF) ∷ []) ∷ (alone (wide AL) ∷ []) ∷
    []

abbrev pub rest_at : ℕ → List BaseCharacter
rest_at kind = get_or rests kind []

abbrev class_kind : Bool → LineClass → ℕ
class_kind before_digit NU = 1
class_kind true IS = 2
class_kind before_digit VF = 4
class_kind before_digit class = if is_one_of after_final class then 3 else 5

abbrev pub kind_of : Bool → Bool → LineClass → ℕ
kind_of is_wide before_digit class = (if is_wide then 5 else 0) + class_kind before_digit class

abbrev pub kind : List BaseCharacter → ℕ
kind [] = 0
kind (b ∷ bases) = kind_of (is_east_asian b) (is (NU ∷ []) bases) (class_of b)

-- whether a rule may depend on what follows a base that begins with this character
abbrev pub asks : Character → Bool
asks c = is_one_of (AK ∷ AS ∷ IS ∷ OP ∷ QU ∷ []) c.class || is_dotted_circle (alone c)

abbrev pub kinds_after : Character → ℕ
kinds_after c = if asks c then 11 else 1

-- all values of the bits of a walk, and the index of a value
abbrev pub bits : Bool → Bool → Bool → Bool → Bits
bits is_joined is_pictograph is_wide was_wide = record { is_joined = is_joined; is_pictograph = is_pictograph; is_wide = is_wide; was_wide = was_wide }

abbrev pub all_bits : List Bits
all_bits =
    bits false false false false ∷ bits false false false true ∷ bits false false true false ∷ bits false false true true ∷
    bits false true false false ∷ bits false true false true ∷ bits false true true false ∷ bits false true true true ∷
    bits true false false false ∷ bits true false false true ∷ bits true false true false ∷ bits true false true true ∷
    bits true true false false ∷ bits true true false true ∷ bits true true true false ∷ bits true true true true ∷
    []

abbrev pub bits_at : ℕ → Bits
bits_at index = get_or all_bits index (bits false false false false)

abbrev flag : ℕ → Bool → ℕ
flag value b = if b then value else 0

abbrev pub index_of : Bits → ℕ
index_of b = flag 8 b.is_joined + flag 4 b.is_pictograph + flag 2 b.is_wide + flag 1 b.was_wide

-- a character with another width; symbols include the width only for CP and OP
abbrev pub with_width : Character → Bool → Character
with_width c is_wide = record c { is_wide = is_wide }

abbrev pub may_have : Character → Bool → Bool
may_have c is_wide = not (is_one_of (CP ∷ OP ∷ []) c.class) || same c.is_wide is_wide

-- Whether the mark of an entry's outcome is the mark of the rules. `befores` are the results of the
-- conditions on the bases before the position, for each value of the bits. `after` are the results for a
-- character of each width followed by the example bases. `marks` are the marks of each outcome before these
-- examples. The last character can be a ZWJ only if characters may join the last base.
module _ (befores : List (List Bool)) (by_row : List Mark) (after : Bool → ℕ → List Bool) (marks : ℕ → List Mark) (outcome : ℕ) (is_unattached asked : Bool) (c_is_wide : Bool) where
  abbrev pub gives_bits : List Bool → List Mark → ℕ → Bool
  gives_bits after marks index =
      let decided : ℕ = decided_17 outcome (bits_at index) c_is_wide in
      (is_unattached && (bits_at index).is_joined)
      || ((asked || nat_lt decided 4)
      && is_mark (get_or marks decided Never) (decide_17 by_row (get_or befores index []) after))

  abbrev pub gives_rest : List Bool → List Mark → Bool
  gives_rest after marks = all_below 16 (gives_bits after marks)

  abbrev pub gives_wide : Character → Bool
  gives_wide c = all_below (kinds_after c) (λ kind. gives_rest (after c_is_wide kind) (marks kind))

abbrev pub gives_17 : List (List Bool) → List Mark → (Bool → ℕ → List Bool) → (ℕ → List Mark) → ℕ → Bool → Character → Bool
gives_17 befores by_row after marks outcome is_unattached c =
    (not (may_have c false) || gives_wide befores by_row after marks outcome is_unattached (asks c) false c)
    && (not (may_have c true) || gives_wide befores by_row after marks outcome is_unattached (asks c) true c)

-- the results of the conditions on the example bases of a state, for each value of the bits
abbrev pub befores_from : List Bool → List (List Bool)
befores_from here = map (λ b. answered_17 b here) all_bits

abbrev pub befores_at : ℕ → List (List Bool)
befores_at state = befores_from (answers_17 (bases_at_17 state))

-- whether the character of a symbol joins the last base of a state (LB9)
abbrev pub stays_17 : ℕ → ℕ → Bool
stays_17 state symbol = is_one_of (CM ∷ ZWJ ∷ []) (shown_17 symbol).class && not (is unattached (bases_at_17 state))

-- The results that many entries share: the conditions on the example bases of each state (`heres_17`), and
-- the conditions on a character of each symbol followed by each example of the bases after it (`afters_17`).
-- `rest_marks_17` has the marks of all outcomes before each example.
unfoldable pub heres_17 : List (List Bool)
heres_17 = map answers_17 states_17

unfoldable pub afters_17 : Bool → List (List (List Bool))
afters_17 is_wide = map (λ c. map (answers_after_17 (with_width c is_wide)) rests) symbols_17

unfoldable pub rest_marks_17 : List (List Mark)
rest_marks_17 = map marks_17 rests

pub here_at_17 : (state : ℕ) → get_or heres_17 state (answers_17 []) ≡ answers_17 (bases_at_17 state)
unfolding heres_17
here_at_17 state = get_or-map answers_17 states_17 state []

-- the results at one index of the shared lists
abbrev pub after_in : Bool → List (List (List Bool)) → ℕ → ℕ → List Bool
after_in is_wide lists symbol kind =
    get_or (get_or lists symbol (map (answers_after_17 (with_width (narrow XX) is_wide)) rests)) kind (answers_after_17 (with_width (shown_17 symbol) is_wide) [])

pub after_at_17 : (is_wide : Bool) (symbol kind : ℕ) → after_in is_wide (afters_17 is_wide) symbol kind ≡ answers_after_17 (with_width (shown_17 symbol) is_wide) (rest_at kind)
unfolding afters_17
after_at_17 is_wide symbol kind =
    ap (λ lists. get_or lists kind (answers_after_17 (with_width (shown_17 symbol) is_wide) []))
    (get_or-map (λ c. map (answers_after_17 (with_width c is_wide)) rests) symbols_17 symbol (narrow XX))
    ∙ get_or-map (answers_after_17 (with_width (shown_17 symbol) is_wide)) rests kind []

abbrev pub marks_in : List (List Mark) → ℕ → List Mark
marks_in lists kind = get_or lists kind (marks_17 [])

pub marks_at_17 : (kind : ℕ) → marks_in rest_marks_17 kind ≡ marks_17 (rest_at kind)
unfolding rest_marks_17
marks_at_17 kind = get_or-map marks_17 rests kind []

abbrev pub by_is_wide : List (List (List Bool)) → List (List (List Bool)) → Bool → List (List (List Bool))
by_is_wide narrow wide true = wide
by_is_wide narrow wide false = narrow

-- the entries of a table are correct, given the results that they share
module _ (heres : List (List Bool)) (by_row : List Mark) (narrow_after wide_after : List (List (List Bool))) (rest_marks : List (List Mark)) where
  abbrev pub leads_by_17 : Bool → List (List Bool) → List Bool → ℕ → ℕ → ℕ → ℕ → Bool
  leads_by_17 true befores there state symbol outcome next = (outcome == STAYS) && (next == state)
  leads_by_17 false befores there state symbol outcome next =
      not (outcome == STAYS)
      && ((all_same (answers_17 (alone (shown_17 symbol) ∷ bases_at_17 state)) there
      && all_same (carried_17 (alone (shown_17 symbol) ∷ bases_at_17 state)) (carried_17 (bases_at_17 next)))
      && (same (is_one_of unattached (shown_17 symbol).class) (is unattached (bases_at_17 next))
      && gives_17 befores by_row (λ is_wide. after_in is_wide (by_is_wide narrow_after wide_after is_wide) symbol) (marks_in rest_marks)
      outcome (is unattached (bases_at_17 state)) (shown_17 symbol)))

  abbrev pub leads_at_17 : List (List Bool) → ℕ → ℕ → ℕ → ℕ → Bool
  leads_at_17 befores state symbol outcome next =
      leads_by_17 (stays_17 state symbol) befores (get_or heres next (answers_17 [])) state symbol outcome next

  -- whether the start of the next row and the outcome are correct for a state and a symbol
  abbrev pub row_leads_17 : List (List Bool) → ℕ → ℕ → ℕ → ℕ → ℕ → Bool
  row_leads_17 befores state symbol row outcome next =
      (row == next * SYMBOL_COUNT) && (nat_lt next STATE_COUNT && leads_at_17 befores state symbol outcome next)

  abbrev pub is_right_17 : List (List Bool) → ℕ → ℕ → ℕ → ℕ → Bool
  is_right_17 befores state symbol row outcome = row_leads_17 befores state symbol row outcome (row / SYMBOL_COUNT)

  -- the same for all symbols, given the entries of the tables from the state's row on
  abbrev pub state_right_17 : ℕ → List (List Bool) → List ℕ → List ℕ → Bool
  state_right_17 state befores rows outcomes =
      all_below SYMBOL_COUNT (λ symbol. is_right_17 befores state symbol (get_or rows symbol 0) (get_or outcomes symbol 0))

  abbrev pub right_from_17 : ℕ → Bool
  right_from_17 state =
      state_right_17 state (befores_from (get_or heres state (answers_17 []))) (drop (state * SYMBOL_COUNT) NEXT_ROWS) (drop (state * SYMBOL_COUNT) OUTCOMES)

  -- the same for seven states, since the computation of each declaration is limited
  abbrev pub right_by_17 : ℕ → Bool
  right_by_17 part = all_below 7 (λ i. right_from_17 (7 * part + i))

abbrev pub part : ℕ → Bool
part k = right_by_17 heres_17 marks_by_row_17 (afters_17 false) (afters_17 true) rest_marks_17 k

-- whether an entry is correct, with the results for its two states computed instead of read from the shared
-- list
abbrev pub leads_17 : Bool → ℕ → ℕ → ℕ → ℕ → Bool
leads_17 stay state symbol outcome next =
    leads_by_17 heres_17 marks_by_row_17 (afters_17 false) (afters_17 true) rest_marks_17 stay (befores_at state) (answers_17 (bases_at_17 next)) state symbol outcome next

abbrev Holds : Bool → Type 0
Holds true = Unit {0}
Holds false = ⊥

holds : (b : Bool) → Holds b → b ≡ true
holds true h = refl
holds false h = absurd h

pub part_0 : part 0 ≡ true
unfolding heres_17 afters_17 rest_marks_17 rows_17 rows_before_numbers rows_of_numbers rows_after_numbers
part_0 = holds (part 0) tt

pub part_1 : part 1 ≡ true
unfolding heres_17 afters_17 rest_marks_17 rows_17 rows_before_numbers rows_of_numbers rows_after_numbers
part_1 = holds (part 1) tt

pub part_2 : part 2 ≡ true
unfolding heres_17 afters_17 rest_marks_17 rows_17 rows_before_numbers rows_of_numbers rows_after_numbers
part_2 = holds (part 2) tt

pub part_3 : part 3 ≡ true
unfolding heres_17 afters_17 rest_marks_17 rows_17 rows_before_numbers rows_of_numbers rows_after_numbers
part_3 = holds (part 3) tt

pub part_4 : part 4 ≡ true
unfolding heres_17 afters_17 rest_marks_17 rows_17 rows_before_numbers rows_of_numbers rows_after_numbers
part_4 = holds (part 4) tt

pub part_5 : part 5 ≡ true
unfolding heres_17 afters_17 rest_marks_17 rows_17 rows_before_numbers rows_of_numbers rows_after_numbers
part_5 = holds (part 5) tt

pub part_6 : part 6 ≡ true
unfolding heres_17 afters_17 rest_marks_17 rows_17 rows_before_numbers rows_of_numbers rows_after_numbers
part_6 = holds (part 6) tt

pub rows_are_within_17 : list_all (λ entry. nat_le entry LAST_ROW) NEXT_ROWS ≡ true
rows_are_within_17 = refl

pub outcomes_are_within_17 : list_all (λ entry. nat_lt entry OUTCOME_COUNT) OUTCOMES ≡ true
outcomes_are_within_17 = refl

pub symbols_are_right_17 : all_below 448 (λ index. is_character (shown_17 (get_or SYMBOLS index 0)) (as_read_17 (character_in V17_0 (line_answers_at index)))) ≡ true
symbols_are_right_17 = refl

pub symbols_are_within_17 : list_all (λ entry. nat_lt entry SYMBOL_COUNT) SYMBOLS ≡ true
symbols_are_within_17 = refl

pub joiner_is_one_17 : all_below SYMBOL_COUNT (λ symbol. same (symbol == JOINER) (is_same (shown_17 symbol).class ZWJ)) ≡ true
joiner_is_one_17 = refl

pub attached_are_last_17 : all_below SYMBOL_COUNT (λ symbol. same (nat_lt symbol ATTACHED) (not (is_one_of (CM ∷ ZWJ ∷ []) (shown_17 symbol).class))) ≡ true
attached_are_last_17 = refl

-- ---- the answers

-- a base of class NU, or nothing
abbrev pub digit_or_none : Bool → List BaseCharacter
digit_or_none true = base NU ∷ []
digit_or_none false = []

abbrev pub answers_by : ℕ → Character → ℕ → Bool → Bool
answers_by question c answer before_digit =
    is_mark (mark_of_17 question (alone c ∷ digit_or_none before_digit)) (mark_of_17 answer (digit_or_none before_digit))

-- whether an answer is a mark, or the question `LB25_IS` after a base to which combining marks can be
-- attached
abbrev pub is_answer : Character → ℕ → Bool
is_answer c answer = nat_lt answer 4 || (not (is_one_of unattached c.class) && (answer == LB25_IS))

abbrev pub answer_right : ℕ → Character → ℕ → Bool
answer_right question c answer = is_answer c answer && (answers_by question c answer false && answers_by question c answer true)

abbrev pub answer_right_by : ℕ → Character → ℕ → Bool → Bool
answer_right_by question c answer is_wide = not (may_have c is_wide) || answer_right question (with_width c is_wide) (by_width answer is_wide)

abbrev pub answer_right_at : ℕ → ℕ → Bool
answer_right_at index symbol =
    not (nat_lt symbol ATTACHED)
    || (answer_right_by (index + LB15B) (shown_17 symbol) (get_or ANSWERS (index * SYMBOL_COUNT + symbol) 0) false
    && answer_right_by (index + LB15B) (shown_17 symbol) (get_or ANSWERS (index * SYMBOL_COUNT + symbol) 0) true)

pub answers_are_right : all_below QUESTION_COUNT (λ index. all_below SYMBOL_COUNT (answer_right_at index)) ≡ true
answers_are_right = refl
