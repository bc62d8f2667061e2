-- Each entry of the break table agrees with the rules, which is checked by computation.
use Rattle.std.proofs.Common.{◌≡◌, ℕ, ◌*◌, ◌/◌, ◌==◌, nat_lt, nat_le, Bool, true, false, not, ◌&&◌, ◌||◌, List, [], ◌∷◌, map, get_or, drop, refl}
use Rattle.std.proofs.Math.ListN.{get_or-map, set}
use Rattle.std.specs.List.{list_all}
use Rattle.ucd.specs.Answers.{line_answers_at}
use Rattle.ucd.specs.declared.line_class.LineClass.{LineClass}
use Rattle.ucd.specs.declared.line_detail.LineDetail.{LineDetail}
use Rattle.ucd.specs.declared.version.Version.TheVariants.{V15_0}
use Rattle.ucd.specs.declared.line_class.LineClass.TheVariants.{CM, NU, OP, XX, ZWJ}
use Rattle.breaks.specs.Bases.{BaseCharacter, Character, alone}
use Rattle.breaks.specs.Classes.{is_detail, is_same, is_one_of}
use Rattle.breaks.specs.Rules.{rows_before_numbers, rows_of_numbers, rows_after_numbers, is}
use Rattle.breaks.specs.Symbols.{character_in, narrow, shown, symbols, as_read}
use Rattle.breaks.specs.Walk.{base, bases_at, unattached, answers, carried, decided_at, mark_of, rows, states}
use Rattle.breaks.specs.declared.mark.Mark.{Mark}
use Rattle.breaks.specs.declared.mark.Mark.TheVariants.{Never, May, Must}
use Rattle.breaks.specs.declared.symbol.TheConstants.{ATTACHED, DIGIT, JOINER, SYMBOLS, SYMBOL_COUNT}
use Rattle.breaks.specs.declared.entries.TheConstants.{NEXT_ROWS, OUTCOMES}
use Rattle.breaks.specs.declared.table.TheConstants.{LAST_ROW, STATE_COUNT, STAYS, WAITS}
use Rattle.breaks.proofs.BoolLemmas.{same, all_same, all_below}

-- The mark of the first row whose conditions before and after both hold, or `May` (LB31) if there is none. The rows
-- after that row are not computed.
abbrev pub decide : List Mark → List Bool → List Bool → Mark
decide (mark ∷ marks) (before ∷ befores) (after ∷ afters) =
    elim (before && after) as (λ _. Mark) [ true ↦ mark | false ↦ decide marks befores afters ]
decide _ _ _ = May

abbrev pub marks_by_row : Bool → List Mark
marks_by_row whole_numbers = map (λ row. row.mark) (rows whole_numbers)

-- the bases after a position: a base that begins with c, then a base of class NU or nothing; then the results of all
-- conditions on these bases
abbrev pub bases_after : Character → Bool → List BaseCharacter
bases_after c true = alone c ∷ base NU ∷ []
bases_after c false = alone c ∷ []

abbrev pub answers_after : Bool → Character → Bool → List Bool
answers_after whole_numbers c before_digit = map (λ row. row.after (bases_after c before_digit)) (rows whole_numbers)

-- the results of all conditions before a position, with those of LB8a (index 7) and LB30b for pictographs
-- (the last) replaced
abbrev pub last_row : Bool → ℕ
last_row true = 48
last_row false = 47

abbrev pub answered_with : Bool → Bool → Bool → List Bool → List Bool
answered_with whole_numbers is_joined is_pictograph answers = set (set answers 7 is_joined) (last_row whole_numbers) is_pictograph

-- whether two marks are equal
abbrev pub is_mark : Mark → Mark → Bool
is_mark Never Never = true
is_mark May May = true
is_mark Must Must = true
is_mark _ _ = false

-- whether the character of a symbol joins the last base of a state (LB9)
abbrev pub stays : ℕ → ℕ → Bool
stays state symbol = is_one_of (CM ∷ ZWJ ∷ []) (shown symbol).class && not (is unattached (bases_at state))

-- whether the mark of an entry's outcome is the mark of the rules, given the results of the rules' conditions
-- before and after the position
module _ (whole_numbers : Bool) (answered : List Bool) (after digit_after : List Bool) (outcome : ℕ) where
  abbrev pub gives : List Bool → Bool → Bool → Bool → Bool
  gives after is_joined is_pictograph before_digit =
      is_mark (mark_of whole_numbers (decided_at outcome is_joined is_pictograph) before_digit)
      (decide (marks_by_row whole_numbers) (answered_with whole_numbers is_joined is_pictograph answered) after)

  abbrev pub gives_both : Bool → Bool → Bool
  gives_both is_joined is_pictograph = gives after is_joined is_pictograph false && gives digit_after is_joined is_pictograph true

  -- the last character can be a ZWJ only if a character may be attached to the last base
  abbrev pub gives_all : Bool → Bool
  gives_all is_unattached =
      (gives_both false false && gives_both false true) && (is_unattached || (gives_both true false && gives_both true true))

abbrev pub gives_each : Bool → ℕ → ℕ → ℕ → Bool
gives_each whole_numbers state symbol outcome =
    gives_all whole_numbers (answers whole_numbers (bases_at state)) (answers_after whole_numbers (shown symbol) false)
    (answers_after whole_numbers (shown symbol) true) outcome (is unattached (bases_at state))

-- the outcome can be `WAITS` only before OP
abbrev pub waits_for_base : ℕ → ℕ → Bool
waits_for_base symbol outcome = not (outcome == WAITS) || is_one_of (OP ∷ []) (shown symbol).class

-- whether an entry is correct, given the results of the conditions on the example bases of its state and of the next
-- state, and on the bases after the position
abbrev pub leads_by : Bool → Bool → ℕ → ℕ → ℕ → ℕ → List Bool → List Bool → List Bool → List Bool → Bool
leads_by whole_numbers true state symbol outcome next here there after digit_after =
    (outcome == STAYS)
    && ((all_same here there && all_same (carried (bases_at state)) (carried (bases_at next)))
    && same (is unattached (bases_at state)) (is unattached (bases_at next)))
leads_by whole_numbers false state symbol outcome next here there after digit_after =
    not (outcome == STAYS)
    && ((all_same (answers whole_numbers (alone (shown symbol) ∷ bases_at state)) there
    && all_same (carried (alone (shown symbol) ∷ bases_at state)) (carried (bases_at next)))
    && (same (is_one_of unattached (shown symbol).class) (is unattached (bases_at next))
    && (waits_for_base symbol outcome && gives_all whole_numbers here after digit_after outcome (is unattached (bases_at state)))))

abbrev pub leads : Bool → Bool → ℕ → ℕ → ℕ → ℕ → Bool
leads whole_numbers stay state symbol outcome next =
    leads_by whole_numbers stay state symbol outcome next (answers whole_numbers (bases_at state)) (answers whole_numbers (bases_at next))
    (answers_after whole_numbers (shown symbol) false) (answers_after whole_numbers (shown symbol) true)

-- the results of the conditions that many entries share: on the example bases of each state, and on the bases that
-- begin with the character of each symbol
unfoldable pub befores : Bool → List (List Bool)
befores whole_numbers = map (answers whole_numbers) states

unfoldable pub afters : Bool → Bool → List (List Bool)
afters whole_numbers before_digit = map (λ c. answers_after whole_numbers c before_digit) symbols

pub before_at : (whole_numbers : Bool) (state : ℕ) → get_or (befores whole_numbers) state (answers whole_numbers []) ≡ answers whole_numbers (bases_at state)
unfolding befores
before_at whole_numbers state = get_or-map (answers whole_numbers) states state []

pub after_at : (whole_numbers before_digit : Bool) (symbol : ℕ) → get_or (afters whole_numbers before_digit) symbol (answers_after whole_numbers (narrow XX) before_digit)
    ≡ answers_after whole_numbers (shown symbol) before_digit
unfolding afters
after_at whole_numbers before_digit symbol = get_or-map (λ c. answers_after whole_numbers c before_digit) symbols symbol (narrow XX)

-- whether the start of the next row and the outcome are correct for a state and a symbol, given the shared results
module _ (whole_numbers : Bool) (heres after digit_after : List (List Bool)) where
  abbrev pub leads_at : List Bool → ℕ → ℕ → ℕ → ℕ → Bool
  leads_at here state symbol outcome next =
      leads_by whole_numbers (stays state symbol) state symbol outcome next here (get_or heres next (answers whole_numbers []))
      (get_or after symbol (answers_after whole_numbers (narrow XX) false)) (get_or digit_after symbol (answers_after whole_numbers (narrow XX) true))

  abbrev pub row_leads : List Bool → ℕ → ℕ → ℕ → ℕ → ℕ → Bool
  row_leads here state symbol row outcome next =
      (row == next * SYMBOL_COUNT) && (nat_lt next STATE_COUNT && leads_at here state symbol outcome next)

  abbrev pub is_right : List Bool → ℕ → ℕ → ℕ → ℕ → Bool
  is_right here state symbol row outcome = row_leads here state symbol row outcome (row / SYMBOL_COUNT)

  -- the same for all symbols, given the entries of the tables from the state's row on
  abbrev pub state_right : ℕ → List Bool → List ℕ → List ℕ → Bool
  state_right state here rows outcomes =
      all_below SYMBOL_COUNT (λ symbol. is_right here state symbol (get_or rows symbol 0) (get_or outcomes symbol 0))

  abbrev pub right_from : ℕ → Bool
  right_from state =
      state_right state (get_or heres state (answers whole_numbers [])) (drop (state * SYMBOL_COUNT) NEXT_ROWS) (drop (state * SYMBOL_COUNT) OUTCOMES)

abbrev pub right_by : Bool → List (List Bool) → List (List Bool) → List (List Bool) → Bool
right_by whole_numbers heres after digit_after = all_below STATE_COUNT (right_from whole_numbers heres after digit_after)

abbrev pub table_right : Bool → Bool
table_right whole_numbers = right_by whole_numbers (befores whole_numbers) (afters whole_numbers false) (afters whole_numbers true)

-- A type that has a proof if and only if the test is true. A false test is rejected at once.
abbrev Holds : Bool → Type 0
Holds true = Unit {0}
Holds false = ⊥

holds : (b : Bool) → Holds b → b ≡ true
holds true h = refl
holds false h = absurd h

pub table_is_right : table_right false ≡ true
unfolding befores afters rows rows_before_numbers rows_of_numbers rows_after_numbers
table_is_right = holds (table_right false) tt

pub table_is_right_whole : table_right true ≡ true
unfolding befores afters rows rows_before_numbers rows_of_numbers rows_after_numbers
table_is_right_whole = holds (table_right true) tt

pub rows_are_within : list_all (λ entry. nat_le entry LAST_ROW) NEXT_ROWS ≡ true
rows_are_within = refl

pub outcomes_are_within : list_all (λ entry. nat_lt entry 8) OUTCOMES ≡ true
outcomes_are_within = refl

-- the character with these parts, and whether two characters are the same
abbrev pub character_with : LineClass → LineDetail → Bool → Bool → Character
character_with class detail is_wide is_future_pictograph = record { class = class; detail = detail; is_wide = is_wide; is_future_pictograph = is_future_pictograph }

abbrev pub is_character : Character → Character → Bool
is_character c d = is_same c.class d.class && (is_detail c.detail d.detail && (same c.is_wide d.is_wide && same c.is_future_pictograph d.is_future_pictograph))

pub symbols_are_right : all_below 448 (λ index. is_character (shown (get_or SYMBOLS index 0)) (as_read (character_in V15_0 (line_answers_at index)))) ≡ true
symbols_are_right = refl

pub symbols_are_within : list_all (λ entry. nat_lt entry SYMBOL_COUNT) SYMBOLS ≡ true
symbols_are_within = refl

pub joiner_is_one : all_below SYMBOL_COUNT (λ symbol. same (symbol == JOINER) (is_same (shown symbol).class ZWJ)) ≡ true
joiner_is_one = refl

pub digit_is_one : all_below SYMBOL_COUNT (λ symbol. same (symbol == DIGIT) (is_same (shown symbol).class NU)) ≡ true
digit_is_one = refl

pub attached_are_last : all_below SYMBOL_COUNT (λ symbol. same (nat_lt symbol ATTACHED) (not (is_one_of (CM ∷ ZWJ ∷ []) (shown symbol).class))) ≡ true
attached_are_last = refl
