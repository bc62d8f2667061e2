-- One step of the walk: the new state belongs to the bases so far, and the mark agrees with the rules.
use Rattle.std.proofs.Common.{◌≡◌, ℕ, ◌+◌, ◌*◌, ◌<◌, ◌≤◌, ◌==◌, Bool, true, false, not, ◌&&◌, ◌||◌, List, [], ◌∷◌, ◌++◌, map, get_or, drop, refl, sym, ap, ◌∙◌, arith, if◌then◌else◌, inl, inr}
use Rattle.ucd.specs.declared.version.Version.TheVariants.{V15_0}
use Rattle.std.proofs.lemmas.Bool.{cases_Bool}
use Rattle.ucd.specs.declared.line_class.LineClass.{LineClass}
use Rattle.ucd.specs.declared.line_class.LineClass.TheVariants.{CM, NU, OP, ZWJ}
use Rattle.breaks.specs.Bases.{BaseCharacter, Character, alone, bases_of, end_of, stays_with}
use Rattle.breaks.specs.Classes.{is_same, is_one_of}
use Rattle.breaks.specs.Rules.{rows_before_numbers, rows_of_numbers, rows_after_numbers, rules, mark_by, is}
use Rattle.breaks.specs.Symbols.{shown, as_read}
use Rattle.breaks.specs.Passes.{Passes, bases_after, with_attached}
use Rattle.breaks.specs.Walk.{Stands, bases_at, unattached, answers, carried, decided_at, mark_given, mark_of, rows}
use Rattle.breaks.specs.declared.mark.Mark.{Mark}
use Rattle.breaks.specs.declared.mark.Mark.TheVariants.{Never, May, Must}
use Rattle.breaks.specs.declared.symbol.TheConstants.{JOINER, SYMBOL_COUNT}
use Rattle.breaks.specs.declared.entries.TheConstants.{NEXT_ROWS, OUTCOMES}
use Rattle.breaks.specs.declared.table.TheConstants.{ENTRY_COUNT, LAST_ROW, NEVER, STATE_COUNT, STAYS, UNLESS, WAITS}
use Rattle.breaks.specs.declared.walk.Walk15.{Walk15}
use Rattle.breaks.proofs.BoolLemmas.{Next, next_of, next_as, entry_at, same_four, both, same, same_is, all_same, all_same_is, below, entries_below, entries_within, is_equal}
use Rattle.breaks.proofs.Computed.{after_at, afters, before_at, befores, decide, marks_by_row, answers_after, answered_with, is_mark, stays, gives_both, gives_each, leads, leads_at, leads_by, is_right, right_by, right_from, table_right, table_is_right, table_is_right_whole, rows_are_within, outcomes_are_within, waits_for_base}
use Rattle.breaks.proofs.StepLemmas.{end_attached, marked, answers_attached, carried_attached, answers_same, carried_same, answers_as_read, carried_as_read}
use Rattle.breaks.proofs.SymbolLemmas.{is_joiner, answers_after_as_read}

pub is_mark_is : (a b : Mark) → is_mark a b ≡ true → a ≡ b
is_mark_is Never Never h = refl
is_mark_is Never May h = cc
is_mark_is Never Must h = cc
is_mark_is May Never h = cc
is_mark_is May May h = refl
is_mark_is May Must h = cc
is_mark_is Must Never h = cc
is_mark_is Must May h = cc
is_mark_is Must Must h = refl

pub joiner_attaches : (class : LineClass) → is_same class ZWJ ≡ true → is_one_of unattached class ≡ false
joiner_attaches ZWJ h = refl
joiner_attaches class h = cc

pub mark_attaches : (class : LineClass) → is_one_of (CM ∷ ZWJ ∷ []) class ≡ true → is_one_of unattached class ≡ false
mark_attaches CM h = refl
mark_attaches ZWJ h = refl
mark_attaches class h = cc

pub not_true : (b : Bool) → not b ≡ true → b ≡ false
not_true true h = cc
not_true false h = refl

pub and_false : (b : Bool) → (b && false) ≡ false
and_false true = refl
and_false false = refl

-- whether an entry's outcome is correct in all eight cases: with or without the ZWJ bit, the pictograph bit and a
-- following digit
abbrev both_of : Bool → ℕ → ℕ → ℕ → Bool → Bool → Bool
both_of whole_numbers state symbol outcome =
    gives_both whole_numbers (answers whole_numbers (bases_at state)) (answers_after whole_numbers (shown symbol) false)
    (answers_after whole_numbers (shown symbol) true) outcome

given_both : (whole_numbers : Bool) (state symbol outcome : ℕ) (is_joined is_pictograph before_digit : Bool)
    → both_of whole_numbers state symbol outcome is_joined is_pictograph ≡ true
    → mark_of whole_numbers (decided_at outcome is_joined is_pictograph) before_digit
    ≡ decide (marks_by_row whole_numbers)
    (answered_with whole_numbers is_joined is_pictograph (answers whole_numbers (bases_at state)))
    (answers_after whole_numbers (shown symbol) before_digit)
given_both whole_numbers state symbol outcome is_joined is_pictograph false gives = is_mark_is _ _ (both _ _ gives).0
given_both whole_numbers state symbol outcome is_joined is_pictograph true gives = is_mark_is _ _ (both _ _ gives).1

given : (whole_numbers : Bool) (state symbol outcome : ℕ) (is_joined is_pictograph before_digit : Bool)
    → (is_joined ≡ true → is unattached (bases_at state) ≡ false) → gives_each whole_numbers state symbol outcome
    ≡ true → mark_of whole_numbers (decided_at outcome is_joined is_pictograph) before_digit
    ≡ decide (marks_by_row whole_numbers)
    (answered_with whole_numbers is_joined is_pictograph (answers whole_numbers (bases_at state)))
    (answers_after whole_numbers (shown symbol) before_digit)
given whole_numbers state symbol outcome false false before_digit free each = given_both whole_numbers state symbol outcome false false before_digit (both _ _ (both _ _ each).0).0
given whole_numbers state symbol outcome false true before_digit free each = given_both whole_numbers state symbol outcome false true before_digit (both _ _ (both _ _ each).0).1
given whole_numbers state symbol outcome true is_pictograph before_digit free each =
    let joined : (is unattached (bases_at state) || (both_of whole_numbers state symbol outcome true false && both_of whole_numbers state symbol outcome true true)) ≡ true = (both _ _ each).1 in
    let whole : (both_of whole_numbers state symbol outcome true false && both_of whole_numbers state symbol outcome true true) ≡ true = rw (free refl) at joined in
    elim is_pictograph as (λ p. mark_of whole_numbers (decided_at outcome true p) before_digit
    ≡ decide (marks_by_row whole_numbers)
    (answered_with whole_numbers true p (answers whole_numbers (bases_at state)))
    (answers_after whole_numbers (shown symbol) before_digit)) [
      | false ↦ given_both whole_numbers state symbol outcome true false before_digit (both _ _ whole).0
      | true ↦ given_both whole_numbers state symbol outcome true true before_digit (both _ _ whole).1
    ]

-- the entry for a state and a symbol is correct
abbrev pub Leads : Bool → ℕ → ℕ → ℕ → ℕ → Type 0
Leads whole_numbers state symbol next_row outcome = Next SYMBOL_COUNT STATE_COUNT next_row (leads whole_numbers (stays state symbol) state symbol outcome)

-- if the table passes its test, given the results that the entries share, each entry is correct
entry_of : (whole_numbers : Bool) (heres after digit_after : List (List Bool)) (state symbol row next_row outcome : ℕ) → state < STATE_COUNT → symbol < SYMBOL_COUNT
    → row ≡ state * SYMBOL_COUNT → next_row ≡ get_or NEXT_ROWS (row + symbol) 0 → outcome ≡ get_or OUTCOMES (row + symbol) 0
    → right_by whole_numbers heres after digit_after ≡ true
    → Next SYMBOL_COUNT STATE_COUNT next_row (leads_at whole_numbers heres after digit_after (get_or heres state (answers whole_numbers [])) state symbol outcome)
entry_of whole_numbers heres after digit_after state symbol row next_row outcome state_lt symbol_lt begins reads_row reads_outcome table =
    let here : List Bool = get_or heres state (answers whole_numbers []) in
    let row_at : get_or (drop (state * SYMBOL_COUNT) NEXT_ROWS) symbol 0 ≡ next_row = entry_at NEXT_ROWS (state * SYMBOL_COUNT) row symbol next_row begins reads_row in
    let outcome_at : get_or (drop (state * SYMBOL_COUNT) OUTCOMES) symbol 0 ≡ outcome = entry_at OUTCOMES (state * SYMBOL_COUNT) row symbol outcome begins reads_outcome in
    let at_state = below STATE_COUNT (right_from whole_numbers heres after digit_after) table state state_lt in
    let at_symbol = below SYMBOL_COUNT (λ symbol. is_right whole_numbers heres after digit_after here state symbol
    (get_or (drop (state * SYMBOL_COUNT) NEXT_ROWS) symbol 0) (get_or (drop (state * SYMBOL_COUNT) OUTCOMES) symbol 0)) at_state symbol symbol_lt in
    let right : is_right whole_numbers heres after digit_after here state symbol next_row outcome ≡ true = rw (← row_at, ← outcome_at) at_symbol in
    next_of _ _ _ _ _ right

table_is : (whole_numbers : Bool) → table_right whole_numbers ≡ true
table_is true = table_is_right_whole
table_is false = table_is_right

pub entry_is_right : (whole_numbers : Bool) (state symbol row next_row outcome : ℕ) → state < STATE_COUNT → symbol < SYMBOL_COUNT
    → row ≡ state * SYMBOL_COUNT → next_row ≡ get_or NEXT_ROWS (row + symbol) 0 → outcome ≡ get_or OUTCOMES (row + symbol) 0
    → Leads whole_numbers state symbol next_row outcome
entry_is_right whole_numbers state symbol row next_row outcome state_lt symbol_lt begins reads_row reads_outcome =
    next_as SYMBOL_COUNT STATE_COUNT next_row _ _
    (λ next. same_four (leads_by whole_numbers (stays state symbol) state symbol outcome next) _ _ _ _ _ _ _ _
    (before_at whole_numbers state) (before_at whole_numbers next) (after_at whole_numbers false symbol) (after_at whole_numbers true symbol))
    (entry_of whole_numbers (befores whole_numbers) (afters whole_numbers false) (afters whole_numbers true) state symbol row next_row outcome
    state_lt symbol_lt begins reads_row reads_outcome (table_is whole_numbers))

-- what a correct entry says about a character that begins a base
record Begins (whole_numbers : Bool) (state symbol outcome next : ℕ) : Type 0 where
  answered : answers whole_numbers (alone (shown symbol) ∷ bases_at state) ≡ answers whole_numbers (bases_at next)
  carries : carried (alone (shown symbol) ∷ bases_at state) ≡ carried (bases_at next)
  attaches : is_one_of unattached (shown symbol).class ≡ is unattached (bases_at next)
  waits : waits_for_base symbol outcome ≡ true
  gives : gives_each whole_numbers state symbol outcome ≡ true

beginning : (whole_numbers : Bool) (state symbol outcome next : ℕ) → leads whole_numbers false state symbol outcome next ≡ true → Begins whole_numbers state symbol outcome next
beginning whole_numbers state symbol outcome next led =
    let after : List BaseCharacter = alone (shown symbol) ∷ bases_at state in
    let there : List BaseCharacter = bases_at next in
    let attaching : Bool = same (is_one_of unattached (shown symbol).class) (is unattached there) in
    let waiting : Bool = waits_for_base symbol outcome in
    let giving : Bool = gives_each whole_numbers state symbol outcome in
    let likes : Bool = all_same (answers whole_numbers after) (answers whole_numbers there) && all_same (carried after) (carried there) in
    let rest : (not (outcome == STAYS) ≡ true) × ((likes && (attaching && (waiting && giving))) ≡ true) = both _ _ led in
    let facts : (likes ≡ true) × ((attaching && (waiting && giving)) ≡ true) = both _ _ rest.1 in
    let as_next : (all_same (answers whole_numbers after) (answers whole_numbers there) ≡ true) × (all_same (carried after) (carried there) ≡ true) = both _ _ facts.0 in
    let attaches : (attaching ≡ true) × ((waiting && giving) ≡ true) = both _ _ facts.1 in
    let waits : (waiting ≡ true) × (giving ≡ true) = both _ _ attaches.1 in
    record {
      answered = all_same_is _ _ as_next.0;
      carries = all_same_is _ _ as_next.1;
      attaches = same_is _ _ attaches.0;
      waits = waits.0;
      gives = waits.1;
    }

-- After a character that begins a base, the new state belongs to the bases that include it. The bases before
-- it must have the same `carried` as the example bases of the old state.
pub begins : (whole_numbers : Bool) (state symbol next_row outcome : ℕ) (c : Character) (before : List BaseCharacter)
    → symbol < SYMBOL_COUNT → shown symbol ≡ as_read c → Leads whole_numbers state symbol next_row outcome → stays state symbol
    ≡ false → carried before ≡ carried (bases_at state)
    → Stands whole_numbers (record {
      row = next_row;
      is_joined = symbol == JOINER;
      is_pictograph =
          c.is_future_pictograph;
    }) (alone c) before
begins whole_numbers state symbol next_row outcome c before symbol_lt shows entry_leads begun carry =
    let says : Begins whole_numbers state symbol outcome entry_leads.next = beginning _ _ _ _ _ (rw begun at entry_leads.leads) in
    record {
      state = entry_leads.next;
      below = entry_leads.below;
      row = entry_leads.row;
      answered =
          answers_as_read whole_numbers c before ∙ ap (λ d. answers whole_numbers (alone d ∷ before)) (sym shows)
          ∙ answers_same whole_numbers (alone (shown symbol)) before (bases_at state) carry ∙ says.answered;
      carries =
          carried_as_read c before ∙ ap (λ d. carried (alone d ∷ before)) (sym shows)
          ∙ carried_same (alone (shown symbol)) before (bases_at state) carry ∙ says.carries;
      attaches = ap (λ d. is_one_of unattached d.class) (sym shows) ∙ says.attaches;
      is_joined = is_joiner symbol symbol_lt ∙ ap (λ d. is_same d.class ZWJ) shows;
      is_pictograph = refl;
    }

-- after a character that joins the last base, the new state belongs to the bases with the character attached
attached : (whole_numbers : Bool) (walk : Walk15) (last : BaseCharacter) (others : List BaseCharacter)
    (stands : Stands whole_numbers walk last others) (symbol next_row outcome : ℕ) (c : Character) → symbol < SYMBOL_COUNT
    → shown symbol ≡ as_read c → Leads whole_numbers stands.state symbol next_row outcome → stays stands.state symbol ≡ true
    → Stands whole_numbers (record {
      row = next_row;
      is_joined = symbol == JOINER;
      is_pictograph =
          walk.is_pictograph;
    }) (with_attached last c) others
attached whole_numbers walk last others stands symbol next_row outcome c symbol_lt shows entry_leads stay =
    let led : leads whole_numbers true stands.state symbol outcome entry_leads.next ≡ true = rw stay at entry_leads.leads in
    let here : List BaseCharacter = bases_at stands.state in
    let next : List BaseCharacter = bases_at entry_leads.next in
    let attaching : Bool = same (is unattached here) (is unattached next) in
    let alike : Bool = all_same (answers whole_numbers here) (answers whole_numbers next) && all_same (carried here) (carried next) in
    let facts : ((outcome == STAYS) ≡ true) × ((alike && attaching) ≡ true) = both _ _ led in
    let likes : (alike ≡ true) × (attaching ≡ true) = both _ _ facts.1 in
    let as_next : (all_same (answers whole_numbers here) (answers whole_numbers next) ≡ true) × (all_same (carried here) (carried next) ≡ true) = both _ _ likes.0 in
    let mark_and : (is_one_of (CM ∷ ZWJ ∷ []) (shown symbol).class ≡ true) × (not (is unattached here) ≡ true) = both _ _ stay in
    let ends : end_of (with_attached last c) ≡ c = end_attached last.first last.attached c in
    record {
      state = entry_leads.next;
      below = entry_leads.below;
      row = entry_leads.row;
      answered = answers_attached whole_numbers last others (last.attached ++ c ∷ []) ∙ stands.answered ∙ all_same_is _ _ as_next.0;
      carries = carried_attached last others (last.attached ++ c ∷ []) ∙ stands.carries ∙ all_same_is _ _ as_next.1;
      attaches =
          ap (λ d. is_one_of unattached d.class) ends ∙ ap (λ d. is_one_of unattached d.class) (sym shows)
          ∙ mark_attaches (shown symbol).class mark_and.0 ∙ sym (not_true _ mark_and.1) ∙ same_is _ _ likes.1;
      is_joined = is_joiner symbol symbol_lt ∙ ap (λ d. is_same d.class ZWJ) shows ∙ ap (λ d. is_same d.class ZWJ) (sym ends);
      is_pictograph = stands.is_pictograph;
    }

-- the conditions on the bases after a position depend only on the character there and on whether the second
-- base is NU
reads_after : (whole_numbers : Bool) (c : Character) (attached : List Character) (bases : List BaseCharacter)
    → map (λ row. row.after (record { first = c; attached = attached } ∷ bases)) (rows whole_numbers)
    ≡ answers_after whole_numbers c (is (NU ∷ []) bases)
unfolding rows rows_before_numbers rows_of_numbers rows_after_numbers
reads_after true c attached bases =
    elim (cases_Bool (is (NU ∷ []) bases)) [
      | inl digit ↦ rw digit refl
      | inr other ↦ rw other refl
    ]
reads_after false c attached bases =
    elim (cases_Bool (is (NU ∷ []) bases)) [
      | inl digit ↦ rw digit refl
      | inr other ↦ rw other refl
    ]

-- the first base of a text begins with its first character
pub first_base : (c : Character) (text : List Character) → (attached : List Character) × (bases : List BaseCharacter) × (bases_of (c ∷ text) ≡ record { first = c; attached = attached } ∷ bases)
first_base c [] = ([], [], refl)
first_base c (d ∷ text) =
    let next = first_base d text in
    elim (cases_Bool (stays_with c d)) [
      | inl stays ↦ (d ∷ next.0, next.1, rw (stays, next.2) refl)
      | inr begins ↦ ([], record { first = d; attached = next.0 } ∷ next.1, rw (begins, next.2) refl)
    ]

-- if characters can join the first base of a text, the bases after it are those of the characters that do not join it
pub second_bases : (c : Character) (text : List Character) → is_one_of unattached c.class ≡ false
    → (attached : List Character) × (bases_of (c ∷ text) ≡ record { first = c; attached = attached } ∷ bases_after text)
second_bases c [] free = ([], refl)
second_bases c (d ∷ text) free =
    elim (cases_Bool (is_one_of (CM ∷ ZWJ ∷ []) d.class)) [
      | inl stays ↦
          let next = second_bases d text (mark_attaches d.class stays) in
          (d ∷ next.0, rw (stays, free, next.1) refl)
      | inr begins ↦ ([], rw begins refl)
    ]

-- the mark depends on the base after next only if the outcome is `WAITS`
waits_or_not : (whole_numbers : Bool) (outcome : ℕ) (is_joined is_pictograph : Bool) (a b : Bool) → (outcome == WAITS)
    ≡ false → mark_of whole_numbers (decided_at outcome is_joined is_pictograph) a
    ≡ mark_of whole_numbers (decided_at outcome is_joined is_pictograph) b
waits_or_not false outcome is_joined is_pictograph a b h = refl
waits_or_not true outcome true is_pictograph a b h = refl
waits_or_not true outcome false is_pictograph a b h =
    elim (cases_Bool ((outcome == UNLESS) && is_pictograph)) [
      | inl unless ↦ rw unless refl
      | inr other ↦ rw (other, h) refl
    ]

opening_attaches : (class : LineClass) → is_one_of (OP ∷ []) class ≡ true → is_one_of unattached class ≡ false
opening_attaches OP h = refl
opening_attaches class h = cc

class_as_read : (symbol : ℕ) (c : Character) → shown symbol ≡ as_read c → (shown symbol).class ≡ c.class
class_as_read symbol c shows = ap (λ d. d.class) shows

-- The first base of a text and the bases after it. If the outcome depends on the later bases, they are the
-- bases of the text without the characters that join the first base.
record Reads (whole_numbers : Bool) (decided : ℕ) (c : Character) (text : List Character) : Type 0 where
  attached : List Character
  rest : List BaseCharacter
  bases : bases_of (c ∷ text) ≡ record { first = c; attached = attached } ∷ rest
  alike : mark_given whole_numbers decided (bases_after text) ≡ mark_given whole_numbers decided rest

reads : (whole_numbers : Bool) (symbol outcome : ℕ) (c : Character) (text : List Character) (is_joined is_pictograph : Bool)
    → shown symbol ≡ as_read c → waits_for_base symbol outcome ≡ true → Reads whole_numbers (decided_at outcome is_joined is_pictograph) c text
reads whole_numbers symbol outcome c text is_joined is_pictograph shows waits =
    elim (cases_Bool (outcome == WAITS)) [
      | inl waiting ↦
          let opening : is_one_of (OP ∷ []) (shown symbol).class ≡ true = rw waiting at waits in
          let free : is_one_of unattached c.class ≡ false = ap (is_one_of unattached) (sym (class_as_read symbol c shows)) ∙ opening_attaches (shown symbol).class opening in
          let second = second_bases c text free in
          record { attached = second.0; rest = bases_after text; bases = second.1; alike = refl }
      | inr other ↦
          let first = first_base c text in
          record { attached = first.0; rest = first.1; bases = first.2; alike = waits_or_not whole_numbers outcome is_joined is_pictograph _ _ other }
    ]

-- if the next character begins a base, the mark of the outcome is the mark of the rules
marks_begun : (whole_numbers : Bool) (walk : Walk15) (last : BaseCharacter) (others : List BaseCharacter)
    (stands : Stands whole_numbers walk last others) (symbol next_row outcome : ℕ) (c : Character) (text : List Character)
    → shown symbol ≡ as_read c → Leads whole_numbers stands.state symbol next_row outcome → stays stands.state symbol ≡ false
    → mark_given whole_numbers (decided_at outcome walk.is_joined walk.is_pictograph) (bases_after text)
    ≡ mark_by (rules V15_0 whole_numbers) (last ∷ others) (bases_of (c ∷ text))
marks_begun whole_numbers walk last others stands symbol next_row outcome c text shows entry_leads begun =
    let says : Begins whole_numbers stands.state symbol outcome entry_leads.next = beginning _ _ _ _ _ (rw begun at entry_leads.leads) in
    let after = reads whole_numbers symbol outcome c text walk.is_joined walk.is_pictograph shows says.waits in
    let digit : Bool = is (NU ∷ []) after.rest in
    let free : walk.is_joined ≡ true → is unattached (bases_at stands.state) ≡ false =
    λ joined. sym stands.attaches ∙ joiner_attaches (end_of last).class (sym stands.is_joined ∙ joined) in
    after.alike
    ∙ given whole_numbers stands.state symbol outcome walk.is_joined walk.is_pictograph digit free says.gives
    ∙ ap (λ row. decide (marks_by_row whole_numbers) (answered_with whole_numbers walk.is_joined walk.is_pictograph row) (answers_after whole_numbers (shown symbol) digit)) (sym stands.answered)
    ∙ ap (λ joined. decide (marks_by_row whole_numbers)
    (answered_with whole_numbers joined walk.is_pictograph (answers whole_numbers (last ∷ others)))
    (answers_after whole_numbers (shown symbol) digit)) stands.is_joined
    ∙ ap (λ pictograph. decide (marks_by_row whole_numbers)
    (answered_with whole_numbers (is_same (end_of last).class ZWJ) pictograph
    (answers whole_numbers (last ∷ others))) (answers_after whole_numbers (shown symbol) digit))
    stands.is_pictograph
    ∙ ap (λ row. decide (marks_by_row whole_numbers) (answered_with whole_numbers (is_same (end_of last).class ZWJ) last.first.is_future_pictograph (answers whole_numbers (last ∷ others))) row)
    (ap (λ d. answers_after whole_numbers d digit) shows ∙ sym (answers_after_as_read whole_numbers c digit) ∙ sym (reads_after whole_numbers c after.attached after.rest))
    ∙ sym (marked whole_numbers last others (record { first = c; attached = after.attached } ∷ after.rest))
    ∙ ap (mark_by (rules V15_0 whole_numbers) (last ∷ others)) (sym after.bases)

-- the next character joins the last base if and only if its symbol joins the last base of the state
stays_is : (whole_numbers : Bool) (walk : Walk15) (last : BaseCharacter) (others : List BaseCharacter)
    (stands : Stands whole_numbers walk last others) (symbol : ℕ) (c : Character) → shown symbol ≡ as_read c
    → stays_with (end_of last) c ≡ stays stands.state symbol
stays_is whole_numbers walk last others stands symbol c shows =
    ap (λ attaches. is_one_of (CM ∷ ZWJ ∷ []) c.class && not attaches) stands.attaches
    ∙ ap (λ d. is_one_of (CM ∷ ZWJ ∷ []) d.class && not (is unattached (bases_at stands.state))) (sym shows)

-- the outcome is `STAYS` if and only if the next character joins the last base
outcome_stays : (whole_numbers : Bool) (walk : Walk15) (last : BaseCharacter) (others : List BaseCharacter)
    (stands : Stands whole_numbers walk last others) (symbol next_row outcome : ℕ) → Leads whole_numbers stands.state symbol next_row outcome
    → (outcome == STAYS) ≡ stays stands.state symbol
outcome_stays whole_numbers walk last others stands symbol next_row outcome entry_leads =
    elim (cases_Bool (stays stands.state symbol)) [
      | inl stay ↦
          let led : leads whole_numbers true stands.state symbol outcome entry_leads.next ≡ true = rw stay at entry_leads.leads in
          (both _ _ led).0 ∙ sym stay
      | inr begun ↦
          let led : leads whole_numbers false stands.state symbol outcome entry_leads.next ≡ true = rw begun at entry_leads.leads in
          not_true _ (both _ _ led).0 ∙ sym begun
    ]

-- whether the last base is a future pictograph after the step
abbrev pub kept : Walk15 → ℕ → Character → Bool
kept walk outcome c = if outcome == STAYS then walk.is_pictograph else c.is_future_pictograph

-- LB9: no line ends before a character that joins the last base
never_outcome : (whole_numbers before_digit is_pictograph : Bool) → mark_of whole_numbers (decided_at STAYS false is_pictograph) before_digit ≡ Never
never_outcome true before_digit is_pictograph = refl
never_outcome false before_digit is_pictograph = refl

never_joined : (whole_numbers before_digit : Bool) → mark_of whole_numbers NEVER before_digit ≡ Never
never_joined true before_digit = refl
never_joined false before_digit = refl

never_stays : (whole_numbers : Bool) (outcome : ℕ) (is_joined is_pictograph before_digit : Bool) → (outcome == STAYS)
    ≡ true → mark_of whole_numbers (decided_at outcome is_joined is_pictograph) before_digit ≡ Never
never_stays whole_numbers outcome true is_pictograph before_digit stay = never_joined whole_numbers before_digit
never_stays whole_numbers outcome false is_pictograph before_digit stay =
    ap (λ o. mark_of whole_numbers (decided_at o false is_pictograph) before_digit) (is_equal outcome STAYS stay)
    ∙ never_outcome whole_numbers before_digit is_pictograph

-- one step of the walk
abbrev pub Passes15 : Bool → Walk15 → BaseCharacter → List BaseCharacter → Character → ℕ → Type 0
Passes15 whole_numbers after last others c decided =
    Passes (rules V15_0 whole_numbers) (mark_given whole_numbers decided) (Stands whole_numbers after) last others c

pub passes : (whole_numbers : Bool) (walk : Walk15) (symbol next_row outcome : ℕ) (c : Character) → symbol < SYMBOL_COUNT
    → shown symbol ≡ as_read c → next_row ≡ get_or NEXT_ROWS (walk.row + symbol) 0 → outcome ≡ get_or OUTCOMES (walk.row + symbol) 0 → (last : BaseCharacter) (others : List BaseCharacter)
    → Stands whole_numbers walk last others
    → Passes15 whole_numbers (record {
      row = next_row;
      is_joined = symbol == JOINER;
      is_pictograph =
          kept walk outcome c;
    }) last others c (decided_at outcome walk.is_joined walk.is_pictograph)
passes whole_numbers walk symbol next_row outcome c symbol_lt shows reads_row reads_outcome last others stands =
    let entry_leads : Leads whole_numbers stands.state symbol next_row outcome = entry_is_right whole_numbers stands.state symbol walk.row next_row outcome stands.below symbol_lt stands.row reads_row reads_outcome in
    let whether = stays_is whole_numbers walk last others stands symbol c shows in
    let staying = outcome_stays whole_numbers walk last others stands symbol next_row outcome entry_leads in
    elim (cases_Bool (stays stands.state symbol)) [
      | inl stay ↦
          rw (whether, staying, stay) (
            λ rest. never_stays whole_numbers outcome walk.is_joined walk.is_pictograph (is (NU ∷ []) rest) (staying ∙ stay),
            attached whole_numbers walk last others stands symbol next_row outcome c symbol_lt shows entry_leads stay,
          )
      | inr begun ↦
          rw (whether, staying, begun) (
            λ text. marks_begun whole_numbers walk last others stands symbol next_row outcome c text shows entry_leads begun,
            begins whole_numbers stands.state symbol next_row outcome c (last ∷ others) symbol_lt shows entry_leads begun stands.carries,
          )
    ]

-- the first character of a text is read as if it came after BK, and the resulting state belongs to the base
-- with that character
pub starts : (symbol next_row : ℕ) (c : Character) → symbol < SYMBOL_COUNT → shown symbol ≡ as_read c → next_row
    ≡ get_or NEXT_ROWS (0 + symbol) 0 → (whole_numbers : Bool)
    → Stands whole_numbers (record {
      row = next_row;
      is_joined = symbol == JOINER;
      is_pictograph =
          c.is_future_pictograph;
    }) (alone c) []
starts symbol next_row c symbol_lt shows reads_row whole_numbers =
    let outcome : ℕ = get_or OUTCOMES (0 + symbol) 0 in
    begins whole_numbers 0 symbol next_row outcome c [] symbol_lt shows (entry_is_right whole_numbers 0 symbol 0 next_row outcome (omega arith) symbol_lt refl reads_row refl) (and_false _) refl

-- one step of the walk, stated for the values that the program computes
pub passes_as : (walk : Walk15) (symbol next_row outcome : ℕ) (c : Character) (is_pictograph : Bool) (decided : ℕ)
    → symbol < SYMBOL_COUNT → shown symbol ≡ as_read c → next_row ≡ get_or NEXT_ROWS (walk.row + symbol) 0 → outcome ≡ get_or OUTCOMES (walk.row + symbol) 0
    → kept walk outcome c ≡ is_pictograph → decided
    ≡ decided_at outcome walk.is_joined walk.is_pictograph
    → (whole_numbers : Bool) (last : BaseCharacter) (others : List BaseCharacter) → Stands whole_numbers walk last others
    → Passes15 whole_numbers (record {
      row = next_row;
      is_joined = symbol == JOINER;
      is_pictograph =
          is_pictograph;
    }) last others c decided
passes_as walk symbol next_row outcome c is_pictograph decided symbol_lt shows reads_row reads_outcome keeps is whole_numbers last others stands =
    rw (← keeps, is) (passes whole_numbers walk symbol next_row outcome c symbol_lt shows reads_row reads_outcome last others stands)

-- the next row in each entry is a row of the table
pub row_within : (place next_row : ℕ) → place < ENTRY_COUNT → next_row ≡ get_or NEXT_ROWS place 0 → next_row ≤ LAST_ROW
row_within place next_row lt = entries_within NEXT_ROWS LAST_ROW refl rows_are_within place next_row

-- the outcome in each entry is one of the eight outcomes
pub outcome_below : (place outcome : ℕ) → place < ENTRY_COUNT → outcome ≡ get_or OUTCOMES place 0 → outcome < 8
outcome_below place outcome lt = entries_below OUTCOMES 8 refl outcomes_are_within place outcome
