-- One step of the walk, with the rules of Unicode 17.0.
use Rattle.std.proofs.Common.{◌≡◌, ℕ, zero, suc, ◌+◌, ◌*◌, ◌/◌, ◌%◌, ◌<◌, ◌≤◌, ◌==◌, nat_lt, Bool, true, false, not, ◌&&◌, ◌||◌, List, [], ◌∷◌, ◌++◌, map, get_or, drop, refl, sym, ap, ap₂, subst, ◌∙◌, arith, inl, inr}
use Rattle.std.proofs.lemmas.Bool.{cases_Bool}
use Rattle.ucd.specs.declared.line_class.LineClass.{LineClass}
use Rattle.ucd.specs.declared.line_class.LineClass.TheVariants.{AK, AL, AS, CM, IS, NU, OP, QU, VF, ZWJ}
use Rattle.ucd.specs.declared.line_detail.LineDetail.{LineDetail}
use Rattle.ucd.specs.declared.line_detail.LineDetail.TheVariants.{DottedCircle}
use Rattle.ucd.specs.declared.version.Version.TheVariants.{V17_0}
use Rattle.breaks.specs.Bases.{BaseCharacter, Character, alone, base_class, bases_of, class_of, end_of, is_east_asian, joined, stays_with}
use Rattle.breaks.specs.Classes.{is_detail, is_same, is_one_of}
use Rattle.breaks.specs.Rules.{rules, rows_before_numbers, rows_of_numbers, rows_after_numbers, mark_by, after_final, is, is_dotted_circle, is_not_east_asian, or_edge}
use Rattle.breaks.specs.Symbols.{shown_17, as_read_17}
use Rattle.breaks.specs.Passes.{Passes, bases_after, with_attached}
use Rattle.breaks.specs.Walk.{unattached}
use Rattle.breaks.specs.Walk17.{Bits, Stands17, answered_17, answers_17, bases_at_17, bits_in, bits_of, carried_17, decided_17, is_stop_digit, is_wide_base, mark_of_17, marks_17, rows_17}
use Rattle.breaks.specs.declared.mark.Mark.{Mark}
use Rattle.breaks.specs.declared.mark.Mark.TheVariants.{Never}
use Rattle.breaks.specs.declared.entries_17.TheConstants.{NEXT_ROWS, OUTCOMES}
use Rattle.breaks.specs.declared.symbol_17.TheConstants.{JOINER, SYMBOL_COUNT}
use Rattle.breaks.specs.declared.table_17.TheConstants.{ENTRY_COUNT, LAST_ROW, NEVER, OUTCOME_COUNT, STATE_COUNT, STAYS}
use Rattle.breaks.specs.declared.walk_17.Walk17.{Walk17}
use Rattle.breaks.proofs.BoolLemmas.{Next, next_of, next_as, entry_at, same_two, all_same, all_same_is, below, both, entries_below, entries_within, is_below, is_equal, same, same_is}
use Rattle.breaks.proofs.Computed.{is_mark}
use Rattle.breaks.proofs.Computed17.{after_at_17, after_in, afters_17, answers_after_17, asks, befores_at, befores_from, bits, bits_at, by_is_wide, decide_17, gives_17, gives_bits, gives_rest, gives_wide, here_at_17, heres_17, index_of, is_right_17, kind, kind_of, kinds_after, leads_17, leads_at_17, leads_by_17, marks_at_17, marks_by_row_17, marks_in, may_have, outcomes_are_within_17, rest_at, rest_marks_17, right_by_17, right_from_17, rows_are_within_17, stays_17, part, part_0, part_1, part_2, part_3, part_4, part_5, part_6, with_width}
use Rattle.breaks.proofs.PassLemmas.{and_false, first_base, is_mark_is, joiner_attaches, mark_attaches, not_true, second_bases}
use Rattle.breaks.proofs.StepLemmas.{end_attached}
use Rattle.breaks.proofs.StepLemmas17.{circle_as_read, answers_after_as_read_17, answers_attached_17, answers_same_17, answers_as_read_17, carried_attached_17, carried_same_17, carried_as_read_17, marked_17}
use Rattle.breaks.proofs.SymbolLemmas17.{is_joiner_17, may_have_as_read}

-- ---- the entries

part_is : (k : ℕ) → k < 7 → part k ≡ true
part_is zero lt = part_0
part_is (suc zero) lt = part_1
part_is (suc (suc zero)) lt = part_2
part_is (suc (suc (suc zero))) lt = part_3
part_is (suc (suc (suc (suc zero)))) lt = part_4
part_is (suc (suc (suc (suc (suc zero))))) lt = part_5
part_is (suc (suc (suc (suc (suc (suc zero)))))) lt = part_6
part_is (suc (suc (suc (suc (suc (suc (suc n))))))) lt = absurd (omega arith)

-- the entry for a state and a symbol is correct
abbrev pub Leads17 : ℕ → ℕ → ℕ → ℕ → Type 0
Leads17 state symbol next_row outcome = Next SYMBOL_COUNT STATE_COUNT next_row (leads_17 (stays_17 state symbol) state symbol outcome)

-- if the table passes its test, given the results that the entries share, each entry is correct
entry_of_17 : (heres : List (List Bool)) (by_row : List Mark) (narrow wide : List (List (List Bool))) (marks : List (List Mark))
    (state symbol row next_row outcome : ℕ) → state < STATE_COUNT → symbol < SYMBOL_COUNT
    → row ≡ state * SYMBOL_COUNT → next_row ≡ get_or NEXT_ROWS (row + symbol) 0 → outcome ≡ get_or OUTCOMES (row + symbol) 0
    → right_by_17 heres by_row narrow wide marks (state / 7) ≡ true
    → Next SYMBOL_COUNT STATE_COUNT next_row (leads_at_17 heres by_row narrow wide marks (befores_from (get_or heres state (answers_17 []))) state symbol outcome)
entry_of_17 heres by_row narrow wide marks state symbol row next_row outcome state_lt symbol_lt begins reads_row reads_outcome table =
    let befores : List (List Bool) = befores_from (get_or heres state (answers_17 [])) in
    let row_at : get_or (drop (state * SYMBOL_COUNT) NEXT_ROWS) symbol 0 ≡ next_row = entry_at NEXT_ROWS (state * SYMBOL_COUNT) row symbol next_row begins reads_row in
    let outcome_at : get_or (drop (state * SYMBOL_COUNT) OUTCOMES) symbol 0 ≡ outcome = entry_at OUTCOMES (state * SYMBOL_COUNT) row symbol outcome begins reads_outcome in
    let whole : 7 * (state / 7) + state % 7 ≡ state = omega arith in
    let at_state : right_from_17 heres by_row narrow wide marks state ≡ true =
    subst (λ s. right_from_17 heres by_row narrow wide marks s ≡ true) whole (below 7 (λ i. right_from_17 heres by_row narrow wide marks (7 * (state / 7) + i)) table (state % 7) (omega arith)) in
    let at_symbol = below SYMBOL_COUNT (λ symbol. is_right_17 heres by_row narrow wide marks befores state symbol
    (get_or (drop (state * SYMBOL_COUNT) NEXT_ROWS) symbol 0) (get_or (drop (state * SYMBOL_COUNT) OUTCOMES) symbol 0)) at_state symbol symbol_lt in
    let right : is_right_17 heres by_row narrow wide marks befores state symbol next_row outcome ≡ true = rw (← row_at, ← outcome_at) at_symbol in
    next_of _ _ _ _ _ right

pub entry_is_right_17 : (state symbol row next_row outcome : ℕ) → state < STATE_COUNT → symbol < SYMBOL_COUNT
    → row ≡ state * SYMBOL_COUNT → next_row ≡ get_or NEXT_ROWS (row + symbol) 0 → outcome ≡ get_or OUTCOMES (row + symbol) 0
    → Leads17 state symbol next_row outcome
entry_is_right_17 state symbol row next_row outcome state_lt symbol_lt begins reads_row reads_outcome =
    next_as SYMBOL_COUNT STATE_COUNT next_row _ _
    (λ next. same_two (λ befores there. leads_by_17 heres_17 marks_by_row_17 (afters_17 false) (afters_17 true) rest_marks_17 (stays_17 state symbol) befores there state symbol outcome next) _ _ _ _
    (ap befores_from (here_at_17 state)) (here_at_17 next))
    (entry_of_17 heres_17 marks_by_row_17 (afters_17 false) (afters_17 true) rest_marks_17 state symbol row next_row outcome
    state_lt symbol_lt begins reads_row reads_outcome (part_is (state / 7) (omega arith)))

-- whether the marks of the outcome are those of the rules, given the results that the entries share
abbrev pub given_by_17 : (befores : List (List Bool)) (symbol outcome : ℕ) (is_unattached : Bool) → Character → Bool
given_by_17 befores symbol outcome is_unattached c =
    gives_17 befores marks_by_row_17 (λ is_wide. after_in is_wide (by_is_wide (afters_17 false) (afters_17 true) is_wide) symbol) (marks_in rest_marks_17) outcome is_unattached c

-- what a correct entry says about a character that begins a base
record Begins17 (state symbol outcome next : ℕ) : Type 0 where
  answered : answers_17 (alone (shown_17 symbol) ∷ bases_at_17 state) ≡ answers_17 (bases_at_17 next)
  carries : carried_17 (alone (shown_17 symbol) ∷ bases_at_17 state) ≡ carried_17 (bases_at_17 next)
  attaches : is_one_of unattached (shown_17 symbol).class ≡ is unattached (bases_at_17 next)
  gives : given_by_17 (befores_at state) symbol outcome (is unattached (bases_at_17 state)) (shown_17 symbol) ≡ true

beginning_17 : (state symbol outcome next : ℕ) → leads_17 false state symbol outcome next ≡ true → Begins17 state symbol outcome next
beginning_17 state symbol outcome next led =
    let after : List BaseCharacter = alone (shown_17 symbol) ∷ bases_at_17 state in
    let there : List BaseCharacter = bases_at_17 next in
    let attaching : Bool = same (is_one_of unattached (shown_17 symbol).class) (is unattached there) in
    let giving : Bool = given_by_17 (befores_at state) symbol outcome (is unattached (bases_at_17 state)) (shown_17 symbol) in
    let alike : Bool = all_same (answers_17 after) (answers_17 there) && all_same (carried_17 after) (carried_17 there) in
    let rest : (not (outcome == STAYS) ≡ true) × ((alike && (attaching && giving)) ≡ true) = both _ _ led in
    let facts : (alike ≡ true) × ((attaching && giving) ≡ true) = both _ _ rest.1 in
    let as_next : (all_same (answers_17 after) (answers_17 there) ≡ true) × (all_same (carried_17 after) (carried_17 there) ≡ true) = both _ _ facts.0 in
    let attaches : (attaching ≡ true) × (giving ≡ true) = both _ _ facts.1 in
    record {
      answered = all_same_is _ _ as_next.0;
      carries = all_same_is _ _ as_next.1;
      attaches = same_is _ _ attaches.0;
      gives = attaches.1;
    }

-- After a character that begins a base, the new state belongs to the bases that include it. The bases before
-- it must have the same `carried_17` as the example bases of the old state.
pub begins_17 : (state symbol next_row outcome : ℕ) (c : Character) (before : List BaseCharacter) (was_wide : Bool)
    → symbol < SYMBOL_COUNT → shown_17 symbol ≡ as_read_17 c → Leads17 state symbol next_row outcome → stays_17 state symbol ≡ false
    → carried_17 before ≡ carried_17 (bases_at_17 state) → was_wide ≡ is_wide_base before
    → Stands17 (record {
      row = next_row;
      is_joined = symbol == JOINER;
      is_pictograph = c.is_future_pictograph;
      is_wide = is_east_asian (alone c);
      was_wide = was_wide;
    }) (alone c) before
begins_17 state symbol next_row outcome c before was_wide symbol_lt shows entry_leads begun carry was =
    let says : Begins17 state symbol outcome entry_leads.next = beginning_17 _ _ _ _ (rw begun at entry_leads.leads) in
    let joiner : (symbol == JOINER) ≡ is_same c.class ZWJ = is_joiner_17 symbol symbol_lt ∙ ap (λ d. is_same d.class ZWJ) shows in
    record {
      state = entry_leads.next;
      below = entry_leads.below;
      row = entry_leads.row;
      answered =
          answers_as_read_17 c before ∙ ap (λ d. answers_17 (alone d ∷ before)) (sym shows)
          ∙ answers_same_17 (alone (shown_17 symbol)) before (bases_at_17 state) carry ∙ says.answered;
      carries =
          carried_as_read_17 c before ∙ ap (λ d. carried_17 (alone d ∷ before)) (sym shows)
          ∙ carried_same_17 (alone (shown_17 symbol)) before (bases_at_17 state) carry ∙ says.carries;
      attaches = ap (λ d. is_one_of unattached d.class) (sym shows) ∙ says.attaches;
      bits = rw (joiner, was) refl;
    }

-- after a character that joins the last base, the state belongs to the bases with the character attached
attached_17 : (walk : Walk17) (last : BaseCharacter) (others : List BaseCharacter) (stands : Stands17 walk last others)
    (symbol next_row outcome : ℕ) (c : Character) → symbol < SYMBOL_COUNT
    → shown_17 symbol ≡ as_read_17 c → Leads17 stands.state symbol next_row outcome → stays_17 stands.state symbol ≡ true
    → Stands17 (record walk { row = next_row; is_joined = symbol == JOINER }) (with_attached last c) others
attached_17 walk last others stands symbol next_row outcome c symbol_lt shows entry_leads stay =
    let led : leads_17 true stands.state symbol outcome entry_leads.next ≡ true = rw stay at entry_leads.leads in
    let facts : ((outcome == STAYS) ≡ true) × ((entry_leads.next == stands.state) ≡ true) = both _ _ led in
    let next : entry_leads.next ≡ stands.state = is_equal _ _ facts.1 in
    let mark_and : (is_one_of (CM ∷ ZWJ ∷ []) (shown_17 symbol).class ≡ true) × (not (is unattached (bases_at_17 stands.state)) ≡ true) = both _ _ stay in
    let ends : end_of (with_attached last c) ≡ c = end_attached last.first last.attached c in
    let joiner : (symbol == JOINER) ≡ is_same (end_of (with_attached last c)).class ZWJ =
    is_joiner_17 symbol symbol_lt ∙ ap (λ d. is_same d.class ZWJ) shows ∙ ap (λ d. is_same d.class ZWJ) (sym ends) in
    record {
      state = stands.state;
      below = stands.below;
      row = entry_leads.row ∙ ap (λ n. n * SYMBOL_COUNT) next;
      answered = answers_attached_17 last others (last.attached ++ c ∷ []) ∙ stands.answered;
      carries = carried_attached_17 last others (last.attached ++ c ∷ []) ∙ stands.carries;
      attaches =
          ap (λ d. is_one_of unattached d.class) ends ∙ ap (λ d. is_one_of unattached d.class) (sym shows)
          ∙ mark_attaches (shown_17 symbol).class mark_and.0 ∙ sym (not_true _ mark_and.1);
      bits =
          ap₂ (λ joined (b : Bits). record b { is_joined = joined }) joiner stands.bits;
    }

-- ---- the bases after the next one

-- the results of all conditions on the bases after the next one
unfoldable pub facts : List BaseCharacter → List Bool
facts rest = or_edge (is after_final) rest ∷ is (NU ∷ []) rest ∷ or_edge is_not_east_asian rest ∷ is_stop_digit rest ∷ is (VF ∷ []) rest ∷ []

abbrev facts_of : Bool → Bool → LineClass → List Bool
facts_of is_wide before_digit class =
    is_one_of after_final class ∷ is_one_of (NU ∷ []) class ∷ not is_wide ∷ (is_one_of (IS ∷ []) class && before_digit) ∷ is_one_of (VF ∷ []) class ∷ []

same_facts : (is_wide before_digit : Bool) (class : LineClass) → facts_of is_wide before_digit class ≡ facts (rest_at (kind_of is_wide before_digit class))
unfolding facts
same_facts true true NU = refl
same_facts true true IS = refl
same_facts true true VF = refl
same_facts true true class = refl
same_facts true false NU = refl
same_facts true false VF = refl
same_facts true false class = refl
same_facts false true NU = refl
same_facts false true IS = refl
same_facts false true VF = refl
same_facts false true class = refl
same_facts false false NU = refl
same_facts false false VF = refl
same_facts false false class = refl

facts_kind : (rest : List BaseCharacter) → facts rest ≡ facts (rest_at (kind rest))
unfolding facts
facts_kind [] = refl
facts_kind (b ∷ bases) = same_facts (is_east_asian b) (is (NU ∷ []) bases) (class_of b)

kind_is_below : (is_wide before_digit : Bool) (class : LineClass) → nat_lt (kind_of is_wide before_digit class) 11 ≡ true
kind_is_below true true NU = refl
kind_is_below true true class = refl
kind_is_below true false NU = refl
kind_is_below true false class = refl
kind_is_below false true NU = refl
kind_is_below false true class = refl
kind_is_below false false NU = refl
kind_is_below false false class = refl

kind_below : (rest : List BaseCharacter) → nat_lt (kind rest) 11 ≡ true
kind_below [] = refl
kind_below (b ∷ bases) = kind_is_below (is_east_asian b) (is (NU ∷ []) bases) (class_of b)

-- The conditions have the same results for two lists of bases with the same facts.
module _ (p q : List BaseCharacter) (alike : facts p ≡ facts q) where
  final : or_edge (is after_final) p ≡ or_edge (is after_final) q
  unfolding facts
  final = ap (λ l. get_or l 0 false) alike

  digit : is (NU ∷ []) p ≡ is (NU ∷ []) q
  unfolding facts
  digit = ap (λ l. get_or l 1 false) alike

  narrow : or_edge is_not_east_asian p ≡ or_edge is_not_east_asian q
  unfolding facts
  narrow = ap (λ l. get_or l 2 false) alike

  stop : is_stop_digit p ≡ is_stop_digit q
  unfolding facts
  stop = ap (λ l. get_or l 3 false) alike

  vowel : is (VF ∷ []) p ≡ is (VF ∷ []) q
  unfolding facts
  vowel = ap (λ l. get_or l 4 false) alike

  pub marks_alike : marks_17 p ≡ marks_17 q
  marks_alike = rw (final, digit, narrow, stop, vowel) refl

  pub after_alike : (c : Character) (attached : List Character)
      → map (λ row. row.after (record { first = c; attached = attached } ∷ p)) rows_17 ≡ answers_after_17 c q
  unfolding rows_17 rows_before_numbers rows_of_numbers rows_after_numbers
  after_alike c attached = rw (final, digit, narrow, stop, vowel) refl

-- a character for which no rule reads the bases after it is neither QU, IS nor OP, nor a letter of LB28a
asks_nothing : (class : LineClass) (circle : Bool) → (is_one_of (AK ∷ AS ∷ IS ∷ OP ∷ QU ∷ []) class || circle) ≡ false
    → (is_same (base_class class) QU ≡ false) × (is_one_of (QU ∷ []) (base_class class) ≡ false) × (is_one_of (IS ∷ []) (base_class class) ≡ false)
    × (is_one_of (OP ∷ []) (base_class class) ≡ false) × ((is_one_of (AK ∷ AS ∷ []) (base_class class) || circle) ≡ false)
asks_nothing AK circle h = cc
asks_nothing AS circle h = cc
asks_nothing IS circle h = cc
asks_nothing OP circle h = cc
asks_nothing QU circle h = cc
asks_nothing class circle h = (refl, refl, refl, refl, h)

after_any : (c : Character) (attached : List Character) (rest : List BaseCharacter) → asks c ≡ false
    → map (λ row. row.after (record { first = c; attached = attached } ∷ rest)) rows_17 ≡ answers_after_17 c []
unfolding rows_17 rows_before_numbers rows_of_numbers rows_after_numbers
after_any c attached rest h =
    let no = asks_nothing c.class (is_dotted_circle (alone c)) h in
    rw (no.0, no.1, no.2, no.3, no.4) refl

-- combining marks can join a character if a rule reads the bases after it
asked_attaches : (class : LineClass) (detail : LineDetail)
    → (is_one_of (AK ∷ AS ∷ IS ∷ OP ∷ QU ∷ []) class || (is_same class AL && is_detail detail DottedCircle)) ≡ true → is_one_of unattached class ≡ false
asked_attaches AK detail h = refl
asked_attaches AL detail h = refl
asked_attaches AS detail h = refl
asked_attaches IS detail h = refl
asked_attaches OP detail h = refl
asked_attaches QU detail h = refl
asked_attaches class detail h = cc

-- an outcome that is a mark is the same mark before any bases
pub same_mark : (decided : ℕ) (p q : List BaseCharacter) → nat_lt decided 4 ≡ true → mark_of_17 decided p ≡ mark_of_17 decided q
same_mark zero p q lt = refl
same_mark (suc zero) p q lt = refl
same_mark (suc (suc zero)) p q lt = refl
same_mark (suc (suc (suc zero))) p q lt = refl
same_mark (suc (suc (suc (suc n)))) p q lt = let below : suc (suc (suc (suc n))) < 4 = is_below _ _ lt in absurd (omega arith)

-- ---- the outcomes

-- the index of the bits b is valid, and the shared results at that index are those for b
abbrev AtBits : ℕ → Bits → Type 0
AtBits state b =
    (nat_lt (index_of b) 16 ≡ true) × (bits_at (index_of b) ≡ b)
    × (get_or (befores_at state) (index_of b) [] ≡ answered_17 b (answers_17 (bases_at_17 state)))

at_bits : (state : ℕ) (a b d e : Bool) → AtBits state (bits a b d e)
at_bits state true true true true = (refl, refl, refl)
at_bits state true true true false = (refl, refl, refl)
at_bits state true true false true = (refl, refl, refl)
at_bits state true true false false = (refl, refl, refl)
at_bits state true false true true = (refl, refl, refl)
at_bits state true false true false = (refl, refl, refl)
at_bits state true false false true = (refl, refl, refl)
at_bits state true false false false = (refl, refl, refl)
at_bits state false true true true = (refl, refl, refl)
at_bits state false true true false = (refl, refl, refl)
at_bits state false true false true = (refl, refl, refl)
at_bits state false true false false = (refl, refl, refl)
at_bits state false false true true = (refl, refl, refl)
at_bits state false false true false = (refl, refl, refl)
at_bits state false false false true = (refl, refl, refl)
at_bits state false false false false = (refl, refl, refl)

module _ (befores : List (List Bool)) (by_row : List Mark) (after : Bool → ℕ → List Bool) (marks : ℕ → List Mark) (outcome : ℕ) (is_unattached : Bool) (c : Character) where
  abbrev Gives : Bool → Bool
  Gives wide = gives_wide befores by_row after marks outcome is_unattached (asks c) wide c

  with_given_width : (wide : Bool) → may_have c wide ≡ true → gives_17 befores by_row after marks outcome is_unattached c ≡ true → Gives wide ≡ true
  with_given_width false may h =
      let parts : ((not (may_have c false) || Gives false) ≡ true) × ((not (may_have c true) || Gives true) ≡ true) = both _ _ h in
      ap (λ m. not m || Gives false) (sym may) ∙ parts.0
  with_given_width true may h =
      let parts : ((not (may_have c false) || Gives false) ≡ true) × ((not (may_have c true) || Gives true) ≡ true) = both _ _ h in
      ap (λ m. not m || Gives true) (sym may) ∙ parts.1

  -- the entry is correct for each example of the bases after the position, and each value of the bits
  given_at_bits : (wide : Bool) (place index : ℕ) → may_have c wide ≡ true → gives_17 befores by_row after marks outcome is_unattached c ≡ true
      → place < kinds_after c → index < 16
      → gives_bits befores by_row after marks outcome is_unattached (asks c) wide (after wide place) (marks place) index ≡ true
  given_at_bits wide place index may h lt index_lt =
      below 16 (gives_bits befores by_row after marks outcome is_unattached (asks c) wide (after wide place) (marks place))
      (below (kinds_after c) (λ kind. gives_rest befores by_row after marks outcome is_unattached (asks c) wide (after wide kind) (marks kind)) (with_given_width wide may h) place lt)
      index index_lt

-- the shared list for a width has the results for a character of that width
after_of_17 : (is_wide : Bool) (symbol kind : ℕ)
    → after_in is_wide (by_is_wide (afters_17 false) (afters_17 true) is_wide) symbol kind ≡ answers_after_17 (with_width (shown_17 symbol) is_wide) (rest_at kind)
after_of_17 true symbol kind = after_at_17 true symbol kind
after_of_17 false symbol kind = after_at_17 false symbol kind

unjoined : (is_unattached is_joined : Bool) → (is_joined ≡ true → is_unattached ≡ false) → (is_unattached && is_joined) ≡ false
unjoined is_unattached true free = ap (λ b. b && true) (free refl)
unjoined is_unattached false free = and_false is_unattached

-- the mark of an entry's outcome is the mark of the rules, for each example of the bases after the next one
given_17 : (state symbol outcome : ℕ) (b : Bits) (wide : Bool) (place : ℕ)
    → AtBits state b
    → may_have (shown_17 symbol) wide ≡ true
    → (b.is_joined ≡ true → is unattached (bases_at_17 state) ≡ false)
    → given_by_17 (befores_at state) symbol outcome (is unattached (bases_at_17 state)) (shown_17 symbol) ≡ true
    → place < kinds_after (shown_17 symbol)
    → ((asks (shown_17 symbol) || nat_lt (decided_17 outcome b wide) 4) ≡ true)
    × (mark_of_17 (decided_17 outcome b wide) (rest_at place)
    ≡ decide_17 marks_by_row_17 (answered_17 b (answers_17 (bases_at_17 state))) (answers_after_17 (with_width (shown_17 symbol) wide) (rest_at place)))
given_17 state symbol outcome b wide place here may free gives lt =
    let c : Character = shown_17 symbol in
    let un : Bool = is unattached (bases_at_17 state) in
    let asked : Bool = asks (shown_17 symbol) in
    let at_index = given_at_bits (befores_at state) marks_by_row_17 (λ is_wide. after_in is_wide (by_is_wide (afters_17 false) (afters_17 true) is_wide) symbol) (marks_in rest_marks_17)
    outcome un c wide place (index_of b) may gives lt (is_below _ _ here.0) in
    let said : ((un && b.is_joined) || ((asked || nat_lt (decided_17 outcome b wide) 4)
    && is_mark (get_or (marks_17 (rest_at place)) (decided_17 outcome b wide) Never)
    (decide_17 marks_by_row_17 (answered_17 b (answers_17 (bases_at_17 state))) (answers_after_17 (with_width c wide) (rest_at place))))) ≡ true =
    rw (here.1, here.2, after_of_17 wide symbol place, marks_at_17 place) at at_index in
    let parts = both _ _ (rw (unjoined un b.is_joined free) at said) in
    (parts.0, is_mark_is _ _ parts.1)

-- if the next character begins a base, the mark of the outcome is the mark of the rules
module _ (walk : Walk17) (last : BaseCharacter) (others : List BaseCharacter) (stands : Stands17 walk last others) (symbol next_row outcome : ℕ) (c : Character)
    (shows : shown_17 symbol ≡ as_read_17 c) (entry_leads : Leads17 stands.state symbol next_row outcome) (begun : stays_17 stands.state symbol ≡ false) where
  free : (bits_in walk).is_joined ≡ true → is unattached (bases_at_17 stands.state) ≡ false
  free joined = sym stands.attaches ∙ joiner_attaches (end_of last).class (sym (ap (λ (b : Bits). b.is_joined) stands.bits) ∙ joined)

  given_at : (place : ℕ) → place < kinds_after (shown_17 symbol)
      → ((asks (shown_17 symbol) || nat_lt (decided_17 outcome (bits_in walk) (is_east_asian (alone c))) 4) ≡ true)
      × (mark_of_17 (decided_17 outcome (bits_in walk) (is_east_asian (alone c))) (rest_at place)
      ≡ decide_17 marks_by_row_17 (answered_17 (bits_in walk) (answers_17 (bases_at_17 stands.state)))
      (answers_after_17 (with_width (shown_17 symbol) (is_east_asian (alone c))) (rest_at place)))
  given_at place lt =
      let says : Begins17 stands.state symbol outcome entry_leads.next = beginning_17 _ _ _ _ (rw begun at entry_leads.leads) in
      given_17 stands.state symbol outcome (bits_in walk) (is_east_asian (alone c)) place
      (at_bits stands.state walk.is_joined walk.is_pictograph walk.is_wide walk.was_wide)
      (may_have_as_read c (shown_17 symbol) shows) free says.gives lt

  -- the mark of the rules, derived from the examples with which the table was checked
  ruled : (place : ℕ) (attached : List Character) (rest : List BaseCharacter)
      → map (λ row. row.after (record { first = c; attached = attached } ∷ rest)) rows_17 ≡ answers_after_17 c (rest_at place)
      → decide_17 marks_by_row_17 (answered_17 (bits_in walk) (answers_17 (bases_at_17 stands.state)))
      (answers_after_17 (with_width (shown_17 symbol) (is_east_asian (alone c))) (rest_at place))
      ≡ mark_by (rules V17_0 false) (last ∷ others) (record { first = c; attached = attached } ∷ rest)
  ruled place attached rest after =
      ap₂ (λ (bits : Bits) (row : List Bool). decide_17 marks_by_row_17 (answered_17 bits row)
      (answers_after_17 (with_width (shown_17 symbol) (is_east_asian (alone c))) (rest_at place))) stands.bits (sym stands.answered)
      ∙ ap (λ row. decide_17 marks_by_row_17 (answered_17 (bits_of last others) (answers_17 (last ∷ others))) row)
      (ap (λ d. answers_after_17 (with_width d (is_east_asian (alone c))) (rest_at place)) shows
      ∙ sym (answers_after_as_read_17 c (rest_at place)) ∙ sym after)
      ∙ sym (marked_17 last others (record { first = c; attached = attached } ∷ rest))

  asks_same : asks (shown_17 symbol) ≡ asks c
  asks_same = ap asks shows ∙ ap (λ circle. is_one_of (AK ∷ AS ∷ IS ∷ OP ∷ QU ∷ []) c.class || circle) (sym (circle_as_read c.class c.detail))

  pub marks_begun_17 : (text : List Character)
      → mark_of_17 (decided_17 outcome (bits_in walk) (is_east_asian (alone c))) (bases_after text)
      ≡ mark_by (rules V17_0 false) (last ∷ others) (bases_of (c ∷ text))
  marks_begun_17 text =
      let decided : ℕ = decided_17 outcome (bits_in walk) (is_east_asian (alone c)) in
      elim (cases_Bool (asks c)) [
        | inl asked ↦
            let rest : List BaseCharacter = bases_after text in
            let bases = second_bases c text (asked_attaches c.class c.detail asked) in
            let alike : facts rest ≡ facts (rest_at (kind rest)) = facts_kind rest in
            let below_all : kind rest < kinds_after (shown_17 symbol) = rw (asks_same ∙ asked) (is_below _ _ (kind_below rest)) in
            ap (λ marks. get_or marks decided Never) (marks_alike rest (rest_at (kind rest)) alike)
            ∙ (given_at (kind rest) below_all).1
            ∙ ruled (kind rest) bases.0 rest (after_alike rest (rest_at (kind rest)) alike c bases.0)
            ∙ ap (mark_by (rules V17_0 false) (last ∷ others)) (sym bases.1)
        | inr silent ↦
            let bases = first_base c text in
            let one : 0 < kinds_after (shown_17 symbol) = rw (asks_same ∙ silent) (omega arith) in
            let given = given_at 0 one in
            let small : nat_lt decided 4 ≡ true = rw (asks_same ∙ silent) at given.0 in
            same_mark decided (bases_after text) [] small
            ∙ given.1
            ∙ ruled 0 bases.0 bases.1 (after_any c bases.0 bases.1 silent)
            ∙ ap (mark_by (rules V17_0 false) (last ∷ others)) (sym bases.2)
      ]

-- the next character joins the last base if and only if its symbol joins the last base of the state
stays_is_17 : (walk : Walk17) (last : BaseCharacter) (others : List BaseCharacter) (stands : Stands17 walk last others) (symbol : ℕ) (c : Character)
    → shown_17 symbol ≡ as_read_17 c → stays_with (end_of last) c ≡ stays_17 stands.state symbol
stays_is_17 walk last others stands symbol c shows =
    ap (λ attaches. is_one_of (CM ∷ ZWJ ∷ []) c.class && not attaches) stands.attaches
    ∙ ap (λ d. is_one_of (CM ∷ ZWJ ∷ []) d.class && not (is unattached (bases_at_17 stands.state))) (sym shows)

-- the outcome is `STAYS` if and only if the next character joins the last base
outcome_stays_17 : (state symbol next_row outcome : ℕ) → Leads17 state symbol next_row outcome → (outcome == STAYS) ≡ stays_17 state symbol
outcome_stays_17 state symbol next_row outcome entry_leads =
    elim (cases_Bool (stays_17 state symbol)) [
      | inl stay ↦
          let led : leads_17 true state symbol outcome entry_leads.next ≡ true = rw stay at entry_leads.leads in
          (both _ _ led).0 ∙ sym stay
      | inr begun ↦
          let led : leads_17 false state symbol outcome entry_leads.next ≡ true = rw begun at entry_leads.leads in
          not_true _ (both _ _ led).0 ∙ sym begun
    ]

-- one step of the walk
abbrev pub Passes17 : Walk17 → BaseCharacter → List BaseCharacter → Character → ℕ → Type 0
Passes17 after last others c decided = Passes (rules V17_0 false) (mark_of_17 decided) (Stands17 after) last others c

-- `Passes17` holds for a character that joins the last base
pub passes_stay_17 : (walk : Walk17) (symbol next_row outcome : ℕ) (c : Character) → symbol < SYMBOL_COUNT → shown_17 symbol ≡ as_read_17 c
    → next_row ≡ get_or NEXT_ROWS (walk.row + symbol) 0 → outcome ≡ get_or OUTCOMES (walk.row + symbol) 0 → (outcome == STAYS) ≡ true
    → (last : BaseCharacter) (others : List BaseCharacter) → Stands17 walk last others
    → Passes17 (record walk { row = next_row; is_joined = symbol == JOINER }) last others c NEVER
passes_stay_17 walk symbol next_row outcome c symbol_lt shows reads_row reads_outcome stay last others stands =
    let entry_leads : Leads17 stands.state symbol next_row outcome = entry_is_right_17 stands.state symbol walk.row next_row outcome stands.below symbol_lt stands.row reads_row reads_outcome in
    let stays : stays_17 stands.state symbol ≡ true = sym (outcome_stays_17 stands.state symbol next_row outcome entry_leads) ∙ stay in
    rw (stays_is_17 walk last others stands symbol c shows, stays) (
      λ rest. refl,
      attached_17 walk last others stands symbol next_row outcome c symbol_lt shows entry_leads stays,
    )

-- `Passes17` holds for a character that begins a base
pub passes_begin_17 : (walk : Walk17) (symbol next_row outcome decided : ℕ) (is_pictograph next_is_wide : Bool) (c : Character) → symbol < SYMBOL_COUNT
    → shown_17 symbol ≡ as_read_17 c → next_row ≡ get_or NEXT_ROWS (walk.row + symbol) 0 → outcome ≡ get_or OUTCOMES (walk.row + symbol) 0
    → (outcome == STAYS) ≡ false → is_pictograph ≡ c.is_future_pictograph → next_is_wide ≡ is_east_asian (alone c)
    → decided ≡ decided_17 outcome (bits_in walk) next_is_wide
    → (last : BaseCharacter) (others : List BaseCharacter) → Stands17 walk last others
    → Passes17 (record {
      row = next_row;
      is_joined = symbol == JOINER;
      is_pictograph = is_pictograph;
      is_wide = next_is_wide;
      was_wide = walk.is_wide;
    }) last others c decided
passes_begin_17 walk symbol next_row outcome decided is_pictograph next_is_wide c symbol_lt shows reads_row reads_outcome begin pictograph wide is last others stands =
    let entry_leads : Leads17 stands.state symbol next_row outcome = entry_is_right_17 stands.state symbol walk.row next_row outcome stands.below symbol_lt stands.row reads_row reads_outcome in
    let begun : stays_17 stands.state symbol ≡ false = sym (outcome_stays_17 stands.state symbol next_row outcome entry_leads) ∙ begin in
    rw (is, wide, pictograph, stays_is_17 walk last others stands symbol c shows, begun) (
      marks_begun_17 walk last others stands symbol next_row outcome c shows entry_leads begun,
      begins_17 stands.state symbol next_row outcome c (last ∷ others) walk.is_wide symbol_lt shows entry_leads begun stands.carries
          (ap (λ (b : Bits). b.is_wide) stands.bits),
    )

-- the first character of a text is read as if it came after BK, and the resulting state belongs to the base
-- with that character
pub starts_17 : (symbol next_row : ℕ) (is_pictograph is_wide : Bool) (c : Character) → symbol < SYMBOL_COUNT → shown_17 symbol ≡ as_read_17 c
    → next_row ≡ get_or NEXT_ROWS (0 + symbol) 0 → is_pictograph ≡ c.is_future_pictograph → is_wide ≡ is_east_asian (alone c)
    → Stands17 (record {
      row = next_row;
      is_joined = symbol == JOINER;
      is_pictograph = is_pictograph;
      is_wide = is_wide;
      was_wide = false;
    }) (alone c) []
starts_17 symbol next_row is_pictograph is_wide c symbol_lt shows reads_row pictograph wide =
    let outcome : ℕ = get_or OUTCOMES (0 + symbol) 0 in
    rw (pictograph, wide) (begins_17 0 symbol next_row outcome c [] false symbol_lt shows
    (entry_is_right_17 0 symbol 0 next_row outcome (omega arith) symbol_lt refl reads_row refl) (and_false _) refl refl)

-- the next row in each entry is a row of the table, and the outcome is one of the outcomes
pub row_within_17 : (place next_row : ℕ) → place < ENTRY_COUNT → next_row ≡ get_or NEXT_ROWS place 0 → next_row ≤ LAST_ROW
row_within_17 place next_row lt = entries_within NEXT_ROWS LAST_ROW refl rows_are_within_17 place next_row

pub outcome_below_17 : (place outcome : ℕ) → place < ENTRY_COUNT → outcome ≡ get_or OUTCOMES place 0 → outcome < OUTCOME_COUNT
outcome_below_17 place outcome lt = entries_below OUTCOMES OUTCOME_COUNT refl outcomes_are_within_17 place outcome
