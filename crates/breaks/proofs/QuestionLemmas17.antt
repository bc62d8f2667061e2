-- The answers to questions about the bases after the next one are those of the table of Unicode 17.0.
use Rattle.std.proofs.Common.{◌≡◌, ℕ, ◌+◌, ◌-◌, ◌*◌, ◌<◌, ◌≤◌, ◌==◌, nat_lt, Bool, true, false, not, ◌&&◌, ◌||◌, List, [], ◌∷◌, get_or, refl, sym, ap, ◌∙◌, arith, inl, inr}
use Rattle.std.proofs.lemmas.Bool.{cases_Bool}
use Rattle.ucd.specs.declared.line_class.LineClass.TheVariants.{CM, CP, NU, OP, ZWJ}
use Rattle.breaks.specs.Bases.{BaseCharacter, Character, alone, bases_of}
use Rattle.breaks.specs.Classes.{is_one_of}
use Rattle.breaks.specs.Rules.{is}
use Rattle.breaks.specs.Symbols.{shown_17, as_read_17}
use Rattle.breaks.specs.Walk.{unattached}
use Rattle.breaks.specs.Passes.{bases_after}
use Rattle.breaks.specs.Walk17.{by_width, mark_of_17}
use Rattle.breaks.specs.declared.mark.Mark.TheVariants.{Never}
use Rattle.breaks.specs.declared.entries_17.TheConstants.{ANSWERS}
use Rattle.breaks.specs.declared.symbol_17.TheConstants.{ATTACHED, SYMBOL_COUNT}
use Rattle.breaks.specs.declared.table_17.TheConstants.{DECIDED_COUNT, LB15B, LB25_IS, QUESTION_COUNT}
use Rattle.breaks.proofs.BoolLemmas.{all_below, below, both, is_below, is_equal, is_less, is_no_less, same}
use Rattle.breaks.proofs.Computed17.{answer_right, answer_right_at, answer_right_by, answers_are_right, answers_by, digit_or_none, is_answer, may_have, with_width}
use Rattle.breaks.proofs.PassLemmas.{first_base, is_mark_is, not_true, second_bases}
use Rattle.breaks.proofs.PassLemmas17.{facts, marks_alike, same_mark}
use Rattle.breaks.proofs.QuestionLemmas.{not_false, skipped}
use Rattle.breaks.proofs.SymbolLemmas17.{is_not_attached_17}

-- the width of a character is one that its symbol allows
paren_width : (is_paren wide : Bool) → (not is_paren || same (is_paren && wide) wide) ≡ true
paren_width true true = refl
paren_width true false = refl
paren_width false wide = refl

may_be : (c shown : Character) → shown ≡ as_read_17 c → may_have shown c.is_wide ≡ true
may_be c shown shows = ap (λ d. may_have d c.is_wide) shows ∙ paren_width (is_one_of (CP ∷ OP ∷ []) c.class) c.is_wide

digit_is : (before_digit : Bool) → is (NU ∷ []) (digit_or_none before_digit) ≡ before_digit
digit_is true = refl
digit_is false = refl

-- the mark of an answer depends on the later bases only through whether the nearest one is NU
same_answer : (c : Character) (answer : ℕ) (rest : List BaseCharacter) → is_answer c answer ≡ true
    → mark_of_17 answer (digit_or_none (is (NU ∷ []) rest)) ≡ mark_of_17 answer rest
same_answer c answer rest h =
    elim (cases_Bool (nat_lt answer 4)) [
      | inl small ↦ same_mark answer (digit_or_none (is (NU ∷ []) rest)) rest small
      | inr large ↦
          let asked : (not (is_one_of unattached c.class) && (answer == LB25_IS)) ≡ true = rw large at h in
          let question : answer ≡ LB25_IS = is_equal _ _ (both _ _ asked).1 in
          rw (question, digit_is (is (NU ∷ []) rest)) refl
    ]

-- ---- the answers before a character that begins a base
right_by : (question : ℕ) (shown : Character) (answer : ℕ) (is_wide : Bool) → may_have shown is_wide ≡ true
    → answer_right_by question shown answer false ≡ true → answer_right_by question shown answer true ≡ true
    → answer_right question (with_width shown is_wide) (by_width answer is_wide) ≡ true
right_by question shown answer false may narrow wide = ap (λ m. not m || answer_right question (with_width shown false) (by_width answer false)) (sym may) ∙ narrow
right_by question shown answer true may narrow wide = ap (λ m. not m || answer_right question (with_width shown true) (by_width answer true)) (sym may) ∙ wide

right_at : (question symbol answer : ℕ) (c : Character) → LB15B ≤ question → question < DECIDED_COUNT → symbol < ATTACHED → nat_lt symbol ATTACHED ≡ true
    → shown_17 symbol ≡ as_read_17 c → answer ≡ get_or ANSWERS ((question - LB15B) * SYMBOL_COUNT + symbol) 0
    → answer_right question (with_width (shown_17 symbol) c.is_wide) (by_width answer c.is_wide) ≡ true
right_at question symbol answer c ge lt begins begin shows reads =
    let index : ℕ = question - LB15B in
    let whole : question - LB15B + LB15B ≡ question = omega arith in
    let row = below QUESTION_COUNT (λ index. all_below SYMBOL_COUNT (answer_right_at index)) answers_are_right (question - LB15B) (omega arith) in
    let entry = below SYMBOL_COUNT (answer_right_at (question - LB15B)) row symbol (omega arith) in
    let parts : (answer_right_by question (shown_17 symbol) answer false ≡ true) × (answer_right_by question (shown_17 symbol) answer true ≡ true) =
    both _ _ (rw (begin, ← reads, whole) at entry) in
    right_by question (shown_17 symbol) answer c.is_wide (may_be c (shown_17 symbol) shows) parts.0 parts.1

-- the facts about the next base depend only on its symbol, its width and whether a base of class NU follows it
same_bases : (c shown : Character) (attached : List Character) (rest : List BaseCharacter) → shown ≡ as_read_17 c
    → facts (record { first = c; attached = attached } ∷ rest) ≡ facts (alone (with_width shown c.is_wide) ∷ digit_or_none (is (NU ∷ []) rest))
unfolding facts
same_bases c shown attached rest shows = rw (shows, digit_is (is (NU ∷ []) rest)) refl

one_by : (question answer : ℕ) (d : Character) (before_digit : Bool) → answers_by question d answer false ≡ true → answers_by question d answer true ≡ true
    → mark_of_17 question (alone d ∷ digit_or_none before_digit) ≡ mark_of_17 answer (digit_or_none before_digit)
one_by question answer d true without with_digit = is_mark_is _ _ with_digit
one_by question answer d false without with_digit = is_mark_is _ _ without

abbrev Said : ℕ → Character → ℕ → Type 0
Said question c answer =
    ((attached : List Character) (rest : List BaseCharacter) → mark_of_17 question (record { first = c; attached = attached } ∷ rest) ≡ mark_of_17 answer rest)
    × (nat_lt answer 4 ≡ false → is_one_of unattached c.class ≡ false)
    × (answer < DECIDED_COUNT)

answer_said : (question symbol answer result : ℕ) (c : Character) → LB15B ≤ question → question < DECIDED_COUNT → symbol < ATTACHED → nat_lt symbol ATTACHED ≡ true
    → shown_17 symbol ≡ as_read_17 c → answer ≡ get_or ANSWERS ((question - LB15B) * SYMBOL_COUNT + symbol) 0 → result ≡ by_width answer c.is_wide
    → Said question c result
answer_said question symbol answer result c ge lt begins begin shows reads equals =
    let d : Character = with_width (shown_17 symbol) c.is_wide in
    let right : answer_right question (with_width (shown_17 symbol) c.is_wide) result ≡ true = rw equals (right_at question symbol answer c ge lt begins begin shows reads) in
    let parts : (is_answer d result ≡ true) × ((answers_by question d result false && answers_by question d result true) ≡ true) = both _ _ right in
    let marks : (answers_by question d result false ≡ true) × (answers_by question d result true ≡ true) = both _ _ parts.1 in
    let class : d.class ≡ c.class = ap (λ (e : Character). e.class) shows in (
      λ attached rest.
          ap (λ marks. get_or marks question Never) (marks_alike _ _ (same_bases c (shown_17 symbol) attached rest shows))
          ∙ one_by question result d (is (NU ∷ []) rest) marks.0 marks.1
          ∙ same_answer d result rest parts.0,
      λ large.
          let asked : (not (is_one_of unattached d.class) && (result == LB25_IS)) ≡ true = rw large at parts.0 in
          ap (is_one_of unattached) (sym class) ∙ not_true _ (both _ _ asked).0,
      elim (cases_Bool (nat_lt result 4)) [
        | inl small ↦ (let under : result < 4 = is_below _ _ small in omega arith)
        | inr large ↦
            let asked : (not (is_one_of unattached d.class) && (result == LB25_IS)) ≡ true = rw large at parts.0 in
            let parts : (not (is_one_of unattached d.class) ≡ true) × ((result == LB25_IS) ≡ true) = both _ _ asked in
            let again : result ≡ LB25_IS = is_equal result LB25_IS parts.1 in
            omega arith
      ],
    )

-- the answer to a question, given the next character, is the entry in the table, adjusted to the character's
-- width
pub answered : (question symbol answer result : ℕ) (c : Character) → LB15B ≤ question → question < DECIDED_COUNT → symbol < SYMBOL_COUNT → symbol < ATTACHED
    → shown_17 symbol ≡ as_read_17 c → answer ≡ get_or ANSWERS ((question - LB15B) * SYMBOL_COUNT + symbol) 0 → result ≡ by_width answer c.is_wide
    → ((text : List Character) → mark_of_17 question (bases_after (c ∷ text)) ≡ mark_of_17 result (bases_after text)) × (result < DECIDED_COUNT)
answered question symbol answer result c ge lt within before shows reads equals =
    let begin : nat_lt symbol ATTACHED ≡ true = is_less symbol ATTACHED before in
    let other : is_one_of (CM ∷ ZWJ ∷ []) c.class ≡ false =
    ap (λ d. is_one_of (CM ∷ ZWJ ∷ []) d.class) (sym shows) ∙ not_true _ (sym (is_not_attached_17 symbol within) ∙ begin) in
    let says : Said question c result = answer_said question symbol answer result c ge lt before begin shows reads equals in (
      λ text. elim (cases_Bool (nat_lt result 4)) [
        | inl small ↦
            let bases = first_base c text in
            let begun : bases_after (c ∷ text) ≡ bases_of (c ∷ text) = rw other refl in
            ap (mark_of_17 question) (begun ∙ bases.2) ∙ says.0 bases.0 bases.1 ∙ same_mark result bases.1 (bases_after text) small
        | inr large ↦
            let bases = second_bases c text (says.1 large) in
            let begun : bases_after (c ∷ text) ≡ bases_of (c ∷ text) = rw other refl in
            ap (mark_of_17 question) (begun ∙ bases.1) ∙ says.0 bases.0 (bases_after text)
      ],
      says.2,
    )

-- a character that joins the base before it does not change the answer to a question
pub passed_over : (question symbol : ℕ) (c : Character) (text : List Character) → symbol < SYMBOL_COUNT → ATTACHED ≤ symbol → shown_17 symbol ≡ as_read_17 c
    → mark_of_17 question (bases_after (c ∷ text)) ≡ mark_of_17 question (bases_after text)
passed_over question symbol c text within ge shows =
    let joins : is_one_of (CM ∷ ZWJ ∷ []) c.class ≡ true =
    ap (λ d. is_one_of (CM ∷ ZWJ ∷ []) d.class) (sym shows) ∙ not_false _ (sym (is_not_attached_17 symbol within) ∙ is_no_less symbol ATTACHED ge) in
    ap (mark_of_17 question) (skipped c text joins)
