-- The results of all conditions after one step of the walk.
use Rattle.std.proofs.Common.{◌≡◌, ℕ, ◌+◌, ◌%◌, ◌==◌, Bool, true, false, not, cond, ◌&&◌, ◌||◌, List, [], ◌∷◌, ◌++◌, map, get_or, refl, sym, ap, ◌∙◌, arith, if◌then◌else◌}
use Rattle.ucd.specs.declared.version.Version.TheVariants.{V15_0}
use Rattle.std.specs.List.{prefix_len}
use Rattle.std.proofs.lemmas.Bool.Decides.{nat_tests}
use Rattle.ucd.specs.declared.line_class.LineClass.{LineClass}
use Rattle.ucd.specs.declared.line_class.LineClass.TheVariants.{B2, BA, CL, CM, CP, HL, HY, NU, OP, QU, RI, SP, ZW, ZWJ}
use Rattle.breaks.specs.Bases.{BaseCharacter, Character, alone, class_of, end_of, last_of}
use Rattle.breaks.specs.Classes.{is_same, is_one_of}
use Rattle.breaks.specs.Numbers.{affix, closing, middle, opening, is_in_number}
use Rattle.breaks.specs.Rules.{Row, Rule, rule_of, rules, rows_before_numbers, rows_of_numbers, rows_after_numbers, mark_by, is, is_pair, is_spaced, without_spaces, ends_in_odd_run}
use Rattle.breaks.specs.Symbols.{narrow, as_read}
use Rattle.breaks.specs.Walk.{answers, begins_unaffixed, carried, ends_in_closed_digits, ends_in_digits, goes_on_after_digits, number_rows, rows}
use Rattle.breaks.specs.declared.mark.Mark.{Mark}
use Rattle.breaks.specs.declared.mark.Mark.TheVariants.{Never, May}
use Rattle.breaks.proofs.BoolLemmas.{cons}
use Rattle.breaks.proofs.NumberLemmas.{in_number_is}
use Rattle.breaks.proofs.SymbolLemmas.{narrow_before}
use Rattle.breaks.proofs.Computed.{decide, answered_with, marks_by_row}

-- a character that is attached to a base becomes the last character of the base
pub end_attached : (first : Character) (attached : List Character) (c : Character) → last_of first (attached ++ c ∷ []) ≡ c
end_attached first [] c = refl
end_attached first (a ∷ attached) c = end_attached a attached c

-- the mark of the first row that applies, or the given mark if none does
abbrev pub row_mark : List Row → Mark → List BaseCharacter → List BaseCharacter → Mark
row_mark [] else_mark before after = else_mark
row_mark (row ∷ rest) else_mark before after = if row.before before && row.after after then row.mark else row_mark rest else_mark before after

pub rules_of_rows : (some : List Row) (more : List Rule) (before after : List BaseCharacter) → mark_by (map rule_of some ++ more) before after ≡ row_mark some (mark_by more before after) before after
rules_of_rows [] more before after = refl
rules_of_rows (row ∷ some) more before after = ap (λ mark. if row.before before && row.after after then row.mark else mark) (rules_of_rows some more before after)

pub last_rules_of_rows : (some : List Row) (before after : List BaseCharacter) → mark_by (map rule_of some) before after ≡ row_mark some May before after
last_rules_of_rows [] before after = refl
last_rules_of_rows (row ∷ some) before after = ap (λ mark. if row.before before && row.after after then row.mark else mark) (last_rules_of_rows some before after)

pub more_rows : (some more : List Row) (mark : Mark) (before after : List BaseCharacter) → row_mark (some ++ more) mark before after ≡ row_mark some (row_mark more mark before after) before after
more_rows [] more mark before after = refl
more_rows (row ∷ some) more mark before after = ap (λ rest. if row.before before && row.after after then row.mark else rest) (more_rows some more mark before after)

pub chosen : (b : Bool) (mark one other : Mark) → one ≡ other → (if b then mark else one) ≡ elim b as (λ _. Mark) [ true ↦ mark | false ↦ other ]
chosen true mark one other same = refl
chosen false mark one other same = same

-- the mark of the rows is the result of `decide` for the results of their conditions
decides : (some : List Row) (before after : List BaseCharacter) → row_mark some May before after ≡ decide (map (λ row. row.mark) some) (map (λ row. row.before before) some) (map (λ row. row.after after) some)
decides [] before after = refl
decides (row ∷ some) before after = chosen (row.before before && row.after after) row.mark _ _ (decides some before after)

four : (a b c d : Bool) (mark : Mark) → (if a || (b || (c || d)) then Never else mark) ≡ (if a then Never else if b then Never else if c then Never else if d then Never else mark)
four true b c d mark = refl
four false true c d mark = refl
four false false true d mark = refl
four false false false true mark = refl
four false false false false mark = refl

-- the rule on whole numbers has the same mark as its rows
number_mark : (mark : Mark) (before after : List BaseCharacter) → (if is_in_number before after then Never else mark) ≡ row_mark (number_rows true) mark before after
number_mark mark before after =
    ap (λ whole. if whole then Never else mark) (in_number_is before after)
    ∙ four (is affix before && begins_unaffixed after) (is opening before && is (NU ∷ []) after)
    (ends_in_digits before && is goes_on_after_digits after) (ends_in_closed_digits before && is affix after) mark

-- all rules together have the same mark as their rows
rows_mark : (whole_numbers : Bool) (before after : List BaseCharacter) → mark_by (rules V15_0 whole_numbers) before after
    ≡ row_mark (rows_before_numbers V15_0)
    (row_mark (number_rows whole_numbers) (row_mark (rows_after_numbers V15_0) May before after) before after) before after
unfolding rules
rows_mark true before after =
    rules_of_rows (rows_before_numbers V15_0) _ before after
    ∙ ap (λ mark. row_mark (rows_before_numbers V15_0) mark before after)
    (ap (λ mark. if is_in_number before after then Never else mark) (last_rules_of_rows (rows_after_numbers V15_0) before after)
    ∙ number_mark (row_mark (rows_after_numbers V15_0) May before after) before after)
rows_mark false before after =
    rules_of_rows (rows_before_numbers V15_0) _ before after
    ∙ ap (λ mark. row_mark (rows_before_numbers V15_0) mark before after)
    (rules_of_rows (rows_of_numbers V15_0) _ before after
    ∙ ap (λ mark. row_mark (rows_of_numbers V15_0) mark before after) (last_rules_of_rows (rows_after_numbers V15_0) before after))

rules_decide : (whole_numbers : Bool) (before after : List BaseCharacter) → mark_by (rules V15_0 whole_numbers) before after
    ≡ decide (marks_by_row whole_numbers) (map (λ row. row.before before) (rows whole_numbers))
    (map (λ row. row.after after) (rows whole_numbers))
unfolding rows
rules_decide whole_numbers before after =
    rows_mark whole_numbers before after
    ∙ sym (more_rows (rows_before_numbers V15_0) (number_rows whole_numbers ++ (rows_after_numbers V15_0)) May before after
    ∙ ap (λ mark. row_mark (rows_before_numbers V15_0) mark before after) (more_rows (number_rows whole_numbers) (rows_after_numbers V15_0) May before after))
    ∙ decides ((rows_before_numbers V15_0) ++ (number_rows whole_numbers ++ (rows_after_numbers V15_0))) before after

-- after one more base, each condition on several bases depends on that base and on a carried result
pub pair_after : (firsts classes : List LineClass) (b : BaseCharacter) (bases : List BaseCharacter) → is_pair firsts classes (b ∷ bases) ≡ (is firsts bases && is_one_of classes (class_of b))
pair_after firsts classes b [] = refl
pair_after firsts classes b (a ∷ bases) = refl

pub spaced_after : (classes : List LineClass) (b : BaseCharacter) (bases : List BaseCharacter) → is_spaced classes (b ∷ bases) ≡ (if is_same (class_of b) SP then is_spaced classes bases else is_one_of classes (class_of b))
spaced_after classes b bases =
    elim (is_same (class_of b) SP) as (λ space. is classes (if space then without_spaces bases else b ∷ bases)
    ≡ (if space then is_spaced classes bases else is_one_of classes (class_of b))) [ true ↦ refl | false ↦ refl ]

-- the conditions with `SP*` depend on the last base only through its class
pub spaced_same_class : (classes : List LineClass) (b d : BaseCharacter) (bases : List BaseCharacter) → class_of b ≡ class_of d → is_spaced classes (b ∷ bases) ≡ is_spaced classes (d ∷ bases)
spaced_same_class classes b d bases e =
    spaced_after classes b bases
    ∙ ap (λ c. if is_same c SP then is_spaced classes bases else is_one_of classes c) e
    ∙ sym (spaced_after classes d bases)

odd_more : (n : ℕ) → ((1 + n) % 2 == 1) ≡ not (n % 2 == 1)
odd_more n = grind (arith, nat_tests)

pub odd_after : (b : BaseCharacter) (bases : List BaseCharacter) → ends_in_odd_run (b ∷ bases) ≡ (is_same (class_of b) RI && not (ends_in_odd_run bases))
odd_after b bases =
    elim (is_same (class_of b) RI) as (λ r. (cond r (1 + prefix_len (λ b. is_same (class_of b) RI) bases) 0 % 2 == 1) ≡ (r && not (ends_in_odd_run bases))) [
      | true ↦ odd_more (prefix_len (λ b. is_same (class_of b) RI) bases)
      | false ↦ refl
    ]

-- if these conditions are the same for two lists of bases, they are still the same after one more base
module _ (b : BaseCharacter) (p q : List BaseCharacter) where
  pub spaced_same : (classes : List LineClass) → is_spaced classes p ≡ is_spaced classes q → is_spaced classes (b ∷ p) ≡ is_spaced classes (b ∷ q)
  spaced_same classes e = spaced_after classes b p ∙ ap (λ s. if is_same (class_of b) SP then s else is_one_of classes (class_of b)) e ∙ sym (spaced_after classes b q)

  pub odd_same : ends_in_odd_run p ≡ ends_in_odd_run q → ends_in_odd_run (b ∷ p) ≡ ends_in_odd_run (b ∷ q)
  odd_same e = odd_after b p ∙ ap (λ o. is_same (class_of b) RI && not o) e ∙ sym (odd_after b q)

  pub pair_same : (classes : List LineClass) → is (HL ∷ []) p ≡ is (HL ∷ []) q → is_pair (HL ∷ []) classes (b ∷ p) ≡ is_pair (HL ∷ []) classes (b ∷ q)
  pair_same classes e = pair_after (HL ∷ []) classes b p ∙ ap (λ h. h && is_one_of classes (class_of b)) e ∙ sym (pair_after (HL ∷ []) classes b q)

module _ (b : BaseCharacter) (p q : List BaseCharacter) (carry : carried p ≡ carried q) where
  zw : is_spaced (ZW ∷ []) (b ∷ p) ≡ is_spaced (ZW ∷ []) (b ∷ q)
  zw = spaced_same b p q (ZW ∷ []) (ap (λ l. get_or l 1 false) carry)

  op : is_spaced (OP ∷ []) (b ∷ p) ≡ is_spaced (OP ∷ []) (b ∷ q)
  op = spaced_same b p q (OP ∷ []) (ap (λ l. get_or l 2 false) carry)

  qu : is_spaced (QU ∷ []) (b ∷ p) ≡ is_spaced (QU ∷ []) (b ∷ q)
  qu = spaced_same b p q (QU ∷ []) (ap (λ l. get_or l 3 false) carry)

  after_closing : is_spaced (CL ∷ CP ∷ []) (b ∷ p) ≡ is_spaced (CL ∷ CP ∷ []) (b ∷ q)
  after_closing = spaced_same b p q (CL ∷ CP ∷ []) (ap (λ l. get_or l 4 false) carry)

  dash : is_spaced (B2 ∷ []) (b ∷ p) ≡ is_spaced (B2 ∷ []) (b ∷ q)
  dash = spaced_same b p q (B2 ∷ []) (ap (λ l. get_or l 5 false) carry)

  odd : ends_in_odd_run (b ∷ p) ≡ ends_in_odd_run (b ∷ q)
  odd = odd_same b p q (ap (λ l. get_or l 6 false) carry)

  digits : ends_in_digits (b ∷ p) ≡ ends_in_digits (b ∷ q)
  digits = ap (λ digits. is_same (class_of b) NU || (is_one_of middle (class_of b) && digits)) (ap (λ l. get_or l 7 false) carry)

  closed_digits : ends_in_closed_digits (b ∷ p) ≡ ends_in_closed_digits (b ∷ q)
  closed_digits = ap (λ digits. is_one_of closing (class_of b) && digits) (ap (λ l. get_or l 7 false) carry)

  pub carried_same : carried (b ∷ p) ≡ carried (b ∷ q)
  carried_same = cons _ _ _ _ refl (cons _ _ _ _ zw (cons _ _ _ _ op (cons _ _ _ _ qu (cons _ _ _ _ after_closing (cons _ _ _ _ dash (cons _ _ _ _ odd (cons _ _ _ _ digits refl)))))))

-- the carried results depend on the last base only through its class
pub carried_same_class : (b d : BaseCharacter) (bases : List BaseCharacter) → class_of b ≡ class_of d → carried (b ∷ bases) ≡ carried (d ∷ bases)
carried_same_class b d bases e =
    cons _ _ _ _ (ap (is_one_of (HL ∷ [])) e)
    (cons _ _ _ _ (spaced_same_class (ZW ∷ []) b d bases e)
    (cons _ _ _ _ (spaced_same_class (OP ∷ []) b d bases e)
    (cons _ _ _ _ (spaced_same_class (QU ∷ []) b d bases e)
    (cons _ _ _ _ (spaced_same_class (CL ∷ CP ∷ []) b d bases e)
    (cons _ _ _ _ (spaced_same_class (B2 ∷ []) b d bases e)
    (cons _ _ _ _ (odd_after b bases ∙ ap (λ c. is_same c RI && not (ends_in_odd_run bases)) e ∙ sym (odd_after d bases))
    (cons _ _ _ _ (ap (λ c. is_same c NU || (is_one_of middle c && ends_in_digits bases)) e) refl)))))))

answers_same_plain : (whole_numbers : Bool) (b : BaseCharacter) (p q : List BaseCharacter) → carried p ≡ carried q
    → map (λ row. row.before (b ∷ p)) (rows whole_numbers) ≡ map (λ row. row.before (b ∷ q)) (rows whole_numbers)
unfolding rows rows_before_numbers rows_of_numbers rows_after_numbers
answers_same_plain true b p q carry =
    rw (
      zw b p q carry,
      op b p q carry,
      qu b p q carry,
      after_closing b p q carry,
      dash b p q carry,
      odd b p q carry,
      pair_same b p q (BA ∷ HY ∷ []) (ap (λ l. get_or l 0 false) carry),
      digits b p q carry,
      closed_digits b p q carry,
    ) refl
answers_same_plain false b p q carry = rw (zw b p q carry, op b p q carry, qu b p q carry, after_closing b p q carry, dash b p q carry, odd b p q carry, pair_same b p q (BA ∷ HY ∷ []) (ap (λ l. get_or l 0 false) carry)) refl

pub answers_same : (whole_numbers : Bool) (b : BaseCharacter) (p q : List BaseCharacter) → carried p ≡ carried q → answers whole_numbers (b ∷ p) ≡ answers whole_numbers (b ∷ q)
answers_same whole_numbers b p q carry = answers_same_plain whole_numbers (record { first = record b.first { is_future_pictograph = false }; attached = narrow CM ∷ [] }) p q carry

-- the results of all conditions are those in `answers`, except LB8a and the pictograph case of LB30b, which
-- depend on the last base
all_answers : (whole_numbers : Bool) (last : BaseCharacter) (others : List BaseCharacter)
    → map (λ row. row.before (last ∷ others)) (rows whole_numbers)
    ≡ answered_with whole_numbers (is_same (end_of last).class ZWJ) last.first.is_future_pictograph
    (answers whole_numbers (last ∷ others))
unfolding rows rows_before_numbers rows_of_numbers rows_after_numbers
all_answers true last others =
    let plain_last : BaseCharacter = record { first = record last.first { is_future_pictograph = false }; attached = narrow CM ∷ [] } in
    rw (
      spaced_same_class (ZW ∷ []) last plain_last others refl,
      spaced_same_class (OP ∷ []) last plain_last others refl,
      spaced_same_class (QU ∷ []) last plain_last others refl,
      spaced_same_class (CL ∷ CP ∷ []) last plain_last others refl,
      spaced_same_class (B2 ∷ []) last plain_last others refl,
    ) refl
all_answers false last others =
    let plain_last : BaseCharacter = record { first = record last.first { is_future_pictograph = false }; attached = narrow CM ∷ [] } in
    rw (
      spaced_same_class (ZW ∷ []) last plain_last others refl,
      spaced_same_class (OP ∷ []) last plain_last others refl,
      spaced_same_class (QU ∷ []) last plain_last others refl,
      spaced_same_class (CL ∷ CP ∷ []) last plain_last others refl,
      spaced_same_class (B2 ∷ []) last plain_last others refl,
    ) refl

pub marked : (whole_numbers : Bool) (last : BaseCharacter) (others after : List BaseCharacter)
    → mark_by (rules V15_0 whole_numbers) (last ∷ others) after
    ≡ decide (marks_by_row whole_numbers)
    (answered_with whole_numbers (is_same (end_of last).class ZWJ) last.first.is_future_pictograph
    (answers whole_numbers (last ∷ others))) (map (λ row. row.after after) (rows whole_numbers))
marked whole_numbers last others after =
    rules_decide whole_numbers (last ∷ others) after
    ∙ ap (λ befores. decide (marks_by_row whole_numbers) befores (map (λ row. row.after after) (rows whole_numbers))) (all_answers whole_numbers last others)

-- attaching a character changes no condition except LB8a
pub answers_attached : (whole_numbers : Bool) (last : BaseCharacter) (others : List BaseCharacter) (attached : List Character)
    → answers whole_numbers (record { first = last.first; attached = attached } ∷ others)
    ≡ answers whole_numbers (last ∷ others)
unfolding rows rows_before_numbers rows_of_numbers rows_after_numbers
answers_attached true last others attached = refl
answers_attached false last others attached = refl

pub carried_attached : (last : BaseCharacter) (others : List BaseCharacter) (attached : List Character) → carried (record { first = last.first; attached = attached } ∷ others) ≡ carried (last ∷ others)
carried_attached last others attached = carried_same_class (record { first = last.first; attached = attached }) last others refl

-- the conditions depend on the first character of a base only through its symbol
pub answers_as_read : (whole_numbers : Bool) (c : Character) (bases : List BaseCharacter) → answers whole_numbers (alone c ∷ bases) ≡ answers whole_numbers (alone (as_read c) ∷ bases)
unfolding rows rows_before_numbers rows_of_numbers rows_after_numbers
answers_as_read true c bases =
    let read : BaseCharacter = record { first = record c { is_future_pictograph = false }; attached = narrow CM ∷ [] } in
    let base_as_read : BaseCharacter = record { first = as_read c; attached = narrow CM ∷ [] } in
    rw (
      narrow_before c.class c.is_wide,
      spaced_same_class (ZW ∷ []) read base_as_read bases refl,
      spaced_same_class (OP ∷ []) read base_as_read bases refl,
      spaced_same_class (QU ∷ []) read base_as_read bases refl,
      spaced_same_class (CL ∷ CP ∷ []) read base_as_read bases refl,
      spaced_same_class (B2 ∷ []) read base_as_read bases refl,
    ) refl
answers_as_read false c bases =
    let read : BaseCharacter = record { first = record c { is_future_pictograph = false }; attached = narrow CM ∷ [] } in
    let base_as_read : BaseCharacter = record { first = as_read c; attached = narrow CM ∷ [] } in
    rw (
      narrow_before c.class c.is_wide,
      spaced_same_class (ZW ∷ []) read base_as_read bases refl,
      spaced_same_class (OP ∷ []) read base_as_read bases refl,
      spaced_same_class (QU ∷ []) read base_as_read bases refl,
      spaced_same_class (CL ∷ CP ∷ []) read base_as_read bases refl,
      spaced_same_class (B2 ∷ []) read base_as_read bases refl,
    ) refl

pub carried_as_read : (c : Character) (bases : List BaseCharacter) → carried (alone c ∷ bases) ≡ carried (alone (as_read c) ∷ bases)
carried_as_read c bases = carried_same_class (alone c) (alone (as_read c)) bases refl
