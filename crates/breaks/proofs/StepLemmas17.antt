-- The results of all conditions after one step of the walk, with the rules of Unicode 17.0.
use Rattle.std.proofs.Common.{◌≡◌, Bool, true, false, not, ◌&&◌, List, [], ◌∷◌, ◌++◌, map, get_or, refl, sym, ap, ◌∙◌, if◌then◌else◌}
use Rattle.ucd.specs.declared.line_class.LineClass.{LineClass}
use Rattle.ucd.specs.declared.line_class.LineClass.TheVariants.{AK, AL, AS, B2, CL, CM, CP, HH, HL, HY, OP, QU, RI, SP, ZW, ZWJ}
use Rattle.ucd.specs.declared.line_detail.LineDetail.{LineDetail}
use Rattle.ucd.specs.declared.line_detail.LineDetail.TheVariants.{DottedCircle, Final, Initial, Plain}
use Rattle.ucd.specs.declared.version.Version.TheVariants.{V17_0}
use Rattle.breaks.specs.Bases.{BaseCharacter, Character, alone, base_class, class_of, is_east_asian}
use Rattle.breaks.specs.Classes.{is_detail, is_same, is_one_of}
use Rattle.breaks.specs.Rules.{Row, rules, rows_before_numbers, rows_of_numbers, rows_after_numbers, mark_by, before_initial, before_word, begins_quotation, ends_in_number, ends_in_odd_run, is, is_aksara, is_dotted_circle, is_not_east_asian, is_pair, is_spaced, or_edge, spaced, without_spaces}
use Rattle.breaks.specs.Symbols.{as_read_17}
use Rattle.breaks.specs.Walk17.{answered_17, answers_17, bits_of, carried_17, is_wide_base, rows_17}
use Rattle.breaks.specs.declared.mark.Mark.TheVariants.{May}
use Rattle.breaks.proofs.StepLemmas.{chosen, last_rules_of_rows, more_rows, odd_after, odd_same, pair_after, pair_same, row_mark, rules_of_rows, spaced_same, spaced_same_class}
use Rattle.breaks.proofs.SymbolLemmas.{narrow_before}
use Rattle.breaks.proofs.Computed17.{answers_after_17, decide_17, marks_by_row_17, with_width}

-- ---- the rules as rows

-- the mark of the rows is the result of `decide_17` for the results of their conditions
decides_17 : (some : List Row) (before after : List BaseCharacter) → row_mark some May before after
    ≡ decide_17 (map (λ row. row.mark) some) (map (λ row. row.before before) some) (map (λ row. row.after after) some)
decides_17 [] before after = refl
decides_17 (row ∷ some) before after = chosen (row.before before && row.after after) row.mark _ _ (decides_17 some before after)

-- all rules together have the same mark as their rows
rows_mark_17 : (before after : List BaseCharacter) → mark_by (rules V17_0 false) before after
    ≡ row_mark (rows_before_numbers V17_0) (row_mark (rows_of_numbers V17_0) (row_mark (rows_after_numbers V17_0) May before after) before after) before after
unfolding rules
rows_mark_17 before after =
    rules_of_rows (rows_before_numbers V17_0) _ before after
    ∙ ap (λ mark. row_mark (rows_before_numbers V17_0) mark before after)
    (rules_of_rows (rows_of_numbers V17_0) _ before after
    ∙ ap (λ mark. row_mark (rows_of_numbers V17_0) mark before after) (last_rules_of_rows (rows_after_numbers V17_0) before after))

rules_decide_17 : (before after : List BaseCharacter) → mark_by (rules V17_0 false) before after
    ≡ decide_17 marks_by_row_17 (map (λ row. row.before before) rows_17) (map (λ row. row.after after) rows_17)
unfolding rows_17
rules_decide_17 before after =
    rows_mark_17 before after
    ∙ sym (more_rows (rows_before_numbers V17_0) (rows_of_numbers V17_0 ++ rows_after_numbers V17_0) May before after
    ∙ ap (λ mark. row_mark (rows_before_numbers V17_0) mark before after) (more_rows (rows_of_numbers V17_0) (rows_after_numbers V17_0) May before after))
    ∙ decides_17 (rows_before_numbers V17_0 ++ (rows_of_numbers V17_0 ++ rows_after_numbers V17_0)) before after

-- ---- the conditions on the bases before a position

not_wide : (bases : List BaseCharacter) → or_edge is_not_east_asian bases ≡ not (is_wide_base bases)
not_wide [] = refl
not_wide (b ∷ bases) = refl

-- the results of all conditions are those in `answers_17`, with the bits of the last bases
all_answers_17 : (last : BaseCharacter) (others : List BaseCharacter)
    → map (λ row. row.before (last ∷ others)) rows_17 ≡ answered_17 (bits_of last others) (answers_17 (last ∷ others))
unfolding rows_17 rows_before_numbers rows_of_numbers rows_after_numbers
all_answers_17 last others = rw (not_wide others) refl

pub marked_17 : (last : BaseCharacter) (others after : List BaseCharacter) → mark_by (rules V17_0 false) (last ∷ others) after
    ≡ decide_17 marks_by_row_17 (answered_17 (bits_of last others) (answers_17 (last ∷ others))) (map (λ row. row.after after) rows_17)
marked_17 last others after =
    rules_decide_17 (last ∷ others) after
    ∙ ap (λ befores. decide_17 marks_by_row_17 befores (map (λ row. row.after after) rows_17)) (all_answers_17 last others)

-- a condition after spaces depends on the last base and on the same condition on the bases before it
spaced_before : (condition : List BaseCharacter → Bool) (b : BaseCharacter) (bases : List BaseCharacter)
    → spaced condition (b ∷ bases) ≡ (if is_same (class_of b) SP then spaced condition bases else condition (b ∷ bases))
spaced_before condition b bases =
    elim (is_same (class_of b) SP) as (λ space. condition (if space then without_spaces bases else b ∷ bases)
    ≡ (if space then spaced condition bases else condition (b ∷ bases))) [ true ↦ refl | false ↦ refl ]

-- After one more base, the conditions depend on that base and on the carried results.
module _ (b : BaseCharacter) (p q : List BaseCharacter) (carry : carried_17 p ≡ carried_17 q) where
  zw : is_spaced (ZW ∷ []) (b ∷ p) ≡ is_spaced (ZW ∷ []) (b ∷ q)
  zw = spaced_same b p q (ZW ∷ []) (ap (λ l. get_or l 1 false) carry)

  op : is_spaced (OP ∷ []) (b ∷ p) ≡ is_spaced (OP ∷ []) (b ∷ q)
  op = spaced_same b p q (OP ∷ []) (ap (λ l. get_or l 2 false) carry)

  initial : or_edge (is before_initial) p ≡ or_edge (is before_initial) q
  initial = ap (λ l. get_or l 8 false) carry

  quotation : spaced begins_quotation (b ∷ p) ≡ spaced begins_quotation (b ∷ q)
  quotation =
      spaced_before begins_quotation b p
      ∙ ap (λ s. if is_same (class_of b) SP then s else begins_quotation (b ∷ p)) (ap (λ l. get_or l 3 false) carry)
      ∙ ap (λ edge. if is_same (class_of b) SP then spaced begins_quotation q else (is_same (class_of b) QU && is_detail b.first.detail Initial) && edge) initial
      ∙ sym (spaced_before begins_quotation b q)

  closed : is_spaced (CL ∷ CP ∷ []) (b ∷ p) ≡ is_spaced (CL ∷ CP ∷ []) (b ∷ q)
  closed = spaced_same b p q (CL ∷ CP ∷ []) (ap (λ l. get_or l 4 false) carry)

  dash : is_spaced (B2 ∷ []) (b ∷ p) ≡ is_spaced (B2 ∷ []) (b ∷ q)
  dash = spaced_same b p q (B2 ∷ []) (ap (λ l. get_or l 5 false) carry)

  odd : ends_in_odd_run (b ∷ p) ≡ ends_in_odd_run (b ∷ q)
  odd = odd_same b p q (ap (λ l. get_or l 6 false) carry)

  number : ends_in_number p ≡ ends_in_number q
  number = ap (λ l. get_or l 7 false) carry

  word : or_edge (is before_word) p ≡ or_edge (is before_word) q
  word = ap (λ l. get_or l 9 false) carry

  aksara : is_aksara (AK ∷ AS ∷ []) p ≡ is_aksara (AK ∷ AS ∷ []) q
  aksara = ap (λ l. get_or l 10 false) carry

  pair : is_pair (HL ∷ []) (HY ∷ HH ∷ []) (b ∷ p) ≡ is_pair (HL ∷ []) (HY ∷ HH ∷ []) (b ∷ q)
  pair = pair_same b p q (HY ∷ HH ∷ []) (ap (λ l. get_or l 0 false) carry)

  pub carried_same_17 : carried_17 (b ∷ p) ≡ carried_17 (b ∷ q)
  carried_same_17 = rw (zw, op, quotation, closed, dash, odd, number) refl

  pub answers_same_17 : answers_17 (b ∷ p) ≡ answers_17 (b ∷ q)
  unfolding rows_17 rows_before_numbers rows_of_numbers rows_after_numbers
  answers_same_17 = rw (zw, op, quotation, closed, dash, odd, number, word, aksara, pair) refl

-- The conditions depend on the last base only through its class, and through what they read of its details and, for
-- CP, its width.
module _ (b d : BaseCharacter) (bases : List BaseCharacter) (class : class_of b ≡ class_of d)
    (initial : (is_same (class_of b) QU && is_detail b.first.detail Initial) ≡ (is_same (class_of d) QU && is_detail d.first.detail Initial))
    (not_final : (is_same (class_of b) QU && not (is_detail b.first.detail Final)) ≡ (is_same (class_of d) QU && not (is_detail d.first.detail Final)))
    (circle : is_dotted_circle b ≡ is_dotted_circle d)
    (narrow : (is_one_of (CP ∷ []) (class_of b) && not b.first.is_wide) ≡ (is_one_of (CP ∷ []) (class_of d) && not d.first.is_wide)) where
  same_quotation : spaced begins_quotation (b ∷ bases) ≡ spaced begins_quotation (d ∷ bases)
  same_quotation =
      spaced_before begins_quotation b bases
      ∙ ap (λ i. if is_same (class_of b) SP then spaced begins_quotation bases else i && or_edge (is before_initial) bases) initial
      ∙ ap (λ c. if is_same c SP then spaced begins_quotation bases else begins_quotation (d ∷ bases)) class
      ∙ sym (spaced_before begins_quotation d bases)

  same_odd : ends_in_odd_run (b ∷ bases) ≡ ends_in_odd_run (d ∷ bases)
  same_odd = odd_after b bases ∙ ap (λ c. is_same c RI && not (ends_in_odd_run bases)) class ∙ sym (odd_after d bases)

  same_pair : is_pair (HL ∷ []) (HY ∷ HH ∷ []) (b ∷ bases) ≡ is_pair (HL ∷ []) (HY ∷ HH ∷ []) (d ∷ bases)
  same_pair =
      pair_after (HL ∷ []) (HY ∷ HH ∷ []) b bases ∙ ap (λ c. is (HL ∷ []) bases && is_one_of (HY ∷ HH ∷ []) c) class
      ∙ sym (pair_after (HL ∷ []) (HY ∷ HH ∷ []) d bases)

  zw_like : is_spaced (ZW ∷ []) (b ∷ bases) ≡ is_spaced (ZW ∷ []) (d ∷ bases)
  zw_like = spaced_same_class (ZW ∷ []) b d bases class

  op_like : is_spaced (OP ∷ []) (b ∷ bases) ≡ is_spaced (OP ∷ []) (d ∷ bases)
  op_like = spaced_same_class (OP ∷ []) b d bases class

  closed_like : is_spaced (CL ∷ CP ∷ []) (b ∷ bases) ≡ is_spaced (CL ∷ CP ∷ []) (d ∷ bases)
  closed_like = spaced_same_class (CL ∷ CP ∷ []) b d bases class

  dash_like : is_spaced (B2 ∷ []) (b ∷ bases) ≡ is_spaced (B2 ∷ []) (d ∷ bases)
  dash_like = spaced_same_class (B2 ∷ []) b d bases class

  pub carried_alike : carried_17 (b ∷ bases) ≡ carried_17 (d ∷ bases)
  carried_alike = rw (zw_like, op_like, same_quotation, closed_like, dash_like, same_odd, circle, class) refl

  pub answers_alike : answers_17 (b ∷ bases) ≡ answers_17 (d ∷ bases)
  unfolding rows_17 rows_before_numbers rows_of_numbers rows_after_numbers
  answers_alike = rw (zw_like, op_like, same_quotation, closed_like, dash_like, same_odd, same_pair, not_final, narrow, circle, class) refl

-- attaching characters changes no condition except LB8a
pub answers_attached_17 : (last : BaseCharacter) (others : List BaseCharacter) (attached : List Character)
    → answers_17 (record { first = last.first; attached = attached } ∷ others) ≡ answers_17 (last ∷ others)
answers_attached_17 last others attached = answers_alike (record { first = last.first; attached = attached }) last others refl refl refl refl refl

pub carried_attached_17 : (last : BaseCharacter) (others : List BaseCharacter) (attached : List Character)
    → carried_17 (record { first = last.first; attached = attached } ∷ others) ≡ carried_17 (last ∷ others)
carried_attached_17 last others attached = carried_alike (record { first = last.first; attached = attached }) last others refl refl refl refl refl

-- ---- what the conditions read of a character: only QU and AL have details

abbrev detail_as_read : LineClass → LineDetail → LineDetail
detail_as_read class detail = if is_one_of (QU ∷ AL ∷ []) class then detail else Plain

quote_as_read : (class : LineClass) (detail wanted : LineDetail) → (is_same (base_class class) QU && is_detail detail wanted)
    ≡ (is_same (base_class class) QU && is_detail (detail_as_read class detail) wanted)
quote_as_read QU detail wanted = refl
quote_as_read class detail wanted = refl

other_as_read : (class : LineClass) (detail wanted : LineDetail) → (is_same (base_class class) QU && not (is_detail detail wanted))
    ≡ (is_same (base_class class) QU && not (is_detail (detail_as_read class detail) wanted))
other_as_read QU detail wanted = refl
other_as_read class detail wanted = refl

pub circle_as_read : (class : LineClass) (detail : LineDetail) → (is_same class AL && is_detail detail DottedCircle)
    ≡ (is_same class AL && is_detail (detail_as_read class detail) DottedCircle)
circle_as_read AL detail = refl
circle_as_read class detail = refl

pub answers_as_read_17 : (c : Character) (bases : List BaseCharacter) → answers_17 (alone c ∷ bases) ≡ answers_17 (alone (as_read_17 c) ∷ bases)
answers_as_read_17 c bases =
    answers_alike (alone c) (alone (as_read_17 c)) bases refl (quote_as_read c.class c.detail Initial) (other_as_read c.class c.detail Final)
    (circle_as_read c.class c.detail) (narrow_before c.class c.is_wide)

pub carried_as_read_17 : (c : Character) (bases : List BaseCharacter) → carried_17 (alone c ∷ bases) ≡ carried_17 (alone (as_read_17 c) ∷ bases)
carried_as_read_17 c bases =
    carried_alike (alone c) (alone (as_read_17 c)) bases refl (quote_as_read c.class c.detail Initial) (other_as_read c.class c.detail Final)
    (circle_as_read c.class c.detail) (narrow_before c.class c.is_wide)

wide_again : (wide other : Bool) → (wide && other) ≡ ((wide && other) && other)
wide_again true true = refl
wide_again true false = refl
wide_again false other = refl

opening_as_read : (class : LineClass) (wide : Bool) → (is_one_of (OP ∷ []) (base_class class) && not wide)
    ≡ (is_one_of (OP ∷ []) (base_class class) && not (wide && not (is_one_of (CM ∷ ZWJ ∷ []) class)))
opening_as_read OP true = refl
opening_as_read OP false = refl
opening_as_read class wide = refl

-- the conditions on the bases after a position depend on the character there only through its symbol and the
-- width of its base
pub answers_after_as_read_17 : (c : Character) (rest : List BaseCharacter)
    → answers_after_17 c rest ≡ answers_after_17 (with_width (as_read_17 c) (is_east_asian (alone c))) rest
unfolding rows_17 rows_before_numbers rows_of_numbers rows_after_numbers
answers_after_as_read_17 c rest =
    rw (
      quote_as_read c.class c.detail Final,
      other_as_read c.class c.detail Initial,
      circle_as_read c.class c.detail,
      opening_as_read c.class c.is_wide,
      ← wide_again c.is_wide (not (is_one_of (CM ∷ ZWJ ∷ []) c.class)),
    ) refl
