-- The state of the walk over the characters with the rules of Unicode 17.0, similar to that in Walk.antt for
-- 15.0. In addition, the walk records for each of the last two bases whether it is wide (LB19a). The outcome
-- of a step is a mark or a question about the bases after the next one.
use Rattle.std.specs.Prelude.{◌≡◌, ℕ, Option, None, Some, ◌*◌, ◌<◌, ◌==◌, Bool, false, not, ◌||◌, ◌&&◌, ◌++◌, List, [], ◌∷◌, map, get_or, set, if◌then◌else◌}
use Rattle.ucd.specs.declared.line_class.LineClass.TheVariants as class
use Rattle.ucd.specs.declared.line_detail.LineDetail.TheVariants.{Final, Initial}
use Rattle.ucd.specs.declared.properties.Properties.{Properties}
use Rattle.ucd.specs.declared.version.Version.TheVariants.{V17_0}
use Rattle.breaks.specs.Bases.{BaseCharacter, alone, end_of, is_east_asian}
use Rattle.breaks.specs.Classes.{is_same, is_one_of}
use Rattle.breaks.specs.Rules.{Row, rows_before_numbers, rows_of_numbers, rows_after_numbers, after_final, before_initial, before_word, begins_quotation, ends_in_number, ends_in_odd_run, followed, is, is_aksara, is_not_east_asian, is_spaced, or_edge, spaced}
use Rattle.breaks.specs.Symbols.{character_by, dotted_circle, quote}
use Rattle.breaks.specs.Walk.{base, last_states, unattached}
use Rattle.breaks.specs.declared.mark.Mark.{Mark}
use Rattle.breaks.specs.declared.mark.Mark.TheVariants.{Never, May, Must}
use Rattle.breaks.specs.declared.table_17.TheConstants.{FINAL, FINAL_INITIAL, FINAL_UNLESS, INITIAL, LB19A, MAY, NEVER, STATE_COUNT, STAYS, UNLESS}
use Rattle.breaks.specs.declared.ordinary_17.OrdinaryWalk17.{OrdinaryWalk17}
use Rattle.breaks.specs.declared.walk_17.Walk17.{Walk17}
use Rattle.breaks.specs.declared.symbol_17.TheConstants.{SYMBOL_COUNT}

-- Example bases for each state, in the order of the states. The nearest base comes first.
abbrev pub states_17 : List (List BaseCharacter)
states_17 =
    ((base class.BK ∷ []) ∷
    (base class.CR ∷ []) ∷
    (base class.LF ∷ []) ∷
    (base class.ZW ∷ []) ∷
    (base class.SP ∷ []) ∷
    (base class.SP ∷ base class.ZW ∷ []) ∷
    (base class.SP ∷ base class.OP ∷ []) ∷
    (base class.SP ∷ alone (quote Initial) ∷ []) ∷
    (base class.SP ∷ base class.CL ∷ []) ∷
    (base class.SP ∷ base class.B2 ∷ []) ∷
    (base class.WJ ∷ []) ∷
    (base class.GL ∷ []) ∷
    (base class.CL ∷ []) ∷
    (base class.CP ∷ []) ∷
    (base class.IS ∷ []) ∷
    (base class.SY ∷ []) ∷
    (base class.OP ∷ []) ∷
    (base class.QU ∷ []) ∷
    (alone (quote Initial) ∷ []) ∷
    (alone (quote Final) ∷ []) ∷
    (base class.B2 ∷ []) ∷
    (base class.CB ∷ []) ∷
    (base class.BA ∷ []) ∷
    (base class.HY ∷ base class.AL ∷ []) ∷
    (base class.HY ∷ []) ∷
    (base class.HH ∷ []) ∷
    (base class.HY ∷ base class.HL ∷ []) ∷
    (base class.HH ∷ base class.HL ∷ []) ∷
    (base class.BB ∷ []) ∷
    [])
    ++ (last_states
    ++ ((alone dotted_circle ∷ []) ∷
    (base class.AP ∷ []) ∷
    (base class.AK ∷ []) ∷
    (base class.VI ∷ base class.AK ∷ []) ∷
    []))

abbrev pub bases_at_17 : ℕ → List BaseCharacter
bases_at_17 number = get_or states_17 number []

-- the bits of a walk: whether the last character is a ZWJ, whether the last base is a future pictograph, and
-- which of the last two bases are wide
pub record Bits : Type 0 where
  pub is_joined : Bool
  pub is_pictograph : Bool
  pub is_wide : Bool
  pub was_wide : Bool

-- whether there is a nearest base, and it is wide
abbrev pub is_wide_base : List BaseCharacter → Bool
is_wide_base [] = false
is_wide_base (b ∷ bases) = is_east_asian b

abbrev pub bits_of : BaseCharacter → List BaseCharacter → Bits
bits_of last others = record {
  is_joined = is_same (end_of last).class class.ZWJ;
  is_pictograph = last.first.is_future_pictograph;
  is_wide = is_east_asian last;
  was_wide = is_wide_base others;
}

-- the mark or question that results from an outcome, given the bits of the walk and whether the next base is
-- wide
abbrev pub decided_17 : ℕ → Bits → Bool → ℕ
decided_17 outcome bits next_is_wide =
    if bits.is_joined then NEVER
    else if outcome == UNLESS then (if bits.is_pictograph then NEVER else MAY)
    else if outcome == INITIAL then (if bits.is_wide then LB19A else NEVER)
    else if outcome == FINAL then (if bits.was_wide && next_is_wide then MAY else NEVER)
    else if outcome == FINAL_UNLESS then (if (bits.was_wide && next_is_wide) && not bits.is_pictograph then MAY else NEVER)
    else if outcome == FINAL_INITIAL then (if (bits.was_wide && next_is_wide) && bits.is_wide then LB19A else NEVER)
    else outcome

-- whether the nearest base is IS and the base beyond it is NU
abbrev pub is_stop_digit : List BaseCharacter → Bool
is_stop_digit = followed (is (class.IS ∷ [])) (is (class.NU ∷ []))

-- The mark of an outcome, given the bases after the next one. The outcomes that are marks come first, beginning with
-- the outcome of LB9. Then come the questions of LB15b, LB15c, LB19a, LB25 (after `OP`, and after `OP IS`) and LB28a.
abbrev pub marks_17 : List BaseCharacter → List Mark
marks_17 rest =
    Never ∷ Never ∷ May ∷ Must ∷
    (if or_edge (is after_final) rest then Never else May) ∷
    (if is (class.NU ∷ []) rest then May else Never) ∷
    (if or_edge is_not_east_asian rest then Never else May) ∷
    (if is (class.NU ∷ []) rest || is_stop_digit rest then Never else May) ∷
    (if is (class.NU ∷ []) rest then Never else May) ∷
    (if is (class.VF ∷ []) rest then Never else May) ∷
    []

abbrev pub mark_of_17 : ℕ → List BaseCharacter → Mark
mark_of_17 decided rest = get_or (marks_17 rest) decided Never

-- an answer from the table, with `LB19A` replaced by `MAY` for a wide base and by `NEVER` for any other base
abbrev pub by_width : ℕ → Bool → ℕ
by_width answer is_wide = if answer == LB19A then (if is_wide then MAY else NEVER) else answer

-- all rules as rows
unfoldable pub rows_17 : List Row
rows_17 = rows_before_numbers V17_0 ++ (rows_of_numbers V17_0 ++ rows_after_numbers V17_0)

-- the indices of the rows whose conditions depend on the bits of a walk
abbrev pub LB8a_row : ℕ
LB8a_row = 7

abbrev pub LB19a_first_row : ℕ
LB19a_first_row = 23

abbrev pub LB19a_last_row : ℕ
LB19a_last_row = 26

abbrev pub LB30b_row : ℕ
LB30b_row = 61

-- The result of each rule's condition on these bases. The conditions of LB8a, of the first rule of LB19a, and
-- of LB30b for pictographs depend on the bits of a walk, and count as false. In the last rule of LB19a, the
-- base before the last one counts as narrow.
abbrev pub answers_17 : List BaseCharacter → List Bool
answers_17 bases =
    set (set (set (set (map (λ row. row.before bases) rows_17) LB8a_row false) LB19a_first_row false) LB19a_last_row (is (class.QU ∷ []) bases))
    LB30b_row false

-- the results of all conditions, given the bits of a walk
abbrev pub answered_17 : Bits → List Bool → List Bool
answered_17 bits answers =
    set (set (set (set answers LB8a_row bits.is_joined) LB19a_first_row (not bits.is_wide))
    LB19a_last_row (get_or answers LB19a_last_row false && not bits.was_wide))
    LB30b_row bits.is_pictograph

-- the results of further conditions, on which the rules may depend once one more base has been read
abbrev pub carried_17 : List BaseCharacter → List Bool
carried_17 bases =
    is (class.HL ∷ []) bases
    ∷ is_spaced (class.ZW ∷ []) bases ∷ is_spaced (class.OP ∷ []) bases ∷ spaced begins_quotation bases
    ∷ is_spaced (class.CL ∷ class.CP ∷ []) bases ∷ is_spaced (class.B2 ∷ []) bases
    ∷ ends_in_odd_run bases ∷ ends_in_number bases
    ∷ or_edge (is before_initial) bases ∷ or_edge (is before_word) bases ∷ is_aksara (class.AK ∷ class.AS ∷ []) bases ∷ []

abbrev pub bits_in : Walk17 → Bits
bits_in walk = record { is_joined = walk.is_joined; is_pictograph = walk.is_pictograph; is_wide = walk.is_wide; was_wide = walk.was_wide }

-- whether a character is neither wide nor a ZWJ nor a future pictograph, so that it sets no bit of a walk
abbrev pub is_narrow_17 : Properties → Bool
is_narrow_17 p = not (is_same (character_by V17_0 p).class class.ZWJ) && (not p.is_future_pictograph && not p.is_wide)

abbrev pub narrow_bits : Bits
narrow_bits = record { is_joined = false; is_pictograph = false; is_wide = false; was_wide = false }

-- for this row of the walk over narrow characters, the corresponding state of the walk over any characters
abbrev pub narrow_walk : ℕ → Walk17
narrow_walk row = record { row = row; is_joined = false; is_pictograph = false; is_wide = false; was_wide = false }

-- the mark or question that results from an outcome between narrow characters
abbrev pub decided_narrow : ℕ → ℕ
decided_narrow outcome = if outcome == STAYS then NEVER else decided_17 outcome narrow_bits false

-- whether a character is neither a ZWJ nor a future pictograph
abbrev pub is_ordinary_17 : Properties → Bool
is_ordinary_17 p = not (is_same (character_by V17_0 p).class class.ZWJ) && not p.is_future_pictograph

-- whether a base that begins with this character is wide
abbrev pub begins_wide : Properties → Bool
begins_wide p = is_east_asian (alone (character_by V17_0 p))

abbrev pub begins_wide_if_any : Option Properties → Bool
begins_wide_if_any None = false
begins_wide_if_any (Some p) = begins_wide p

-- the bits of a walk over ordinary characters, given the first characters of the last base and of the base before it
abbrev pub ordinary_bits : Properties → Option Properties → Bits
ordinary_bits last before =
    record { is_joined = false; is_pictograph = false; is_wide = begins_wide last; was_wide = begins_wide_if_any before }

-- for a state of the walk over ordinary characters, the corresponding state of the walk over any characters
abbrev pub full_walk : OrdinaryWalk17 → Walk17
full_walk walk = record { row = walk.row; is_joined = false; is_pictograph = false; is_wide = begins_wide walk.last; was_wide = begins_wide_if_any walk.before }

-- The state `walk` belongs to the bases `last` and `others`, the nearest first. A character may still join `last`.
pub record Stands17 (walk : Walk17) (last : BaseCharacter) (others : List BaseCharacter) : Type 0 where
  pub state : ℕ
  pub below : state < STATE_COUNT
  pub row : walk.row ≡ state * SYMBOL_COUNT
  pub answered : answers_17 (last ∷ others) ≡ answers_17 (bases_at_17 state)
  pub carries : carried_17 (last ∷ others) ≡ carried_17 (bases_at_17 state)
  pub attaches : is_one_of unattached (end_of last).class ≡ is unattached (bases_at_17 state)
  pub bits : bits_in walk ≡ bits_of last others
