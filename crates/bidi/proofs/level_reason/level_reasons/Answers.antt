use Rattle.std.proofs.Common.{◌≡◌, List, length, map, refl, sym, ap, ap₂, ◌∙◌}
use Rattle.std.specs.List.{range_with_len}
use Rattle.std.proofs.lemmas.Bool.{eqb-true}
use Rattle.std.proofs.lemmas.List.{length-map}
use Rattle.std.proofs.lemmas.List.FromFn.{length-map-range_with_len}
use Rattle.ucd.specs.declared.bidi_class.BidiClass.{BidiClass}
use Rattle.ucd.specs.Tables.{bracket_of, class_of}
use Rattle.bidi.specs.declared.level_reason.LevelReason.{LevelReason}
use Rattle.bidi.specs.Base.{base_level_of}
use Rattle.bidi.specs.Explicit.{directed}
use Rattle.bidi.specs.Isolates.{match_at, matches_of}
use Rattle.bidi.specs.LevelReasons.{index_of, level_reason, levels_in, resolved_in}
use Rattle.bidi.specs.Levels.{levels_of}
use Rattle.bidi.specs.Reasons.{explicit_step, explicit_steps, sequence_of, sequences_by}
use Rattle.bidi.specs.Sequences.{retained}
use Rattle.bidi.proofs.LengthLemmas.{length-directed, length-levels_of}
use Rattle.bidi.proofs.LevelReasonLemmas.{levels_listed, no_levels, no_reasons}
use Rattle.bidi.proofs.level_reason.level_reasons.Goals as goal

pub list_of-requires-clause-same : goal.list_of-requires-clause-same
list_of-requires-clause-same c =
    let classes : List BidiClass = map (class_of c.args.tables.now) c.args.text.now in
    ap length (c.deref-5.ensures.value ∙ c.in_ok-reasons.ensures.classes_are) ∙ length-directed classes ∙ length-map c.args.text.now (class_of c.args.tables.now)

pub list_of-requires-clause-sized : goal.list_of-requires-clause-sized
list_of-requires-clause-sized c =
    let tables = c.args.tables.now in
    let text = c.args.text.now in
    let classes : List BidiClass = map (class_of tables) text in
    let acting : List BidiClass = directed classes in
    let made = c.in_ok-reasons.ensures in
    let own : length acting ≡ length c.deref-5.result.now = sym (ap length (c.deref-5.ensures.value ∙ made.classes_are)) in
    let whole : length text ≡ length c.deref-5.result.now = sym (length-directed classes ∙ length-map text (class_of tables)) ∙ own in
    record {
      classes = refl;
      matches = ap length (c.deref-6.ensures.value ∙ made.matches_are) ∙ length-map-range_with_len (match_at acting) 0 (length acting) ∙ own;
      explicit = ap length (c.deref-7.ensures.value ∙ made.explicit_are)
          ∙ length-map-range_with_len (explicit_step (base_level_of classes c.args.base) acting) 0 (length acting) ∙ own;
      levels = ap length (c.deref-8.ensures.value ∙ made.levels_are) ∙ length-levels_of tables text c.args.base ∙ whole;
      initiators = ap length (c.deref-9.ensures.value ∙ c.in_ok-initiators.ensures) ∙ length-map-range_with_len (index_of c.deref.result.now) 0 (length text) ∙ whole;
      indices = ap length (c.deref-10.ensures.value ∙ c.in_ok-indices.ensures) ∙ length-map-range_with_len (index_of c.deref-2.result.now) 0 (length text) ∙ whole;
    }

pub returns-clause-reasons : goal.returns-clause-reasons
returns-clause-reasons c =
    let tables = c.args.tables.now in
    let text = c.args.text.now in
    let base = c.args.base in
    let classes : List BidiClass = map (class_of tables) text in
    let level = base_level_of classes base in
    let acting : List BidiClass = directed classes in
    let sequences = sequences_by (bracket_of tables) text acting level in
    let made = c.in_ok-reasons.ensures in
    let cls = c.deref-5.result.now in
    let own : cls ≡ acting = c.deref-5.ensures.value ∙ made.classes_are in
    let whole : length text ≡ length cls = sym (ap length own ∙ length-directed classes ∙ length-map text (class_of tables)) in
    let matches : c.deref.result.now ≡ matches_of cls = c.deref.ensures.value ∙ made.matches_are ∙ ap matches_of (sym own) in
    let kept : c.deref-2.result.now ≡ retained cls = c.deref-2.ensures.value ∙ made.kept_are ∙ ap retained (sym own) in
    let kept_here : c.deref-3.result.now ≡ retained cls = c.deref-3.ensures.value ∙ made.kept_are ∙ ap retained (sym own) in
    let runs : map sequence_of c.deref-4.result.now ≡ sequences = ap (map sequence_of) c.deref-4.ensures.value ∙ made.sequences_are in
    let levels : c.deref-8.result.now ≡ levels_of tables text base = c.deref-8.ensures.value ∙ made.levels_are in
    c.in_ok-list.ensures level sequences record {
      matches_are = c.deref-6.ensures.value ∙ made.matches_are ∙ ap matches_of (sym own);
      explicit_are = c.deref-7.ensures.value ∙ made.explicit_are ∙ ap (explicit_steps level) (sym own);
      initiators_are = c.deref-9.ensures.value ∙ c.in_ok-initiators.ensures ∙ ap₂ (λ m n. map (index_of m) (range_with_len 0 n)) matches whole;
      indices_are = c.deref-10.ensures.value ∙ c.in_ok-indices.ensures ∙ ap₂ (λ m n. map (index_of m) (range_with_len 0 n)) kept whole;
      resolved_are = c.deref-11.ensures.value ∙ c.in_ok-resolved.ensures
          ∙ ap₂ (λ k s. map (resolved_in k s) (range_with_len 0 (length k))) kept_here runs;
    }
    ∙ ap₂ (λ k l. map (level_reason classes k level sequences l) (range_with_len 0 (length text))) own levels

pub returns-clause-levels : goal.returns-clause-levels
returns-clause-levels c =
    let tables = c.args.tables.now in
    let text = c.args.text.now in
    let classes : List BidiClass = map (class_of tables) text in
    let acting : List BidiClass = directed classes in
    let level = base_level_of classes c.args.base in
    ap levels_in (returns-clause-reasons c)
    ∙ levels_listed classes acting level (sequences_by (bracket_of tables) text acting level) (levels_of tables text c.args.base) (length text) (length-levels_of tables text c.args.base)

pub returns-clause-len : goal.returns-clause-len
returns-clause-len c =
    sym (length-map c.in_ok-list.list.items (λ (reason : LevelReason). reason.level)) ∙ ap length (returns-clause-levels c) ∙ length-levels_of c.args.tables.now c.args.text.now c.args.base

pub returns-then-is_empty-clause-reasons : goal.returns-then-is_empty-clause-reasons
returns-then-is_empty-clause-reasons c =
    c.new.ensures.items ∙ sym (no_reasons c.args.tables.now c.args.text.now c.args.base (eqb-true (length c.args.text.now) 0 (sym c.is_empty.ensures ∙ c.if-is_empty.true)))

pub returns-then-is_empty-clause-levels : goal.returns-then-is_empty-clause-levels
returns-then-is_empty-clause-levels c =
    ap levels_in c.new.ensures.items ∙ sym (no_levels c.args.tables.now c.args.text.now c.args.base (eqb-true (length c.args.text.now) 0 (sym c.is_empty.ensures ∙ c.if-is_empty.true)))
