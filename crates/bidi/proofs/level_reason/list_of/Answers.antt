use Rattle.std.proofs.Common.{◌∷◌, [], ◌++◌, Some, not, map, if◌then◌else◌, sym, ap, ap₂, ◌∙◌, arith, add-one}
use Rattle.std.proofs.lemmas.List.{get_or_default, get_or-map}
use Rattle.std.proofs.lemmas.List.FromFn.{map-range_with_len_more}
use Rattle.ucd.specs.Classes.{class_at, is_removed}
use Rattle.ucd.specs.Tables.{class_of}
use Rattle.ucd.specs.declared.bidi_class.BidiClass.TheVariants.{L, ON}
use Rattle.bidi.specs.Brackets.{greatest}
use Rattle.bidi.specs.LevelReasons.{level_reason}
use Rattle.bidi.proofs.level_reason.list_of.Goals as goal

pub loop-p-preserved : goal.loop-p-preserved
loop-p-preserved c =
    let p = c.loop-p.p in
    let acting = c.args.parts.now.classes.now in
    let classes = map (class_of c.args.tables.now) c.args.text.now in
    let levels = c.args.parts.now.levels.now in
    record {
      last = c.last_kept-before.ensures ∙ ap (λ k. if not (is_removed k) then Some p else c.loop-p.before) (get_or_default acting p L ON (omega arith))
          ∙ ap (λ b. if not (is_removed (class_at acting p)) then Some p else b) c.loop-p.invariant.last
          ∙ ap (greatest (λ k. not (is_removed (class_at acting k)))) (sym (add-one p));
      list = λ base sequences parts. c.in_ok-push.ensures.items
          ∙ ap₂ (λ l r. l ++ r ∷ []) (c.loop-p.invariant.list base sequences parts)
          (c.level_reason.ensures classes base sequences parts
          (c.bidi_class-class.ensures ∙ ap (class_of c.args.tables.now) c.index-text-p.is
          ∙ sym (get_or-map (class_of c.args.tables.now) c.args.text.now p c.index-text-p.result ON c.loop-p-test.true)))
          ∙ sym (map-range_with_len_more (level_reason classes acting base sequences levels) 0 p p (omega arith));
    }
