use Rattle.std.proofs.Common.{sym, ◌∙◌}
use Rattle.lines.proofs.KnownWidthLemmas.{all_common, all_printable}
use Rattle.lines.proofs.char_info.put_group.Goals as goal
use Rattle.lines.proofs.char_info.put_group.Goals.{then-are_printable, else-are_printable}

pub put_narrow-requires-clause-narrow : goal.put_narrow-requires-clause-narrow
put_narrow-requires-clause-narrow c k within =
    elim c.if-are_printable.branch [
      | then-are_printable w ↦ all_printable c.args.text.now k 0 (sym c.are_printable.ensures ∙ w.if-are_printable.true) within
      | else-are_printable w ↦ all_common c.args.text.now k 0 (sym w.are_common.ensures ∙ sym w.value-is ∙ c.if-are_common.true) within
    ]
