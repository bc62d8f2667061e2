use Rattle.std.proofs.Common.{◌∙◌, ◌+◌, sym}
use Rattle.lines.proofs.ChangedLemmas.{whole_rest}
use Rattle.lines.proofs.changed.levels_stay.Goals as goal

pub returns-then-are_same_levels : goal.returns-then-are_same_levels
returns-then-are_same_levels c is =
    let edit = c.args.edit in
    record {
      before = c.are_same_levels.ensures c.if-are_same_levels.true;
      after = sym (whole_rest c.args.new.now (edit.at + edit.inserted)) ∙ c.are_same_levels-then-are_same_levels.ensures is ∙ whole_rest c.args.old.now (edit.at + edit.removed);
    }
