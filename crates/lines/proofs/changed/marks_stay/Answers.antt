use Rattle.std.proofs.Common.{◌∙◌, ◌+◌, sym}
use Rattle.lines.proofs.ChangedLemmas.{whole_rest}
use Rattle.lines.proofs.changed.marks_stay.Goals as goal

pub returns-then-are_same_marks : goal.returns-then-are_same_marks
returns-then-are_same_marks c is =
    let edit = c.args.edit in
    record {
      before = c.are_same_marks.ensures c.if-are_same_marks.true;
      after = sym (whole_rest c.args.new.now (edit.at + edit.inserted)) ∙ c.are_same_marks-then-are_same_marks.ensures is ∙ whole_rest c.args.old.now (edit.at + edit.removed);
    }
