use Rattle.std.specs.Str.{chars}
use Rattle.session.specs.Edits.{insertion}
use Rattle.tool.proofs.WorkLemmas.{edit_works}
use Rattle.tool.proofs.script.insert.Goals as goal

pub returns-clause-works : goal.returns-clause-works
returns-clause-works g c =
    let worked = edit_works (insertion c.args.pos (chars c.args.inserted.now)) c.args.session.now c.insert.new.self
    c.insert.result c.width-width.ensures.laid_out c.insert.ensures.ok c.insert.ensures.err in
    record { analysed = worked.analysed; filled = worked.filled; written = worked.written }
