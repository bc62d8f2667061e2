use Rattle.session.specs.Edits.{deletion}
use Rattle.tool.proofs.WorkLemmas.{edit_works}
use Rattle.tool.proofs.script.delete.Goals as goal

pub returns-clause-works : goal.returns-clause-works
returns-clause-works g c =
    let worked = edit_works (deletion c.args.pos c.args.count) c.args.session.now c.delete.new.self c.delete.result c.width-width.ensures.laid_out c.delete.ensures.ok c.delete.ensures.err in
    record { analysed = worked.analysed; filled = worked.filled; written = worked.written }
