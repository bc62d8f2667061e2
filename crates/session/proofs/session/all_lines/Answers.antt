use Rattle.std.proofs.Common.{ℕ, ap, sym, ◌∙◌}
use Rattle.session.specs.declared.edits.ChangedLines.{ChangedLines}
use Rattle.session.proofs.BorderLemmas.{length-lines}
use Rattle.session.proofs.session.all_lines.Goals as goal

pub returns : goal.returns
returns g c =
    let all : ℕ → ChangedLines = λ n. record { first_line = 0; old_lines = 0; new_lines = n } in
    ap all (c.total_lines.ensures ∙ sym (length-lines (g.S.ParagraphStore.items c.args.store.now)))
