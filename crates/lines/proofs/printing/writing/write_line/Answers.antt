use Rattle.std.proofs.Common.{◌∙◌, List, ℕ, [], IfErr, IfOk, map, take, ap, refl, subst, arith}
use Rattle.std.proofs.lemmas.List.{with_items_is}
use Rattle.ucd.specs.Tables.{class_of}
use Rattle.lines.specs.Bytes.{line_bytes}
use Rattle.lines.specs.Paragraphs.{shown_by}
use Rattle.lines.specs.Writing.{PassedOn, StoppedIn}
use Rattle.reorder.proofs.PlainLemmas.{plain_chars}
use Rattle.lines.specs.Reordering.{classes_by, reorders}
use Rattle.lines.proofs.printing.writing.write_line.Goals as goal

-- an empty shown part has no visual characters
pub write_ordered-requires-clause-chars : goal.write_ordered-requires-clause-chars
write_ordered-requires-clause-chars g c = λ on.
    let text = c.args.line.now.text in
    let tables = text.rules.tables.now in
    plain_chars tables (reorders text.rules.options) (classes_by text.rules.options (map (class_of tables) text.characters.now) text.ends.now []) [] [] refl (λ k. refl)

pub returns-clause-ok : goal.returns-clause-ok
returns-clause-ok g c =
    subst (λ (ls : List ℕ). IfOk c.write_with_levels.result (λ n. PassedOn (line_bytes c.args.form.now.width c.args.form.now.print.now (shown_by c.args.line.now ls)) c.args.before
    (g.W.Sink.state c.args.writer.now) (g.W.Sink.state c.write_with_levels.new.writer) n)) (ap (take c.args.line.now.shown.len) (with_items_is c.args.visual.now.levels c.reset_front-is_flat.new.levels (omega arith)) ∙ c.reset_front-is_flat.ensures.levels)
    c.write_with_levels.ensures.ok

pub returns-clause-err : goal.returns-clause-err
returns-clause-err g c =
    subst (λ (ls : List ℕ). IfErr c.write_with_levels.result (λ fault. StoppedIn (line_bytes c.args.form.now.width c.args.form.now.print.now (shown_by c.args.line.now ls)) c.args.before
    (g.W.Sink.state c.args.writer.now) (g.W.Sink.state c.write_with_levels.new.writer) fault.written)) (ap (take c.args.line.now.shown.len) (with_items_is c.args.visual.now.levels c.reset_front-is_flat.new.levels (omega arith)) ∙ c.reset_front-is_flat.ensures.levels)
    c.write_with_levels.ensures.err
