use Rattle.std.proofs.Common.{◌∙◌, List, ℕ, IfErr, IfOk, encode_utf8_all, get_or, replicate, ap, subst, sym, arith}
use Rattle.lines.specs.Bytes.{ordered_chars}
use Rattle.std.specs.Prelude.{option_map}
use Rattle.lines.specs.Columns.{width_at}
use Rattle.lines.specs.Visual.{Visual}
use Rattle.lines.specs.Writing.{PassedOn, StoppedIn}
use Rattle.lines.proofs.MeasureLemmas.{known_width}
use Rattle.lines.proofs.CellLemmas.{cells_others, cells_tab}
use Rattle.lines.proofs.printing.bytes.write_cells.Goals as goal

pub returns-then-is_tab_at-clause-ok : goal.returns-then-is_tab_at-clause-ok
returns-then-is_tab_at-clause-ok g c =
    let line = c.args.line.now in
    let start = c.args.start in
    let chars = ordered_chars c.args.print.now line in
    let within = c.requires.within in
    let tab = sym c.is_tab_at.ensures ∙ c.if-is_tab_at.true in
    let width = known_width (option_map (λ list. list.now) c.known.result) (get_or c.line.inside.vtol.now start 0) c.line.view_is c.known.ensures.widths c.columns_at-width.ensures.value ∙ ap (λ (v : Visual). width_at line (get_or v.vtol start 0)) c.line.view_is in
    let same = ap (λ n. replicate n 32) width
    ∙ sym (cells_tab line chars start c.args.end (c.requires.cells.tab tab) (omega (arith, within.0, within.1)) (omega (arith, within.0, c.requires.places)) tab) in
    subst (λ (bytes : List ℕ). IfOk c.write_spaces.result (λ n. PassedOn bytes c.args.before (g.W.Sink.state c.args.writer.now) (g.W.Sink.state c.write_spaces.new.writer) n)) same c.write_spaces.ensures.ok

pub returns-then-is_tab_at-clause-err : goal.returns-then-is_tab_at-clause-err
returns-then-is_tab_at-clause-err g c =
    let line = c.args.line.now in
    let start = c.args.start in
    let chars = ordered_chars c.args.print.now line in
    let within = c.requires.within in
    let tab = sym c.is_tab_at.ensures ∙ c.if-is_tab_at.true in
    let width = known_width (option_map (λ list. list.now) c.known.result) (get_or c.line.inside.vtol.now start 0) c.line.view_is c.known.ensures.widths c.columns_at-width.ensures.value ∙ ap (λ (v : Visual). width_at line (get_or v.vtol start 0)) c.line.view_is in
    let same = ap (λ n. replicate n 32) width
    ∙ sym (cells_tab line chars start c.args.end (c.requires.cells.tab tab) (omega (arith, within.0, within.1)) (omega (arith, within.0, c.requires.places)) tab) in
    subst (λ (bytes : List ℕ). IfErr c.write_spaces.result (λ fault. StoppedIn bytes c.args.before (g.W.Sink.state c.args.writer.now) (g.W.Sink.state c.write_spaces.new.writer) fault.written)) same c.write_spaces.ensures.err

pub returns-else-is_tab_at-clause-ok : goal.returns-else-is_tab_at-clause-ok
returns-else-is_tab_at-clause-ok g c =
    let line = c.args.line.now in
    let start = c.args.start in
    let chars = ordered_chars c.args.print.now line in
    let within = c.requires.within in
    let plain = sym c.is_tab_at.ensures ∙ c.if-is_tab_at.false in
    let same = ap encode_utf8_all (sym (cells_others line chars start c.args.end (omega (arith, within.0)) within.1 c.requires.places (c.requires.cells.others plain))) in
    subst (λ (bytes : List ℕ). IfOk c.write_between.result (λ n. PassedOn bytes c.args.before (g.W.Sink.state c.args.writer.now) (g.W.Sink.state c.write_between.new.writer) n)) same c.write_between.ensures.ok

pub returns-else-is_tab_at-clause-err : goal.returns-else-is_tab_at-clause-err
returns-else-is_tab_at-clause-err g c =
    let line = c.args.line.now in
    let start = c.args.start in
    let chars = ordered_chars c.args.print.now line in
    let within = c.requires.within in
    let plain = sym c.is_tab_at.ensures ∙ c.if-is_tab_at.false in
    let same = ap encode_utf8_all (sym (cells_others line chars start c.args.end (omega (arith, within.0)) within.1 c.requires.places (c.requires.cells.others plain))) in
    subst (λ (bytes : List ℕ). IfErr c.write_between.result (λ fault. StoppedIn bytes c.args.before (g.W.Sink.state c.args.writer.now) (g.W.Sink.state c.write_between.new.writer) fault.written)) same c.write_between.ensures.err
