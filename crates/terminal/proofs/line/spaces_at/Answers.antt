use Rattle.std.proofs.Common.{◌≡◌, ◌∙◌, ap, sym, get_or, length, rules}
use Rattle.std.specs.Prelude.{nat_lt}
use Rattle.std.proofs.lemmas.Bool.{cond-true, lt-ltb}
use Rattle.lines.specs.Columns.{width_at}
use Rattle.terminal.proofs.CellLemmas.{cells_tab, placed}
use Rattle.terminal.proofs.line.spaces_at.Goals as goal

pub returns-then-char_at-eq9 : goal.returns-then-char_at-eq9
returns-then-char_at-eq9 c = λ c'.
    let line = c.args.line.now in
    let k = get_or line.vtol c.args.place 0 in
    let nine : get_or line.text k 0 ≡ 9 = search rules in
    let width : c.columns_at.result ≡ width_at line k =
    c.columns_at.ensures ∙ cond-true (nat_lt c.args.place (length line.vtol)) (width_at line k) 0 (lt-ltb c.args.place (length line.vtol) c.requires.place) in
    cells_tab line c' k c.requires.plain nine ∙ ap (λ m. placed m c') (sym width)
