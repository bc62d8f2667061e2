use Rattle.std.proofs.Common.{◌≡◌, ◌++◌, drop}
use Rattle.std.specs.List.{enumerate_from, flat_map}
use Rattle.terminal.specs.Appending.{prefix_of}
use Rattle.terminal.specs.Paragraphs.{styled_layout, styled_nth}
use Rattle.terminal.specs.Parts.{styles_in}
use Rattle.terminal.proofs.paragraph.push_layout.Given as goal

abbrev pub invariant-loop-n : goal.invariant-loop-n
invariant-loop-n l =
    l.out.items ++ flat_map (styled_nth (prefix_of l.form) l.form.width l.form.print l.laid (styles_in l.part)) (drop l.n (enumerate_from 0 l.laid.lines))
    ≡ l.fn.out.items ++ styled_layout (prefix_of l.form) l.form.width l.form.print l.laid (styles_in l.part)
