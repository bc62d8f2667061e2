use Rattle.std.proofs.Common.{◌∙◌, length, map, take, ap, arith}
use Rattle.std.proofs.lemmas.List.{length-take-le}
use Rattle.ucd.specs.Classes.{class_in}
use Rattle.reorder.specs.Mirroring.{visual_chars}
use Rattle.lines.specs.Reordering.{vtol_by}
use Rattle.reorder.proofs.PlainLemmas.{classes_are}
use Rattle.lines.proofs.WrittenLemmas.{front_is}
use Rattle.lines.proofs.printing.writing.chars_front.Goals as goal

pub returns : goal.returns
returns c =
    let text = c.args.line.now.text in
    let n = c.args.line.now.shown.len in
    let levels = take n c.args.levels.now in
    let classes = ap (map class_in) c.requires.line ∙ classes_are text.rules.tables.now text.characters.now in
    front_is n c.show_chars.new.chars _ (omega (arith, length-take-le n c.args.chars.now c.requires.chars)) ∙ c.show_chars.ensures
    ∙ ap (λ cs. visual_chars text.rules.tables.now levels (take (length levels) text.characters.now) (vtol_by text.rules.options cs text.ends.now levels)) classes
