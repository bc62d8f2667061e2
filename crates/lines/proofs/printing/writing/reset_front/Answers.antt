use Rattle.std.proofs.Common.{◌≡◌, ◌∙◌, ℕ, List, length, map, take, slice_index, ap, ap₂, subst, sym, arith}
use Rattle.std.proofs.lemmas.List.{length-take-le, take-append-le}
use Rattle.ucd.specs.Classes.{class_in}
use Rattle.reorder.specs.Spaces.{line_levels}
use Rattle.reorder.proofs.PlainLemmas.{classes_are}
use Rattle.lines.proofs.WrittenLemmas.{front_of_zeros}
use Rattle.lines.proofs.printing.writing.reset_front.Goals as goal

pub returns-clause-levels : goal.returns-clause-levels
returns-clause-levels c =
    let text = c.args.line.now.text in
    let classes = ap (map class_in) c.requires.line ∙ classes_are text.rules.tables.now text.characters.now in
    let size = length-take-le (length c.args.line.now.levels.now) c.args.levels.now c.requires.len in
    take-append-le c.args.line.now.shown.len c.reset_line.new.levels _ (omega (arith, c.requires.shown, c.requires.levels, size))
    ∙ ap (take c.args.line.now.shown.len) (c.reset_line.ensures.levels ∙ ap₂ (line_levels text.base) classes c.copy_from_slice.ensures.after)

pub returns-clause-flat : goal.returns-clause-flat
returns-clause-flat c is k =
    let n = c.args.line.now.shown.len in
    let size = length-take-le (length c.args.line.now.levels.now) c.args.levels.now c.requires.len in
    let front = take-append-le n c.reset_line.new.levels _ (omega (arith, c.requires.shown, c.requires.levels, size)) in
    subst (λ (xs : List ℕ). slice_index xs k ≡ 0) (sym front) (front_of_zeros n c.reset_line.new.levels (c.reset_line.ensures.flat is) k)
