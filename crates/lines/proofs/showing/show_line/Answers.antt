use Rattle.std.proofs.Common.{◌≡◌, length, map, take, ap, subst, sym, ◌∙◌, arith}
use Rattle.std.proofs.lemmas.List.{length-take-le}
use Rattle.ucd.specs.Tables.{class_of}
use Rattle.ucd.specs.Classes.{class_in}
use Rattle.ucd.specs.Within.{AreWithin}
use Rattle.reorder.specs.Mirroring.{visual_chars}
use Rattle.lines.specs.Reordering.{ltov_by, vtol_by}
use Rattle.reorder.specs.Spaces.{line_levels}
use Rattle.reorder.proofs.PlainLemmas.{classes_are, front_written, zero_take}
use Rattle.lines.proofs.showing.show_line.Goals as goal

pub show_part-requires-clause-flat : goal.show_part-requires-clause-flat
show_part-requires-clause-flat c is = zero_take c.reset_line-is_flat.new.levels c.args.shown.len (c.reset_line-is_flat.ensures.flat is)

pub returns : goal.returns
returns c =
    let n = c.args.shown.len in
    let tables = c.args.line.now.rules.tables.now in
    let options = c.args.line.now.rules.options in
    let ends = c.args.line.now.ends.now in
    let line = c.args.line.now.characters.now in
    let within = c.requires.shown in
    let part = take n c.reset_line-is_flat.new.levels in
    let len : length part ≡ n =
    length-take-le n c.reset_line-is_flat.new.levels (omega (arith, within, c.reset_line-is_flat.auto.levels, c.requires.levels)) in
    let ltov : length c.show_part.new.ltov ≡ n = c.show_part.auto.ltov ∙ length-take-le n c.args.ltov.now (omega (arith, within, c.requires.ltov)) in
    let vtol : length c.show_part.new.vtol ≡ n = c.show_part.auto.vtol ∙ length-take-le n c.args.vtol.now (omega (arith, within, c.requires.vtol)) in
    let chars : length c.show_part.new.chars ≡ n = c.show_part.auto.chars ∙ length-take-le n c.args.chars.now (omega (arith, within, c.requires.chars)) in
    let written = front_written c.show_part.new.vtol c.args.vtol.now n vtol in
    let classes : map class_in c.args.line.now.properties.now ≡ map (class_of tables) line = ap (map class_in) c.requires.line ∙ classes_are tables line in
    record {
      within = omega (arith, c.requires.shown);
      levels_are = ap (take n) (c.reset_line-is_flat.ensures.levels ∙ ap (λ cs. line_levels c.args.line.now.base cs c.args.levels.now) classes);
      ltov_is = front_written c.show_part.new.ltov c.args.ltov.now n ltov ∙ c.show_part.ensures.ltov ∙ ap (λ cs. ltov_by options cs ends part) classes;
      vtol_is = written ∙ c.show_part.ensures.vtol ∙ ap (λ cs. vtol_by options cs ends part) classes;
      chars_are = front_written c.show_part.new.chars c.args.chars.now n chars ∙ c.show_part.ensures.chars
          ∙ ap (λ m. visual_chars tables part (take m line) (vtol_by options (map class_in c.args.line.now.properties.now) ends part)) len
          ∙ ap (λ cs. visual_chars tables part (take n line) (vtol_by options cs ends part)) classes;
      vtol_within = subst (AreWithin n) (sym written) (subst (λ m. AreWithin m c.show_part.new.vtol) len c.show_part.ensures.within);
    }
