use Rattle.std.proofs.Common.{◌≡◌, ◌∙◌, ℕ, length, map, take, ap, subst, sym, arith}
use Rattle.std.proofs.lemmas.List.{length-take-le}
use Rattle.ucd.specs.Classes.{class_in}
use Rattle.ucd.specs.Within.{AreWithin}
use Rattle.reorder.specs.Mirroring.{visual_chars}
use Rattle.lines.specs.Reordering.{ltov_by, vtol_by}
use Rattle.reorder.proofs.PlainLemmas.{classes_are}
use Rattle.lines.proofs.WrittenLemmas.{back_is, front_is}
use Rattle.lines.proofs.printing.writing.order_front.Goals as goal

pub returns : goal.returns
returns c =
    let text = c.args.line.now.text in
    let options = text.rules.options in
    let ends = text.ends.now in
    let n = c.args.line.now.shown.len in
    let levels = take n c.args.levels.now in
    let classes = ap (map class_in) c.requires.line ∙ classes_are text.rules.tables.now text.characters.now in
    let size : length levels ≡ n = length-take-le n c.args.levels.now c.requires.levels in
    let first : length c.show_part.new.ltov ≡ n = omega (arith, c.split_at_mut-ltov.ensures.front_len) in
    let second : length c.show_part.new.vtol ≡ n =
    omega (arith, length-take-le n c.split_at_mut-ltov.result.1.now (omega (arith, c.split_at_mut-ltov.ensures.back_len, c.requires.maps))) in
    let third : length c.show_part.new.chars ≡ n = omega (arith, length-take-le n c.args.chars.now c.requires.chars) in
    let ltov = front_is n c.show_part.new.ltov _ first in
    let vtol = back_is n c.show_part.new.ltov c.show_part.new.vtol _ first second in
    let chars = front_is n c.show_part.new.chars _ third in
    record {
      ltov = ltov ∙ c.show_part.ensures.ltov ∙ ap (λ cs. ltov_by options cs ends levels) classes;
      vtol = vtol ∙ c.show_part.ensures.vtol ∙ ap (λ cs. vtol_by options cs ends levels) classes;
      chars = chars ∙ c.show_part.ensures.chars ∙ ap (λ cs. visual_chars text.rules.tables.now levels (take (length levels) text.characters.now) (vtol_by options cs ends levels)) classes;
      within = subst (AreWithin n) (sym vtol) (subst (λ (m : ℕ). AreWithin m c.show_part.new.vtol) size c.show_part.ensures.within);
    }
