use Rattle.std.proofs.Common.{◌∙◌, length, ap}
use Rattle.lines.proofs.BareLemmas.{length-bare_infos}
use Rattle.lines.proofs.WrittenLemmas.{front_is}
use Rattle.lines.proofs.char_info.put_front.Goals as goal

pub returns : goal.returns
returns c =
    front_is (length c.args.text.now) c.put_infos.new.infos _
    (ap length c.put_infos.ensures ∙ length-bare_infos c.args.tables.now c.args.tab_width c.args.text.now c.args.marks.now c.requires.marks)
    ∙ c.put_infos.ensures
