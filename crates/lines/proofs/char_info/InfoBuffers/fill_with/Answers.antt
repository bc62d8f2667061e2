use Rattle.std.proofs.Common.{length, take, ap, ◌∙◌, arith}
use Rattle.std.proofs.lemmas.List.{with_items_is}
use Rattle.lines.specs.BareInfos.{bare_infos}
use Rattle.lines.proofs.char_info.InfoBuffers.fill_with.Goals as goal

pub returns-clause-infos : goal.returns-clause-infos
returns-clause-infos c =
    let chars = c.args.text.now.characters.now in
    ap (take (length chars)) (with_items_is c.grow.new.list c.put_front.new.infos (omega arith)) ∙ c.put_front.ensures
    ∙ ap (λ n. bare_infos c.args.text.now.rules.tables.now n chars c.args.marks.now) c.tab_width-tab_width.ensures
