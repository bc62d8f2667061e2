use Rattle.std.proofs.Common.{◌≡◌, length, take, ap, ◌∙◌}
use Rattle.std.proofs.lemmas.Result.{on_ok_weaker}
use Rattle.lines.specs.Bare.{with_ends}
use Rattle.lines.specs.BareInfos.{bare_infos}
use Rattle.lines.specs.Clusters.{cluster_ends}
use Rattle.lines.specs.CharInfos.{infos, infos_of}
use Rattle.lines.specs.Tabs.{tab_width_in}
use Rattle.lines.proofs.BareLemmas.{with_infos}
use Rattle.lines.proofs.char_info.InfoBuffers.fill.Goals as goal

pub returns-clause-infos : goal.returns-clause-infos
unfolding infos_of
returns-clause-infos c =
    let text = c.args.text.now in
    let tables = text.rules.tables.now in
    let n = tab_width_in tables text.rules.options in
    let chars = text.characters.now in
    let ends = cluster_ends chars in
    on_ok_weaker {P = take (length chars) c.fill_with.new.self.infos.items ≡ bare_infos tables n chars c.args.marks.now} c.fill_with.result
    (λ e. ap (λ ps. with_ends ps ends) e ∙ with_infos tables n chars c.args.marks.now ends ∙ ap (λ ms. infos tables n chars ms ends) c.requires.marks)
    c.fill_with.ensures.infos
