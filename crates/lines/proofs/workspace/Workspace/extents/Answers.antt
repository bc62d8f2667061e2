use Rattle.std.proofs.Common.{◌≡◌, ◌∙◌, List, ℕ, Bor, None, length, option_map, take, ap}
use Rattle.lines.specs.Bare.{with_ends}
use Rattle.lines.specs.Clusters.{cluster_ends}
use Rattle.lines.specs.declared.char_info.CharInfo.{CharInfo}
use Rattle.lines.specs.CharInfos.{infos_of, sized}
use Rattle.lines.specs.Extents.{shown_from}
use Rattle.lines.specs.Paragraphs.{rules_in}
use Rattle.lines.specs.ShownParts.{margin_of}
use Rattle.lines.proofs.SizedLemmas.{found_extents}
use Rattle.lines.proofs.workspace.Workspace.extents.Goals as goal

pub returns-clause-extents : goal.returns-clause-extents
returns-clause-extents c =
    let text : c.text-text.result.now ≡ c.args.laid.now.text = c.text-text.ensures in
    let given = option_map (λ (list : Bor (List ℕ)). list.now) c.advances-advances.result in
    let infos = with_ends (take (length c.text-text.result.now) c.deref_mut.result.now) (cluster_ends c.text-text.result.now) in
    found_extents (rules_in c.args.rules.now) c.args.laid.now.advances given c.args.width c.args.laid.now.text infos c.find.new.self c.advances-advances.ensures.advances
    (ap (λ (ps : List CharInfo). with_ends (take (length c.text-text.result.now) ps) (cluster_ends c.text-text.result.now)) c.deref_mut.ensures.value ∙ c.in_ok-fill.ensures.infos
    ∙ ap (infos_of c.args.rules.now.tables.now c.args.rules.now.options None) text)
    c.in_ok-find.ensures.starts
    (c.in_ok-find.ensures.shown ∙ ap (λ n. shown_from (margin_of c.args.rules.now.options c.args.width) n (sized given infos) c.find.new.self.starts) (ap length text))
