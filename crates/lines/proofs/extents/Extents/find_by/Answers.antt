use Rattle.std.proofs.Common.{◌≡◌, ◌∙◌, ◌++◌, ap, length, refl, subst, sym, arith}
use Rattle.std.proofs.lemmas.Result.{on_ok_weaker}
use Rattle.lines.specs.Bare.{with_ends}
use Rattle.lines.specs.CharInfos.{sized}
use Rattle.lines.specs.Clusters.{cluster_ends}
use Rattle.lines.specs.Extents.{in_pairs, shown_from}
use Rattle.lines.specs.Kept.{AreStarts}
use Rattle.lines.specs.ShownParts.{margin_of}
use Rattle.lines.proofs.BareLemmas.{same_shown, with_alike}
use Rattle.lines.proofs.ClusterLemmas.{length-cluster_ends}
use Rattle.lines.proofs.ExtentLemmas.{parts_in, starts_in}
use Rattle.lines.proofs.SizedLemmas.{sized_alike}
use Rattle.lines.proofs.ShowLemmas.{length-shown_from, taken_shown}
use Rattle.lines.proofs.extents.Extents.find_by.Goals as goal

pub returns-clause-starts : goal.returns-clause-starts
returns-clause-starts g c =
    let items = c.fill_shown.new.items.items in
    let starts = c.line_starts.new.starts.items in
    let infos = sized (g.S.Sizes.given c.args.ruler.sizes) c.line_starts.new.infos in
    let n = length c.line_starts.new.infos in
    let parts = shown_from c.margin.result n infos starts in
    let same = length-shown_from c.margin.result n infos starts in
    on_ok_weaker {P = items ≡ starts ++ in_pairs parts} c.fill_shown.result (λ e. starts_in items starts parts same e ∙ c.in_ok-line_starts.ensures.lines) c.fill_shown.ensures

pub returns-clause-shown : goal.returns-clause-shown
returns-clause-shown g c =
    let text = c.args.text.now in
    let given = g.S.Sizes.given c.args.ruler.sizes in
    let old = c.args.infos.now in
    let new = c.line_starts.new.infos in
    let items = c.fill_shown.new.items.items in
    let starts = c.line_starts.new.starts.items in
    let parts = shown_from c.margin.result (length new) (sized given new) starts in
    let ends = cluster_ends text in
    let alike = sized_alike given new (with_ends old ends) (c.in_ok-line_starts.ensures.alike ∙ sym (with_alike old ends (length-cluster_ends text ∙ sym c.requires.len))) in
    let shown = taken_shown c.margin.result (length text) (length new) (sized given new) starts starts {parts = parts} (omega arith) refl refl
    ∙ same_shown c.margin.result (length text) (sized given new) (sized given (with_ends old ends)) starts alike
    ∙ ap (λ margin. shown_from margin (length text) (sized given (with_ends old ends)) starts) c.margin.ensures in
    let same = length-shown_from c.margin.result (length new) (sized given new) starts in
    on_ok_weaker {P = items ≡ starts ++ in_pairs parts} c.fill_shown.result (λ e. parts_in items starts parts same e ∙ shown
    ∙ ap (shown_from (margin_of c.args.options c.args.ruler.width) (length text) (sized given (with_ends old ends))) (sym (starts_in items starts parts same e))) c.fill_shown.ensures

pub returns-clause-ordered : goal.returns-clause-ordered
returns-clause-ordered g c =
    let items = c.fill_shown.new.items.items in
    let starts = c.line_starts.new.starts.items in
    let infos = sized (g.S.Sizes.given c.args.ruler.sizes) c.line_starts.new.infos in
    let n = length c.line_starts.new.infos in
    let parts = shown_from c.margin.result n infos starts in
    let same = length-shown_from c.margin.result n infos starts in
    on_ok_weaker {P = items ≡ starts ++ in_pairs parts} c.fill_shown.result
    (λ e. subst (AreStarts (length c.args.text.now)) (sym (starts_in items starts parts same e)) c.in_ok-line_starts.ensures.starts) c.fill_shown.ensures
