use Rattle.std.proofs.Common.{◌≡◌, ◌-◌, ◌∙◌, length, take, drop, map, ap, ap₂, sym, arith}
use Rattle.std.proofs.lemmas.List.{take_all, length-drop}
use Rattle.lines.specs.Bare.{bare, AreAlike, with_ends}
use Rattle.lines.specs.Clusters.{cluster_ends}
use Rattle.lines.specs.Filling.{line_len}
use Rattle.lines.proofs.BareLemmas.{alike_drop, with_alike, same_with}
use Rattle.lines.proofs.ClusterLemmas.{length-cluster_ends}
use Rattle.lines.proofs.filling.line_len.Goals as goal
use Rattle.lines.proofs.filling.line_len.Given.{Over}
use Rattle.lines.proofs.filling.line_len.Goals.{After-line_end, then-not-is_known+in_ok-mark, else-not-is_known}

pub returns-in-Some-clause-line : goal.returns-in-Some-clause-line
returns-in-Some-clause-line g c =
    let given = g.S.Sizes.given c.args.ruler.sizes in
    let infos = c.args.infos.now in
    let start = c.args.start in
    let known = with_ends infos (cluster_ends c.args.text.now) in
    let rest = take (length infos - start) (drop start infos) in
    let is : rest ≡ drop start infos = take_all (length infos - start) (drop start infos) (omega (arith, length-drop start infos)) in
    let alike : AreAlike rest (drop start known) =
    ap (map bare) is ∙ alike_drop infos known start (sym (with_alike infos (cluster_ends c.args.text.now) (length-cluster_ends c.args.text.now ∙ sym c.requires.len))) in
    c.in-Some.ensures.len (drop start known) alike
    ∙ ap₂ (line_len c.args.nobreak) c.from.ensures.width (c.from.ensures.sizes known)

-- there are as many cluster ends as items
sizes : (g : Over) (c : After-line_end g) → length (cluster_ends c.args.text.now) ≡ length c.args.infos.now
sizes g c = length-cluster_ends c.args.text.now ∙ sym c.requires.len

-- once cluster ends are known, the items have the cluster ends of the text
known : (g : Over) (c : After-line_end g) → c.if-not-is_known.infos ≡ with_ends c.args.infos.now (cluster_ends c.args.text.now)
known g c = elim c.if-not-is_known.branch [
  | then-not-is_known+in_ok-mark w ↦ w.infos-is ∙ w.in_ok-mark.ensures
  | else-not-is_known w ↦ w.infos-is ∙ c.requires.known w.if-not-is_known.false
]

pub returns-clause-known : goal.returns-clause-known
returns-clause-known g c _ =
    let ends = cluster_ends c.args.text.now in
    known g c ∙ sym (ap (λ ps. with_ends ps ends) (known g c) ∙ same_with (with_ends c.args.infos.now ends) c.args.infos.now ends (with_alike c.args.infos.now ends (sizes g c)))

pub returns-clause-alike : goal.returns-clause-alike
returns-clause-alike g c = ap (map bare) (known g c) ∙ with_alike c.args.infos.now (cluster_ends c.args.text.now) (sizes g c)
