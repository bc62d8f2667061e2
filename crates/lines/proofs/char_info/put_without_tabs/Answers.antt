use Rattle.std.proofs.Common.{◌≡◌, ◌+◌, ◌-◌, ◌∙◌, drop, take, length, ap, sym, subst, arith}
use Rattle.std.proofs.lemmas.List.{drop-map, length-map, take-map}
use borrow.Rule.Slice.PartMut.{put_mid}
use Rattle.ucd.specs.Properties.{properties_of}
use Rattle.lines.specs.BareInfos.{bare_infos}
use Rattle.lines.proofs.BareLemmas.{PlacesPut, PlacesPut-group}
use Rattle.lines.proofs.char_info.put_without_tabs.Goals as goal

pub put_group-requires-clause-properties : goal.put_group-requires-clause-properties
put_group-requires-clause-properties c =
    let look = properties_of c.args.tables.now in
    let k = c.loop-k.k in
    ap (λ ps. take (k + 8 - k) (drop k ps)) c.requires.properties
    ∙ ap (take (k + 8 - k)) (drop-map look k c.args.text.now)
    ∙ take-map look (k + 8 - k) (drop k c.args.text.now)

pub loop-k-preserved : goal.loop-k-preserved
loop-k-preserved c =
    let k = c.loop-k.k in
    let few : k + 8 - k ≡ 8 = omega arith in
    let text = c.args.text.now in
    let marks = c.args.marks.now in
    let piece = c.put_group.new.infos in
    let is : piece ≡ bare_infos c.args.tables.now 0 (take 8 (drop k text)) (take 8 (drop k marks)) =
    subst (λ n. piece ≡ bare_infos c.args.tables.now 0 (take n (drop k text)) (take n (drop k marks))) few c.put_group.ensures in
    subst (λ n. PlacesPut c.args.tables.now 0 text marks (put_mid k n c.loop-k.infos piece) (k + 8)) (sym few)
    (PlacesPut-group c.args.tables.now 0 text marks c.loop-k.infos piece k 8 c.loop-k.invariant c.loop-k-test.true c.requires.marks is)

pub put_each-requires-clause-properties : goal.put_each-requires-clause-properties
put_each-requires-clause-properties c =
    let look = properties_of c.args.tables.now in
    let k = c.loop-k.k in
    let size : length c.args.properties.now ≡ length c.args.text.now = ap length c.requires.properties ∙ length-map c.args.text.now look in
    ap (λ n. take (n - k) (drop k c.args.properties.now)) size
    ∙ ap (λ ps. take (length c.args.text.now - k) (drop k ps)) c.requires.properties
    ∙ ap (take (length c.args.text.now - k)) (drop-map look k c.args.text.now)
    ∙ take-map look (length c.args.text.now - k) (drop k c.args.text.now)
