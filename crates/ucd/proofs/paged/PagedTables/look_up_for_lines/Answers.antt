use Rattle.std.proofs.Common.{◌≡◌, ◌∙◌, List, ◌++◌, ◌∷◌, [], map, get_or, take, sym, ap, arith}
use Rattle.std.proofs.lemmas.List.{map-append, take_all, take_more, take_more_set}
use Rattle.ucd.specs.LineSeparators.{answers_for_lines, with_line_separators}
use Rattle.ucd.specs.Pages.{answers_at}
use Rattle.ucd.specs.Properties.{properties_of}
use Rattle.ucd.specs.declared.properties.Properties.{Properties}
use Rattle.ucd.proofs.LineLemmas.{properties_changed}
use Rattle.ucd.proofs.PagedLemmas.{properties_are}
use Rattle.ucd.proofs.paged.PagedTables.look_up_for_lines.Goals as goal

pub loop-k-preserved : goal.loop-k-preserved
loop-k-preserved c =
    let text = c.args.text.now in
    let k = c.loop-k.k in
    let one = c.index-text-k.result in
    let found = c.for_lines.result in
    let entry : c.entry_of.result ≡ properties_of c.args.self.now one =
    rw (← c.self.view_is) (c.entry_of.ensures.answers ∙ ap (λ xs. answers_at xs c.as_slice-entries.result.now one) c.as_slice-index.ensures.value
    ∙ ap (λ xs. answers_at c.self.inside.pages.index.items xs one) c.as_slice-entries.ensures.value ∙ properties_are _ _ _ _ _ one c.entry_of.ensures.point c.self.invariant) in
    let is : found ≡ properties_of (with_line_separators c.args.self.now) one =
    c.for_lines.ensures ∙ ap (λ point. answers_for_lines point c.entry_of.result) c.from.ensures ∙ ap (answers_for_lines one) entry
    ∙ sym (properties_changed c.args.self.now one c.entry_of.ensures.point) in
    take_more_set c.loop-k.properties k found (omega (arith, c.loop-k-test.true, c.loop-k.auto.properties, c.requires))
    ∙ ap (λ (xs : List Properties). xs ++ found ∷ []) c.loop-k.invariant
    ∙ ap (λ x. map (properties_of (with_line_separators c.args.self.now)) (take k text) ++ x ∷ []) (is ∙ ap (properties_of (with_line_separators c.args.self.now)) c.index-text-k.is)
    ∙ sym (ap (map (properties_of (with_line_separators c.args.self.now))) (take_more text k one c.loop-k-test.true) ∙ map-append (properties_of (with_line_separators c.args.self.now)) (take k text) (get_or text k one ∷ []))

pub returns : goal.returns
returns c =
    let text = c.args.text.now in
    let k = c.loop-k.k in
    sym (take_all k c.loop-k.properties (omega (arith, c.loop-k-test.false, c.loop-k.auto.properties, c.requires)))
    ∙ c.loop-k.invariant ∙ ap (map (properties_of (with_line_separators c.args.self.now))) (take_all k text c.loop-k-test.false)
