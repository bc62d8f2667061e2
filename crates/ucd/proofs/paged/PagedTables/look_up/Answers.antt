use Rattle.std.proofs.Common.{◌≡◌, ◌∙◌, ap, arith}
use Rattle.ucd.specs.Pages.{answers_at}
use Rattle.ucd.specs.Properties.{properties_of}
use Rattle.ucd.proofs.PagedLemmas.{looked_up_more, properties_are}
use Rattle.ucd.proofs.paged.PagedTables.look_up.Goals as goal

pub group-preserved : goal.group-preserved
group-preserved c =
    let k = c.group.k in
    let one = c.index-text-k.result in
    let found = c.entry_of.result in
    let is : found ≡ properties_of c.args.self.now one =
    rw (← c.self.view_is) (c.entry_of.ensures.answers ∙ ap (λ xs. answers_at xs c.as_slice-entries.result.now one) c.as_slice-index.ensures.value
    ∙ ap (λ xs. answers_at c.self.inside.pages.index.items xs one) c.as_slice-entries.ensures.value ∙ properties_are _ _ _ _ _ one c.entry_of.ensures.point c.self.invariant) in
    record {
      looked_up = looked_up_more (properties_of c.args.self.now) c.args.text.now c.group.properties k one found (omega arith) (omega arith)
          (is ∙ ap (properties_of c.args.self.now) c.index-text-k.is) c.group.invariant.looked_up;
      left = omega arith;
      least = omega arith;
    }

pub rest-preserved : goal.rest-preserved
rest-preserved c =
    let k = c.rest.k in
    let one = c.index-text-k-in-rest.result in
    let found = c.entry_of-in-rest.result in
    let is : found ≡ properties_of c.args.self.now one =
    rw (← c.self.view_is) (c.entry_of-in-rest.ensures.answers ∙ ap (λ xs. answers_at xs c.as_slice-entries.result.now one) c.as_slice-index.ensures.value
    ∙ ap (λ xs. answers_at c.self.inside.pages.index.items xs one) c.as_slice-entries.ensures.value ∙ properties_are _ _ _ _ _ one c.entry_of-in-rest.ensures.point c.self.invariant) in
    looked_up_more (properties_of c.args.self.now) c.args.text.now c.rest.properties k one found (omega arith) (omega arith)
    (is ∙ ap (properties_of c.args.self.now) c.index-text-k-in-rest.is) c.rest.invariant
