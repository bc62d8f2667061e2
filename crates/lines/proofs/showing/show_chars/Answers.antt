use Rattle.std.proofs.Common.{◌≡◌, ◌∙◌, ℕ, Bool, length, map, take, ap, subst, sym}
use Rattle.std.proofs.lemmas.List.{length-take-le, take-map}
use Rattle.ucd.specs.Properties.{properties_of}
use Rattle.ucd.specs.Classes.{class_in}
use Rattle.ucd.specs.Within.{AreWithin}
use Rattle.reorder.specs.Mirroring.{visual_chars}
use Rattle.reorder.specs.Order.{vtol_of}
use Rattle.reorder.proofs.OrderLemmas.{length-order, vtol_within}
use Rattle.lines.specs.Reordering.{classes_by, reorders}
use Rattle.lines.proofs.ReorderingLemmas.{length-classes_by, not_reordered, within_properties}
use Rattle.lines.proofs.showing.show_chars.Goals as goal

pub visual_chars-requires-clause-properties : goal.visual_chars-requires-clause-properties
visual_chars-requires-clause-properties c =
    let line = c.args.line.now in
    let n = length c.args.levels.now in
    ap (take n) c.requires.line ∙ take-map (properties_of line.rules.tables.now) n line.characters.now

pub visual_runs-requires-clause-properties : goal.visual_runs-requires-clause-properties
visual_runs-requires-clause-properties c =
    let line = c.args.line.now in
    let n = length c.args.levels.now in
    ap (take n) c.requires.line ∙ take-map (properties_of line.rules.tables.now) n line.characters.now

pub visual_runs-requires-clause-chars : goal.visual_runs-requires-clause-chars
visual_runs-requires-clause-chars c = c.requires.chars ∙ sym (ap length c.in-Some.ensures.runs ∙ length-order c.args.levels.now)

pub visual_chars-requires-in-None-clause-properties : goal.visual_chars-requires-in-None-clause-properties
visual_chars-requires-in-None-clause-properties c =
    let line = c.args.line.now in
    let n = length c.args.levels.now in
    ap (take n) c.requires.line ∙ take-map (properties_of line.rules.tables.now) n line.characters.now

pub visual_chars-requires-in-None-clause-within : goal.visual_chars-requires-in-None-clause-within
visual_chars-requires-in-None-clause-within c =
    let line = c.args.line.now in
    let levels = c.args.levels.now in
    let classes = map class_in line.properties.now in
    let is = c.order_runs.ensures.places c.in-None.is ∙ not_reordered line.rules.options classes line.ends.now levels (sym c.reorders.ensures ∙ c.if-reorders.false) in
    let size : length (take (length levels) line.characters.now) ≡ length levels = length-take-le (length levels) line.characters.now c.requires.levels in
    subst (λ (n : ℕ). AreWithin n c.order_runs.new.items) (sym size) (vtol_within (reorders line.rules.options) (classes_by line.rules.options classes line.ends.now levels) levels c.order_runs.new.items is)

pub returns-in-Some : goal.returns-in-Some
returns-in-Some c =
    let line = c.args.line.now in
    let levels = c.args.levels.now in
    c.visual_runs.ensures
    ∙ ap (visual_chars line.rules.tables.now levels (take (length levels) line.characters.now))
    (c.in-Some.ensures.runs ∙ not_reordered line.rules.options (map class_in line.properties.now) line.ends.now levels (sym c.reorders.ensures ∙ c.if-reorders.false))

pub returns-in-None : goal.returns-in-None
returns-in-None c =
    let line = c.args.line.now in
    let levels = c.args.levels.now in
    c.visual_chars-in-None.ensures
    ∙ ap (visual_chars line.rules.tables.now levels (take (length levels) line.characters.now))
    (c.order_runs.ensures.places c.in-None.is ∙ not_reordered line.rules.options (map class_in line.properties.now) line.ends.now levels (sym c.reorders.ensures ∙ c.if-reorders.false))

pub visual_places-requires-clause-line : goal.visual_places-requires-clause-line
visual_places-requires-clause-line c =
    let line = c.args.line.now in
    length-classes_by line.rules.options (map class_in line.properties.now) line.ends.now c.args.levels.now (within_properties c.args.levels.now line.rules.tables.now line.characters.now line.properties.now c.requires.line c.requires.levels)

pub returns-then-reorders : goal.returns-then-reorders
returns-then-reorders c =
    let line = c.args.line.now in
    let levels = c.args.levels.now in
    let classes = classes_by line.rules.options (map class_in line.properties.now) line.ends.now levels in
    c.visual_chars.ensures
    ∙ ap (visual_chars line.rules.tables.now levels (take (length levels) line.characters.now))
    (c.visual_places.ensures.vtol ∙ ap (λ (on : Bool). vtol_of on classes levels) (sym c.if-reorders.true ∙ c.reorders.ensures))
