use Rattle.std.proofs.Common.{◌≡◌, ℕ, ◌==◌, Bool, length, map, take, ap, subst, sym, ◌∙◌, arith}
use Rattle.std.specs.List.{position_or_len, range_with_len}
use Rattle.std.specs.List.Sorted.{IsPermutation}
use Rattle.std.proofs.lemmas.List.{length-take-le, take-map}
use Rattle.ucd.specs.Properties.{properties_of}
use Rattle.ucd.specs.Classes.{class_in}
use Rattle.ucd.specs.Within.{AreWithin}
use Rattle.reorder.specs.Mirroring.{visual_chars}
use Rattle.reorder.specs.Order.{is_odd, ltov_of, vtol_of}
use Rattle.reorder.proofs.OrderLemmas.{is_ltov, length-vtol, order_permutes}
use Rattle.reorder.proofs.PlainLemmas.{plain_chars, plain_ltov, plain_vtol, plain_within}
use Rattle.lines.specs.Reordering.{classes_by, reorders}
use Rattle.lines.proofs.ReorderingLemmas.{length-classes_by, within_properties}
use Rattle.lines.proofs.showing.show_part.Goals as goal

pub returns-then-is_flat-clause-ltov : goal.returns-then-is_flat-clause-ltov
returns-then-is_flat-clause-ltov c =
    let line = c.args.line.now in
    let levels = c.args.levels.now in
    let len : length (take (length levels) line.characters.now) ≡ length levels = length-take-le (length levels) line.characters.now (omega (arith, c.requires.levels)) in
    c.show_plain.ensures.ltov ∙ ap (range_with_len 0) len
    ∙ plain_ltov (reorders line.rules.options) (classes_by line.rules.options (map class_in line.properties.now) line.ends.now levels) levels (λ k. ap is_odd (c.requires.flat c.if-is_flat.true k))

pub returns-then-is_flat-clause-vtol : goal.returns-then-is_flat-clause-vtol
returns-then-is_flat-clause-vtol c =
    let line = c.args.line.now in
    let levels = c.args.levels.now in
    let len : length (take (length levels) line.characters.now) ≡ length levels = length-take-le (length levels) line.characters.now (omega (arith, c.requires.levels)) in
    c.show_plain.ensures.vtol ∙ ap (range_with_len 0) len
    ∙ plain_vtol (reorders line.rules.options) (classes_by line.rules.options (map class_in line.properties.now) line.ends.now levels) levels (λ k. ap is_odd (c.requires.flat c.if-is_flat.true k))

pub returns-then-is_flat-clause-chars : goal.returns-then-is_flat-clause-chars
returns-then-is_flat-clause-chars c =
    let line = c.args.line.now in
    let levels = c.args.levels.now in
    let part = take (length levels) line.characters.now in
    let len : length part ≡ length levels = length-take-le (length levels) line.characters.now (omega (arith, c.requires.levels)) in
    c.show_plain.ensures.chars
    ∙ plain_chars line.rules.tables.now (reorders line.rules.options) (classes_by line.rules.options (map class_in line.properties.now) line.ends.now levels) levels part (sym len) (λ k. ap is_odd (c.requires.flat c.if-is_flat.true k))

pub returns-then-is_flat-clause-within : goal.returns-then-is_flat-clause-within
returns-then-is_flat-clause-within c =
    let line = c.args.line.now in
    let levels = c.args.levels.now in
    let len : length (take (length levels) line.characters.now) ≡ length levels = length-take-le (length levels) line.characters.now (omega (arith, c.requires.levels)) in
    let is : range_with_len 0 (length levels) ≡ c.show_plain.new.vtol = ap (range_with_len 0) (sym len) ∙ sym c.show_plain.ensures.vtol in
    subst (AreWithin (length levels)) is (plain_within (length levels))

pub visual_places-requires-clause-line : goal.visual_places-requires-clause-line
visual_places-requires-clause-line c =
    let line = c.args.line.now in
    length-classes_by line.rules.options (map class_in line.properties.now) line.ends.now c.args.levels.now (within_properties c.args.levels.now line.rules.tables.now line.characters.now line.properties.now c.requires.line c.requires.levels)

pub show_places-requires-clause-properties : goal.show_places-requires-clause-properties
show_places-requires-clause-properties c =
    let line = c.args.line.now in
    let n = length c.args.levels.now in
    ap (take n) c.requires.line ∙ take-map (properties_of line.rules.tables.now) n line.characters.now

pub show_places-requires-clause-places : goal.show_places-requires-clause-places
show_places-requires-clause-places c =
    let line = c.args.line.now in
    let levels = c.args.levels.now in
    let classes = classes_by line.rules.options (map class_in line.properties.now) line.ends.now levels in
    let vtol = c.visual_places.new.vtol in
    let len : length (take (length levels) line.characters.now) ≡ length levels = length-take-le (length levels) line.characters.now (omega (arith, c.requires.levels)) in
    let size = length-vtol c.reorders.result classes levels vtol c.visual_places.ensures.vtol in
    subst (λ (n : ℕ). IsPermutation (range_with_len 0 n) vtol) (size ∙ sym len) (order_permutes c.reorders.result classes levels vtol c.visual_places.ensures.vtol)

pub returns-else-is_flat-clause-ltov : goal.returns-else-is_flat-clause-ltov
returns-else-is_flat-clause-ltov c =
    let line = c.args.line.now in
    let levels = c.args.levels.now in
    let classes = classes_by line.rules.options (map class_in line.properties.now) line.ends.now levels in
    let vtol = c.visual_places.new.vtol in
    let len : length (take (length levels) line.characters.now) ≡ length levels = length-take-le (length levels) line.characters.now (omega (arith, c.requires.levels)) in
    let size = length-vtol c.reorders.result classes levels vtol c.visual_places.ensures.vtol in
    is_ltov c.reorders.result classes levels vtol c.show_places.new.ltov c.visual_places.ensures.vtol
    (c.show_places.ensures.ltov ∙ ap (λ (n : ℕ). map (λ (k : ℕ). position_or_len (λ (i : ℕ). i == k) vtol) (range_with_len 0 n)) (len ∙ sym size))
    ∙ ap (λ (on : Bool). ltov_of on classes levels) c.reorders.ensures

pub returns-else-is_flat-clause-vtol : goal.returns-else-is_flat-clause-vtol
returns-else-is_flat-clause-vtol c =
    let line = c.args.line.now in
    let levels = c.args.levels.now in
    c.visual_places.ensures.vtol ∙ ap (λ (on : Bool). vtol_of on (classes_by line.rules.options (map class_in line.properties.now) line.ends.now levels) levels) c.reorders.ensures

pub returns-else-is_flat-clause-chars : goal.returns-else-is_flat-clause-chars
returns-else-is_flat-clause-chars c =
    let line = c.args.line.now in
    let levels = c.args.levels.now in
    c.show_places.ensures.chars ∙ ap (visual_chars line.rules.tables.now levels (take (length levels) line.characters.now)) (returns-else-is_flat-clause-vtol c)
