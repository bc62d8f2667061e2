use Rattle.std.proofs.Common.{length, map, sym, ap, ◌∙◌}
use Rattle.ucd.specs.Classes.{class_in}
use Rattle.bidi.proofs.LengthLemmas.{base_level_of-low, length-levels_of}
use Rattle.bidi.proofs.ResolverLemmas.{flat-are, level-is, raised-are}
use Rattle.bidi.proofs.resolver.Resolver.resolve.Goals as goal

pub returns-in_ok-put_base-clause-level : goal.returns-in_ok-put_base-clause-level
returns-in_ok-put_base-clause-level c =
    level-is c.args.tables.now c.args.text.now c.args.properties.now c.args.base c.base_level_by-level.result c.requires c.base_level_by-level.ensures

pub returns-in_ok-put_base-clause-levels : goal.returns-in_ok-put_base-clause-levels
returns-in_ok-put_base-clause-levels c =
    flat-are c.args.tables.now c.args.text.now c.args.properties.now c.args.base c.base_level_by-level.result c.requires c.base_level_by-level.ensures
    c.put_base.new.levels.items (c.in_ok-put_base.ensures.ok) (rw c.base_level_by-level.ensures (base_level_of-low (map class_in c.args.properties.now) c.args.base)) (sym c.are_flat_by.ensures ∙ c.if-are_flat_by.true)

pub returns-in_ok-put_base-clause-len : goal.returns-in_ok-put_base-clause-len
returns-in_ok-put_base-clause-len c =
    ap length (returns-in_ok-put_base-clause-levels c) ∙ length-levels_of c.args.tables.now c.args.text.now c.args.base

pub returns-in_ok-resolve_raised-clause-level : goal.returns-in_ok-resolve_raised-clause-level
returns-in_ok-resolve_raised-clause-level c =
    level-is c.args.tables.now c.args.text.now c.args.properties.now c.args.base c.base_level_by-level.result c.requires c.base_level_by-level.ensures

pub returns-in_ok-resolve_raised-clause-levels : goal.returns-in_ok-resolve_raised-clause-levels
returns-in_ok-resolve_raised-clause-levels c =
    raised-are c.args.tables.now c.args.text.now c.args.properties.now c.args.base c.base_level_by-level.result c.requires c.base_level_by-level.ensures
    c.resolve_raised.new.levels.items c.in_ok-resolve_raised.ensures

pub returns-in_ok-resolve_raised-clause-len : goal.returns-in_ok-resolve_raised-clause-len
returns-in_ok-resolve_raised-clause-len c =
    ap length (returns-in_ok-resolve_raised-clause-levels c) ∙ length-levels_of c.args.tables.now c.args.text.now c.args.base
