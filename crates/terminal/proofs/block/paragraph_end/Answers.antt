use Rattle.std.proofs.Common.{◌+◌, refl}
use Rattle.lines.specs.Engine.{rules_of}
use Rattle.terminal.proofs.BlockLemmas.{group_ends, group_last, range_ends, range_last}
use Rattle.terminal.proofs.block.paragraph_end.Goals as goal

pub returns-in-Some-clause-paragraph : goal.returns-in-Some-clause-paragraph
returns-in-Some-clause-paragraph c =
    range_ends c.paragraphs_are_pieces.ensures (rules_of c.args.engine.now) c.args.characters.now _ c.args.at c.in-Some.k (c.args.at + c.in-Some.k) c.split_at.ensures.back refl c.in-Some.ensures.paragraphs

pub returns-in-Some-clause-split : goal.returns-in-Some-clause-split
returns-in-Some-clause-split c = λ shown same.
    group_ends (rules_of c.args.engine.now) shown c.args.characters.now _ c.args.at c.in-Some.k (c.args.at + c.in-Some.k) same c.split_at.ensures.back refl c.in-Some.ensures.paragraphs

pub returns-in-None-clause-paragraph : goal.returns-in-None-clause-paragraph
returns-in-None-clause-paragraph c =
    range_last (rules_of c.args.engine.now) c.args.characters.now _ c.args.at c.split_at.ensures.back c.requires.at c.in-None.ensures.paragraphs

pub returns-in-None-clause-split : goal.returns-in-None-clause-split
returns-in-None-clause-split c = λ shown same.
    group_last (rules_of c.args.engine.now) shown c.args.characters.now _ c.args.at same c.split_at.ensures.back c.requires.at c.in-None.ensures.paragraphs
