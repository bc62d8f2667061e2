use Rattle.std.proofs.Common.{Some, refl, sym, ◌∙◌}
use Rattle.lines.specs.Engine.{rules_of}
use Rattle.terminal.proofs.DirectionLemmas.{level_found, searched_all, searched_block}
use Rattle.terminal.proofs.direction.known_level.Goals as goal

pub returns-in-After-clause-searched : goal.returns-in-After-clause-searched
returns-in-After-clause-searched c =
    let at = c.loop-scanned in
    searched_all c.paragraphs_are_pieces.ensures (rules_of c.args.engine.now) (rules_of at.engine) at.invariant.rules at.searched c.args.text.now c.split_at.result.1.now
    at.invariant.searched c.split_at.ensures.back _ c.in-After.scanned (c.first_end.ensures.open c.in-After.scanned c.in-After.passed c.in-After.is)
    (c.first_end.ensures.passed c.in-After.scanned c.in-After.passed c.in-After.is) refl refl

pub returns-in-Some-clause-level : goal.returns-in-Some-clause-level
returns-in-Some-clause-level c = λ more.
    let at = c.loop-scanned in
    level_found c.paragraphs_are_pieces.ensures (rules_of c.args.engine.now) (rules_of at.engine) at.invariant.rules at.searched c.args.text.now c.split_at.result.1.now
    at.invariant.searched c.split_at.ensures.back c.in-At.len c.split_at-in-At.result.0.now (c.first_end.ensures.at c.in-At.len c.in-At.is) c.split_at-in-At.ensures.front
    (Some c.in-Some.level) (sym c.in-Some.is ∙ c.in_ok-level-in-At.ensures.level) more

pub loop-scanned-preserved : goal.loop-scanned-preserved
loop-scanned-preserved c =
    let at = c.loop-scanned in
    let next = c.up_to-searched.ensures in
    record {
      rules = c.in_ok-level-in-At.ensures.rules ∙ at.invariant.rules;
      searched = searched_block c.paragraphs_are_pieces.ensures (rules_of c.args.engine.now) (rules_of at.engine) at.invariant.rules at.searched c.args.text.now c.split_at.result.1.now
          at.invariant.searched c.split_at.ensures.back c.in-At.len c.split_at-in-At.result.0.now (c.first_end.ensures.at c.in-At.len c.in-At.is) c.split_at-in-At.ensures.front
          c.up_to-searched.result (sym c.in-None.is ∙ c.in_ok-level-in-At.ensures.level) next.start next.scanned next.passed;
    }
