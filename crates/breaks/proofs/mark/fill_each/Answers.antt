use Rattle.std.proofs.Common.{[], ◌<◌, length, ◌∙◌, arith}
use Rattle.std.proofs.lemmas.List.{length-set, take_more_set}
use Rattle.breaks.specs.Rules.{rules}
use Rattle.breaks.specs.Symbols.{character_by}
use Rattle.breaks.proofs.OrdinaryLemmas.{head_passes, one_of_all, tail_passes}
use Rattle.breaks.proofs.WalkLemmas.{none_at_all, begins_walk, one_longer, steps, ends}
use Rattle.breaks.proofs.mark.fill_each.Goals as goal

-- the text is empty
pub returns-in_default : goal.returns-in_default
returns-in_default g c = none_at_all _ _ _ _ c.in_default.ensures.cases c.requires.len

-- the invariant holds after the first character
pub groups-init : goal.groups-init
groups-init g c = record {
  walks = (_, [], c.start-walk.ensures.stands c.args.rules, begins_walk _ _ _ _ _ c.in-Some.ensures.cases);
  len = one_longer _ _ _ _ c.requires.len c.in-Some.ensures.cases;
  within = c.start-walk.ensures.within;
  accepted = tail_passes g.W.Walk.accepts _ _ _ c.requires.accepted c.in-Some.ensures.cases;
  most = omega arith;
}

-- the walk can pass the first character and the next one
pub start-walk-requires : goal.start-walk-requires
start-walk-requires g c = head_passes g.W.Walk.accepts _ _ _ c.requires.accepted c.in-Some.ensures.cases

pub pass-outcome-requires-clause-next : goal.pass-outcome-requires-clause-next
pass-outcome-requires-clause-next g c = one_of_all g.W.Walk.accepts _ c.group.i c.get.result (omega arith) c.group.invariant.accepted c.get.ensures

pub pass-outcome-requires-in-rest-clause-next : goal.pass-outcome-requires-in-rest-clause-next
pass-outcome-requires-in-rest-clause-next g c = one_of_all g.W.Walk.accepts _ c.rest.i c.get-in-rest.result (omega arith) c.rest.invariant.accepted c.get-in-rest.ensures

-- the invariant still holds after the next character
pub group-preserved : goal.group-preserved
group-preserved g c =
    let lt : c.group.i < length c.group.marks = omega arith in
    record {
      walks = steps (character_by g.R.Rules.version) _ _ (rules g.R.Rules.version (g.R.Rules.whole_numbers c.args.rules)) _ _ _ c.group.i _ c.group.marks _ c.decide_before.result
          (omega arith) c.get.ensures c.group.invariant.walks (c.pass-outcome.ensures.passes c.args.rules) c.decide_before.ensures
          (take_more_set c.group.marks c.group.i c.decide_before.result lt);
      len = length-set c.group.marks c.group.i c.decide_before.result ∙ c.group.invariant.len;
      within = c.pass-outcome.ensures.within;
      accepted = c.group.invariant.accepted;
      most = omega arith;
      least = omega arith;
    }

pub rest-preserved : goal.rest-preserved
rest-preserved g c =
    let lt : c.rest.i < length c.rest.marks = omega arith in
    record {
      walks = steps (character_by g.R.Rules.version) _ _ (rules g.R.Rules.version (g.R.Rules.whole_numbers c.args.rules)) _ _ _ c.rest.i _ c.rest.marks _ c.decide_before-in-rest.result
          (omega arith) c.get-in-rest.ensures c.rest.invariant.walks (c.pass-outcome-in-rest.ensures.passes c.args.rules) c.decide_before-in-rest.ensures
          (take_more_set c.rest.marks c.rest.i c.decide_before-in-rest.result lt);
      len = length-set c.rest.marks c.rest.i c.decide_before-in-rest.result ∙ c.rest.invariant.len;
      within = c.pass-outcome-in-rest.ensures.within;
      accepted = c.rest.invariant.accepted;
      most = omega arith;
    }

-- the mark after the last character completes the list
pub returns : goal.returns
returns g c =
    rw c.len-last.ensures (ends (character_by g.R.Rules.version) _ _ (rules g.R.Rules.version (g.R.Rules.whole_numbers c.args.rules)) _ c.rest.i c.rest.marks (omega arith) c.rest.invariant.len c.rest.invariant.walks)
