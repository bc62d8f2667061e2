use Rattle.std.proofs.Common.{◌≡◌, ◌+◌, ◌-◌, ◌≤◌, true, length, map, take, drop}
use Rattle.std.specs.List.{list_all}
use Rattle.breaks.specs.Passes.{marks_by}
use Rattle.breaks.specs.Rules.{rules}
use Rattle.breaks.specs.Symbols.{character_by}
use Rattle.breaks.proofs.WalkLemmas.{Walks}
use Rattle.breaks.proofs.mark.fill_each.Given as goal

-- In each loop, the marks so far, followed by those that the recursion finds for the rest, are the marks of the text.
abbrev pub invariant-groups : goal.invariant-groups
invariant-groups g l =
    let v = g.R.Rules.version in
    let rest = g.C.Characters.all l.rest in
    record {
      walks : Walks (rules v (g.R.Rules.whole_numbers l.rules)) (g.W.Walk.stands l.rules l.walk) (take l.i l.marks) (map (character_by v) (drop l.i rest)) (marks_by v (g.R.Rules.whole_numbers l.rules) (g.C.Characters.all l.fn.characters));
      len : length l.marks ≡ length rest + 1;
      within : g.W.Walk.within l.walk;
      accepted : list_all g.W.Walk.accepts rest ≡ true;
      most : l.i ≤ length rest;
    }

abbrev pub decreases-groups : goal.decreases-groups
decreases-groups g l = length (g.C.Characters.all l.rest) - l.i

abbrev pub invariant-group : goal.invariant-group
invariant-group g l =
    let v = g.R.Rules.version in
    let rest = g.C.Characters.all l.rest in
    record {
      walks : Walks (rules v (g.R.Rules.whole_numbers l.rules)) (g.W.Walk.stands l.rules l.walk) (take l.i l.marks) (map (character_by v) (drop l.i rest)) (marks_by v (g.R.Rules.whole_numbers l.rules) (g.C.Characters.all l.fn.characters));
      len : length l.marks ≡ length rest + 1;
      within : g.W.Walk.within l.walk;
      accepted : list_all g.W.Walk.accepts rest ≡ true;
      most : l.i + 4 ≤ length rest + l.done;
      least : l.initial.i + l.done ≤ l.i;
    }

abbrev pub invariant-rest : goal.invariant-rest
invariant-rest g l =
    let v = g.R.Rules.version in
    let rest = g.C.Characters.all l.rest in
    record {
      walks : Walks (rules v (g.R.Rules.whole_numbers l.rules)) (g.W.Walk.stands l.rules l.walk) (take l.i l.marks) (map (character_by v) (drop l.i rest)) (marks_by v (g.R.Rules.whole_numbers l.rules) (g.C.Characters.all l.fn.characters));
      len : length l.marks ≡ length rest + 1;
      within : g.W.Walk.within l.walk;
      accepted : list_all g.W.Walk.accepts rest ≡ true;
      most : l.i ≤ length rest;
    }

abbrev pub decreases-rest : goal.decreases-rest
decreases-rest g l = length (g.C.Characters.all l.rest) - l.i
