use Rattle.std.proofs.Common.{◌≡◌, true, false, rules, subst, is_some}
use Rattle.ucd.specs.Pages.{answers_at}
use Rattle.ucd.proofs.ImagePoints.{flags_agree, all_flagged}
use Rattle.ucd.proofs.image.are_flags.Goals as goal

pub returns-then-are_flags_points-clause-yes : goal.returns-then-are_flags_points-clause-yes
returns-then-are_flags_points-clause-yes g c = λ is.
    let keyed : c.are_flags_points.result ≡ true = search rules in
    let flagged : c.are_points_flagged.result ≡ true = search rules in
    flags_agree g.P.Point.decode c.args.bytes.now c.args.start g.P.Point.flag c.args.count
    (answers_at c.args.pages.now.index.items c.args.pages.now.entries.items) c.requires.answers
    (λ x lt set. subst (λ o. is_some o ≡ true) (c.requires.points x) (c.are_flags_points.ensures.yes keyed x lt set))
    (c.are_points_flagged.ensures.yes flagged)

pub returns-then-are_flags_points-clause-no : goal.returns-then-are_flags_points-clause-no
returns-then-are_flags_points-clause-no g c = λ isnt agree.
    let unflagged : c.are_points_flagged.result ≡ false = search rules in
    c.are_points_flagged.ensures.no unflagged
    (all_flagged g.P.Point.decode c.args.bytes.now c.args.start g.P.Point.flag c.args.count
    (answers_at c.args.pages.now.index.items c.args.pages.now.entries.items) c.requires.answers agree c.requires.are)
