use Rattle.std.proofs.Common.{◌≡◌, ◌∙◌, true, below_more, refl, sym, arith}
use Rattle.std.proofs.lemmas.Bool.{and_parts}
use Rattle.std.proofs.lemmas.List.{ext_get_or, get_or_default}
use Rattle.ucd.specs.contracts.joining_type.JoiningType as joining_type
use Rattle.ucd.specs.declared.joining_type.JoiningType.{JoiningType}
use Rattle.ucd.specs.declared.joining_type.JoiningType.TheVariants.{RightJoining, LeftJoining, DualJoining, JoinCausing, NonJoining, Transparent}
use denote.Enum.Bare.{sameb}
use Rattle.ucd.proofs.joining_pages.are_equal.Goals as goal

same : (a b : JoiningType) → sameb joining_type.the_type a b ≡ true → a ≡ b
same RightJoining RightJoining is = refl
same RightJoining b is = cc
same LeftJoining LeftJoining is = refl
same LeftJoining b is = cc
same DualJoining DualJoining is = refl
same DualJoining b is = cc
same JoinCausing JoinCausing is = refl
same JoinCausing b is = cc
same NonJoining NonJoining is = refl
same NonJoining b is = cc
same Transparent Transparent is = refl
same Transparent b is = cc

pub loop-k-preserved : goal.loop-k-preserved
loop-k-preserved c = λ both.
    let so_far = and_parts _ _ both in
    let here = same _ _ (sym c.eq-equal.ensures ∙ so_far.1) in
    below_more _ _ (c.loop-k.invariant so_far.0)
    (get_or_default c.args.one.now c.loop-k.k NonJoining _ c.loop-k-test.true ∙ here ∙ get_or_default c.args.other.now c.loop-k.k _ NonJoining (omega (arith, c.loop-k-test.true, c.requires)))

pub returns : goal.returns
returns c equal = ext_get_or NonJoining c.args.one.now c.args.other.now c.requires (λ j lt. c.loop-k.invariant equal j (omega (arith, c.loop-k-test.false)))
