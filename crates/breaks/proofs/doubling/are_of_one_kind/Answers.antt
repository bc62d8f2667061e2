use Rattle.std.proofs.Common.{◌≡◌, ◌∙◌, Bool, true, false, sym, refl}
use Rattle.std.proofs.Math.Bool.{beq}
use Rattle.ucd.specs.contracts.line_class.LineClass as class_type
use Rattle.ucd.specs.contracts.line_detail.LineDetail as detail_type
use denote.Enum.Bare.{same_true}
use Rattle.breaks.proofs.BoolLemmas.{both}
use Rattle.breaks.proofs.SymbolLemmas.{alike}
use Rattle.breaks.proofs.doubling.are_of_one_kind.Goals as goal

equal : (a b : Bool) → beq a b ≡ true → a ≡ b
equal true true h = refl
equal true false h = cc
equal false true h = cc
equal false false h = refl

pub returns-clause-yes : goal.returns-clause-yes
returns-clause-yes c same =
    let class = both _ _ (sym c.eq.ensures ∙ same) in
    let detail = both _ _ class.1 in
    let flags = both _ _ detail.1 in
    sym c.look_up-2.ensures
    ∙ sym (alike _ _ _ _ _ _ _ _ (same_true class_type.the_type tt _ _ class.0) (same_true detail_type.the_type tt _ _ detail.0) (equal _ _ flags.0) (equal _ _ flags.1))
    ∙ c.look_up.ensures
