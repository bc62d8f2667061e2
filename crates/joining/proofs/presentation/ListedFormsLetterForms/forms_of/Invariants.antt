use Rattle.std.proofs.Common.{◌≡◌, drop}
use Rattle.joining.specs.Presentation.{forms_in}
use Rattle.joining.proofs.presentation.ListedFormsLetterForms.forms_of.Given as goal

-- no letter before is the character
abbrev pub invariant-loop-listed : goal.invariant-loop-listed
invariant-loop-listed l = forms_in (drop l.listed-index l.self.letters.now) l.c ≡ forms_in l.self.letters.now l.c
