use Rattle.joining.proofs.ChangeLemmas.{only_letters}
use Rattle.joining.proofs.changes.only_letters_with_forms_change.Goals as goal

pub returns : goal.returns
returns c = only_letters
