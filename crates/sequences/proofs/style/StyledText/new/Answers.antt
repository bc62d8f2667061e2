use Rattle.std.proofs.Common.{ap}
use Rattle.sequences.specs.StyledTexts.{styled_of, with_styles}
use Rattle.sequences.proofs.style.StyledText.new.Goals as goal

pub returns-clause-text : goal.returns-clause-text
unfolding styled_of
returns-clause-text c = ap (with_styles c.new-3.result.items c.new-2.result.items 0) c.new.ensures.items
