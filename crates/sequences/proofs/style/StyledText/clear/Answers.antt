use Rattle.std.proofs.Common.{ap}
use Rattle.sequences.specs.StyledTexts.{styled_of, with_styles}
use Rattle.sequences.proofs.style.StyledText.clear.Goals as goal

pub returns-clause-text : goal.returns-clause-text
unfolding styled_of
returns-clause-text c = ap (with_styles c.truncate.new.self.items c.clear-2.new.self.items 0) c.clear.ensures.items
