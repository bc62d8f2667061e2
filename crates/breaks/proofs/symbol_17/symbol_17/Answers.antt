use Rattle.breaks.proofs.SymbolLemmas17.{symbol_shown_17, symbol_below_17}
use Rattle.breaks.proofs.symbol_17.symbol_17.Goals as goal

pub returns-clause-shown : goal.returns-clause-shown
returns-clause-shown c = symbol_shown_17 c.args.properties _ _ c.line_index.ensures.within c.line_index.ensures.answers c.symbol_at.ensures

pub returns-clause-below : goal.returns-clause-below
returns-clause-below c = symbol_below_17 _ _ c.line_index.ensures.within c.symbol_at.ensures
