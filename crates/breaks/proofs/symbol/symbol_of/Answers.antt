use Rattle.breaks.proofs.SymbolLemmas.{symbol_shown, symbol_below}
use Rattle.breaks.proofs.symbol.symbol_of.Goals as goal

pub returns-clause-shown : goal.returns-clause-shown
returns-clause-shown c = symbol_shown c.args.properties _ _ c.line_index.ensures.within c.line_index.ensures.answers c.symbol_at.ensures

pub returns-clause-below : goal.returns-clause-below
returns-clause-below c = symbol_below _ _ c.line_index.ensures.within c.symbol_at.ensures
