use Rattle.std.proofs.Common.{refl, arith}
use Rattle.bidi.proofs.BlockLemmas.{no_lead, some_lead}
use Rattle.bidi.proofs.text_cuts.first_lead.Goals as goal

pub returns-then-leads-eq0-clause-before : goal.returns-then-leads-eq0-clause-before
returns-then-leads-eq0-clause-before c = (no_lead c.args.block.now _ c.leads_in-leads.ensures c.if-leads-eq0.true).before

pub returns-else-leads-eq0-clause-within : goal.returns-else-leads-eq0-clause-within
returns-else-leads-eq0-clause-within c = (some_lead c.args.block.now _ _ c.leads_in-leads.ensures (omega (arith, c.if-leads-eq0.false)) refl).within

pub returns-else-leads-eq0-clause-before : goal.returns-else-leads-eq0-clause-before
returns-else-leads-eq0-clause-before c = (some_lead c.args.block.now _ _ c.leads_in-leads.ensures (omega (arith, c.if-leads-eq0.false)) refl).before

pub returns-else-leads-eq0-clause-here : goal.returns-else-leads-eq0-clause-here
returns-else-leads-eq0-clause-here c = (some_lead c.args.block.now _ _ c.leads_in-leads.ensures (omega (arith, c.if-leads-eq0.false)) refl).here
