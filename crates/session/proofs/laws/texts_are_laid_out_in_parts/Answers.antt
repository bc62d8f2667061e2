use Rattle.session.proofs.PartLemmas.{layouts_in_parts, pages_in_parts}
use Rattle.session.proofs.laws.texts_are_laid_out_in_parts.Goals as goal

pub returns-clause-layouts : goal.returns-clause-layouts
returns-clause-layouts c = layouts_in_parts c.paragraphs_are_pieces.ensures

pub returns-clause-pages : goal.returns-clause-pages
returns-clause-pages c = pages_in_parts c.paragraphs_are_pieces.ensures
