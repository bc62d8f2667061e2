use Rattle.session.proofs.BorderLemmas.{pos_within, IsFrontBorder-found}
use Rattle.session.proofs.borders.front_border.Goals as goal

pub find_char-found-requires : goal.find_char-found-requires
find_char-found-requires g c = pos_within (g.S.ParagraphStore.items c.args.store.now) c.args.pos c.requires c.if-pos-eq0.false

pub returns : goal.returns
returns g c = IsFrontBorder-found (g.S.ParagraphStore.items c.args.store.now) c.args.pos c.find_char-found.result c.if-pos-eq0.false c.find_char-found.ensures.found
