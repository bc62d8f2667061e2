use Rattle.std.proofs.Common.{ap, ◌∙◌}
use Rattle.sequences.specs.StyledTexts.{styled_of, with_styles}
use Rattle.sequences.proofs.StyleLemmas.{with_styles-links}
use Rattle.sequences.proofs.style.StyledText.add_link.Goals as goal

pub returns-in_err-extend_from_slice-clause-text : goal.returns-in_err-extend_from_slice-clause-text
unfolding styled_of
returns-in_err-extend_from_slice-clause-text c =
    let text = c.args.self.now in
    ap (λ links. with_styles links text.runs.items 0 text.characters.items) c.in_err-extend_from_slice.ensures.items

pub returns-clause-text : goal.returns-clause-text
unfolding styled_of
returns-clause-text c =
    let text = c.args.self.now in
    ap (λ links. with_styles links text.runs.items 0 text.characters.items) c.in_ok-extend_from_slice.ensures.items
    ∙ with_styles-links text.links.items c.args.link.now text.runs.items 0 text.characters.items text.linked
