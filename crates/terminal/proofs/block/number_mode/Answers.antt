use Rattle.std.proofs.Common.{◌≡◌, ◌∙◌, ℕ, length, get_or, ap, sym, arith}
use Rattle.std.proofs.lemmas.List.{get_or_default}
use Rattle.sequences.specs.StyledTexts.{styled_of}
use Rattle.terminal.specs.Paragraphs.{styles_of}
use Rattle.terminal.specs.Texts.{in_mode}
use Rattle.terminal.proofs.BlockLemmas.{zeros_text}
use Rattle.terminal.proofs.LayoutLemmas.{on_ok}
use Rattle.terminal.proofs.block.number_mode.Goals as goal

pub returns-in-Strip-clause-styles : goal.returns-in-Strip-clause-styles
returns-in-Strip-clause-styles c =
    let text = c.args.text.now in
    let numbers = c.put_zeros.new.numbers.items in
    on_ok c.put_zeros.result
    (λ (facts : (length numbers ≡ c.len.result) × ((k : ℕ) → get_or numbers k 0 ≡ 0)).
    let same : length numbers ≡ length text.characters.items = omega (arith, facts.0, c.len.ensures) in
    zeros_text text numbers same facts.1 ∙ ap (λ m. styles_of (in_mode m (styled_of text))) (sym c.in-Strip.is))
    c.put_zeros.ensures

pub returns-in-Strip-clause-known : goal.returns-in-Strip-clause-known
returns-in-Strip-clause-known c =
    let text = c.args.text.now in
    let numbers = c.put_zeros.new.numbers.items in
    on_ok c.put_zeros.result
    (λ (facts : (length numbers ≡ c.len.result) × ((k : ℕ) → get_or numbers k 0 ≡ 0)). λ k d h. omega (arith, get_or_default numbers k d 0 h, facts.1 k))
    c.put_zeros.ensures
