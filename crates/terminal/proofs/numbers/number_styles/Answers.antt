use Rattle.std.proofs.Common.{◌≡◌, ◌≤◌, ◌∙◌, ℕ, List, length, map, ap, sym, subst, arith}
use Rattle.std.specs.Prelude.{All}
use Rattle.std.proofs.lemmas.List.{get_or_default}
use Rattle.sequences.specs.StyledTexts.{styled_of}
use Rattle.terminal.specs.Numbers.{numbered}
use Rattle.terminal.proofs.NumberLemmas.{numbers_are, written_back}
use Rattle.terminal.proofs.numbers.number_styles.Goals as goal

pub returns-clause-styles : goal.returns-clause-styles
unfolding styled_of
returns-clause-styles c =
    let text = c.args.text.now in
    let items = c.resize.new.self.items in
    let new = c.put_numbers.new.numbers in
    let same : length new ≡ length items = omega (arith, ap length c.deref_mut.ensures.value) in
    let whole : length items ≤ c.resize.new.self.len = omega arith in
    let count : length items ≡ length text.characters.items = omega (arith, c.in_ok-resize.ensures.len, c.len.ensures) in
    ap (map (numbered text.links.items text.runs.items)) (written_back c.resize.new.self.len new items same whole)
    ∙ numbers_are text.links.items text.runs.items text.characters.items new (same ∙ count) c.put_numbers.ensures.styles

pub returns-clause-known : goal.returns-clause-known
returns-clause-known c =
    let text = c.args.text.now in
    let items = c.resize.new.self.items in
    let new = c.put_numbers.new.numbers in
    let same : length new ≡ length items = omega (arith, ap length c.deref_mut.ensures.value) in
    let whole : length items ≤ c.resize.new.self.len = omega arith in
    let P : List ℕ → Type 0 = λ xs. All (λ n. n ≤ length text.runs.items) xs in
    let known : P new = λ k d h. omega (arith, get_or_default new k d 0 h, c.put_numbers.ensures.known k) in
    subst P (sym (written_back c.resize.new.self.len new items same whole)) known
