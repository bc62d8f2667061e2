use Rattle.std.proofs.Common.{◌-◌, ◌%◌, Bool, ◌&&◌, length, drop, sym, ap, ◌∙◌, arith}
use Rattle.std.specs.List.{list_all}
use Rattle.std.proofs.lemmas.List.{take_rest}
use Rattle.ucd.specs.declared.properties.Properties.{Properties}
use Rattle.ucd.specs.Classes.{class_in}
use Rattle.bidi.specs.Plain.{is_flat_at}
use Rattle.bidi.proofs.OverlapLemmas.{all-overlap}
use Rattle.bidi.proofs.resolver.are_flat_by.Goals as goal

pub returns-then-are_each_flat : goal.returns-then-are_each_flat
returns-then-are_each_flat c =
    let xs = c.args.properties.now in
    let n = length xs - 16 in
    let m = length xs - length xs % 16 in
    let f : Properties → Bool = λ one. is_flat_at c.args.base (class_in one) in
    c.are_each_flat-then-are_each_flat.ensures ∙ ap (list_all f) (take_rest xs n)
    ∙ ap (λ b. b && list_all f (drop n xs)) (sym c.if-are_each_flat.true ∙ c.are_each_flat-2.ensures)
    ∙ all-overlap xs n m (omega (arith, c.if-len-lt-GROUP.false)) f

pub returns-else-are_each_flat : goal.returns-else-are_each_flat
returns-else-are_each_flat c =
    let xs = c.args.properties.now in
    let n = length xs - 16 in
    let m = length xs - length xs % 16 in
    let f : Properties → Bool = λ one. is_flat_at c.args.base (class_in one) in
    c.if-are_each_flat.false
    ∙ ap (λ b. b && list_all f (drop n xs)) (sym c.if-are_each_flat.false ∙ c.are_each_flat-2.ensures)
    ∙ all-overlap xs n m (omega (arith, c.if-len-lt-GROUP.false)) f
