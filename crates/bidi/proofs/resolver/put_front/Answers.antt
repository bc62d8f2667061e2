use Rattle.std.proofs.Common.{◌≡◌, length, ◌++◌, take, drop, sym, ap, ◌∙◌}
use Rattle.std.proofs.Math.Seq.{take-append_seam}
use Rattle.std.proofs.lemmas.List.{length-map}
use Rattle.ucd.specs.Classes.{class_in}
use Rattle.bidi.proofs.resolver.put_front.Goals as goal

pub returns-clause-classes : goal.returns-clause-classes
returns-clause-classes c =
    let xs = c.args.properties.now in
    let ys = c.put_classes.new.classes in
    let rest = drop (length xs) c.args.classes.now in
    let size : length xs ≡ length ys = sym (ap length c.put_classes.ensures.classes ∙ length-map xs class_in) in
    ap (λ n. take n (ys ++ rest)) size ∙ take-append_seam ys rest ∙ c.put_classes.ensures.classes
