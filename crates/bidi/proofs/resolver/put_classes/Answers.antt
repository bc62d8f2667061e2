use Rattle.std.proofs.Common.{◌≡◌, ◌-◌, ◌%◌, Bool, ◌&&◌, ◌||◌, ◌++◌, length, map, take, drop, refl, sym, ap, ◌∙◌, arith}
use Rattle.std.specs.List.{list_all, list_any}
use Rattle.std.proofs.lemmas.List.{length-append, length-drop, length-map, length-take-le, take_rest}
use Rattle.std.proofs.lemmas.List.Folds.{list_all-map}
use Rattle.ucd.specs.declared.properties.Properties.{Properties}
use Rattle.ucd.specs.Classes.{class_in}
use Rattle.bidi.specs.Plain.{has_bracket_in, is_plain}
use Rattle.bidi.proofs.OverlapLemmas.{all-overlap, any-overlap, map-front, map-rest}
use Rattle.bidi.proofs.resolver.put_classes.Goals as goal

pub returns-clause-classes : goal.returns-clause-classes
returns-clause-classes c =
    let xs = c.args.properties.now in
    let n = length xs - 16 in
    let m = length xs - length xs % 16 in
    let first = c.put_each-first.new.classes in
    let rest = drop m c.args.classes.now in
    let front : length (map class_in (take n xs)) ≡ n = length-map (take n xs) class_in ∙ length-take-le n xs (omega arith) in
    let start : length first ≡ m = ap length c.put_each-first.ensures.classes ∙ length-map (take m xs) class_in ∙ length-take-le m xs (omega arith) in
    let size : length (first ++ rest) ≡ length xs = length-append first rest ∙ omega (arith, start, length-drop m c.args.classes.now, c.requires) in
    map-rest class_in n (length (first ++ rest) - n) xs (first ++ rest) c.put_last-last.new.classes size (omega arith) refl
    (ap (λ ys. take n (ys ++ rest)) c.put_each-first.ensures.classes ∙ map-front xs n m (omega (arith, c.if-len-lt-GROUP.false)) class_in rest front)
    (c.put_last-last.ensures.classes ∙ ap (map class_in) (take_rest xs n))

pub returns-clause-plain : goal.returns-clause-plain
returns-clause-plain c =
    let xs = c.args.properties.now in
    let n = length xs - 16 in
    let m = length xs - length xs % 16 in
    let f : Properties → Bool = λ one. is_plain (class_in one) in
    ap (λ b. b && c.put_last-last.result.is_plain) (c.put_each-first.ensures.plain ∙ list_all-map is_plain class_in (take m xs))
    ∙ ap (λ b. list_all f (take m xs) && b) (c.put_last-last.ensures.plain ∙ ap (λ ys. list_all is_plain (map class_in ys)) (take_rest xs n) ∙ list_all-map is_plain class_in (drop n xs))
    ∙ all-overlap xs n m (omega (arith, c.if-len-lt-GROUP.false)) f
    ∙ sym (list_all-map is_plain class_in xs)

pub returns-clause-brackets : goal.returns-clause-brackets
returns-clause-brackets c =
    let xs = c.args.properties.now in
    let n = length xs - 16 in
    let m = length xs - length xs % 16 in
    ap (λ b. b || c.put_last-last.result.has_brackets) c.put_each-first.ensures.brackets
    ∙ ap (λ b. list_any has_bracket_in (take m xs) || b) (c.put_last-last.ensures.brackets ∙ ap (list_any has_bracket_in) (take_rest xs n))
    ∙ any-overlap xs n m (omega (arith, c.if-len-lt-GROUP.false)) has_bracket_in
