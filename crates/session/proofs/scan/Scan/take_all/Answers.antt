use Rattle.std.proofs.Common.{◌≡◌, ◌++◌, [], ◌∷◌, take, ◌+◌, sym, ap, ◌∙◌, arith}
use Rattle.std.proofs.lemmas.List.{take_more, take_all}
use Rattle.lines.specs.Engine.{rules_of}
use Rattle.lines.specs.Layouts.{cut_by}
use Rattle.session.proofs.ScanLemmas.{scanned_push, scanned_same}
use Rattle.session.proofs.scan.Scan.take_all.Goals as goal

pub loop-c-preserved : goal.loop-c-preserved
loop-c-preserved c =
    let i = c.loop-c.c-index in
    let part = c.args.part.now in
    let one_more : take (i + 1) part ≡ take i part ++ c.c-item.result ∷ [] = take_more part i c.c-item.result (omega arith) ∙ ap (λ x. take i part ++ x ∷ []) (sym c.c-item.is) in
    λ text known. scanned_push (cut_by (rules_of c.args.engine.now)) text (take i part) _ _ _ one_more (c.take.ensures (text ++ take i part) (c.loop-c.invariant text known))

pub returns : goal.returns
returns c = λ text known.
    scanned_same (cut_by (rules_of c.args.engine.now)) text (take c.loop-c.c-index c.args.part.now) _ _ (take_all c.loop-c.c-index c.args.part.now (omega arith)) (c.loop-c.invariant text known)
