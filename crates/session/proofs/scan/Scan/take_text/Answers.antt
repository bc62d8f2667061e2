use Rattle.std.proofs.Common.{◌≡◌, ◌++◌, refl, sym, ◌∙◌}
use Rattle.std.specs.Str.{chars}
use Rattle.std.proofs.lemmas.Iterator.{YieldsList-from_chars}
use Rattle.std.proofs.lemmas.Iterator.Consumers.{YieldsList-end}
use Rattle.std.proofs.lemmas.List.{map-id}
use Rattle.lines.specs.Engine.{rules_of}
use Rattle.lines.specs.Layouts.{cut_by}
use Rattle.session.proofs.ScanLemmas.{scanned_push, scanned_same}
use Rattle.session.proofs.scan.Scan.take_text.Goals as goal

pub loop-c-preserved : goal.loop-c-preserved
loop-c-preserved c = λ text known.
    scanned_push (cut_by (rules_of c.args.engine.now)) text c.loop-c.yielded _ c.in-Some.c _ refl (c.take.ensures (text ++ c.loop-c.yielded) (c.loop-c.invariant text known))

pub returns : goal.returns
returns c =
    let end = YieldsList-end (YieldsList-from_chars c.args.part.now c.utf8.part cc) c.loop-c.yielded _ c.loop-c.yielded_by _ _ c.in-None.is c.next.ensures.steps in
    let all : c.loop-c.yielded ≡ chars c.args.part.now = sym (map-id c.loop-c.yielded) ∙ end.0 in
    λ text known. scanned_same (cut_by (rules_of c.args.engine.now)) text c.loop-c.yielded _ _ all (c.loop-c.invariant text known)
