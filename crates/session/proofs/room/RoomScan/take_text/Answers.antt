use Rattle.std.proofs.Common.{◌≡◌, ◌++◌, ℕ, List, length, replicate, refl, sym, ap, ◌∙◌}
use Rattle.std.specs.Str.{chars}
use Rattle.std.proofs.lemmas.Iterator.{YieldsList-from_chars}
use Rattle.std.proofs.lemmas.Iterator.Consumers.{YieldsList-end}
use Rattle.std.proofs.lemmas.List.{map-id}
use Rattle.lines.specs.Engine.{rules_of}
use Rattle.lines.specs.Layouts.{cut_by}
use Rattle.session.proofs.RoomLemmas.{summed_push, summed_same, zeros_push}
use Rattle.session.proofs.room.RoomScan.take_text.Goals as goal

pub loop-c-preserved : goal.loop-c-preserved
loop-c-preserved c = λ text list known.
    summed_push (cut_by (rules_of c.args.engine.now)) text c.loop-c.yielded _ list (replicate {A = ℕ} (length c.loop-c.yielded) 0) _ c.in-Some.c 0 _ refl (zeros_push c.loop-c.yielded c.in-Some.c)
    (c.take.ensures (text ++ c.loop-c.yielded) (list ++ replicate {A = ℕ} (length c.loop-c.yielded) 0) (c.loop-c.invariant text list known))

pub returns : goal.returns
returns c =
    let end = YieldsList-end (YieldsList-from_chars c.args.part.now c.utf8.part cc) c.loop-c.yielded _ c.loop-c.yielded_by _ _ c.in-None.is c.next.ensures.steps in
    let all : c.loop-c.yielded ≡ chars c.args.part.now = sym (map-id c.loop-c.yielded) ∙ end.0 in
    λ text list known. summed_same (cut_by (rules_of c.args.engine.now)) text c.loop-c.yielded _ list (replicate {A = ℕ} (length c.loop-c.yielded) 0) _ _ all
    (ap (λ (xs : List ℕ). replicate {A = ℕ} (length xs) 0) all) (c.loop-c.invariant text list known)
