use Rattle.std.proofs.Common.{◌∙◌, [], ◌∷◌, subst, sym}
use Rattle.std.specs.List.{All}
use Rattle.std.proofs.lemmas.List.Elements.{All-append, All-cons, All-nil}
use Rattle.lines.specs.Engine.{rules_of}
use Rattle.lines.specs.Layouts.{IsLaidOut}
use Rattle.bench.proofs.sessions.lay_out_all.Goals as goal

pub loop-preserved : goal.loop-preserved
loop-preserved c =
    let one = c.in_ok-lay_out_piece.field-0 in
    let laid = subst (λ rules. IsLaidOut rules one) c.loop.invariant.rules c.in_ok-lay_out_piece.ensures.laid in
    let next = All-cons (IsLaidOut (rules_of c.args.engine.now)) one [] laid (All-nil (IsLaidOut (rules_of c.args.engine.now))) in
    record {
      laid = subst
          (All (IsLaidOut (rules_of c.args.engine.now)))
          (sym c.in_ok-push.ensures.items)
          (All-append (IsLaidOut (rules_of c.args.engine.now)) c.loop.all.items (one ∷ []) c.loop.invariant.laid next);
      rules = c.lay_out_piece.ensures.rules ∙ c.loop.invariant.rules;
    }
