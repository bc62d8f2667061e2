use Rattle.std.proofs.Common.{◌≡◌, ◌==◌, ℕ, false, List, get_or, ◌-◌, ◌+◌, ◌∙◌, sym, ap, arith}
use Rattle.std.proofs.lemmas.Bool.{ne_eqb}
use Rattle.std.proofs.Math.ListN.{get_or-map}
use Rattle.bidi.specs.declared.brackets.Opener.{Opener}
use Rattle.bidi.specs.Brackets.{canonical}
use Rattle.bidi.specs.Closers.{pair_of}
use Rattle.bidi.proofs.PairLemmas.{greatest_next}
use Rattle.bidi.proofs.brackets.matching.Goals as goal

-- the pair number of the opener read at m is `pair_of openers m`, also in canonical form
read : (openers : List Opener) (m : ℕ) → canonical (get_or openers m (record { index = 0; pair = 0 })).pair ≡ canonical (pair_of openers m)
read openers m = ap canonical (sym (get_or-map (λ (o : Opener). o.pair) openers m (record { index = 0; pair = 0 })))

pub loop-held-preserved : goal.loop-held-preserved
loop-held-preserved c =
    let m = c.loop-held.held - 1 in
    let e : c.loop-held.held ≡ m + 1 = omega arith in
    let other : (canonical (pair_of c.args.openers.now m) == c.canonical-wanted.result) ≡ false =
    ne_eqb (canonical (pair_of c.args.openers.now m)) c.canonical-wanted.result (λ same. c.if-canonical-wanted.false (c.canonical.ensures ∙ read c.args.openers.now m ∙ same)) in
    (omega (arith, c.loop-held.invariant.0), sym (greatest_next (λ i. canonical (pair_of c.args.openers.now i) == c.canonical-wanted.result) m c.loop-held.held e other) ∙ c.loop-held.invariant.1)
