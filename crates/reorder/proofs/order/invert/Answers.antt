use Rattle.std.proofs.Common.{arith}
use Rattle.reorder.proofs.InverseLemmas.{permuted_places, Placed-start, Placed-next, Placed-inverse, Placed-positions}
use Rattle.reorder.proofs.order.invert.Goals as goal

pub loop-k-init : goal.loop-k-init
loop-k-init c = Placed-start _ _ c.requires.len

pub bounds-ltov-place : goal.bounds-ltov-place
bounds-ltov-place c =
    let p = permuted_places _ _ c.requires.places in
    omega (arith, p.within c.loop-k.k (omega arith))

pub loop-k-preserved : goal.loop-k-preserved
loop-k-preserved c = Placed-next _ _ _ _ (permuted_places _ _ c.requires.places) c.loop-k.invariant c.loop-k-test.true

pub returns : goal.returns
returns c =
    let p = permuted_places _ _ c.requires.places in
    record {
      ltov = Placed-positions _ _ _ _ p c.loop-k.invariant c.loop-k-test.false;
      inverse = Placed-inverse _ _ _ _ p c.loop-k.invariant c.loop-k-test.false;
    }
