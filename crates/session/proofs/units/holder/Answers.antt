use Rattle.std.proofs.Common.{◌≡◌, ℕ, suc, ◌-◌, Bool, false, true, ◌&&◌, nat_le, ap, ap₂, sym, ◌∙◌, arith}
use Rattle.std.proofs.lemmas.Bool.Decides.{nat_tests}
use Rattle.session.proofs.ScanningLemmas.{back_found, back_none}
use Rattle.session.specs.Units.{takes_columns}
use Rattle.session.proofs.units.holder.Goals as goal

pub returns-then-takes_columns : goal.returns-then-takes_columns
returns-then-takes_columns c =
    let begin = c.args.cluster.start - c.args.start in
    let test : ℕ → Bool = λ j. nat_le begin j && takes_columns c.args.line.now j in
    let low : nat_le begin (c.loop-end.end - 1) ≡ true = grind (arith, nat_tests, c.saturating_sub-begin.ensures, c.loop-end-test.true) in
    let takes : takes_columns c.args.line.now (c.loop-end.end - 1) ≡ true = sym c.takes_columns.ensures ∙ c.if-takes_columns.true in
    record {
      value = back_found test (suc c.args.k) c.loop-end.end c.loop-end.invariant.back (omega (arith, c.loop-end-test.true)) (ap₂ ◌&&◌ low takes);
      most = omega (arith, c.loop-end.invariant.most);
    }

pub returns : goal.returns
returns c =
    let begin = c.args.cluster.start - c.args.start in
    let test : ℕ → Bool = λ j. nat_le begin j && takes_columns c.args.line.now j in
    record {
      value = back_none test (suc c.args.k) c.loop-end.end c.loop-end.invariant.back (λ j below.
          let low : nat_le begin j ≡ false = grind (arith, nat_tests, c.saturating_sub-begin.ensures, c.loop-end-test.false, below) in
          ap (λ b. b && takes_columns c.args.line.now j) low);
      most = tt;
    }
