use Rattle.std.proofs.Common.{◌≤◌, ℕ, ◌∷◌, [], drop}
use Rattle.tool.specs.Queries.{listed}
use Rattle.tool.proofs.ListingLemmas.{AreWritten}
use Rattle.tool.proofs.listings.write_each_end.Given as goal

-- the ends before index `end-index` were written
abbrev pub invariant-loop-end : goal.invariant-loop-end
invariant-loop-end g l =
    let state = g.W.Sink.state in
    record {
      wrote : AreWritten (λ (end : ℕ). listed (end ∷ [])) l.ends (drop l.end-index l.ends) l.fn.before (state l.fn.writer) (state l.writer) l.written;
      counted : l.written ≤ (state l.writer).passed;
    }
