use Rattle.std.proofs.Common.{◌≡◌, ℕ, ◌<◌, false, slice_index_or}
use Rattle.bidi.proofs.bracket_type.has_bracket.Given as goal

abbrev pub invariant-loop-item : goal.invariant-loop-item
invariant-loop-item g l = l.any ≡ false → (m : ℕ) (e : g.row.T.Denot) → m < l.item-index → g.T.MaybeBracket.is_one (slice_index_or l.items m e) ≡ false
