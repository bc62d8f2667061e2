use Rattle.std.proofs.Common.{arith}
use Rattle.session.proofs.words.word_by.Goals as goal

pub slice_bounds-has_letter-count : goal.slice_bounds-has_letter-count
slice_bounds-has_letter-count c = omega (arith, c.cluster_begin-first.ensures.most, c.cluster_end-end.ensures.past)

pub slice_bounds-has_letter-start : goal.slice_bounds-has_letter-start
slice_bounds-has_letter-start c = omega (arith, c.cluster_begin-first.ensures.most, c.cluster_end-end.ensures.past)
