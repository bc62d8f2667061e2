use Rattle.std.proofs.Common.{ℕ, sym, subst, ◌∙◌}
use Rattle.ucd.specs.Runs.{EndsFrom}
use Rattle.ucd.proofs.runs.Cursors.run_at.Goals as goal

-- each intermediate run starts at `start`
pub applied-run-requires-2-clause-ends : goal.applied-run-requires-2-clause-ends
applied-run-requires-2-clause-ends c = subst (λ (start : ℕ). EndsFrom start c.args.self.now.bidi_classes) (sym (c.applied-run.ensures.start)) c.requires.ends.bidi_classes

pub applied-run-requires-3-clause-ends : goal.applied-run-requires-3-clause-ends
applied-run-requires-3-clause-ends c = subst (λ (start : ℕ). EndsFrom start c.args.self.now.brackets) (sym (c.applied-run-2.ensures.start ∙ c.applied-run.ensures.start)) c.requires.ends.brackets

pub applied-run-requires-4-clause-ends : goal.applied-run-requires-4-clause-ends
applied-run-requires-4-clause-ends c = subst (λ (start : ℕ). EndsFrom start c.args.self.now.mirrors) (sym (c.applied-run-3.ensures.start ∙ c.applied-run-2.ensures.start ∙ c.applied-run.ensures.start)) c.requires.ends.mirrors

pub applied-run-requires-5-clause-ends : goal.applied-run-requires-5-clause-ends
applied-run-requires-5-clause-ends c = subst (λ (start : ℕ). EndsFrom start c.args.self.now.line_classes) (sym (c.applied-run-4.ensures.start ∙ c.applied-run-3.ensures.start ∙ c.applied-run-2.ensures.start ∙ c.applied-run.ensures.start)) c.requires.ends.line_classes

pub applied-run-requires-6-clause-ends : goal.applied-run-requires-6-clause-ends
applied-run-requires-6-clause-ends c = subst (λ (start : ℕ). EndsFrom start c.args.self.now.circles) (sym (c.applied-run-5.ensures.start ∙ c.applied-run-4.ensures.start ∙ c.applied-run-3.ensures.start ∙ c.applied-run-2.ensures.start ∙ c.applied-run.ensures.start)) c.requires.ends.circles

pub applied-run-requires-7-clause-ends : goal.applied-run-requires-7-clause-ends
applied-run-requires-7-clause-ends c = subst (λ (start : ℕ). EndsFrom start c.args.self.now.widths) (sym (c.applied-run-6.ensures.start ∙ c.applied-run-5.ensures.start ∙ c.applied-run-4.ensures.start ∙ c.applied-run-3.ensures.start ∙ c.applied-run-2.ensures.start ∙ c.applied-run.ensures.start)) c.requires.ends.widths

pub applied-run-requires-8-clause-ends : goal.applied-run-requires-8-clause-ends
applied-run-requires-8-clause-ends c = subst (λ (start : ℕ). EndsFrom start c.args.self.now.pictographs) (sym (c.applied-run-7.ensures.start ∙ c.applied-run-6.ensures.start ∙ c.applied-run-5.ensures.start ∙ c.applied-run-4.ensures.start ∙ c.applied-run-3.ensures.start ∙ c.applied-run-2.ensures.start ∙ c.applied-run.ensures.start)) c.requires.ends.pictographs

pub applied-requires-clause-ends : goal.applied-requires-clause-ends
applied-requires-clause-ends c = subst (λ (start : ℕ). EndsFrom start c.args.self.now.categories) (sym (c.applied-run-8.ensures.start ∙ c.applied-run-7.ensures.start ∙ c.applied-run-6.ensures.start ∙ c.applied-run-5.ensures.start ∙ c.applied-run-4.ensures.start ∙ c.applied-run-3.ensures.start ∙ c.applied-run-2.ensures.start ∙ c.applied-run.ensures.start)) c.requires.ends.categories
