use Rattle.std.proofs.Common.{◌≡◌, ℕ, ◌*◌, ◌+◌, ◌-◌, ◌<◌, ◌∙◌, take, drop, get_or, inl, inr, arith}
use Rattle.std.proofs.lemmas.List.{get_or-take, get_or-drop}
use Rattle.ucd.specs.Answers.{unnamed}
use Rattle.ucd.specs.declared.version.Version.{Version}
use Rattle.ucd.specs.DistinctPages.{AreEntriesOf}
use Rattle.ucd.proofs.PageLemmas.{pages_more, valid_next, valid_part}
use Rattle.ucd.proofs.distinct_pages.distinct_pages.Goals as goal

pub loop-place-preserved : goal.loop-place-preserved
loop-place-preserved c =
    let start = c.loop-place.place * 256 in
    let points = c.args.points.now in
    let page : (k : ℕ) → k < 256 → get_or (take (start + 256 - start) (drop start points)) k unnamed ≡ get_or points (start + k) unnamed =
    λ k lt. get_or-take (start + 256 - start) (drop start points) k unnamed (omega arith) ∙ get_or-drop start points k unnamed in
    let valid : (version : Version) → AreEntriesOf version points → AreEntriesOf version c.number_of.new.entries.items = λ version all. elim c.in_ok-number.ensures.same [
      | inl same ↦ rw same (c.loop-place.invariant.valid version all)
      | inr more ↦ rw more (valid_next version c.loop-place.entries.items (take (start + 256 - start) (drop start points)) (c.loop-place.invariant.valid version all)
          (valid_part version points start (start + 256 - start) all))
    ] in
    rw c.in_ok-push.ensures.items record {
      pages = pages_more (λ i. get_or points i unnamed) _ _ _ _ c.loop-place.place _ c.loop-place.invariant.pages c.in_ok-number.ensures.page page;
      distinct = c.in_ok-number.ensures.distinct c.loop-place.invariant.distinct;
      valid = valid;
    }
