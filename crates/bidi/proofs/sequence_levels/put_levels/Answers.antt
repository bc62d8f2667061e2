use Rattle.std.proofs.Common.{◌≡◌, ℕ, ◌+◌, ◌<◌, List, ◌∷◌, length, drop, set, get_or, sym, ap, ◌∙◌, arith}
use Rattle.std.proofs.lemmas.List.{drop_more}
use Rattle.bidi.specs.Levels.{put}
use Rattle.bidi.proofs.sequence_levels.put_levels.Goals as goal

-- after one more level has been written, writing the rest still yields the same result
stepped : (levels places values : List ℕ) (at : ℕ) (whole : List ℕ) → at < length places → length values ≡ length places
    → put levels (drop at places) (drop at values) ≡ whole
    → put (set levels (get_or places at 0) (get_or values at 0)) (drop (at + 1) places) (drop (at + 1) values) ≡ whole
stepped levels places values at whole within size now =
    let inside : at < length values = omega arith in
    let first : drop at places ≡ get_or places at 0 ∷ drop (at + 1) places = drop_more places at 0 within in
    let value : drop at values ≡ get_or values at 0 ∷ drop (at + 1) values = drop_more values at 0 inside in
    sym (ap (λ xs. put levels xs (drop at values)) first ∙ ap (put levels (get_or places at 0 ∷ drop (at + 1) places)) value) ∙ now

pub loop-at-preserved : goal.loop-at-preserved
loop-at-preserved c = stepped c.loop-at.levels c.args.places.now c.args.values.now c.loop-at.at _ c.loop-at-test.true c.requires.length c.loop-at.invariant
