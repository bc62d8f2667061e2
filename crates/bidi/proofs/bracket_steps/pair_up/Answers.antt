use Rattle.std.proofs.Common.{◌≡◌, ◌<◌, length, set, Some, ap, ◌∙◌, rules, arith}
use Rattle.bidi.specs.BracketPasses.{paired_by}
use Rattle.bidi.specs.Closers.{newest}
use Rattle.bidi.proofs.ClosersLemmas.{index_read, newest_within}
use Rattle.bidi.proofs.bracket_steps.pair_up.Goals as goal
use Rattle.bidi.proofs.bracket_steps.pair_up.Goals.{After-index}

known : (c : After-index) → c.index.result.now.index < length c.args.partners.now
known c =
    let openers = c.args.openers.now.items in
    let found : Some c.in-Some.held ≡ newest openers c.args.closer = rw c.deref.ensures.value at c.in-Some.ensures in
    let within = newest_within openers c.args.closer c.in-Some.held found in
    let is = index_read openers c.in-Some.held c.index.result.now within c.index.ensures in
    omega (arith, is, c.requires.indices c.in-Some.held within)

pub index-requires : goal.index-requires
index-requires c =
    let found : Some c.in-Some.held ≡ newest c.args.openers.now.items c.args.closer = rw c.deref.ensures.value at c.in-Some.ensures in
    let within = newest_within c.args.openers.now.items c.args.closer c.in-Some.held found in
    let size = ap length c.deref.ensures.value in
    omega arith

pub bounds-partners-opener : goal.bounds-partners-opener
bounds-partners-opener c = known c

pub offset_bounds-partners-opener : goal.offset_bounds-partners-opener
offset_bounds-partners-opener c = let h = known c in search rules

pub returns-in-Some-clause-partners : goal.returns-in-Some-clause-partners
returns-in-Some-clause-partners c =
    let openers = c.args.openers.now.items in
    let partners = c.args.partners.now in
    let found : Some c.in-Some.held ≡ newest openers c.args.closer = rw c.deref.ensures.value at c.in-Some.ensures in
    let within = newest_within openers c.args.closer c.in-Some.held found in
    ap (λ i. set (set partners i c.args.place) c.args.place i) (index_read openers c.in-Some.held c.index.result.now within c.index.ensures)
    ∙ ap (λ found. paired_by found openers partners c.args.place) found
