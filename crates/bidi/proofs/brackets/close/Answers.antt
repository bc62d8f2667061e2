use Rattle.std.proofs.Common.{◌≡◌, ℕ, ◌<◌, List, length, get_or, set, sym, ap, ◌∙◌, Some, rules, arith}
use Rattle.std.proofs.Math.ListN.{get_or-map}
use Rattle.bidi.specs.declared.brackets.BracketPair.{BracketPair}
use Rattle.bidi.specs.declared.brackets.Opener.{Opener}
use Rattle.bidi.specs.Closers.{closed_by, index_of, newest, opener_at}
use Rattle.bidi.proofs.ClosersLemmas.{index_read, newest_within}
use Rattle.bidi.proofs.brackets.close.Goals as goal
use Rattle.bidi.proofs.brackets.close.Goals.{After-index}

closed : (openers : List Opener) (pairs : List BracketPair) (m i closer place : ℕ) → Some m ≡ newest openers closer → i ≡ index_of openers m
    → set pairs i (record { opener = (get_or pairs i (record { opener = 0; closer = 0 })).opener; closer = place })
    ≡ closed_by (newest openers closer) openers pairs place
closed openers pairs m i closer place found is =
    ap (λ n. set pairs i (record { opener = n; closer = place })) (sym (get_or-map (λ (p : BracketPair). p.opener) pairs i (record { opener = 0; closer = 0 })))
    ∙ ap (λ n. set pairs n (record { opener = opener_at pairs n; closer = place })) is
    ∙ ap (λ found. closed_by found openers pairs place) found

known : (c : After-index) → (c.in-Some.held < length c.args.openers.now.items) × (c.index.result.now.index ≡ index_of c.args.openers.now.items c.in-Some.held)
    × (c.index.result.now.index < length c.args.pairs.now)
known c =
    let openers = c.args.openers.now.items in
    let found : Some c.in-Some.held ≡ newest openers c.args.closer = rw c.deref.ensures.value at c.in-Some.ensures in
    let within = newest_within openers c.args.closer c.in-Some.held found in
    let is = index_read openers c.in-Some.held c.index.result.now within c.index.ensures in
    (within, is, omega (arith, is, c.requires c.in-Some.held within))

pub index-requires : goal.index-requires
index-requires c =
    let found : Some c.in-Some.held ≡ newest c.args.openers.now.items c.args.closer = rw c.deref.ensures.value at c.in-Some.ensures in
    let within = newest_within c.args.openers.now.items c.args.closer c.in-Some.held found in
    let size = ap length c.deref.ensures.value in
    omega arith

pub bounds-pairs-index : goal.bounds-pairs-index
bounds-pairs-index c = (known c).2

pub offset_bounds-pairs-index : goal.offset_bounds-pairs-index
offset_bounds-pairs-index c = let h = (known c).2 in search rules

pub returns-in-Some-clause-pairs : goal.returns-in-Some-clause-pairs
returns-in-Some-clause-pairs c =
    let openers = c.args.openers.now.items in
    let found : Some c.in-Some.held ≡ newest openers c.args.closer = rw c.deref.ensures.value at c.in-Some.ensures in
    let within = newest_within openers c.args.closer c.in-Some.held found in
    closed openers c.args.pairs.now c.in-Some.held c.index.result.now.index c.args.closer c.args.place found
    (index_read openers c.in-Some.held c.index.result.now within c.index.ensures)
