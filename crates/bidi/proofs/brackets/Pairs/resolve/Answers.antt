use Rattle.std.proofs.Common.{◌≡◌, ℕ, ◌-◌, Bool, List, [], Option, length, map, fold, slice_index, ap, ◌∙◌, arith}
use Rattle.std.specs.List.{range_with_len}
use Rattle.ucd.specs.declared.bidi_class.BidiClass.{BidiClass}
use Rattle.ucd.specs.declared.bracket.Bracket.{Bracket}
use Rattle.bidi.specs.Brackets.{closer_of, pair_step, pairs_of, resolve_pairs}
use Rattle.bidi.specs.Closers.{closer_in, closers_by, closers_of}
use Rattle.ucd.specs.Classes.{is_nonspacing_mark}
use Rattle.bidi.proofs.BracketLemmas.{Resolved-skip, Resolved-start}
use Rattle.bidi.proofs.PairLemmas.{closer_in-pairs_of, closers_of-at, fold-same, length-closers_of}
use Rattle.bidi.proofs.brackets.Pairs.resolve.Goals as goal

-- resolving the pairs in the list of closers yields the same types as resolving the pairs of the text
by_pairs : (look : ℕ → Option Bracket) (text : List ℕ) (types : List BidiClass) (embedding sos : BidiClass) (marks : List Bool) (closers : List ℕ)
    → closers ≡ closers_of (pairs_of look text types) (length types)
    → resolve_pairs embedding sos marks (closer_in closers) types ≡ resolve_pairs embedding sos marks (closer_of (pairs_of look text types)) types
by_pairs look text types embedding sos marks closers are =
    let pairs = pairs_of look text types in
    ap (λ found. resolve_pairs embedding sos marks (closer_in found) types) are
    ∙ fold-same (λ current a. pair_step embedding sos marks current a (closer_in (closers_of pairs (length types)) a))
    (λ current a. pair_step embedding sos marks current a (closer_of pairs a)) 0 (length types) types
    (λ k current from to. ap (pair_step embedding sos marks current k) (closer_in-pairs_of look text types k (omega arith)))

-- without bracket pairs, N0 changes nothing
no_pairs : (embedding sos : BidiClass) (explicit : List BidiClass) (closers : List ℕ) (types : List BidiClass) → closers ≡ closers_of [] (length types)
    → types ≡ resolve_pairs embedding sos (map is_nonspacing_mark explicit) (closer_in closers) types
no_pairs embedding sos explicit closers types are =
    let len = length types in
    let size : length closers ≡ len = ap length are ∙ length-closers_of [] len in
    let whole = Resolved-skip embedding sos explicit closers types types len 0 len (omega arith) (omega arith)
    (λ m above below. let free : slice_index closers m ≡ len = ap (λ items. slice_index items m) are ∙ closers_of-at [] len m 0 below in omega arith)
    (Resolved-start embedding sos explicit closers types) in
    let none : 0 ≡ len - len = omega arith in
    ap (λ n. fold (λ current a. pair_step embedding sos (map is_nonspacing_mark explicit) current a (closer_in closers a)) types (range_with_len len n)) none ∙ whole.so_far

pub returns-then-not-has_pairs : goal.returns-then-not-has_pairs
returns-then-not-has_pairs c look text are =
    let types = c.args.types.now in
    let closers = closers_by c.find_pairs.new.pairs.items (length types) in
    no_pairs c.args.embedding c.args.sos c.args.explicit.now closers types (c.in_ok-has_pairs.ensures.none c.if-not-has_pairs.true)
    ∙ by_pairs look text types c.args.embedding c.args.sos (map is_nonspacing_mark c.args.explicit.now) closers (c.in_ok-has_pairs.ensures.pairs look text are)

pub returns : goal.returns
returns c look text are =
    let types = c.args.types.now in
    let marks = map is_nonspacing_mark c.args.explicit.now in
    let found = c.deref-2.result.now in
    c.resolve_brackets.ensures
    ∙ by_pairs look text types c.args.embedding c.args.sos marks (closers_by found (length types))
    (ap (λ pairs. closers_by pairs (length types)) c.deref-2.ensures.value ∙ c.in_ok-has_pairs.ensures.pairs look text are)
