use Rattle.std.proofs.Common.{◌≡◌, ◌<◌, List, [], ◌∷◌, ◌++◌, length, ap, ◌∙◌, arith, length-append}
use Rattle.bidi.specs.declared.explicit.Status.{Status}
use Rattle.bidi.proofs.OpenersLemmas.{item-last, statuses-last}
use Rattle.bidi.proofs.explicit.Openers.status.Goals as goal

-- a list with a last item is not empty
some_entry : (entries front : List Status) (last : Status) → entries ≡ front ++ last ∷ [] → 0 < length entries
some_entry entries front last e = omega (arith, ap length e, length-append front (last ∷ []))

pub overflow_sub-result : goal.overflow_sub-result
overflow_sub-result c =
    let last = statuses-last c.requires.base c.requires.chain in
    some_entry _ _ _ (c.as_slice-statuses.ensures.value ∙ c.requires.holds.statuses_are ∙ last.1)

pub bounds-statuses-statuses : goal.bounds-statuses-statuses
bounds-statuses-statuses c =
    let last = statuses-last c.requires.base c.requires.chain in
    omega (arith, some_entry _ _ _ (c.as_slice-statuses.ensures.value ∙ c.requires.holds.statuses_are ∙ last.1))

pub returns : goal.returns
returns c base chain holds =
    let last = statuses-last base chain in
    item-last _ _ _ _ (c.as_slice-statuses.ensures.value ∙ holds.statuses_are ∙ last.1)
