use Rattle.std.proofs.Common.{◌≡◌, ℕ, ◌≤◌, ◌⊎◌, inl, inr, List, min, max, refl, rules}
use Rattle.ucd.specs.Entries.{IsFree, IsMet, IsTaken, NamesSome}
use Rattle.ucd.specs.declared.grammar.Entry.{Entry}
use Rattle.ucd.proofs.range_table.RangeTable.add.Goals as goal

-- ---- the parts of an entry below the surrogates and above them
module _ {V : Type 0} (es : List (Entry V)) (e : Entry V) (low high last : ℕ) (is_low : low ≡ min e.last 55295) (is_high : high ≡ max e.first 57344) (is_last : last ≡ min e.last 1114111) where
  taken_below : IsMet es (record { first = e.first; last = low; value = e.value }) → IsTaken es e
  taken_below met = search rules

  taken_above : IsMet es (record { first = high; last = last; value = e.value }) → IsTaken es e
  taken_above met = search rules

  untaken : IsFree es (record { first = e.first; last = low; value = e.value }) → IsFree es (record { first = high; last = last; value = e.value }) → ¬ (IsTaken es e)
  untaken below above taken = search rules

  names : (e.first ≤ low) ⊎ (high ≤ last) → NamesSome e
  names (inl some) = (e.first, search rules, search rules)
  names (inr some) = (high, search rules, search rules)

pub returns-then-meets-clause-taken : goal.returns-then-meets-clause-taken
returns-then-meets-clause-taken g c = λ is.
    taken_below c.args.self.now c.args.entry c.min.result c.max.result c.min-2.result c.min.ensures c.max.ensures c.min-2.ensures (c.if-meets.ensures.some refl)

pub returns-then-meets-2-clause-taken : goal.returns-then-meets-2-clause-taken
returns-then-meets-2-clause-taken g c = λ is.
    taken_above c.args.self.now c.args.entry c.min.result c.max.result c.min-2.result c.min.ensures c.max.ensures c.min-2.ensures (c.if-meets-2.ensures.some refl)

pub returns-in-Err-clause-memory : goal.returns-in-Err-clause-memory
returns-in-Err-clause-memory g c = λ is. (
  untaken c.args.self.now c.args.entry c.min.result c.max.result c.min-2.result c.min.ensures c.max.ensures c.min-2.ensures (c.if-meets.ensures.none refl) (c.if-meets-2.ensures.none refl),
  names c.args.self.now c.args.entry c.min.result c.max.result c.min-2.result c.min.ensures c.max.ensures c.min-2.ensures c.in-Err.ensures.memory,
)
