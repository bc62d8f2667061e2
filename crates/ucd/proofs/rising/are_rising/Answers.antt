use Rattle.std.proofs.Common.{◌≡◌, ℕ, ◌+◌, ◌<◌, ◌≤◌, List, ◌∷◌, length, get_or, drop, ap, sym, subst, ◌∙◌, arith}
use Rattle.std.proofs.lemmas.List.{drop_all, drop_more}
use Rattle.ucd.specs.Rising.{AreRisingFrom}
use Rattle.ucd.specs.declared.grammar.Entry.{Entry}
use Rattle.ucd.proofs.rising.are_rising.Goals as goal
use Rattle.ucd.proofs.rising.are_rising.Goals.{then-entry-low-via-then-entry-low, then-entry-low-via-else-entry-low+then-entry, then-entry-low-via-else-entry-low+else-entry+then-entry-gt-LAST_CHARACTER}

-- `drop k es` begins with the entry at index k
entries_from : {V : Type 0} (es : List (Entry V)) (k : ℕ) (e : Entry V) → k < length es → e ≡ get_or es k e → drop k es ≡ e ∷ drop (k + 1) es
entries_from es k e lt is = drop_more es k e lt ∙ ap (λ x. x ∷ drop (k + 1) es) (sym is)

rising_from : {V : Type 0} (es : List (Entry V)) (k low : ℕ) (e : Entry V) → k < length es → e ≡ get_or es k e
    → AreRisingFrom low (drop k es) → (low ≤ e.first) × (e.first ≤ e.last) × (e.last < 1114112) × AreRisingFrom (e.last + 1) (drop (k + 1) es)
rising_from es k low e lt is rising = subst (AreRisingFrom low) (entries_from es k e lt is) rising

rising_at : {V : Type 0} (es : List (Entry V)) (k low : ℕ) (e : Entry V) → k < length es → e ≡ get_or es k e → low ≤ e.first → e.first ≤ e.last → e.last < 1114112
    → AreRisingFrom (e.last + 1) (drop (k + 1) es) → AreRisingFrom low (drop k es)
rising_at es k low e lt is from whole within rest = subst (AreRisingFrom low) (sym (entries_from es k e lt is)) (from, whole, within, rest)

rising_end : {V : Type 0} (es : List (Entry V)) (k low : ℕ) → length es ≤ k → AreRisingFrom low (drop k es)
rising_end es k low le = subst (AreRisingFrom low) (sym (drop_all k es le)) tt

pub loop-entry-preserved : goal.loop-entry-preserved
loop-entry-preserved g c =
    let e = c.entry-item.result in
    record {
      yes = λ rest. c.loop-entry.invariant.yes (rising_at c.args.entries.now c.loop-entry.entry-index c.loop-entry.low e c.loop-entry-test.true c.entry-item.is
          c.if-entry-low.false c.if-entry.false (omega arith) rest);
      no = λ all. (rising_from c.args.entries.now c.loop-entry.entry-index c.loop-entry.low e c.loop-entry-test.true c.entry-item.is (c.loop-entry.invariant.no all)).3;
    }

pub returns-then-entry-low-clause-no : goal.returns-then-entry-low-clause-no
returns-then-entry-low-clause-no g c = λ is all.
    let e = c.entry-item.result in
    let whole = rising_from c.args.entries.now c.loop-entry.entry-index c.loop-entry.low e c.loop-entry-test.true c.entry-item.is (c.loop-entry.invariant.no all) in
    let from : c.loop-entry.low ≤ e.first = whole.0 in
    let ends : e.first ≤ e.last = whole.1 in
    let within : e.last < 1114112 = whole.2 in
    elim c.then-entry-low.branch [
      | then-entry-low-via-then-entry-low w ↦ omega (arith, w.if-entry-low.true, from)
      | then-entry-low-via-else-entry-low+then-entry w ↦ omega (arith, w.if-entry.true, ends)
      | then-entry-low-via-else-entry-low+else-entry+then-entry-gt-LAST_CHARACTER w ↦ omega (arith, w.if-entry-gt-LAST_CHARACTER.true, within)
    ]

pub returns-clause-yes : goal.returns-clause-yes
returns-clause-yes g c = λ is. c.loop-entry.invariant.yes (rising_end c.args.entries.now c.loop-entry.entry-index c.loop-entry.low c.loop-entry-test.false)
