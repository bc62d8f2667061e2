use Rattle.std.proofs.Common.{Bool, ◌∙◌, ◌+◌, List, ℕ, drop, sym, subst, ap, length, arith}
use Rattle.lines.specs.Engine.{rules_of}
use Rattle.lines.specs.Layouts.{cut_by}
use Rattle.std.proofs.lemmas.List.{length-append}
use Rattle.terminal.specs.Ends.{AreNoEnds}
use Rattle.terminal.specs.Passed.{HasPassed}
use Rattle.terminal.specs.RunState.{AddsEnded, IsFront, Leaves, fault_after}
use Rattle.terminal.proofs.KnownEndLemmas.{no_ends_append}
use Rattle.terminal.proofs.PassedLemmas.{held_passed}
use Rattle.terminal.proofs.input.Held.gather.Goals as goal

pub push_ended-requires-clause-within : goal.push_ended-requires-clause-within
push_ended-requires-clause-within c =
    let takes = c.in_ok-stops.ensures.takes in
    let old = c.args.self.now.text.items in
    omega (arith, ap length c.deref.ensures.value, ap length takes.added, length-append old takes.characters, c.requires.within)

pub push_ended-requires-clause-none : goal.push_ended-requires-clause-none
push_ended-requires-clause-none c =
    let takes = c.in_ok-stops.ensures.takes in
    let is_cut = cut_by (rules_of c.args.engine.now) in
    let scanned = c.args.self.now.scanned in
    subst (AreNoEnds is_cut scanned) (sym c.deref.ensures.value)
    (subst (AreNoEnds is_cut scanned) (sym takes.added) (no_ends_append is_cut scanned c.args.self.now.text.items takes.characters c.requires.within c.requires.none))

pub push_ended-requires-clause-passed : goal.push_ended-requires-clause-passed
push_ended-requires-clause-passed c =
    let takes = c.in_ok-stops.ensures.takes in
    let held = c.args.self.now in
    let passes : List ℕ → Type 0 = λ text. HasPassed held.passed (drop (held.scanned + 1) text) in
    subst passes (sym c.deref.ensures.value)
    (subst passes (sym takes.added) (held_passed held.passed held.scanned held.text.items takes.characters c.requires.within c.requires.passed))

pub returns-clause-passed : goal.returns-clause-passed
returns-clause-passed c =
    let left = c.in_ok-left.left in
    let passes : List ℕ → Type 0 = λ text. HasPassed left.passed (drop (left.scanned + 1) text) in
    subst passes (sym c.remove_front.ensures) (subst (λ (t : List ℕ). passes (drop left.start t)) c.deref.ensures.value c.in_ok-left.ensures.passed)

pub returns-clause-gathers : goal.returns-clause-gathers
returns-clause-gathers c =
    let rules = rules_of c.args.engine.now in
    let text = c.decode.new.text.items in
    let left = c.in_ok-left.left in
    let added : AddsEnded rules c.args.form.now text c.args.self.now.output c.push_ended.new.self left.start left.scanned left.is_long =
    subst (λ (t : List ℕ). AddsEnded rules c.args.form.now t c.args.self.now.output c.push_ended.new.self left.start left.scanned left.is_long) c.deref.ensures.value c.in_ok-left.ensures.adds in
    record {
      text = text;
      takes = c.in_ok-stops.ensures.takes;
      parts = added.parts;
      front = subst (IsFront (cut_by rules) added.parts text) (sym c.remove_front.ensures) added.front;
      permitted = added.permitted;
      adds = added.adds;
      is_long = left.is_long;
      leaves = subst (λ (t : List ℕ). Leaves rules c.args.form.now.strict left.is_long left.scanned t) (sym c.remove_front.ensures) added.leaves;
      holds = λ is none. added.holds is (sym (ap length c.remove_front.ensures) ∙ none);
      fault_is = c.fault_of.ensures ∙ ap (λ (b : Bool). fault_after left.is_long b c.decode.new.self.decoded) c.in_ok-stops.ensures.bad;
    }
