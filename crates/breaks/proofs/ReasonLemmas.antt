-- The first rule that applies is found by trying the parts of the list of rules in order.
use Rattle.std.proofs.Common.{◌≡◌, Bool, true, false, Option, None, Some, List, [], ◌∷◌, ◌++◌, length, map, refl, sym, ap, ◌∙◌, arith}
use Rattle.std.specs.Prelude.{if◌then◌else◌, fold}
use Rattle.std.specs.Option.{option_or}
use Rattle.breaks.specs.Bases.{BaseCharacter}
use Rattle.breaks.specs.Reasons.{first_by}
use Rattle.breaks.specs.Rules.{Row, Rule, rule_of}
use Rattle.breaks.specs.declared.line_rule.LineRule.{LineRule}

-- the first value that is not `None`
abbrev pub first_of : {A : Type 0} → List (Option A) → Option A
first_of [] = None
first_of (one ∷ more) = option_or one (first_of more)

or_none : {A : Type 0} → (one : Option A) → option_or one None ≡ one
or_none None = refl
or_none (Some a) = refl

or_assoc : {A : Type 0} → (a b c : Option A) → option_or (option_or a b) c ≡ option_or a (option_or b c)
or_assoc None b c = refl
or_assoc (Some a) b c = refl

-- trying one value after another finds the first one that is not `None`
pub tried : {A : Type 0} → (one : Option A) (more : List (Option A)) → fold option_or one more ≡ option_or one (first_of more)
tried one [] = sym (or_none one)
tried one (next ∷ more) = tried (option_or one next) more ∙ or_assoc one next (first_of more)

-- some rules with their names
pub record Part : Type 0 where
  pub names : List LineRule
  pub rules : List Rule

abbrev pub all_names : List Part → List LineRule
all_names [] = []
all_names (part ∷ parts) = part.names ++ all_names parts

abbrev pub all_rules : List Part → List Rule
all_rules [] = []
all_rules (part ∷ parts) = part.rules ++ all_rules parts

abbrev pub AreNamed : List Part → Type 0
AreNamed [] = Unit
AreNamed (part ∷ parts) = (length part.names ≡ length part.rules) × AreNamed parts

module _ (before after : List BaseCharacter) where
  abbrev pub first_in : Part → Option LineRule
  first_in part = first_by part.names part.rules before after

  more_rules : (names others : List LineRule) (rules more : List Rule) → length names ≡ length rules
      → first_by (names ++ others) (rules ++ more) before after ≡ option_or (first_by names rules before after) (first_by others more before after)
  more_rules [] others [] more size = refl
  more_rules [] others (rule ∷ rules) more size = absurd (omega (arith, size))
  more_rules (name ∷ names) others [] more size = absurd (omega (arith, size))
  more_rules (name ∷ names) others (rule ∷ rules) more size =
      let by : (holds : Bool) → (if holds then Some name else first_by (names ++ others) (rules ++ more) before after)
      ≡ option_or (if holds then Some name else first_by names rules before after) (first_by others more before after) = elim [
        | true ↦ refl
        | false ↦ more_rules names others rules more (omega (arith, size))
      ] in
      by (rule.holds before after)

  pub first_in_parts : (parts : List Part) → AreNamed parts → first_by (all_names parts) (all_rules parts) before after ≡ first_of (map first_in parts)
  first_in_parts [] named = refl
  first_in_parts (part ∷ parts) named =
      more_rules part.names (all_names parts) part.rules (all_rules parts) named.0 ∙ ap (option_or (first_in part)) (first_in_parts parts named.1)

  -- the first rule of the parts, tried one after another, is the first rule of the whole list
  pub first_tried : (part : Part) (parts : List Part) → AreNamed (part ∷ parts)
      → fold option_or (first_in part) (map first_in parts) ≡ first_by (all_names (part ∷ parts)) (all_rules (part ∷ parts)) before after
  first_tried part parts named = tried (first_in part) (map first_in parts) ∙ sym (first_in_parts (part ∷ parts) named)

-- rows with their names
abbrev pub named_rows : List LineRule → List Row → Part
named_rows names rows = record { names = names; rules = map rule_of rows }
