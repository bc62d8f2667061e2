-- The result of parsing the command line, for arguments that are required or have a default.
use Rattle.std.proofs.Common.{◌≡◌, ◌∙◌, ◌<◌, ◌≤◌, ap, ap₂, arith, drop, codes, false, inl, inr, is_some, length, List, [], ◌∷◌, map, ℕ, zero, suc, None, Some, refl, subst, sym, true}
use Rattle.std.specs.List.{list_all, list_any, slice_index_or}
use Rattle.std.specs.Prelude.{pos}
use Rattle.std.specs.Str.{bytes_eq}
use Rattle.std.proofs.Math.ListN.{get_or-map}
use Rattle.std.proofs.lemmas.List.{length-map}
use Rattle.std.proofs.lemmas.List.Folds.{list_any_at}
use Rattle.clap.specs.Words.{AddsArg, App, IsParsedFrom, IsPlain, Rule, Text, app_of, args_of, first_of, first_value, found_of, one_of, one_text, is_simple, is_simple_and_free, rows_of, rule_of, with_rule}
use Rattle.clap.specs.Facts.{least_values, unwrap_or_range}
use Rattle.clap.specs.Faults.{has_free_rules}
use Rattle.clap.specs.Simple.{IsSimple, is_ready, is_ready_leaf}
use Rattle.clap.specs.declared.builder.arg.Arg.{Arg}
use Rattle.clap.specs.declared.builder.command.Command.{Command}
use Rattle.clap.specs.declared.builder.command.Command.TheViews.{out-Command}
use Rattle.clap.specs.declared.parser.matches.ArgMatches.{ArgMatches}
use Rattle.clap.specs.declared.parser.matches.Found.{Found}
use Rattle.clap.proofs.CallerLemmas.{required_has_value}
use Rattle.clap.proofs.FaultLemmas.{free_args}
use Rattle.clap.proofs.SimpleLemmas.{all_simple, ready_simple, simple_groups}
use Rattle.clap.proofs.WalkLemmas.{first_value-rows}
use Rattle.clap.specs.Facts.{WantsDefault}
use Rattle.clap.specs.Texts.{items_of}
use Rattle.clap.specs.Walk.{texts}
use Rattle.clap.specs.declared.builder.value_parser.ValueParser.TheVariants.{Signed}
use Rattle.clap.proofs.WalkLemmas.{one_text-rows}
use Rattle.command_line.specs.CommandLine.{HasNumber, HasTabs, program, tabs_rule, ucd_rule, width_rule}
use Rattle.command_line.proofs.DefaultLemmas.{HasValue, default_value, number_in, optional_value}

pub program_is_simple : is_simple program ≡ true
unfolding program
program_is_simple = refl

pub program_is_free : is_simple_and_free program ≡ true
unfolding program
program_is_free = refl

-- if no later rule has the id of the first rule, only the first rule has that id
only_first : (id : Text) (x d : Rule) (xs : List Rule) → list_any (λ r. bytes_eq r.id id) xs ≡ false
    → (j : ℕ) → j < length (x ∷ xs) → bytes_eq (slice_index_or (x ∷ xs) j d).id id ≡ true → j ≡ 0
only_first id x d xs none zero lt same = refl
only_first id x d xs none (suc j) lt same =
    let any = list_any_at (λ r. bytes_eq r.id id) xs j d (omega arith) same in
    cc

-- if no other rule has the id of the second rule, only the second rule has that id
only_second : (id : Text) (x y d : Rule) (xs : List Rule) → bytes_eq x.id id ≡ false → list_any (λ r. bytes_eq r.id id) xs ≡ false
    → (j : ℕ) → j < length (x ∷ y ∷ xs) → bytes_eq (slice_index_or (x ∷ y ∷ xs) j d).id id ≡ true → j ≡ 1
only_second id x y d xs other none zero lt same = cc
only_second id x y d xs other none (suc j) lt same =
    let first = only_first id y d xs none j (omega arith) same in
    omega (arith, first)

-- if no other rule has the id of the third rule, only the third rule has that id
only_third : (id : Text) (x y z d : Rule) (xs : List Rule) → bytes_eq x.id id ≡ false → bytes_eq y.id id ≡ false → list_any (λ r. bytes_eq r.id id) xs ≡ false
    → (j : ℕ) → j < length (x ∷ y ∷ z ∷ xs) → bytes_eq (slice_index_or (x ∷ y ∷ z ∷ xs) j d).id id ≡ true → j ≡ 2
only_third id x y z d xs other next none zero lt same = cc
only_third id x y z d xs other next none (suc j) lt same =
    let second = only_second id y z d xs next none j (omega arith) same in
    omega (arith, second)

-- if an option's parser accepts a value, the value is a number in the option's range
number_of_value : (f : Found) (a : Arg) (name : Text) (most : ℕ) → a.id.now ≡ name → HasValue a (Signed (pos 1) (pos most)) f → HasNumber name most (rows_of f)
number_of_value f a name most id value =
    let number = number_in value.text 1 most (omega arith) value.accepted in
    record {
      text = value.text;
      first = ap (λ (i : Text). first_of i (rows_of f)) (sym id) ∙ sym (first_value-rows f a.id.now) ∙ value.first;
      one = ap (λ (i : Text). one_of i (rows_of f)) (sym id) ∙ sym (one_text-rows f a.id.now) ∙ value.one ∙ ap Some number.whole;
      allowed = (number.numeral, number.least, number.most);
    }

not_empty : codes "tabs" ≡ [] → ⊥
not_empty bad = cc

not_help : codes "tabs" ≡ codes "help" → ⊥
not_help bad =
    let first : 116 ≡ 104 = ap (λ (t : Text). slice_index_or t 0 0) bad in
    omega (arith, first)

not_version : codes "tabs" ≡ codes "version" → ⊥
not_version bad =
    let first : 116 ≡ 118 = ap (λ (t : Text). slice_index_or t 0 0) bad in
    omega (arith, first)

module _ (c : Command) (same : app_of c ≡ program) where
  rules : map rule_of (args_of c) ≡ program.top.rules
  rules = ap (λ (a : App). a.top.rules) same

  rule_at : (k : ℕ) (d : Arg) → rule_of (slice_index_or (args_of c) k d) ≡ slice_index_or program.top.rules k (rule_of d)
  rule_at k d = sym (get_or-map rule_of (args_of c) k d) ∙ ap (λ xs. slice_index_or xs k (rule_of d)) rules

  count : length (args_of c) ≡ 24
  unfolding program
  count = sym (length-map (args_of c) rule_of) ∙ ap length rules

  simple : IsSimple c
  unfolding program
  simple = ready_simple c (ap (λ (a : App). is_ready a.top) same) (ap (λ (a : App). list_all is_ready_leaf a.subs) same)

  plain : IsPlain c
  unfolding program
  plain =
      let free = free_args c simple (ap (λ (a : App). has_free_rules a.top) same) in
      let groups = simple_groups c (ap (λ (a : App). all_simple a.top.rules) same) in
      (λ k d lt. ((free k d lt).exclusive, (free k d lt).conflicts, (free k d lt).overrides, groups k d lt), simple.groups)

  negates : (out-Command c).subcommand_negates_reqs ≡ false
  unfolding program
  negates = ap (λ (a : App). a.top.subcommand_negates_reqs) same

  module _ (m : ArgMatches) (parsed : IsParsedFrom c m) where
    ucd_valued : (d : Arg) → is_some (first_of (codes "ucd") (rows_of (found_of m))) ≡ true
    unfolding program
    ucd_valued d =
        let a = slice_index_or (args_of c) 0 d in
        let lt : 0 < length (args_of c) = omega (arith, count) in
        let rule : rule_of a ≡ ucd_rule = rule_at 0 d in
        let id : a.id.now ≡ codes "ucd" = ap (λ (r : Rule). r.id) rule in
        let delim : a.val_delim ≡ None = (simple.args 0 d lt).delimiter in
        let range : a.num_vals ≡ None = ap (λ (r : Rule). r.range) rule in
        let least : 1 ≤ least_values a = subst (λ o. 1 ≤ (unwrap_or_range o).start_inclusive) (sym range) (omega arith) in
        let only : (j : ℕ) (e : Arg) → j < length (args_of c) → bytes_eq (slice_index_or (args_of c) j e).id.now a.id.now ≡ true → j ≡ 0 =
        λ j e low twice. only_first (codes "ucd") ucd_rule (rule_of e) (drop 1 program.top.rules) refl j
        (omega (arith, count)) (sym (ap₂ bytes_eq (ap (λ (r : Rule). r.id) (rule_at j e)) id) ∙ twice) in
        let has = required_has_value c m parsed plain simple.globals negates 0 d lt (ap (λ (r : Rule). r.required) rule) (ap (λ (r : Rule). r.action) rule) delim least only
        (λ empty. let bad : codes "ucd" ≡ [] = sym id ∙ empty in cc)
        (λ auto. elim auto [
          | inl h ↦ let bad : codes "ucd" ≡ codes "help" = sym id ∙ h in cc
          | inr h ↦ let bad : codes "ucd" ≡ codes "version" = sym id ∙ h in cc
        ]) in
        rw (← first_value-rows (found_of m) (codes "ucd")) (rw id at has)

    -- the matches have a valid width, which may be the default
    width_valued : (d : Arg) → HasNumber (codes "width") 65535 (rows_of (found_of m))
    unfolding program
    width_valued d =
        let a = slice_index_or (args_of c) 1 d in
        let lt : 1 < length (args_of c) = omega (arith, count) in
        let rule : rule_of a ≡ width_rule = rule_at 1 d in
        let id : a.id.now ≡ codes "width" = ap (λ (r : Rule). r.id) rule in
        let range : a.num_vals ≡ None = ap (λ (r : Rule). r.range) rule in
        let least : 1 ≤ least_values a = subst (λ o. 1 ≤ (unwrap_or_range o).start_inclusive) (sym range) (omega arith) in
        let defaults : texts (items_of a.default_vals) ≡ codes "80" ∷ [] = ap (λ (r : Rule). r.defaults) rule in
        let one_default : length (items_of a.default_vals) ≡ 1 = sym (length-map (items_of a.default_vals) (λ s. s.now)) ∙ ap length defaults in
        let wants : WantsDefault a = ((simple.args 1 d lt).default_ifs, omega (arith, one_default)) in
        let only : (j : ℕ) (e : Arg) → j < length (args_of c) → bytes_eq (slice_index_or (args_of c) j e).id.now a.id.now ≡ true → j ≡ 1 =
        λ j e low twice. only_second (codes "width") ucd_rule width_rule (rule_of e) (drop 2 program.top.rules) refl
        refl j (omega (arith, count)) (sym (ap₂ bytes_eq (ap (λ (r : Rule). r.id) (rule_at j e)) id) ∙ twice) in
        number_of_value (found_of m) a (codes "width") 65535 id (default_value c m parsed plain simple.globals 1 d lt (ap (λ (r : Rule). r.action) rule) (simple.args 1 d lt).delimiter least only
        (λ empty. let bad : codes "width" ≡ [] = sym id ∙ empty in cc)
        (λ auto. elim auto [
          | inl h ↦ let bad : codes "width" ≡ codes "help" = sym id ∙ h in cc
          | inr h ↦ let bad : codes "width" ≡ codes "version" = sym id ∙ h in cc
        ])
        (Signed (pos 1) (pos 65535)) (ap (λ (r : Rule). r.parser) rule) wants)

    -- the matches have a valid tab width, or none
    tabs_valued : (d : Arg) → HasTabs (rows_of (found_of m))
    unfolding program
    tabs_valued d =
        let a = slice_index_or (args_of c) 2 d in
        let lt : 2 < length (args_of c) = omega (arith, count) in
        let rule : rule_of a ≡ tabs_rule = rule_at 2 d in
        let id : a.id.now ≡ codes "tabs" = ap (λ (r : Rule). r.id) rule in
        let range : a.num_vals ≡ None = ap (λ (r : Rule). r.range) rule in
        let least : 1 ≤ least_values a = subst (λ o. 1 ≤ (unwrap_or_range o).start_inclusive) (sym range) (omega arith) in
        let only : (j : ℕ) (e : Arg) → j < length (args_of c) → bytes_eq (slice_index_or (args_of c) j e).id.now a.id.now ≡ true → j ≡ 2 =
        λ j e low twice. only_third (codes "tabs") ucd_rule width_rule tabs_rule (rule_of e) (drop 3 program.top.rules) refl refl
        refl j (omega (arith, count)) (sym (ap₂ bytes_eq (ap (λ (r : Rule). r.id) (rule_at j e)) id) ∙ twice) in
        let value = optional_value c m parsed plain simple.globals 2 d lt (ap (λ (r : Rule). r.action) rule) (simple.args 2 d lt).delimiter least only
        (λ empty. not_empty (sym id ∙ empty)) (λ auto. elim auto [ inl h ↦ not_help (sym id ∙ h) | inr h ↦ not_version (sym id ∙ h) ])
        (Signed (pos 1) (pos 255)) (ap (λ (r : Rule). r.parser) rule) in
        elim value [
          | inl none ↦ inl (
            sym (first_value-rows (found_of m) (codes "tabs")) ∙ ap (first_value (found_of m)) (sym id) ∙ none.0,
            sym (one_text-rows (found_of m) (codes "tabs")) ∙ ap (one_text (found_of m)) (sym id) ∙ none.1,
          )
          | inr has ↦ inr (number_of_value (found_of m) a (codes "tabs") 255 id has)
        ]

some_arg : (xs : List Arg) → 0 < length xs → Arg
some_arg [] lt = absurd (omega arith)
some_arg (x ∷ xs) lt = x

-- required arguments, and those with a default, are present, and numbers are in their ranges
pub required_there : (c : Command) (m : ArgMatches) → app_of c ≡ program → IsParsedFrom c m
    → (is_some (first_of (codes "ucd") (rows_of (found_of m))) ≡ true) × HasNumber (codes "width") 65535 (rows_of (found_of m)) × HasTabs (rows_of (found_of m))
required_there c m same parsed =
    let d = some_arg (args_of c) (omega (arith, count c same)) in
    (ucd_valued c same m parsed d, width_valued c same m parsed d, tabs_valued c same m parsed d)

-- adding an argument to a command adds its rule
pub with_arg : (old new : Command) (a : Arg) (app : App) (r : Rule) → app_of old ≡ app → rule_of a ≡ r → a.global ≡ false → AddsArg old a new
    → app_of new ≡ with_rule app r
with_arg old new a app r same rule local added = added.shape local ∙ ap₂ with_rule same rule
