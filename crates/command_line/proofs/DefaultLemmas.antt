-- The result of parsing an argument that has a default, and of parsing a number in a range.
use Rattle.std.proofs.Common.{◌≡◌, ◌∙◌, ◌<◌, ◌≤◌, ◌==◌, ◌^◌, ◌⊎◌, ap, ℕ, Result, Ok, Err, zero, suc, Bool, true, false, List, [], ◌∷◌, length, drop, cond, is_some, Option, Some, None, refl, sym, subst, inl, inr, arith}
use Rattle.std.specs.Prelude.{find, option_map, slice_get, unwrap_or, pos}
use Rattle.std.specs.Borrow.{Bor}
use Rattle.std.specs.List.{All, slice_index_or}
use Rattle.std.specs.Str.{bytes_eq}
use Rattle.std.specs.Str.Parse.{IsNumeral, ParsesUnsigned, digits_value, starts_with_minus, without_leading_plus}
use Rattle.std.proofs.lemmas.Int.{ints}
use Rattle.std.proofs.lemmas.List.Elements.{All-get_or}
use Rattle.std.proofs.lemmas.Slice.Eq.{bytes_eq-Decides}
use Rattle.clap.specs.Words.{Accepts, IsParsedFrom, IsPlain, IsSignedIn, ReadsOne, SameRules, Text, args_of, first_value, found_of, groups_of, matched_of, one_text, parser_of, read_as, reading_of, without_minus}
use Rattle.clap.specs.Built.{IsAuto}
use Rattle.clap.specs.Facts.{Entry, EntryPasses, HasReading, PassesArg, WantsDefault, least_values, parser_of_value}
use Rattle.clap.specs.declared.builder.action.ArgAction.TheVariants.{Count, Set}
use Rattle.clap.specs.declared.builder.arg.Arg.{Arg}
use Rattle.clap.specs.declared.builder.command.Command.{Command}
use Rattle.clap.specs.declared.builder.command.Command.TheViews.{out-Command}
use Rattle.clap.specs.declared.builder.value_parser.Reading.{Reading}
use Rattle.clap.specs.declared.builder.value_parser.ValueParser.{ValueParser}
use Rattle.clap.specs.declared.parser.matches.ArgMatches.{ArgMatches}
use Rattle.clap.specs.declared.parser.matches.Found.{Found}
use Rattle.clap.specs.declared.parser.matches.MatchedArg.{MatchedArg}
use Rattle.clap.proofs.CallerLemmas.{default_present, entry_by_id, same_rules_by_id}

-- if some entry has an id, `find` finds an entry with that id
has_entry : (xs : List Entry) (id : Text) (i : ℕ) → i < length xs → ((d : Entry) → bytes_eq (slice_index_or xs i d).0.now id ≡ true)
    → is_some (option_map (λ e. e.1) (find (λ e. bytes_eq e.0.now id) xs)) ≡ true
has_entry [] id i lt is = absurd (omega arith)
has_entry (x ∷ xs) id i lt is = go (bytes_eq x.0.now id) refl i lt is (λ k low at. has_entry xs id k low at)
  where
    go : (b : Bool) → bytes_eq x.0.now id ≡ b → (k : ℕ) → k < length (x ∷ xs) → ((d : Entry) → bytes_eq (slice_index_or (x ∷ xs) k d).0.now id ≡ true)
        → ((k : ℕ) → k < length xs → ((d : Entry) → bytes_eq (slice_index_or xs k d).0.now id ≡ true) → is_some (option_map (λ e. e.1) (find (λ e. bytes_eq e.0.now id) xs)) ≡ true)
        → is_some (option_map (λ e. e.1) (find (λ e. bytes_eq e.0.now id) (x ∷ xs))) ≡ true
    go true same k low at rec = rw same refl
    go false other zero low at rec =
        let bad : true ≡ false = sym (at x) ∙ other in
        cc
    go false other (suc k) low at rec = rw other (rec k (omega arith) at)

-- A non-empty list of values has a first value, which has a parsed form. A fact that holds for all values
-- holds for the first one.
head_value : (P : Bor Text → Type 0) (how : Reading) (vs : List (Bor Text)) → All P vs → 0 < length vs
    → (v : Bor Text) × (option_map (λ s. s.now) (slice_get vs 0) ≡ Some v.now) × (option_map (λ s. read_as how s.now) (slice_get vs 0) ≡ Some (read_as how v.now)) × P v
head_value P how [] all some = absurd (omega arith)
head_value P how (v ∷ vs) all some = (v, refl, refl, All-get_or P (v ∷ vs) 0 v (omega arith) all)

-- An argument that takes a value and has a default has a first value. Its parser accepts that value and returns its
-- parsed form.
pub record HasValue (a : Arg) (q : ValueParser) (f : Found) : Type 0 where
  pub text : Text
  pub first : first_value f a.id.now ≡ Some text
  pub one : one_text f a.id.now ≡ Some (read_as (reading_of q) text)
  pub accepted : Accepts a.ignore_case q text

module _ (old : Command) (m : ArgMatches) (p : IsParsedFrom old m) (plain : IsPlain old) (globals : (out-Command old).has_globals ≡ false)
    (k : ℕ) (d : Arg) (lt : k < length (args_of old))
    (set : (slice_index_or (args_of old) k d).action ≡ Some Set) (delim : (slice_index_or (args_of old) k d).val_delim ≡ None)
    (least : 1 ≤ least_values (slice_index_or (args_of old) k d))
    (unique : (j : ℕ) (e : Arg) → j < length (args_of old)
    → bytes_eq (slice_index_or (args_of old) j e).id.now (slice_index_or (args_of old) k d).id.now ≡ true → j ≡ k)
    (named : (slice_index_or (args_of old) k d).id.now ≡ [] → ⊥) (own : IsAuto (slice_index_or (args_of old) k d) → ⊥)
    (q : ValueParser) (parser : (slice_index_or (args_of old) k d).value_parser ≡ Some q) where
  abbrev pub arg : Arg
  arg = slice_index_or (args_of old) k d

  -- an argument of the built command with this id has the same rules
  same_rules : (j : ℕ) (x : Arg) → j < length (args_of p.built) → slice_index_or (args_of p.built) j x ≡ x → bytes_eq x.id.now arg.id.now ≡ true → SameRules arg x
  same_rules = same_rules_by_id old m p k d lt unique own

  parser_is : (x : Arg) → SameRules arg x → parser_of x ≡ q
  parser_is x same = ap parser_of_value (same.parser q parser)

  accepts : (v : Bor Text) → PassesArg p.built arg.id.now v.now → Accepts arg.ignore_case q v.now
  accepts v pass =
      let same = same_rules pass.0 pass.1 pass.2 pass.3 pass.4.0 in
      subst (λ (b : Bool). Accepts b q v.now) same.ignore_case
      (subst (λ (w : ValueParser). Accepts pass.1.ignore_case w v.now) (parser_is pass.1 same) pass.4.1)

  reads : (r : Reading) → HasReading p.built arg.id.now r → r ≡ reading_of q
  reads r any =
      let same = same_rules any.0 any.1 any.2 any.3 any.4.0 in
      sym any.4.1 ∙ ap reading_of (parser_is any.1 same)

  -- ---- the contents of the entry that has the argument's id
  module _ (x : MatchedArg) (found : matched_of (found_of m) arg.id.now ≡ Some x) (e : Entry) (same_x : e.1 ≡ x) (key : e.0.now ≡ arg.id.now)
      (pass : EntryPasses p.built e) where
    no_groups : groups_of p.built ≡ []
    no_groups = (p.from.plain plain).1

    no_group : e.1.is_group ≡ true → ⊥
    no_group group = elim (pass.3 group) [
      | inl empty ↦ named (sym key ∙ empty)
      | inr lots ↦
          let bad : 0 < 0 = rw no_groups at lots in
          omega arith
    ]

    values : All (λ v. PassesArg p.built arg.id.now v.now) x.vals.items
    values = elim pass.0 [
      | inl group ↦ absurd (no_group group)
      | inr all ↦ subst (λ (w : Text). All (λ v. PassesArg p.built w v.now) x.vals.items) key (rw same_x at all)
    ]

    reading : x.reading ≡ reading_of q
    reading = elim pass.4 [
      | inl group ↦ absurd (no_group group)
      | inr has ↦ ap (λ (y : MatchedArg). y.reading) (sym same_x) ∙ reads e.1.reading (subst (λ (w : Text). HasReading p.built w e.1.reading) key has)
    ]

    filled : 0 < length x.vals.items
    filled = elim pass.1 [
      | inl group ↦ absurd (no_group group.0)
      | inr (inl some) ↦ rw same_x at some
      | inr (inr (inl counts)) ↦
          let any = counts.1 in
          let same = same_rules any.0 any.1 any.2 any.3 (rw key at any.4.0) in
          let bad : Set ≡ Count = rw (same.action Set set) at any.4.1 in
          cc
      | inr (inr (inr none)) ↦
          let same = same_rules none.0 none.1 none.2 none.3 (rw key at none.4.0) in
          elim none.4.1 [
            | inl without ↦
                let one = same.least set least in
                absurd (omega arith)
            | inr has ↦
                let bad : false ≡ true = rw (same.val_delim, delim) at has in
                cc
          ]
    ]

    entry_value : HasValue arg q (found_of m)
    entry_value =
        let v = head_value (λ v. PassesArg p.built arg.id.now v.now) x.reading x.vals.items values filled in
        record {
          text = v.0.now;
          first = rw found v.1;
          one = rw found (v.2 ∙ ap (λ (how : Reading). Some (read_as how v.0.now)) reading);
          accepted = accepts v.0 v.3;
        }

  -- an argument with a default has a value
  pub default_value : WantsDefault arg → HasValue arg q (found_of m)
  default_value wants =
      let has = default_present old m p globals k d lt wants in
      go (matched_of (found_of m) arg.id.now) refl (has_entry (found_of m).entries.items arg.id.now has.0 has.1 has.2)
    where
      go : (o : Option MatchedArg) → matched_of (found_of m) arg.id.now ≡ o → is_some (matched_of (found_of m) arg.id.now) ≡ true → HasValue arg q (found_of m)
      go None none some =
          let bad : false ≡ true = rw none at some in
          cc
      go (Some x) found some =
          let parsed = p.parsed (p.from.globals ∙ globals) in
          let entry = entry_by_id (EntryPasses p.built) (found_of m).entries.items arg.id.now x parsed.values found in
          entry_value x found entry.0 entry.1 ((bytes_eq-Decides entry.0.0.now arg.id.now).0 entry.2) entry.3

  -- any argument has a value or is absent
  pub optional_value : ((first_value (found_of m) arg.id.now ≡ None) × (one_text (found_of m) arg.id.now ≡ None)) ⊎ HasValue arg q (found_of m)
  optional_value = go (matched_of (found_of m) arg.id.now) refl
    where
      go : (o : Option MatchedArg) → matched_of (found_of m) arg.id.now ≡ o
          → ((first_value (found_of m) arg.id.now ≡ None) × (one_text (found_of m) arg.id.now ≡ None)) ⊎ HasValue arg q (found_of m)
      go None none = inl (rw none refl, rw none refl)
      go (Some x) found =
          let parsed = p.parsed (p.from.globals ∙ globals) in
          let entry = entry_by_id (EntryPasses p.built) (found_of m).entries.items arg.id.now x parsed.values found in
          inr (entry_value x found entry.0 entry.1 ((bytes_eq-Decides entry.0.0.now arg.id.now).0 entry.2) entry.3)

-- the text of a number that is at least 1 has no minus sign
no_minus : (t : Text) (low high : ℕ) → 1 ≤ low → IsSignedIn (pos low) (pos high) t → starts_with_minus t ≡ false
no_minus t low high some inside = go (starts_with_minus t) refl
  where
    go : (b : Bool) → starts_with_minus t ≡ b → starts_with_minus t ≡ false
    go true minus =
        let low_ok = rw minus at inside.2 in
        absurd (omega (arith, ints))
    go false plain = plain

pub record IsNumberIn (low high : ℕ) (t : Text) : Type 0 where
  pub numeral : IsNumeral 10 (without_leading_plus t)
  pub least : low ≤ digits_value 10 (without_leading_plus t)
  pub most : digits_value 10 (without_leading_plus t) ≤ high
  pub whole : without_minus t ≡ t

without_minus-cond : (t : Text) → without_minus t ≡ cond (starts_with_minus t) (drop 1 t) t
without_minus-cond [] = refl
without_minus-cond (x ∷ xs) = go (x == 45)
  where
    go : (b : Bool) → unwrap_or (cond b (Some xs) None) (x ∷ xs) ≡ cond b xs (x ∷ xs)
    go true = refl
    go false = refl

pub number_in : (t : Text) (low high : ℕ) → 1 ≤ low → IsSignedIn (pos low) (pos high) t → IsNumberIn low high t
number_in t low high some inside =
    let plain = no_minus t low high some inside in
    let low_ok = rw plain at inside.2 in
    let high_ok = rw plain at inside.3 in
    record {
      numeral = rw plain at inside.0;
      least = omega (arith, ints);
      most = omega (arith, ints);
      whole = without_minus-cond t ∙ rw plain refl;
    }

-- if a type can hold all numbers of a range, the text of a number in that range is parsed as that number
pub number_read : (E : Type 0) (G : Text → Result ℕ E → Type 0) (bits high : ℕ) (t : Text) (r : Option ℕ)
    → ReadsOne G t r → ((u : Text) (x : Result ℕ E) → G u x → ParsesUnsigned bits 10 u x) → high < 2 ^ bits
    → IsNumeral 10 (without_leading_plus t) → digits_value 10 (without_leading_plus t) ≤ high
    → r ≡ Some (digits_value 10 (without_leading_plus t))
number_read E G bits high t (Some v) read parses fits numeral most = ap Some (parses t (Ok v) read).1
number_read E G bits high t None read parses fits numeral most = absurd (parses t (Err read.0) read.1 (numeral, omega (arith, fits, most)))
