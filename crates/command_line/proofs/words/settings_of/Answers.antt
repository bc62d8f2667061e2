use Rattle.std.proofs.Common.{◌≡◌, ◌∙◌, ℕ, Bool, Bor, List, Result, arith, [], Option, Some, None, ap, codes, is_some, length, map, option_map, refl, ap₂, true, false, rules, sym, true≢false, unwrap_or}
use Rattle.clap.specs.Words.{ReadsOne, Row, Text, all_of, matches_of, first_of, found_of, one_text, rows_of}
use Rattle.clap.specs.declared.parser.matches.Found.{Found}
use Rattle.clap.specs.Takes.{is_given}
use Rattle.clap.proofs.WalkLemmas.{first_value-rows, one_text-rows, raw_values-rows}
use Rattle.std.specs.Str.Parse.{ParsesUnsigned, ExplainsUnsignedError, HasUnsignedDigitsIfOk}
use Rattle.command_line.specs.CommandLine.{HasNumber, base_of, fits_queries, fits_script, number_of, program, queries_fit, script_fits, tab_width_of, texts_of, version_by, version_of}
use Rattle.std.proofs.lemmas.List.{length-map}
use Rattle.command_line.proofs.DefaultLemmas.{number_read}
use Rattle.command_line.proofs.TabLemmas.{stops_in}
use Rattle.command_line.proofs.words.settings_of.Goals as goal

-- the texts of an optional list, or no texts if the list is missing
texts_or_none : (o : Option (Bor (List (Bor Text)))) (none : Bor (List (Bor Text))) → none.now ≡ []
    → map (λ s. s.now) (unwrap_or o none).now ≡ unwrap_or (option_map (λ s. map (λ v. v.now) s.now) o) []
texts_or_none None none empty = ap (map (λ s. s.now)) empty
texts_or_none (Some s) none empty = refl

-- the checks that `--script` is used with exactly one text, and `--queries` only with `--script`
is_some_now : (o : Option (Bor Text)) → is_some (option_map (λ s. s.now) o) ≡ is_some o
is_some_now None = refl
is_some_now (Some s) = refl

script_one : (script : Option (Bor Text)) (n : ℕ) (rows : List Row) → option_map (λ s. s.now) script
    ≡ first_of (codes "script") rows → length (texts_of rows) ≡ n → script_fits rows ≡ fits_script (is_some script) n
script_one script n rows script_is texts = ap₂ fits_script (ap is_some (sym script_is) ∙ is_some_now script) texts

queries_checked : (queries : Bool) (script : Option (Bor Text)) (rows : List Row) → option_map (λ s. s.now) script ≡ first_of (codes "script") rows → queries ≡ is_given (codes "queries") rows
    → queries_fit rows ≡ fits_queries queries (is_some script)
queries_checked queries script rows script_is is = ap₂ fits_queries (sym is) (ap is_some (sym script_is) ∙ is_some_now script)

pub unreachable-requires : goal.unreachable-requires
unreachable-requires c =
    let found = found_of c.args.matches.now in
    true≢false (sym (ap is_some (c.in_default-get_str.ensures ∙ first_value-rows found (codes "ucd")) ∙ c.requires.1.ucd))

-- the parsed width is the number that the option's text denotes
read_width : (E : Type 0) (Gives : Text → Result ℕ E → Type 0) → ((t : Text) (x : Result ℕ E) → Gives t x → ParsesUnsigned 16 10 t x)
    → (f : Found) (r : Option ℕ) → HasNumber (codes "width") 65535 (rows_of f) → ((t : Text) → one_text f (codes "width") ≡ Some t → ReadsOne Gives t r)
    → option_map number_of (first_of (codes "width") (rows_of f)) ≡ r
read_width E Gives parses f r width read =
    ap (option_map number_of) width.first
    ∙ sym (number_read E Gives 16 65535 width.text r (read width.text (one_text-rows f (codes "width") ∙ width.one)) parses (omega arith) width.allowed.0 width.allowed.2)

pub unreachable-requires-in_default-get_one : goal.unreachable-requires-in_default-get_one
unreachable-requires-in_default-get_one c =
    let found = found_of c.args.matches.now in
    let width = c.requires.1.width in
    let none = sym (ap (option_map number_of) width.first)
    ∙ read_width _ (λ t r. ParsesUnsigned 16 10 t r × ExplainsUnsignedError 10 t r
    × HasUnsignedDigitsIfOk t r) (λ t r gives. gives.0) found None width c.in_default-get_one.ensures.value in
    true≢false (ap is_some none)

pub returns-clause-ok : goal.returns-clause-ok
returns-clause-ok c = λ words m.
    let found = found_of c.args.matches.now in
    let given = λ (name : Text). ap (is_given name) m.rows in
    let width = read_width _ (λ t r. ParsesUnsigned 16 10 t r × ExplainsUnsignedError 10 t r
    × HasUnsignedDigitsIfOk t r) (λ t r gives. gives.0) found (Some c.in-Some-get_one.width) m.width
    c.in-Some-get_one.ensures.value in
    let is_width : number_of m.width.text ≡ c.in-Some-get_one.width = ap (λ o. unwrap_or o 0) (sym (ap (option_map number_of) m.width.first) ∙ width) in
    let script = c.get_str-script.ensures ∙ first_value-rows found (codes "script") ∙ ap (first_of (codes "script")) m.rows in
    let texts = ap (λ (s : Bor (List (Bor Text))). map (λ v. v.now) s.now) c.unwrap_or-texts.ensures
    ∙ texts_or_none c.get_strs.result _ refl
    ∙ ap (λ texts. unwrap_or texts []) (c.get_strs.ensures ∙ raw_values-rows found (codes "files") ∙ ap (all_of (codes "files")) m.rows) in
    let fits : c.fits_script.result ≡ true = search rules in
    let asks : c.fits_queries.result ≡ true = search rules in
    let print = c.print_of.ensures in
    let versioned = c.in-Some-version_by.ensures ∙ ap version_by (c.get_str.ensures ∙ first_value-rows found (codes "unicode")) in
    let tabs = c.in-Some.ensures.tab_width ∙ ap tab_width_of m.rows in
    record {
      taken = m.taken;
      ucd = sym (c.in-Some-get_str.ensures ∙ first_value-rows found (codes "ucd") ∙ ap (first_of (codes "ucd")) m.rows);
      unicode = sym (versioned ∙ ap version_of m.rows);
      base = sym (c.in-Some.ensures.base ∙ ap base_of m.rows);
      width = ap (λ rows. option_map number_of (first_of (codes "width") rows)) (sym m.rows) ∙ width;
      wide = (omega (arith, is_width, m.width.allowed.1), omega (arith, is_width, m.width.allowed.2));
      novisual = print.novisual ∙ given (codes "novisual");
      basedir = print.basedir ∙ given (codes "basedir");
      ltov = print.ltov ∙ given (codes "ltov");
      vtol = print.vtol ∙ given (codes "vtol");
      levels = print.levels ∙ given (codes "levels");
      nopad = print.nopad ∙ given (codes "nopad");
      nomirror = print.nomirror ∙ given (codes "nomirror");
      nobreak = c.in-Some.ensures.nobreak ∙ given (codes "nobreak");
      reordernsm = c.in-Some.ensures.reordernsm ∙ given (codes "reordernsm");
      whole_numbers = c.in-Some.ensures.whole_numbers ∙ given (codes "whole-numbers");
      reorder_clusters = c.in-Some.ensures.reorder_clusters ∙ given (codes "reorder-clusters");
      show_spaces = c.in-Some.ensures.show_spaces ∙ given (codes "show-spaces");
      line_separators = c.is_set-line_separators.ensures ∙ given (codes "line-separators");
      tab_width = tabs;
      stops = λ some. let limits = stops_in (rows_of found) m.tabs (ap (λ rows. is_some (first_of (codes "tabs") rows)) m.rows ∙ some) in
          (omega (arith, c.in-Some.ensures.tab_width, limits.0), omega (arith, c.in-Some.ensures.tab_width, limits.1));
      script = script;
      queries = c.is_set-queries.ensures ∙ given (codes "queries");
      files = ap (map (λ s. s.now)) c.in-Ok.ensures.items ∙ texts;
      asked = queries_checked c.is_set-queries.result c.get_str-script.result (matches_of program _) script (c.is_set-queries.ensures ∙ given (codes "queries")) ∙ sym c.fits_queries.ensures ∙ asks;
      one = script_one c.get_str-script.result (length c.unwrap_or-texts.result.now) (matches_of program _) script
          (omega (arith, ap length texts, length-map c.unwrap_or-texts.result.now (λ (s : Bor Text). s.now)))
          ∙ sym c.fits_script.ensures ∙ fits;
    }

pub returns-in_default-version_by-clause-err : goal.returns-in_default-version_by-clause-err
returns-in_default-version_by-clause-err c = λ words m.
    let found = found_of c.args.matches.now in (
      m.taken,
      ap is_some (sym (c.in-Some.ensures.base ∙ ap base_of m.rows)),
      sym (c.in_default-version_by.ensures ∙ ap version_by (c.get_str.ensures ∙ first_value-rows found (codes "unicode")) ∙ ap version_of m.rows),
    )

pub returns-then-not-fits_script-clause-err : goal.returns-then-not-fits_script-clause-err
returns-then-not-fits_script-clause-err c = λ words m.
    let found = found_of c.args.matches.now in
    let script = c.get_str-script.ensures ∙ first_value-rows found (codes "script") ∙ ap (first_of (codes "script")) m.rows in
    let texts = ap (λ (s : Bor (List (Bor Text))). map (λ v. v.now) s.now) c.unwrap_or-texts.ensures
    ∙ texts_or_none c.get_strs.result _ refl
    ∙ ap (λ texts. unwrap_or texts []) (c.get_strs.ensures ∙ raw_values-rows found (codes "files") ∙ ap (all_of (codes "files")) m.rows) in
    let isnt : c.fits_script.result ≡ false = search rules in (
      m.taken,
      ap is_some (sym (c.in-Some.ensures.base ∙ ap base_of m.rows)),
      ap is_some (sym (c.in-Some-version_by.ensures ∙ ap version_by (c.get_str.ensures ∙ first_value-rows found (codes "unicode")) ∙ ap version_of m.rows)),
      script_one c.get_str-script.result
          (length c.unwrap_or-texts.result.now) (matches_of program _) script
          (omega (arith, ap length texts, length-map c.unwrap_or-texts.result.now (λ (s : Bor Text). s.now)))
          ∙ sym c.fits_script.ensures ∙ isnt,
    )

pub returns-then-not-fits_queries-clause-err : goal.returns-then-not-fits_queries-clause-err
returns-then-not-fits_queries-clause-err c = λ words m.
    let found = found_of c.args.matches.now in
    let script = c.get_str-script.ensures ∙ first_value-rows found (codes "script") ∙ ap (first_of (codes "script")) m.rows in
    let texts = ap (λ (s : Bor (List (Bor Text))). map (λ v. v.now) s.now) c.unwrap_or-texts.ensures
    ∙ texts_or_none c.get_strs.result _ refl
    ∙ ap (λ texts. unwrap_or texts []) (c.get_strs.ensures ∙ raw_values-rows found (codes "files") ∙ ap (all_of (codes "files")) m.rows) in
    let fits : c.fits_script.result ≡ true = search rules in
    let isnt : c.fits_queries.result ≡ false = search rules in (
      m.taken,
      ap is_some (sym (c.in-Some.ensures.base ∙ ap base_of m.rows)),
      ap is_some (sym (c.in-Some-version_by.ensures ∙ ap version_by (c.get_str.ensures ∙ first_value-rows found (codes "unicode")) ∙ ap version_of m.rows)),
      script_one c.get_str-script.result (length c.unwrap_or-texts.result.now) (matches_of program _) script
          (omega (arith, ap length texts, length-map c.unwrap_or-texts.result.now (λ (s : Bor Text). s.now)))
          ∙ sym c.fits_script.ensures ∙ fits,
      queries_checked c.is_set-queries.result c.get_str-script.result (matches_of program _) script
          (c.is_set-queries.ensures ∙ ap (is_given (codes "queries")) m.rows) ∙ sym c.fits_queries.ensures ∙ isnt,
    )

pub returns-in_default-from_slice-clause-memory : goal.returns-in_default-from_slice-clause-memory
returns-in_default-from_slice-clause-memory c =
    let found = found_of c.args.matches.now in
    let script = c.get_str-script.ensures ∙ first_value-rows found (codes "script") in
    let texts = ap (λ (s : Bor (List (Bor Text))). map (λ v. v.now) s.now) c.unwrap_or-texts.ensures
    ∙ texts_or_none c.get_strs.result _ refl
    ∙ ap (λ texts. unwrap_or texts []) (c.get_strs.ensures ∙ raw_values-rows found (codes "files")) in
    let fits : c.fits_script.result ≡ true = search rules in
    let asks : c.fits_queries.result ≡ true = search rules in (
      ap is_some (sym c.in-Some.ensures.base),
      ap is_some (sym (c.in-Some-version_by.ensures ∙ ap version_by (c.get_str.ensures ∙ first_value-rows found (codes "unicode")))),
      script_one c.get_str-script.result (length c.unwrap_or-texts.result.now) (rows_of found) script
          (omega (arith, ap length texts, length-map c.unwrap_or-texts.result.now (λ (s : Bor Text). s.now)))
          ∙ sym c.fits_script.ensures ∙ fits,
      queries_checked c.is_set-queries.result c.get_str-script.result (rows_of found) script c.is_set-queries.ensures ∙ sym c.fits_queries.ensures ∙ asks,
    )
