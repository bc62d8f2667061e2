use Rattle.std.proofs.Common.{◌≡◌, ◌∙◌, Bor, List, [], Option, None, Some, ap, codes, map, option_map, refl, sym, unwrap_or}
use Rattle.clap.specs.Words.{found_of, Text}
use Rattle.clap.proofs.WalkLemmas.{raw_values-rows}
use Rattle.terminal_options.specs.Choices.{direction_by, escapes_by, marks_by, tabs_by, version_by, width_by}
use Rattle.terminal_options.proofs.reading.settings_of.Goals as goal

-- the texts of an optional list, or no texts if the list is missing
texts_or_none : (o : Option (Bor (List (Bor Text)))) (none : Bor (List (Bor Text))) → none.now ≡ []
    → map (λ s. s.now) (unwrap_or o none).now ≡ unwrap_or (option_map (λ s. map (λ v. v.now) s.now) o) []
texts_or_none None none empty = ap (map (λ s. s.now)) empty
texts_or_none (Some s) none empty = refl

pub returns-clause-ok : goal.returns-clause-ok
returns-clause-ok c =
    let texts = ap (λ (s : Bor (List (Bor Text))). map (λ v. v.now) s.now) c.unwrap_or.ensures
    ∙ texts_or_none c.get_strs.result _ refl
    ∙ ap (λ texts. unwrap_or texts []) (c.get_strs.ensures ∙ raw_values-rows (found_of c.args.given.now.line.now) (codes "files")) in
    let own = sym c.profile_option.ensures ∙ ap (option_map (λ (name : Bor Text). name.now)) c.in_default.is in
    record {
      own = own;
      ucd = c.value-7.ensures;
      unicode = ap version_by (sym c.value-6.ensures) ∙ sym c.in-Some-version_by.ensures;
      width = ap width_by (sym c.value.ensures) ∙ sym c.in-Some-width_by.ensures;
      tab_width = ap tabs_by (sym c.value-2.ensures) ∙ sym c.in-Some-tabs_by.ensures;
      marks = ap marks_by (sym c.value-3.ensures) ∙ sym c.in-Some-marks_by.ensures;
      direction = ap direction_by (sym c.value-4.ensures) ∙ sym c.in-Some-direction_by.ensures;
      escapes = ap escapes_by (sym c.value-5.ensures) ∙ sym c.in-Some-escapes_by.ensures;
      prefix = c.in-Some-prefix_of.ensures.some;
      whole_numbers = c.is_set.ensures;
      show_spaces = c.is_set-2.ensures;
      line_separators = c.is_set-3.ensures;
      nomirror = c.is_set-4.ensures;
      basedir = c.is_set-5.ensures;
      nopad = c.is_set-6.ensures;
      strict = c.is_set-7.ensures;
      files = ap (map (λ s. s.now)) c.in-Ok.ensures.items ∙ texts;
    }
