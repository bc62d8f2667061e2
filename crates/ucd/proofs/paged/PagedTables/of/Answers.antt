use Rattle.std.proofs.Common.{◌≡◌, ℕ, ◌<◌, ◌∙◌, ◌&&◌, refl, sym, ap, is_some, Some, unwrap_or}
use Rattle.ucd.specs.Entries.{value_at}
use Rattle.ucd.specs.Pages.{answers_at}
use Rattle.ucd.specs.Said.{layers_of, said, category_by, line_class_by}
use Rattle.ucd.specs.Tables.{mirror_by, class_of, bracket_of, mirror_of, line_class_of, line_detail_of, is_wide_in, is_mark_in, is_future_pictograph_in}
use Rattle.ucd.specs.Versions.{detail_by}
use Rattle.ucd.specs.declared.line_detail.LineDetail.TheVariants.{Plain}
use Rattle.ucd.proofs.PagedLemmas.{class_is, bracket_is, mirror_is, line_class_is, line_detail_is, wide_is, mark_is, future_is, value_singles, below_limit}
use Rattle.ucd.proofs.SaidLemmas.{said_class, said_bracket, said_mirror, said_line_class, said_detail, said_wide, said_mark, said_future, said_apart, said_entry}
use Rattle.ucd.proofs.paged.PagedTables.of.Goals as goal

pub invariant_of-result : goal.invariant_of-result
invariant_of-result c =
    let k = layers_of c.args.version c.args.entries.now in
    let is : (x : ℕ) → x < 1114112 → answers_at c.in_ok-pages.pages.index.items c.in_ok-pages.pages.entries.items x ≡ said k x =
    c.in_ok-pages.ensures in
    record {
      bracket = λ x lt. ap (λ a. a.has_bracket) (is x lt) ∙ said_bracket k x ∙ sym (ap is_some (c.in_ok-brackets.ensures x ∙ ap (λ es. value_at es x) c.as_slice.ensures.entries));
      mirror = λ x lt. ap (λ a. a.has_mirror) (is x lt) ∙ said_mirror k x ∙ sym (ap is_some (c.in_ok-mirrors.ensures x ∙ ap (λ es. value_at es x) c.as_slice-2.ensures.entries));
      entry = λ x lt. rw (is x lt) (said_entry k x refl);
    }

pub returns-clause-say : goal.returns-clause-say
unfolding class_of bracket_of mirror_of line_class_of line_detail_of is_wide_in is_mark_in is_future_pictograph_in
returns-clause-say c x character =
    let k = layers_of c.args.version c.args.entries.now in
    let lt : x < 1114112 = below_limit x character in
    let is : answers_at c.in_ok-pages.pages.index.items c.in_ok-pages.pages.entries.items x ≡ said k x =
    c.in_ok-pages.ensures x lt in
    record {
      bidi_class = class_is c.args.version c.in_ok-pages.pages.index.items c.in_ok-pages.pages.entries.items c.in_ok-brackets.brackets c.in_ok-mirrors.mirrors x lt ∙ ap (λ a. a.bidi_class) is ∙ said_class k x;
      bracket = bracket_is c.args.version c.in_ok-pages.pages.index.items c.in_ok-pages.pages.entries.items c.in_ok-brackets.brackets
          c.in_ok-mirrors.mirrors x lt ∙ c.in_ok-brackets.ensures x
          ∙ ap (λ es. value_at es x) c.as_slice.ensures.entries;
      mirror = mirror_is c.args.version c.in_ok-pages.pages.index.items c.in_ok-pages.pages.entries.items c.in_ok-brackets.brackets
          c.in_ok-mirrors.mirrors x lt ∙ ap mirror_by (c.in_ok-mirrors.ensures x
          ∙ ap (λ es. value_at es x) c.as_slice-2.ensures.entries);
      line_class = line_class_is c.args.version c.in_ok-pages.pages.index.items c.in_ok-pages.pages.entries.items
          c.in_ok-brackets.brackets c.in_ok-mirrors.mirrors x lt ∙ ap (λ a. a.line_class) is ∙ said_line_class k x
          ∙ c.requires x character;
      line_detail = line_detail_is c.args.version c.in_ok-pages.pages.index.items c.in_ok-pages.pages.entries.items
          c.in_ok-brackets.brackets c.in_ok-mirrors.mirrors x lt ∙ ap (λ a. a.line_detail) is ∙ said_detail k x refl
          ∙ ap (λ class. detail_by c.args.version (category_by c.args.entries.now x) class x) (c.requires x character)
          ∙ ap (λ o. unwrap_or o Plain) (sym (value_singles (λ i. Some (detail_by c.args.version (category_by c.args.entries.now i) (line_class_by c.args.entries.now i) i)) 1114112 x lt));
      is_wide = wide_is c.args.version c.in_ok-pages.pages.index.items c.in_ok-pages.pages.entries.items c.in_ok-brackets.brackets c.in_ok-mirrors.mirrors x lt ∙ ap (λ a. a.is_wide) is ∙ said_wide k x;
      is_mark = mark_is c.args.version c.in_ok-pages.pages.index.items c.in_ok-pages.pages.entries.items c.in_ok-brackets.brackets
          c.in_ok-mirrors.mirrors x lt (ap (λ a. a.is_mark && a.is_future_pictograph) is ∙ said_apart k x)
          ∙ ap (λ a. a.is_mark) is ∙ said_mark k x;
      is_future_pictograph = future_is c.args.version c.in_ok-pages.pages.index.items c.in_ok-pages.pages.entries.items
          c.in_ok-brackets.brackets c.in_ok-mirrors.mirrors x lt ∙ ap (λ a. a.is_future_pictograph) is
          ∙ said_future k x;
    }
