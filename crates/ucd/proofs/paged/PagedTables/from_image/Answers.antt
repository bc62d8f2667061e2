use Rattle.std.proofs.Common.{◌≡◌, ℕ, ◌<◌, sym, subst}
use Rattle.ucd.specs.Answers.{answers_in}
use Rattle.ucd.specs.Images.{bits_at}
use Rattle.std.specs.Char.{IsScalar}
use Rattle.ucd.specs.Imaged.{SaysImage}
use Rattle.ucd.specs.Paged.{contents_in, AreSound}
use Rattle.ucd.specs.Pages.{answers_at}
use Rattle.ucd.proofs.ImageTables.{sound, says}
use Rattle.ucd.proofs.paged.PagedTables.from_image.Goals as goal

-- the pages hold the properties of the image, and the maps hold its brackets and mirrors
pub invariant_of-result : goal.invariant_of-result
invariant_of-result c =
    let same : (x : ℕ) → x < 1114112 → answers_at c.into_pages.result.index.items c.into_pages.result.entries.items x ≡ answers_in (bits_at c.args.bytes.now x) =
    λ x lt. rw (c.into_pages.ensures.index, c.into_pages.ensures.entries) (c.in_ok-pages.ensures.answers x lt) in
    subst (λ v. AreSound v c.into_pages.result.index.items c.into_pages.result.entries.items c.in_ok-brackets.brackets c.in_ok-mirrors.mirrors) (sym c.image_version.ensures)
    (sound c.args.bytes.now c.into_pages.result.index.items c.into_pages.result.entries.items
    c.in_ok-brackets.brackets c.in_ok-mirrors.mirrors c.in_ok-pages.ensures.known c.in_ok-pages.ensures.valid c.in_ok-check_flags.ensures.ok.0
    c.in_ok-check_flags.ensures.ok.1 same c.in_ok-brackets.ensures.values c.in_ok-mirrors.ensures.values)

pub returns-clause-ok : goal.returns-clause-ok
returns-clause-ok c =
    let same : (x : ℕ) → x < 1114112 → answers_at c.into_pages.result.index.items c.into_pages.result.entries.items x ≡ answers_in (bits_at c.args.bytes.now x) =
    λ x lt. rw (c.into_pages.ensures.index, c.into_pages.ensures.entries) (c.in_ok-pages.ensures.answers x lt) in
    record {
      image = record {
        framed = c.in_ok-check_frame.ensures.ok;
        pages = c.in_ok-pages.ensures.known;
        entries = c.in_ok-pages.ensures.valid;
        brackets = c.in_ok-brackets.ensures.brackets;
        mirrors = c.in_ok-mirrors.ensures.mirrors;
        bracket_flags = c.in_ok-check_flags.ensures.ok.0;
        mirror_flags = c.in_ok-check_flags.ensures.ok.1;
      };
      version = c.image_version.ensures;
      say = subst (λ v. (x : ℕ) → IsScalar x → SaysImage c.args.bytes.now (contents_in v c.into_pages.result.index.items c.into_pages.result.entries.items c.in_ok-brackets.brackets c.in_ok-mirrors.mirrors) x) (sym c.image_version.ensures)
          (says c.args.bytes.now c.into_pages.result.index.items c.into_pages.result.entries.items
          c.in_ok-brackets.brackets c.in_ok-mirrors.mirrors c.in_ok-pages.ensures.known c.in_ok-pages.ensures.valid c.in_ok-check_flags.ensures.ok.0
          c.in_ok-check_flags.ensures.ok.1 same c.in_ok-brackets.ensures.values c.in_ok-mirrors.ensures.values);
    }
