-- Pages and maps that agree with an image hold its tables.
use Rattle.std.proofs.Common.{◌≡◌, ℕ, ◌+◌, ◌*◌, ◌/◌, ◌%◌, ◌<◌, ◌==◌, ◌&&◌, false, List, is_some, IsTrue, sym, subst, ◌∙◌, ap, arith}
use Rattle.std.specs.BTreeMap.{BTreeMap, get}
use Rattle.std.specs.Char.{IsScalar}
use Rattle.std.specs.Ordering.{nat_cmp}
use Rattle.std.proofs.lemmas.Bool.Decides.{nat_tests}
use Rattle.ucd.specs.Answers.{PropertyAnswers, AreBits, answers_in}
use Rattle.ucd.specs.Bits.{line_number_at}
use Rattle.ucd.specs.DistinctPages.{IsEntryOf}
use Rattle.ucd.specs.Images.{image_version, page_count, page_number, bits_at, is_entry, bracket_at, mirror_at, ArePagesKnown, AreEntries, AreBracketFlags, AreMirrorFlags}
use Rattle.ucd.specs.Imaged.{SaysImage}
use Rattle.ucd.specs.Paged.{contents_in, AreSound}
use Rattle.ucd.specs.Pages.{answers_at}
use Rattle.ucd.specs.Tables.{mirror_by}
use Rattle.ucd.specs.Versions.{number_count}
use Rattle.ucd.specs.declared.version.Version.{Version}
use Rattle.ucd.specs.declared.version.Version.TheVariants.{V15_0, V17_0}
use Rattle.ucd.proofs.PagedLemmas.{bracket_is, mirror_is, properties_are, below_limit}
use Rattle.ucd.specs.declared.bracket.Bracket.{Bracket}
use Rattle.ucd.specs.declared.bracket.Mirror.{Mirror}

-- valid bits encode properties that an image can contain
entry_apart : (version : Version) (bits : ℕ) → IsTrue (is_entry version bits) → ((bits / 256 % 2 == 1) && (bits / 128 % 2 == 1)) ≡ false
entry_apart version bits is = grind (arith, nat_tests)

entry_number : (version : Version) (bits : ℕ) → IsTrue (is_entry version bits) → bits / 1024 < number_count version
entry_number version bits is = grind (arith, nat_tests)

counts : (version : Version) (n : ℕ) → n < number_count version → n < 56
counts V15_0 n lt = omega arith
counts V17_0 n lt = lt

entry_bidi : (version : Version) (bits : ℕ) → IsTrue (is_entry version bits) → bits % 32 < 23
entry_bidi version bits is = grind (arith, nat_tests)

pub entry_bits : (version : Version) (bits : ℕ) → IsTrue (is_entry version bits) → AreBits bits
entry_bits version bits is = record { bidi = entry_bidi version bits is; line = counts version (bits / 1024) (entry_number version bits is) }

-- properties that an image can contain are encoded by valid bits
entry_by : (version : Version) (bits : ℕ) → bits % 32 < 23 → bits / 1024 < number_count version → ((bits / 256 % 2 == 1) && (bits / 128 % 2 == 1)) ≡ false → IsTrue (is_entry version bits)
entry_by version bits bidi line apart = grind (arith, nat_tests)

pub bits_entry : (version : Version) (bits : ℕ) → AreBits bits → IsEntryOf version (answers_in bits) → IsTrue (is_entry version bits)
bits_entry version bits are is =
    entry_by version bits are.bidi (subst (λ n. n < number_count version) (line_number_at (bits / 1024) are.line) is.number) is.apart

pub entry_of : (version : Version) (bits : ℕ) → IsTrue (is_entry version bits) → IsEntryOf version (answers_in bits)
entry_of version bits is = record {
  apart = entry_apart version bits is;
  number = rw (line_number_at (bits / 1024) (counts version (bits / 1024) (entry_number version bits is))) (entry_number version bits is);
}

module _ (bytes : List ℕ) (known : ArePagesKnown bytes) (valid : AreEntries bytes) (c : ℕ) (lt : c < 1114112) where
  -- the index of a code point's entry is within the pages
  pub place_within : page_number bytes (c / 256) * 256 + c % 256 < 256 * page_count bytes
  place_within = omega (arith, known (c / 256) (omega arith))

  pub bits_valid : IsTrue (is_entry (image_version bytes) (bits_at bytes c))
  bits_valid = valid (page_number bytes (c / 256) * 256 + c % 256) place_within

module _ (bytes : List ℕ) (index : List ℕ) (entries : List PropertyAnswers) (brackets : BTreeMap ℕ Bracket) (mirrors : BTreeMap ℕ Mirror)
    (known : ArePagesKnown bytes) (valid : AreEntries bytes) (bracket_flags : AreBracketFlags bytes) (mirror_flags : AreMirrorFlags bytes)
    (same : (c : ℕ) → c < 1114112 → answers_at index entries c ≡ answers_in (bits_at bytes c))
    (bracket_values : (c : ℕ) → get nat_cmp brackets c ≡ bracket_at bytes c)
    (mirror_values : (c : ℕ) → get nat_cmp mirrors c ≡ mirror_at bytes c) where
  pub sound : AreSound (image_version bytes) index entries brackets mirrors
  sound = record {
    bracket = λ c lt. ap (λ a. a.has_bracket) (same c lt) ∙ bracket_flags c lt ∙ sym (ap is_some (bracket_values c));
    mirror = λ c lt. ap (λ a. a.has_mirror) (same c lt) ∙ mirror_flags c lt ∙ sym (ap is_some (mirror_values c));
    entry = λ c lt. rw (same c lt) (entry_of (image_version bytes) (bits_at bytes c) (bits_valid bytes known valid c lt));
  }

  pub says : (c : ℕ) → IsScalar c → SaysImage bytes (contents_in (image_version bytes) index entries brackets mirrors) c
  says c is =
      let lt : c < 1114112 = below_limit c is in
      record {
        properties = sym (properties_are (image_version bytes) index entries brackets mirrors c lt sound) ∙ same c lt;
        bracket = bracket_is (image_version bytes) index entries brackets mirrors c lt ∙ bracket_values c;
        mirror = mirror_is (image_version bytes) index entries brackets mirrors c lt ∙ ap mirror_by (mirror_values c);
      }
