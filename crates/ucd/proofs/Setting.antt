-- Setting some of the bits changes the properties that they encode, and no others.
use Rattle.std.proofs.Common.{◌≡◌, ℕ, ◌+◌, ◌*◌, ◌/◌, ◌%◌, ◌<◌, ◌==◌, true, false, refl, ◌∙◌, arith}
use Rattle.ucd.specs.declared.bidi_class.BidiClass.{BidiClass}
use Rattle.ucd.specs.declared.line_class.LineClass.{LineClass}
use Rattle.ucd.specs.declared.line_detail.LineDetail.TheVariants.{Plain}
use Rattle.ucd.specs.Answers.{bidi_tag, bidi_class_at, line_tag, line_class_at, line_detail_at, answers_in}
use Rattle.ucd.specs.Bits.{bidi_at_tag, bidi_tag_below, line_at_tag, detail_at_tag, line_tag_below}

-- the bit fields determine the properties that the bits encode
answers_by : (bits bidi bracket mirror pictograph mark wide line : ℕ) → bits % 32 ≡ bidi → bits / 32 % 2 ≡ bracket
    → bits / 64 % 2 ≡ mirror → bits / 128 % 2 ≡ pictograph → bits / 256 % 2 ≡ mark → bits / 512 % 2 ≡ wide
    → bits / 1024 ≡ line →
    answers_in bits ≡ record {
      bidi_class = bidi_class_at bidi;
      has_bracket = bracket == 1;
      has_mirror = mirror == 1;
      is_future_pictograph = pictograph == 1;
      is_mark = mark == 1;
      is_wide = wide == 1;
      line_class = line_class_at line;
      line_detail = line_detail_at line;
    }
answers_by bits bidi bracket mirror pictograph mark wide line is_bidi is_bracket is_mirror is_pictograph is_mark
    is_wide is_line = rw (is_bidi, is_bracket, is_mirror, is_pictograph, is_mark, is_wide, is_line) refl

pub with_bidi_class : (bits : ℕ) (class : BidiClass) → answers_in (bits / 32 * 32 + bidi_tag class) ≡ record (answers_in bits) { bidi_class = class }
with_bidi_class bits class = answers_by (bits / 32 * 32 + bidi_tag class) (bidi_tag class) (bits / 32 % 2)
    (bits / 64 % 2) (bits / 128 % 2) (bits / 256 % 2) (bits / 512 % 2) (bits / 1024)
    (omega (arith, bidi_tag_below class)) (omega (arith, bidi_tag_below class)) (omega (arith, bidi_tag_below class))
    (omega (arith, bidi_tag_below class)) (omega (arith, bidi_tag_below class)) (omega (arith, bidi_tag_below class))
    (omega (arith, bidi_tag_below class)) ∙ rw (bidi_at_tag class) refl

pub with_bracket : (bits : ℕ) → answers_in (bits / 64 * 64 + 32 + bits % 32) ≡ record (answers_in bits) { has_bracket = true }
with_bracket bits = answers_by (bits / 64 * 64 + 32 + bits % 32) (bits % 32) (1) (bits / 64 % 2) (bits / 128 % 2)
    (bits / 256 % 2) (bits / 512 % 2) (bits / 1024) (omega arith) (omega arith) (omega arith) (omega arith)
    (omega arith) (omega arith) (omega arith)

pub with_mirror : (bits : ℕ) → answers_in (bits / 128 * 128 + 64 + bits % 64) ≡ record (answers_in bits) { has_mirror = true }
with_mirror bits = answers_by (bits / 128 * 128 + 64 + bits % 64) (bits % 32) (bits / 32 % 2) (1) (bits / 128 % 2)
    (bits / 256 % 2) (bits / 512 % 2) (bits / 1024) (omega arith) (omega arith) (omega arith) (omega arith)
    (omega arith) (omega arith) (omega arith)

pub with_line_class : (bits : ℕ) (class : LineClass) → answers_in (line_tag class * 1024 + bits % 1024) ≡ record (answers_in bits) { line_class = class; line_detail = Plain }
with_line_class bits class = answers_by (line_tag class * 1024 + bits % 1024) (bits % 32) (bits / 32 % 2)
    (bits / 64 % 2) (bits / 128 % 2) (bits / 256 % 2) (bits / 512 % 2) (line_tag class)
    (omega (arith, line_tag_below class)) (omega (arith, line_tag_below class)) (omega (arith, line_tag_below class))
    (omega (arith, line_tag_below class)) (omega (arith, line_tag_below class)) (omega (arith, line_tag_below class))
    (omega (arith, line_tag_below class)) ∙ rw (line_at_tag class, detail_at_tag class) refl

pub with_number : (bits number : ℕ) → number < 56 → answers_in (number * 1024 + bits % 1024) ≡ record (answers_in bits) { line_class = line_class_at number; line_detail = line_detail_at number }
with_number bits number lt = answers_by (number * 1024 + bits % 1024) (bits % 32) (bits / 32 % 2) (bits / 64 % 2)
    (bits / 128 % 2) (bits / 256 % 2) (bits / 512 % 2) number (omega arith) (omega arith) (omega arith) (omega arith)
    (omega arith) (omega arith) (omega arith)

pub with_wide : (bits : ℕ) → answers_in (bits / 1024 * 1024 + 512 + bits % 512) ≡ record (answers_in bits) { is_wide = true }
with_wide bits = answers_by (bits / 1024 * 1024 + 512 + bits % 512) (bits % 32) (bits / 32 % 2) (bits / 64 % 2)
    (bits / 128 % 2) (bits / 256 % 2) (1) (bits / 1024) (omega arith) (omega arith) (omega arith) (omega arith)
    (omega arith) (omega arith) (omega arith)

pub with_future_pictograph : (bits : ℕ) → answers_in (bits / 256 * 256 + 128 + bits % 128) ≡ record (answers_in bits) { is_future_pictograph = true }
with_future_pictograph bits = answers_by (bits / 256 * 256 + 128 + bits % 128) (bits % 32) (bits / 32 % 2)
    (bits / 64 % 2) (1) (bits / 256 % 2) (bits / 512 % 2) (bits / 1024) (omega arith) (omega arith) (omega arith)
    (omega arith) (omega arith) (omega arith) (omega arith)

pub with_mark : (bits : ℕ) → answers_in (bits / 512 * 512 + 256 + bits % 128) ≡ record (answers_in bits) { is_mark = true; is_future_pictograph = false }
with_mark bits = answers_by (bits / 512 * 512 + 256 + bits % 128) (bits % 32) (bits / 32 % 2) (bits / 64 % 2) (0) (1)
    (bits / 512 % 2) (bits / 1024) (omega arith) (omega arith) (omega arith) (omega arith) (omega arith) (omega arith)
    (omega arith)

pub with_assignment : (bits : ℕ) → answers_in (bits / 256 * 256 + bits % 128) ≡ record (answers_in bits) { is_future_pictograph = false }
with_assignment bits = answers_by (bits / 256 * 256 + bits % 128) (bits % 32) (bits / 32 % 2) (bits / 64 % 2) (0)
    (bits / 256 % 2) (bits / 512 % 2) (bits / 1024) (omega arith) (omega arith) (omega arith) (omega arith)
    (omega arith) (omega arith) (omega arith)
