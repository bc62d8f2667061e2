use Rattle.std.proofs.Common.{◌≡◌, ◌/◌, true, false, rules, arith, sym, ap, ◌∙◌}
use Rattle.ucd.specs.Images.{version_number, u64_at, checksum}
use Rattle.ucd.proofs.ImageFaults.{no_header, no_magic, other_format, other_version, too_short, too_long, other_checksum}
use Rattle.ucd.proofs.image_frame.check_frame.Goals as goal

pub returns-then-bytes-lt-HEADER-clause-err : goal.returns-then-bytes-lt-HEADER-clause-err
returns-then-bytes-lt-HEADER-clause-err c = no_header c.args.bytes.now (λ le. absurd (omega arith))

pub returns-then-not-has_magic-clause-err : goal.returns-then-not-has_magic-clause-err
returns-then-not-has_magic-clause-err c = no_magic c.args.bytes.now (omega arith) (let h : c.has_magic.result ≡ false = search rules in c.has_magic.ensures.no h)

pub returns-then-u32_at-ne-FORMAT-clause-err : goal.returns-then-u32_at-ne-FORMAT-clause-err
returns-then-u32_at-ne-FORMAT-clause-err c = other_format c.args.bytes.now (omega arith) (let h : c.has_magic.result ≡ true = search rules in c.has_magic.ensures.yes h) (λ is. absurd (c.if-u32_at-ne-FORMAT.true (c.u32_at.ensures ∙ is)))

pub returns-then-u32_at-number-clause-err : goal.returns-then-u32_at-number-clause-err
returns-then-u32_at-number-clause-err c =
    other_version c.args.bytes.now (omega arith) (let h : c.has_magic.result ≡ true = search rules in c.has_magic.ensures.yes h)
    (sym c.u32_at.ensures ∙ c.if-u32_at-ne-FORMAT.false)
    (λ is. absurd (c.if-u32_at-number.true (c.u32_at-2.ensures ∙ is ∙ sym (c.number.ensures ∙ ap version_number c.image_version-version.ensures))))

pub overflow_add-end : goal.overflow_add-end
overflow_add-end c = omega (arith, c.checksum_at-end.ensures.within)

pub returns-then-bytes-end-clause-err : goal.returns-then-bytes-end-clause-err
returns-then-bytes-end-clause-err c =
    too_short c.args.bytes.now (omega arith) (let h : c.has_magic.result ≡ true = search rules in c.has_magic.ensures.yes h)
    (sym c.u32_at.ensures ∙ c.if-u32_at-ne-FORMAT.false)
    (sym c.u32_at-2.ensures ∙ c.if-u32_at-number.false ∙ c.number.ensures ∙ ap version_number c.image_version-version.ensures)
    (λ le. absurd (omega arith))

pub returns-then-bytes-end-2-clause-err : goal.returns-then-bytes-end-2-clause-err
returns-then-bytes-end-2-clause-err c =
    too_long c.args.bytes.now (omega arith) (let h : c.has_magic.result ≡ true = search rules in c.has_magic.ensures.yes h)
    (sym c.u32_at.ensures ∙ c.if-u32_at-ne-FORMAT.false)
    (sym c.u32_at-2.ensures ∙ c.if-u32_at-number.false ∙ c.number.ensures ∙ ap version_number c.image_version-version.ensures) (omega arith)
    (λ le. absurd (omega arith))

pub returns-then-u64_at-checksum-clause-err : goal.returns-then-u64_at-checksum-clause-err
returns-then-u64_at-checksum-clause-err c =
    other_checksum c.args.bytes.now (omega arith) (let h : c.has_magic.result ≡ true = search rules in c.has_magic.ensures.yes h)
    (sym c.u32_at.ensures ∙ c.if-u32_at-ne-FORMAT.false)
    (sym c.u32_at-2.ensures ∙ c.if-u32_at-number.false ∙ c.number.ensures ∙ ap version_number c.image_version-version.ensures) (omega arith) (omega arith)
    (λ is. let same : u64_at c.args.bytes.now c.checksum_at-end.result ≡ checksum c.args.bytes.now (c.checksum_at-end.result / 8) = rw c.checksum_at-end.ensures.value is in absurd (c.if-u64_at-checksum.true (c.u64_at.ensures ∙ same ∙ sym c.checksum.ensures)))
