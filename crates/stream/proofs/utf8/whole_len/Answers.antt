use Rattle.std.proofs.Common.{ℕ, ◌≡◌, ◌+◌, ◌-◌, ◌<◌, ◌≤◌, Bool, true, false, if◌then◌else◌, length, get_or, nat_lt, ⊎_elim, subst, sym, arith}
use Rattle.std.proofs.lemmas.Bool.{cases_lt}
use Rattle.stream.specs.Utf8.{char_len}
use Rattle.stream.proofs.utf8.whole_len.Goals as goal

char_len_most : (first : ℕ) → char_len first ≤ 4
char_len_most first = go (nat_lt first 0xE0) (nat_lt first 0xF0)
  where
    go : (two three : Bool) → (if two then 2 else (if three then 3 else 4)) ≤ 4
    go true three = omega arith
    go false true = omega arith
    go false false = omega arith

pub loop-after-init : goal.loop-after-init
loop-after-init c = λ k lt past. absurd (omega arith)

pub loop-after-preserved : goal.loop-after-preserved
loop-after-preserved c = λ k lt past.
    let bytes = c.args.bytes.now in
    ⊎_elim
    (λ (seen : length bytes < k + c.loop-after.after). c.loop-after.invariant k lt seen)
    (λ (next : k + c.loop-after.after ≤ length bytes).
    let is : k ≡ length bytes - c.loop-after.after = omega arith in
    subst (λ x. get_or bytes x 0 < 0xC0) (sym is) c.if-bytes-at-ge192.false)
    (cases_lt (length bytes) (k + c.loop-after.after))

pub returns-then-after-char_len-clause-cut : goal.returns-then-after-char_len-clause-cut
returns-then-after-char_len-clause-cut c = λ less. record {
  begins = c.if-bytes-at-ge192.true;
  inside = λ k above lt. c.loop-after.invariant k lt (omega arith);
  short = omega (arith, c.char_len.ensures, c.if-after-char_len.true, c.if-after-bytes.false);
}

-- the character that starts at this index is complete, and no multi-byte character starts after it
pub returns-else-after-char_len-clause-whole : goal.returns-else-after-char_len-clause-whole
returns-else-after-char_len-clause-whole c = λ same k lt cut.
    let bytes = c.args.bytes.now in
    let at = length bytes - c.loop-after.after in
    ⊎_elim
    (λ (before : k < at). omega (arith, cut.inside at before (omega arith), c.if-bytes-at-ge192.true))
    (λ (least : at ≤ k). ⊎_elim
    (λ (after : at < k). omega (arith, cut.begins, c.loop-after.invariant k lt (omega arith)))
    (λ (most : k ≤ at).
    let is : k ≡ at = omega arith in
    let short = subst (λ x. length bytes < x + char_len (get_or bytes x 0)) is cut.short in
    omega (arith, short, c.char_len.ensures, c.if-after-char_len.false, c.if-after-bytes.false))
    (cases_lt at k))
    (cases_lt k at)

pub returns-after-loop-after-clause-whole : goal.returns-after-loop-after-clause-whole
returns-after-loop-after-clause-whole c = λ same k lt cut.
    let bytes = c.args.bytes.now in
    ⊎_elim
    (λ (seen : length bytes < k + c.loop-after.after). omega (arith, cut.begins, c.loop-after.invariant k lt seen))
    (λ (far : k + c.loop-after.after ≤ length bytes). omega (arith, cut.short, char_len_most (get_or bytes k 0), c.loop-after-test.false))
    (cases_lt (length bytes) (k + c.loop-after.after))

pub returns-then-after-bytes-clause-whole : goal.returns-then-after-bytes-clause-whole
returns-then-after-bytes-clause-whole c = λ same k lt cut.
    omega (arith, cut.begins, c.loop-after.invariant k lt (omega (arith, c.if-after-bytes.true)))
