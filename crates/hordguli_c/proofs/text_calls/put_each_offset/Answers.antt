use Rattle.std.proofs.Common.{ap, get_or, length, map, sym, take, ◌≡◌, ◌+◌, ◌<◌, ◌∙◌, ◌++◌, ◌∷◌, [], List, ℕ, arith}
use Rattle.std.specs.Char.{len_utf8}
use Rattle.std.specs.List.{range_with_len}
use Rattle.std.specs.Str.{chars}
use Rattle.std.proofs.Math.Seq.{take-length}
use Rattle.std.proofs.lemmas.Iterator.{YieldsList-from_chars}
use Rattle.std.proofs.lemmas.Iterator.Consumers.{YieldsList-end, YieldsList-turn}
use Rattle.std.proofs.lemmas.List.{length-append, take_more_set}
use Rattle.std.proofs.lemmas.List.FromFn.{map-range_with_len_more}
use Rattle.std.proofs.lemmas.List.Sums.{sum_by_more}
use Rattle.hordguli_c.specs.Texts.{offset_at}
use Rattle.hordguli_c.proofs.DecodeLemmas.{bytes_before}
use Rattle.hordguli_c.proofs.text_calls.put_each_offset.Goals as goal

turn : (c : goal.In-Some) → (length c.loop-c.yielded < length (chars c.args.text.now))
    × (c.in-Some.c ≡ get_or (chars c.args.text.now) (length c.loop-c.yielded) c.in-Some.c)
turn c =
    YieldsList-turn (YieldsList-from_chars c.args.text.now c.utf8.text cc) c.loop-c.yielded _ c.loop-c.yielded_by _ _ c.in-Some.c c.in-Some.is c.next.ensures.steps

within : (c : goal.In-Some) → c.loop-c.k < length c.loop-c.array
within c = omega (arith, (turn c).0, c.loop-c.invariant.0, c.loop-c.auto.array, c.requires)

-- the offset of the next character is the current character's offset plus the current character's length
later : (c : goal.After-len_utf8-offset) → c.loop-c.offset + c.len_utf8-offset.result ≡ offset_at (chars c.args.text.now) (c.loop-c.k + 1)
later c =
    let all = chars c.args.text.now in
    let at = YieldsList-turn (YieldsList-from_chars c.args.text.now c.utf8.text cc) c.loop-c.yielded _ c.loop-c.yielded_by _ _ c.in-Some.c c.in-Some.is c.next.ensures.steps in
    let here : c.in-Some.c ≡ get_or all c.loop-c.k c.in-Some.c = at.1 ∙ ap (λ (i : ℕ). get_or all i c.in-Some.c) (sym c.loop-c.invariant.0) in
    omega (
      arith,
      c.loop-c.invariant.1,
      c.len_utf8-offset.ensures.value,
      ap len_utf8 here,
      sum_by_more len_utf8 all c.loop-c.k c.in-Some.c (omega (arith, at.0, c.loop-c.invariant.0)),
    )

pub bounds-array-k : goal.bounds-array-k
bounds-array-k c = within c

pub overflow_add-offset : goal.overflow_add-offset
overflow_add-offset c = omega (arith, later c, bytes_before c.args.text.now (c.loop-c.k + 1) c.utf8.text)

pub loop-c-preserved : goal.loop-c-preserved
loop-c-preserved c =
    let offsets = offset_at (chars c.args.text.now) in
    let at = YieldsList-turn (YieldsList-from_chars c.args.text.now c.utf8.text cc) c.loop-c.yielded _ c.loop-c.yielded_by _ _ c.in-Some.c c.in-Some.is c.next.ensures.steps in
    let within : c.loop-c.k < length c.loop-c.array = omega (arith, at.0, c.loop-c.invariant.0, c.loop-c.auto.array, c.requires) in (
      omega (arith, c.loop-c.invariant.0, length-append c.loop-c.yielded (c.in-Some.c ∷ [])),
      later c,
      take_more_set c.loop-c.array c.loop-c.k c.loop-c.offset within
          ∙ ap (λ (t : List ℕ). t ++ c.loop-c.offset ∷ []) c.loop-c.invariant.2
          ∙ ap (λ (x : ℕ). map offsets (range_with_len 0 c.loop-c.k) ++ x ∷ []) c.loop-c.invariant.1
          ∙ sym (map-range_with_len_more offsets 0 c.loop-c.k c.loop-c.k (omega arith)),
    )

pub returns : goal.returns
returns c =
    let all = chars c.args.text.now in
    let last = YieldsList-end (YieldsList-from_chars c.args.text.now c.utf8.text cc) c.loop-c.yielded _ c.loop-c.yielded_by _ _ c.in-None.is c.next.ensures.steps in
    let n : length c.loop-c.array ≡ c.loop-c.k = omega (arith, c.loop-c.invariant.0, c.loop-c.auto.array, c.requires, last.1) in
    let whole : c.loop-c.k ≡ length all = omega (arith, c.loop-c.invariant.0, last.1) in
    sym (take-length c.loop-c.array) ∙ ap (λ (i : ℕ). take i c.loop-c.array) n ∙ c.loop-c.invariant.2
    ∙ ap (λ (i : ℕ). map (offset_at all) (range_with_len 0 i)) whole

pub offset_bounds-array-k : goal.offset_bounds-array-k
offset_bounds-array-k c = omega (arith, within c)
