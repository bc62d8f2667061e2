use Rattle.std.proofs.Common.{◌≡◌, ◌%◌, ◌^◌, map, ◌∙◌, ◌<◌, ◌++◌, drop, get_or, length, take, sym, subst, ap, ap₂, arith, true}
use Rattle.std.specs.Prelude.{IsUtf8}
use Rattle.std.specs.Char.{is_ascii}
use Rattle.std.specs.List.{list_all}
use Rattle.std.specs.Str.{chars}
use Rattle.std.proofs.lemmas.List.{length-append, take-append-drop}
use Rattle.std.proofs.lemmas.Str.{lead_after_ascii}
use Rattle.stream.specs.Utf8.{Moved}
use Rattle.stream.proofs.MoveLemmas.{ascii_at, moved_ascii}
use Rattle.stream.proofs.ShortTextLemmas.{few_marks, few_pairs, moved_short, shifted_one}
use Rattle.stream.proofs.utf8.push_lanes.Goals as goal
use Rattle.stream.specs.Short.{begins, pairs, short_char}
use lib.Lanes.{Each1, mask_l}

-- the first bytes are ASCII
all_ascii : (c : goal.Then-is_ascii) → list_all is_ascii (take 16 c.args.text.now) ≡ true
all_ascii c = ap (λ t. list_all is_ascii (take 16 t)) (sym c.as_bytes.ensures.value) ∙ sym c.is_ascii.ensures ∙ c.if-is_ascii.true

pub split_at-requires : goal.split_at-requires
split_at-requires c =
    let text = c.args.text.now in
    let last : get_or text 15 0 < 128 = ascii_at text 16 15 (omega arith) c.requires.long (all_ascii c) in
    (c.requires.long, λ more high. lead_after_ascii text 15 c.utf8.text last more high)

pub returns-then-is_ascii-clause-pushed : goal.returns-then-is_ascii-clause-pushed
returns-then-is_ascii-clause-pushed c =
    let text = c.args.text.now in
    let before = c.args.characters.now.items in
    let rest = drop 16 text in
    let ascii : list_all is_ascii (take 16 text) ≡ true = ap (λ t. list_all is_ascii (take 16 t)) (sym c.as_bytes.ensures.value) ∙ sym c.is_ascii.ensures ∙ c.if-is_ascii.true in
    let whole : text ≡ take 16 text ++ rest = sym (take-append-drop 16 text) in
    let start : Moved before text before (take 16 text ++ rest) = ap (λ t. before ++ chars t) (sym whole) in
    let moved : Moved before text (before ++ take 16 text) rest = moved_ascii (take 16 text) before text before rest ascii start (subst IsUtf8 whole c.utf8.text) in
    let new : c.push_ascii.new.characters.items ≡ before ++ take 16 text =
    c.push_ascii.ensures.items ∙ ap (λ t. before ++ take 16 t) c.as_bytes.ensures.value in
    ap₂ (λ xs ys. xs ++ chars ys) new c.split_at.ensures.back ∙ moved

pub split_at-requires-2 : goal.split_at-requires-2
split_at-requires-2 c = c.short_len-len.ensures.boundary (subst (λ t. Each1 (λ x. x < 224) (take 16 t)) c.as_bytes.ensures.value (c.is_short.ensures c.if-not-is_short.false))

-- the call appends the characters at the front of the text
added : (c : goal.After-push_marked) → c.push_marked.new.characters.items
    ≡ c.args.characters.now.items ++ map short_char (pairs 16 (mask_l (map begins (take 16 c.as_bytes.result.now)) % 2 ^ c.short_len-len.result) (take 16 c.as_bytes.result.now))
added c =
    c.push_marked.ensures.items
    ∙ ap₂ (λ m n. c.args.characters.now.items ++ map short_char (pairs 16 (m % n) (take 16 c.as_bytes.result.now))) c.marks.ensures (shifted_one c.short_len-len.result c.short_len-len.ensures.bounds.1)

pub returns-clause-pushed : goal.returns-clause-pushed
returns-clause-pushed c =
    let text = c.args.text.now in
    let few = c.is_short.ensures c.if-not-is_short.false in
    let is : take 16 c.as_bytes.result.now ≡ take 16 text = ap (take 16) c.as_bytes.ensures.value in
    let boundary = c.short_len-len.ensures.boundary (subst (Each1 (λ x. x < 224)) is few) in
    ap (λ t. c.push_marked.new.characters.items ++ chars t) c.split_at-2.ensures.back
    ∙ moved_short text _ c.short_len-len.result c.utf8.text is c.short_len-len.ensures.bounds.1 c.requires.long few boundary c.args.characters.now.items c.push_marked.new.characters.items (added c)

pub returns-clause-capacity_left : goal.returns-clause-capacity_left
returns-clause-capacity_left c =
    let text = c.args.text.now in
    let few = c.is_short.ensures c.if-not-is_short.false in
    let is : take 16 c.as_bytes.result.now ≡ take 16 text = ap (take 16) c.as_bytes.ensures.value in
    let boundary = c.short_len-len.ensures.boundary (subst (Each1 (λ x. x < 224)) is few) in
    let most = few_pairs text _ c.short_len-len.result c.utf8.text is c.short_len-len.ensures.bounds.1 c.requires.long few boundary in
    omega (arith, most, ap length (added c), length-append c.args.characters.now.items (map short_char (pairs 16 (mask_l (map begins (take 16 c.as_bytes.result.now)) % 2 ^ c.short_len-len.result) (take 16 c.as_bytes.result.now))), c.split_at-2.ensures.back_len, c.push_marked.ensures.capacity, c.requires.capacity_left)

pub push_marked-requires-clause-marks : goal.push_marked-requires-clause-marks
push_marked-requires-clause-marks c = few_marks c.marks.result c.short_len-len.result c.short_len-len.ensures.bounds.1
