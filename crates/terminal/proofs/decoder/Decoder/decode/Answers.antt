use Rattle.std.proofs.Common.{◌≡◌, ◌∙◌, ◌+◌, ◌++◌, ◌≤◌, ◌&&◌, ◌||◌, nat_lt, vec_len, List, ℕ, ap, drop, subst, take, length, arith}
use Rattle.std.proofs.lemmas.List.{length-take-le}
use Rattle.stream.specs.Utf8.{is_bad}
use Rattle.terminal.specs.Decoding.{Decodes, good_part, pictures}
use Rattle.terminal.proofs.DecoderLemmas.{takes}
use Rattle.terminal.proofs.LossyLemmas.{end_bounds, ended_part}
use Rattle.terminal.proofs.NumberLemmas.{written_back}
use Rattle.terminal.proofs.decoder.Decoder.decode.Goals as goal

pub keep_bytes-requires-clause-within : goal.keep_bytes-requires-clause-within
keep_bytes-requires-clause-within c =
    let chunk = c.args.self.now.chunk.items in
    let filled = c.args.self.now.waiting + c.args.len in
    let room : filled ≤ length chunk = omega (arith, c.requires.room) in
    let d : Decodes c.args.strict (take filled chunk) c.in_ok-n.n c.in_ok-n.stops c.args.text.now.items c.decode.new.characters.items =
    subst (λ (bytes : List ℕ). Decodes c.args.strict (take filled bytes) c.in_ok-n.n c.in_ok-n.stops c.args.text.now.items c.decode.new.characters.items) c.deref.ensures.value c.in_ok-n.ensures in
    let bounds = end_bounds c.in_ok-n.stops c.in_ok-n.n filled c.end_of.result c.end_of.ensures (omega (arith, d.within, length-take-le filled chunk room)) in
    (bounds.0, omega (arith, bounds.1, room))

pub keep_bytes-requires-clause-counted : goal.keep_bytes-requires-clause-counted
keep_bytes-requires-clause-counted c =
    let chunk = c.args.self.now.chunk.items in
    let filled = c.args.self.now.waiting + c.args.len in
    let room : filled ≤ length chunk = omega (arith, c.requires.room) in
    let d : Decodes c.args.strict (take filled chunk) c.in_ok-n.n c.in_ok-n.stops c.args.text.now.items c.decode.new.characters.items =
    subst (λ (bytes : List ℕ). Decodes c.args.strict (take filled bytes) c.in_ok-n.n c.in_ok-n.stops c.args.text.now.items c.decode.new.characters.items) c.deref.ensures.value c.in_ok-n.ensures in
    omega (arith, d.within, length-take-le filled chunk room, c.requires.counted)

pub returns-clause-bad : goal.returns-clause-bad
returns-clause-bad c =
    let filled = c.args.self.now.waiting + c.args.len in
    c.in_ok-n.ensures.stops_is ∙ ap (λ (bytes : List ℕ). c.args.strict && is_bad (take filled bytes)) c.deref.ensures.value

pub returns-clause-takes : goal.returns-clause-takes
returns-clause-takes c =
    let filled = c.args.self.now.waiting + c.args.len in
    let chunk = c.args.self.now.chunk.items in
    let strict = c.args.strict in
    let started = c.start-self.new.text in
    let shown = c.show_pictures.new.text in
    let before = c.args.text.now.items in
    let n = c.in_ok-n.n in
    let stops = c.in_ok-n.stops in
    let end = c.end_of.result in
    let items : c.deref_mut.result.now ≡ started.items = c.deref_mut.ensures.value in
    let same : length shown ≡ length started.items = omega (arith, c.show_pictures.auto.text, ap length items) in
    let all : Decodes strict (take filled chunk) n stops before c.decode.new.characters.items =
    subst (λ (bytes : List ℕ). Decodes strict (take filled bytes) n stops before c.decode.new.characters.items) c.deref.ensures.value c.in_ok-n.ensures in
    let room : filled ≤ length chunk = omega (arith, c.requires.room) in
    let size : vec_len c.decode.new.characters ≡ length c.decode.new.characters.items = omega arith in
    let flag : c.keep_bytes.new.self.started ≡ (c.args.self.now.started || nat_lt c.len-from.result (length c.decode.new.characters.items)) =
    c.keep_bytes.ensures.started ∙ c.start-self.ensures.started ∙ ap (λ n. c.args.self.now.started || nat_lt c.len-from.result n) size in
    let written : take started.len (shown ++ drop (length shown) started.items) ≡ take c.len-from.result started.items ++ pictures c.args.escapes (drop c.len-from.result started.items) =
    written_back started.len shown started.items same (omega arith) ∙ c.show_pictures.ensures
    ∙ ap (λ (t : List ℕ). take c.len-from.result t ++ pictures c.args.escapes (drop c.len-from.result t)) items in
    let part : take end chunk ≡ good_part strict (take filled chunk) =
    ended_part strict stops chunk filled n end c.end_of.ensures all.stops_is (λ is. (all.valid is).0) all.within room in
    let bounds = end_bounds stops n filled end c.end_of.ensures (omega (arith, all.within, length-take-le filled chunk room)) in
    takes strict stops c.args.escapes (take filled chunk) c.args.self.now c.keep_bytes.new.self before c.decode.new.characters.items started.items _ c.len-from.result n
    all (omega (arith, c.len-from.ensures)) c.start-self.ensures.text flag written (c.keep_bytes.ensures.bytes ∙ ap (drop n) part)
    (omega (arith, c.keep_bytes.ensures.waiting, c.keep_bytes.ensures.room, bounds.1, room)) c.keep_bytes.ensures.room
    (omega (arith, c.keep_bytes.ensures.decoded, c.keep_bytes.ensures.waiting, bounds.0, bounds.1, room, ap length part, length-take-le end chunk (omega (arith, bounds.1, room))))
