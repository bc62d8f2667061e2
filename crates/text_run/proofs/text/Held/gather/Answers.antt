use Rattle.std.proofs.Common.{Bool, Some, None, if◌then◌else◌, inl, inr, refl, ap₂, ◌≡◌, ◌∙◌, ◌+◌, ◌++◌, ℕ, List, length, take, drop, sym, subst, ap, arith}
use Rattle.std.proofs.lemmas.List.{length-take-le}
use Rattle.std.proofs.lemmas.Str.{utf8_valid_len_le}
use Rattle.std.specs.Str.Lossy.{utf8_valid_len}
use Rattle.lines.specs.Engine.{rules_of}
use Rattle.lines.specs.Layouts.{cut_by}
use Rattle.stream.specs.declared.page.Page.{Page}
use Rattle.text_run.specs.declared.faults.RunFault.TheVariants as f
use Rattle.text_run.specs.Streaming.{FindsFault, Gathers, IsFaultAhead, Pushed}
use Rattle.stream.specs.Utf8.{front_of, is_bad}
use Rattle.text_run.proofs.LongLemmas.{front_few}
use Rattle.std.specs.Str.{chars}
use Rattle.text_run.proofs.text.Held.gather.Goals as goal

-- the valid UTF-8 prefix of some bytes is `utf8_valid_len` bytes long
front_len : (bytes front : List ℕ) → front ≡ take (utf8_valid_len bytes) bytes → length front ≡ utf8_valid_len bytes
front_len bytes front is = ap length is ∙ length-take-le (utf8_valid_len bytes) bytes (utf8_valid_len_le bytes)

pub fault_ahead-requires-clause-few : goal.fault_ahead-requires-clause-few
fault_ahead-requires-clause-few c =
    let bytes = take (c.args.self.now.waiting + c.args.len) c.deref.result.now in
    omega (
      arith,
      front_few bytes,
      ap (λ t. length (chars t)) c.front-is_bad.ensures.text,
      length-take-le
          (c.args.self.now.waiting + c.args.len) c.deref.result.now (omega (arith, c.requires.len, c.deref.ensures.len)),
      c.requires.room,
      c.requires.len,
    )

pub returns-in-Some-clause-gathers : goal.returns-in-Some-clause-gathers
returns-in-Some-clause-gathers c =
    let old = c.args.self.now in
    let filled = old.waiting + c.args.len in
    let chunk = c.deref.result.now in
    let bytes = take filled chunk in
    let front = c.front-is_bad.result.0.now in
    let found : FindsFault (rules_of c.args.engine.now) bytes old old c.args.engine.now c.args.engine.now (Some c.in-Some.fault) = record {
      wrong = c.in-Some.fault;
      ahead =
          subst (λ (t : List ℕ). IsFaultAhead (cut_by (rules_of c.args.engine.now)) t (is_bad bytes) (old.decoded + utf8_valid_len bytes) c.in-Some.fault)
          (ap₂ (λ (x y : List ℕ). x ++ chars y) c.deref-2.ensures.value c.front-is_bad.ensures.text)
          (subst (λ (b : Bool). IsFaultAhead (cut_by (rules_of c.args.engine.now)) (c.deref-2.result.now
          ++ chars front) b (old.decoded + utf8_valid_len bytes) c.in-Some.fault) c.front-is_bad.ensures.bad
          (subst (λ (n : ℕ). IsFaultAhead (cut_by (rules_of c.args.engine.now)) (c.deref-2.result.now ++ chars front) c.front-is_bad.result.1 (old.decoded + n) c.in-Some.fault)
          (front_len bytes front c.front-is_bad.ensures.text) c.in-Some.ensures.some));
      fault_is = refl;
      same = refl;
      engine = refl;
    } in
    inl (subst (λ (p : List ℕ). FindsFault (rules_of c.args.engine.now) (take filled p) old old c.args.engine.now c.args.engine.now (Some c.in-Some.fault)) c.deref.ensures.value found)

pub keep_bytes-requires-clause-within : goal.keep_bytes-requires-clause-within
keep_bytes-requires-clause-within c =
    let bytes = take (c.args.self.now.waiting + c.args.len) c.deref.result.now in (
      omega (
        arith,
        front_len bytes c.front-is_bad.result.0.now c.front-is_bad.ensures.text,
        utf8_valid_len_le bytes,
        length-take-le (c.args.self.now.waiting + c.args.len) c.deref.result.now
            (omega (arith, c.requires.len, c.deref.ensures.len)),
      ),
      omega (arith, c.requires.len),
    )

pub keep_bytes-requires-clause-counted : goal.keep_bytes-requires-clause-counted
keep_bytes-requires-clause-counted c =
    let bytes = take (c.args.self.now.waiting + c.args.len) c.deref.result.now in
    omega (
      arith,
      c.requires.counted,
      front_len bytes
          c.front-is_bad.result.0.now c.front-is_bad.ensures.text,
      utf8_valid_len_le bytes,
      length-take-le
          (c.args.self.now.waiting + c.args.len) c.deref.result.now (omega (arith, c.requires.len, c.deref.ensures.len)),
    )

pub returns-clause-gathers : goal.returns-clause-gathers
returns-clause-gathers c =
    let rules = rules_of c.args.engine.now in
    let old = c.args.self.now in
    let new = c.keep_bytes.new.self in
    let engine = c.push_text.new.engine in
    let filled = old.waiting + c.args.len in
    let chunk = c.deref.result.now in
    let bytes = take filled chunk in
    let bytes_len : length bytes ≡ filled = length-take-le filled chunk (omega (arith, c.requires.len, c.deref.ensures.len)) in
    let rest = c.push_text.new.held.items in
    let after = c.push_text.new.page.bytes.items in
    let left : new.text.items ≡ rest = ap (λ (v : _). v.items) c.keep_bytes.ensures.text in
    let lines : new.page.bytes.items ≡ after = ap (λ (p : Page). p.bytes.items) c.keep_bytes.ensures.page in
    let pushed : Pushed rules c.args.width c.args.print.now (old.text.items ++ front_of bytes) new.text.items old.page.bytes.items new.page.bytes.items c.args.engine.now engine =
    subst (λ (t : List ℕ). Pushed rules c.args.width c.args.print.now t new.text.items old.page.bytes.items new.page.bytes.items c.args.engine.now engine)
    (ap (λ t. old.text.items ++ chars t) c.front-is_bad.ensures.text)
    (subst (λ (r : List ℕ). Pushed rules c.args.width c.args.print.now (old.text.items ++ chars c.front-is_bad.result.0.now) r old.page.bytes.items new.page.bytes.items c.args.engine.now engine) (sym left)
    (subst (λ (r : List ℕ). Pushed rules c.args.width c.args.print.now (old.text.items ++ chars c.front-is_bad.result.0.now) rest old.page.bytes.items r c.args.engine.now engine) (sym lines)
    c.in_ok-push_text.ensures.pushed)) in
    let front : length c.front-is_bad.result.0.now ≡ utf8_valid_len bytes = front_len bytes c.front-is_bad.result.0.now c.front-is_bad.ensures.text in
    let decoded : new.decoded ≡ old.decoded + utf8_valid_len bytes = omega (arith, c.keep_bytes.ensures.decoded, front) in
    inr (subst (λ (p : List ℕ). Gathers rules c.args.width c.args.print.now (take filled p) old new c.args.engine.now engine c.bad_at.result) c.deref.ensures.value (record {
      pushed = pushed;
      fault_is = c.bad_at.ensures ∙ ap₂ (λ (b : Bool) n. if b then Some (f.NotUtf8 n) else None) c.front-is_bad.ensures.bad (omega (arith, decoded, front));
      decoded = decoded;
      waiting = c.keep_bytes.ensures.bytes
          ∙ ap (λ (p : List ℕ). drop (length c.front-is_bad.result.0.now) (take filled p)) (sym c.deref.ensures.value) ∙ ap (λ n. drop n bytes) front;
      few = omega (arith, c.keep_bytes.ensures.waiting, front, bytes_len, utf8_valid_len_le bytes);
      beginning = λ good. omega (arith, c.front-is_bad.ensures.few (c.front-is_bad.ensures.bad ∙ good), front);
      written = c.keep_bytes.ensures.written;
      room = c.keep_bytes.ensures.room;
    }))
