-- The search for the direction of an input whose bytes come in chunks.
use Rattle.std.proofs.Common.{◌≡◌, ℕ, ◌+◌, ◌-◌, ◌^◌, ◌≤◌, vec_len, Bool, true, false, List, [], ◌++◌, length, take, drop, Option, Some, None, drop_at, refl, sym, subst, ap, ap₂, inl, inr, ◌∙◌, append_assoc, arith}
use Rattle.std.specs.Io.KnownBytes.{Consumes}
use Rattle.std.proofs.lemmas.List.{append-nil, length-append, length-drop, length-take-le}
use Rattle.bidi.specs.declared.base.Base.{Base}
use Rattle.device.specs.Device.{Device, Fails}
use Rattle.lines.specs.Layouts.{Rules, cut_by}
use Rattle.stream.proofs.Utf8Lemmas.{nothing_bad, nothing_valid}
use Rattle.stream.specs.declared.reading.TheConstants.{CHUNK}
use Rattle.terminal.specs.Decoding.{IsBeginning, IsRead, text_after}
use Rattle.terminal.specs.Directions.{direction_of}
use Rattle.terminal.specs.Run.{HasRead}
use Rattle.terminal.specs.RunState.{last_characters}
use Rattle.terminal.specs.Searches.{Advances, Finds, HasSearched, HasSearchedAll, Searches, text_direction}
use Rattle.terminal.specs.Starts.{IsStart, IsUnknown, StopsEarly}
use Rattle.terminal.specs.Texts.{blocks, input_text}
use Rattle.terminal.specs.declared.decoder.Decoder.{Decoder}
use Rattle.terminal.specs.declared.form.Escapes.{Escapes}
use Rattle.terminal.specs.declared.start.Search.{Search}
use Rattle.terminal.proofs.Devices.{Consumes-append, Consumes-kept, FailedLast-after}
use Rattle.terminal.proofs.RunLemmas.{Consumes-refl, end_few, end_text, input_is}

-- `Searches` holds before anything is read
pub searches_new : (rules : Rules) (escapes : Escapes) (reader : Device) (search : Search) → vec_len search.decoder.chunk ≡ CHUNK → search.decoder.waiting ≡ 0 → search.decoder.decoded ≡ 0
    → search.decoder.started ≡ false → search.bytes.items ≡ [] → search.text.items ≡ [] → HasSearched rules search.searched search.text.items → Searches rules escapes reader reader search
searches_new rules escapes reader search room w d b bytes text h =
    let waiting = take search.decoder.waiting search.decoder.chunk.items in
    let nothing : waiting ≡ [] = ap (λ k. take k search.decoder.chunk.items) w in
    let none : length search.text.items ≡ 0 = ap length text in
    record {
      read = (subst (Consumes reader.bytes reader.bytes) (sym bytes) (Consumes-refl reader.bytes), omega (arith, ap length bytes));
      failures = refl;
      decoded = λ more.
          ap (λ t. input_text escapes (t ++ more)) bytes ∙ input_is escapes more
          ∙ ap₂ (λ (s : Bool) t. text_after escapes s (t ++ more)) (sym b) (sym nothing)
          ∙ ap (λ t. t ++ text_after escapes search.decoder.started (waiting ++ more)) (sym text);
      beginning = subst IsBeginning (sym nothing) (record { none = nothing_valid [] refl; fault = nothing_bad [] refl; few = omega arith });
      waits = ap length nothing ∙ sym w;
      room = room;
      counts = omega (arith, d, w, ap length bytes);
      few = omega (arith, none);
      searched = record {
        searched = h;
        is_open = record {
          within = omega (arith, h.within, length-drop search.searched.start search.text.items);
          none = h.none;
          rest = inl (omega (arith, h.within, none, length-drop search.searched.start search.text.items));
        };
      };
    }

module _ (rules : Rules) (escapes : Escapes) (reader_old reader : Device) (search : Search) (s : Searches rules escapes reader_old reader search) where
  abbrev waiting : List ℕ
  waiting = take search.decoder.waiting search.decoder.chunk.items

  -- at the end of an input, the waiting bytes are decoded as the last characters
  end_is : text_after escapes search.decoder.started (waiting ++ []) ≡ last_characters search.decoder.waiting
  end_is = ap (text_after escapes search.decoder.started) (append-nil waiting) ∙ end_text escapes search.decoder.started waiting search.decoder.waiting s.waits s.beginning

  unknown : IsUnknown rules escapes search.bytes.items
  unknown = record {
    ended = s.searched.searched.parts;
    rest = drop search.searched.start search.text.items;
    text = record {
      after = λ more. text_after escapes search.decoder.started (waiting ++ more);
      begins = λ more. s.decoded more ∙ ap (λ t. t ++ text_after escapes search.decoder.started (waiting ++ more)) s.searched.searched.front.whole;
      few = omega (arith, end_few search.decoder.waiting, ap length end_is);
    };
    blocks = λ more. ap (λ t. blocks (cut_by rules) (t ++ more)) (sym s.searched.searched.front.whole) ∙ s.searched.searched.front.cuts more;
    upto = search.searched.scanned;
    is_open = s.searched.is_open;
    weak = s.searched.searched.weak;
    few = omega (arith, s.few, ap length s.searched.searched.front.whole);
  }

  -- if nothing follows, the direction is that of the collected text
  whole : text_direction rules (search.text.items ++ last_characters search.decoder.waiting) ≡ direction_of rules escapes search.bytes.items
  whole =
      ap (text_direction rules) (ap (λ t. search.text.items ++ t) (sym end_is) ∙ sym (s.decoded []) ∙ ap (input_text escapes) (append-nil search.bytes.items))

  here : StopsEarly rules escapes search.bytes.items
  here = record { early = search.bytes.items; late = []; parts = sym (append-nil search.bytes.items); chunk = omega arith; unknown = unknown }

  -- if the source fails, the base direction is that of the text read so far
  pub search_failed : (reader_new : Device) (bytes : List ℕ) (waiting_new : ℕ) (base : Base) → Fails reader reader_new → waiting_new ≡ search.decoder.waiting → bytes ≡ search.bytes.items
      → base ≡ text_direction rules (search.text.items ++ last_characters waiting_new) → IsStart rules escapes bytes base false reader_old reader_new
  search_failed reader_new bytes waiting_new base f w same b =
      subst (λ (t : List ℕ). IsStart rules escapes t base false reader_old reader_new) (sym same)
      (record {
        read = (Consumes-kept reader_old.bytes reader.bytes reader_new.bytes search.bytes.items s.read.0 f.bytes, omega (arith, f.passed, s.read.1));
        direction = b ∙ ap (λ n. text_direction rules (search.text.items ++ last_characters n)) w ∙ whole;
        early = here;
        whole = λ is. absurd cc;
        begins = λ is. inl (FailedLast-after reader_old reader reader_new s.failures (record { failures = f.failures; last = f.failed_at ∙ sym f.passed }));
      })

  module _ (reader_new : Device) (n : ℕ) (decoder : Decoder) (r : IsRead n search.decoder decoder reader reader_new) where
    abbrev chunk : List ℕ
    chunk = take n r.read.buffer

    chunk_len : length chunk ≡ n
    chunk_len = length-take-le n r.read.buffer r.read.within

    waiting_same : decoder.waiting ≡ search.decoder.waiting
    waiting_same = ap (λ (d : Decoder). d.waiting) r.same

    bytes_are : take (decoder.waiting + n) decoder.chunk.items ≡ waiting ++ chunk
    bytes_are = ap (λ w. take (w + n) decoder.chunk.items) waiting_same ∙ r.read.chunk

    read_more : (bytes : List ℕ) → bytes ≡ search.bytes.items ++ chunk → HasRead reader_old reader_new bytes
    read_more bytes b =
        subst (λ (t : List ℕ). HasRead reader_old reader_new t) (sym b) (
          Consumes-append reader_old.bytes reader.bytes reader_new.bytes search.bytes.items chunk s.read.0 r.read.gives.bytes,
          omega (arith, s.read.1, r.read.gives.passes.passed, chunk_len, length-append search.bytes.items chunk),
        )

    failures_same : reader_new.failures ≡ reader_old.failures
    failures_same = r.read.gives.passes.failures ∙ s.failures

    -- the number of bytes read so far fits in 64 bits
    pub search_counted : decoder.decoded + (decoder.waiting + n) ≤ 2 ^ 64 - 1
    search_counted = omega (arith, ap (λ (d : Decoder). d.decoded) r.same, waiting_same, s.counts, s.read.1, r.read.gives.passes.passed, r.read.gives.passes.bounded)

    -- if the source has ended, the search ends with the direction of the whole input
    pub search_ended : (bytes : List ℕ) (base : Base) → n ≡ 0 → bytes ≡ search.bytes.items → base ≡ text_direction rules (search.text.items ++ last_characters decoder.waiting)
        → IsStart rules escapes bytes base true reader_old reader_new
    search_ended bytes base none same b =
        let nothing : search.bytes.items ++ chunk ≡ search.bytes.items = ap (λ k. search.bytes.items ++ take k r.read.buffer) none ∙ append-nil search.bytes.items in
        record {
          read = read_more bytes (same ∙ sym nothing);
          direction = b ∙ ap (λ k. text_direction rules (search.text.items ++ last_characters k)) waiting_same ∙ whole ∙ ap (direction_of rules escapes) (sym same);
          early = subst (StopsEarly rules escapes) (sym same) here;
          whole = λ is. (r.read.gives.end none, failures_same);
          begins = λ is. absurd cc;
        }

    -- the bytes were decoded and searched
    module _ (new : Search) (found : Option Base) (added : new.bytes.items ≡ search.bytes.items ++ drop decoder.waiting (take (decoder.waiting + n) decoder.chunk.items))
        (a : Advances rules escapes (take (decoder.waiting + n) decoder.chunk.items) (record search { decoder = decoder }) new found) where
      bytes_new : new.bytes.items ≡ search.bytes.items ++ chunk
      bytes_new = added ∙ ap (λ t. search.bytes.items ++ t) (ap₂ drop waiting_same bytes_are ∙ drop_at waiting chunk search.decoder.waiting s.waits)

      decoded_new : (more : List ℕ) → input_text escapes (new.bytes.items ++ more)
          ≡ a.text ++ text_after escapes new.decoder.started (take new.decoder.waiting new.decoder.chunk.items ++ more)
      decoded_new more =
          let after = text_after escapes new.decoder.started (take new.decoder.waiting new.decoder.chunk.items ++ more) in
          ap (λ t. input_text escapes (t ++ more)) bytes_new ∙ ap (input_text escapes) (append_assoc search.bytes.items chunk more) ∙ s.decoded (chunk ++ more)
          ∙ ap (λ t. search.text.items ++ text_after escapes search.decoder.started t) (sym (append_assoc waiting chunk more) ∙ ap (λ t. t ++ more) (sym bytes_are))
          ∙ ap (λ (b : Bool). search.text.items ++ text_after escapes b (take (decoder.waiting + n) decoder.chunk.items ++ more)) (sym (ap (λ (d : Decoder). d.started) r.same))
          ∙ ap (λ t. search.text.items ++ t) (a.takes.text more) ∙ sym (append_assoc search.text.items a.takes.characters after) ∙ ap (λ t. t ++ after) (sym a.takes.added)

      -- if the direction is known, the search ends with this direction
      pub search_found : (base : Base) → found ≡ Some base → IsStart rules escapes new.bytes.items base false reader_old reader_new
      search_found base is =
          let finds : Finds rules a.text new (Some base) = subst (Finds rules a.text new) is a.finds in
          let known : (more : List ℕ) → base ≡ direction_of rules escapes (new.bytes.items ++ more) =
          λ more. finds (text_after escapes new.decoder.started (take new.decoder.waiting new.decoder.chunk.items ++ more)) ∙ ap (text_direction rules) (sym (decoded_new more)) in
          record {
            read = read_more new.bytes.items bytes_new;
            direction = known [] ∙ ap (direction_of rules escapes) (append-nil new.bytes.items);
            early = record {
              early = search.bytes.items;
              late = chunk;
              parts = bytes_new;
              chunk = omega (arith, chunk_len, r.small, s.room);
              unknown = unknown;
            };
            whole = λ is. absurd cc;
            begins = λ is. inr (failures_same, known);
          }

      -- if the direction is not known yet, the search continues
      pub search_on : found ≡ None → Searches rules escapes reader_old reader_new new
      search_on is =
          let finds : Finds rules a.text new None = subst (Finds rules a.text new) is a.finds in
          record {
            read = read_more new.bytes.items bytes_new;
            failures = failures_same;
            decoded = λ more.
                decoded_new more
                ∙ ap (λ t. t ++ text_after escapes new.decoder.started (take new.decoder.waiting new.decoder.chunk.items ++ more)) (sym finds.0);
            beginning = a.takes.beginning;
            waits = a.takes.waits;
            room = a.takes.room ∙ r.room ∙ s.room;
            counts = omega (
              arith,
              a.takes.counts,
              ap length bytes_are,
              length-append waiting chunk,
              s.waits,
              chunk_len,
              ap (λ (d : Decoder). d.decoded) r.same,
              s.counts,
              ap length bytes_new,
              length-append search.bytes.items chunk,
            );
            few = omega (arith, finds.1, ap length finds.0);
            searched = subst (HasSearchedAll rules new.searched) (sym finds.0) finds.2;
          }
