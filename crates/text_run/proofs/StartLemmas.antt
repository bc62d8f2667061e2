-- The state at the start of a run, and steps by the rules that the engine had at the start.
use Rattle.std.proofs.Common.{◌≡◌, ℕ, Bool, List, [], length, take, Option, Some, None, Result, Err, vec_len, refl, sym, subst, ap, ◌∙◌, arith}
use Rattle.std.specs.Str.{chars}
use Rattle.std.specs.Io.KnownBytes.{Consumes}
use Rattle.std.proofs.lemmas.Str.{chars-nil}
use Rattle.bidi.specs.Cuts.{paragraphs}
use Rattle.device.specs.Device.{Device}
use Rattle.lines.specs.Engine.{Prints}
use Rattle.lines.specs.Layouts.{Rules, cut_by}
use Rattle.lines.specs.declared.engine.Engine.{Engine}
use Rattle.lines.specs.declared.printing.print.Print.{Print}
use Rattle.text_run.specs.declared.faults.RunFault.{RunFault}
use Rattle.text_run.specs.declared.faults.RunFault.TheVariants as f
use Rattle.text_run.specs.declared.text.Held.{Held}
use Rattle.stream.specs.declared.reading.TheConstants.{CHUNK}
use Rattle.stream.specs.Utf8.{front_of}
use Rattle.text_run.specs.TextRun.{are_within, HasRead}
use Rattle.text_run.specs.Streaming.{Ends, IsAt, IsFront, Stands, Steps}
use Rattle.text_run.proofs.CountLemmas.{at_most_more, at_most_none}
use Rattle.text_run.proofs.Devices.{Took-nothing}
use Rattle.text_run.proofs.Fronts.{front_none}
use Rattle.text_run.proofs.StepLemmas.{stands_by}
use Rattle.text_run.proofs.StreamLemmas.{Stops, at_memory}
use Rattle.stream.proofs.Utf8Lemmas.{nothing_valid, utf8_error_len-nil}

-- the state of a run before anything is read
module _ (rules : Rules) (width : ℕ) (print : Print) (reader writer : Device) (engine : Engine) where
  start_at : IsAt rules width print reader reader writer writer [] [] []
  start_at = record {
    decoded = [];
    sent = [];
    gathered = [];
    read = kept reader.bytes;
    passed = omega arith;
    failures = refl;
    utf8 = ([], (refl, refl));
    front = subst (λ (t : List ℕ). IsFront (cut_by rules) [] t []) (sym chars-nil) (front_none (cut_by rules) []);
    wrote = (Took-nothing writer, refl);
    lines_are = refl;
    ahead = omega arith;
  }
    where
      kept : (known : Option (List ℕ)) → Consumes known known []
      kept None = tt
      kept (Some xs) = refl

  pub ends_at_once : Prints 0 print engine engine → Ends rules width print reader writer engine reader writer engine (Err f.Memory)
  unfolding start_at
  ends_at_once fits =
      let stops : Stops rules width print reader writer reader writer f.Memory 0 = at_memory rules width print reader reader writer writer [] [] [] start_at 0 in
      let read : HasRead reader reader [] = (start_at.read, start_at.passed) in
      let none : front_of [] ≡ [] = ap (λ n. chars (take n [])) (nothing_valid [] refl) ∙ chars-nil in
      record {
        run = stops.run engine engine tt;
        ahead = stops.ahead;
        at_most = ([], read, at_most_more print engine engine engine 0 0 (length (front_of [])) (at_most_none print engine) (at_most_none print engine) (omega arith));
        wants = λ is. (
          [],
          read,
          (
            ap (λ t. are_within (paragraphs (cut_by rules) t)) none,
            (0, start_at.wrote, λ none. fits, λ some. absurd (omega arith)),
          ),
        );
        stopped = λ n is. absurd (cc is);
      }

  pub stands_at_start : Prints 0 print engine engine → (held : Held) → held.waiting ≡ 0 → held.decoded ≡ 0
      → held.written ≡ 0 → held.text.items ≡ [] → held.page.bytes.items ≡ [] → vec_len held.chunk ≡ CHUNK
      → Stands rules width print reader writer engine reader writer engine held
  unfolding start_at
  stands_at_start fits held waiting decoded written text lines room =
      let none : take held.waiting held.chunk.items ≡ [] = ap (λ n. take n held.chunk.items) waiting in
      stands_by rules width print reader writer engine reader writer engine held [] [] (
        start_at,
        refl,
        decoded,
        written,
        record { uncut = λ some. absurd (omega arith); short = omega arith },
        record
            { none = nothing_valid [] refl; fault = utf8_error_len-nil; few = omega arith },
        fits,
      )
      fits none text lines room (omega (arith, ap length none, waiting))

-- if the engine's rules are unchanged since the start of the run, a step by the current rules is a step by
-- those at the start
module _ (rules now : Rules) (width : ℕ) (print : Print) (reader_old writer_old : Device) (engine_old : Engine)
    (reader writer : Device) (engine : Engine) (reader_new writer_new : Device) (engine_new : Engine)
    (held held_new : Held) (kept : now ≡ rules)
    (stands : Stands rules width print reader_old writer_old engine_old reader writer engine held) (result : Result Bool RunFault)
    (steps : Stands now width print reader_old writer_old engine_old reader writer engine held
    → Steps now width print reader_old writer_old engine_old reader_new writer_new engine_new held_new result) where
  stepped : Steps rules width print reader_old writer_old engine_old reader_new writer_new engine_new held_new result
  stepped =
      subst (λ (r : Rules). Steps r width print reader_old writer_old engine_old reader_new writer_new engine_new held_new result) kept
      (steps (subst (λ (r : Rules). Stands r width print reader_old writer_old engine_old reader writer engine held) (sym kept) stands))

  pub stepped_as : (is : Result Bool RunFault) → result ≡ is → Steps rules width print reader_old writer_old engine_old reader_new writer_new engine_new held_new is
  stepped_as is same = subst (Steps rules width print reader_old writer_old engine_old reader_new writer_new engine_new held_new) same stepped
