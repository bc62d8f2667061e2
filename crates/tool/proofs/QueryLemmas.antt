-- Replies to queries, which are written in parts.
use Rattle.std.proofs.Common.{◌≡◌, ℕ, ◌+◌, ◌≤◌, Bool, true, false, List, [], ◌∷◌, ◌++◌, length, codes, nat_lt, Some, None, unwrap_or, Result, Ok, Err, IfErr, IsErrAnd, if◌then◌else◌, sym, subst, ap}
use Rattle.std.specs.List.{flat_map, slice_range}
use Rattle.std.proofs.lemmas.Bool.{cond-false, le-ltb}
use Rattle.device.specs.Device.{Device}
use Rattle.lines.specs.Bytes.{line_bytes}
use Rattle.lines.specs.Layouts.{Layout}
use Rattle.lines.specs.Writing.{PassedOn}
use Rattle.lines.specs.declared.printing.print.Print.{Print}
use Rattle.lines.proofs.WriteLemmas.{stopped-after, stopped-before}
use Rattle.session.specs.Kept.{lines_in, text_of}
use Rattle.session.specs.Printing.{WritesNot}
use Rattle.session.specs.Reading.{utf8_len, utf8_part}
use Rattle.session.specs.declared.printing.RangeFault.{RangeFault}
use Rattle.session.specs.declared.printing.RangeFault.TheVariants.{Write}
use Rattle.lines.specs.declared.printing.bytes.WriteFault.{WriteFault}
use Rattle.text_run.specs.declared.faults.RunFault.{RunFault}
use Rattle.text_run.specs.declared.faults.RunFault.TheVariants as f
use Rattle.tool.specs.Queries.{lines_text, out_of_range, part_text, numbers_answer}
use Rattle.tool.specs.Reading.{Stops}

-- if a write failed within the first part of a reply, it failed within the reply
pub stops-before : (old new : Device) (xs ys : List ℕ) (done : ℕ) (fault : RunFault) → Stops xs done old new fault → Stops (xs ++ ys) done old new fault
stops-before old new xs ys done (f.Write n) stopped = stopped-before ys stopped
stops-before old new xs ys done f.Read stopped = absurd stopped
stops-before old new xs ys done (f.NotUtf8 n) stopped = absurd stopped
stops-before old new xs ys done f.ParagraphTooLong stopped = absurd stopped
stops-before old new xs ys done (f.BadLine n) stopped = absurd stopped
stops-before old new xs ys done f.Memory stopped = absurd stopped
stops-before old new xs ys done f.TextTooLong stopped = absurd stopped

-- if one part was written and a write failed within the next part, it failed within the two parts together
pub stops-after : (old mid new : Device) (xs ys : List ℕ) (done n : ℕ) (fault : RunFault) → PassedOn xs done old mid n → Stops ys n mid new fault → Stops (xs ++ ys) done old new fault
stops-after old mid new xs ys done n (f.Write m) first stopped = stopped-after first stopped
stops-after old mid new xs ys done n f.Read first stopped = absurd stopped
stops-after old mid new xs ys done n (f.NotUtf8 m) first stopped = absurd stopped
stops-after old mid new xs ys done n f.ParagraphTooLong first stopped = absurd stopped
stops-after old mid new xs ys done n (f.BadLine m) first stopped = absurd stopped
stops-after old mid new xs ys done n f.Memory first stopped = absurd stopped
stops-after old mid new xs ys done n f.TextTooLong first stopped = absurd stopped

pub each_stops-after : (old mid new : Device) (xs ys : List ℕ) (done n : ℕ) (r : Result ℕ RunFault)
    → PassedOn xs done old mid n → IfErr r (Stops ys n mid new) → IfErr r (Stops (xs ++ ys) done old new)
each_stops-after old mid new xs ys done n (Ok m) first stops = tt
each_stops-after old mid new xs ys done n (Err fault) first stops = stops-after old mid new xs ys done n fault first stops

-- if a function returns `fault` unchanged, what holds for `fault` holds for the returned fault
pub same_stop : {T : Type 0} (r : Result T RunFault) (fault : RunFault) (Q : RunFault → Type 0) → IsErrAnd r (λ y. y ≡ fault) → Q fault → IfErr r Q
same_stop (Ok x) fault Q is holds = tt
same_stop (Err y) fault Q is holds = rw is holds

pub lines_within : (print : Print) (width : ℕ) (kept : List Layout) (first count : ℕ) → first + count ≤ length (lines_in kept)
    → lines_text print width kept first count ≡ numbers_answer (count ∷ []) ++ flat_map (line_bytes width print) (slice_range (lines_in kept) first (first + count))
lines_within print width kept first count within = cond-false (nat_lt (length (lines_in kept)) (first + count)) _ _ (le-ltb (length (lines_in kept)) (first + count) within)

pub part_within : (kept : List Layout) (pos count len : ℕ) → Some len ≡ utf8_len kept pos count → part_text kept pos count ≡ numbers_answer (len ∷ []) ++ utf8_part kept pos count ++ codes "\n"
part_within kept pos count len is = go (nat_lt (length (text_of kept)) (pos + count)) is
  where
    go : (b : Bool) → Some len ≡ (if b then None else Some (length (utf8_part kept pos count)))
        → (if b then out_of_range else numbers_answer (length (utf8_part kept pos count) ∷ []) ++ utf8_part kept pos count ++ codes "\n") ≡ numbers_answer (len ∷ []) ++ utf8_part kept pos count ++ codes "\n"
    go true none = cc
    go false some = ap (λ o. numbers_answer (unwrap_or o 0 ∷ []) ++ utf8_part kept pos count ++ codes "\n") (sym some)

-- if printing fails with `Write`, `stopped` holds for the number of bytes written
pub of_sink : (size first count : ℕ) (untouched : Type 0) (stopped : ℕ → Type 0) (fault : RangeFault) (sink : WriteFault) → fault ≡ Write sink
    → WritesNot size first count untouched stopped fault → stopped sink.written
of_sink size first count untouched stopped fault sink is h = (subst (WritesNot size first count untouched stopped) is h).1
