-- The state of the search for the direction of a text. No contract of an exported function uses these definitions.
use Rattle.std.specs.Prelude.{◌≡◌, ℕ, ◌+◌, ◌<◌, ◌≤◌, Bool, true, false, List, ◌++◌, length, take, drop, vec_len, Option, Some, None}
use Rattle.device.specs.Device.{Device}
use Rattle.bidi.specs.declared.base.Base.{Base}
use Rattle.lines.specs.Layouts.{Rules, cut_by}
use Rattle.stream.specs.declared.reading.TheConstants.{CHUNK}
use Rattle.terminal.specs.Decoding.{IsBeginning, Takes, text_after}
use Rattle.terminal.specs.Directions.{are_weak, base_by, shown_level}
use Rattle.terminal.specs.Ends.{AreNoEnds, IsOpen}
use Rattle.terminal.specs.Passed.{HasPassed}
use Rattle.terminal.specs.Run.{HasRead}
use Rattle.terminal.specs.RunState.{IsFront}
use Rattle.terminal.specs.Starts.{IsStart}
use Rattle.terminal.specs.Texts.{input_text}
use Rattle.terminal.specs.declared.direction.Searched.{Searched}
use Rattle.terminal.specs.declared.direction.TheConstants.{FIRST_CHARACTERS}
use Rattle.terminal.specs.declared.form.Escapes.{Escapes}
use Rattle.terminal.specs.declared.start.Search.{Search}

-- the direction of a text with its sequences
abbrev pub text_direction : Rules → List ℕ → Base
text_direction rules text = base_by (shown_level rules (take FIRST_CHARACTERS text))

-- The blocks before `start` show no strong character, and no block ends in the first `scanned` characters of the rest.
pub record HasSearched (rules : Rules) (searched : Searched) (text : List ℕ) : Type 0 where
  pub parts : List (List ℕ)
  pub front : IsFront (cut_by rules) parts text (drop searched.start text)
  pub weak : are_weak rules parts ≡ true
  pub level : (more : List ℕ) → shown_level rules (text ++ more) ≡ shown_level rules (drop searched.start text ++ more)
  pub within : searched.start + searched.scanned ≤ length text
  pub none : AreNoEnds (cut_by rules) searched.scanned (drop searched.start text)
  pub passed : HasPassed searched.passed (drop (searched.scanned + 1) (drop searched.start text))

-- `HasSearched` holds, and no end of a block is known in the rest.
pub record HasSearchedAll (rules : Rules) (place : Searched) (text : List ℕ) : Type 0 where
  pub searched : HasSearched rules place text
  pub is_open : IsOpen (cut_by rules) place.scanned (drop place.start text)

-- the result for a text: its direction if that does not depend on what follows, and otherwise the state of
-- the search
abbrev pub Finds : Rules → List ℕ → Search → Option Base → Type 0
Finds rules text new (Some base) = (more : List ℕ) → base ≡ text_direction rules (text ++ more)
Finds rules text new None = (new.text.items ≡ text) × (length text < FIRST_CHARACTERS) × HasSearchedAll rules new.searched text

-- Bytes were decoded, and the text was searched.
pub record Advances (rules : Rules) (escapes : Escapes) (bytes : List ℕ) (old new : Search) (found : Option Base) : Type 0 where
  pub text : List ℕ
  pub takes : Takes false escapes bytes old.decoder new.decoder old.text.items text
  pub finds : Finds rules text new found

-- the state of a search between two reads
pub record Searches (rules : Rules) (escapes : Escapes) (reader_old reader : Device) (search : Search) : Type 0 where
  pub read : HasRead reader_old reader search.bytes.items
  pub failures : reader.failures ≡ reader_old.failures
  pub decoded : (more : List ℕ) → input_text escapes (search.bytes.items ++ more)
      ≡ search.text.items ++ text_after escapes search.decoder.started (take search.decoder.waiting search.decoder.chunk.items ++ more)
  pub beginning : IsBeginning (take search.decoder.waiting search.decoder.chunk.items)
  pub waits : length (take search.decoder.waiting search.decoder.chunk.items) ≡ search.decoder.waiting
  pub room : vec_len search.decoder.chunk ≡ CHUNK
  pub counts : search.decoder.decoded + search.decoder.waiting ≡ length search.bytes.items
  pub few : length search.text.items < FIRST_CHARACTERS
  pub searched : HasSearchedAll rules search.searched search.text.items

-- a step continues the search or ends it
abbrev pub Continues : Rules → Escapes → Device → Device → Search → Option (Base × Bool) → Type 0
Continues rules escapes reader_old reader_new search None = Searches rules escapes reader_old reader_new search
Continues rules escapes reader_old reader_new search (Some (base, is_whole)) = IsStart rules escapes search.bytes.items base is_whole reader_old reader_new
