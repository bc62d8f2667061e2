use Rattle.std.proofs.Common.{◌≡◌, ℕ, ◌+◌, ◌<◌, ◌==◌, ◌&&◌, List, length, get_or, max, is_none, if◌then◌else◌, sym, ap, ◌∙◌, arith}
use Rattle.std.proofs.lemmas.List.{get_or_default}
use Rattle.ucd.specs.declared.bidi_class.BidiClass.{BidiClass}
use Rattle.ucd.specs.declared.bidi_class.BidiClass.TheVariants.{L, ON}
use Rattle.bidi.specs.Base.{match_of}
use Rattle.ucd.specs.Classes.{class_at, is_initiator}
use Rattle.bidi.specs.Isolates.{match_at, matches_of}
use Rattle.bidi.specs.Sequences.{direction}
use Rattle.bidi.proofs.JumpLemmas.{get_or-matches_of, open-match_at}
use Rattle.bidi.proofs.sequences.eos.Goals as goal

-- the list of matches shows whether the last character is an initiator without a match
open_there : (classes : List BidiClass) (matches : List ℕ) (last len : ℕ) → matches ≡ matches_of classes → length classes ≡ len → last < len
    → (is_initiator (get_or classes last L) && (get_or matches last 0 == len)) ≡ (is_initiator (class_at classes last) && is_none (match_of classes last))
open_there classes matches last len e size within =
    let inside : last < length classes = omega arith in
    ap (λ class. is_initiator class && (get_or matches last 0 == len)) (get_or_default classes last L ON inside)
    ∙ ap (λ m. is_initiator (class_at classes last) && (m == len)) (ap (λ found. get_or found last 0) e ∙ get_or-matches_of classes last 0 inside)
    ∙ ap (λ n. is_initiator (class_at classes last) && (match_at classes last == n)) (sym size)
    ∙ sym (open-match_at classes last inside)

pub returns : goal.returns
returns c =
    let levels = c.args.levels.now in
    let last = c.args.last in
    let is_open = c.is_open.ensures ∙ open_there c.args.classes.now c.args.matches.now last (length levels) c.requires.matches c.requires.length c.requires.within in
    c.direction.ensures.direction ∙ ap direction (c.max.ensures ∙ ap (max (get_or levels last 0)) (c.level_after-after.ensures
    ∙ ap (λ b. if b then c.args.base else (if last + 1 == length levels then c.args.base else get_or levels (last + 1) 0)) is_open))
