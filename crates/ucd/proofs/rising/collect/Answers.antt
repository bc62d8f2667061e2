use Rattle.std.proofs.Common.{◌≡◌, ℕ, ◌++◌, List, Option, append_assoc, ap, sym, subst, ◌∙◌, IsOk}
use Rattle.std.proofs.lemmas.List.{append-nil}
use Rattle.ucd.specs.declared.grammar.Entry.{Entry}
use Rattle.ucd.specs.Grammar.{Form, lines_of, parts_of, reading_of}
use Rattle.ucd.specs.Rising.{AreRead, entries_by, entries_in}
use Rattle.ucd.proofs.FileLines.{first_left, lines_left}
use Rattle.ucd.proofs.rising.collect.Goals as goal

-- the entry of the first remaining line moves to the collected entries
module _ {V : Type 0} (form : Form V) (text front : List ℕ) (rest : Option (List ℕ)) (parts : lines_of text ≡ parts_of 10 front rest) where
  moved : (old new all : List (Entry V)) → new ≡ old ++ entries_by (reading_of form front) → old ++ entries_in form (lines_of text) ≡ all → new ++ entries_in form (lines_left rest) ≡ all
  moved old new all adds before =
      ap (λ es. es ++ entries_in form (lines_left rest)) adds ∙ append_assoc old (entries_by (reading_of form front)) (entries_in form (lines_left rest))
      ∙ sym (ap (λ lines. old ++ entries_in form lines) (first_left text front rest parts)) ∙ before

  read_first : IsOk (reading_of form front) → AreRead form (lines_left rest) → AreRead form (lines_of text)
  read_first ok others = subst (AreRead form) (sym (first_left text front rest parts)) (ok, others)

pub loop-rest-preserved : goal.loop-rest-preserved
loop-rest-preserved g c =
    let before = rw c.in-Some.is at c.loop-rest.invariant.entries in
    let read = rw c.in-Some.is at c.loop-rest.invariant.read in
    record {
      entries = moved (g.V.Property.form c.args.version) c.in-Some.text.now c.cut.result.0.now _ c.cut.ensures.parts c.loop-rest.entries.items c.collect_line.new.entries.items (entries_in (g.V.Property.form c.args.version) (lines_of c.args.file.now)) c.in_ok-collect_line.ensures.entries before;
      read = λ rest. read (read_first (g.V.Property.form c.args.version) c.in-Some.text.now c.cut.result.0.now _ c.cut.ensures.parts c.in_ok-collect_line.ensures.read rest);
    }

pub loop-rest-init : goal.loop-rest-init
loop-rest-init g c = record {
  entries = ap (λ es. es ++ entries_in (g.V.Property.form c.args.version) (lines_of c.args.file.now)) c.new-entries.ensures.items;
  read = λ read. read;
}

pub returns-clause-entries : goal.returns-clause-entries
returns-clause-entries g c = sym (append-nil c.loop-rest.entries.items) ∙ (rw c.in_default.is at c.loop-rest.invariant.entries)
