use Rattle.std.proofs.Common.{sym, ◌∙◌}
use Rattle.ucd.proofs.Parts.{too_many, one_missing, one_more}
use Rattle.ucd.proofs.grammar.read_fields.Goals as goal
use Rattle.ucd.proofs.grammar.read_fields.Goals.{in_default-rest-via-in-None+else-not-has_third, in_default-rest-via-in-Some-rest+else-has_third}

-- the line has four or more fields
pub returns-then-is_some : goal.returns-then-is_some
returns-then-is_some g c =
    rw (c.cut_near.ensures.parts, c.in-Some.is, c.cut_near-2.ensures.parts, c.in-Some-rest.is, c.cut_near-in-Some-rest.ensures.parts)
    (too_many (g.V.Property.form c.args.version) c.cut_near.result.0.now c.cut_near-2.result.0.now _ (λ more. more.now) c.cut_near-in-Some-rest.result.1 (sym c.is_some.ensures ∙ c.if-is_some.true))

-- the line has two fields although the file has three, or three or more although the file has two
pub returns-in_default-rest : goal.returns-in_default-rest
returns-in_default-rest g c =
    elim c.in_default-rest.branch [
      | in_default-rest-via-in-None+else-not-has_third w ↦
          rw (c.cut_near.ensures.parts, c.in-Some.is, c.cut_near-2.ensures.parts, w.in-None.is) (one_missing (g.V.Property.form c.args.version) c.cut_near.result.0.now c.cut_near-2.result.0.now (sym w.if-not-has_third.ensures))
      | in_default-rest-via-in-Some-rest+else-has_third w ↦
          rw (c.cut_near.ensures.parts, c.in-Some.is, c.cut_near-2.ensures.parts, w.in-Some-rest.is)
          (one_more (g.V.Property.form c.args.version) c.cut_near.result.0.now c.cut_near-2.result.0.now w.in-Some-rest.rest.now
          (sym w.if-has_third.ensures))
    ]
