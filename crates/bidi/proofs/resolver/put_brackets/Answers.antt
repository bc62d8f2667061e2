use Rattle.std.proofs.Common.{◌≡◌, ℕ, ◌<◌, length, get_or, replicate, sym, ap, ◌∙◌, inl, inr, arith}
use Rattle.std.proofs.lemmas.Bool.{cases_eq, cases_lt}
use Rattle.std.proofs.lemmas.List.{get_or-map, get_or-replicate, get_or-set_other, get_or-set_same, get_or_default, get_or_past, length-map, length-replicate, same_lists}
use Rattle.ucd.specs.Properties.{properties_of}
use Rattle.ucd.specs.Tables.{bracket_of}
use Rattle.bidi.specs.declared.bracket_type.BracketType.TheVariants.{Other}
use Rattle.bidi.specs.BracketTypes.{bracket_types, type_by}
use Rattle.bidi.proofs.ResolverLemmas.{no_bracket_at}
use Rattle.bidi.proofs.resolver.put_brackets.Goals as goal

other_there : (n m : ℕ) → get_or (replicate n Other) m Other ≡ Other
other_there n m =
    elim (cases_lt m n) [
      | inl within ↦ get_or-replicate n m Other Other within
      | inr past ↦ get_or_past (replicate n Other) m Other (omega (arith, length-replicate n Other))
    ]

pub loop-at-init : goal.loop-at-init
loop-at-init c =
    let tables = c.args.tables.now in
    let text = c.args.text.now in
    let size : length c.args.properties.now ≡ length text = ap length c.requires.properties ∙ length-map text (properties_of tables) in
    let passed = c.next_bracket-at.ensures in
    let others : (m : ℕ) → get_or c.args.brackets.now m Other ≡ Other = λ m. ap (λ xs. get_or xs m Other) c.requires.others ∙ other_there (length text) m in
    record {
      within = omega (arith, passed.within, size);
      known = c.new-known.ensures;
      done = λ m below. others m ∙ sym (no_bracket_at tables text c.args.properties.now m (properties_of tables 0) c.requires.properties
          (omega (arith, below, passed.within, size)) (passed.passed m (properties_of tables 0) (omega arith) below));
      others = λ m above. others m;
    }

pub loop-at-preserved : goal.loop-at-preserved
loop-at-preserved c =
    let tables = c.args.tables.now in
    let text = c.args.text.now in
    let all = bracket_types (bracket_of tables) text in
    let brackets = c.loop-at.brackets in
    let value = c.look_up.result in
    let k = c.loop-at.at in
    let now = c.loop-at.invariant in
    let size : length c.args.properties.now ≡ length text = ap length c.requires.properties ∙ length-map text (properties_of tables) in
    let passed = c.next_bracket-at-in-loop-at.ensures in
    let inside : k < length text = c.loop-at-test.true in
    let sized : length brackets ≡ length text = c.loop-at.auto.brackets ∙ ap length c.requires.others ∙ length-replicate (length text) Other in
    let character : c.index-text-at.result ≡ get_or text k 0 = c.index-text-at.is ∙ get_or_default text k c.index-text-at.result 0 inside in
    let here : value ≡ get_or all k Other =
    c.look_up.ensures.found ∙ ap (λ b. type_by (bracket_of tables b) b) character ∙ sym (get_or-map (λ b. type_by (bracket_of tables b) b) text k 0 Other inside) in
    record {
      within = omega (arith, passed.within, size);
      known = c.look_up.ensures.known;
      done = λ m below. elim (cases_eq m k) [
        | inl e ↦ rw e (get_or-set_same brackets k value Other (omega (arith, inside, sized)) ∙ here)
        | inr ne ↦ elim (cases_lt m k) [
          | inl before ↦ get_or-set_other brackets k m value Other ne ∙ now.done m before
          | inr after ↦ get_or-set_other brackets k m value Other ne ∙ now.others m after ∙ sym (no_bracket_at tables text c.args.properties.now m (properties_of tables 0) c.requires.properties
              (omega (arith, below, passed.within, size)) (passed.passed m (properties_of tables 0) (omega arith) below))
        ]
      ];
      others = λ m above. let ne : k < m = omega (arith, passed.reached, above) in get_or-set_other brackets k m value Other (λ same. absurd (omega (arith, same, ne))) ∙ now.others m (omega arith);
    }

pub returns : goal.returns
returns c =
    let tables = c.args.tables.now in
    let text = c.args.text.now in
    let all = bracket_types (bracket_of tables) text in
    let sized : length c.loop-at.brackets ≡ length text = c.loop-at.auto.brackets ∙ ap length c.requires.others ∙ length-replicate (length text) Other in
    let size : length all ≡ length text = length-map text (λ b. type_by (bracket_of tables b) b) in
    same_lists c.loop-at.brackets all (sized ∙ sym size) (λ m e within.
    get_or_default c.loop-at.brackets m e Other within
    ∙ c.loop-at.invariant.done m (omega (arith, within, sized, c.loop-at-test.false))
    ∙ get_or_default all m Other e (omega (arith, within, sized, size)))
