-- One step of the loop over the parameters of SGR.
use Rattle.std.proofs.Common.{◌≡◌, ℕ, zero, suc, ◌-◌, ◌<◌, ◌≤◌, List, length, take, drop, sym, ap, ◌∙◌, arith, sub-one}
use Rattle.sequences.specs.Looks.{applied_after, changed, taken}
use Rattle.sequences.specs.Parts.{fields_after, first_len, parameters_after}
use Rattle.sequences.specs.declared.look.Look.{Look}
use Rattle.sequences.proofs.PartLemmas.{parameters-first}

-- skipping a parameter that belongs to the one before it does not change the final attributes
pub skip_parameter : (skip : ℕ) (look : Look) (text rest : List ℕ) → 0 < skip → 0 < length text → rest ≡ drop (first_len 0x3B text) text
    → applied_after (skip - 1) look (parameters_after rest) ≡ applied_after skip look (parameters_after text)
skip_parameter zero look text rest more some e = absurd (omega arith)
skip_parameter (suc skip) look text rest more some e =
    ap (λ n. applied_after n look (parameters_after rest)) (sub-one (suc skip)) ∙ ap (λ t. applied_after skip look (parameters_after t)) e
    ∙ ap (applied_after (suc skip) look) (sym (parameters-first text some))

-- a parameter that is not a value of an earlier one is applied
pub apply_parameter : (skip : ℕ) (look : Look) (text first rest : List ℕ) → skip ≤ 0 → 0 < length text
    → first ≡ take (first_len 0x3B text) text → rest ≡ drop (first_len 0x3B text) text
    → applied_after (taken (fields_after first) (parameters_after rest)) (changed look (fields_after first) (parameters_after rest)) (parameters_after rest)
    ≡ applied_after skip look (parameters_after text)
apply_parameter (suc skip) look text first rest none some e r = absurd (omega arith)
apply_parameter zero look text first rest none some e r =
    ap (λ t. applied_after (taken (fields_after t) (parameters_after rest)) (changed look (fields_after t) (parameters_after rest)) (parameters_after rest)) e
    ∙ ap (λ t. let p = fields_after (take (first_len 0x3B text) text) in
    applied_after (taken p (parameters_after t)) (changed look p (parameters_after t)) (parameters_after t)) r
    ∙ ap (applied_after 0 look) (sym (parameters-first text some))
