use Rattle.std.proofs.Common.{rules, ◌≡◌, false, arith, inl, inr}
use Rattle.std.proofs.lemmas.Bool.{cases_Bool, cases_lt}
use Rattle.std.proofs.lemmas.Bool.Decides.{nat_tests}
use Rattle.ucd.proofs.pages.are_usual.Goals as goal

pub returns-clause-yes : goal.returns-clause-yes
returns-clause-yes c = λ usual x lt other is.
    let ascii : c.block_has_separator-ascii.result ≡ false = search rules in
    let latin : c.block_has_separator-latin.result ≡ false = search rules in
    let low : c.blocks_have_separator-low.result ≡ false = search rules in
    let before : c.block_has_separator-before.result ≡ false = search rules in
    let after : c.block_has_separator-after.result ≡ false = search rules in
    let high : c.blocks_have_separator-high.result ≡ false = search rules in
    elim (cases_lt x 256) [
      | inl first ↦ elim (cases_lt x 133) [
        | inl below ↦ c.block_has_separator-ascii.ensures.no ascii x (grind (arith, nat_tests, other)) below is
        | inr above ↦ c.block_has_separator-latin.ensures.no latin x (grind (arith, nat_tests, other, above)) first is
      ]
      | inr from ↦ elim (cases_lt x 8192) [
        | inl below ↦ c.blocks_have_separator-low.ensures.no low x from below is
        | inr above ↦ elim (cases_lt x 8233) [
          | inl below ↦ c.block_has_separator-before.ensures.no before x above below is
          | inr later ↦ elim (cases_lt x 8448) [
            | inl below ↦ c.block_has_separator-after.ensures.no after x (grind (arith, nat_tests, other, later)) below is
            | inr last ↦ c.blocks_have_separator-high.ensures.no high x last lt is
          ]
        ]
      ]
    ]

pub returns-clause-no : goal.returns-clause-no
returns-clause-no c = λ unusual all.
    elim (cases_Bool c.block_has_separator-ascii.result) [
      | inl some ↦ c.block_has_separator-ascii.ensures.yes some (λ x from to. all x (omega (arith, to)) (grind (arith, nat_tests, from, to)))
      | inr ascii ↦ elim (cases_Bool c.block_has_separator-latin.result) [
        | inl some ↦ c.block_has_separator-latin.ensures.yes some (λ x from to. all x (omega (arith, to)) (grind (arith, nat_tests, from, to)))
        | inr latin ↦ elim (cases_Bool c.blocks_have_separator-low.result) [
          | inl some ↦ c.blocks_have_separator-low.ensures.yes some (λ x from to. all x (omega (arith, to)) (grind (arith, nat_tests, from, to)))
          | inr low ↦ elim (cases_Bool c.block_has_separator-before.result) [
            | inl some ↦ c.block_has_separator-before.ensures.yes some (λ x from to. all x (omega (arith, to)) (grind (arith, nat_tests, from, to)))
            | inr before ↦ elim (cases_Bool c.block_has_separator-after.result) [
              | inl some ↦ c.block_has_separator-after.ensures.yes some (λ x from to. all x (omega (arith, to)) (grind (arith, nat_tests, from, to)))
              | inr after ↦ elim (cases_Bool c.blocks_have_separator-high.result) [
                | inl some ↦ c.blocks_have_separator-high.ensures.yes some (λ x from to. all x to (grind (arith, nat_tests, from)))
                | inr high ↦ search rules
              ]
            ]
          ]
        ]
      ]
    ]
