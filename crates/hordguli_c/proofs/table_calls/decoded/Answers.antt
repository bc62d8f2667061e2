use Rattle.hordguli_c.proofs.table_calls.decoded.Goals as goal

-- a decoded image has passed all checks that precede the first allocation
pub returns-in-Err-clause-err : goal.returns-in-Err-clause-err
returns-in-Err-clause-err c =
    let image = c.in_ok-tables.ensures.ok.image in
    record { framed = image.framed; pages = image.pages; entries = image.entries }
