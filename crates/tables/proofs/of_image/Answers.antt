use Rattle.tables.proofs.of_image.Goals as goal

pub returns-in-Err-clause-err : goal.returns-in-Err-clause-err
returns-in-Err-clause-err c = c.image_fault.ensures c.args.bytes.now c.in-Err.ensures.err
