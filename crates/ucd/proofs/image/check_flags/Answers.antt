use Rattle.std.proofs.Common.{◌≡◌, true, false, rules}
use Rattle.ucd.proofs.ImageFaults.{bad_bracket_flag, bad_mirror_flag}
use Rattle.ucd.proofs.image.check_flags.Goals as goal

pub returns-then-not-are_flags-clause-err : goal.returns-then-not-are_flags-clause-err
returns-then-not-are_flags-clause-err c =
    let isnt : c.are_flags.result ≡ false = search rules in
    bad_bracket_flag c.args.bytes.now c.requires.framed c.requires.known c.requires.valid c.requires.brackets c.requires.mirrors
    (rw (c.brackets_at.ensures.value, c.bracket_count.ensures.value) at (c.are_flags.ensures.no isnt))

pub returns-then-not-are_flags-2-clause-err : goal.returns-then-not-are_flags-2-clause-err
returns-then-not-are_flags-2-clause-err c =
    let are : c.are_flags.result ≡ true = search rules in
    let isnt : c.are_flags-2.result ≡ false = search rules in
    bad_mirror_flag c.args.bytes.now c.requires.framed c.requires.known c.requires.valid c.requires.brackets c.requires.mirrors
    (rw (c.brackets_at.ensures.value, c.bracket_count.ensures.value) at (c.are_flags.ensures.yes are))
    (rw (c.mirrors_at.ensures.value, c.mirror_count.ensures.value) at (c.are_flags-2.ensures.no isnt))

pub returns-clause-ok : goal.returns-clause-ok
returns-clause-ok c =
    let are : c.are_flags.result ≡ true = search rules in
    let are_2 : c.are_flags-2.result ≡ true = search rules in (
      rw (c.brackets_at.ensures.value, c.bracket_count.ensures.value) at (c.are_flags.ensures.yes are),
      rw (c.mirrors_at.ensures.value, c.mirror_count.ensures.value) at (c.are_flags-2.ensures.yes are_2),
    )
