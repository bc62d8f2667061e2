-- The values of two constants.
use Rattle.std.proofs.Common.{◌≡◌, refl}
use Rattle.tool.specs.declared.answers.TheConstants.{ANSWER_ROOM}
use Rattle.tool.specs.declared.script.TheConstants.{LINE_LIMIT}

-- the maximum length of a script's line, in bytes
line_limit : LINE_LIMIT ≡ 1048576
line_limit = refl

-- the size of the stack buffer for a reply, in bytes
answer_room : ANSWER_ROOM ≡ 65
answer_room = refl
