-- What stands behind arguments and instructions.
use Rattle.std.specs.Prelude.{◌≡◌, Bool, true, false, ◌||◌}
use Rattle.ir_text.specs.Tokens.{TokenV, is_mark}
use Rattle.ir_text.specs.Reading.{next_is}
use Rattle.ir_text.specs.Lawful.{Follow, Behind}
use Rattle.ir_text.specs.Passed.{AfterPassed, may_pass, stops}
use Rattle.ir_instr.specs.Words.{opcodes}

-- `,` or `)`
abbrev pub ends_argument : TokenV → Bool
ends_argument t = is_mark 44 t || is_mark 41 t

-- an argument of a call ends at one of them: only there it is known whether a number is its value
abbrev pub BehindArgument : Follow
BehindArgument rest = next_is ends_argument rest ≡ true

-- behind a call stands nothing that would still be passed over, or would belong to what was, and no `[`, with which operand
-- bundles begin
abbrev pub BehindCall : Follow
BehindCall = Behind (is_mark 91) (Behind (may_pass (stops opcodes false)) AfterPassed)

-- behind an instruction also no `,`, behind which more is passed over
abbrev pub BehindInstruction : Follow
BehindInstruction = Behind (is_mark 44) BehindCall
