-- Instructions by their first words, in the parts that code has.
use Rattle.std.specs.Prelude.{ℕ, Bool, false, Some, if◌then◌else◌, List, ◌∷◌, Ok, codes}
use Rattle.pv_base.specs.declared.name.Name.{Name}
use Rattle.ir_lex.specs.declared.token.Cause.TheVariants as causes
use Rattle.ir_tree.specs.declared.instruction.Instruction.{Instruction}
use Rattle.ir_tree.specs.Trees.{TypeV, ConstantV}
use Rattle.ir_text.specs.Tokens.{TokenV, same, among}
use Rattle.ir_text.specs.Reading.{Outcome, Reader, ◌>>=◌, wrong}
use Rattle.ir_text.specs.Tails.{tails_at}
use Rattle.ir_text.specs.Types.{Known}
use Rattle.ir_instr.specs.Words.{resultless, opcodes}
use Rattle.ir_instr.specs.Casts.{freeze_at}
use Rattle.ir_instr.specs.Comparing.{compare_at}
use Rattle.ir_instr.specs.Selecting.{select_at, phi_at}
use Rattle.ir_instr.specs.Memory.{load_at}
use Rattle.ir_instr.specs.Instructions.{with_tails, call_from}

-- what is passed over behind an instruction that was read
abbrev pub tailed : Outcome (Instruction Name TypeV ConstantV) → Outcome (Instruction Name TypeV ConstantV)
tailed read = read >>= λ found. tails_at found.1 >>= λ passed. Ok (found.0, passed.1)

-- the forms with a result that name no type of memory, by their words
abbrev pub plain_at : Known → Name → TokenV → Reader (Instruction Name TypeV ConstantV)
plain_at known to t rest =
    if same t.text (codes "freeze") then with_tails (freeze_at known to) rest
    else (if same t.text (codes "icmp") then with_tails (compare_at known to) rest
    else (if same t.text (codes "select") then with_tails (select_at known to) rest
    else (if same t.text (codes "phi") then phi_at known to rest
    else (if same t.text (codes "load") then with_tails (load_at known to) rest
    else (if among resultless t.text then wrong t causes.Instruction
    else call_from known (Some to) t (t ∷ rest))))))

-- the words of instructions that have a result, but for `call`
abbrev pub needs_result : List ℕ → Bool
needs_result text = if same text (codes "call") then false else among opcodes text
