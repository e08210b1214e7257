-- The instructions of a function, by their first words.
use Rattle.std.specs.Prelude.{ℕ, nat_eq, Bool, true, false, not, if◌then◌else◌, List, [], ◌∷◌, Option, Some, None, Result, Ok, Err, codes}
use Rattle.pv_base.specs.declared.name.Name.{Name}
use Rattle.pv_base.specs.declared.name.Name.TheVariants.{Named, Numbered}
use Rattle.ir_lex.specs.declared.token.TokenKind.{TokenKind}
use Rattle.ir_lex.specs.declared.token.TokenKind.TheVariants as kind
use Rattle.ir_lex.specs.declared.token.Cause.{Cause}
use Rattle.ir_lex.specs.declared.token.Cause.TheVariants as causes
use Rattle.int_num.specs.declared.ops.BinOp.{BinOp}
use Rattle.int_num.specs.declared.ops.CastOp.{CastOp}
use Rattle.ir_tree.specs.declared.instruction.Instruction.{Instruction}
use Rattle.ir_tree.specs.declared.instruction.Instruction.TheVariants as instruction
use Rattle.ir_tree.specs.Table.{name_among}
use Rattle.ir_tree.specs.Trees.{TypeV, ConstantV}
use Rattle.ir_text.specs.declared.fault.Fault.TheVariants.{Ended}
use Rattle.ir_text.specs.Tokens.{TokenV, same, among, is_word}
use Rattle.ir_text.specs.Reading.{Reader, ◌>>=◌, wrong, Meaning, token_by}
use Rattle.ir_text.specs.Choice.{choose}
use Rattle.ir_text.specs.Leaves.{mark_at, spelled_name}
use Rattle.ir_text.specs.Passed.{words_at, stops}
use Rattle.ir_text.specs.Tails.{tails_at}
use Rattle.ir_text.specs.Types.{Known}
use Rattle.ir_instr.specs.Words.{meaning_of, operations, casts, resultless, opcodes}
use Rattle.ir_text.specs.Operands.{is_local}
use Rattle.ir_instr.specs.Arithmetic.{binary_at}
use Rattle.ir_instr.specs.Casts.{cast_at, freeze_at}
use Rattle.ir_instr.specs.Comparing.{compare_at}
use Rattle.ir_instr.specs.Selecting.{select_at, phi_at}
use Rattle.ir_instr.specs.Memory.{alloca_at, load_at, store_at}
use Rattle.ir_instr.specs.Addresses.{address_at}
use Rattle.ir_instr.specs.Calls.{call_at}
use Rattle.ir_instr.specs.Control.{return_at, jump_or_branch_at, switch_at}

-- ---- results

-- a number that stands as a name is the counter's
abbrev pub is_counted : ℕ → Name → Bool
is_counted next (Numbered n) = nat_eq n next
is_counted next (Named text) = true

-- a name that the function can define: these it has defined before
abbrev pub definable : ℕ → List Name → Name → Result Name Cause
definable next defined name = if not (is_counted next name) then Err causes.Name else (if name_among name defined then Err causes.Duplicate else Ok name)

abbrev pub defined_by : ℕ → List Name → TokenKind → TokenV → Result Name Cause
defined_by next defined kind.LocalName t = definable next defined (spelled_name t)
defined_by next defined _ t = Err causes.Name

-- the name of a result
abbrev pub defined_name : ℕ → List Name → Meaning Name
defined_name next defined t = defined_by next defined t.kind t

-- ---- forms

-- an instruction, and what is passed over behind it
abbrev pub with_tails : Reader (Instruction Name TypeV ConstantV) → Reader (Instruction Name TypeV ConstantV)
with_tails form ts = do
  found ← form ts
  passed ← tails_at found.1
  Ok (found.0, passed.1)

module _ (known : Known) where
  -- behind markers stands `call`, else the first of them begins no instruction
  unfoldable pub marked_call : Option Name → TokenV → Reader (Instruction Name TypeV ConstantV)
  marked_call to t [] = Err Ended
  marked_call to t (u ∷ rest) = if is_word (codes "call") u then with_tails (call_at known to) rest else wrong t causes.Instruction

  -- a call from its first token on: words that begin no instruction may stand before `call`
  abbrev pub call_from : Option Name → TokenV → Reader (Instruction Name TypeV ConstantV)
  call_from to t ts = words_at (stops opcodes false) ts >>= λ passed. marked_call to t passed.1

  -- ---- behind `%r =`

  abbrev pub other_at : Name → TokenV → Reader (Instruction Name TypeV ConstantV)
  other_at to t rest =
      if same t.text (codes "freeze") then with_tails (freeze_at known to) rest
      else (if same t.text (codes "icmp") then with_tails (compare_at known to) rest
      else (if same t.text (codes "select") then with_tails (select_at known to) rest
      else (if same t.text (codes "phi") then phi_at known to rest
      else (if same t.text (codes "alloca") then alloca_at known to rest
      else (if same t.text (codes "load") then with_tails (load_at known to) rest
      else (if same t.text (codes "getelementptr") then address_at known to rest
      else (if among resultless t.text then wrong t causes.Instruction
      else call_from (Some to) t (t ∷ rest))))))))

  abbrev pub cast_or_other : Option CastOp → Name → TokenV → Reader (Instruction Name TypeV ConstantV)
  cast_or_other (Some operation) to t rest = with_tails (cast_at known to operation) rest
  cast_or_other None to t rest = other_at to t rest

  abbrev pub binary_or_other : Option BinOp → Name → TokenV → Reader (Instruction Name TypeV ConstantV)
  binary_or_other (Some operation) to t rest = with_tails (binary_at known to operation) rest
  binary_or_other None to t rest = cast_or_other (meaning_of casts t.text) to t rest

  abbrev pub resulting_by : TokenKind → Name → TokenV → Reader (Instruction Name TypeV ConstantV)
  resulting_by kind.Word to t rest = binary_or_other (meaning_of operations t.text) to t rest
  resulting_by _ to t rest = wrong t causes.Instruction

  -- an instruction with this result
  unfoldable pub resulting_at : Name → Reader (Instruction Name TypeV ConstantV)
  resulting_at to [] = Err Ended
  resulting_at to (t ∷ rest) = resulting_by t.kind to t rest

  -- ---- without a result

  -- the words of instructions that have a result, but for `call`
  abbrev pub needs_result : List ℕ → Bool
  needs_result text = if same text (codes "call") then false else among opcodes text

  abbrev pub effect_of : TokenV → Reader (Instruction Name TypeV ConstantV)
  effect_of t rest =
      if same t.text (codes "store") then with_tails (store_at known) rest
      else (if same t.text (codes "ret") then with_tails (return_at known) rest
      else (if same t.text (codes "br") then with_tails (jump_or_branch_at known) rest
      else (if same t.text (codes "switch") then with_tails (switch_at known) rest
      else (if same t.text (codes "unreachable") then with_tails (λ us. Ok (instruction.Unreachable, us)) rest
      else (if needs_result t.text then wrong t causes.Instruction
      else call_from None t (t ∷ rest))))))

  abbrev pub effect_by : TokenKind → TokenV → Reader (Instruction Name TypeV ConstantV)
  effect_by kind.Word t rest = effect_of t rest
  effect_by _ t rest = wrong t causes.Instruction

  unfoldable pub effect_at : Reader (Instruction Name TypeV ConstantV)
  effect_at [] = Err Ended
  effect_at (t ∷ rest) = effect_by t.kind t rest

  -- ---- both

  -- %r = and an instruction
  abbrev pub assignment_at : ℕ → List Name → Reader (Instruction Name TypeV ConstantV)
  assignment_at next defined ts = do
    to ← token_by (defined_name next defined) ts
    equals ← mark_at 61 to.1
    resulting_at to.0 equals.1

  -- an instruction of a function whose counter stands at this number, and that has defined these names
  abbrev pub instruction_at : ℕ → List Name → Reader (Instruction Name TypeV ConstantV)
  instruction_at next defined = choose is_local (assignment_at next defined) effect_at
