-- How the forms of instructions are spelled, each behind its word.
use Rattle.std.specs.Prelude.{Bool, true, false, List, [], Option, codes}
use Rattle.std.proofs.Common.{◌⊎◌}
use Rattle.pv_base.specs.declared.name.Name.{Name}
use Rattle.int_num.specs.declared.ops.BinOp.{BinOp}
use Rattle.int_num.specs.declared.ops.CastOp.{CastOp}
use Rattle.int_num.specs.declared.ops.Flags.{Flags}
use Rattle.int_num.specs.declared.ops.Pred.{Pred}
use Rattle.ir_tree.specs.declared.instruction.Operand.{Operand}
use Rattle.ir_tree.specs.declared.instruction.Argument.{Argument}
use Rattle.ir_tree.specs.declared.instruction.Arm.{Arm}
use Rattle.ir_tree.specs.declared.instruction.Callee.{Callee}
use Rattle.ir_tree.specs.declared.instruction.Case.{Case}
use Rattle.ir_tree.specs.declared.instruction.Instruction.{Instruction}
use Rattle.ir_tree.specs.declared.instruction.Instruction.TheVariants as instruction
use Rattle.ir_tree.specs.Trees.{TypeV, IntV, ConstantV}
use Rattle.ir_text.specs.Tokens.{among}
use Rattle.ir_text.specs.Operands.{an_operand}
use Rattle.ir_text.specs.Lists.{closed_list}
use Rattle.ir_text.specs.Passed.{some_words, stops}
use Rattle.ir_text.specs.Spelled.{Spelling, one_token}
use Rattle.ir_text.specs.Repeated.{each_under}
use Rattle.ir_text.specs.Types.{Known, register_type}
use Rattle.ir_text.specs.Tails.{some_tails}
use Rattle.ir_text.specs.TypeSpelled.{◌▸◌, a_mark, a_word}
use Rattle.ir_instr.specs.Words.{worded, predicates, opcodes}
use Rattle.ir_instr.specs.Parts.{fixed_type, integer_type, stored_type}
use Rattle.ir_instr.specs.Flags.{flags_for, cast_flags_for}
use Rattle.ir_instr.specs.Comparing.{comparing_words}
use Rattle.ir_instr.specs.Addresses.{address_words}
use Rattle.ir_instr.specs.Calls.{called, answer_type}
use Rattle.ir_instr.specs.Control.{with_case}
use Rattle.ir_instr.specs.InstructionSpelled.{a_function_type, an_argument, Says, some_arms, some_indices, InMemory, a_count, some_flags, passed_words, a_target, a_pointer, a_returned, ACase}
use Rattle.instr_laws.specs.Made.{Made}

-- an operand, and an instruction
abbrev pub Value : Type 0
Value = Operand Name ConstantV

abbrev pub Form : Type 1
Form = Spelling (Instruction Name TypeV ConstantV)

module _ (known : Known) where
  -- FLAGS iN A, B
  abbrev pub a_binary : Name → BinOp → Form
  a_binary to operation =
      Made (λ (p : Flags × (TypeV × (Value × Value))). instruction.Binary to operation p.0 p.1.0 p.1.1.0 p.1.1.1)
      (λ p. some_flags (flags_for operation) p.0 ▸ one_token integer_type p.1.0 ▸ an_operand known p.1.0 p.1.1.0 ▸ a_mark 44 ▸ an_operand known p.1.0 p.1.1.1)

  -- FLAGS iN A to iM
  abbrev pub a_cast : Name → CastOp → Form
  a_cast to operation =
      Made (λ (p : Flags × (TypeV × (Value × TypeV))). instruction.Cast to operation p.0 p.1.0 p.1.1.0 p.1.1.1)
      (λ p. some_flags (cast_flags_for operation) p.0 ▸ one_token integer_type p.1.0 ▸ an_operand known p.1.0 p.1.1.0 ▸ a_word (codes "to") ▸ one_token integer_type p.1.1.1)

  -- T A
  abbrev pub a_freeze : Name → Form
  a_freeze to = Made (λ (p : TypeV × Value). instruction.Freeze to p.0 p.1) (λ p. one_token register_type p.0 ▸ an_operand known p.0 p.1)

  -- P T A, B
  abbrev pub a_compare : Name → Form
  a_compare to =
      Made (λ (p : Pred × (TypeV × (Value × Value))). instruction.Compare to p.0 p.1.0 p.1.1.0 p.1.1.1)
      (λ p. passed_words comparing_words ▸ one_token (worded predicates) p.0 ▸ one_token register_type p.1.0 ▸ an_operand known p.1.0 p.1.1.0 ▸ a_mark 44 ▸ an_operand known p.1.0 p.1.1.1)

  -- i1 C, T A, T B
  abbrev pub a_select : Name → Form
  a_select to =
      Made (λ (p : Value × (TypeV × (Value × Value))). instruction.Select to p.0 p.1.0 p.1.1.0 p.1.1.1)
      (λ p. one_token (fixed_type (IntV 1)) tt ▸ an_operand known (IntV 1) p.0 ▸ a_mark 44 ▸ one_token register_type p.1.0 ▸ an_operand known p.1.0 p.1.1.0 ▸ a_mark 44 ▸ one_token (fixed_type p.1.0) tt ▸ an_operand known p.1.0 p.1.1.1)

  -- T, ptr P
  abbrev pub a_load : Name → Form
  a_load to = Made (λ (p : TypeV × Value). instruction.Load to p.0 p.1) (λ p. one_token stored_type p.0 ▸ a_mark 44 ▸ a_pointer known p.1)

  -- T A, ptr P
  abbrev pub a_store : Form
  a_store = Made (λ (p : TypeV × (Value × Value)). instruction.Store p.0 p.1.0 p.1.1) (λ p. one_token stored_type p.0 ▸ an_operand known p.0 p.1.0 ▸ a_mark 44 ▸ a_pointer known p.1.1)

  -- void, or T A
  abbrev pub a_return : Form
  a_return = Made (λ (p : Option (Argument Name TypeV ConstantV)). instruction.Return p) (λ p. a_returned known p)

  -- label %to
  abbrev pub a_jump : Form
  a_jump = Made (λ (p : Name). instruction.Jump p) (λ p. a_target p)

  -- i1 C, label %a, label %b
  abbrev pub a_branch : Form
  a_branch =
      Made (λ (p : Value × (Name × Name)). instruction.Branch p.0 p.1.0 p.1.1)
      (λ p. one_token (fixed_type (IntV 1)) tt ▸ an_operand known (IntV 1) p.0 ▸ a_mark 44 ▸ a_target p.1.0 ▸ a_mark 44 ▸ a_target p.1.1)

  -- either of both
  abbrev pub a_jump_or_branch : Form
  a_jump_or_branch i ws = a_branch i ws ⊎ a_jump i ws

  -- iN A, label %default [ iN c, label %to .. ]
  abbrev pub a_switch : Form
  a_switch =
      Made (λ (p : TypeV × (Value × (Name × List (Case Name ConstantV)))). instruction.Switch p.0 p.1.0 p.1.1.0 p.1.1.1)
      (λ p. one_token integer_type p.0 ▸ an_operand known p.0 p.1.0 ▸ a_mark 44 ▸ a_target p.1.1.0 ▸ a_mark 91 ▸ each_under (ACase known p.0) with_case [] p.1.1.1 ▸ a_mark 93)

  -- T, or T, iN c, and what is passed over behind it
  abbrev pub an_alloca : Name → Form
  an_alloca to =
      Made (λ (p : TypeV × Option (Argument Name TypeV ConstantV)). instruction.Alloca to p.0 p.1)
      (λ p. InMemory known p.0 ▸ a_count known p.1 ▸ some_tails tt)

  -- T [ A, %from ], .. and what is passed over behind it
  abbrev pub a_phi : Name → Form
  a_phi to =
      Made (λ (p : TypeV × List (Arm Name ConstantV)). instruction.Phi to p.0 p.1)
      (λ p. one_token register_type p.0 ▸ some_arms known p.0 p.1 ▸ some_tails tt)

  -- inbounds T, ptr P, iN I, .. and what is passed over behind it
  abbrev pub an_address : Name → Form
  an_address to =
      Made (λ (p : Bool × (TypeV × (Value × List (Argument Name TypeV ConstantV)))). instruction.Address to p.0 p.1.0 p.1.1.0 p.1.1.1)
      (λ p. Says address_words (λ written. among written (codes "inbounds")) p.0 ▸ InMemory known p.1.0 ▸ a_mark 44 ▸ a_pointer known p.1.1.0 ▸ some_indices known p.1.0 p.1.1.1 ▸ some_tails tt)

  -- WORDS T @f(T A, ..) WORDS, with a written function type behind T, and what is passed over behind it
  abbrev pub a_call_form : Option Name → Form
  a_call_form to =
      Made (λ (p : TypeV × (Bool × (Callee Name × List (Argument Name TypeV ConstantV)))). instruction.Call to p.0 p.1.0 p.1.1.0 p.1.1.1)
      (λ p. some_words (stops [] true) tt ▸ one_token (answer_type to) p.0 ▸ a_function_type p.1.0 ▸ one_token (called p.1.0) p.1.1.0
      ▸ a_mark 40 ▸ closed_list 41 (an_argument known) p.1.1.1 ▸ some_words (stops opcodes false) tt)
