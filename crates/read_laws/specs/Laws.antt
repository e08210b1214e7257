-- What reading an instruction promises of it.
use Rattle.std.specs.Prelude.{◌≡◌, ℕ, true, nat_eq, filter_map, List, Ok}
use Rattle.std.specs.List.{list_all}
use Rattle.pv_base.specs.declared.name.Name.{Name}
use Rattle.ir_tree.specs.declared.items.NamedType.{NamedType}
use Rattle.ir_tree.specs.Trees.{TypeV}
use Rattle.ir_text.specs.Tokens.{TokenV}
use Rattle.ir_text.specs.Types.{Known}
use Rattle.ir_instr.specs.Instructions.{instruction_at}
use Rattle.ir_rules.specs.Constants.{constant_bits}
use Rattle.ir_rules.specs.Forms.{memory_types, register_types, called_types, case_values}
use Rattle.ir_rules.specs.Reading.{all_differ, is_register, is_answer, has_layout, indices_stand, constants_stand, instruction_stands}
use Rattle.ir_rules.specs.Seen.{InstructionV}
use Rattle.read_laws.specs.Describing.{Describes}

-- an instruction is read somewhere in a text whose named types are these
pub record IsRead (types : List (NamedType Name TypeV)) (i : InstructionV) : Type 0 where
  pub known : Known
  pub describes : Describes known types
  pub next : ℕ
  pub defined : List Name
  pub tokens : List TokenV
  pub rest : List TokenV
  pub read : instruction_at known next defined tokens ≡ Ok (i, rest)

-- its written types are those of registers where they have to be
abbrev pub RegistersStand : Type 0
RegistersStand = (types : List (NamedType Name TypeV)) (i : InstructionV) → IsRead types i → list_all is_register (register_types i) ≡ true

-- a call answers nothing, or the type of a register
abbrev pub AnswersStand : Type 0
AnswersStand = (types : List (NamedType Name TypeV)) (i : InstructionV) → IsRead types i → list_all is_answer (called_types i) ≡ true

-- the types of memory have a layout
abbrev pub MemoryStands : Type 0
MemoryStands = (types : List (NamedType Name TypeV)) (i : InstructionV) → IsRead types i → list_all (has_layout types) (memory_types i) ≡ true

-- the numbers of a switch differ
abbrev pub CasesStand : Type 0
CasesStand = (types : List (NamedType Name TypeV)) (i : InstructionV) → IsRead types i → all_differ nat_eq (filter_map constant_bits (case_values i)) ≡ true

-- indices stay inside of structs
abbrev pub IndicesStand : Type 0
IndicesStand = (types : List (NamedType Name TypeV)) (i : InstructionV) → IsRead types i → indices_stand types i ≡ true

-- its constants stand at each level
abbrev pub ConstantsStand : Type 0
ConstantsStand = (types : List (NamedType Name TypeV)) (i : InstructionV) → IsRead types i → constants_stand types i ≡ true

-- it stands
abbrev pub InstructionsStand : Type 0
InstructionsStand = (types : List (NamedType Name TypeV)) (i : InstructionV) → IsRead types i → instruction_stands types i ≡ true
