-- What the spelling of an instruction keeps.
use Rattle.std.proofs.Common.{◌≡◌, ℕ, Bool, true, List, [], ◌∷◌, Option, Some, None, refl, sym, ap, subst, ◌∙◌}
use Rattle.std.specs.Prelude.{map, length, nat_eq, is_some, filter_map}
use Rattle.std.specs.List.{list_all}
use Rattle.pv_base.specs.declared.name.Name.{Name}
use Rattle.ir_tree.specs.declared.instruction.Argument.{Argument}
use Rattle.ir_tree.specs.declared.instruction.Instruction.TheVariants as instruction
use Rattle.ir_tree.specs.declared.items.NamedType.{NamedType}
use Rattle.ir_tree.specs.Layouts.{named_layout}
use Rattle.ir_tree.specs.Trees.{TypeV, IntV, PtrV, VoidV, ArrayV, StructV, NamedV, ConstantV}
use Rattle.ir_text.specs.Tokens.{TokenV}
use Rattle.ir_text.specs.Lists.{closed_list, behind_item}
use Rattle.ir_text.specs.MemoryTypes.{named_layouts}
use Rattle.ir_text.specs.Repeated.{each_under}
use Rattle.ir_text.specs.Spelled.{one_token}
use Rattle.ir_text.specs.Types.{Known, register_type}
use Rattle.ir_text.specs.TypeSpelled.{◌▸◌, a_mark}
use Rattle.ir_text.proofs.LaidOut.{layouts_by}
use Rattle.ir_instr.specs.Addresses.{Into, Whole, Inside, Faulty, opened, next_into}
use Rattle.ir_instr.specs.Parts.{integer_type, stored_type}
use Rattle.ir_instr.specs.InstructionSpelled.{InMemory, an_argument, an_index_into, an_index, some_indices, an_instruction}
use Rattle.ir_rules.specs.Constants.{constant_bits}
use Rattle.ir_rules.specs.Forms.{memory_types, register_types, called_types, case_values}
use Rattle.ir_rules.specs.Reading.{all_differ, is_register, is_answer, has_layout, indices_stand}
use Rattle.ir_rules.specs.Seen.{InstructionV}
use Rattle.read_laws.specs.Describing.{Describes}
use Rattle.read_laws.proofs.Tokens.{register_stands, integer_stands, answer_stands, stored_stands, stored_laid}
use Rattle.read_laws.proofs.Paths.{indices_walk}
use Rattle.read_laws.proofs.Cases.{cases_differ}

abbrev Index : Type 0
Index = Argument Name TypeV ConstantV

pub more : {A : Type 0} (p : A → Bool) (a : A) (all : List A) → p a ≡ true → list_all p all ≡ true → list_all p (a ∷ all) ≡ true
more p a all here others = rw (here, others) refl

pub one : {A : Type 0} (p : A → Bool) (a : A) → p a ≡ true → list_all p (a ∷ []) ≡ true
one p a here = more p a [] here refl

-- ---- types of registers

register_one : (of : TypeV) (ws : List TokenV) → one_token register_type of ws → is_register of ≡ true
register_one of ws s = register_stands s.token of s.is

integer_one : (of : TypeV) (ws : List TokenV) → one_token integer_type of ws → is_register of ≡ true
integer_one of ws s = integer_stands s.token of s.is

stored_one : (of : TypeV) (ws : List TokenV) → one_token stored_type of ws → is_register of ≡ true
stored_one of ws s = stored_stands s.token of s.is

module _ (known : Known) where
  into_of : (o : Option TypeV) (a : Index) (ws : List TokenV) → an_index_into known o a ws → is_register a.of ≡ true
  into_of None a ws s = integer_one a.of s.front s.first_spells
  into_of (Some (ArrayV n of)) a ws s = integer_one a.of s.front s.first_spells
  into_of (Some (StructV packed fields)) a ws s = subst (λ (of : TypeV). is_register of ≡ true) (sym s.of) refl
  into_of (Some (IntV w)) a ws s = absurd s
  into_of (Some PtrV) a ws s = absurd s
  into_of (Some VoidV) a ws s = absurd s
  into_of (Some (NamedV name)) a ws s = absurd s

  index_of : (into : Into) (a : Index) (ws : List TokenV) → an_index known into a ws → is_register a.of ≡ true
  index_of (Whole of) a ws s = integer_one a.of s.front s.first_spells
  index_of (Inside of) a ws s = into_of (opened known of) a ws s
  index_of Faulty a ws s = integer_one a.of s.front s.first_spells

  indices_of : (into : Into) (all : List Index) (ws : List TokenV) → each_under (λ i a. a_mark 44 ▸ an_index known i a) (next_into known) into all ws → list_all is_register (map (λ a. a.of) all) ≡ true
  indices_of into [] ws s = refl
  indices_of into (a ∷ all) ws s = more is_register a.of (map (λ x. x.of) all) (index_of into a s.first_spells.rest s.first_spells.rest_spells) (indices_of (next_into known into a) all s.rest s.rest_spells)

  index_types : (of : TypeV) (all : List Index) (ws : List TokenV) → some_indices known of all ws → list_all is_register (map (λ a. a.of) all) ≡ true
  index_types of [] ws s = refl
  index_types of (a ∷ all) ws s =
      more is_register a.of (map (λ x. x.of) all) (index_of (Whole of) a s.rest_spells.front s.rest_spells.first_spells) (indices_of (Inside of) all s.rest_spells.rest s.rest_spells.rest_spells)

  argument_of : (a : Index) (ws : List TokenV) → an_argument known a ws → is_register a.of ≡ true
  argument_of a ws s = register_one a.of s.front s.first_spells

  behind_of : (all : List Index) (ws : List TokenV) → behind_item 41 (an_argument known) all ws → list_all is_register (map (λ a. a.of) all) ≡ true
  behind_of [] ws s = refl
  behind_of (a ∷ all) ws s = more is_register a.of (map (λ x. x.of) all) (argument_of a s.rest_spells.front s.rest_spells.first_spells) (behind_of all s.rest_spells.rest s.rest_spells.rest_spells)

  arguments_of : (all : List Index) (ws : List TokenV) → closed_list 41 (an_argument known) all ws → list_all is_register (map (λ a. a.of) all) ≡ true
  arguments_of [] ws s = refl
  arguments_of (a ∷ all) ws s = more is_register a.of (map (λ x. x.of) all) (argument_of a s.front s.first_spells) (behind_of all s.rest s.rest_spells)

  module _ (next : ℕ) (defined : List Name) where
    pub registers : (i : InstructionV) (ws : List TokenV) → an_instruction known next defined i ws → list_all is_register (register_types i) ≡ true
    unfolding register_types
    registers (instruction.Binary to op flags of left right) ws s = let o = s.rest_spells.rest_spells.rest_spells in one is_register of (integer_one of o.front o.first_spells)
    registers (instruction.Cast to op flags of value target) ws s =
        let o = s.rest_spells.rest_spells.rest_spells in
        let t = o.rest_spells.rest_spells.rest_spells in
        more is_register of (target ∷ []) (integer_one of o.front o.first_spells) (one is_register target (integer_one target t.front t.first_spells))
    registers (instruction.Freeze to of value) ws s = let o = s.rest_spells.rest_spells in one is_register of (register_one of o.front o.first_spells)
    registers (instruction.Compare to pred of left right) ws s = let o = s.rest_spells.rest_spells.rest_spells.rest_spells in one is_register of (register_one of o.front o.first_spells)
    registers (instruction.Select to condition of on_true on_false) ws s = let o = s.rest_spells.rest_spells.rest_spells.rest_spells.rest_spells in one is_register of (register_one of o.front o.first_spells)
    registers (instruction.Phi to of arms) ws s = let o = s.rest_spells.rest_spells in one is_register of (register_one of o.front o.first_spells)
    registers (instruction.Alloca to of None) ws s = refl
    registers (instruction.Alloca to of (Some count)) ws s = let c = s.rest_spells.rest_spells.rest_spells.first_spells.rest_spells in one is_register count.of (integer_one count.of c.front c.first_spells)
    registers (instruction.Load to of pointer) ws s = let o = s.rest_spells.rest_spells in one is_register of (stored_one of o.front o.first_spells)
    registers (instruction.Store of value pointer) ws s = let o = s.rest_spells in one is_register of (stored_one of o.front o.first_spells)
    registers (instruction.Address to inbounds of base indices) ws s = let o = s.rest_spells.rest_spells.rest_spells.rest_spells.rest_spells.rest_spells in index_types of indices o.front o.first_spells
    registers (instruction.Call (Some to) of variadic what arguments) ws s =
        let o = s.rest_spells.rest_spells.rest_spells.rest_spells in
        let a = o.rest_spells.rest_spells.rest_spells.rest_spells in
        more is_register of (map (λ a. a.of) arguments) (register_one of o.front o.first_spells) (arguments_of arguments a.front a.first_spells)
    registers (instruction.Call None of variadic what arguments) ws s = let a = s.rest_spells.rest_spells.rest_spells.rest_spells.rest_spells.rest_spells.rest_spells in arguments_of arguments a.front a.first_spells
    registers (instruction.Return None) ws s = refl
    registers (instruction.Return (Some a)) ws s = let o = s.rest_spells.first_spells in one is_register a.of (register_one a.of o.front o.first_spells)
    registers (instruction.Jump target) ws s = refl
    registers (instruction.Branch condition on_true on_false) ws s = refl
    registers (instruction.Switch of value default cases) ws s = let o = s.rest_spells in one is_register of (integer_one of o.front o.first_spells)
    registers instruction.Unreachable ws s = refl

    pub answers : (i : InstructionV) (ws : List TokenV) → an_instruction known next defined i ws → list_all is_answer (called_types i) ≡ true
    unfolding called_types
    answers (instruction.Binary to op flags of left right) ws s = refl
    answers (instruction.Cast to op flags of value target) ws s = refl
    answers (instruction.Freeze to of value) ws s = refl
    answers (instruction.Compare to pred of left right) ws s = refl
    answers (instruction.Select to condition of on_true on_false) ws s = refl
    answers (instruction.Phi to of arms) ws s = refl
    answers (instruction.Alloca to of count) ws s = refl
    answers (instruction.Load to of pointer) ws s = refl
    answers (instruction.Store of value pointer) ws s = refl
    answers (instruction.Address to inbounds of base indices) ws s = refl
    answers (instruction.Call (Some to) of variadic what arguments) ws s = let o = s.rest_spells.rest_spells.rest_spells.rest_spells.first_spells in one is_answer of (answer_stands (Some to) o.token of o.is)
    answers (instruction.Call None of variadic what arguments) ws s = let o = s.rest_spells.rest_spells.rest_spells.first_spells in one is_answer of (answer_stands None o.token of o.is)
    answers (instruction.Return value) ws s = refl
    answers (instruction.Jump target) ws s = refl
    answers (instruction.Branch condition on_true on_false) ws s = refl
    answers (instruction.Switch of value default cases) ws s = refl
    answers instruction.Unreachable ws s = refl

    pub numbers : (i : InstructionV) (ws : List TokenV) → an_instruction known next defined i ws → all_differ nat_eq (filter_map constant_bits (case_values i)) ≡ true
    unfolding case_values all_differ
    numbers (instruction.Binary to op flags of left right) ws s = refl
    numbers (instruction.Cast to op flags of value target) ws s = refl
    numbers (instruction.Freeze to of value) ws s = refl
    numbers (instruction.Compare to pred of left right) ws s = refl
    numbers (instruction.Select to condition of on_true on_false) ws s = refl
    numbers (instruction.Phi to of arms) ws s = refl
    numbers (instruction.Alloca to of count) ws s = refl
    numbers (instruction.Load to of pointer) ws s = refl
    numbers (instruction.Store of value pointer) ws s = refl
    numbers (instruction.Address to inbounds of base indices) ws s = refl
    numbers (instruction.Call to of variadic what arguments) ws s = refl
    numbers (instruction.Return value) ws s = refl
    numbers (instruction.Jump target) ws s = refl
    numbers (instruction.Branch condition on_true on_false) ws s = refl
    numbers (instruction.Switch of value default cases) ws s = let c = s.rest_spells.rest_spells.rest_spells.rest_spells.rest_spells.rest_spells in cases_differ known of cases c.front c.first_spells
    numbers instruction.Unreachable ws s = refl

    module _ (types : List (NamedType Name TypeV)) (describes : Describes known types) where
      laid_one : (of : TypeV) (ws : List TokenV) → InMemory known of ws → has_layout types of ≡ true
      laid_one of ws s = ap is_some (sym (layouts_by (named_layouts known) (named_layout (length types) types) describes.layouts of)) ∙ s.laid_out

      pub memory : (i : InstructionV) (ws : List TokenV) → an_instruction known next defined i ws → list_all (has_layout types) (memory_types i) ≡ true
      unfolding memory_types
      memory (instruction.Binary to op flags of left right) ws s = refl
      memory (instruction.Cast to op flags of value target) ws s = refl
      memory (instruction.Freeze to of value) ws s = refl
      memory (instruction.Compare to pred of left right) ws s = refl
      memory (instruction.Select to condition of on_true on_false) ws s = refl
      memory (instruction.Phi to of arms) ws s = refl
      memory (instruction.Alloca to of count) ws s = let o = s.rest_spells.rest_spells in one (has_layout types) of (laid_one of o.front o.first_spells)
      memory (instruction.Load to of pointer) ws s = let o = s.rest_spells.rest_spells.first_spells in one (has_layout types) of (stored_laid (named_layout (length types) types) o.token of o.is)
      memory (instruction.Store of value pointer) ws s = let o = s.rest_spells.first_spells in one (has_layout types) of (stored_laid (named_layout (length types) types) o.token of o.is)
      memory (instruction.Address to inbounds of base indices) ws s = let o = s.rest_spells.rest_spells.rest_spells in one (has_layout types) of (laid_one of o.front o.first_spells)
      memory (instruction.Call to of variadic what arguments) ws s = refl
      memory (instruction.Return value) ws s = refl
      memory (instruction.Jump target) ws s = refl
      memory (instruction.Branch condition on_true on_false) ws s = refl
      memory (instruction.Switch of value default cases) ws s = refl
      memory instruction.Unreachable ws s = refl

      pub indices_within : (i : InstructionV) (ws : List TokenV) → an_instruction known next defined i ws → indices_stand types i ≡ true
      unfolding indices_stand
      indices_within (instruction.Binary to op flags of left right) ws s = refl
      indices_within (instruction.Cast to op flags of value target) ws s = refl
      indices_within (instruction.Freeze to of value) ws s = refl
      indices_within (instruction.Compare to pred of left right) ws s = refl
      indices_within (instruction.Select to condition of on_true on_false) ws s = refl
      indices_within (instruction.Phi to of arms) ws s = refl
      indices_within (instruction.Alloca to of count) ws s = refl
      indices_within (instruction.Load to of pointer) ws s = refl
      indices_within (instruction.Store of value pointer) ws s = refl
      indices_within (instruction.Address to inbounds of base indices) ws s = let o = s.rest_spells.rest_spells.rest_spells.rest_spells.rest_spells.rest_spells in indices_walk types known describes of indices o.front o.first_spells
      indices_within (instruction.Call to of variadic what arguments) ws s = refl
      indices_within (instruction.Return value) ws s = refl
      indices_within (instruction.Jump target) ws s = refl
      indices_within (instruction.Branch condition on_true on_false) ws s = refl
      indices_within (instruction.Switch of value default cases) ws s = refl
      indices_within instruction.Unreachable ws s = refl
