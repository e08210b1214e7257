-- The constants of an instruction that is spelled stand.
use Rattle.std.proofs.Common.{◌≡◌, ℕ, Bool, true, List, [], ◌∷◌, ◌++◌, Option, Some, None, Ok, refl, subst, ◌∙◌, inl, inr}
use Rattle.std.specs.Prelude.{map, ◌&&◌}
use Rattle.std.specs.List.{list_all}
use Rattle.std.proofs.lemmas.List.Folds.{list_all-append, list_all-map}
use Rattle.pv_base.specs.declared.name.Name.{Name}
use Rattle.ir_lex.specs.declared.token.TokenKind.{TokenKind}
use Rattle.ir_lex.specs.declared.token.TokenKind.TheVariants as kind
use Rattle.ir_tree.specs.declared.instruction.Argument.{Argument}
use Rattle.ir_tree.specs.declared.instruction.Arm.{Arm}
use Rattle.ir_tree.specs.declared.instruction.Callee.{Callee}
use Rattle.ir_tree.specs.declared.instruction.Callee.TheVariants as callee
use Rattle.ir_tree.specs.declared.instruction.Case.{Case}
use Rattle.ir_tree.specs.declared.instruction.Instruction.TheVariants as instruction
use Rattle.ir_tree.specs.declared.instruction.Operand.{Operand}
use Rattle.ir_tree.specs.declared.instruction.Operand.TheVariants as operand
use Rattle.ir_tree.specs.declared.items.NamedType.{NamedType}
use Rattle.ir_tree.specs.Trees.{TypeV, IntV, PtrV, ArrayV, StructV, VoidV, NamedV, ConstantV}
use Rattle.ir_text.specs.Tokens.{TokenV}
use Rattle.ir_text.specs.Constants.{width_of}
use Rattle.ir_text.specs.Lists.{closed_list, behind_item}
use Rattle.ir_text.specs.Operands.{register_by, an_operand}
use Rattle.ir_text.specs.Repeated.{each, each_under}
use Rattle.ir_text.specs.Types.{Known}
use Rattle.ir_text.specs.TypeSpelled.{◌▸◌, a_mark}
use Rattle.ir_instr.specs.Addresses.{Into, Whole, Inside, Faulty, opened, next_into}
use Rattle.ir_instr.specs.Control.{with_case}
use Rattle.ir_instr.specs.InstructionSpelled.{an_argument, an_arm, some_arms, ACase, an_index_into, an_index, some_indices, an_instruction}
use Rattle.ir_rules.specs.declared.given.Given.TheVariants.{Written}
use Rattle.ir_rules.specs.declared.given.Use.{Use}
use Rattle.ir_rules.specs.Forms.{used, uses, argument_use, callee_uses}
use Rattle.ir_rules.specs.Reading.{operand_stands, constants_stand}
use Rattle.ir_rules.specs.Seen.{InstructionV}
use Rattle.read_laws.specs.Describing.{Describes}
use Rattle.read_laws.proofs.Constants.{spelled_constant}
use Rattle.read_laws.proofs.Forms.{more}

abbrev Value : Type 0
Value = Operand Name ConstantV

abbrev Index : Type 0
Index = Argument Name TypeV ConstantV

also : {a b : Bool} → a ≡ true → b ≡ true → (a && b) ≡ true
also here others = rw (here, others) refl

only : {a : Bool} → a ≡ true → (a && true) ≡ true
only here = rw here refl

module _ (known : Known) (types : List (NamedType Name TypeV)) (describes : Describes known types) where
  abbrev stands : Use Name TypeV ConstantV → Bool
  stands u = operand_stands types u.value

  register_of : (k : TokenKind) (t : TokenV) (o : Value) → register_by k t ≡ Ok o → operand_stands types o ≡ true
  register_of kind.LocalName t (operand.Register name) e = refl
  register_of kind.LocalName t (operand.Constant c) e = absurd cc
  register_of kind.Word t o e = absurd cc
  register_of kind.Punct t o e = absurd cc
  register_of kind.GlobalName t o e = absurd cc
  register_of kind.Label t o e = absurd cc
  register_of kind.Integer t o e = absurd cc
  register_of kind.Text t o e = absurd cc

  pub operand_one : (of : TypeV) (o : Value) (ws : List TokenV) → an_operand known of o ws → operand_stands types o ≡ true
  operand_one of o ws (inl s) = subst (λ (x : Value). operand_stands types x ≡ true) s.rest_spells.0 (spelled_constant known types describes (width_of of) s.value s.front s.first_spells)
  operand_one of o ws (inr s) = register_of s.token.kind s.token o s.is

  -- ---- lists

  arms_stand : (of : TypeV) (arms : List (Arm Name ConstantV)) (ws : List TokenV) → each (λ a. a_mark 44 ▸ an_arm known of a) arms ws → list_all (λ a. operand_stands types a.value) arms ≡ true
  arms_stand of [] ws s = refl
  arms_stand of (a ∷ arms) ws s =
      let o = s.first_spells.rest_spells.rest_spells in
      more (λ (x : Arm Name ConstantV). operand_stands types x.value) a arms (operand_one of a.value o.front o.first_spells) (arms_stand of arms s.rest s.rest_spells)

  all_arms : (of : TypeV) (arms : List (Arm Name ConstantV)) (ws : List TokenV) → some_arms known of arms ws → list_all (λ a. operand_stands types a.value) arms ≡ true
  all_arms of [] ws s = refl
  all_arms of (a ∷ arms) ws s =
      let o = s.first_spells.rest_spells in
      more (λ (x : Arm Name ConstantV). operand_stands types x.value) a arms (operand_one of a.value o.front o.first_spells) (arms_stand of arms s.rest s.rest_spells)

  into_one : (o : Option TypeV) (a : Index) (ws : List TokenV) → an_index_into known o a ws → operand_stands types a.value ≡ true
  into_one None a ws s = operand_one a.of a.value s.rest s.rest_spells
  into_one (Some (ArrayV n of)) a ws s = operand_one a.of a.value s.rest s.rest_spells
  into_one (Some (StructV packed fields)) a ws s = operand_one (IntV 32) a.value s.spelled.rest s.spelled.rest_spells
  into_one (Some (IntV w)) a ws s = absurd s
  into_one (Some PtrV) a ws s = absurd s
  into_one (Some VoidV) a ws s = absurd s
  into_one (Some (NamedV name)) a ws s = absurd s

  index_one : (into : Into) (a : Index) (ws : List TokenV) → an_index known into a ws → operand_stands types a.value ≡ true
  index_one (Whole of) a ws s = operand_one a.of a.value s.rest s.rest_spells
  index_one (Inside of) a ws s = into_one (opened known of) a ws s
  index_one Faulty a ws s = operand_one a.of a.value s.rest s.rest_spells

  indices_stand : (into : Into) (all : List Index) (ws : List TokenV) → each_under (λ i a. a_mark 44 ▸ an_index known i a) (next_into known) into all ws → list_all (λ a. operand_stands types a.value) all ≡ true
  indices_stand into [] ws s = refl
  indices_stand into (a ∷ all) ws s =
      more (λ (x : Index). operand_stands types x.value) a all (index_one into a s.first_spells.rest s.first_spells.rest_spells) (indices_stand (next_into known into a) all s.rest s.rest_spells)

  all_indices : (of : TypeV) (all : List Index) (ws : List TokenV) → some_indices known of all ws → list_all (λ a. operand_stands types a.value) all ≡ true
  all_indices of [] ws s = refl
  all_indices of (a ∷ all) ws s =
      more (λ (x : Index). operand_stands types x.value) a all (index_one (Whole of) a s.rest_spells.front s.rest_spells.first_spells) (indices_stand (Inside of) all s.rest_spells.rest s.rest_spells.rest_spells)

  argument_one : (a : Index) (ws : List TokenV) → an_argument known a ws → operand_stands types a.value ≡ true
  argument_one a ws s = operand_one a.of a.value s.rest_spells.rest s.rest_spells.rest_spells

  behind_stand : (all : List Index) (ws : List TokenV) → behind_item 41 (an_argument known) all ws → list_all (λ a. operand_stands types a.value) all ≡ true
  behind_stand [] ws s = refl
  behind_stand (a ∷ all) ws s =
      more (λ (x : Index). operand_stands types x.value) a all (argument_one a s.rest_spells.front s.rest_spells.first_spells) (behind_stand all s.rest_spells.rest s.rest_spells.rest_spells)

  all_arguments : (all : List Index) (ws : List TokenV) → closed_list 41 (an_argument known) all ws → list_all (λ a. operand_stands types a.value) all ≡ true
  all_arguments [] ws s = refl
  all_arguments (a ∷ all) ws s = more (λ (x : Index). operand_stands types x.value) a all (argument_one a s.front s.first_spells) (behind_stand all s.rest s.rest_spells)

  all_cases : (of : TypeV) (earlier : List ℕ) (cases : List (Case Name ConstantV)) (ws : List TokenV) → each_under (ACase known of) with_case earlier cases ws → list_all (λ c. operand_stands types (operand.Constant c.value)) cases ≡ true
  all_cases of earlier [] ws s = refl
  all_cases of earlier (c ∷ cases) ws s =
      let o = s.first_spells.spelled.rest_spells in
      more (λ (x : Case Name ConstantV). operand_stands types (operand.Constant x.value)) c cases (spelled_constant known types describes (width_of of) c.value o.front o.first_spells) (all_cases of (with_case earlier c) cases s.rest s.rest_spells)

  argument_uses_are : (all : List Index) → list_all stands (map argument_use all) ≡ list_all (λ a. operand_stands types a.value) all
  argument_uses_are all = list_all-map stands argument_use all

  callee_stands : (what : Callee Name) → list_all stands (callee_uses what) ≡ true
  callee_stands (callee.Function name) = refl
  callee_stands (callee.Pointer name) = refl

  call_stands : (what : Callee Name) (all : List Index) (ws : List TokenV) → closed_list 41 (an_argument known) all ws → list_all stands (callee_uses what ++ map argument_use all) ≡ true
  call_stands what all ws s =
      let first = callee_stands what in
      let others : list_all stands (map argument_use all) ≡ true = argument_uses_are all ∙ all_arguments all ws s in
      list_all-append stands (callee_uses what) (map argument_use all) ∙ rw (first, others) refl

  module _ (next : ℕ) (defined : List Name) where
    pub constants : (i : InstructionV) (ws : List TokenV) → an_instruction known next defined i ws → constants_stand types i ≡ true
    unfolding uses
    constants (instruction.Binary to op flags of left right) ws s =
        let l = s.rest_spells.rest_spells.rest_spells.rest_spells in
        let r = l.rest_spells.rest_spells in
        also (operand_one of left l.front l.first_spells) (only (operand_one of right r.front r.first_spells))
    constants (instruction.Cast to op flags of value target) ws s = let o = s.rest_spells.rest_spells.rest_spells.rest_spells in only (operand_one of value o.front o.first_spells)
    constants (instruction.Freeze to of value) ws s = let o = s.rest_spells.rest_spells.rest_spells in only (operand_one of value o.front o.first_spells)
    constants (instruction.Compare to pred of left right) ws s =
        let l = s.rest_spells.rest_spells.rest_spells.rest_spells.rest_spells in
        let r = l.rest_spells.rest_spells in
        also (operand_one of left l.front l.first_spells) (only (operand_one of right r.front r.first_spells))
    constants (instruction.Select to condition of on_true on_false) ws s =
        let c = s.rest_spells.rest_spells.rest_spells in
        let l = c.rest_spells.rest_spells.rest_spells in
        let r = l.rest_spells.rest_spells.rest_spells in
        also (operand_one (IntV 1) condition c.front c.first_spells) (also (operand_one of on_true l.front l.first_spells) (only (operand_one of on_false r.front r.first_spells)))
    constants (instruction.Phi to of arms) ws s = let o = s.rest_spells.rest_spells.rest_spells in list_all-map stands (λ (a : Arm Name ConstantV). used a.value (Written of)) arms ∙ all_arms of arms o.front o.first_spells
    constants (instruction.Alloca to of None) ws s = refl
    constants (instruction.Alloca to of (Some count)) ws s = let c = s.rest_spells.rest_spells.rest_spells.first_spells.rest_spells in only (operand_one count.of count.value c.rest c.rest_spells)
    constants (instruction.Load to of pointer) ws s = let p = s.rest_spells.rest_spells.rest_spells.rest_spells.first_spells in only (operand_one PtrV pointer p.rest p.rest_spells)
    constants (instruction.Store of value pointer) ws s =
        let o = s.rest_spells.rest_spells in
        let p = o.rest_spells.rest_spells.first_spells in
        also (operand_one of value o.front o.first_spells) (only (operand_one PtrV pointer p.rest p.rest_spells))
    constants (instruction.Address to inbounds of base indices) ws s =
        let o = s.rest_spells.rest_spells.rest_spells.rest_spells.rest_spells in
        let p = o.first_spells in
        also (operand_one PtrV base p.rest p.rest_spells) (argument_uses_are indices ∙ all_indices of indices o.rest_spells.front o.rest_spells.first_spells)
    constants (instruction.Call (Some to) of variadic what arguments) ws s =
        let a = s.rest_spells.rest_spells.rest_spells.rest_spells.rest_spells.rest_spells.rest_spells.rest_spells in
        call_stands what arguments a.front a.first_spells
    constants (instruction.Call None of variadic what arguments) ws s = let a = s.rest_spells.rest_spells.rest_spells.rest_spells.rest_spells.rest_spells.rest_spells in call_stands what arguments a.front a.first_spells
    constants (instruction.Return None) ws s = refl
    constants (instruction.Return (Some a)) ws s = let o = s.rest_spells.first_spells in only (operand_one a.of a.value o.rest o.rest_spells)
    constants (instruction.Jump target) ws s = refl
    constants (instruction.Branch condition on_true on_false) ws s = let o = s.rest_spells.rest_spells in only (operand_one (IntV 1) condition o.front o.first_spells)
    constants (instruction.Switch of value default cases) ws s =
        let o = s.rest_spells.rest_spells in
        let c = o.rest_spells.rest_spells.rest_spells.rest_spells in
        also (operand_one of value o.front o.first_spells) (list_all-map stands (λ (c : Case Name ConstantV). used (operand.Constant c.value) (Written of)) cases ∙ all_cases of [] cases c.front c.first_spells)
    constants instruction.Unreachable ws s = refl
