-- The numbers in an instruction, by what they are.
use Rattle.std.proofs.Common.{◌≡◌, ℕ, true}
use Rattle.std.specs.List.{AllByRecursion}
use Rattle.ir_tree.specs.declared.instruction.Instruction.{Instruction}
use Rattle.ir_tree.specs.Table.{Table}
use Rattle.ir_rules.specs.declared.given.Use.{Use}
use Rattle.ir_rules.specs.Forms.{result_of, uses, targets, sources, memory_types, cast_types, called_types, called_names}
use Rattle.ir_rules.specs.Numbering.{is_name, is_type, operand_within, given_within, use_within, result_within, instruction_within}
use Rattle.ir_rules.proofs.SameLemmas.{and_both}
use Rattle.code_laws.proofs.Steps.{all_of, all_then}

abbrev pub IsUse : Table → Use ℕ ℕ ℕ → Type 0
IsUse t u = (operand_within t u.value ≡ true) × (given_within t u.of ≡ true)

abbrev pub IsName : Table → ℕ → Type 0
IsName t k = is_name t k ≡ true

abbrev pub IsType : Table → ℕ → Type 0
IsType t k = is_type t k ≡ true

pub record InstructionParts (t : Table) (i : Instruction ℕ ℕ ℕ) : Type 0 where
  pub result : result_within t (result_of i) ≡ true
  pub uses : AllByRecursion (IsUse t) (uses i)
  pub targets : AllByRecursion (IsName t) (targets i)
  pub sources : AllByRecursion (IsName t) (sources i)
  pub memory : AllByRecursion (IsType t) (memory_types i)
  pub cast : AllByRecursion (IsType t) (cast_types i)
  pub types : AllByRecursion (IsType t) (called_types i)
  pub names : AllByRecursion (IsName t) (called_names i)

pub instruction_parts : (t : Table) (i : Instruction ℕ ℕ ℕ) → instruction_within t i ≡ true → InstructionParts t i
instruction_parts t i e =
    let a = and_both _ _ e in
    let b = and_both _ _ a.0 in
    let c = and_both _ _ b.0 in
    let d = and_both _ _ c.0 in
    let f = and_both _ _ d.0 in
    let g = and_both _ _ f.0 in
    let h = and_both _ _ g.0 in
    record {
      result = h.0;
      uses = all_then (λ u. use_within t u ≡ true) (IsUse t) (λ u x. and_both _ _ x) (uses i) (all_of (use_within t) (uses i) h.1);
      targets = all_of (is_name t) (targets i) g.1;
      sources = all_of (is_name t) (sources i) f.1;
      memory = all_of (is_type t) (memory_types i) d.1;
      cast = all_of (is_type t) (cast_types i) c.1;
      types = all_of (is_type t) (called_types i) b.1;
      names = all_of (is_name t) (called_names i) a.1;
    }
