-- How the modules and profiles of the worked plans are written: each has one loop that counts from 0 in `main`.
use Rattle.std.specs.Prelude.{ℕ, List, [], ◌∷◌, ◌++◌, codes, false, Some, None}
use Rattle.pv_base.specs.declared.name.Name.{Name}
use Rattle.pv_base.specs.declared.name.Name.TheVariants as name
use Rattle.pv_base.specs.Outside.{Text}
use Rattle.pv_base.specs.declared.place.Site.{Site}
use Rattle.int_num.specs.declared.ops.BinOp.TheVariants.{Add}
use Rattle.int_num.specs.declared.ops.Pred.TheVariants.{Slt}
use Rattle.ir_tree.specs.declared.instruction.Operand.TheVariants.{Register, Constant}
use Rattle.ir_tree.specs.declared.instruction.Instruction.TheVariants as tree
use Rattle.ir_tree.specs.Trees.{TypeV, IntV, ConstantV, IntegerC}
use Rattle.ir_rules.specs.Seen.{FunctionV, BlockV, GlobalV, InstructionV, OperandV, ArmV}
use Rattle.profile_lines.specs.declared.profile.ProfileName.{ProfileName}
use Rattle.profile_lines.specs.declared.profile.ProfileName.TheVariants.{Named}
use Rattle.profile_lines.specs.declared.profile.SiteName.{SiteName}
use Rattle.profile_lines.specs.declared.profile.ObjectName.{ObjectName}
use Rattle.profile_lines.specs.declared.profile.PhiWord.{PhiWord}
use Rattle.profile_lines.specs.declared.profile.PhiLine.{PhiLine}
use Rattle.profile_lines.specs.declared.profile.UseLine.{UseLine}
use Rattle.profile_lines.specs.declared.profile.FlowLine.{FlowLine}
use Rattle.profile_lines.specs.declared.profile.ValueLine.{ValueLine}
use Rattle.profile_lines.specs.declared.profile.Profile.{Profile}
use Rattle.loop_plan.specs.Triples.{no_flags}

-- ---- modules

abbrev pub called : Text → Name
called x = name.Named x

abbrev pub register : Text → OperandV
register x = Register (called x)

-- a constant of 32 bits
abbrev pub number : ℕ → OperandV
number n = Constant (IntegerC (record { width = 32; bits = n }))

abbrev pub word : TypeV
word = IntV 32

abbrev pub block : Text → List InstructionV → BlockV
block label instructions = record { label = called label; instructions = instructions }

abbrev pub jump : Text → InstructionV
jump label = tree.Jump (called label)

abbrev pub arm : OperandV → Text → ArmV
arm value from = record { value = value; from = called from }

-- a global variable of a type
abbrev pub variable : Text → TypeV → ConstantV → GlobalV
variable x of init = record { name = called x; of = of; constant = false; init = init }

-- the phi that counts
abbrev pub counting : InstructionV
counting = tree.Phi (called (codes "i")) word (arm (number 0) (codes "entry") ∷ arm (register (codes "i2")) (codes "latch") ∷ [])

-- `main` with a loop of this many turns: further phis of its header, the blocks of its body, and what it ends with
abbrev pub looping : ℕ → List InstructionV → List BlockV → List InstructionV → FunctionV
looping turns phis body last = record {
  name = called (codes "main");
  result = word;
  params = [];
  variadic = false;
  blocks =
      block (codes "entry") (jump (codes "head") ∷ [])
      ∷ block (codes "head") (counting ∷ phis ++ tree.Compare (called (codes "c")) Slt word (register (codes "i")) (number turns) ∷ tree.Branch (register (codes "c")) (called (codes "body")) (called (codes "done")) ∷ [])
      ∷ body
      ++ block (codes "latch") (tree.Binary (called (codes "i2")) Add no_flags word (register (codes "i")) (number 1) ∷ jump (codes "head") ∷ [])
      ∷ block (codes "done") last
      ∷ [];
  declared = false;
}

-- `ret i32 0`
abbrev pub ends_with_0 : List InstructionV
ends_with_0 = tree.Return (Some (record { of = word; value = number 0 })) ∷ []

-- ---- profiles

abbrev pub named : Text → ProfileName
named x = Named x

abbrev pub in_main : ℕ → SiteName
in_main place = record { function = named (codes "main"); place = place }

-- an instruction of `main` touched an object by its slot 0
abbrev pub use_line : ℕ → ObjectName → UseLine
use_line place object = record { at = in_main place; slot = 0; object = object }

abbrev pub phi_line : Text → PhiWord → PhiLine
phi_line x guess = record { register = named x; guess = guess }

-- the profile of the loop at `%head`: its phis, uses, locals, flows and values
abbrev pub profiled : List PhiLine → List UseLine → List SiteName → List FlowLine → List ValueLine → Profile
profiled phis uses locals flows values = record {
  version = 1;
  loops = record {
    function = named (codes "main");
    header = named (codes "head");
    period = None;
    blocks = named (codes "head") ∷ named (codes "body") ∷ named (codes "latch") ∷ [];
    phis = phis;
    uses = uses;
    locals = locals;
    flows = flows;
    values = values;
  } ∷ [];
}

-- a site of `main`, which is the first function
abbrev pub at : ℕ → Site
at place = record { function = 0; place = place }
