-- Loops at the edges of the rules: each reason that leaves a loop out, and tests of other forms.
use Rattle.std.specs.Prelude.{ℕ, Bool, ◌≡◌, pos, codes, List, [], ◌∷◌, ◌++◌, map, true, false, Some, None}
use Rattle.pv_base.specs.Outside.{Text}
use Rattle.pv_base.specs.declared.name.Name.{Name}
use Rattle.pv_base.specs.declared.place.AllocSite.TheVariants as site
use Rattle.int_num.specs.declared.ops.BinOp.TheVariants as bin
use Rattle.int_num.specs.declared.ops.Pred.TheVariants.{Ult}
use Rattle.ir_tree.specs.declared.items.Param.{Param}
use Rattle.ir_tree.specs.declared.instruction.Instruction.TheVariants as tree
use Rattle.ir_tree.specs.Trees.{TypeV}
use Rattle.ir_rules.specs.Seen.{ModuleV, BlockV, InstructionV, OperandV}
use Rattle.profile_lines.specs.declared.profile.ObjectName.TheVariants.{Global}
use Rattle.profile_lines.specs.declared.profile.PhiWord.TheVariants as word
use Rattle.profile_lines.specs.declared.profile.PhiLine.{PhiLine}
use Rattle.profile_lines.specs.declared.profile.UseLine.{UseLine}
use Rattle.profile_lines.specs.declared.profile.ProfileLoop.{ProfileLoop}
use Rattle.profile_lines.specs.declared.profile.Profile.{Profile}
use Rattle.loop_plan.specs.declared.plan.Bound.{Bound}
use Rattle.loop_plan.specs.declared.plan.Bound.TheVariants.{Const, Register}
use Rattle.loop_plan.specs.declared.plan.CountedTest.{CountedTest}
use Rattle.loop_plan.specs.declared.plan.Plan.{Plan}
use Rattle.loop_plan.specs.declared.plan.Reason.TheVariants as reason
use Rattle.loop_plan.specs.Triples.{no_flags}
use Rattle.loop_plan.specs.Plans.{plan_of}
use Rattle.worked_plans.specs.Texts.{called, register, number, word as i32, block, jump, arm, counting, ends_with_0, named, use_line, phi_line, at}
use Rattle.worked_plans.specs.Plans.{counter, global, left, counted}

-- ---- profiles of one loop

abbrev pub stepping : List PhiLine
stepping = phi_line (codes "i") (word.Step (pos 1)) ∷ []

abbrev pub loop_at : Text → Text → List Text → List PhiLine → List UseLine → ProfileLoop
loop_at function header blocks phis uses = record {
  function = named function;
  header = named header;
  period = None;
  blocks = map named blocks;
  phis = phis;
  uses = uses;
  locals = [];
  flows = [];
  values = [];
}

abbrev pub seen : Text → List Text → List PhiLine → List UseLine → Profile
seen header blocks phis uses = record { version = 1; loops = loop_at (codes "main") header blocks phis uses ∷ [] }

-- of the loop that takes one from a counter
abbrev pub of_counter : Text → List Text → List UseLine → Plan
of_counter header blocks uses = plan_of (counter bin.Sub 1) (seen header blocks stepping uses)

-- ---- blocks

-- The header is the function's first block.
unfoldable pub HeaderIsFirst : Type 0
HeaderIsFirst = of_counter (codes "entry") (codes "entry" ∷ []) [] ≡ left reason.Entry

-- The header is not listed.
unfoldable pub HeaderIsNotListed : Type 0
HeaderIsNotListed = of_counter (codes "head") (codes "body" ∷ codes "latch" ∷ []) [] ≡ left reason.Entry

-- A listed block is entered from one that is not.
unfoldable pub EnteredFromOutside : Type 0
EnteredFromOutside = of_counter (codes "head") (codes "head" ∷ codes "latch" ∷ []) [] ≡ left reason.Entry

-- No listed block has an edge to the header.
unfoldable pub NoLatch : Type 0
NoLatch = of_counter (codes "head") (codes "head" ∷ codes "body" ∷ []) [] ≡ left reason.Latch

-- What is not there goes before all else.
unfoldable pub UnknownGoesFirst : Type 0
UnknownGoesFirst = of_counter (codes "entry") (codes "entry" ∷ []) (use_line 5 (Global (named (codes "n"))) ∷ []) ≡ left reason.Unknown

-- A load has one slot.
unfoldable pub UnknownSlot : Type 0
UnknownSlot = of_counter (codes "head") (codes "head" ∷ codes "body" ∷ codes "latch" ∷ []) (record (use_line 4 (Global (named (codes "n")))) { slot = 1 } ∷ []) ≡ left reason.Unknown

-- ---- functions of other forms

abbrev pub main_of : List (Param Name TypeV) → List BlockV → ModuleV
main_of params blocks = record {
  types = [];
  globals = [];
  functions = record { name = called (codes "main"); result = i32; params = params; variadic = false; blocks = blocks; declared = false } ∷ [];
}

abbrev pub add_one : InstructionV
add_one = tree.Binary (called (codes "i2")) bin.Add no_flags i32 (register (codes "i")) (number 1)

abbrev pub branch : Text → Text → InstructionV
branch inside outside = tree.Branch (register (codes "c")) (called inside) (called outside)

abbrev pub compare : OperandV → OperandV → InstructionV
compare a b = tree.Compare (called (codes "c")) Ult i32 a b

-- a loop of one header with these instructions, and a latch
abbrev pub headed : List (Param Name TypeV) → InstructionV → InstructionV → ModuleV
headed params phi test = main_of params
    (block (codes "entry") (jump (codes "head") ∷ [])
    ∷ block (codes "head") (phi ∷ test ∷ branch (codes "latch") (codes "done") ∷ [])
    ∷ block (codes "latch") (add_one ∷ jump (codes "head") ∷ [])
    ∷ block (codes "done") ends_with_0 ∷ [])

abbrev pub head_and_latch : Profile
head_and_latch = seen (codes "head") (codes "head" ∷ codes "latch" ∷ []) stepping []

-- the plan of a loop that touches nothing
abbrev pub untouched : ℕ → ℕ → List ℕ → CountedTest → Plan
untouched header latch blocks test = record {
  loops = record {
    number = 0;
    period = None;
    region = record { function = 0; header = header; latch = latch; blocks = blocks; phis = counted ∷ []; test = test };
    tags = [];
    expected = [];
    guesses = [];
    scratch = [];
  } ∷ [];
  left_out = [];
}

abbrev pub test_in : ℕ → Bool → Bool → Bound → CountedTest
test_in block latch_value tested_left bound =
    record { block = block; phi = at 1; latch_value = latch_value; step = pos 1; pred = Ult; tested_left = tested_left; into_on = true; bound = bound }

-- Two blocks have an edge to the header.
unfoldable pub TwoLatches : Type 0
TwoLatches =
    plan_of (main_of []
    (block (codes "entry") (jump (codes "head") ∷ [])
    ∷ block (codes "head") (counting ∷ compare (register (codes "i")) (number 9) ∷ branch (codes "latch") (codes "again") ∷ [])
    ∷ block (codes "latch") (add_one ∷ jump (codes "head") ∷ [])
    ∷ block (codes "again") (jump (codes "head") ∷ []) ∷ []))
    (seen (codes "head") (codes "head" ∷ codes "latch" ∷ codes "again" ∷ []) stepping [])
    ≡ left reason.Latch

-- A bound that is a parameter: the first register.
unfoldable pub BoundIsRegister : Type 0
BoundIsRegister =
    plan_of (headed (record { name = Some (called (codes "n")); of = i32 } ∷ []) counting (compare (register (codes "i")) (register (codes "n")))) head_and_latch
    ≡ untouched 1 2 (1 ∷ 2 ∷ []) (test_in 1 false true (Register 0))

-- A bound that the loop defines bounds nothing.
unfoldable pub BoundIsInLoop : Type 0
BoundIsInLoop = plan_of (headed [] counting (compare (register (codes "i")) (register (codes "i2")))) head_and_latch ≡ left reason.Test

-- The left operand is the constant that the phi takes from the latch; but what it is compared with is defined in the loop, so the right one is tested.
unfoldable pub RightIsTested : Type 0
RightIsTested =
    plan_of (headed [] (tree.Phi (called (codes "i")) i32 (arm (number 0) (codes "entry") ∷ arm (number 5) (codes "latch") ∷ [])) (compare (number 5) (register (codes "i")))) head_and_latch
    ≡ untouched 1 2 (1 ∷ 2 ∷ []) (test_in 1 false false (Const (record { width = 32; bits = 5 })))

-- A loop of one block: its header is its latch, and the value for the next turn is tested.
unfoldable pub HeaderIsLatch : Type 0
HeaderIsLatch =
    plan_of (main_of []
    (block (codes "entry") (jump (codes "head") ∷ [])
    ∷ block (codes "head")
    (tree.Phi (called (codes "i")) i32 (arm (number 0) (codes "entry") ∷ arm (register (codes "i2")) (codes "head") ∷ []) ∷ add_one ∷ compare (register (codes "i2")) (number 9) ∷ branch (codes "head") (codes "done") ∷ [])
    ∷ block (codes "done") ends_with_0 ∷ []))
    (seen (codes "head") (codes "head" ∷ []) stepping [])
    ≡ untouched 1 1 (1 ∷ []) (test_in 1 true true (Const (record { width = 32; bits = 9 })))

-- A phi that two instructions of the loop read is no reduction.
unfoldable pub ReadTwice : Type 0
ReadTwice =
    plan_of (main_of []
    (block (codes "entry") (jump (codes "head") ∷ [])
    ∷ block (codes "head") (counting ∷ tree.Phi (called (codes "s")) i32 (arm (number 0) (codes "entry") ∷ arm (register (codes "s2")) (codes "latch") ∷ []) ∷ compare (register (codes "i")) (number 9) ∷ branch (codes "latch") (codes "done") ∷ [])
    ∷ block (codes "latch") (tree.Binary (called (codes "s2")) bin.Add no_flags i32 (register (codes "s")) (register (codes "i")) ∷ tree.Freeze (called (codes "t")) i32 (register (codes "s")) ∷ add_one ∷ jump (codes "head") ∷ [])
    ∷ block (codes "done") ends_with_0 ∷ []))
    (seen (codes "head") (codes "head" ∷ codes "latch" ∷ []) (phi_line (codes "i") (word.Step (pos 1)) ∷ phi_line (codes "s") word.Reduce ∷ []) [])
    ≡ left reason.Phi

-- ---- two loops

-- the counter that is added to, and a function whose loop writes it
abbrev pub two_loops : ModuleV
two_loops = record {
  types = [];
  globals = (counter bin.Add 1).globals;
  functions = (counter bin.Add 1).functions ++ record {
    name = called (codes "f");
    result = i32;
    params = [];
    variadic = false;
    blocks =
        block (codes "entry") (jump (codes "head") ∷ [])
        ∷ block (codes "head") (counting ∷ compare (register (codes "i")) (number 9) ∷ branch (codes "latch") (codes "done") ∷ [])
        ∷ block (codes "latch") (tree.Store i32 (register (codes "i")) (global (codes "n")) ∷ add_one ∷ jump (codes "head") ∷ [])
        ∷ block (codes "done") ends_with_0 ∷ [];
    declared = false;
  } ∷ [];
}

abbrev pub touching : Text → ℕ → UseLine
touching function place = record { at = record { function = named function; place = place }; slot = 0; object = Global (named (codes "n")) }

-- The second loop would make private what the first one reduces.
unfoldable pub LoopsDisagree : Type 0
LoopsDisagree =
    (plan_of two_loops (record {
      version = 1;
      loops =
          loop_at (codes "main") (codes "head") (codes "head" ∷ codes "body" ∷ codes "latch" ∷ []) stepping (touching (codes "main") 4 ∷ touching (codes "main") 6 ∷ [])
          ∷ loop_at (codes "f") (codes "head") (codes "head" ∷ codes "latch" ∷ []) stepping (touching (codes "f") 4 ∷ [])
          ∷ [];
    })).left_out
    ≡ record { number = 1; reason = reason.Incompatible (site.Global 0) } ∷ []
