-- A loop that counts up to three with a body of a few instructions, in its code, its plan and the state in which it begins.
use Rattle.std.specs.Prelude.{ℕ, ◌+◌, pos, false, true, List, [], ◌∷◌, ◌++◌, length, Option, Some, None}
use Rattle.int_num.specs.Integer.{Integer}
use Rattle.int_num.specs.declared.ops.BinOp.TheVariants as bin
use Rattle.int_num.specs.declared.ops.Pred.TheVariants.{Slt}
use Rattle.pv_base.specs.declared.place.Site.{Site}
use Rattle.pv_base.specs.declared.place.AllocSite.TheVariants.{Global}
use Rattle.pv_base.specs.declared.place.Heap.TheVariants.{Private}
use Rattle.ir_tree.specs.declared.plans.Expect.{Expect}
use Rattle.ir_code.specs.declared.op.Scalar.TheVariants as scalar
use Rattle.ir_code.specs.declared.op.Fixed.TheVariants as fixed
use Rattle.ir_code.specs.declared.op.Operand.{Operand}
use Rattle.ir_code.specs.declared.op.Operand.TheVariants.{Register, Constant}
use Rattle.ir_code.specs.declared.op.Op.{Op}
use Rattle.ir_code.specs.declared.op.Op.TheVariants as op
use Rattle.ir_code.specs.declared.code.Code.{Code}
use Rattle.loop_plan.specs.declared.plan.PhiGuess.TheVariants as guess
use Rattle.loop_plan.specs.declared.plan.Bound.TheVariants.{Const}
use Rattle.loop_plan.specs.declared.plan.Region.{Region}
use Rattle.loop_plan.specs.declared.plan.LoopPlan.{LoopPlan}
use Rattle.loop_plan.specs.Triples.{no_flags}
use Rattle.mem_image.specs.declared.object.Byte.TheVariants.{Num}
use Rattle.mem_image.specs.declared.object.Kind.TheVariants as kind
use Rattle.mem_image.specs.Picture.{Picture}
use Rattle.seq_effects.specs.declared.state.Value.{Value}
use Rattle.seq_effects.specs.declared.state.Value.TheVariants.{Int}
use Rattle.seq_machine.specs.declared.state.State.{State}
use Rattle.span_types.specs.declared.span.Span.{Span}

abbrev pub number : ℕ → Integer
number n = record { width = 32; bits = n }

abbrev pub at : ℕ → Site
at place = record { function = 0; place = place }

abbrev pub constant : ℕ → Operand
constant n = Constant (fixed.Int (number n))

-- the byte of the only global
abbrev pub byte : Operand
byte = Constant (fixed.Global 0 (pos 0))

-- Registers: the counter, the test, the counter's next value, and a byte. The header is block 1, and the body is at the start of the
-- latch, block 2.
abbrev pub counting : List Op → Code
counting body = record {
  functions = record {
    parameters = [];
    result = Some (scalar.Int 32);
    registers = scalar.Int 32 ∷ scalar.Int 1 ∷ scalar.Int 32 ∷ scalar.Int 8 ∷ [];
    blocks =
        record { first = 0; phis = 0; ops = op.Jump 0 ∷ [] }
        ∷ record { first = 1; phis = 1; ops = op.Phi ∷ op.Compare 1 Slt (Register 0) (constant 3) ∷ op.Branch (Register 1) 1 2 ∷ [] }
        ∷ record { first = 4; phis = 0; ops = body ++ op.Binary 2 bin.Add no_flags (Register 0) (constant 1) ∷ op.Jump 3 ∷ [] }
        ∷ record { first = 6 + length body; phis = 0; ops = op.Return (Some (constant 0)) ∷ [] }
        ∷ [];
    edges =
        record { to = 1; moves = record { register = 0; value = constant 0 } ∷ [] }
        ∷ record { to = 2; moves = [] }
        ∷ record { to = 3; moves = [] }
        ∷ record { to = 1; moves = record { register = 0; value = Register 2 } ∷ [] }
        ∷ [];
    external = None;
    declared = false;
  } ∷ [];
  main = Some 0;
}

-- each turn writes the byte
abbrev pub writing : Code
writing = counting (op.Store (scalar.Int 8) (Constant (fixed.Int (record { width = 8; bits = 65 }))) byte ∷ [])

-- each turn reads the byte and writes it back
abbrev pub rewriting : Code
rewriting = counting (op.Load 3 (scalar.Int 8) byte ∷ op.Store (scalar.Int 8) (Register 3) byte ∷ [])

abbrev pub region : Region
region = record {
  function = 0;
  header = 1;
  latch = 2;
  blocks = 1 ∷ 2 ∷ [];
  phis = record { phi = at 1; guess = guess.Step (pos 1) } ∷ [];
  test = record { block = 1; phi = at 1; latch_value = false; step = pos 1; pred = Slt; tested_left = true; into_on = true; bound = Const (number 3) };
}

abbrev pub expect : ℕ → Expect
expect place = record { at = at place; slot = 0; heap = Private }

-- the byte is private
abbrev pub plan : LoopPlan
plan = record {
  number = 0;
  period = None;
  region = region;
  tags = (Global 0, record { heap = Private; kind = None }) ∷ [];
  expected = expect 4 ∷ expect 5 ∷ [];
  guesses = [];
  scratch = [];
}

-- ---- states

abbrev pub global : ℕ → Picture
global n = record { objects = record { name = 0; site = Global 0; kind = kind.Global; fixed = false; bytes = Num n ∷ [] } ∷ []; next = 1 }

abbrev pub state : ℕ → ℕ → List (Option Value) → Picture → ℕ → State Picture
state block place registers m steps =
    record { frames = record { function = 0; block = block; place = place; registers = registers; own = [] } ∷ []; memory = m; input_place = 0; output = []; steps = steps }

-- the program begins here
abbrev pub first : State Picture
first = state 0 0 (None ∷ None ∷ None ∷ None ∷ []) (global 100) 0

-- and comes to the header here
abbrev pub base : State Picture
base = state 1 1 (Some (Int (number 0)) ∷ None ∷ None ∷ None ∷ []) (global 100) 1

-- its three turns as a span
abbrev pub span : ℕ → ℕ → Span
span workers period = record { base = base; loop_number = 0; turns = 3; period = period; workers = workers; budget = 100 }
