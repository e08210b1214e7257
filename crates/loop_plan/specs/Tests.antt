-- The counted test of a loop: the branch that leads into the loop as long as a counter is on one side of a bound.
use Rattle.std.specs.Prelude.{ℕ, ℤ, Bool, true, false, List, [], ◌∷◌, ◌++◌, find, Option, Some, None, option_map, option_and_then, slice_get, if◌then◌else◌}
use Rattle.std.specs.List.{list_any, last_or}
use Rattle.std.specs.Option.{option_or, option_map_or}
use Rattle.int_num.specs.declared.ops.Pred.{Pred}
use Rattle.pv_base.specs.declared.name.Name.{Name}
use Rattle.pv_base.specs.declared.place.Site.{Site}
use Rattle.ir_tree.specs.declared.instruction.Operand.TheVariants as operand
use Rattle.ir_tree.specs.declared.instruction.Instruction.TheVariants as tree
use Rattle.ir_tree.specs.Trees.{IntV, ConstantV, IntegerC, ZeroC}
use Rattle.ir_rules.specs.Seen.{FunctionV, BlockV, InstructionV, OperandV}
use Rattle.ir_rules.specs.Same.{same_operand}
use Rattle.loop_plan.specs.declared.plan.PhiGuess.{PhiGuess}
use Rattle.loop_plan.specs.declared.plan.PhiGuess.TheVariants as guess
use Rattle.loop_plan.specs.declared.plan.PhiPlan.{PhiPlan}
use Rattle.loop_plan.specs.declared.plan.Bound.{Bound}
use Rattle.loop_plan.specs.declared.plan.Bound.TheVariants.{Const, Register}
use Rattle.loop_plan.specs.declared.plan.CountedTest.{CountedTest}
use Rattle.loop_plan.specs.Naming.{defines, register_of, block_named}
use Rattle.loop_plan.specs.Triples.{is_register}
use Rattle.loop_plan.specs.Phis.{PhiV, value_from}
use Rattle.loop_plan.specs.Regions.{among}

-- a phi that steps, with its site
pub record Counter : Type 0 where
  pub phi : Site
  pub step : ℤ
  pub parts : PhiV

abbrev pub stepping : Site → PhiGuess → PhiV → List Counter
stepping at (guess.Step by) parts = record { phi = at; step = by; parts = parts } ∷ []
stepping at g parts = []

abbrev pub counter : PhiPlan → PhiV → List Counter
counter p parts = stepping p.phi p.guess parts

-- the header's phis that step, in its order
abbrev pub counters_of : List PhiPlan → List PhiV → List Counter
counters_of [] parts = []
counters_of (p ∷ ps) [] = []
counters_of (p ∷ ps) (x ∷ xs) = counter p x ++ counters_of ps xs

-- a comparison of integers of a width
pub record Comparison : Type 0 where
  pub width : ℕ
  pub pred : Pred
  pub left : OperandV
  pub right : OperandV

abbrev pub comparison : InstructionV → Option Comparison
comparison (tree.Compare to pred (IntV width) left right) = Some (record { width = width; pred = pred; left = left; right = right })
comparison i = None

-- a branch on a register, one of whose targets is listed and the other is not: the register, and whether it leads into the loop where
-- the register is true
pub record Exit : Type 0 where
  pub condition : Name
  pub into_on : Bool

-- what is tested: a phi that steps, or its value from the latch
pub record Tested : Type 0 where
  pub counter : Counter
  pub latch_value : Bool

-- over a function, a loop's blocks, the instructions of these, the label of the latch and the header's phis that step
module _ (f : FunctionV) (blocks : List ℕ) (inside : List InstructionV) (latch : Name) (counters : List Counter) where
  abbrev pub is_listed : Name → Bool
  is_listed label = option_map_or (λ b. among b blocks) (block_named f label) false

  abbrev pub leaving : Name → Bool → Bool → Option Exit
  leaving x true false = Some (record { condition = x; into_on = true })
  leaving x false true = Some (record { condition = x; into_on = false })
  leaving x a b = None

  abbrev pub exit : InstructionV → Option Exit
  exit (tree.Branch (operand.Register x) on_true on_false) = leaving x (is_listed on_true) (is_listed on_false)
  exit i = None

  -- ---- the tested operand

  -- the counter that is this register
  abbrev pub as_phi : OperandV → Option Tested
  as_phi o = option_map (λ c. record { counter = c; latch_value = false }) (find (λ c. is_register c.parts.to o) counters)

  abbrev pub takes : OperandV → Counter → Bool
  takes o c = option_map_or (same_operand o) (value_from latch c.parts) false

  -- the first counter that takes this operand from the latch
  abbrev pub as_latch_value : OperandV → Option Tested
  as_latch_value o = option_map (λ c. record { counter = c; latch_value = true }) (find (takes o) counters)

  abbrev pub tested : OperandV → Option Tested
  tested o = option_or (as_phi o) (as_latch_value o)

  -- ---- the bound

  abbrev pub constant_bound : ℕ → ConstantV → Option Bound
  constant_bound width (IntegerC n) = Some (Const n)
  constant_bound width ZeroC = Some (Const (record { width = width; bits = 0 }))
  constant_bound width c = None

  -- a constant, or a register that no instruction of the loop defines
  abbrev pub bound : ℕ → OperandV → Option Bound
  bound width (operand.Register x) = if list_any (defines x) inside then None else option_map Register (register_of f x)
  bound width (operand.Constant c) = constant_bound width c

  -- ---- the test

  abbrev pub with_both : ℕ → Bool → Bool → Pred → Option Tested → Option Bound → Option CountedTest
  with_both block into_on left pred (Some t) (Some b) =
      Some (record { block = block; phi = t.counter.phi; latch_value = t.latch_value; step = t.counter.step; pred = pred; tested_left = left; into_on = into_on; bound = b })
  with_both block into_on left pred t b = None

  -- the left operand is tested first, and then the right one
  abbrev pub compared : ℕ → Bool → Comparison → Option CountedTest
  compared block into_on c =
      option_or (with_both block into_on true c.pred (tested c.left) (bound c.width c.right))
      (with_both block into_on false c.pred (tested c.right) (bound c.width c.left))

  -- the branch at the end of a block on a comparison in that block
  abbrev pub ended_by : ℕ → BlockV → Exit → Option CountedTest
  ended_by number b e = option_and_then (compared number e.into_on) (option_and_then comparison (find (defines e.condition) b.instructions))

  abbrev pub test_of : ℕ → BlockV → Option CountedTest
  test_of number b = option_and_then (ended_by number b) (option_and_then exit (last_or None b.instructions))

  -- the test that a block of this number ends in
  abbrev pub test_at : ℕ → Option CountedTest
  test_at number = option_and_then (test_of number) (slice_get f.blocks number)

  -- the header's, or else the latch's
  abbrev pub counted_test : ℕ → ℕ → Option CountedTest
  counted_test header last = option_or (test_at header) (test_at last)
