-- The phis of a loop's header, and whether the lines of a profile fit them.
use Rattle.std.specs.Prelude.{ℕ, suc, Bool, true, false, ◌&&◌, nat_eq, List, [], ◌∷◌, length, take, find, position, count_by, Option, Some, None, option_map, option_and_then, slice_get, if◌then◌else◌}
use Rattle.std.specs.List.{filter_map, flat_map, take_while}
use Rattle.std.specs.Option.{option_map_or}
use Rattle.pv_base.specs.declared.name.Name.{Name}
use Rattle.ir_tree.specs.declared.instruction.Operand.TheVariants as operand
use Rattle.ir_tree.specs.declared.instruction.Instruction.TheVariants as tree
use Rattle.ir_tree.specs.Table.{same_name}
use Rattle.ir_tree.specs.Trees.{TypeV, IntV}
use Rattle.ir_rules.specs.Seen.{FunctionV, BlockV, InstructionV, OperandV, ArmV}
use Rattle.ir_rules.specs.Spots.{instruction_count}
use Rattle.ir_rules.specs.Forms.{is_phi}
use Rattle.profile_lines.specs.declared.profile.PhiLine.{PhiLine}
use Rattle.profile_lines.specs.declared.profile.PhiWord.{PhiWord}
use Rattle.profile_lines.specs.declared.profile.PhiWord.TheVariants as word
use Rattle.loop_plan.specs.declared.plan.PhiGuess.{PhiGuess}
use Rattle.loop_plan.specs.declared.plan.PhiGuess.TheVariants as guess
use Rattle.loop_plan.specs.declared.plan.PhiPlan.{PhiPlan}
use Rattle.loop_plan.specs.Naming.{name_of, defines, instructions_of}
use Rattle.loop_plan.specs.Triples.{Joining, joining, joins, is_register, reads_in}

-- a phi: its register, its type, and what it takes from each block
pub record PhiV : Type 0 where
  pub to : Name
  pub of : TypeV
  pub arms : List ArmV

abbrev pub phi_parts : InstructionV → Option PhiV
phi_parts (tree.Phi to of arms) = Some (record { to = to; of = of; arms = arms })
phi_parts i = None

-- the phis that a block begins with
abbrev pub phis_of : BlockV → List PhiV
phis_of b = filter_map phi_parts (take_while is_phi b.instructions)

-- what a phi takes from the block of this label
abbrev pub value_from : Name → PhiV → Option OperandV
value_from label p = option_map (λ a. a.value) (find (λ a. same_name label a.from) p.arms)

abbrev pub register_in : OperandV → Option Name
register_in (operand.Register x) = Some x
register_in (operand.Constant c) = None

-- the register that a phi takes from the block of this label
abbrev pub register_from : Name → PhiV → Option Name
register_from label p = option_and_then register_in (value_from label p)

-- the number of a block's first instruction in its function
abbrev pub first_of : FunctionV → ℕ → ℕ
first_of f b = instruction_count (take b f.blocks)

-- the instructions of these blocks
abbrev pub listed_instructions : FunctionV → List ℕ → List InstructionV
listed_instructions f blocks = flat_map (λ b. option_map_or (λ x. x.instructions) (slice_get f.blocks b) []) blocks

-- ---- reductions

-- The operation of a reduction into a phi: it joins the phi with another operand, and of the loop's instructions it alone reads the
-- phi, and the phi alone reads it.
abbrev pub is_reduction : List InstructionV → PhiV → Joining → Bool
is_reduction inside p j =
    joins p.to j
    && nat_eq (reads_in p.to inside) 1
    && nat_eq (reads_in j.to inside) (count_by (λ a. is_register j.to a.value) p.arms)

-- ---- guesses

abbrev pub is_integer : TypeV → Bool
is_integer (IntV width) = true
is_integer type = false

-- the first of a list before the rest, where all are there
abbrev pub joined : {A : Type 0} → Option A → Option (List A) → Option (List A)
joined (Some x) (Some xs) = Some (x ∷ xs)
joined x xs = None

-- over a function of this number, the instructions of a loop's blocks, and the label of its latch
module _ (f : FunctionV) (number : ℕ) (inside : List InstructionV) (latch : Name) where
  abbrev pub reduced_by : PhiV → Name → Joining → Option PhiGuess
  reduced_by p x j =
      if is_reduction inside p j
      then option_map (λ place. guess.Reduce (record { function = number; place = place }) j.kind) (position (defines x) (instructions_of f))
      else None

  -- the guess of a phi into which the instruction that defines this register reduces
  abbrev pub reduced : PhiV → Name → Option PhiGuess
  reduced p x = option_and_then (reduced_by p x) (option_and_then joining (find (defines x) inside))

  -- the guess of a phi by the word of its line, where the line fits: a step and a reduction are of integers
  abbrev pub guess_of : PhiV → PhiWord → Option PhiGuess
  guess_of p (word.Step by) = if is_integer p.of then Some (guess.Step by) else None
  guess_of p word.Same = Some guess.Same
  guess_of p word.Reduce = if is_integer p.of then option_and_then (reduced p) (register_from latch p) else None

  -- over the lines of phis
  module _ (lines : List PhiLine) where
    -- the plan of the phi at a place
    abbrev pub plan_of : ℕ → PhiV → Option PhiPlan
    plan_of place p =
        option_map (λ g. record { phi = record { function = number; place = place }; guess = g })
        (option_and_then (λ line. guess_of p line.guess) (find (λ line. same_name (name_of line.register) p.to) lines))

    -- the plans of phis, of which the first stands at this place
    abbrev pub plans_from : ℕ → List PhiV → Option (List PhiPlan)
    plans_from place [] = Some []
    plans_from place (p ∷ ps) = joined (plan_of place p) (plans_from (suc place) ps)

    -- the plans of the header's phis, where there is one line for each phi, and each fits
    abbrev pub phi_plans : ℕ → List PhiV → Option (List PhiPlan)
    phi_plans place phis = if nat_eq (length lines) (length phis) then plans_from place phis else None
