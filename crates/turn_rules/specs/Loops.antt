-- The registers of a planned loop, found in the code: those of its header's phis, those that it defines, and those of its triples.
use Rattle.std.specs.Prelude.{ℕ, ◌+◌, ◌-◌, nat_lt, nat_eq, Bool, true, false, List, [], ◌∷◌, ◌++◌, length, map, find, Option, Some, None, option_and_then, slice_get, if◌then◌else◌}
use Rattle.std.specs.List.{filter, filter_map, flat_map, zip}
use Rattle.pv_base.specs.declared.place.Site.{Site}
use Rattle.ir_tree.specs.declared.plans.Triple.{Triple}
use Rattle.ir_code.specs.declared.op.Op.{Op}
use Rattle.ir_code.specs.declared.op.Op.TheVariants as op
use Rattle.ir_code.specs.declared.op.Operand.{Operand}
use Rattle.ir_code.specs.declared.op.Operand.TheVariants.{Register, Constant}
use Rattle.ir_code.specs.declared.code.Move.{Move}
use Rattle.ir_code.specs.declared.code.Edge.{Edge}
use Rattle.ir_code.specs.declared.code.BlockCode.{BlockCode}
use Rattle.ir_code.specs.declared.code.FunctionCode.{FunctionCode}
use Rattle.ir_code.specs.declared.code.Code.{Code}
use Rattle.loop_plan.specs.declared.plan.PhiGuess.TheVariants.{Step, Same, Reduce}
use Rattle.loop_plan.specs.declared.plan.PhiPlan.{PhiPlan}
use Rattle.loop_plan.specs.declared.plan.Region.{Region}
use Rattle.loop_plan.specs.declared.plan.LoopPlan.{LoopPlan}
use Rattle.loop_plan.specs.Triples.{same_site}
use Rattle.seq_effects.specs.declared.state.Value.{Value}
use Rattle.seq_effects.specs.declared.state.Frame.{Frame}
use Rattle.seq_machine.specs.Acts.{blocks_of, ops_of}
use Rattle.machine_calls.specs.Calls.{given_register}

-- what a register of the frame holds, where it holds something
abbrev pub held : Option Frame → ℕ → Option Value
held (Some f) r = option_and_then (λ v. v) (slice_get f.registers r)
held None r = None

-- ---- instructions by their sites

abbrev pub op_in : List BlockCode → ℕ → Option Op
op_in [] place = None
op_in (b ∷ bs) place = if nat_lt place (b.first + length b.ops) then slice_get b.ops (place - b.first) else op_in bs place

-- the register that the instruction at a site gives a result to
abbrev pub register_at : Code → Site → Option ℕ
register_at code at = option_and_then given_register (op_in (blocks_of (slice_get code.functions at.function)) at.place)

-- ---- the header's phis

-- the edges that a terminator names
abbrev pub exits : Op → List ℕ
exits (op.Jump edge) = edge ∷ []
exits (op.Branch c a b) = a ∷ b ∷ []
exits (op.Switch v default cases) = default ∷ map (λ c. c.1) cases
exits _ = []

abbrev pub edges_of : Option FunctionCode → List Edge
edges_of (Some g) = g.edges
edges_of None = []

-- the edges that leave a block
abbrev pub edges_from : FunctionCode → BlockCode → List Edge
edges_from g b = filter_map (slice_get g.edges) (flat_map exits b.ops)

abbrev pub moves_of : Option Edge → List Move
moves_of (Some e) = e.moves
moves_of None = []

abbrev pub leads_to : ℕ → Edge → Bool
leads_to block e = nat_eq e.to block

abbrev pub latch_moves_in : Option FunctionCode → Region → List Move
latch_moves_in (Some g) r = moves_of (find (leads_to r.header) (flat_map (edges_from g) (filter_map (slice_get g.blocks) (r.latch ∷ []))))
latch_moves_in None r = []

-- Each phi of the header, in order, with what it takes on the edge from the latch: the phi's register, and its value for the next turn.
abbrev pub phi_moves : Code → Region → List (PhiPlan × Move)
phi_moves code r = zip r.phis (latch_moves_in (slice_get code.functions r.function) r)

abbrev pub is_reduced : PhiPlan → Bool
is_reduced p = elim p.guess [ Step s ↦ false | Same ↦ false | Reduce at kind ↦ true ]

-- the registers of reduced phis
abbrev pub reduced_registers : Code → Region → List ℕ
reduced_registers code r = map (λ p. p.1.register) (filter (λ p. is_reduced p.0) (phi_moves code r))

-- the register of the operation that joins an operand into a phi
abbrev pub joining_registers : PhiPlan × Move → List ℕ
joining_registers p = elim p.1.value [ Register r ↦ (if is_reduced p.0 then r ∷ [] else []) | Constant c ↦ [] ]

-- ---- what else the loop sets

-- the registers of a block's phis, which stand on each edge to it
abbrev pub phi_registers : FunctionCode → ℕ → List ℕ
phi_registers g block = map (λ m. m.register) (moves_of (find (leads_to block) g.edges))

abbrev pub defined_in_block : FunctionCode → ℕ → List ℕ
defined_in_block g block = phi_registers g block ++ filter_map given_register (ops_of (slice_get g.blocks block))

abbrev pub defined_in : Option FunctionCode → List ℕ → List ℕ
defined_in (Some g) blocks = flat_map (defined_in_block g) blocks
defined_in None blocks = []

-- the registers that the loop's blocks define
abbrev pub defined : Code → Region → List ℕ
defined code r = defined_in (slice_get code.functions r.function) r.blocks

-- the registers of a triple in that function: those of its load and of its operation
abbrev pub scratch_of : Code → ℕ → Triple → List ℕ
scratch_of code function t = if nat_eq t.load.function function then filter_map (register_at code) (t.load ∷ t.op ∷ []) else []

-- the registers whose values a turn does not hand over: those of triples, of the header's phis, and of what joins into these
abbrev pub own_registers : Code → LoopPlan → List ℕ
own_registers code l =
    flat_map (scratch_of code l.region.function) l.scratch
    ++ map (λ p. p.1.register) (phi_moves code l.region)
    ++ flat_map joining_registers (phi_moves code l.region)

-- ---- operations that join an operand

-- the operand that stands beside a register
abbrev pub beside : ℕ → Operand → Operand → Operand
beside r (Register q) y = if nat_eq q r then y else Register q
beside r (Constant c) y = Constant c

abbrev pub operand_beside : ℕ → Op → Option Operand
operand_beside r (op.Binary to o flags left right) = Some (beside r left right)
operand_beside r (op.CallExternal to e (x ∷ y ∷ [])) = Some (beside r x y)
operand_beside r _ = None

-- the instruction at a site joins an operand into this phi
abbrev pub joins_at : Site → PhiPlan × Move → Bool
joins_at at p = elim p.0.guess [ Step s ↦ false | Same ↦ false | Reduce o kind ↦ same_site o at ]
