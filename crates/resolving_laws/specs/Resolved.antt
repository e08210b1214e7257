-- Instructions with their names resolved, each by what the names, types and constants in it stand for.
use Rattle.std.specs.Prelude.{ℕ, ◌≡◌, ◌*◌, ◌-◌, ◌^◌, min, List, [], ◌∷◌, ◌++◌, map, flat_map, filter_map, Bool, true, false, Option, Some, None, option_map, nat_eq, slice_get, if◌then◌else◌}
use Rattle.std.specs.Map.{lookup}
use Rattle.pv_base.specs.Outside.{Text}
use Rattle.pv_base.specs.declared.external.External.{External}
use Rattle.pv_base.specs.declared.name.Name.TheVariants as name
use Rattle.int_num.specs.Integer.{Integer}
use Rattle.seq_calls.specs.Names.{known}
use Rattle.ir_tree.specs.declared.instruction.Operand.{Operand as Named}
use Rattle.ir_tree.specs.declared.instruction.Operand.TheVariants as named
use Rattle.ir_tree.specs.declared.instruction.Argument.{Argument}
use Rattle.ir_tree.specs.declared.instruction.Case.{Case}
use Rattle.ir_tree.specs.declared.instruction.Callee.{Callee}
use Rattle.ir_tree.specs.declared.instruction.Callee.TheVariants as callee
use Rattle.ir_tree.specs.declared.instruction.Instruction.{Instruction}
use Rattle.ir_tree.specs.declared.instruction.Instruction.TheVariants as tree
use Rattle.ir_tree.specs.declared.items.Function.{Function}
use Rattle.ir_tree.specs.declared.layout.Layout.{Layout}
use Rattle.ir_tree.specs.Naming.{name_at, type_at, constant_at}
use Rattle.ir_tree.specs.Modules.{Items, types_of, layout_in}
use Rattle.ir_rules.specs.Forms.{is_phi, result_of}
use Rattle.ir_code.specs.declared.op.Scalar.{Scalar}
use Rattle.ir_code.specs.declared.op.Scalar.TheVariants as scalar
use Rattle.ir_code.specs.declared.op.Fixed.{Fixed}
use Rattle.ir_code.specs.declared.op.Fixed.TheVariants as fixed
use Rattle.ir_code.specs.declared.op.Operand.{Operand}
use Rattle.ir_code.specs.declared.op.Operand.TheVariants as operand
use Rattle.ir_code.specs.declared.op.Index.{Index}
use Rattle.ir_code.specs.declared.op.Op.{Op}
use Rattle.ir_code.specs.declared.op.Op.TheVariants as op
use Rattle.ir_code.specs.declared.code.Move.{Move}
use Rattle.ir_code.specs.declared.code.Edge.{Edge}
use Rattle.ir_code.specs.Tables.{type_of}
use Rattle.resolving_laws.specs.Looking.{IsFirst, Each}
use Rattle.resolving_laws.specs.Constants.{IsType, IsAnswer, AreSteps, IsConstant}

-- ---- names

-- the name of an instruction's result
abbrev pub result_name : Instruction ℕ ℕ ℕ → Option (Option ℕ)
result_name i = option_map (λ d. Some d.name) (result_of i)

-- the names of a function's registers: its parameters, of which one may have none, then the results in text order
abbrev pub register_names : Function ℕ ℕ ℕ → List (Option ℕ)
register_names f = map (λ p. p.name) f.params ++ flat_map (λ b. filter_map result_name b.instructions) f.blocks

-- the phis that a block begins with
abbrev pub phis_of : List (Instruction ℕ ℕ ℕ) → List (Instruction ℕ ℕ ℕ)
phis_of [] = []
phis_of (i ∷ instructions) = if is_phi i then i ∷ phis_of instructions else []

-- the first register of this name has this number
abbrev pub IsRegister : Function ℕ ℕ ℕ → ℕ → ℕ → Type 0
IsRegister f x r = IsFirst (λ y. y ≡ Some x) (register_names f) r

-- the register of a result, where there is one
abbrev pub IsResult : Function ℕ ℕ ℕ → Option ℕ → Option ℕ → Type 0
IsResult f None to = to ≡ None
IsResult f (Some x) to = (r : ℕ) × IsRegister f x r × (to ≡ Some r)

-- over a module, and one of its functions
module _ (m : Items) (f : Function ℕ ℕ ℕ) where
  -- ---- operands

  -- an operand of a type: the register of its name, or the value of its constant at that type
  abbrev pub IsOperand : Scalar → Named ℕ ℕ → Operand → Type 0
  IsOperand s (named.Register x) o = (r : ℕ) × IsRegister f x r × (o ≡ operand.Register r)
  IsOperand s (named.Constant k) o = (v : Fixed) × IsConstant m (type_of s) (constant_at m.names k) v × (o ≡ operand.Constant v)

  -- an operand that is written with its type
  abbrev pub IsArgument : Argument ℕ ℕ ℕ → Operand → Type 0
  IsArgument a o = (s : Scalar) × IsType m.names a.of s × IsOperand s a.value o

  -- how many elements an `alloca` makes: one, or as many as its constant says
  abbrev pub IsCount : Option (Argument ℕ ℕ ℕ) → ℕ → Type 0
  IsCount None n = n ≡ 1
  IsCount (Some a) n =
      (s : Scalar) × (k : ℕ) × (i : Integer) × IsType m.names a.of s × (a.value ≡ named.Constant k)
      × IsConstant m (type_of s) (constant_at m.names k) (fixed.Int i) × (n ≡ i.bits)

  -- ---- edges

  -- what a phi takes where its block is entered from the block of this label: the operand of its first arm from there
  abbrev pub IsMove : ℕ → Instruction ℕ ℕ ℕ → Move → Type 0
  IsMove label (tree.Phi to of arms) move =
      (s : Scalar) × (k : ℕ) × (arm : IsFirst (λ a. a.from ≡ label) arms k) × IsRegister f to move.register × IsType m.names of s × IsOperand s arm.item.value move.value
  IsMove label i move = ⊥

  -- Of these edges, that of this number leads from the block of one label to the block of the other: its target is the block of
  -- that label, and the phis which that block begins with take their operands from the first.
  pub record LeadsTo (edges : List Edge) (label target e : ℕ) : Type 0 where
    pub edge : Edge
    pub at : slice_get edges e ≡ Some edge
    pub to : IsFirst (λ b. b.label ≡ target) f.blocks edge.to
    pub moves : Each (IsMove label) (phis_of to.item.instructions) edge.moves

  -- ---- calls

  -- the function of a place is called by its number, and one that is declared as the external that its name is known for
  abbrev pub IsCall : Option ℕ → List Operand → ℕ → ℕ → Bool → Op → Type 0
  IsCall to arguments x k false o = o ≡ op.Call to k arguments
  IsCall to arguments x k true o = (bytes : Text) × (e : External) × (name_at m.names x ≡ name.Named bytes) × (known bytes ≡ Some e) × (o ≡ op.CallExternal to e arguments)

  -- what a call's callee makes of it, over its result, the type of its answer and its arguments
  abbrev pub IsCalled : Option ℕ → ℕ → List (Argument ℕ ℕ ℕ) → List Operand → Callee ℕ → Op → Type 0
  IsCalled to of arguments values (callee.Function x) o = (k : ℕ) × (g : IsFirst (λ h. h.name ≡ x) m.functions k) × IsCall to values x k g.item.declared o
  IsCalled to of arguments values (callee.Pointer x) o =
      (p : ℕ) × (result : Option Scalar) × (parameters : List Scalar) × IsRegister f x p × IsAnswer m.names of result × Each (λ a s. IsType m.names a.of s) arguments parameters
      × (o ≡ op.CallPointer to (operand.Register p) result parameters values)

  -- ---- instructions

  -- over the edges of the function's code, and the label of a block
  module _ (edges : List Edge) (label : ℕ) where
    -- a case of a switch at a type: its constant's bits, and the edge to the block of its label
    abbrev pub IsCase : Scalar → Case ℕ ℕ → ℕ × ℕ → Type 0
    IsCase s c pair = (n : Integer) × IsConstant m (type_of s) (constant_at m.names c.value) (fixed.Int n) × (pair.0 ≡ n.bits) × LeadsTo edges label c.to pair.1

    -- an instruction of that block, and what it is with its names resolved
    unfoldable pub IsResolved : Instruction ℕ ℕ ℕ → Op → Type 0
    IsResolved (tree.Binary to what flags of left right) o =
        (r : ℕ) × (s : Scalar) × (a b : Operand) × IsRegister f to r × IsType m.names of s × IsOperand s left a × IsOperand s right b × (o ≡ op.Binary r what flags a b)
    IsResolved (tree.Cast to what flags of value target) o =
        (r : ℕ) × (s : Scalar) × (a : Operand) × (width : ℕ) × IsRegister f to r × IsType m.names of s × IsOperand s value a × IsType m.names target (scalar.Int width)
        × (o ≡ op.Cast r what flags a width)
    IsResolved (tree.Freeze to of value) o = (r : ℕ) × (s : Scalar) × (a : Operand) × IsRegister f to r × IsType m.names of s × IsOperand s value a × (o ≡ op.Freeze r a)
    IsResolved (tree.Compare to pred of left right) o =
        (r : ℕ) × (s : Scalar) × (a b : Operand) × IsRegister f to r × IsType m.names of s × IsOperand s left a × IsOperand s right b × (o ≡ op.Compare r pred a b)
    IsResolved (tree.Select to condition of on_true on_false) o =
        (r : ℕ) × (s : Scalar) × (c a b : Operand) × IsRegister f to r × IsType m.names of s × IsOperand (scalar.Int 1) condition c × IsOperand s on_true a × IsOperand s on_false b
        × (o ≡ op.Select r c a b)
    IsResolved (tree.Phi to of arms) o = o ≡ op.Phi
    IsResolved (tree.Alloca to of count) o =
        (r : ℕ) × (l : Layout) × (n : ℕ) × IsRegister f to r × (layout_in m of ≡ Some l) × IsCount count n × (o ≡ op.Alloca r (min (l.size * n) (2 ^ 64 - 1)))
    IsResolved (tree.Load to of pointer) o =
        (r : ℕ) × (s : Scalar) × (p : Operand) × IsRegister f to r × IsType m.names of s × IsOperand scalar.Pointer pointer p × (o ≡ op.Load r s p)
    IsResolved (tree.Store of value pointer) o =
        (s : Scalar) × (a p : Operand) × IsType m.names of s × IsOperand s value a × IsOperand scalar.Pointer pointer p × (o ≡ op.Store s a p)
    IsResolved (tree.Address to inbounds of base indices) o =
        (r : ℕ) × (p : Operand) × (values : List Operand) × (steps : List Index) × IsRegister f to r × IsOperand scalar.Pointer base p × Each IsArgument indices values
        × AreSteps (types_of m) (type_at m.names of) values steps × (o ≡ op.Address r inbounds p steps)
    IsResolved (tree.Call to of variadic what arguments) o =
        (r : Option ℕ) × (values : List Operand) × IsResult f to r × Each IsArgument arguments values × IsCalled r of arguments values what o
    IsResolved (tree.Return None) o = o ≡ op.Return None
    IsResolved (tree.Return (Some a)) o = (v : Operand) × IsArgument a v × (o ≡ op.Return (Some v))
    IsResolved (tree.Jump target) o = (e : ℕ) × LeadsTo edges label target e × (o ≡ op.Jump e)
    IsResolved (tree.Branch condition on_true on_false) o =
        (c : Operand) × (a b : ℕ) × IsOperand (scalar.Int 1) condition c × LeadsTo edges label on_true a × LeadsTo edges label on_false b × (o ≡ op.Branch c a b)
    -- a value's edge is that of its first case
    IsResolved (tree.Switch of value default cases) o =
        (s : Scalar) × (a : Operand) × (d : ℕ) × (pairs all : List (ℕ × ℕ)) × IsType m.names of s × IsOperand s value a × LeadsTo edges label default d
        × Each (IsCase s) cases pairs × ((x : ℕ) → lookup (nat_eq x) all ≡ lookup (nat_eq x) pairs) × (o ≡ op.Switch a d all)
    IsResolved tree.Unreachable o = o ≡ op.Unreachable
