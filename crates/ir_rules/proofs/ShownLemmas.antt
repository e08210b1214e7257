-- The parts of an instruction and of a function, by numbers and written out.
use Rattle.std.proofs.Common.{◌≡◌, ℕ, Bool, true, false, List, [], ◌∷◌, ◌++◌, map, Option, Some, None, refl, sym, ap}
use Rattle.std.specs.Prelude.{option_map, option_and_then, find, if◌then◌else◌}
use Rattle.std.specs.List.{filter_map, cons_option, flat_map}
use Rattle.pv_base.specs.declared.name.Name.{Name}
use Rattle.ir_tree.specs.declared.instruction.Operand.TheVariants as operand
use Rattle.ir_tree.specs.declared.instruction.Argument.{Argument}
use Rattle.ir_tree.specs.declared.instruction.Callee.{Callee}
use Rattle.ir_tree.specs.declared.instruction.Callee.TheVariants as callee
use Rattle.ir_tree.specs.declared.instruction.Instruction.{Instruction}
use Rattle.ir_tree.specs.declared.instruction.Instruction.TheVariants as instruction
use Rattle.ir_tree.specs.declared.items.Param.{Param}
use Rattle.ir_tree.specs.declared.items.Block.{Block}
use Rattle.ir_tree.specs.declared.items.Function.{Function}
use Rattle.ir_tree.specs.Table.{Table, same_name}
use Rattle.ir_tree.specs.Trees.{TypeV}
use Rattle.ir_tree.specs.Naming.{name_at, type_at}
use Rattle.ir_tree.specs.Shown.{shown, shown_operand, shown_argument, shown_arm, shown_case, shown_callee, shown_param, shown_block, shown_function}
use Rattle.ir_rules.specs.declared.given.Given.TheVariants.{Pointer, Written}
use Rattle.ir_rules.specs.declared.given.Defined.{Defined}
use Rattle.ir_rules.specs.Forms.{is_terminator, call_register, result_of, used, argument_use, argument_uses, callee_uses, uses, targets, sources, argument_types, integer_types}
use Rattle.ir_rules.specs.Defining.{argument_of, defined_in, defined, register_type, given_type}
use Rattle.ir_rules.specs.Heads.{shown_use, shown_defined, found_type}

map_map : {X Y Z V : Type 0} (f : Y → Z) (g : X → Y) (h : V → Z) (k : X → V) → ((x : X) → f (g x) ≡ h (k x)) → (xs : List X) → map f (map g xs) ≡ map h (map k xs)
map_map f g h k e [] = refl
map_map f g h k e (x ∷ xs) =
    let one : f (g x) ≡ h (k x) = e x in
    let rest : map f (map g xs) ≡ map h (map k xs) = map_map f g h k e xs in
    cc

map_append : {X Y : Type 0} (f : X → Y) (xs ys : List X) → map f (xs ++ ys) ≡ map f xs ++ map f ys
map_append f [] ys = refl
map_append f (x ∷ xs) ys = ap (λ l. f x ∷ l) (map_append f xs ys)

pub terminator_shown : (t : Table) (i : Instruction ℕ ℕ ℕ) → is_terminator (shown t i) ≡ is_terminator i
unfolding shown is_terminator
terminator_shown t (instruction.Binary to op flags of left right) = refl
terminator_shown t (instruction.Cast to op flags of value target) = refl
terminator_shown t (instruction.Freeze to of value) = refl
terminator_shown t (instruction.Compare to pred of left right) = refl
terminator_shown t (instruction.Select to condition of on_true on_false) = refl
terminator_shown t (instruction.Phi to of arms) = refl
terminator_shown t (instruction.Alloca to of count) = refl
terminator_shown t (instruction.Load to of pointer) = refl
terminator_shown t (instruction.Store of value pointer) = refl
terminator_shown t (instruction.Address to inbounds of base indices) = refl
terminator_shown t (instruction.Call to of variadic what arguments) = refl
terminator_shown t (instruction.Return value) = refl
terminator_shown t (instruction.Jump target) = refl
terminator_shown t (instruction.Branch condition on_true on_false) = refl
terminator_shown t (instruction.Switch of value default cases) = refl
terminator_shown t instruction.Unreachable = refl

called : (t : Table) (to : Option ℕ) (inner : ℕ) → call_register (option_map (name_at t) to) (type_at t inner) ≡ option_map (shown_defined t) (call_register to inner)
called t None of = refl
called t (Some to) of = refl

pub result_shown : (t : Table) (i : Instruction ℕ ℕ ℕ) → result_of (shown t i) ≡ option_map (shown_defined t) (result_of i)
unfolding shown result_of
result_shown t (instruction.Binary to op flags of left right) = refl
result_shown t (instruction.Cast to op flags of value target) = refl
result_shown t (instruction.Freeze to of value) = refl
result_shown t (instruction.Compare to pred of left right) = refl
result_shown t (instruction.Select to condition of on_true on_false) = refl
result_shown t (instruction.Phi to of arms) = refl
result_shown t (instruction.Alloca to of count) = refl
result_shown t (instruction.Load to of pointer) = refl
result_shown t (instruction.Store of value pointer) = refl
result_shown t (instruction.Address to inbounds of base indices) = refl
result_shown t (instruction.Call to of variadic what arguments) = called t to of
result_shown t (instruction.Return value) = refl
result_shown t (instruction.Jump target) = refl
result_shown t (instruction.Branch condition on_true on_false) = refl
result_shown t (instruction.Switch of value default cases) = refl
result_shown t instruction.Unreachable = refl

consed_shown : {X Y : Type 0} (f : X → Y) (o : Option X) (xs : List X) → cons_option (option_map f o) (map f xs) ≡ map f (cons_option o xs)
consed_shown f None xs = refl
consed_shown f (Some x) xs = refl

results_shown : (t : Table) (is : List (Instruction ℕ ℕ ℕ)) → filter_map result_of (map (shown t) is) ≡ map (shown_defined t) (filter_map result_of is)
results_shown t [] = refl
results_shown t (i ∷ is) = rw (result_shown t i, results_shown t is) (consed_shown (shown_defined t) (result_of i) (filter_map result_of is))

blocks_shown : (t : Table) (bs : List (Block ℕ ℕ ℕ)) → flat_map defined_in (map (shown_block t) bs) ≡ map (shown_defined t) (flat_map defined_in bs)
blocks_shown t [] = refl
blocks_shown t (b ∷ bs) = rw (results_shown t b.instructions, blocks_shown t bs) (sym (map_append (shown_defined t) (defined_in b) (flat_map defined_in bs)))

argument_shown : (t : Table) (p : Param ℕ ℕ) (o : Option ℕ) → p.name ≡ o → argument_of (shown_param t p) ≡ option_map (shown_defined t) (argument_of p)
argument_shown t p None e = rw e refl
argument_shown t p (Some n) e = rw e refl

arguments_shown : (t : Table) (ps : List (Param ℕ ℕ)) → filter_map argument_of (map (shown_param t) ps) ≡ map (shown_defined t) (filter_map argument_of ps)
arguments_shown t [] = refl
arguments_shown t (p ∷ ps) = rw (argument_shown t p p.name refl, arguments_shown t ps) (consed_shown (shown_defined t) (argument_of p) (filter_map argument_of ps))

pub defined_shown : (t : Table) (f : Function ℕ ℕ ℕ) → defined (shown_function t f) ≡ map (shown_defined t) (defined f)
defined_shown t f = rw (arguments_shown t f.params, blocks_shown t f.blocks) (sym (map_append (shown_defined t) (filter_map argument_of f.params) (flat_map defined_in f.blocks)))

-- the type of a register by what its function defines
pub register_is : (t : Table) (f : Function ℕ ℕ ℕ) (name : Name) → register_type (shown_function t f) name ≡ found_type t (defined f) name
register_is t f name = ap (λ (ds : List (Defined Name TypeV)). option_and_then (λ d. option_map given_type d.of) (find (λ d. same_name name d.name) ds)) (defined_shown t f)

arguments_used : (t : Table) (all : List (Argument ℕ ℕ ℕ)) → map argument_use (map (shown_argument t) all) ≡ map (shown_use t) (map argument_use all)
arguments_used t all = map_map argument_use (shown_argument t) (shown_use t) argument_use (λ a. refl) all

argument_used : (t : Table) (a : Option (Argument ℕ ℕ ℕ)) → argument_uses (option_map (shown_argument t) a) ≡ map (shown_use t) (argument_uses a)
argument_used t None = refl
argument_used t (Some a) = refl

called_used : (t : Table) (what : Callee ℕ) (all : List (Argument ℕ ℕ ℕ)) → callee_uses (shown_callee t what) ++ map argument_use (map (shown_argument t) all) ≡ map (shown_use t) (callee_uses what ++ map argument_use all)
called_used t (callee.Function n) all = arguments_used t all
called_used t (callee.Pointer n) all = ap (λ l. shown_use t (used (operand.Register n) Pointer) ∷ l) (arguments_used t all)

pub uses_shown : (t : Table) (i : Instruction ℕ ℕ ℕ) → uses (shown t i) ≡ map (shown_use t) (uses i)
unfolding shown uses
uses_shown t (instruction.Binary to op flags of left right) = refl
uses_shown t (instruction.Cast to op flags of value target) = refl
uses_shown t (instruction.Freeze to of value) = refl
uses_shown t (instruction.Compare to pred of left right) = refl
uses_shown t (instruction.Select to condition of on_true on_false) = refl
uses_shown t (instruction.Phi to of arms) = map_map (λ a. used a.value (Written (type_at t of))) (shown_arm t) (shown_use t) (λ a. used a.value (Written of)) (λ a. refl) arms
uses_shown t (instruction.Alloca to of count) = argument_used t count
uses_shown t (instruction.Load to of pointer) = refl
uses_shown t (instruction.Store of value pointer) = refl
uses_shown t (instruction.Address to inbounds of base indices) = ap (λ l. used (shown_operand t base) Pointer ∷ l) (arguments_used t indices)
uses_shown t (instruction.Call to of variadic what arguments) = called_used t what arguments
uses_shown t (instruction.Return value) = argument_used t value
uses_shown t (instruction.Jump target) = refl
uses_shown t (instruction.Branch condition on_true on_false) = refl
uses_shown t (instruction.Switch of value default cases) =
    ap (λ l. used (shown_operand t value) (Written (type_at t of)) ∷ l) (map_map (λ c. used (operand.Constant c.value) (Written (type_at t of))) (shown_case t) (shown_use t) (λ c. used (operand.Constant c.value) (Written of)) (λ c. refl) cases)
uses_shown t instruction.Unreachable = refl

pub targets_shown : (t : Table) (i : Instruction ℕ ℕ ℕ) → targets (shown t i) ≡ map (name_at t) (targets i)
unfolding shown targets
targets_shown t (instruction.Binary to op flags of left right) = refl
targets_shown t (instruction.Cast to op flags of value target) = refl
targets_shown t (instruction.Freeze to of value) = refl
targets_shown t (instruction.Compare to pred of left right) = refl
targets_shown t (instruction.Select to condition of on_true on_false) = refl
targets_shown t (instruction.Phi to of arms) = refl
targets_shown t (instruction.Alloca to of count) = refl
targets_shown t (instruction.Load to of pointer) = refl
targets_shown t (instruction.Store of value pointer) = refl
targets_shown t (instruction.Address to inbounds of base indices) = refl
targets_shown t (instruction.Call to of variadic what arguments) = refl
targets_shown t (instruction.Return value) = refl
targets_shown t (instruction.Jump target) = refl
targets_shown t (instruction.Branch condition on_true on_false) = refl
targets_shown t (instruction.Switch of value default cases) = ap (λ l. name_at t default ∷ l) (map_map (λ c. c.to) (shown_case t) (name_at t) (λ c. c.to) (λ c. refl) cases)
targets_shown t instruction.Unreachable = refl

pub sources_shown : (t : Table) (i : Instruction ℕ ℕ ℕ) → sources (shown t i) ≡ map (name_at t) (sources i)
unfolding shown sources
sources_shown t (instruction.Binary to op flags of left right) = refl
sources_shown t (instruction.Cast to op flags of value target) = refl
sources_shown t (instruction.Freeze to of value) = refl
sources_shown t (instruction.Compare to pred of left right) = refl
sources_shown t (instruction.Select to condition of on_true on_false) = refl
sources_shown t (instruction.Phi to of arms) = map_map (λ a. a.from) (shown_arm t) (name_at t) (λ a. a.from) (λ a. refl) arms
sources_shown t (instruction.Alloca to of count) = refl
sources_shown t (instruction.Load to of pointer) = refl
sources_shown t (instruction.Store of value pointer) = refl
sources_shown t (instruction.Address to inbounds of base indices) = refl
sources_shown t (instruction.Call to of variadic what arguments) = refl
sources_shown t (instruction.Return value) = refl
sources_shown t (instruction.Jump target) = refl
sources_shown t (instruction.Branch condition on_true on_false) = refl
sources_shown t (instruction.Switch of value default cases) = refl
sources_shown t instruction.Unreachable = refl

integer_shown : (t : Table) (a : Option (Argument ℕ ℕ ℕ)) → argument_types (option_map (shown_argument t) a) ≡ map (type_at t) (argument_types a)
integer_shown t None = refl
integer_shown t (Some a) = refl

pub integers_shown : (t : Table) (i : Instruction ℕ ℕ ℕ) → integer_types (shown t i) ≡ map (type_at t) (integer_types i)
unfolding shown integer_types
integers_shown t (instruction.Binary to op flags of left right) = refl
integers_shown t (instruction.Cast to op flags of value target) = refl
integers_shown t (instruction.Freeze to of value) = refl
integers_shown t (instruction.Compare to pred of left right) = refl
integers_shown t (instruction.Select to condition of on_true on_false) = refl
integers_shown t (instruction.Phi to of arms) = refl
integers_shown t (instruction.Alloca to of count) = integer_shown t count
integers_shown t (instruction.Load to of pointer) = refl
integers_shown t (instruction.Store of value pointer) = refl
integers_shown t (instruction.Address to inbounds of base indices) = map_map (λ a. a.of) (shown_argument t) (type_at t) (λ a. a.of) (λ a. refl) indices
integers_shown t (instruction.Call to of variadic what arguments) = refl
integers_shown t (instruction.Return value) = refl
integers_shown t (instruction.Jump target) = refl
integers_shown t (instruction.Branch condition on_true on_false) = refl
integers_shown t (instruction.Switch of value default cases) = refl
integers_shown t instruction.Unreachable = refl

found_if : {X Y : Type 0} (h : X → Y) (x : X) (o : Option Y) (q : Option X) (b : Bool) → o ≡ option_map h q → (if b then Some (h x) else o) ≡ option_map h (if b then Some x else q)
found_if h x o q true e = refl
found_if h x o q false e = e

pub find_map : {X Y : Type 0} (p : Y → Bool) (h : X → Y) (xs : List X) → find p (map h xs) ≡ option_map h (find (λ x. p (h x)) xs)
find_map p h [] = refl
find_map p h (x ∷ xs) = found_if h x (find p (map h xs)) (find (λ x. p (h x)) xs) (p (h x)) (find_map p h xs)
