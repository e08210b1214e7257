-- The registers of a function, by numbers and written out.
use Rattle.std.proofs.Common.{◌≡◌, ℕ, true, List, [], ◌∷◌, ◌++◌, map, Option, Some, None, refl, sym, ap, ◌∙◌}
use Rattle.std.specs.Prelude.{option_map, IfSome}
use Rattle.std.specs.List.{AllByRecursion, filter_map, flat_map, cons_option}
use Rattle.std.proofs.lemmas.List.{map-append}
use Rattle.ir_tree.specs.declared.instruction.Instruction.{Instruction}
use Rattle.ir_tree.specs.declared.instruction.Instruction.TheVariants as tree
use Rattle.ir_tree.specs.declared.items.Param.{Param}
use Rattle.ir_tree.specs.declared.items.Block.{Block}
use Rattle.ir_tree.specs.declared.items.Function.{Function}
use Rattle.ir_tree.specs.Table.{Table, IsTable}
use Rattle.ir_tree.specs.Naming.{name_at}
use Rattle.ir_tree.specs.Shown.{shown, shown_param, shown_block, shown_function}
use Rattle.ir_tree.specs.Modules.{Items}
use Rattle.ir_rules.specs.declared.given.Given.{Given}
use Rattle.ir_rules.specs.declared.given.Given.TheVariants.{Pointer, Bit, Written}
use Rattle.ir_rules.specs.declared.given.Defined.{Defined}
use Rattle.ir_rules.specs.Forms.{result_of, call_register}
use Rattle.ir_rules.specs.Heads.{shown_defined}
use Rattle.ir_rules.specs.Numbering.{name_within, param_within, block_within, instruction_within, result_within}
use Rattle.ir_rules.proofs.SameLemmas.{and_both}
use Rattle.ir_rules.proofs.ShownLemmas.{result_shown}
use Rattle.ir_code.specs.declared.registers.Register.{Register}
use Rattle.ir_code.specs.declared.op.Scalar.{Scalar}
use Rattle.ir_code.specs.declared.op.Scalar.TheVariants as scalar
use Rattle.ir_code.specs.Tables.{Tables, scalar_or_pointer}
use Rattle.ir_code.specs.Blocks.{result_of as register_of, parameter_of, registers_of}
use Rattle.ir_code.specs.Coding.{tables_of}
use Rattle.code_laws.specs.Coded.{Slot, parameter_slot, result_slot, slots_of}
use Rattle.code_laws.proofs.Steps.{all_of}
use Rattle.code_laws.proofs.Values.{scalar_or_same, FunctionParts}
use Rattle.code_laws.proofs.Parts.{instruction_parts}

-- ---- lists

consed : {X Y : Type 0} (h : X → Y) (o : Option X) (xs : List X) → map h (cons_option o xs) ≡ cons_option (option_map h o) (map h xs)
consed h None xs = refl
consed h (Some x) xs = refl

pub filter_same : {X Y V W : Type 0} (h : Y → W) (k : X → V) (f : X → Option Y) (g : V → Option W) → ((x : X) → option_map h (f x) ≡ g (k x)) → (xs : List X) → map h (filter_map f xs) ≡ filter_map g (map k xs)
filter_same h k f g e [] = refl
filter_same h k f g e (x ∷ xs) = consed h (f x) (filter_map f xs) ∙ (λ j. cons_option (e x j) (filter_same h k f g e xs j))

pub flat_same : {X Y V W : Type 0} (h : Y → W) (k : X → V) (f : X → List Y) (g : V → List W) → ((x : X) → map h (f x) ≡ g (k x)) → (xs : List X) → map h (flat_map f xs) ≡ flat_map g (map k xs)
flat_same h k f g e [] = refl
flat_same h k f g e (x ∷ xs) = map-append h (f x) (flat_map f xs) ∙ (λ j. e x j ++ flat_same h k f g e xs j)

pub map_whole : {X Y B : Type 0} (f : X → B) (g : Y → B) (h : X → Y) → ((x : X) → f x ≡ g (h x)) → (xs : List X) → map f xs ≡ map g (map h xs)
map_whole f g h e [] = refl
map_whole f g h e (x ∷ xs) = λ j. e x j ∷ map_whole f g h e xs j

pub all_append : {X : Type 0} (P : X → Type 0) (xs ys : List X) → AllByRecursion P xs → AllByRecursion P ys → AllByRecursion P (xs ++ ys)
all_append P [] ys a b = b
all_append P (x ∷ xs) ys a b = (a.0, all_append P xs ys a.1 b)

all_consed : {X : Type 0} (P : X → Type 0) (o : Option X) (xs : List X) → IfSome o P → AllByRecursion P xs → AllByRecursion P (cons_option o xs)
all_consed P None xs a b = b
all_consed P (Some x) xs a b = (a, b)

pub all_filter : {X Y : Type 0} (P : X → Type 0) (Q : Y → Type 0) (f : X → Option Y) → ((x : X) → P x → IfSome (f x) Q) → (xs : List X) → AllByRecursion P xs → AllByRecursion Q (filter_map f xs)
all_filter P Q f h [] all = tt
all_filter P Q f h (x ∷ xs) all = all_consed Q (f x) (filter_map f xs) (h x all.0) (all_filter P Q f h xs all.1)

pub all_flat : {X Y : Type 0} (P : X → Type 0) (Q : Y → Type 0) (f : X → List Y) → ((x : X) → P x → AllByRecursion Q (f x)) → (xs : List X) → AllByRecursion P xs → AllByRecursion Q (flat_map f xs)
all_flat P Q f h [] all = tt
all_flat P Q f h (x ∷ xs) all = all_append Q (f x) (flat_map f xs) (h x all.0) (all_flat P Q f h xs all.1)

pub all_mapped : {X Y : Type 0} (P : X → Type 0) (Q : Y → Type 0) (f : X → Y) → ((x : X) → P x → Q (f x)) → (xs : List X) → AllByRecursion P xs → AllByRecursion Q (map f xs)
all_mapped P Q f h [] all = tt
all_mapped P Q f h (x ∷ xs) all = (h x all.0, all_mapped P Q f h xs all.1)

-- ---- what an instruction defines

given_scalar : Tables → Option (Given ℕ) → Scalar
given_scalar t None = scalar.Pointer
given_scalar t (Some Pointer) = scalar.Pointer
given_scalar t (Some Bit) = scalar.Int 1
given_scalar t (Some (Written k)) = scalar_or_pointer t k

defined_register : Tables → Defined ℕ ℕ → Register
defined_register t d = record { name = Some d.name; of = given_scalar t d.of }

answered : (t : Tables) (to : Option ℕ) (k : ℕ) → option_map (λ x. record { name = Some x; of = scalar_or_pointer t k }) to ≡ option_map (defined_register t) (call_register to k)
unfolding defined_register given_scalar
answered t None k = refl
answered t (Some x) k = refl

register_defined : (t : Tables) (i : Instruction ℕ ℕ ℕ) → register_of t i ≡ option_map (defined_register t) (result_of i)
unfolding result_of defined_register given_scalar
register_defined t (tree.Binary to what flags of left right) = refl
register_defined t (tree.Cast to what flags of value target) = refl
register_defined t (tree.Freeze to of value) = refl
register_defined t (tree.Compare to pred of left right) = refl
register_defined t (tree.Select to condition of on_true on_false) = refl
register_defined t (tree.Phi to of arms) = refl
register_defined t (tree.Alloca to of count) = refl
register_defined t (tree.Load to of pointer) = refl
register_defined t (tree.Store of value pointer) = refl
register_defined t (tree.Address to inbounds of base indices) = refl
register_defined t (tree.Call to of variadic what arguments) = answered t to of
register_defined t (tree.Return value) = refl
register_defined t (tree.Jump target) = refl
register_defined t (tree.Branch condition on_true on_false) = refl
register_defined t (tree.Switch of value default cases) = refl
register_defined t tree.Unreachable = refl

-- ---- a function's registers

module _ (m : Items) (is : IsTable m.names) where
  pub slot_of : Register → Slot
  slot_of r = (option_map (name_at m.names) r.name, r.of)

  slot_at : (x : ℕ) (o : Option (Given ℕ)) → slot_of (record { name = Some x; of = given_scalar (tables_of m) o }) ≡ result_slot (shown_defined m.names (record { name = x; of = o }))
  unfolding given_scalar slot_of
  slot_at x None = refl
  slot_at x (Some Pointer) = refl
  slot_at x (Some Bit) = refl
  slot_at x (Some (Written k)) = λ j. (Some (name_at m.names x), scalar_or_same m k is j)

  slot_some : (o : Option (Defined ℕ ℕ)) → option_map slot_of (option_map (defined_register (tables_of m)) o) ≡ option_map result_slot (option_map (shown_defined m.names) o)
  unfolding defined_register
  slot_some None = refl
  slot_some (Some d) = ap Some (slot_at d.name d.of)

  result_same : (i : Instruction ℕ ℕ ℕ) → option_map slot_of (register_of (tables_of m) i) ≡ option_map result_slot (result_of (shown m.names i))
  result_same i = ap (option_map slot_of) (register_defined (tables_of m) i) ∙ slot_some (result_of i) ∙ sym (ap (option_map result_slot) (result_shown m.names i))

  param_same : (p : Param ℕ ℕ) → slot_of (parameter_of (tables_of m) p) ≡ parameter_slot (shown_param m.names p)
  unfolding slot_of
  param_same p = λ j. (option_map (name_at m.names) p.name, scalar_or_same m p.of is j)

  pub slots_same : (f : Function ℕ ℕ ℕ) → map slot_of (registers_of (tables_of m) f) ≡ slots_of (shown_function m.names f)
  slots_same f =
      map-append slot_of (map (parameter_of (tables_of m)) f.params) _
      ∙ (λ j. (sym (map_whole _ slot_of (parameter_of (tables_of m)) (λ p. refl) f.params) ∙ map_whole _ parameter_slot (shown_param m.names) param_same f.params) j
      ++ flat_same slot_of (shown_block m.names) _ (λ b. filter_map (λ i. option_map result_slot (result_of i)) b.instructions) (λ b. filter_same slot_of (shown m.names) _ (λ i. option_map result_slot (result_of i)) result_same b.instructions) f.blocks j)

  pub names_shown : (f : Function ℕ ℕ ℕ) → map (option_map (name_at m.names)) (map (λ r. r.name) (registers_of (tables_of m) f)) ≡ map (λ r. r.0) (slots_of (shown_function m.names f))
  unfolding slot_of
  names_shown f = sym (map_whole _ _ (λ r. r.name) (λ r. refl) (registers_of (tables_of m) f)) ∙ map_whole _ (λ r. r.0) slot_of (λ r. refl) (registers_of (tables_of m) f) ∙ ap (map (λ r. r.0)) (slots_same f)

  pub types_shown : (f : Function ℕ ℕ ℕ) → map (λ r. r.of) (registers_of (tables_of m) f) ≡ map (λ r. r.1) (slots_of (shown_function m.names f))
  unfolding slot_of
  types_shown f = map_whole _ (λ r. r.1) slot_of (λ r. refl) (registers_of (tables_of m) f) ∙ ap (map (λ r. r.1)) (slots_same f)

-- ---- their names are of the table

register_within : (t : Table) (tables : Tables) (o : Option (Defined ℕ ℕ)) → result_within t o ≡ true → IfSome (option_map (defined_register tables) o) (λ r. name_within t r.name ≡ true)
unfolding defined_register
register_within t tables None e = tt
register_within t tables (Some d) e = e

instruction_named : (t : Table) (tables : Tables) (i : Instruction ℕ ℕ ℕ) → instruction_within t i ≡ true → IfSome (register_of tables i) (λ r. name_within t r.name ≡ true)
instruction_named t tables i e = rw (register_defined tables i) (register_within t tables (result_of i) (instruction_parts t i e).result)

pub block_instructions : (t : Table) (b : Block ℕ ℕ ℕ) → block_within t b ≡ true → AllByRecursion (λ i. instruction_within t i ≡ true) b.instructions
block_instructions t b e = all_of (instruction_within t) b.instructions (and_both _ _ e).1

pub names_within : (t : Table) (tables : Tables) (f : Function ℕ ℕ ℕ) → FunctionParts t f → AllByRecursion (λ o. name_within t o ≡ true) (map (λ r. r.name) (registers_of tables f))
names_within t tables f parts =
    all_mapped (λ r. name_within t r.name ≡ true) _ (λ r. r.name) (λ r e. e) (registers_of tables f)
    (all_append (λ r. name_within t r.name ≡ true) (map (parameter_of tables) f.params) _
    (all_mapped (λ p. param_within t p ≡ true) _ (parameter_of tables) (λ p e. (and_both _ _ e).0) f.params parts.params)
    (all_flat (λ b. block_within t b ≡ true) _ _ (λ b e. all_filter (λ i. instruction_within t i ≡ true) _ (register_of tables) (instruction_named t tables) b.instructions (block_instructions t b e)) f.blocks parts.blocks))
