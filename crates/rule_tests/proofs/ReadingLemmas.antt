-- What a module keeps that is read from text, by numbers and written out.
use Rattle.std.proofs.Common.{◌≡◌, ℕ, zero, suc, ◌<◌, ◌+◌, Bool, true, false, List, [], ◌∷◌, ◌++◌, map, length, get_or, Option, Some, None, refl, sym, ap, ◌∙◌, arith}
use Rattle.std.specs.Prelude.{not, ◌&&◌, ◌||◌, option_map, nat_eq, is_some, if◌then◌else◌}
use Rattle.std.specs.List.{list_any, list_all, range_with_len, filter_map, cons_option}
use Rattle.std.proofs.lemmas.List.Folds.{list_all-map}
use Rattle.ir_tree.specs.declared.instruction.Argument.{Argument}
use Rattle.ir_tree.specs.declared.instruction.Case.{Case}
use Rattle.ir_tree.specs.declared.instruction.Instruction.{Instruction}
use Rattle.ir_tree.specs.declared.instruction.Instruction.TheVariants as instruction
use Rattle.ir_tree.specs.declared.items.NamedType.{NamedType}
use Rattle.pv_base.specs.declared.name.Name.{Name}
use Rattle.ir_tree.specs.Table.{Table, same_name}
use Rattle.ir_tree.specs.Trees.{TypeV, NamedV}
use Rattle.ir_tree.specs.Layouts.{type_named, opened}
use Rattle.ir_tree.specs.Naming.{name_at, type_at, constant_at, types_at}
use Rattle.ir_tree.specs.Shown.{shown, shown_argument, shown_case}
use Rattle.ir_rules.specs.Forms.{memory_types, argument_types, answer_types, register_types, called_types, case_values}
use Rattle.ir_rules.specs.Constants.{constant_bits}
use Rattle.ir_rules.specs.Reading.{all_differ, is_register, is_answer, has_layout, indices_stand, instruction_stands, none_void, is_void, is_known_type}
use Rattle.ir_rules.proofs.SameLemmas.{and_both}
use Rattle.ir_rules.proofs.WrittenLemmas.{memory_shown, called_shown}

map_map : {X Y Z V : Type 0} (f : Y → Z) (g : X → Y) (h : V → Z) (k : X → V) → ((x : X) → f (g x) ≡ h (k x)) → (xs : List X) → map f (map g xs) ≡ map h (map k xs)
map_map f g h k e [] = refl
map_map f g h k e (x ∷ xs) =
    let one : f (g x) ≡ h (k x) = e x in
    let rest : map f (map g xs) ≡ map h (map k xs) = map_map f g h k e xs in
    cc

map_append : {X Y : Type 0} (f : X → Y) (xs ys : List X) → map f (xs ++ ys) ≡ map f xs ++ map f ys
map_append f [] ys = refl
map_append f (x ∷ xs) ys = ap (λ l. f x ∷ l) (map_append f xs ys)

argument_shown : (t : Table) (a : Option (Argument ℕ ℕ ℕ)) → argument_types (option_map (shown_argument t) a) ≡ map (type_at t) (argument_types a)
argument_shown t None = refl
argument_shown t (Some a) = refl

answer_shown : (t : Table) (to : Option ℕ) (of : ℕ) → answer_types (option_map (name_at t) to) (type_at t of) ≡ map (type_at t) (answer_types to of)
answer_shown t None of = refl
answer_shown t (Some to) of = refl

arguments_shown : (t : Table) (all : List (Argument ℕ ℕ ℕ)) → map (λ a. a.of) (map (shown_argument t) all) ≡ map (type_at t) (map (λ a. a.of) all)
arguments_shown t all = map_map (λ a. a.of) (shown_argument t) (type_at t) (λ a. a.of) (λ a. refl) all

pub registers_shown : (t : Table) (i : Instruction ℕ ℕ ℕ) → register_types (shown t i) ≡ map (type_at t) (register_types i)
unfolding shown register_types
registers_shown t (instruction.Binary to op flags of left right) = refl
registers_shown t (instruction.Cast to op flags of value target) = refl
registers_shown t (instruction.Freeze to of value) = refl
registers_shown t (instruction.Compare to pred of left right) = refl
registers_shown t (instruction.Select to condition of on_true on_false) = refl
registers_shown t (instruction.Phi to of arms) = refl
registers_shown t (instruction.Alloca to of count) = argument_shown t count
registers_shown t (instruction.Load to of pointer) = refl
registers_shown t (instruction.Store of value pointer) = refl
registers_shown t (instruction.Address to inbounds of base indices) = arguments_shown t indices
registers_shown t (instruction.Call to of variadic what arguments) = rw (answer_shown t to of, arguments_shown t arguments) (sym (map_append (type_at t) (answer_types to of) (map (λ a. a.of) arguments)))
registers_shown t (instruction.Return value) = argument_shown t value
registers_shown t (instruction.Jump target) = refl
registers_shown t (instruction.Branch condition on_true on_false) = refl
registers_shown t (instruction.Switch of value default cases) = refl
registers_shown t instruction.Unreachable = refl

pub cases_shown : (t : Table) (i : Instruction ℕ ℕ ℕ) → case_values (shown t i) ≡ map (constant_at t) (case_values i)
unfolding shown case_values
cases_shown t (instruction.Binary to op flags of left right) = refl
cases_shown t (instruction.Cast to op flags of value target) = refl
cases_shown t (instruction.Freeze to of value) = refl
cases_shown t (instruction.Compare to pred of left right) = refl
cases_shown t (instruction.Select to condition of on_true on_false) = refl
cases_shown t (instruction.Phi to of arms) = refl
cases_shown t (instruction.Alloca to of count) = refl
cases_shown t (instruction.Load to of pointer) = refl
cases_shown t (instruction.Store of value pointer) = refl
cases_shown t (instruction.Address to inbounds of base indices) = refl
cases_shown t (instruction.Call to of variadic what arguments) = refl
cases_shown t (instruction.Return value) = refl
cases_shown t (instruction.Jump target) = refl
cases_shown t (instruction.Branch condition on_true on_false) = refl
cases_shown t (instruction.Switch of value default cases) = map_map (λ c. c.value) (shown_case t) (constant_at t) (λ c. c.value) (λ c. refl) cases
cases_shown t instruction.Unreachable = refl

-- the bits of cases
through : {X Y Z : Type 0} (f : Y → Option Z) (g : X → Y) (xs : List X) → filter_map f (map g xs) ≡ filter_map (λ x. f (g x)) xs
through f g [] = refl
through f g (x ∷ xs) = ap (cons_option (f (g x))) (through f g xs)

pub bits_of_cases : (t : Table) (cases : List (Case ℕ ℕ)) → filter_map (λ k. constant_bits (constant_at t k)) (map (λ c. c.value) cases) ≡ filter_map (λ c. constant_bits (constant_at t c.value)) cases
bits_of_cases t cases = through (λ k. constant_bits (constant_at t k)) (λ (c : Case ℕ ℕ). c.value) cases

pub instruction_is : (t : Table) (types : List (NamedType Name TypeV)) (i : Instruction ℕ ℕ ℕ) → instruction_stands types (shown t i)
    ≡ (list_all (λ k. is_register (type_at t k)) (register_types i) && list_all (λ k. is_answer (type_at t k)) (called_types i) && list_all (λ k. has_layout types (type_at t k)) (memory_types i)
    && all_differ nat_eq (filter_map (λ k. constant_bits (constant_at t k)) (case_values i)) && indices_stand types (shown t i))
instruction_is t types i =
    let registers : list_all is_register (register_types (shown t i)) ≡ list_all (λ k. is_register (type_at t k)) (register_types i) = ap (list_all is_register) (registers_shown t i) ∙ list_all-map is_register (type_at t) (register_types i) in
    let answer : list_all is_answer (called_types (shown t i)) ≡ list_all (λ k. is_answer (type_at t k)) (called_types i) = ap (list_all is_answer) (called_shown t i) ∙ list_all-map is_answer (type_at t) (called_types i) in
    let memory : list_all (has_layout types) (memory_types (shown t i)) ≡ list_all (λ k. has_layout types (type_at t k)) (memory_types i) = ap (list_all (has_layout types)) (memory_shown t i) ∙ list_all-map (has_layout types) (type_at t) (memory_types i) in
    let bits : filter_map constant_bits (case_values (shown t i)) ≡ filter_map (λ k. constant_bits (constant_at t k)) (case_values i) = ap (filter_map constant_bits) (cases_shown t i) ∙ through constant_bits (constant_at t) (case_values i) in
    rw (registers, answer, memory, bits) refl

-- the fields of a struct
pub none_void_is : (t : Table) (fields : List ℕ) → none_void (types_at t fields) ≡ list_all (λ k. not (is_void (type_at t k))) fields
none_void_is t [] = refl
none_void_is t (k ∷ fields) = ap (λ b. not (is_void (type_at t k)) && b) (none_void_is t fields)

-- ---- tests of each number below one

below_from : (p : ℕ → Bool) (a n : ℕ) → ((j : ℕ) → j < n → p (a + j) ≡ true) → list_all p (range_with_len a n) ≡ true
below_from p a zero h = refl
below_from p a (suc n) h =
    let z : a + 0 ≡ a = omega arith in
    let first : p a ≡ true = rw z at (h 0 (omega arith)) in
    rw first (below_from p (a + 1) n (λ j lt. let q : a + 1 + j ≡ a + suc j = omega arith in rw q (h (suc j) (omega arith))))

-- all below pass
pub all_below : (p : ℕ → Bool) (n : ℕ) → ((j : ℕ) → j < n → p j ≡ true) → true ≡ list_all p (range_with_len 0 n)
all_below p n h = sym (below_from p 0 n (λ j lt. let z : 0 + j ≡ j = omega arith in rw z (h j lt)))

-- all below pass, one by one
below_each : (p : ℕ → Bool) (a n : ℕ) → list_all p (range_with_len a n) ≡ true → (j : ℕ) → j < n → p (a + j) ≡ true
below_each p a zero e j lt = absurd (omega arith)
below_each p a (suc n) e zero lt = let z : a + 0 ≡ a = omega arith in rw z (and_both (p a) (list_all p (range_with_len (a + 1) n)) e).0
below_each p a (suc n) e (suc j) lt = let q : a + suc j ≡ a + 1 + j = omega arith in rw q (below_each p (a + 1) n (and_both (p a) (list_all p (range_with_len (a + 1) n)) e).1 j (omega arith))

pub below_all : (p : ℕ → Bool) (n : ℕ) → list_all p (range_with_len 0 n) ≡ true → (j : ℕ) → j < n → p j ≡ true
below_all p n e j lt = let z : 0 + j ≡ j = omega arith in rw z at (below_each p 0 n e j lt)

and_no : (b : Bool) → (b && false) ≡ false
and_no true = refl
and_no false = refl

not_from : (p : ℕ → Bool) (a n j : ℕ) → j < n → p (a + j) ≡ false → list_all p (range_with_len a n) ≡ false
not_from p a zero j lt e = absurd (omega arith)
not_from p a (suc n) zero lt e = let z : a + 0 ≡ a = omega arith in let first : p a ≡ false = rw z at e in rw first refl
not_from p a (suc n) (suc j) lt e =
    let q : a + suc j ≡ a + 1 + j = omega arith in
    let rest : list_all p (range_with_len (a + 1) n) ≡ false = not_from p (a + 1) n j (omega arith) (rw q at e) in
    rw rest (and_no (p a))

-- one does not
pub not_below : (p : ℕ → Bool) (n j : ℕ) → j < n → p j ≡ false → false ≡ list_all p (range_with_len 0 n)
not_below p n j lt e = sym (not_from p 0 n j lt (let z : 0 + j ≡ j = omega arith in rw z e))

-- ---- tests of each item by its number

pub all_items : {X : Type 0} (p : X → Bool) (d : X) (xs : List X) → ((j : ℕ) → j < length xs → p (get_or xs j d) ≡ true) → true ≡ list_all p xs
all_items p d [] h = refl
all_items p d (x ∷ xs) h = let first : p x ≡ true = h 0 (omega arith) in rw first (all_items p d xs (λ j lt. h (suc j) (omega arith)))

pub not_items : {X : Type 0} (p : X → Bool) (d : X) (xs : List X) (j : ℕ) → j < length xs → p (get_or xs j d) ≡ false → false ≡ list_all p xs
not_items p d [] j lt e = absurd (omega arith)
not_items p d (x ∷ xs) zero lt e = rw e refl
not_items p d (x ∷ xs) (suc j) lt e = rw (sym (not_items p d xs j (omega arith) e)) (sym (and_no (p x)))

-- ---- named types

known_named : (types : List (NamedType Name TypeV)) (name : Name) → is_some (type_named types name) ≡ list_any (λ t. same_name name t.name) types
known_named [] name = refl
known_named (t ∷ types) name = step (same_name name t.name) (known_named types name)
  where
    step : (b : Bool) → is_some (type_named types name) ≡ list_any (λ t. same_name name t.name) types → is_some (if b then Some t.of else type_named types name) ≡ (b || list_any (λ t. same_name name t.name) types)
    step true rest = refl
    step false rest = rest

-- a name is that of a type where it can be opened
pub known_is : (types : List (NamedType Name TypeV)) (type : TypeV) (name : Name) → type ≡ NamedV name → is_some (opened types type) ≡ is_known_type types name
known_is types type name e = rw e (known_named types name)
