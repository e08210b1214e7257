-- What a function keeps that is read from text, by numbers and written out.
use Rattle.std.proofs.Common.{◌≡◌, ℕ, Bool, true, false, List, [], ◌∷◌, map, length, Option, Some, None, refl, sym, ap, ◌∙◌, arith}
use Rattle.std.proofs.Math.Dec.{eqb-suc-zero}
use Rattle.std.proofs.lemmas.Bool.Decides.{nat_tests}
use Rattle.std.specs.Prelude.{not, ◌&&◌, nat_eq, nat_lt, nat_le, is_some, option_map}
use Rattle.std.specs.List.{list_all}
use Rattle.std.proofs.Math.ListN.{length-map}
use Rattle.std.proofs.lemmas.List.Sums.{sum_by-cons}
use Rattle.std.proofs.lemmas.List.Folds.{list_all-map}
use Rattle.pv_base.specs.declared.name.Name.{Name}
use Rattle.ir_tree.specs.declared.items.NamedType.{NamedType}
use Rattle.ir_tree.specs.declared.items.Param.{Param}
use Rattle.ir_tree.specs.declared.items.Block.{Block}
use Rattle.ir_tree.specs.declared.items.Function.{Function}
use Rattle.ir_tree.specs.Table.{Table}
use Rattle.ir_tree.specs.Trees.{TypeV}
use Rattle.ir_tree.specs.Naming.{name_at, type_at}
use Rattle.ir_tree.specs.Shown.{shown, shown_param, shown_block, shown_function}
use Rattle.ir_rules.specs.declared.given.Defined.{Defined}
use Rattle.ir_rules.specs.Heads.{shown_defined}
use Rattle.ir_rules.specs.Defining.{defined}
use Rattle.ir_rules.specs.Spots.{is_empty, instruction_count}
use Rattle.ir_rules.specs.Reading.{is_answer, is_register, names_differ, form_stands, counts_stand, instruction_stands, function_stands}
use Rattle.ir_rules.proofs.ShownLemmas.{defined_shown}

some_name : (t : Table) (o : Option ℕ) → is_some (option_map (name_at t) o) ≡ is_some o
some_name t None = refl
some_name t (Some x) = refl

named_shown : (t : Table) (ps : List (Param ℕ ℕ)) → list_all (λ p. is_some p.name) (map (shown_param t) ps) ≡ list_all (λ p. is_some p.name) ps
named_shown t [] = refl
named_shown t (p ∷ ps) = rw (some_name t p.name, named_shown t ps) refl

empty_shown : {X Y : Type 0} (h : X → Y) (xs : List X) → is_empty (map h xs) ≡ nat_eq (length xs) 0
empty_shown h [] = refl
empty_shown h (x ∷ xs) = sym (eqb-suc-zero (length xs))

form_by : (t : Table) (f : Function ℕ ℕ ℕ) (b : Bool) → f.declared ≡ b → form_stands (shown_function t f) ≡ form_stands (record (shown_function t f) { declared = b })
form_by t f b e = rw e refl

pub form_declared : (t : Table) (f : Function ℕ ℕ ℕ) → f.declared ≡ true → form_stands (shown_function t f) ≡ nat_eq (length f.blocks) 0
form_declared t f e = form_by t f true e ∙ empty_shown (shown_block t) f.blocks

pub form_defined : (t : Table) (f : Function ℕ ℕ ℕ) → f.declared ≡ false → form_stands (shown_function t f) ≡ (not f.variadic && list_all (λ p. is_some p.name) f.params)
form_defined t f e = form_by t f false e ∙ ap (λ b. not f.variadic && b) (named_shown t f.params)

defined_names : (t : Table) (ds : List (Defined ℕ ℕ)) → map (λ d. d.name) (map (shown_defined t) ds) ≡ map (name_at t) (map (λ d. d.name) ds)
defined_names t [] = refl
defined_names t (d ∷ ds) = ap (λ l. name_at t d.name ∷ l) (defined_names t ds)

pub names_are : (t : Table) (f : Function ℕ ℕ ℕ) → map (λ d. d.name) (defined (shown_function t f)) ≡ map (name_at t) (map (λ d. d.name) (defined f))
names_are t f = ap (map (λ (d : Defined Name TypeV). d.name)) (defined_shown t f) ∙ defined_names t (defined f)

pub count_shown : (t : Table) (bs : List (Block ℕ ℕ ℕ)) → instruction_count (map (shown_block t) bs) ≡ instruction_count bs
count_shown t [] = refl
count_shown t (b ∷ bs) =
    let n : length (map (shown t) b.instructions) ≡ length b.instructions = length-map b.instructions (shown t) in
    sum_by-cons (λ x. length x.instructions) (shown_block t b) (map (shown_block t) bs) ∙ rw (n, count_shown t bs) (sym (sum_by-cons (λ x. length x.instructions) b bs))

limit_is : (n : ℕ) → nat_lt n 4294967296 ≡ nat_le n 4294967295
limit_is n = grind (arith, nat_tests)

pub counts_are : (t : Table) (f : Function ℕ ℕ ℕ) → counts_stand (shown_function t f) ≡ (nat_lt (length f.blocks) 4294967296 && nat_le (instruction_count f.blocks) 4294967295)
counts_are t f =
    let n : length (map (shown_block t) f.blocks) ≡ length f.blocks = length-map f.blocks (shown_block t) in
    rw (n, count_shown t f.blocks, limit_is (instruction_count f.blocks)) refl

params_shown : (t : Table) (ps : List (Param ℕ ℕ)) → list_all (λ p. is_register p.of) (map (shown_param t) ps) ≡ list_all (λ p. is_register (type_at t p.of)) ps
params_shown t [] = refl
params_shown t (p ∷ ps) = ap (λ b. is_register (type_at t p.of) && b) (params_shown t ps)

blocks_shown : (t : Table) (types : List (NamedType Name TypeV)) (bs : List (Block ℕ ℕ ℕ)) → list_all (λ b. list_all (instruction_stands types) b.instructions) (map (shown_block t) bs) ≡ list_all (λ b. list_all (λ i. instruction_stands types (shown t i)) b.instructions) bs
blocks_shown t types [] = refl
blocks_shown t types (b ∷ bs) = rw (list_all-map (instruction_stands types) (shown t) b.instructions, blocks_shown t types bs) refl

pub function_is : (t : Table) (types : List (NamedType Name TypeV)) (f : Function ℕ ℕ ℕ) → function_stands types (shown_function t f)
    ≡ (is_answer (type_at t f.result) && list_all (λ p. is_register (type_at t p.of)) f.params && names_differ (map (λ d. d.name) (defined (shown_function t f))) && form_stands (shown_function t f)
    && counts_stand (shown_function t f) && list_all (λ b. list_all (λ i. instruction_stands types (shown t i)) b.instructions) f.blocks)
function_is t types f = rw (params_shown t f.params, blocks_shown t types f.blocks) refl
