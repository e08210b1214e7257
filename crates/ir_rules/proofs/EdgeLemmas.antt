-- The edges between blocks, by numbers and written out.
use Rattle.std.proofs.Common.{◌≡◌, ℕ, Bool, true, false, List, [], ◌∷◌, map, Some, None, slice_get, refl, ap, ◌∙◌}
use Rattle.std.specs.Prelude.{◌&&◌, ◌||◌, not}
use Rattle.std.specs.List.{list_all}
use Rattle.pv_base.specs.declared.name.Name.{Name}
use Rattle.ir_tree.specs.declared.instruction.Instruction.{Instruction}
use Rattle.ir_tree.specs.declared.items.Block.{Block}
use Rattle.ir_tree.specs.declared.items.Function.{Function}
use Rattle.ir_tree.specs.Table.{Table, same_name}
use Rattle.ir_tree.specs.Naming.{name_at}
use Rattle.ir_tree.specs.Shown.{shown, shown_block, shown_function}
use Rattle.ir_rules.specs.Forms.{targets}
use Rattle.ir_rules.specs.Spots.{is_entry}
use Rattle.ir_rules.specs.Causes.{spares_entry}
use Rattle.ir_rules.proofs.ShownLemmas.{targets_shown}

pub or_false : (b : Bool) → (b || false) ≡ b
or_false true = refl
or_false false = refl

pub all_of : {X Y : Type 0} (p : Y → Bool) (h : X → Y) (xs : List X) → list_all p (map h xs) ≡ list_all (λ x. p (h x)) xs
all_of p h [] = refl
all_of p h (x ∷ xs) = ap (λ b. p (h x) && b) (all_of p h xs)

pub entry_some : (t : Table) (bs : List (Block ℕ ℕ ℕ)) (b : Block ℕ ℕ ℕ) (label : Name) → slice_get bs 0 ≡ Some b → same_name (name_at t b.label) label ≡ is_entry (map (shown_block t) bs) label
entry_some t [] b label e = absurd cc
entry_some t (first ∷ bs) b label e = let h : first ≡ b = cc in rw h refl

pub entry_none : (t : Table) (bs : List (Block ℕ ℕ ℕ)) (label : Name) → slice_get bs 0 ≡ None → false ≡ is_entry (map (shown_block t) bs) label
entry_none t [] label e = refl
entry_none t (first ∷ bs) label e = absurd cc

pub spares_is : (t : Table) (f : Function ℕ ℕ ℕ) (i : Instruction ℕ ℕ ℕ) → spares_entry (shown_function t f) (shown t i) ≡ list_all (λ l. not (is_entry (map (shown_block t) f.blocks) (name_at t l))) (targets i)
spares_is t f i = ap (list_all (λ label. not (is_entry (map (shown_block t) f.blocks) label))) (targets_shown t i) ∙ all_of (λ label. not (is_entry (map (shown_block t) f.blocks) label)) (name_at t) (targets i)
