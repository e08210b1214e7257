-- A function that is called by its name is called as what it is.
use Rattle.std.proofs.Common.{◌≡◌, ℕ, zero, suc, List, [], ◌∷◌, Bool, true, false, map, Option, Some, None, slice_get, refl, ap, if◌then◌else◌}
use Rattle.std.specs.Prelude.{IfSome, slice_index_or}
use Rattle.pv_base.specs.Outside.{Text}
use Rattle.pv_base.specs.declared.external.External.{External}
use Rattle.pv_base.specs.declared.name.Name.{Name}
use Rattle.pv_base.specs.declared.name.Name.TheVariants as name
use Rattle.seq_calls.specs.Names.{known}
use Rattle.ir_tree.specs.declared.items.Function.{Function}
use Rattle.ir_tree.specs.Naming.{name_at}
use Rattle.ir_tree.specs.Modules.{Items}
use Rattle.ir_code.specs.declared.op.Operand.{Operand}
use Rattle.ir_code.specs.declared.lookups.Linkage.TheVariants as linkage
use Rattle.ir_code.specs.Tables.{external_named, linkage_of_external, linkage_of}
use Rattle.ir_code.specs.Families.{call_of}
use Rattle.ir_code.specs.Coding.{tables_of}
use Rattle.resolving_laws.specs.Resolved.{IsCall}

pub index_made : {A B : Type 0} (h : A → B) (xs : List A) (k : ℕ) (x : A) (d : B) → slice_get xs k ≡ Some x → slice_index_or (map h xs) k d ≡ h x
index_made h [] k x d e = absurd cc
index_made h (y ∷ xs) zero x d e = let same : y ≡ x = cc in ap h same
index_made h (y ∷ xs) (suc k) x d e = index_made h xs k x d e

module _ (m : Items) (f : Function ℕ ℕ ℕ) (to : Option ℕ) (values : List Operand) (x k : ℕ) where
  known_if : (bytes : Text) (o : Option External) → name_at m.names x ≡ name.Named bytes → known bytes ≡ o → IfSome (call_of to values k (linkage_of_external o)) (IsCall m f to values x k true)
  known_if bytes None n e = tt
  known_if bytes (Some e) n is = (bytes, e, n, is, refl)

  external_if : (n : Name) → name_at m.names x ≡ n → IfSome (call_of to values k (linkage_of_external (external_named n))) (IsCall m f to values x k true)
  external_if (name.Named bytes) e = known_if bytes (known bytes) e refl
  external_if (name.Numbered i) e = tt

  linked_if : (n : ℕ) → n ≡ x → (b : Bool) → IfSome (call_of to values k (if b then linkage_of_external (external_named (name_at m.names n)) else linkage.Defined)) (IsCall m f to values x k b)
  linked_if n e false = refl
  linked_if n e true = rw e (external_if (name_at m.names x) refl)

  pub linked : (g : Function ℕ ℕ ℕ) → slice_get m.functions k ≡ Some g → g.name ≡ x → IfSome (call_of to values k (slice_index_or (tables_of m).linkages k linkage.Unknown)) (IsCall m f to values x k g.declared)
  linked g at e = rw (index_made (linkage_of m.names) m.functions k g linkage.Unknown at) (linked_if g.name e g.declared)
