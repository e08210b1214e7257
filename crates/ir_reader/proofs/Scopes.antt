-- Scopes, with one more name.
use Rattle.std.proofs.Common.{◌≡◌, ℕ, ◌<◌, List, length, map, slice_get, Some, None, Result, Ok, Err, get_or, refl}
use Rattle.std.specs.Prelude.{OnOk}
use Rattle.std.proofs.lemmas.Option.{slice_get-get_or}
use Rattle.pv_base.specs.declared.name.Name.{Name}
use Rattle.pv_base.specs.declared.name.Name.TheVariants.{Numbered}
use Rattle.ir_tree.specs.Table.{Table, IsTable}
use Rattle.ir_tree.specs.Naming.{Grows, name_at}
use Rattle.ir_text.proofs.Later.{named_later}
use Rattle.ir_instr.specs.Defined.{AreNames, with_number}
use Rattle.ir_grammar.specs.Scopes.{Scope, counted, defining}
use Rattle.ir_reader.proofs.Naming.{with_later}

pub defined_later : (table later : Table) → IsTable table → Grows table later → (next n : ℕ) (ks : List ℕ) (k : ℕ) (name : Name) → AreNames table ks → k < length table.names → slice_get table.names k ≡ Some name → n ≡ counted next name
    → (let s : Scope = record { next = n; defined = map (name_at later) (with_number ks k) } in s) ≡ defining (record { next = next; defined = map (name_at later) ks }) (name_at later k)
defined_later table later is grows next n ks k name all lt known e =
    let spelled : name_at later k ≡ name = named_later table later k name known grows in
    rw (with_later table later is grows ks k all lt, e, spelled) refl

pub within_some : (table : Table) (k : ℕ) → k < length table.names → slice_get table.names k ≡ None → ⊥
within_some table k lt none = let some : slice_get table.names k ≡ Some (get_or table.names k (Numbered 0)) = slice_get-get_or table.names k (Numbered 0) lt in cc

pub on_ok_then : (A E : Type 0) (P Q : Type 0) (r : Result A E) → OnOk r P → (P → Q) → OnOk r Q
on_ok_then A E P Q (Ok a) is go = go is
on_ok_then A E P Q (Err e) is go = tt
