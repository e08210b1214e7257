-- What was read of a module, with one more item.
use Rattle.std.proofs.Common.{◌≡◌, ℕ, ◌+◌, ◌<◌, ◌≤◌, Bool, true, false, cond, List, [], ◌∷◌, ◌++◌, length, All, refl}
use Rattle.pv_base.specs.Limits.{live_limit}
use Rattle.std.proofs.lemmas.List.{map-append}
use Rattle.std.proofs.lemmas.List.Elements.{All-push}
use Rattle.ir_tree.specs.declared.items.NamedType.{NamedType}
use Rattle.ir_tree.specs.declared.items.Global.{Global}
use Rattle.ir_tree.specs.declared.items.Function.{Function}
use Rattle.ir_tree.specs.Table.{Table, IsTable}
use Rattle.ir_tree.specs.Naming.{Grows}
use Rattle.ir_tree.specs.Shown.{shown_named, shown_global, shown_function}
use Rattle.ir_instr.specs.Defined.{AreNames, number_among, with_number}
use Rattle.ir_instr.proofs.Kept.{names_kept}
use Rattle.ir_grammar.specs.Modules as grammar
use Rattle.ir_reader.specs.declared.so_far.SoFar.{SoFar}
use Rattle.ir_reader.specs.Gathered.{so_far_at, SoFarWithin}
use Rattle.ir_reader.proofs.Naming.{with_later}

-- the numbers of names, with one more
pub names_with : (table : Table) (ks : List ℕ) (k : ℕ) → AreNames table ks → k < length table.names → AreNames table (with_number ks k)
names_with table ks k all lt = by_test (number_among k ks)
  where
    by_test : (b : Bool) → All (λ j. j < length table.names) (cond b ks (ks ++ k ∷ []))
    by_test true = all
    by_test false = All-push (λ j. j < length table.names) ks k all lt

module _ (table : Table) (is : IsTable table) (s : SoFar) (within : SoFarWithin table s) where
  module _ (later : Table) (grows : Grows table later) where
    pub type_added : (n : NamedType ℕ ℕ) → n.name < length table.names → so_far_at later (record s { types = with_number s.types n.name }) ≡ grammar.with_item (so_far_at later s) (grammar.TypeItem (shown_named later n))
    type_added n lt = rw (with_later table later is grows s.types n.name within.types lt) refl

    pub global_added : (g : Global ℕ ℕ ℕ) (bytes : ℕ) → g.name < length table.names
        → so_far_at later (record s { globals = s.globals ++ g ∷ []; values = with_number s.values g.name; size = s.size + bytes }) ≡ grammar.with_item (so_far_at later s) (grammar.GlobalItem (shown_global later g) bytes)
    global_added g bytes lt = rw (map-append (shown_global later) s.globals (g ∷ []), with_later table later is grows s.values g.name within.values lt) refl

    pub function_added : (f : Function ℕ ℕ ℕ) → f.name < length table.names
        → so_far_at later (record s { functions = s.functions ++ f ∷ []; values = with_number s.values f.name }) ≡ grammar.with_item (so_far_at later s) (grammar.FunctionItem (shown_function later f))
    function_added f lt = rw (map-append (shown_function later) s.functions (f ∷ []), with_later table later is grows s.values f.name within.values lt) refl

  pub type_within : (n : NamedType ℕ ℕ) → n.name < length table.names → SoFarWithin table (record s { types = with_number s.types n.name })
  type_within n lt = record { types = names_with table s.types n.name within.types lt; values = within.values; size = within.size }

  pub global_within : (g : Global ℕ ℕ ℕ) (bytes : ℕ) → g.name < length table.names → s.size + bytes ≤ live_limit → SoFarWithin table (record s { globals = s.globals ++ g ∷ []; values = with_number s.values g.name; size = s.size + bytes })
  global_within g bytes lt fits = record { types = within.types; values = names_with table s.values g.name within.values lt; size = fits }

  pub function_within : (f : Function ℕ ℕ ℕ) → f.name < length table.names → SoFarWithin table (record s { functions = s.functions ++ f ∷ []; values = with_number s.values f.name })
  function_within f lt = record { types = within.types; values = names_with table s.values f.name within.values lt; size = within.size }

-- a later table has the same numbers
pub so_far_kept : (a b : Table) (s : SoFar) → SoFarWithin a s → Grows a b → SoFarWithin b s
so_far_kept a b s within grows = record { types = names_kept a b s.types within.types grows; values = names_kept a b s.values within.values grows; size = within.size }
