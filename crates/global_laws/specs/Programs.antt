-- The globals of a module in the memories of its run, and in what the run leaves.
use Rattle.std.specs.Prelude.{ℕ, ◌≡◌, slice_get, length, Some, false}
use Rattle.ir_tree.specs.declared.items.Global.{Global as Variable}
use Rattle.ir_tree.specs.Modules.{Items}
use Rattle.ir_tree.specs.Naming.{type_at}
use Rattle.ir_bytes.specs.Initial.{size_in, global_object}
use Rattle.mem_image.specs.declared.object.Object.{Object}
use Rattle.mem_image.specs.Picture.{Picture, find}
use Rattle.seq_machine.specs.declared.state.GlobalBytes.{GlobalBytes}
use Rattle.global_laws.specs.Globals.{SameShape}

-- the global of each number stands in the memory under that number, in the shape that it had first
abbrev pub HasGlobals : Items → Picture → Type 0
HasGlobals m p = (k : ℕ) (g : Variable ℕ ℕ ℕ) → slice_get m.globals k ≡ Some g → (o : Object) × (find k p.objects ≡ Some o) × SameShape (global_object m k g) o

-- the entry is of a global that is no constant, and has as many bytes as the global's type says
pub record IsOfGlobal (m : Items) (e : GlobalBytes) : Type 0 where
  pub global : Variable ℕ ℕ ℕ
  pub there : slice_get m.globals e.global ≡ Some global
  pub changes : global.constant ≡ false
  pub size : length e.bytes ≡ size_in m (type_at m.names global.of)
