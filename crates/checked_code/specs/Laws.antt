-- What the rules of a module say of its code and of the memory in which it starts.
use Rattle.std.specs.Prelude.{◌≡◌, ◌≤◌, length, Some, true}
use Rattle.ir_tree.specs.declared.layout.Layout.{Layout}
use Rattle.ir_tree.specs.Trees.{TypeV, ConstantV}
use Rattle.ir_tree.specs.Layouts.{layout_of}
use Rattle.ir_tree.specs.Modules.{Items, types_of}
use Rattle.ir_tree.specs.Table.{IsTable}
use Rattle.ir_code.specs.Coding.{code_of}
use Rattle.ir_rules.specs.Seen.{seen}
use Rattle.ir_rules.specs.Constants.{is_of}
use Rattle.ir_rules.specs.Checked.{IsChecked}
use Rattle.ir_bytes.specs.Initial.{bytes_of, GlobalsFit}
use Rattle.mem_image.specs.Picture.{name_limit}
use Rattle.checked_code.specs.Starting.{Starts}

-- the first bytes of a constant of a type are no more than the type's layout says
abbrev pub InitialisersFit : Type 0
InitialisersFit = (m : Items) (type : TypeV) (c : ConstantV) (l : Layout) → is_of (seen m) type c ≡ true → layout_of (types_of m) type ≡ Some l → length (bytes_of m type c) ≤ l.size

-- the globals of a checked module are no more than a memory holds, where they are no more than it has names
abbrev pub GlobalsAreFew : Type 0
GlobalsAreFew = (m : Items) → length m.globals ≤ name_limit → IsChecked m → GlobalsFit m

-- the code of a checked module has a function at which its program begins
abbrev pub CheckedStarts : Type 0
CheckedStarts = (m : Items) → IsTable m.names → IsChecked m → Starts (code_of m)
