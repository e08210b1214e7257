-- Names by number, where a number that the table lacks stands for the name 0.
use Rattle.std.specs.Prelude.{ℕ, ◌+◌, if◌then◌else◌}
use Rattle.pv_base.specs.declared.name.Name.TheVariants.{Numbered}
use Rattle.ir_tree.specs.Table.{Table, same_name}
use Rattle.ir_tree.specs.Naming.{name_at}

-- the number under which a name is compared: 0 for the name 0
abbrev pub name_key : Table → ℕ → ℕ
name_key t k = if same_name (name_at t k) (Numbered 0) then 0 else k + 1
