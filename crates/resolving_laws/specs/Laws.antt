-- What stands in a module's code.
use Rattle.std.specs.Prelude.{ℕ, ◌≡◌, ◌⊎◌}
use Rattle.ir_tree.specs.Table.{IsTable}
use Rattle.ir_tree.specs.Modules.{Items}
use Rattle.ir_rules.specs.Checked.{IsChecked}
use Rattle.ir_code.specs.declared.op.Op.TheVariants as op
use Rattle.resolving_laws.specs.Resolved.{IsResolved}
use Rattle.resolving_laws.specs.Places.{StandsAt, CodedAt}

-- each instruction of a module has its place in the code, and is resolved there, where it breaks no rule
abbrev pub ResolvedOrStuck : Type 0
ResolvedOrStuck = (m : Items) (k b i : ℕ) (s : StandsAt m k b i) → (c : CodedAt m k b i s) × ((c.op ≡ op.Stuck) ⊎ IsResolved m s.function c.function.edges s.block.label s.instruction c.op)

-- none of a checked module is stuck
abbrev pub NoneIsStuck : Type 0
NoneIsStuck = (m : Items) → IsTable m.names → IsChecked m → (k b i : ℕ) (s : StandsAt m k b i) (c : CodedAt m k b i s) → c.op ≡ op.Stuck → ⊥

-- so each instruction of a checked module is resolved
abbrev pub AllAreResolved : Type 0
AllAreResolved = (m : Items) → IsTable m.names → IsChecked m → (k b i : ℕ) (s : StandsAt m k b i) → (c : CodedAt m k b i s) × IsResolved m s.function c.function.edges s.block.label s.instruction c.op
