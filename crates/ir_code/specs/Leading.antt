-- Where an index leads, with the type by its number.
use Rattle.std.specs.Prelude.{◌≡◌, Option, option_map}
use Rattle.ir_tree.specs.Naming.{type_at}
use Rattle.ir_tree.specs.Modules.{Items}
use Rattle.ir_code.specs.declared.strides.Step.{Step as Found}
use Rattle.ir_code.specs.Strides.{Step}

-- an index leads there
abbrev pub LeadsTo : Items → Option Found → Option Step → Type 0
LeadsTo m found step = option_map (λ s. record { index = s.index; into = type_at m.names s.into }) found ≡ step
