-- Where passing over ends.
use Rattle.std.specs.Prelude.{Bool, map}
use Rattle.ir_text.specs.declared.passed.Stops.{Stops}
use Rattle.ir_text.specs.Tokens.{TokenV}
use Rattle.ir_text.specs.Passed.{stops}

abbrev pub stops_of : Stops → TokenV → Bool
stops_of at = stops (map (λ w. w.now) at.words.now) at.types
