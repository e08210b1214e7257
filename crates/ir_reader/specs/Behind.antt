-- What was read before, and what is still read.
use Rattle.std.specs.Prelude.{List, ◌++◌, Ok}
use Rattle.ir_text.specs.Reading.{Outcome, ◌>>=◌}

abbrev pub behind : {A : Type 0} → List A → Outcome (List A) → Outcome (List A)
behind front read = read >>= λ x. Ok (front ++ x.0, x.1)
