-- Lists of which a part was read before.
use Rattle.std.specs.Prelude.{List, ◌++◌, Ok}
use Rattle.ir_text.specs.Reading.{Outcome, ◌>>=◌}

-- what was read before, and what is read behind it
abbrev pub behind : {A : Type 0} → List A → Outcome (List A) → Outcome (List A)
behind front read = read >>= λ all. Ok (front ++ all.0, all.1)
