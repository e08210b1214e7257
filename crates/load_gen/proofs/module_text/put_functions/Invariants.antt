use Rattle.std.proofs.Common.{◌≡◌, ◌++◌, ◌*◌}
use Rattle.load_gen.specs.Numbers.{each, drawn}
use Rattle.load_gen.specs.Module.{function_text}
use Rattle.load_gen.proofs.module_text.put_functions.Given as goal

abbrev pub invariant-loop-j : goal.invariant-loop-j
invariant-loop-j l = (l.to ≡ l.fn.to ++ each (function_text l.number) l.j) × (l.drawn ≡ drawn l.number (2 * l.j))
