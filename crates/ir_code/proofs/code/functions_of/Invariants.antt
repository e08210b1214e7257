use Rattle.std.proofs.Common.{◌≡◌, map, take}
use Rattle.ir_code.specs.Coding.{function_of}
use Rattle.ir_code.specs.Fitting.{FunctionsFit}
use Rattle.ir_code.proofs.code.functions_of.Given as goal

abbrev pub invariant-loop-number : goal.invariant-loop-number
invariant-loop-number l = record {
  code : l.all ≡ map (function_of l.«module» l.lookups) (take l.number l.functions);
  fits : FunctionsFit l.all;
}
