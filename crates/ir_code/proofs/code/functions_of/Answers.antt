use Rattle.std.proofs.Common.{arith}
use Rattle.std.proofs.lemmas.Grind.{common_steps}
use Rattle.ir_code.proofs.Fits.{functions_fit_more}
use Rattle.ir_code.proofs.code.functions_of.Goals as goal

pub loop-number-preserved : goal.loop-number-preserved
loop-number-preserved c = record {
  code = grind (arith, common_steps);
  fits = functions_fit_more c.loop-number.all c.push.new.self c.in_ok-code.code c.in_ok-push.ensures.ok c.in_ok-code.ensures.fits c.loop-number.invariant.fits;
}
