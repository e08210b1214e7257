use Rattle.ir_instr.proofs.ArgumentTurns.{bundle_fails}
use Rattle.ir_instr.proofs.calls.bundle.Goals as goal

pub returns-in_ok-what-in-Some : goal.returns-in_ok-what-in-Some
returns-in_ok-what-in-Some c = bundle_fails c.args.cursor.now c.next.new.self c.in-Some.lexeme c.in_ok-what-in-Some.what c.bad.result c.in-Some.ensures c.in_ok-what-in-Some.ensures c.bad.ensures
