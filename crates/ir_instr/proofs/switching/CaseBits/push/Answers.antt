use Rattle.ir_instr.proofs.CaseTurns.{bits_pushed}
use Rattle.ir_instr.proofs.switching.CaseBits.push.Goals as goal
use Rattle.ir_instr.proofs.switching.CaseBits.push.Goals.{in-Ok, in-Err}

pub returns-clause-ok : goal.returns-clause-ok
returns-clause-ok c =
    let none = rw (← c.self.view_is) at c.requires in
    elim c.match-insert.branch [
      | in-Ok w ↦ rw (w.result-is, ← c.self.view_is) (bits_pushed c.self.inside.bits.keys c.insert.new.self.keys c.args.bits none w.in-Ok.ensures.keys)
      | in-Err w ↦ rw w.result-is tt
    ]
