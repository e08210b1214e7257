use Rattle.std.proofs.Common.{arith, add-one, sym}
use Rattle.std.proofs.lemmas.List.{take_rest}
use Rattle.profile_lines.proofs.CutLemmas.{cut_none, cut_some}
use Rattle.profile_lines.proofs.cut.cut.Goals as goal

pub returns-in-Some : goal.returns-in-Some
returns-in-Some c =
    let p = c.in-Some.ensures in
    rw (take_rest, add-one) (sym (cut_some c.args.byte c.args.text.now c.in-Some.at p.0.high (λ j m. p.0.before j (omega arith) m) p.1))

pub returns-in-None : goal.returns-in-None
returns-in-None c = sym (cut_none c.args.byte c.args.text.now (λ k. c.in-None.ensures k (omega arith)))
