use Rattle.std.proofs.Common.{refl}
use Rattle.ir_checker.proofs.PhiLemmas.{first_operand, first_lost, no_first}
use Rattle.ir_checker.proofs.phis.has_first_operand.Goals as goal

pub returns-in-Some-get : goal.returns-in-Some-get
returns-in-Some-get c =
    first_operand c.args.names.now c.args.zero c.requires.zero c.args.arms.now c.args.from.now c.requires.from c.args.i c.in-Some.first _ c.in-Some-get.other.now _ c.in-Some-get.other.now c.same_operand.result
    c.requires.within c.in-Some-get.ensures.lookup.3.0 refl c.in-Some-get.ensures.lookup.1 (rw c.key_of.ensures at c.in-Some.ensures) c.same_operand.ensures

pub returns-in-None-get : goal.returns-in-None-get
returns-in-None-get c =
    first_lost c.args.names.now c.args.zero c.requires.zero c.args.arms.now c.args.from.now c.requires.from c.args.i c.in-Some.first _ _ _
    c.requires.within refl c.in-None-get.ensures.lookup.3 (rw c.key_of.ensures at c.in-Some.ensures)

pub returns-in-None : goal.returns-in-None
returns-in-None c =
    no_first c.args.names.now c.args.zero c.requires.zero c.args.arms.now c.args.from.now c.requires.from c.args.i _ _
    c.requires.within refl (rw c.key_of.ensures at c.in-None.ensures)
