use Rattle.std.proofs.Common.{ap, ◌∙◌, arith}
use Rattle.std.proofs.lemmas.List.{take_all}
use Rattle.ir_checker.specs.Firsts.{first_place}
use Rattle.ir_checker.proofs.FirstLemmas.{first_none, first_more, empty_map}
use Rattle.ir_checker.proofs.firsts.places_of.Goals as goal

pub loop-i-init : goal.loop-i-init
loop-i-init c = λ q. empty_map q c.new-places.result c.new-places.ensures.empty ∙ first_none q

pub loop-i-preserved : goal.loop-i-preserved
loop-i-preserved c = λ q. c.in_ok-places.ensures q ∙ rw (c.loop-i.invariant q) (first_more q c.args.numbers.now c.loop-i.i 0 (omega arith))

pub returns : goal.returns
returns c = λ q. c.loop-i.invariant q ∙ ap (first_place q) (take_all c.loop-i.i c.args.numbers.now (omega arith))
