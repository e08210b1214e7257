use Rattle.std.proofs.Common.{sym, ◌∙◌}
use Rattle.ir_text.specs.Tokens.{tokens_of}
use Rattle.ir_reader.proofs.Faults.{wrong_here, wrong_in_body}
use Rattle.ir_reader.proofs.place.wrong_among.Goals as goal

pub returns-in-Some-clause-wrong : goal.returns-in-Some-clause-wrong
returns-in-Some-clause-wrong c = λ only known said. wrong_here only known _ (tokens_of c.args.text.now c.args.tokens.now) (sym c.in-Some.is ∙ c.in_ok-fault.ensures.wrong known said.bodies)

pub returns-in_ok-body_fault-in-None-clause-wrong : goal.returns-in_ok-body_fault-in-None-clause-wrong
returns-in_ok-body_fault-in-None-clause-wrong c = λ only known said.
    rw c.at_token.ensures
    (wrong_in_body only known (tokens_of c.args.text.now c.args.tokens.now) _ (sym c.in-None.is ∙ c.in_ok-fault.ensures.wrong known said.bodies) (c.in_ok-body_fault-in-None.ensures only said.names))
