use Rattle.deferred_output.proofs.Turns as turns
use Rattle.deferred_output.proofs.laws.distinct_turns_have_one_answer.Goals as goal

pub returns : goal.returns
returns c = turns.one_answer
