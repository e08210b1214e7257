use Rattle.worked_spans.proofs.Worked.{steps_are_spent, steps_are_just_enough}
use Rattle.worked_spans.proofs.steps_are_counted_together.Goals as goal

pub returns-clause-steps_are_spent : goal.returns-clause-steps_are_spent
returns-clause-steps_are_spent c = steps_are_spent

pub returns-clause-steps_are_just_enough : goal.returns-clause-steps_are_just_enough
returns-clause-steps_are_just_enough c = steps_are_just_enough
