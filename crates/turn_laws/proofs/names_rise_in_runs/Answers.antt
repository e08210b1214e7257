use Rattle.turn_laws.proofs.Names.{run_names_rise, turns_names_rise}
use Rattle.turn_laws.proofs.names_rise_in_runs.Goals as goal

pub returns-clause-run : goal.returns-clause-run
returns-clause-run c = run_names_rise

pub returns-clause-turns : goal.returns-clause-turns
returns-clause-turns c = turns_names_rise
