-- The worked values, computed.
use Rattle.std.proofs.Common.{refl}
use Rattle.int_num.specs.Operations.{residue, fits_unsigned, fits_signed, keeps, binary, compare}
use Rattle.int_num.specs.Reductions.{reduce}
use Rattle.mem_image.specs.Lookups.{peek}
use Rattle.seq_machine.specs.Acts.{frame_limit, output_limit}
use Rattle.seq_machine.specs.Meaning.{meaning}
use Rattle.turn_count.specs.Turns.{count}
use Rattle.period_rules.specs.Verdicts.{verdict}
use Rattle.period_rules.specs.Commits.{commit}
use Rattle.period_rules.specs.Ends.{span_end}
use Rattle.period_rules.specs.Runs.{run_from}
use Rattle.worked_spans.specs.Given.{LeastTurnFails, ReadConflicts, SumLeavesRange, SumStays, SumIsCommitted, StepsAreSpent, StepsAreJustEnough, KeptObjectsAreRenamed, MemoryIsJustEnough, MemoryIsShort}
use Rattle.worked_spans.specs.Computed.{WritingIsDone, RewritingFails, WritingCommits, WritingEnds, RewritingRecovers, WritingIsSpent}

pub least_turn_fails : LeastTurnFails
unfolding LeastTurnFails verdict commit peek residue reduce output_limit
least_turn_fails = refl

pub read_conflicts : ReadConflicts
unfolding ReadConflicts verdict commit peek residue reduce output_limit
read_conflicts = refl

pub sum_leaves_range : SumLeavesRange
unfolding SumLeavesRange verdict commit peek residue reduce output_limit
sum_leaves_range = refl

pub sum_stays : SumStays
unfolding SumStays verdict commit peek residue reduce output_limit
sum_stays = refl

pub sum_is_committed : SumIsCommitted
unfolding SumIsCommitted verdict commit peek residue reduce output_limit
sum_is_committed = refl

pub steps_are_spent : StepsAreSpent
unfolding StepsAreSpent verdict commit peek residue reduce output_limit
steps_are_spent = refl

pub steps_are_just_enough : StepsAreJustEnough
unfolding StepsAreJustEnough verdict commit peek residue reduce output_limit
steps_are_just_enough = refl

pub kept_objects_are_renamed : KeptObjectsAreRenamed
unfolding KeptObjectsAreRenamed verdict commit peek residue reduce output_limit
kept_objects_are_renamed = refl

pub writing_is_done : WritingIsDone
unfolding WritingIsDone verdict commit span_end run_from peek residue reduce output_limit frame_limit meaning binary compare keeps fits_unsigned fits_signed count
writing_is_done = refl

pub rewriting_fails : RewritingFails
unfolding RewritingFails verdict commit span_end run_from peek residue reduce output_limit frame_limit meaning binary compare keeps fits_unsigned fits_signed count
rewriting_fails = refl

pub writing_commits : WritingCommits
unfolding WritingCommits verdict commit span_end run_from peek residue reduce output_limit frame_limit meaning binary compare keeps fits_unsigned fits_signed count
writing_commits = refl

pub writing_ends : WritingEnds
unfolding WritingEnds verdict commit span_end run_from peek residue reduce output_limit frame_limit meaning binary compare keeps fits_unsigned fits_signed count
writing_ends = refl

pub rewriting_recovers : RewritingRecovers
unfolding RewritingRecovers verdict commit span_end run_from peek residue reduce output_limit frame_limit meaning binary compare keeps fits_unsigned fits_signed count
rewriting_recovers = refl

pub writing_is_spent : WritingIsSpent
unfolding WritingIsSpent verdict commit span_end run_from peek residue reduce output_limit frame_limit meaning binary compare keeps fits_unsigned fits_signed count
writing_is_spent = refl

pub memory_is_just_enough : MemoryIsJustEnough
unfolding MemoryIsJustEnough verdict commit peek residue reduce output_limit
memory_is_just_enough = refl

pub memory_is_short : MemoryIsShort
unfolding MemoryIsShort verdict commit peek residue reduce output_limit
memory_is_short = refl
