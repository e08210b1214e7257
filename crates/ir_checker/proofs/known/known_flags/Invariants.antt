use Rattle.std.proofs.Common.{◌≡◌, length}
use Rattle.ir_rules.specs.Seen.{seen}
use Rattle.ir_rules.specs.Constants.{names_known}
use Rattle.ir_rules.specs.Heads.{FlagsBelow}
use Rattle.ir_checker.proofs.known.known_flags.Given as goal

abbrev pub invariant-loop-number : goal.invariant-loop-number
invariant-loop-number l = record {
  len : length l.flags ≡ l._number;
  below : FlagsBelow l.tree.names (names_known (seen l.tree)) l.flags;
}
