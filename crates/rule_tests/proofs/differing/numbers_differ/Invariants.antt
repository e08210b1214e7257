use Rattle.std.proofs.Common.{◌≡◌, ℕ, true, take}
use Rattle.std.specs.Prelude.{nat_eq}
use Rattle.std.specs.List.{list_any}
use Rattle.std.specs.Ordering.{nat_cmp}
use Rattle.std.specs.BTreeSet.{contains}
use Rattle.ir_rules.specs.Reading.{all_differ}
use Rattle.rule_tests.proofs.differing.numbers_differ.Given as goal

abbrev pub invariant-loop-i : goal.invariant-loop-i
invariant-loop-i l = record {
  seen : (q : ℕ) → contains nat_cmp l.seen q ≡ list_any (nat_eq q) (take l.i l.all);
  differ : all_differ nat_eq (take l.i l.all) ≡ true;
}
