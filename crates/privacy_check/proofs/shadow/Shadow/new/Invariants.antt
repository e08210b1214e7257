use Rattle.std.proofs.Common.{◌≡◌, ℕ, take, option_map}
use Rattle.std.specs.Ordering.{nat_cmp}
use Rattle.std.specs.BTreeMap.{get}
use Rattle.privacy_check.specs.Shadows.{untouched}
use Rattle.privacy_check.proofs.shadow.Shadow.new.Given as goal

abbrev pub invariant-loop-size : goal.invariant-loop-size
invariant-loop-size l = (name : ℕ) → option_map (λ v. v.items) (get nat_cmp l.objects name) ≡ untouched (take l.size-index l.size-items) name
