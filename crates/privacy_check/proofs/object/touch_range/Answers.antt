use Rattle.std.proofs.Common.{sym, ◌∙◌, arith}
use Rattle.privacy_check.proofs.Ranges.{object_passed}
use Rattle.privacy_check.proofs.object.touch_range.Goals as goal

pub returns-clause-codes : goal.returns-clause-codes
returns-clause-codes c = object_passed c.args.access c.args.beta c.args.offset c.args.len _ c.args.codes.now c.mark.new.codes (omega arith) (sym c.first_refused.ensures ∙ c.in_default.is) c.mark.ensures
