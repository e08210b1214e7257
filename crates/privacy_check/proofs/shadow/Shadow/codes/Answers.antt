use Rattle.std.proofs.Common.{Some, sym, ap, ◌∙◌}
use Rattle.privacy_check.proofs.Tables.{table_at}
use Rattle.privacy_check.proofs.shadow.Shadow.codes.Goals as goal

pub returns-in-Some : goal.returns-in-Some
returns-in-Some c = ap Some c.as_slice.ensures.value ∙ sym (table_at (λ v. v.items) c.args.self.now _ c.args.name _ c.self.view_is c.in-Some.ensures.value)

pub returns-in-None : goal.returns-in-None
returns-in-None c = sym (table_at (λ v. v.items) c.args.self.now _ c.args.name _ c.self.view_is c.in-None.ensures.value)
