use Rattle.std.proofs.Common.{◌≡◌, ◌≤◌, ◌+◌, ℕ, List, Some, None, Option, All, length, subst, sym, ◌∙◌}
use Rattle.privacy_check.specs.Shadows.{in_range}
use Rattle.privacy_check.specs.Views.{codes_of}
use Rattle.privacy_check.proofs.Tables.{table_at, same_known}
use Rattle.privacy_check.proofs.shadow.Shadow.may_access.Goals as goal

pub returns-in-Some-clause-true_where : goal.returns-in-Some-clause-true_where
returns-in-Some-clause-true_where c = λ yes. record {
  codes = c.in-Some.codes.now.items;
  known = table_at (λ v. v.items) c.args.self.now _ c.args.at.name _ c.self.view_is c.in-Some.ensures.value;
  within = subst (λ (codes : List ℕ). c.args.at.offset + c.args.len ≤ length codes) c.as_slice.ensures.value (c.has_range.ensures.within yes);
  stamps = subst (λ (codes : List ℕ). All (λ k. k ≤ c.args.beta) (in_range c.args.at.offset c.args.len codes)) c.as_slice.ensures.value (c.has_range.ensures.stamps yes);
}

pub returns-in-Some-clause-false_else : goal.returns-in-Some-clause-false_else
returns-in-Some-clause-false_else c = λ may.
    let at_name : codes_of c.args.self.now c.args.at.name ≡ Some c.in-Some.codes.now.items = table_at (λ v. v.items) c.args.self.now _ c.args.at.name _ c.self.view_is c.in-Some.ensures.value in
    let same : may.codes ≡ c.as_slice.result.now = same_known (codes_of c.args.self.now) c.args.at.name _ _ may.known at_name ∙ sym c.as_slice.ensures.value in
    c.has_range.ensures.whole
    (subst (λ (codes : List ℕ). c.args.at.offset + c.args.len ≤ length codes) same may.within)
    (subst (λ (codes : List ℕ). All (λ k. k ≤ c.args.beta) (in_range c.args.at.offset c.args.len codes)) same may.stamps)

not_there : (codes : List ℕ) (found : Option (List ℕ)) → found ≡ Some codes → found ≡ None → ⊥
not_there codes found p q = cc

pub returns-in-None-clause-false_else : goal.returns-in-None-clause-false_else
returns-in-None-clause-false_else c = λ may.
    let at_name : codes_of c.args.self.now c.args.at.name ≡ None = table_at (λ v. v.items) c.args.self.now _ c.args.at.name _ c.self.view_is c.in-None.ensures.value in
    absurd (not_there _ _ may.known at_name)
