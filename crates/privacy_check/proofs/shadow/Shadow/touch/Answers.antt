use Rattle.std.proofs.Common.{◌≡◌, ◌≤◌, ◌+◌, ℕ, List, Some, None, Option, All, length, ap, sym, rules, arith, subst, ◌∙◌}
use Rattle.std.proofs.lemmas.List.{with_items_is}
use Rattle.std.specs.Vec.{with_items}
use Rattle.std.specs.Result.{result_unwrap_or}
use Rattle.privacy_check.specs.Shadows.{in_range, with_codes, told, object_after}
use Rattle.privacy_check.specs.Views.{codes_of}
use Rattle.privacy_check.proofs.Tables.{table_at, same_known, table_written, touch_told, touch_codes}
use Rattle.privacy_check.proofs.shadow.Shadow.touch.Goals as goal

not_there : (codes : List ℕ) (found : Option (List ℕ)) → found ≡ Some codes → found ≡ None → ⊥
not_there codes found p q = cc

pub touch_range-requires-clause-within : goal.touch_range-requires-clause-within
touch_range-requires-clause-within c =
    let at_name : codes_of c.args.self.now c.args.at.name ≡ Some c.in-Some.codes.now.items = table_at (λ v. v.items) c.args.self.now _ c.args.at.name _ c.self.view_is c.in-Some.ensures.value in
    let same : c.requires.range.codes ≡ c.as_mut_slice.result.now = same_known (codes_of c.args.self.now) c.args.at.name _ _ c.requires.range.known at_name ∙ sym c.as_mut_slice.ensures.value in
    subst (λ (codes : List ℕ). c.args.at.offset + c.args.len ≤ length codes) same c.requires.range.within

pub touch_range-requires-clause-stamps : goal.touch_range-requires-clause-stamps
touch_range-requires-clause-stamps c =
    let at_name : codes_of c.args.self.now c.args.at.name ≡ Some c.in-Some.codes.now.items = table_at (λ v. v.items) c.args.self.now _ c.args.at.name _ c.self.view_is c.in-Some.ensures.value in
    let same : c.requires.range.codes ≡ c.as_mut_slice.result.now = same_known (codes_of c.args.self.now) c.args.at.name _ _ c.requires.range.known at_name ∙ sym c.as_mut_slice.ensures.value in
    subst (λ (codes : List ℕ). All (λ k. k ≤ c.args.beta) (in_range c.args.at.offset c.args.len codes)) same c.requires.range.stamps

pub returns : goal.returns
returns c =
    let at_name : codes_of c.args.self.now c.args.at.name ≡ Some c.in-Some.codes.now.items = table_at (λ v. v.items) c.args.self.now _ c.args.at.name _ c.self.view_is c.in-Some.ensures.value in
    let value : c.as_mut_slice.result.now ≡ c.in-Some.codes.now.items = c.as_mut_slice.ensures.value in
    let kept = c.touch_range.auto.codes in
    let len = c.in-Some.codes.now.ok.0 in
    let all = ap length value in
    let written : (with_items c.in-Some.codes.now c.touch_range.new.codes).items ≡ c.touch_range.new.codes = with_items_is c.in-Some.codes.now c.touch_range.new.codes (omega arith) in
    record {
      answer = c.touch_range.ensures.answer ∙ ap (λ (codes : List ℕ). told (object_after c.args.access c.args.beta c.args.at.offset c.args.len codes)) value ∙ touch_told (codes_of c.args.self.now) c.args.access c.args.beta c.args.at c.args.len c.in-Some.codes.now.items at_name;
      codes = λ name.
          table_written (λ v. v.items) c.args.self.now _ _ c.args.at.name (with_items c.in-Some.codes.now c.touch_range.new.codes) c.self.view_is
          (((c.get_mut.follows.holds (with_items c.in-Some.codes.now c.touch_range.new.codes)).3 (search rules)).0) name
          ∙ ap (λ (codes : List ℕ). with_codes (codes_of c.args.self.now) c.args.at.name codes name) written
          ∙ touch_codes (codes_of c.args.self.now) c.args.access c.args.beta c.args.at c.args.len c.in-Some.codes.now.items c.touch_range.new.codes at_name
          (c.touch_range.ensures.codes ∙ ap (λ (codes : List ℕ). result_unwrap_or (object_after c.args.access c.args.beta c.args.at.offset c.args.len codes) codes) value) name;
    }

pub returns-in-None-clause-answer : goal.returns-in-None-clause-answer
returns-in-None-clause-answer c =
    let at_name : codes_of c.args.self.now c.args.at.name ≡ None = table_at (λ v. v.items) c.args.self.now _ c.args.at.name _ c.self.view_is c.in-None.ensures.value in
    absurd (not_there _ _ c.requires.range.known at_name)

pub returns-in-None-clause-codes : goal.returns-in-None-clause-codes
returns-in-None-clause-codes c =
    let at_name : codes_of c.args.self.now c.args.at.name ≡ None = table_at (λ v. v.items) c.args.self.now _ c.args.at.name _ c.self.view_is c.in-None.ensures.value in
    absurd (not_there _ _ c.requires.range.known at_name)
