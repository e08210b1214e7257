use Rattle.std.proofs.Common.{◌∙◌, ◌<◌, ℕ, List, map, length, ap, sym, arith, add-one, eqb}
use Rattle.std.specs.List.{IsDistinct}
use Rattle.std.proofs.lemmas.List.{take_all}
use Rattle.privacy_check.specs.Shadows.{untouched}
use Rattle.privacy_check.proofs.Tables.{codes_of-table_of, made_more}
use Rattle.privacy_check.proofs.Sizes.{untouched_more}
use Rattle.privacy_check.proofs.shadow.Shadow.new.Goals as goal

pub loop-size-preserved : goal.loop-size-preserved
loop-size-preserved c = λ name.
    let sizes : List (ℕ × ℕ) = c.as_slice-size-items.result.now in
    let differ : IsDistinct eqb (map (λ s. s.0) sizes) = rw c.as_slice-size-items.ensures c.requires in
    let below : c.loop-size.size-index < length sizes = omega arith in
    made_more (λ v. v.items) c.loop-size.objects.entries c.insert.new.self.entries _ name c.in_ok-codes.codes _ _ (c.in_ok-insert.ensures.updates.0 name) (c.loop-size.invariant name) c.in_ok-codes.ensures
    ∙ sym (rw add-one (untouched_more sizes c.loop-size.size-index _ name below differ))

pub returns : goal.returns
returns c = λ name. codes_of-table_of (λ v. v.items) c.loop-size.objects.entries name ∙ c.loop-size.invariant name ∙ ap (λ (sizes : List (ℕ × ℕ)). untouched sizes name) (take_all _ _ c.loop-size-test.false ∙ c.as_slice-size-items.ensures)
