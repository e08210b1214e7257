use Rattle.std.proofs.Common.{◌≡◌, ℕ, ◌∷◌, [], map, None, ◌∙◌, arith, length-append, Option}
use Rattle.ir_tree.proofs.Bounded.{joined_bound}
use Rattle.ir_tree.proofs.Folding.{fold_map_more}
use Rattle.ir_tree.proofs.Offsets.{next_place, each_more}
use Rattle.ir_tree.specs.Layouts.{joined, no_fields, place_in}
use Rattle.ir_tree.specs.Filling.{answer_at}
use Rattle.ir_tree.proofs.fields.struct_places.Goals as goal

pub loop-field-preserved : goal.loop-field-preserved
loop-field-preserved c =
    let i = c.loop-field.field-index in
    let at = answer_at c.args.answers.now in
    let places = c.loop-field.places in
    let before = c.loop-field.invariant in
    let last = (rw c.answer_at-of.ensures at c.place-at.ensures) ∙ next_place c.args.packed at c.args.fields.now i c.loop-field.so c.loop-field-test.true before.so in
    record {
      so =
          let step = fold_map_more (joined c.args.packed) no_fields (answer_at c.args.answers.now) c.args.fields.now c.loop-field.field-index 0 c.loop-field-test.true in
          rw (step, ← c.loop-field.invariant.so, ← c.answer_at-of.ensures) c.joined-so.ensures;
      bound = rw c.joined-so.ensures (joined_bound c.args.packed c.loop-field.so c.answer_at-of.result before.bound (rw c.answer_at-of.ensures (c.requires _)));
      len = rw c.in_ok-push.ensures.ok (let len = before.len in omega (arith, length-append places (c.place-at.result ∷ [])));
      each = rw c.in_ok-push.ensures.ok (each_more None (λ (j : ℕ) (p : Option ℕ). p ≡ place_in c.args.packed (map at c.args.fields.now) j) places c.place-at.result i before.len before.each last);
    }
