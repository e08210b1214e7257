-- The stack of what is open, a turn of the loop further.
use Rattle.std.proofs.Common.{◌≡◌, ℕ, List, [], ◌∷◌, ◌++◌, length, All, refl, sym, ap, ◌∙◌}
use Rattle.std.proofs.lemmas.List.Elements.{All-push, All-pop}
use Rattle.std.specs.Prelude.{Some}
use Rattle.ir_text.specs.declared.fault.ReadEnd.{ReadEnd}
use Rattle.ir_text.specs.declared.nested.Open.{Open}
use Rattle.ir_text.specs.declared.nested.Open.TheVariants as waiting
use Rattle.ir_tree.specs.Table.{Table}
use Rattle.ir_tree.specs.Trees.{TypeV}
use Rattle.ir_tree.specs.Naming.{Grows}
use Rattle.ir_tree.proofs.Showing.{type_within_more}
use Rattle.ir_text.specs.Reading.{Outcome, ◌>>=◌, Fails}
use Rattle.ir_text.specs.Types.{Known}
use Rattle.ir_text.specs.Nested.{closing, resume, OpenWithin}
use Rattle.ir_text.proofs.NestedSteps.{push_open, resume_fails, bind_fails, fails_is}

module _ (known : Known) (at : ℕ → TypeV) (o : Open) (total : Outcome TypeV) where
  pub popped : (os ps : List Open) (read next : Outcome TypeV) → os ≡ ps ++ o ∷ [] → resume known at os read ≡ total → (read >>= closing known at o) ≡ next → resume known at ps next ≡ total
  popped os ps read next is so_far step =
      sym (ap (resume known at ps) step) ∙ sym (push_open known at ps o read) ∙ sym (ap (λ xs. resume known at xs read) is) ∙ so_far

  pub popped_fails : (e : ReadEnd) (os ps : List Open) (read : Outcome TypeV) → os ≡ ps ++ o ∷ [] → resume known at os read ≡ total → Fails e (read >>= closing known at o) → Fails e total
  popped_fails e os ps read is so_far h = fails_is e total _ (sym (popped os ps read _ is so_far refl)) (resume_fails known at ps e _ h)

  pub pushed : (os ps : List Open) (read next : Outcome TypeV) → ps ≡ os ++ o ∷ [] → resume known at os (read >>= closing known at o) ≡ total → read ≡ next → resume known at ps next ≡ total
  pushed os ps read next is so_far step =
      ap (λ xs. resume known at xs next) is ∙ push_open known at os o next ∙ ap (λ r. resume known at os (r >>= closing known at o)) (sym step) ∙ so_far

  pub pushed_fails : (e : ReadEnd) (os : List Open) (read : Outcome TypeV) → resume known at os (read >>= closing known at o) ≡ total → Fails e read → Fails e total
  pushed_fails e os read so_far h = fails_is e total _ (sym so_far) (resume_fails known at os e _ (bind_fails e read (closing known at o) h))

-- ---- the numbers on the stack

pub open_more : (a b : Table) (o : Open) → Grows a b → OpenWithin (length a.types) o → OpenWithin (length b.types) o
open_more a b (waiting.Array n) grows h = tt
open_more a b (waiting.Struct packed ks) grows h = λ i d lt. type_within_more a b _ grows (h i d lt)

pub stack_more : (a b : Table) (os : List Open) → Grows a b → All (OpenWithin (length a.types)) os → All (OpenWithin (length b.types)) os
stack_more a b os grows h = λ i d lt. open_more a b _ grows (h i d lt)

pub stack_pushed : (a b : Table) (os ps : List Open) (o : Open) → Grows a b → ps ≡ os ++ o ∷ [] → All (OpenWithin (length a.types)) os → OpenWithin (length a.types) o → All (OpenWithin (length b.types)) ps
stack_pushed a b os ps o grows is h one = stack_more a b ps grows (rw is (All-push (OpenWithin (length a.types)) os o h one))

pub stack_popped : (a : Table) (os ps : List Open) (o : Open) → os ≡ ps ++ o ∷ [] → All (OpenWithin (length a.types)) os → All (OpenWithin (length a.types)) ps × OpenWithin (length a.types) o
stack_popped a os ps o is h = let p = All-pop (OpenWithin (length a.types)) os ps (Some o) is h in (p.0, p.1)
