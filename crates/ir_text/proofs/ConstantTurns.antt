-- The stack of open constants, a turn of the loop further.
use Rattle.std.proofs.Common.{◌≡◌, ℕ, ◌<◌, ◌≤◌, List, [], ◌∷◌, ◌++◌, Ok, length, All, arith, refl, sym, ap, ◌∙◌}
use Rattle.std.proofs.lemmas.List.Elements.{All-push, All-pop}
use Rattle.std.specs.Prelude.{Option, Some, None}
use Rattle.ir_text.specs.declared.nested_constants.Address.{Address}
use Rattle.ir_tree.specs.declared.nodes.Element.{Element}
use Rattle.ir_text.specs.declared.fault.ReadEnd.{ReadEnd}
use Rattle.ir_text.specs.declared.nested_constants.OpenConstant.{OpenConstant}
use Rattle.ir_text.specs.declared.nested_constants.OpenConstant.TheVariants as waiting
use Rattle.ir_tree.specs.Table.{Table}
use Rattle.ir_tree.specs.Trees.{TypeV, ConstantV}
use Rattle.ir_tree.specs.Naming.{Grows, ElementWithin, ElementsWithin}
use Rattle.ir_tree.proofs.Showing.{type_within_more, constant_within_more}
use Rattle.ir_text.specs.Tokens.{TokenV}
use Rattle.ir_text.specs.Reading.{Outcome, ◌>>=◌, Fails}
use Rattle.ir_text.specs.Types.{Known, type_at}
use Rattle.ir_text.specs.OpenConstants.{closing, resume, AddressWithin, TypeWithin, OpenWithin}
use Rattle.ir_text.proofs.TypeFuel.{at_less}
use Rattle.ir_text.proofs.NestedSteps.{bind_fails, fails_is}
use Rattle.ir_text.proofs.ConstantSteps.{push_open, resume_fails}

module _ (known : Known) (later : Table) (o : OpenConstant) (total : Outcome ConstantV) where
  pub popped : (os ps : List OpenConstant) (read next : Outcome ConstantV) → os ≡ ps ++ o ∷ [] → resume known later os read ≡ total → (read >>= closing known later o) ≡ next → resume known later ps next ≡ total
  popped os ps read next is so_far step =
      sym (ap (resume known later ps) step) ∙ sym (push_open known later ps o read) ∙ sym (ap (λ xs. resume known later xs read) is) ∙ so_far

  pub popped_fails : (e : ReadEnd) (os ps : List OpenConstant) (read : Outcome ConstantV) → os ≡ ps ++ o ∷ [] → resume known later os read ≡ total → Fails e (read >>= closing known later o) → Fails e total
  popped_fails e os ps read is so_far h = fails_is e total _ (sym (popped os ps read _ is so_far refl)) (resume_fails known later ps e _ h)

  pub pushed : (os ps : List OpenConstant) (read next : Outcome ConstantV) → ps ≡ os ++ o ∷ [] → resume known later os (read >>= closing known later o) ≡ total → read ≡ next → resume known later ps next ≡ total
  pushed os ps read next is so_far step =
      ap (λ xs. resume known later xs next) is ∙ push_open known later os o next ∙ ap (λ r. resume known later os (r >>= closing known later o)) (sym step) ∙ so_far

  pub pushed_fails : (e : ReadEnd) (os : List OpenConstant) (read : Outcome ConstantV) → resume known later os (read >>= closing known later o) ≡ total → Fails e read → Fails e total
  pushed_fails e os read so_far h = fails_is e total _ (sym so_far) (resume_fails known later os e _ (bind_fails e read (closing known later o) h))

module _ (known : Known) (later : Table) (total : Outcome ConstantV) where
  pub stepped : (os : List OpenConstant) (read next : Outcome ConstantV) → resume known later os read ≡ total → read ≡ next → resume known later os next ≡ total
  stepped os read next so_far step = sym (ap (resume known later os) step) ∙ so_far

  pub stepped_fails : (e : ReadEnd) (os : List OpenConstant) (read : Outcome ConstantV) → resume known later os read ≡ total → Fails e read → Fails e total
  stepped_fails e os read so_far h = fails_is e total _ (sym so_far) (resume_fails known later os e read h)

-- ---- the numbers on the stack

pub elements_more : (a b : Table) (es : List Element) → Grows a b → ElementsWithin a es → ElementsWithin b es
elements_more a b es grows h = λ i d lt. more _ (h i d lt)
  where
    more : (e : Element) → ElementWithin a e → ElementWithin b e
    more e w = record { of = type_within_more a b e.of grows w.of; value = constant_within_more a b e.value grows w.value }

pub element_pushed : (t : Table) (es : List Element) (e : Element) → ElementsWithin t es → e.of < length t.types → e.value < length t.constants → ElementsWithin t (es ++ e ∷ [])
element_pushed t es e h of value = All-push (ElementWithin t) es e h (record { of = of; value = value })

pub address_more : (a b : Table) (x : Address) → Grows a b → AddressWithin a x → AddressWithin b x
address_more a b x grows h = record { of = type_within_more a b x.of grows h.of; base = constant_within_more a b x.base grows h.base; indices = elements_more a b x.indices grows h.indices }

pub into_more : (a b : Table) (into : Option ℕ) → Grows a b → TypeWithin a into → TypeWithin b into
into_more a b None grows h = tt
into_more a b (Some k) grows h = type_within_more a b k grows h

pub open_more : (a b : Table) (o : OpenConstant) → Grows a b → OpenWithin a o → OpenWithin b o
open_more a b (waiting.Base of) grows h = type_within_more a b of grows h
open_more a b (waiting.Index x of into) grows h = (address_more a b x grows h.0, type_within_more a b of grows h.1, into_more a b into grows h.2)
open_more a b (waiting.Elements kind es of) grows h = (elements_more a b es grows h.0, type_within_more a b of grows h.1)

pub stack_more : (a b : Table) (os : List OpenConstant) → Grows a b → All (OpenWithin a) os → All (OpenWithin b) os
stack_more a b os grows h = λ i d lt. open_more a b _ grows (h i d lt)

pub stack_pushed : (a b : Table) (os ps : List OpenConstant) (o : OpenConstant) → Grows a b → ps ≡ os ++ o ∷ [] → All (OpenWithin a) os → OpenWithin a o → All (OpenWithin b) ps
stack_pushed a b os ps o grows is h one = stack_more a b ps grows (rw is (All-push (OpenWithin a) os o h one))

pub stack_popped : (a : Table) (os ps : List OpenConstant) (o : OpenConstant) → os ≡ ps ++ o ∷ [] → All (OpenWithin a) os → All (OpenWithin a) ps × OpenWithin a o
stack_popped a os ps o is h = let p = All-pop (OpenWithin a) os ps (Some o) is h in (p.0, p.1)

pub grows_self : (t : Table) → Grows t t
grows_self t = record { names = λ k x e. e; types = λ k x e. e; constants = λ k x e. e }

-- what is left behind a type is no longer
pub type_keeps : (known : Known) (ts rest : List TokenV) (of : TypeV) → type_at known ts ≡ Ok (of, rest) → length rest ≤ length ts
type_keeps known ts rest of e = let less = at_less known ts (of, rest) e in omega arith

pub indexed : (t : Table) (x : Address) (more : List Element) (of value : ℕ) → more ≡ x.indices ++ (record { of = of; value = value }) ∷ [] → AddressWithin t x → of < length t.types → value < length t.constants → AddressWithin t (record { of = x.of; base = x.base; indices = more })
indexed t x more of value is h lt less = record { of = h.of; base = h.base; indices = rw is (element_pushed t x.indices (record { of = of; value = value }) h.indices lt less) }
