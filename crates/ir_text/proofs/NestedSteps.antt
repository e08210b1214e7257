-- What a step of reading types leads to.
use Rattle.std.proofs.Common.{◌≡◌, ℕ, ◌+◌, ◌≤◌, length, Bool, true, false, List, [], ◌∷◌, ◌++◌, map, drop, Ok, Err, refl, sym, ap, ◌∙◌, append_assoc}
use Rattle.std.proofs.lemmas.List.{map_push}
use Rattle.ir_tree.specs.Trees.{TypeV, StructV}
use Rattle.ir_tree.specs.Naming.{listed}
use Rattle.ir_text.specs.declared.fault.Fault.{Fault}
use Rattle.ir_text.specs.declared.fault.Fault.TheVariants.{Ended}
use Rattle.ir_text.specs.declared.fault.ReadEnd.{ReadEnd}
use Rattle.ir_text.specs.declared.fault.ReadEnd.TheVariants as ends
use Rattle.ir_text.specs.declared.nested.Open.{Open}
use Rattle.ir_text.specs.Tokens.{TokenV, is_mark}
use Rattle.ir_text.specs.Reading.{Outcome, ◌>>=◌, Fails, sees, meant}
use Rattle.ir_text.specs.Leaves.{mark_at}
use Rattle.ir_text.specs.Repeated.{stays}
use Rattle.ir_text.specs.Lists.{after_comma, listed_at, mark_for, list_at}
use Rattle.ir_text.specs.Types.{Known, header_at, simple, type_rule, type_at}
use Rattle.ir_text.specs.Nested.{fields_rule, array_end, fields_behind, braces, struct_end, closing, resume}
use Rattle.ir_text.proofs.Agreeing.{comma_less}
use Rattle.ir_text.proofs.RepeatedLaws.{repeated_is}
use Rattle.ir_text.proofs.TypeFuel.{type_is, type_none, at_less}
use Rattle.ir_text.proofs.Eaten.{eaten}

pub bind_fails : {A B : Type 0} (e : ReadEnd) (read : Outcome A) (f : A × List TokenV → Outcome B) → Fails e read → Fails e (read >>= f)
bind_fails ends.Memory read f h = tt
bind_fails (ends.Bad d) read f h = rw h refl

pub fails_is : {A : Type 0} (e : ReadEnd) (a b : Outcome A) → a ≡ b → Fails e b → Fails e a
fails_is ends.Memory a b is h = tt
fails_is (ends.Bad d) a b is h = is ∙ h

pub bind_bind : {A B C : Type 0} (o : Outcome A) (f : A × List TokenV → Outcome B) (g : B × List TokenV → Outcome C) → ((o >>= f) >>= g) ≡ (o >>= λ x. f x >>= g)
bind_bind (Ok x) f g = refl
bind_bind (Err d) f g = refl

module _ (known : Known) where
  -- ---- what is open

  pub push_open : (at : ℕ → TypeV) (os : List Open) (o : Open) (read : Outcome TypeV) → resume known at (os ++ o ∷ []) read ≡ resume known at os (read >>= closing known at o)
  push_open at [] o read = refl
  push_open at (p ∷ os) o read = ap (λ r. r >>= closing known at p) (push_open at os o read)

  resume_err : (at : ℕ → TypeV) (os : List Open) (f : Fault) → resume known at os (Err f) ≡ Err f
  resume_err at [] f = refl
  resume_err at (o ∷ os) f = ap (λ r. r >>= closing known at o) (resume_err at os f)

  pub resume_fails : (at : ℕ → TypeV) (os : List Open) (e : ReadEnd) (read : Outcome TypeV) → Fails e read → Fails e (resume known at os read)
  resume_fails at os ends.Memory read h = tt
  resume_fails at os (ends.Bad f) read h = ap (resume known at os) h ∙ resume_err at os f

  -- ---- fields

  less : (ts : List TokenV) (x : TypeV × List TokenV) → after_comma (type_at known) ts ≡ Ok x → 1 + length x.1 ≤ length ts
  less = comma_less 0 (type_at known) (type_at known) (λ us few. refl) (at_less known)

  behind_comma : (ts : List TokenV) → sees 44 ts ≡ true → fields_behind known ts ≡ (type_at known (drop 1 ts) >>= λ first. fields_behind known first.1 >>= λ others. Ok (first.0 ∷ others.0, others.1))
  behind_comma ts comma =
      repeated_is (is_mark 44) (λ _. after_comma (type_at known)) stays (λ _. less) tt ts ∙ rw comma (rw (eaten 44 ts comma) refl)

  behind_last : (ts : List TokenV) → sees 44 ts ≡ false → fields_behind known ts ≡ Ok ([], ts)
  behind_last ts comma = repeated_is (is_mark 44) (λ _. after_comma (type_at known)) stays (λ _. less) tt ts ∙ rw comma refl

  inner : (packed : Bool) (front : List TypeV) (x y : TypeV) (o : Outcome (List TypeV))
      → ((o >>= λ others. (let p : Outcome (List TypeV) = Ok (y ∷ others.0, others.1) in p)) >>= λ all. braces known packed (front ++ x ∷ all.0) all.1) ≡ (o >>= λ others. braces known packed ((front ++ x ∷ []) ++ y ∷ others.0) others.1)
  inner packed front x y (Ok z) = ap (λ (xs : List TypeV). braces known packed xs z.1) (sym (append_assoc front (x ∷ []) (y ∷ z.0)))
  inner packed front x y (Err f) = refl

  outer : (packed : Bool) (front : List TypeV) (x : TypeV) (o : Outcome TypeV)
      → ((o >>= λ first. fields_behind known first.1 >>= λ others. (let p : Outcome (List TypeV) = Ok (first.0 ∷ others.0, others.1) in p)) >>= λ all. braces known packed (front ++ x ∷ all.0) all.1) ≡ (o >>= struct_end known packed (front ++ x ∷ []))
  unfolding struct_end
  outer packed front x (Ok y) = inner packed front x y.0 (fields_behind known y.1)
  outer packed front x (Err f) = refl

  pub goes_on : (at : ℕ → TypeV) (packed : Bool) (ks : List ℕ) (k : ℕ) (ts : List TokenV) → sees 44 ts ≡ true → struct_end known packed (map at ks) (at k, ts) ≡ (type_at known (drop 1 ts) >>= struct_end known packed (map at (ks ++ k ∷ [])))
  goes_on at packed ks k ts comma =
      let one : struct_end known packed (map at ks) (at k, ts) ≡ (fields_behind known ts >>= λ others. braces known packed (map at ks ++ at k ∷ others.0) others.1) = unfold struct_end in refl in
      one ∙ ap (λ (o : Outcome (List TypeV)). o >>= λ others. braces known packed (map at ks ++ at k ∷ others.0) others.1) (behind_comma ts comma) ∙ outer packed (map at ks) (at k) (type_at known (drop 1 ts))
      ∙ ap (λ (xs : List TypeV). type_at known (drop 1 ts) >>= struct_end known packed xs) (sym (map_push at ks k))

  pub ends_at : (at : ℕ → TypeV) (packed : Bool) (ks : List ℕ) (k : ℕ) (ts : List TokenV) → sees 44 ts ≡ false → struct_end known packed (map at ks) (at k, ts) ≡ braces known packed (map at (ks ++ k ∷ [])) ts
  unfolding struct_end
  ends_at at packed ks k ts comma = rw (behind_last ts comma, map_push at ks k) refl

  -- ---- where a type begins

  -- a filled struct, with what stands behind its fields
  filled : (packed : Bool) (ts : List TokenV) (o : Outcome TypeV)
      → ((o >>= λ first. fields_behind known first.1 >>= λ others. (let p : Outcome (List TypeV) = Ok (first.0 ∷ others.0, others.1) in p)) >>= λ all. braces known packed all.0 all.1) ≡ (o >>= struct_end known packed [])
  unfolding struct_end
  filled packed ts (Ok x) = bind_bind (fields_behind known x.1) _ _
  filled packed ts (Err f) = refl

  plain_close : (o : Outcome (List TypeV)) → ((o >>= λ all. mark_for 125 all.0 all.1) >>= λ fields. (let p : Outcome TypeV = Ok (StructV false (listed fields.0), fields.1) in p)) ≡ (o >>= λ all. braces known false all.0 all.1)
  plain_close (Ok x) = bind_bind (mark_at 125 x.1) _ _
  plain_close (Err f) = refl

  packed_close : (o : Outcome (List TypeV)) → ((o >>= λ all. mark_for 125 all.0 all.1) >>= λ fields. mark_at 62 fields.1 >>= λ close. (let p : Outcome TypeV = Ok (StructV true (listed fields.0), close.1) in p)) ≡ (o >>= λ all. braces known true all.0 all.1)
  packed_close (Ok x) = bind_bind (mark_at 125 x.1) _ _
  packed_close (Err f) = refl

  pub fields_none : (ts : List TokenV) → sees 125 ts ≡ true → list_at 125 (type_at known) ts ≡ Ok ([], drop 1 ts)
  unfolding list_at
  fields_none ts close = rw close (rw (eaten 125 ts close) refl)

  fields_some : (ts : List TokenV) → sees 125 ts ≡ false → list_at 125 (type_at known) ts ≡ (listed_at (type_at known) ts >>= λ all. mark_for 125 all.0 all.1)
  unfolding list_at
  fields_some ts close = rw close refl

  pub plain_fields : (ts : List TokenV) → sees 125 ts ≡ false → (list_at 125 (type_at known) ts >>= λ fields. Ok (StructV false (listed fields.0), fields.1)) ≡ (type_at known ts >>= struct_end known false [])
  plain_fields ts close =
      ap (λ (o : Outcome (List TypeV)). o >>= λ fields. (let p : Outcome TypeV = Ok (StructV false (listed fields.0), fields.1) in p)) (fields_some ts close) ∙ plain_close (listed_at (type_at known) ts) ∙ filled false ts (type_at known ts)

  pub packed_fields : (ts : List TokenV) → sees 125 ts ≡ false → (list_at 125 (type_at known) ts >>= λ fields. mark_at 62 fields.1 >>= λ close. Ok (StructV true (listed fields.0), close.1)) ≡ (type_at known ts >>= struct_end known true [])
  packed_fields ts close =
      ap (λ (o : Outcome (List TypeV)). o >>= λ fields. mark_at 62 fields.1 >>= λ end. (let p : Outcome TypeV = Ok (StructV true (listed fields.0), end.1) in p)) (fields_some ts close) ∙ packed_close (listed_at (type_at known) ts) ∙ filled true ts (type_at known ts)

  pub opens_nothing : (ts : List TokenV) → ts ≡ [] → type_at known ts ≡ Err Ended
  opens_nothing ts is = ap (type_at known) is ∙ type_none known

  module _ (ts rest : List TokenV) (t : TokenV) (is : ts ≡ t ∷ rest) where
    opens : type_at known ts ≡ type_rule known (type_at known) (t ∷ rest)
    opens = ap (type_at known) is ∙ type_is known t rest

    pub opens_array : is_mark 91 t ≡ true → type_at known ts ≡ (header_at rest >>= λ many. type_at known many.1 >>= array_end known many.0)
    unfolding type_rule
    opens_array a = opens ∙ rw a refl

    pub opens_struct : is_mark 91 t ≡ false → is_mark 123 t ≡ true → type_at known ts ≡ (list_at 125 (type_at known) rest >>= λ fields. Ok (StructV false (listed fields.0), fields.1))
    unfolding type_rule
    opens_struct a s = opens ∙ rw (a, s) refl

    pub opens_packed : is_mark 91 t ≡ false → is_mark 123 t ≡ false → is_mark 60 t ≡ true → type_at known ts ≡ (mark_at 123 rest >>= λ brace. list_at 125 (type_at known) brace.1 >>= λ fields. mark_at 62 fields.1 >>= λ close. Ok (StructV true (listed fields.0), close.1))
    unfolding type_rule
    opens_packed a s p = opens ∙ rw (a, s, p) refl

    pub opens_simple : is_mark 91 t ≡ false → is_mark 123 t ≡ false → is_mark 60 t ≡ false → type_at known ts ≡ meant (simple known t) t rest
    unfolding type_rule
    opens_simple a s p = opens ∙ rw (a, s, p) refl

  -- a struct with no field, and one with fields
  pub fields_shut : (packed : Bool) (ts : List TokenV) → sees 125 ts ≡ true → fields_rule known packed ts ≡ braces known packed [] ts
  fields_shut false ts close = rw (fields_none ts close, eaten 125 ts close) refl
  fields_shut true ts close = rw (fields_none ts close, eaten 125 ts close) refl

  pub fields_open : (packed : Bool) (ts : List TokenV) → sees 125 ts ≡ false → fields_rule known packed ts ≡ (type_at known ts >>= struct_end known packed [])
  fields_open false ts close = plain_fields ts close
  fields_open true ts close = packed_fields ts close
