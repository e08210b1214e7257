-- What a step of reading constants leads to.
use Rattle.std.proofs.Common.{◌≡◌, ℕ, ◌+◌, ◌≤◌, length, true, false, List, [], ◌∷◌, ◌++◌, map, drop, Option, Some, Ok, Err, refl, sym, ap, ◌∙◌, append_assoc}
use Rattle.std.specs.Prelude.{codes, option_map}
use Rattle.std.proofs.lemmas.List.{map_push}
use Rattle.ir_tree.specs.declared.nodes.Element.{Element}
use Rattle.ir_tree.specs.Table.{Table}
use Rattle.std.proofs.lemmas.List.{append-nil}
use Rattle.ir_tree.specs.Trees.{TypeV, TypesV, ConstantV, MoreC}
use Rattle.ir_tree.specs.Naming.{elements_at, constant_at as constant_in, type_at as type_in}
use Rattle.ir_text.specs.declared.fault.Fault.{Fault}
use Rattle.ir_text.specs.declared.fault.Fault.TheVariants.{Ended}
use Rattle.ir_text.specs.declared.fault.ReadEnd.{ReadEnd}
use Rattle.ir_text.specs.declared.fault.ReadEnd.TheVariants as ends
use Rattle.ir_text.specs.declared.nested_constants.Bracket.{Bracket}
use Rattle.ir_text.specs.declared.nested_constants.Bracket.TheVariants as bracket
use Rattle.ir_text.specs.declared.nested_constants.OpenConstant.{OpenConstant}
use Rattle.ir_text.specs.Tokens.{TokenV, is_mark, is_word}
use Rattle.ir_text.specs.Reading.{Outcome, Reader, ◌>>=◌, gives, Fails, sees, meant, token_by}
use Rattle.ir_text.specs.Leaves.{mark_at}
use Rattle.ir_text.specs.Choice.{choose}
use Rattle.ir_text.specs.Repeated.{repeated_under, stays}
use Rattle.ir_text.specs.Lists.{after_comma, listed_at, mark_for, list_at}
use Rattle.ir_text.specs.Types.{Known, register_type, type_at}
use Rattle.ir_text.specs.Indices.{no_type, integer_type, word_of_32, field, Counted, Field, Never, entry_of, led_to}
use Rattle.ir_text.specs.Constants.{width_of, simple_constant}
use Rattle.ir_text.specs.NestedConstants.{Typed, elements_of, closing_mark, bracket_end, bracket_rule, text_rule, index_at, next_into, indices_end, base_end, address_rule, constant_rule, constant_at}
use Rattle.ir_text.specs.OpenConstants.{element, elements_behind, brackets, elements_end, elements_from, shown_element, address_close, address_end, counted_end, field_end, index_end, fields_of, closing, resume}
use Rattle.ir_text.proofs.Agreeing.{comma_less}
use Rattle.ir_text.proofs.RepeatedLaws.{repeated_is}
use Rattle.ir_text.proofs.ConstantFuel.{element_shortens, index_shortens, constant_none, constant_is}
use Rattle.ir_text.proofs.Eaten.{eaten}
use Rattle.ir_text.proofs.NestedSteps.{bind_bind, bind_fails, fails_is}

pub shown_is : (later : Table) (es : List Element) → elements_of (map (shown_element later) es) ≡ elements_at later es
shown_is later [] = refl
shown_is later (e ∷ es) = ap (MoreC (type_in later e.of) (constant_in later e.value)) (shown_is later es)

module _ (known : Known) where
  -- ---- what is open

  pub push_open : (later : Table) (os : List OpenConstant) (o : OpenConstant) (read : Outcome ConstantV) → resume known later (os ++ o ∷ []) read ≡ resume known later os (read >>= closing known later o)
  push_open later [] o read = refl
  push_open later (p ∷ os) o read = ap (λ r. r >>= closing known later p) (push_open later os o read)

  resume_err : (later : Table) (os : List OpenConstant) (f : Fault) → resume known later os (Err f) ≡ Err f
  resume_err later [] f = refl
  resume_err later (o ∷ os) f = ap (λ r. r >>= closing known later o) (resume_err later os f)

  pub resume_fails : (later : Table) (os : List OpenConstant) (e : ReadEnd) (read : Outcome ConstantV) → Fails e read → Fails e (resume known later os read)
  resume_fails later os ends.Memory read h = tt
  resume_fails later os (ends.Bad f) read h = ap (resume known later os) h ∙ resume_err later os f

  -- ---- elements

  less : (ts : List TokenV) (x : Typed × List TokenV) → after_comma (element known) ts ≡ Ok x → 1 + length x.1 ≤ length ts
  less = comma_less 0 (element known) (element known) (λ us few. refl) (element_shortens known)

  behind_comma : (ts : List TokenV) → sees 44 ts ≡ true → elements_behind known ts ≡ (element known (drop 1 ts) >>= λ first. elements_behind known first.1 >>= λ others. Ok (first.0 ∷ others.0, others.1))
  behind_comma ts comma =
      repeated_is (is_mark 44) (λ _. after_comma (element known)) stays (λ _. less) tt ts ∙ rw comma (rw (eaten 44 ts comma) refl)

  behind_last : (ts : List TokenV) → sees 44 ts ≡ false → elements_behind known ts ≡ Ok ([], ts)
  behind_last ts comma = repeated_is (is_mark 44) (λ _. after_comma (element known)) stays (λ _. less) tt ts ∙ rw comma refl

  inner : (kind : Bracket) (front : List Typed) (x y : Typed) (o : Outcome (List Typed))
      → ((o >>= λ others. (let p : Outcome (List Typed) = Ok (y ∷ others.0, others.1) in p)) >>= λ all. brackets known kind (front ++ x ∷ all.0) all.1) ≡ (o >>= λ others. brackets known kind ((front ++ x ∷ []) ++ y ∷ others.0) others.1)
  inner kind front x y (Ok z) = ap (λ (xs : List Typed). brackets known kind xs z.1) (sym (append_assoc front (x ∷ []) (y ∷ z.0)))
  inner kind front x y (Err f) = refl

  outer : (kind : Bracket) (front : List Typed) (x : Typed) (o : Outcome Typed)
      → ((o >>= λ first. elements_behind known first.1 >>= λ others. (let p : Outcome (List Typed) = Ok (first.0 ∷ others.0, others.1) in p)) >>= λ all. brackets known kind (front ++ x ∷ all.0) all.1)
      ≡ (o >>= λ first. elements_behind known first.1 >>= λ others. brackets known kind ((front ++ x ∷ []) ++ first.0 ∷ others.0) others.1)
  outer kind front x (Ok y) = inner kind front x y.0 (elements_behind known y.1)
  outer kind front x (Err f) = refl

  pub goes_on : (kind : Bracket) (front : List Typed) (of : TypeV) (c : ConstantV) (ts : List TokenV) → sees 44 ts ≡ true → elements_end known kind front of (c, ts) ≡ elements_from known kind (front ++ (of, c) ∷ []) (drop 1 ts)
  unfolding elements_end
  goes_on kind front of c ts comma =
      ap (λ (o : Outcome (List Typed)). o >>= λ others. brackets known kind (front ++ (of, c) ∷ others.0) others.1) (behind_comma ts comma) ∙ outer kind front (of, c) (element known (drop 1 ts))

  pub ends_at : (kind : Bracket) (front : List Typed) (of : TypeV) (c : ConstantV) (ts : List TokenV) → sees 44 ts ≡ false → elements_end known kind front of (c, ts) ≡ brackets known kind (front ++ (of, c) ∷ []) ts
  unfolding elements_end
  ends_at kind front of c ts comma = rw (behind_last ts comma) refl

  by_value : (kind : Bracket) (front : List Typed) (of : TypeV) (o : Outcome ConstantV)
      → ((o >>= λ value. (let p : Outcome Typed = Ok ((of, value.0), value.1) in p)) >>= λ first. elements_behind known first.1 >>= λ others. brackets known kind (front ++ first.0 ∷ others.0) others.1) ≡ (o >>= elements_end known kind front of)
  unfolding elements_end
  by_value kind front of (Ok x) = refl
  by_value kind front of (Err f) = refl

  by_type : (kind : Bracket) (front : List Typed) (o : Outcome TypeV)
      → ((o >>= λ of. constant_at known (width_of of.0) of.1 >>= λ value. (let p : Outcome Typed = Ok ((of.0, value.0), value.1) in p)) >>= λ first. elements_behind known first.1 >>= λ others. brackets known kind (front ++ first.0 ∷ others.0) others.1)
      ≡ (o >>= λ of. constant_at known (width_of of.0) of.1 >>= elements_end known kind front of.0)
  by_type kind front (Ok of) = by_value kind front of.0 (constant_at known (width_of of.0) of.1)
  by_type kind front (Err f) = refl

  -- a type, and what stands behind it
  pub from_type : (kind : Bracket) (front : List Typed) (ts : List TokenV) → elements_from known kind front ts ≡ (type_at known ts >>= λ of. constant_at known (width_of of.0) of.1 >>= elements_end known kind front of.0)
  from_type kind front ts = by_type kind front (type_at known ts)

  -- ---- where elements begin

  none_at : (close : ℕ) (ts : List TokenV) → sees close ts ≡ true → list_at close (element known) ts ≡ Ok ([], drop 1 ts)
  unfolding list_at
  none_at close ts end = rw end (rw (eaten close ts end) refl)

  some_at : (close : ℕ) (ts : List TokenV) → sees close ts ≡ false → list_at close (element known) ts ≡ (listed_at (element known) ts >>= λ all. mark_for close all.0 all.1)
  unfolding list_at
  some_at close ts end = rw end refl

  closed_all : (kind : Bracket) (o : Outcome (List Typed)) → ((o >>= λ all. mark_for (closing_mark kind) all.0 all.1) >>= λ all. bracket_end kind (elements_of all.0) all.1) ≡ (o >>= λ all. brackets known kind all.0 all.1)
  closed_all kind (Ok x) = bind_bind (mark_at (closing_mark kind) x.1) _ _
  closed_all kind (Err f) = refl

  filled : (kind : Bracket) (o : Outcome Typed)
      → ((o >>= λ first. elements_behind known first.1 >>= λ others. (let p : Outcome (List Typed) = Ok (first.0 ∷ others.0, others.1) in p)) >>= λ all. brackets known kind all.0 all.1) ≡ (o >>= λ first. elements_behind known first.1 >>= λ others. brackets known kind (first.0 ∷ others.0) others.1)
  filled kind (Ok x) = bind_bind (elements_behind known x.1) _ _
  filled kind (Err f) = refl

  pub rule_shut : (kind : Bracket) (ts : List TokenV) → sees (closing_mark kind) ts ≡ true → bracket_rule known (constant_at known) kind ts ≡ brackets known kind [] ts
  rule_shut kind ts end = rw (none_at (closing_mark kind) ts end, eaten (closing_mark kind) ts end) refl

  pub rule_open : (kind : Bracket) (ts : List TokenV) → sees (closing_mark kind) ts ≡ false → bracket_rule known (constant_at known) kind ts ≡ elements_from known kind [] ts
  rule_open kind ts end =
      ap (λ (o : Outcome (List Typed)). o >>= λ all. bracket_end kind (elements_of all.0) all.1) (some_at (closing_mark kind) ts end) ∙ closed_all kind (listed_at (element known) ts) ∙ filled kind (element known ts)

  -- ---- where a constant begins

  pub opens_nothing : (w : ℕ) (ts : List TokenV) → ts ≡ [] → constant_at known w ts ≡ Err Ended
  opens_nothing w ts is = ap (constant_at known w) is ∙ constant_none known w

  module _ (w : ℕ) (ts rest : List TokenV) (t : TokenV) (is : ts ≡ t ∷ rest) where
    opens : constant_at known w ts ≡ constant_rule known (constant_at known) w (t ∷ rest)
    opens = ap (constant_at known w) is ∙ constant_is known w t rest

    pub opens_array : is_mark 91 t ≡ true → constant_at known w ts ≡ bracket_rule known (constant_at known) bracket.Array rest
    unfolding constant_rule
    opens_array a = opens ∙ rw a refl

    pub opens_struct : is_mark 91 t ≡ false → is_mark 123 t ≡ true → constant_at known w ts ≡ bracket_rule known (constant_at known) bracket.Struct rest
    unfolding constant_rule
    opens_struct a s = opens ∙ rw (a, s) refl

    pub opens_packed : is_mark 91 t ≡ false → is_mark 123 t ≡ false → is_mark 60 t ≡ true → constant_at known w ts ≡ (mark_at 123 rest >>= λ brace. bracket_rule known (constant_at known) bracket.Packed brace.1)
    unfolding constant_rule
    opens_packed a s p = opens ∙ rw (a, s, p) refl

    pub opens_text : is_mark 91 t ≡ false → is_mark 123 t ≡ false → is_mark 60 t ≡ false → is_word (codes "c") t ≡ true → constant_at known w ts ≡ text_rule rest
    unfolding constant_rule
    opens_text a s p x = opens ∙ rw (a, s, p, x) refl

    pub opens_address : is_mark 91 t ≡ false → is_mark 123 t ≡ false → is_mark 60 t ≡ false → is_word (codes "c") t ≡ false → is_word (codes "getelementptr") t ≡ true → constant_at known w ts ≡ address_rule known (constant_at known) rest
    unfolding constant_rule
    opens_address a s p x y = opens ∙ rw (a, s, p, x, y) refl

    pub opens_simple : is_mark 91 t ≡ false → is_mark 123 t ≡ false → is_mark 60 t ≡ false → is_word (codes "c") t ≡ false → is_word (codes "getelementptr") t ≡ false → constant_at known w ts ≡ meant (simple_constant w t) t rest
    unfolding constant_rule
    opens_simple a s p x y = opens ∙ rw (a, s, p, x, y) refl

  -- ---- addresses

  module _ (of : TypeV) (base : ConstantV) (front : List Typed) where
    by_index_value : (t : TypeV) (next : Option TypeV) (o : Outcome ConstantV)
        → ((o >>= λ value. (let p : Outcome Typed = Ok ((t, value.0), value.1) in p)) >>= λ e. address_end known of base (front ++ e.0 ∷ []) next e.1) ≡ (o >>= index_end known of base front t next)
    unfolding index_end
    by_index_value t next (Ok x) = refl
    by_index_value t next (Err f) = refl

    by_index_type : (next : Option TypeV) (o : Outcome TypeV)
        → ((o >>= λ t. constant_at known (width_of t.0) t.1 >>= λ value. (let p : Outcome Typed = Ok ((t.0, value.0), value.1) in p)) >>= λ e. address_end known of base (front ++ e.0 ∷ []) next e.1) ≡ (o >>= λ t. constant_at known (width_of t.0) t.1 >>= index_end known of base front t.0 next)
    by_index_type next (Ok t) = by_index_value t.0 next (constant_at known (width_of t.0) t.1)
    by_index_type next (Err f) = refl

    -- the type of an index, and what stands behind it
    pub counted_from : (next : Option TypeV) (ts : List TokenV) → counted_end known of base front next ts ≡ (token_by integer_type ts >>= λ t. constant_at known (width_of t.0) t.1 >>= index_end known of base front t.0 next)
    counted_from next ts = by_index_type next (token_by integer_type ts)

    close_inner : (e : Typed) (o : Outcome (List Typed))
        → ((o >>= λ others. (let p : Outcome (List Typed) = Ok (e ∷ others.0, others.1) in p)) >>= λ all. address_close of base (front ++ all.0) all.1) ≡ (o >>= λ others. address_close of base ((front ++ e ∷ []) ++ others.0) others.1)
    close_inner e (Ok z) = ap (λ (xs : List Typed). address_close of base xs z.1) (sym (append_assoc front (e ∷ []) z.0))
    close_inner e (Err f) = refl

    abbrev others_from : Option TypeV → Reader (List Typed)
    others_from into ts = repeated_under (is_mark 44) (λ i. after_comma (index_at known (constant_at known) i)) (next_into known (constant_at known)) into ts

    close_outer : (into : Option TypeV) (o : Outcome Typed)
        → ((o >>= λ first. others_from (next_into known (constant_at known) into first.0) first.1 >>= λ others. (let p : Outcome (List Typed) = Ok (first.0 ∷ others.0, others.1) in p)) >>= λ all. address_close of base (front ++ all.0) all.1)
        ≡ (o >>= λ first. address_end known of base (front ++ first.0 ∷ []) (next_into known (constant_at known) into first.0) first.1)
    unfolding indices_end
    close_outer into (Ok x) = close_inner x.0 (others_from (next_into known (constant_at known) into x.0) x.1)
    close_outer into (Err f) = refl

    others_is : (into : Option TypeV) (ts : List TokenV) → others_from into ts ≡ choose (is_mark 44) (λ us. after_comma (index_at known (constant_at known) into) us >>= λ first. others_from (next_into known (constant_at known) into first.0) first.1 >>= λ others. Ok (first.0 ∷ others.0, others.1)) (gives []) ts
    others_is into ts = repeated_is (is_mark 44) (λ i. after_comma (index_at known (constant_at known) i)) (next_into known (constant_at known)) (λ i. index_shortens known i) into ts

    -- a further index
    index_more : (into : Option TypeV) (ts : List TokenV) → sees 44 ts ≡ true
        → address_end known of base front into ts ≡ (index_at known (constant_at known) into (drop 1 ts) >>= λ first. address_end known of base (front ++ first.0 ∷ []) (next_into known (constant_at known) into first.0) first.1)
    index_more into ts comma =
        let one : address_end known of base front into ts ≡ (others_from into ts >>= λ all. address_close of base (front ++ all.0) all.1) = unfold indices_end in refl in
        let two : others_from into ts ≡ (index_at known (constant_at known) into (drop 1 ts) >>= λ first. others_from (next_into known (constant_at known) into first.0) first.1 >>= λ others. Ok (first.0 ∷ others.0, others.1)) = others_is into ts ∙ rw comma (rw (eaten 44 ts comma) refl) in
        one ∙ ap (λ (o : Outcome (List Typed)). o >>= λ all. address_close of base (front ++ all.0) all.1) two ∙ close_outer into (index_at known (constant_at known) into (drop 1 ts))

    -- no further index
    pub index_last : (into : Option TypeV) (ts : List TokenV) → sees 44 ts ≡ false → address_end known of base front into ts ≡ address_close of base front ts
    index_last into ts comma =
        let one : address_end known of base front into ts ≡ (others_from into ts >>= λ all. address_close of base (front ++ all.0) all.1) = unfold indices_end in refl in
        let two : others_from into ts ≡ Ok ([], ts) = others_is into ts ∙ rw comma refl in
        one ∙ ap (λ (o : Outcome (List Typed)). o >>= λ all. address_close of base (front ++ all.0) all.1) two ∙ ap (λ (xs : List Typed). address_close of base xs ts) (append-nil front)

    pub more_counted : (into next : Option TypeV) (ts : List TokenV) → sees 44 ts ≡ true → Counted next ≡ entry_of known into → address_end known of base front into ts ≡ counted_end known of base front next (drop 1 ts)
    more_counted into next ts comma is = index_more into ts comma ∙ rw (sym is) refl

    pub more_field : (into : Option TypeV) (fields : TypesV) (ts : List TokenV) → sees 44 ts ≡ true → Field fields ≡ entry_of known into → address_end known of base front into ts ≡ field_end known of base front fields (drop 1 ts)
    more_field into fields ts comma is = index_more into ts comma ∙ rw (sym is) refl

    pub more_never : (into : Option TypeV) (ts : List TokenV) (e : ReadEnd) → sees 44 ts ≡ true → Never ≡ entry_of known into → Fails e (token_by (λ t. no_type {A = Typed} (register_type t)) (drop 1 ts)) → Fails e (address_end known of base front into ts)
    more_never into ts e comma is h = fails_is e _ _ (index_more into ts comma ∙ rw (sym is) refl) (bind_fails e (token_by (λ t. no_type {A = Typed} (register_type t)) (drop 1 ts)) (λ first. address_end known of base (front ++ first.0 ∷ []) (led_to Never first.0.1) first.1) h)

  -- behind the pointer
  pub base_from : (of : TypeV) (base : ConstantV) (ts : List TokenV) → base_end known (constant_at known) of (base, ts) ≡ (mark_at 44 ts >>= λ comma. counted_end known of base [] (Some of) comma.1)
  unfolding base_end
  base_from of base ts = refl

-- a field is read: its word, its number, and where it leads
pub field_from : (known : Known) (later : Table) (of base struct word value : ℕ) (es more : List Element) (next : Option ℕ) (ts us vs : List TokenV)
    → token_by word_of_32 ts ≡ Ok (type_in later word, us) → token_by (field (fields_of (type_in later struct))) us ≡ Ok (constant_in later value, vs) → option_map (type_in later) next ≡ led_to (Field (fields_of (type_in later struct))) (constant_in later value)
    → more ≡ es ++ (record { of = word; value = value }) ∷ []
    → field_end known (type_in later of) (constant_in later base) (map (shown_element later) es) (fields_of (type_in later struct)) ts ≡ address_end known (type_in later of) (constant_in later base) (map (shown_element later) more) (option_map (type_in later) next) vs
field_from known later of base struct word value es more next ts us vs first second leads is =
    rw (first, second, ← leads, is, map_push (shown_element later) es (record { of = word; value = value })) refl
