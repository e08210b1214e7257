-- What is wrong at a token stays so, whatever stands behind: in an item, and in the body of a definition.
use Rattle.std.proofs.Common.{◌≡◌, ◌+◌, length, arith, Bool, true, false, cond, List, [], ◌∷◌, ◌++◌, Some, Ok, Err, refl, ap, append_assoc, ◌∙◌}
use Rattle.std.specs.Prelude.{◌&&◌}
use Rattle.std.proofs.lemmas.List.{length-append}
use Rattle.pv_base.specs.declared.name.Name.{Name}
use Rattle.ir_tree.specs.Trees.{TypeV}
use Rattle.ir_text.specs.declared.fault.Fault.{Fault}
use Rattle.ir_text.specs.declared.fault.Fault.TheVariants.{At, Ended}
use Rattle.ir_text.specs.Tokens.{TokenV}
use Rattle.ir_text.specs.Reading.{Outcome, Reader, ◌>>=◌}
use Rattle.ir_text.specs.Lawful.{Follow, anything, Lawful}
use Rattle.ir_text.specs.Leaves.{spelled_name}
use Rattle.ir_text.specs.Operands.{is_local}
use Rattle.ir_text.specs.Spelled.{Spelling}
use Rattle.ir_text.specs.Types.{Known}
use Rattle.ir_grammar.specs.Items.{named_body_at, items_at}
use Rattle.ir_grammar.specs.NamedTypes.{says_type, definitions, bodies_read}
use Rattle.ir_grammar.specs.Texts.{token_fault}
use Rattle.module_laws.specs.ItemsSpelled.{a_named_body, some_items}
use Rattle.module_laws.specs.TextLaws.{ItemsStayWrong, BodiesStayWrong}
use Rattle.module_laws.proofs.GlobalLaws.{named_body_laws}
use Rattle.module_laws.proofs.RowLaws.{nowhere}
use Rattle.module_laws.proofs.WholeLaws.{loose_items}

-- ---- one reading

-- what is wrong for a lawful reading stays
module _ {A : Type 0} (follow : Follow) (read : Reader A) (spells : Spelling A) (ts more : List TokenV) (laws : Lawful (length ts) follow read spells) (fault : Fault) where
  met : (o : Outcome A) → read ts ≡ o → token_fault o ≡ Some fault → token_fault (read (ts ++ more)) ≡ Some fault
  met (Ok x) e h = absurd cc
  met (Err Ended) e h = absurd cc
  met (Err (At line cause)) e h =
      let w = laws.faults ts line cause (omega arith) e in
      let longer : ts ++ more ≡ w.front ++ w.token ∷ (w.rest ++ more) = ap (λ (us : List TokenV). us ++ more) w.parts ∙ append_assoc w.front (w.token ∷ w.rest) more in
      ap (λ (o : Outcome A). token_fault o) (ap read longer ∙ w.stays (w.rest ++ more)) ∙ h

  pub stays_wrong : token_fault (read ts) ≡ Some fault → token_fault (read (ts ++ more)) ≡ Some fault
  stays_wrong h = met (read ts) refl h

-- ---- items

pub items_stay_wrong : ItemsStayWrong
items_stay_wrong known ts more fault e = stays_wrong nowhere (items_at known) (some_items known) ts more (loose_items (length ts) known) fault e

-- ---- bodies

module _ (names : Known) (more : List TokenV) (fault : Fault) where
  -- a body that is read is read whatever stands behind
  body_stays : (ts : List TokenV) (x : TypeV × List TokenV) → named_body_at names ts ≡ Ok x → named_body_at names (ts ++ more) ≡ Ok (x.0, x.1 ++ more)
  body_stays ts x e =
      let laws = named_body_laws (length ts) names in
      let t = laws.sound ts x e in
      let sizes : length ts ≡ length t.front + length x.1 = ap length t.parts ∙ length-append t.front x.1 in
      let longer : ts ++ more ≡ t.front ++ (x.1 ++ more) = ap (λ (us : List TokenV). us ++ more) t.parts ∙ append_assoc t.front x.1 more in
      ap (named_body_at names) longer ∙ laws.complete x.0 t.front (x.1 ++ more) (omega arith) t.spelled tt

  abbrev Stays : Outcome (Unit {0}) → Outcome (Unit {0}) → Type 0
  Stays short long = token_fault short ≡ Some fault → token_fault long ≡ Some fault

  -- the first body is read, or is wrong
  by_first : (ts : List TokenV) (short long : Outcome (Unit {0})) → Stays short long → (o : Outcome TypeV) → named_body_at names ts ≡ o → Stays (o >>= λ of. short) (named_body_at names (ts ++ more) >>= λ of. long)
  by_first ts short long h (Ok x) e bad = let there = body_stays ts x e in rw there (h bad)
  by_first ts short long h (Err Ended) e bad = absurd cc
  by_first ts short long h (Err (At line cause)) e bad =
      failed (named_body_at names (ts ++ more)) (stays_wrong anything (named_body_at names) (a_named_body names) ts more (named_body_laws (length ts) names) fault (ap (λ (o : Outcome TypeV). token_fault o) e ∙ bad))
    where
      failed : (o : Outcome TypeV) → token_fault o ≡ Some fault → token_fault (o >>= λ of. long) ≡ Some fault
      failed (Ok x) g = absurd cc
      failed (Err f) g = g

  abbrev of_front : List TokenV → List TokenV → Type 0
  of_front us vs = Stays (bodies_read names (definitions us)) (bodies_read names (definitions vs))

  -- a token that begins a definition, or none, in both
  by_token : (b : Bool) (name : Name) (ts : List TokenV) (short long : List (Name × List TokenV)) → Stays (bodies_read names short) (bodies_read names long)
      → Stays (bodies_read names (cond b ((name, ts) ∷ short) short)) (bodies_read names (cond b ((name, ts ++ more) ∷ long) long))
  unfolding bodies_read
  by_token true name ts short long h = by_first ts (bodies_read names short) (bodies_read names long) h (named_body_at names ts) refl
  by_token false name ts short long h = h

  -- where no definition begins
  none_begun : (b : Bool) (d : Name × List TokenV) (all : List (Name × List TokenV)) → cond (b && false) (d ∷ all) all ≡ all
  none_begun true d all = refl
  none_begun false d all = refl

  none_in : (all : List (Name × List TokenV)) → all ≡ [] → token_fault (bodies_read names all) ≡ Some fault → ⊥
  unfolding bodies_read
  none_in [] e h = absurd cc
  none_in (d ∷ all) e h = absurd cc

  staying : (ts : List TokenV) → of_front ts (ts ++ more)
  unfolding definitions bodies_read
  staying [] e = absurd cc
  staying (t ∷ []) e = absurd (none_in (definitions (t ∷ [])) (none_begun (is_local t) (spelled_name t, []) []) e)
  staying (t ∷ u ∷ []) e =
      absurd (none_in (definitions (t ∷ u ∷ [])) (none_begun (is_local t) (spelled_name t, []) (definitions (u ∷ [])) ∙ none_begun (is_local u) (spelled_name u, []) []) e)
  staying (t ∷ u ∷ v ∷ rest) e = by_token (is_local t && says_type (u ∷ v ∷ rest)) (spelled_name t) rest (definitions (u ∷ v ∷ rest)) (definitions ((u ∷ v ∷ rest) ++ more)) (staying (u ∷ v ∷ rest)) e

pub bodies_stay_wrong : BodiesStayWrong
bodies_stay_wrong names ts more fault e = staying names more fault ts e
