-- What is found is the layout, and where nothing more can be found there is none.
use Rattle.std.proofs.Common.{◌≡◌, ℕ, zero, suc, ◌+◌, ◌<◌, ◌≤◌, Bool, true, false, List, [], ◌∷◌, map, take, length, Option, Some, None, slice_get, get_or, refl, sym, ap, subst, ◌∙◌, arith, All, inl, inr, eqb, eqb-true, eq-eqb}
use Rattle.std.specs.Prelude.{option_and_then, option_map, nat_eq, if◌then◌else◌}
use Rattle.std.proofs.lemmas.List.Elements.{recursion_from_All}
use Rattle.std.proofs.lemmas.List.{get_or-take}
use Rattle.std.proofs.lemmas.Option.{slice_get-get_or}
use Rattle.pv_base.specs.declared.name.Name.{Name}
use Rattle.ir_tree.specs.declared.layout.Layout.{Layout}
use Rattle.ir_tree.specs.declared.items.NamedType.{NamedType}
use Rattle.ir_tree.specs.declared.nodes.TypeNode.{TypeNode}
use Rattle.ir_tree.specs.declared.nodes.TypeNode.TheVariants as node
use Rattle.ir_tree.specs.Table.{Table, IsTable, TypeWithin}
use Rattle.ir_tree.specs.Trees.{TypeV, PtrV, ArrayV, StructV}
use Rattle.ir_tree.specs.Naming.{meanings, name_at, type_at, type_of_node, listed}
use Rattle.ir_tree.specs.Shown.{shown_named}
use Rattle.ir_tree.specs.Layouts.{struct_layout, layout_with, layouts_with, type_named, named_layout, layout_of}
use Rattle.ir_tree.specs.Filling.{answer_at, body_of, named_answer, node_layout, NamedWithin, named_types, AreBodies, IsDone, Finds, AreLayouts}
use Rattle.ir_tree.proofs.Showing.{meaning_from, types_same}
use Rattle.ir_tree.specs.Filling.{Reaches, Stays, Further}
use Rattle.std.proofs.lemmas.Bool.{cases_Bool}
use Rattle.std.proofs.lemmas.List.{length-map}
use Rattle.std.proofs.Common.{replicate}
use Rattle.std.proofs.lemmas.List.{length-replicate}
use Rattle.ir_tree.proofs.Bodies.{body_known, body_inside, named_body}
use Rattle.ir_tree.proofs.Steps.{finds_upto, finds_len, found_at, found_other, reaches_then}
use Rattle.ir_tree.proofs.Growing.{Upto, upto_is, upto_both, upto_by, upto_same, upto_none, upto_then, node_mono, named_later, layout_later}

-- a type at a depth of names
pub at_depth : Table → List (NamedType ℕ ℕ) → ℕ → ℕ → Option Layout
at_depth t ns c k = layout_with (named_layout c (named_types t ns)) (type_at t k)

parts : (name : ℕ → Name) (names k : ℕ) (n : TypeNode) (at to : ℕ → TypeV) → TypeWithin names k n → ((j : ℕ) → j < k → at j ≡ to j) → type_of_node name at n ≡ type_of_node name to n
parts name names k (node.Int w) at to within same = refl
parts name names k node.Ptr at to within same = refl
parts name names k node.Void at to within same = refl
parts name names k (node.Array n of) at to within same = ap (ArrayV n) (same of within)
parts name names k (node.Struct packed ks) at to within same = ap (StructV packed) (types_same at to k ks (recursion_from_All (λ j. j < k) ks within) same)
parts name names k (node.Named x) at to within same = refl

-- the type of a node, by the types of the numbers in it
pub type_is : (t : Table) (k : ℕ) (n : TypeNode) → IsTable t → slice_get t.types k ≡ Some n → type_at t k ≡ type_of_node (name_at t) (type_at t) n
unfolding type_at
type_is t k n is known =
    let all = meanings (type_of_node (name_at t)) PtrV [] t.types in
    meaning_from (type_of_node (name_at t)) PtrV [] t.types k n known
    ∙ parts (name_at t) (length t.names) k n (λ j. get_or (take k all) j PtrV) (λ j. get_or all j PtrV) (is.types k n known) (λ j lt. get_or-take k all j PtrV lt)

pub fields_by : (named : Name → Option Layout) (at : ℕ → TypeV) (ks : List ℕ) → layouts_with named (listed (map at ks)) ≡ map (λ j. layout_with named (at j)) ks
fields_by named at [] = refl
fields_by named at (k ∷ ks) = ap (λ (ls : List (Option Layout)). layout_with named (at k) ∷ ls) (fields_by named at ks)

node_by : (named : Name → Option Layout) (name : ℕ → Name) (at : ℕ → TypeV) (n : TypeNode) → layout_with named (type_of_node name at n) ≡ node_layout (λ j. layout_with named (at j)) (λ x. named (name x)) n
node_by named name at (node.Int w) = refl
node_by named name at node.Ptr = refl
node_by named name at node.Void = refl
node_by named name at (node.Array n of) = refl
node_by named name at (node.Struct packed ks) = ap (struct_layout packed) (fields_by named at ks)
node_by named name at (node.Named x) = refl

-- a depth of names gives a node's layout from those of the parts
pub depth_node : (t : Table) (ns : List (NamedType ℕ ℕ)) (c k : ℕ) (n : TypeNode) → IsTable t → slice_get t.types k ≡ Some n
    → at_depth t ns c k ≡ node_layout (at_depth t ns c) (λ x. named_layout c (named_types t ns) (name_at t x)) n
unfolding at_depth
depth_node t ns c k n is known =
    ap (layout_with (named_layout c (named_types t ns))) (type_is t k n is known) ∙ node_by (named_layout c (named_types t ns)) (name_at t) (type_at t) n

-- ---- how many named types have a layout

pub one : Option Layout → ℕ
one None = 0
one (Some l) = 1

pub found : List (NamedType ℕ ℕ) → (ℕ → Option Layout) → ℕ
found [] at = 0
found (n ∷ ns) at = one (at n.of) + found ns at

one_most : (a : Option Layout) → one a ≤ 1
unfolding one
one_most None = omega arith
one_most (Some l) = omega arith

one_more : (a b : Option Layout) → Upto a b → one a ≤ one b
unfolding one
one_more None b h = omega arith
one_more (Some l) b h = let is : b ≡ Some l = upto_is (Some l) b h l refl in rw is (omega arith)

pub found_most : (ns : List (NamedType ℕ ℕ)) (at : ℕ → Option Layout) → found ns at ≤ length ns
unfolding found
found_most [] at = omega arith
found_most (n ∷ ns) at = omega (arith, one_most (at n.of), found_most ns at)

pub found_more : (ns : List (NamedType ℕ ℕ)) (at to : ℕ → Option Layout) → ((k : ℕ) → Upto (at k) (to k)) → found ns at ≤ found ns to
unfolding found
found_more [] at to h = omega arith
found_more (n ∷ ns) at to h = omega (arith, one_more (at n.of) (to n.of) (h n.of), found_more ns at to h)

found_first : (n : NamedType ℕ ℕ) (ns : List (NamedType ℕ ℕ)) (at to : ℕ → Option Layout) (x k : ℕ) (l : Layout) → ((k : ℕ) → Upto (at k) (to k)) → (b : Bool) → (if b then Some n.of else body_of ns x) ≡ Some k → at k ≡ None → to k ≡ Some l → (body_of ns x ≡ Some k → found ns at < found ns to)
    → one (at n.of) + found ns at < one (to n.of) + found ns to
unfolding one
found_first n ns at to x k l h true body none some rest =
    let is : n.of ≡ k = cc in
    let no : one (at n.of) ≡ 0 = rw is (rw none refl) in
    let yes : one (to n.of) ≡ 1 = rw is (rw some refl) in
    omega (arith, no, yes, found_more ns at to h)
found_first n ns at to x k l h false body none some rest = omega (arith, one_more (at n.of) (to n.of) (h n.of), rest body)

pub found_one : (ns : List (NamedType ℕ ℕ)) (at to : ℕ → Option Layout) (x k : ℕ) (l : Layout) → ((k : ℕ) → Upto (at k) (to k)) → body_of ns x ≡ Some k → at k ≡ None → to k ≡ Some l → found ns at < found ns to
unfolding found
found_one [] at to x k l h body none some = absurd cc
found_one (n ∷ ns) at to x k l h body none some = found_first n ns at to x k l h (nat_eq x n.name) body none some (λ b. found_one ns at to x k l h b none some)

-- ---- what is found is right

-- the parts that the search rests on
pub record IsGround (t : Table) (ns : List (NamedType ℕ ℕ)) (bodies : List (Option ℕ)) : Type 0 where
  pub table : IsTable t
  pub known : (x b : ℕ) → get_or bodies x None ≡ Some b → x < length t.names
  pub body : (x : ℕ) → x < length t.names → get_or bodies x None ≡ body_of ns x
  pub inside : (x b : ℕ) → body_of ns x ≡ Some b → b < length t.types
  pub named : (x : ℕ) → x < length t.names → type_named (named_types t ns) (name_at t x) ≡ option_map (type_at t) (body_of ns x)

pub record IsSound (t : Table) (ns : List (NamedType ℕ ℕ)) (bodies : List (Option ℕ)) (answers : List (Option Layout)) : Type 0 where
  pub numbers : (k : ℕ) → Upto (answer_at answers k) (at_depth t ns (found ns (answer_at answers)) k)
  pub names : (x : ℕ) → Upto (named_answer bodies answers x) (named_layout (found ns (answer_at answers)) (named_types t ns) (name_at t x))

-- one name more is opened
opened : (t : Table) (ns : List (NamedType ℕ ℕ)) (bodies : List (Option ℕ)) (c x b : ℕ) → IsGround t ns bodies → x < length t.names → body_of ns x ≡ Some b
    → named_layout (suc c) (named_types t ns) (name_at t x) ≡ at_depth t ns c b
unfolding named_layout at_depth
opened t ns bodies c x b g lt is =
    ap (option_and_then (layout_with (named_layout c (named_types t ns)))) (g.named x lt ∙ ap (option_map (type_at t)) is)

depth_later : (t : Table) (ns : List (NamedType ℕ ℕ)) (c d k : ℕ) → c ≤ d → Upto (at_depth t ns c k) (at_depth t ns d k)
unfolding at_depth
depth_later t ns c d k le = layout_later c d (named_types t ns) (type_at t k) le

module _ (t : Table) (ns : List (NamedType ℕ ℕ)) (bodies : List (Option ℕ)) (g : IsGround t ns bodies) where
  at_found : (old new : List (Option Layout)) (k : ℕ) → IsSound t ns bodies old → (f : Finds t bodies old new k) → at_depth t ns (found ns (answer_at old)) k ≡ Some f.layout
  at_found old new k sound f =
      let c = found ns (answer_at old) in
      depth_node t ns c k f.type g.table f.known
      ∙ upto_is _ _ (node_mono (length t.names) k f.type (answer_at old) (at_depth t ns c) (named_answer bodies old) (λ x. named_layout c (named_types t ns) (name_at t x)) (g.table.types k f.type f.known) (λ j lt. sound.numbers j) (λ x lt. sound.names x)) f.layout f.is

  number_step : (old new : List (Option Layout)) (k j : ℕ) → length old ≡ length t.types → IsSound t ns bodies old → Finds t bodies old new k
      → Upto (answer_at new j) (at_depth t ns (found ns (answer_at new)) j)
  number_step old new k j len sound f =
      let more : found ns (answer_at old) ≤ found ns (answer_at new) = found_more ns (answer_at old) (answer_at new) (finds_upto t bodies old new k len f) in
      elim (cases_Bool (eqb j k)) [
        | inl same ↦
            let e : j ≡ k = eqb-true j k same in
            let later : at_depth t ns (found ns (answer_at new)) k ≡ Some f.layout = upto_is _ _ (depth_later t ns _ _ k more) f.layout (at_found old new k sound f) in
            rw (e, found_at t bodies old new k len f, later) (upto_same (Some f.layout))
        | inr other ↦
            let ne : j ≡ k → ⊥ = λ (e : j ≡ k). let clash : eqb j k ≡ true = eq-eqb j k e in absurd cc in
            rw (found_other t bodies old new k j f ne) (upto_then _ _ _ (sound.numbers j) (depth_later t ns _ _ j more))
      ]

  name_step_at : (old new : List (Option Layout)) (k x : ℕ) → length old ≡ length t.types → IsSound t ns bodies old → Finds t bodies old new k → (b : Option ℕ) → get_or bodies x None ≡ b
      → Upto (option_and_then (answer_at new) b) (named_layout (found ns (answer_at new)) (named_types t ns) (name_at t x))
  name_step_at old new k x len sound f None is = upto_none _
  name_step_at old new k x len sound f (Some b) is =
      let upto : (j : ℕ) → Upto (answer_at old j) (answer_at new j) = finds_upto t bodies old new k len f in
      let lt : x < length t.names = g.known x b is in
      let body : body_of ns x ≡ Some b = sym (g.body x lt) ∙ is in
      elim (cases_Bool (eqb b k)) [
        | inl same ↦
            let e : b ≡ k = eqb-true b k same in
            let less : found ns (answer_at old) < found ns (answer_at new) = found_one ns (answer_at old) (answer_at new) x k f.layout upto (rw (← e) body) f.unknown (found_at t bodies old new k len f) in
            let here : named_layout (suc (found ns (answer_at old))) (named_types t ns) (name_at t x) ≡ Some f.layout = opened t ns bodies _ x k g lt (rw (← e) body) ∙ at_found old new k sound f in
            let later = upto_is _ _ (named_later (suc (found ns (answer_at old))) (found ns (answer_at new)) (named_types t ns) (name_at t x) (omega arith)) f.layout here in
            rw (e, found_at t bodies old new k len f, later) (upto_same (Some f.layout))
        | inr other ↦
            let ne : b ≡ k → ⊥ = λ (e : b ≡ k). let clash : eqb b k ≡ true = eq-eqb b k e in absurd cc in
            let before : named_answer bodies old x ≡ answer_at old b = ap (option_and_then (answer_at old)) is in
            let sound_x : Upto (answer_at old b) _ = subst (λ (o : Option Layout). Upto o (named_layout (found ns (answer_at old)) (named_types t ns) (name_at t x))) before (sound.names x) in
            rw (found_other t bodies old new k b f ne) (upto_then _ _ _ sound_x (named_later (found ns (answer_at old)) (found ns (answer_at new)) (named_types t ns) (name_at t x) (found_more ns (answer_at old) (answer_at new) upto)))
      ]

  sound_step : (old new : List (Option Layout)) (k : ℕ) → length old ≡ length t.types → IsSound t ns bodies old → Finds t bodies old new k → IsSound t ns bodies new
  sound_step old new k len sound f = record {
    numbers = λ j. number_step old new k j len sound f;
    names = λ x. name_step_at old new k x len sound f (get_or bodies x None) refl;
  }

  sound_along : (a b : List (Option Layout)) → length a ≡ length t.types → IsSound t ns bodies a → Reaches t bodies a b → IsSound t ns bodies b × (length b ≡ length t.types)
  sound_along a _ len sound Stays = (sound, len)
  sound_along a _ len sound (Further {b = b} {c = c} {k = k} q f) =
      let before = sound_along a b len sound q in
      (sound_step b c k before.1 before.0 f, finds_len t bodies b c k f ∙ before.1)

  -- ---- and complete

  complete_by : (answers : List (Option Layout)) → IsSound t ns bodies answers → ((k : ℕ) → k < length t.types → IsDone t bodies answers k)
      → (f : ℕ) → ((x : ℕ) → x < length t.names → Upto (named_layout f (named_types t ns) (name_at t x)) (named_answer bodies answers x))
      → (k : ℕ) → k < length t.types → ((j : ℕ) → j < k → Upto (at_depth t ns f j) (answer_at answers j)) → (a : Option Layout) → answer_at answers k ≡ a → Upto (at_depth t ns f k) a
  complete_by answers sound done f names k within below (Some l) is =
      upto_by _ _ (λ m e.
      let c = found ns (answer_at answers) in
      let one : at_depth t ns (f + c) k ≡ Some m = upto_is _ _ (depth_later t ns f (f + c) k (omega arith)) m e in
      let two : at_depth t ns (f + c) k ≡ Some l = upto_is _ _ (depth_later t ns c (f + c) k (omega arith)) l (upto_is _ _ (sound.numbers k) l is) in
      sym two ∙ one)
  complete_by answers sound done f names k within below None is =
      let n = get_or t.types k node.Ptr in
      let known : slice_get t.types k ≡ Some n = slice_get-get_or t.types k node.Ptr within in
      let upto = node_mono (length t.names) k n (at_depth t ns f) (answer_at answers) (λ x. named_layout f (named_types t ns) (name_at t x)) (named_answer bodies answers) (g.table.types k n known) below names in
      rw (depth_node t ns f k n g.table known) (rw (done k within n known is) at upto)

  complete_at : (answers : List (Option Layout)) → IsSound t ns bodies answers → ((k : ℕ) → k < length t.types → IsDone t bodies answers k)
      → (f : ℕ) → ((x : ℕ) → x < length t.names → Upto (named_layout f (named_types t ns) (name_at t x)) (named_answer bodies answers x))
      → (most k : ℕ) → k < most → k < length t.types → Upto (at_depth t ns f k) (answer_at answers k)
  complete_at answers sound done f names zero k lt within = absurd (omega arith)
  complete_at answers sound done f names (suc most) k lt within =
      complete_by answers sound done f names k within (λ j less. complete_at answers sound done f names most j (omega arith) (omega arith)) (answer_at answers k) refl

  named_by : (answers : List (Option Layout)) (f x : ℕ) → x < length t.names → ((k : ℕ) → k < length t.types → Upto (at_depth t ns f k) (answer_at answers k)) → (b : Option ℕ) → body_of ns x ≡ b
      → Upto (named_layout (suc f) (named_types t ns) (name_at t x)) (option_and_then (answer_at answers) b)
  unfolding named_layout
  named_by answers f x lt below None is =
      let none : type_named (named_types t ns) (name_at t x) ≡ None = g.named x lt ∙ ap (option_map (type_at t)) is in
      rw none (upto_none _)
  named_by answers f x lt below (Some b) is = rw (opened t ns bodies f x b g lt is) (below b (g.inside x b is))

  names_complete : (answers : List (Option Layout)) → IsSound t ns bodies answers → ((k : ℕ) → k < length t.types → IsDone t bodies answers k)
      → (f : ℕ) → (x : ℕ) → x < length t.names → Upto (named_layout f (named_types t ns) (name_at t x)) (named_answer bodies answers x)
  unfolding named_layout
  names_complete answers sound done zero x lt = upto_none _
  names_complete answers sound done (suc f) x lt =
      rw (g.body x lt) (named_by answers f x lt (λ k within. complete_at answers sound done f (names_complete answers sound done f) (suc k) k (omega arith) within) (body_of ns x) refl)

  complete : (answers : List (Option Layout)) → IsSound t ns bodies answers → ((k : ℕ) → k < length t.types → IsDone t bodies answers k)
      → (f k : ℕ) → k < length t.types → Upto (at_depth t ns f k) (answer_at answers k)
  complete answers sound done f k within = complete_at answers sound done f (names_complete answers sound done f) (suc k) k (omega arith) within

  pub all_layouts : (answers : List (Option Layout)) → IsSound t ns bodies answers → ((k : ℕ) → k < length t.types → IsDone t bodies answers k) → AreLayouts t ns answers
  unfolding at_depth
  all_layouts answers sound done k within =
      let c = found ns (answer_at answers) in
      let most : c ≤ length (named_types t ns) = omega (arith, found_most ns (answer_at answers), length-map ns (shown_named t)) in
      upto_both (layout_of (named_types t ns) (type_at t k)) (answer_at answers k)
      (complete answers sound done (length (named_types t ns)) k within)
      (upto_then _ _ _ (sound.numbers k) (depth_later t ns c (length (named_types t ns)) k most))

-- ---- all in one

nothing : (n k : ℕ) → answer_at (replicate n None) k ≡ None
nothing zero k = refl
nothing (suc n) zero = refl
nothing (suc n) (suc k) = nothing n k

nothing_named : (n : ℕ) (b : Option ℕ) → option_and_then (answer_at (replicate n None)) b ≡ None
nothing_named n None = refl
nothing_named n (Some b) = nothing n b

ground : (t : Table) (ns : List (NamedType ℕ ℕ)) (bodies : List (Option ℕ)) → IsTable t → All (NamedWithin t) ns → AreBodies ns (length t.names) bodies → IsGround t ns bodies
ground t ns bodies is within all = record {
  table = is;
  known = λ x b e. let lt = body_known bodies x b e in let len = all.len in omega arith;
  body = all.each;
  inside = λ x b e. body_inside t ns x b (recursion_from_All (NamedWithin t) ns within) e;
  named = λ x lt. named_body t ns x is (recursion_from_All (NamedWithin t) ns within) lt;
}

sound_start : (t : Table) (ns : List (NamedType ℕ ℕ)) (bodies : List (Option ℕ)) (n : ℕ) → IsSound t ns bodies (replicate n None)
sound_start t ns bodies n = record {
  numbers = λ k. rw (nothing n k) (upto_none _);
  names = λ x. rw (nothing_named n (get_or bodies x None)) (upto_none _);
}

pub filled : (t : Table) (ns : List (NamedType ℕ ℕ)) (bodies : List (Option ℕ)) (start middle last : List (Option Layout)) → IsTable t → All (NamedWithin t) ns → AreBodies ns (length t.names) bodies
    → start ≡ replicate (length t.types) None → Reaches t bodies start middle → Reaches t bodies middle last → ((k : ℕ) → k < length last → IsDone t bodies last k) → AreLayouts t ns last
filled t ns bodies start middle last is within all e p q done =
    let g = ground t ns bodies is within all in
    let len : length start ≡ length t.types = rw e (length-replicate (length t.types) None) in
    let sound = sound_along t ns bodies g start last len (rw e (sound_start t ns bodies (length t.types))) (reaches_then t bodies start middle last p q) in
    all_layouts t ns bodies g last sound.0 (λ k lt. done k (let same = sound.1 in omega arith))
