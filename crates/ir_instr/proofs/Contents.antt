-- What indices go into.
use Rattle.std.proofs.Common.{◌≡◌, ℕ, suc, ◌<◌, length, arith, List, [], ◌∷◌, Option, Some, None, slice_get, get_or, refl, sym, ap, ◌∙◌, zero}
use Rattle.std.specs.Prelude.{IfSome, option_map, option_and_then}
use Rattle.std.proofs.lemmas.Option.{slice_get-get_or, slice_get_within}
use Rattle.pv_base.specs.declared.name.Name.{Name}
use Rattle.ir_tree.specs.declared.nodes.TypeNode.{TypeNode}
use Rattle.ir_tree.specs.declared.nodes.TypeNode.TheVariants as node
use Rattle.ir_tree.specs.declared.nodes.ConstantNode.{ConstantNode}
use Rattle.ir_tree.specs.declared.nodes.ConstantNode.TheVariants as constant
use Rattle.ir_tree.specs.Table.{Table, IsTable, TypeWithin}
use Rattle.ir_tree.specs.Trees.{TypeV, ConstantV, NullC}
use Rattle.ir_tree.specs.Layouts.{field_type}
use Rattle.ir_tree.specs.Naming.{Grows, name_at, type_at, types_by, constant_at, constant_of_node}
use Rattle.ir_tree.proofs.Showing.{meaning_from}
use Rattle.ir_text.specs.declared.named.NamedBody.{NamedBody}
use Rattle.ir_text.specs.Named.{body_in, body_of, known_of}
use Rattle.ir_text.specs.Types.{Body}
use Rattle.ir_text.proofs.LaidOut.{name_kept, type_by}
use Rattle.ir_instr.specs.Addresses.{opened, constant_field}
use Rattle.ir_instr.specs.Defined.{AreTypes}
use Rattle.ir_instr.specs.Placing.{node_content, node_opened, IsContent, ContentWithin, node_field}

-- ---- nodes

pub no_type : (types : List TypeNode) (k : ℕ) → None ≡ slice_get types k → k < length types → ⊥
no_type types k none lt =
    let here : slice_get types k ≡ Some (get_or types k node.Ptr) = slice_get-get_or types k node.Ptr lt in
    cc

module _ (names later : Table) (is : IsTable names) (grows : Grows names later) (k : ℕ) (n : TypeNode) (known : Some n ≡ slice_get names.types k) where
  pub node_within : TypeWithin (length names.names) k n
  node_within = is.types k n (sym known)

  k_within : k < length names.types
  k_within = slice_get_within names.types k n (sym known)

  body_shown : (o : Option NamedBody) → option_map (type_at later) (option_and_then (λ (b : NamedBody). b.of) o) ≡ option_and_then (λ (b : Body). b.of) (option_map (body_of later) o)
  body_shown None = refl
  body_shown (Some b) = refl

  opened_by : (bodies : List (Name × NamedBody)) (m : TypeNode) → TypeWithin (length names.names) k m → slice_get names.types k ≡ Some m → option_map (type_at later) (node_opened names bodies m k) ≡ opened (known_of later bodies) (type_at later k)
  opened_by bodies (node.Int w) within is_m = rw (type_by later (length names.names) k (node.Int w) within (grows.types k (node.Int w) is_m)) refl
  opened_by bodies node.Ptr within is_m = rw (type_by later (length names.names) k node.Ptr within (grows.types k node.Ptr is_m)) refl
  opened_by bodies node.Void within is_m = rw (type_by later (length names.names) k node.Void within (grows.types k node.Void is_m)) refl
  opened_by bodies (node.Array c of) within is_m = rw (type_by later (length names.names) k (node.Array c of) within (grows.types k (node.Array c of) is_m)) refl
  opened_by bodies (node.Struct packed ks) within is_m = rw (type_by later (length names.names) k (node.Struct packed ks) within (grows.types k (node.Struct packed ks) is_m)) refl
  opened_by bodies (node.Named x) within is_m =
      rw (type_by later (length names.names) k (node.Named x) within (grows.types k (node.Named x) is_m), name_kept names later is grows x within)
      (body_shown (body_in bodies (name_at names x)))

  pub opened_shown : (bodies : List (Name × NamedBody)) (o : Option ℕ) → o ≡ node_opened names bodies n k → option_map (type_at later) o ≡ opened (known_of later bodies) (type_at later k)
  opened_shown bodies o e = ap (option_map (type_at later)) e ∙ opened_by bodies n node_within (sym known)

  content_by : (m : TypeNode) → TypeWithin (length names.names) k m → slice_get names.types k ≡ Some m → IsContent names later (node_content m k) (Some (type_at later k))
  content_by (node.Int w) within is_m = λ known. rw (type_by later (length names.names) k (node.Int w) within (grows.types k (node.Int w) is_m)) refl
  content_by node.Ptr within is_m = λ known. rw (type_by later (length names.names) k node.Ptr within (grows.types k node.Ptr is_m)) refl
  content_by node.Void within is_m = λ known. rw (type_by later (length names.names) k node.Void within (grows.types k node.Void is_m)) refl
  content_by (node.Array c of) within is_m = ap Some (type_by later (length names.names) k (node.Array c of) within (grows.types k (node.Array c of) is_m))
  content_by (node.Struct packed ks) within is_m = rw is_m (ap Some (type_by later (length names.names) k (node.Struct packed ks) within (grows.types k (node.Struct packed ks) is_m)))
  content_by (node.Named x) within is_m = λ known. rw (type_by later (length names.names) k (node.Named x) within (grows.types k (node.Named x) is_m)) refl

  pub content_shown : IsContent names later (node_content n k) (Some (type_at later k))
  content_shown = content_by n node_within (sym known)

opened_within : (names : Table) (k : ℕ) (n : TypeNode) (bodies : List (Name × NamedBody)) → k < length names.types → AreTypes names bodies → IfSome (node_opened names bodies n k) (λ j. j < length names.types)
opened_within names k (node.Int w) bodies lt are = lt
opened_within names k node.Ptr bodies lt are = lt
opened_within names k node.Void bodies lt are = lt
opened_within names k (node.Array c of) bodies lt are = lt
opened_within names k (node.Struct packed ks) bodies lt are = lt
opened_within names k (node.Named x) bodies lt are = are (name_at names x)

pub opened_stays : (names : Table) (k : ℕ) (n : TypeNode) (bodies : List (Name × NamedBody)) (o : Option ℕ) → o ≡ node_opened names bodies n k → k < length names.types → AreTypes names bodies → IfSome o (λ j. j < length names.types)
opened_stays names k n bodies o e lt are = rw e (opened_within names k n bodies lt are)

content_by_node : (names : Table) (k : ℕ) (n : TypeNode) → TypeWithin (length names.names) k n → k < length names.types → ContentWithin names (node_content n k)
content_by_node names k (node.Int w) within lt = tt
content_by_node names k node.Ptr within lt = tt
content_by_node names k node.Void within lt = tt
content_by_node names k (node.Array c of) within lt = omega arith
content_by_node names k (node.Struct packed ks) within lt = lt
content_by_node names k (node.Named x) within lt = tt

pub content_within : (names : Table) (is : IsTable names) (k : ℕ) (n : TypeNode) → Some n ≡ slice_get names.types k → ContentWithin names (node_content n k)
content_within names is k n known = content_by_node names k n (is.types k n (sym known)) (slice_get_within names.types k n (sym known))

-- ---- fields

by_node : (name : ℕ → Name) (type : ℕ → TypeV) (at : ℕ → ConstantV) (n : ConstantNode) → constant_field (constant_of_node name type at n) ≡ node_field n
by_node name type at (constant.Integer n) = refl
by_node name type at constant.Null = refl
by_node name type at constant.Zero = refl
by_node name type at (constant.Text bytes) = refl
by_node name type at (constant.Array es) = refl
by_node name type at (constant.Struct packed es) = refl
by_node name type at (constant.Name k) = refl
by_node name type at (constant.Address k base es) = refl

field_at : (t : Table) (k : ℕ) (n : ConstantNode) → slice_get t.constants k ≡ Some n → constant_field (constant_at t k) ≡ node_field n
unfolding constant_at
field_at t k n known = ap constant_field (meaning_from (constant_of_node (name_at t) (type_at t)) NullC [] t.constants k n known) ∙ by_node (name_at t) (type_at t) _ n

pub field_shown : (names later : Table) (k : ℕ) (n : ConstantNode) → Some n ≡ slice_get names.constants k → Grows names later → node_field n ≡ constant_field (constant_at later k)
field_shown names later k n known grows = sym (field_at later k n (grows.constants k n (sym known)))

pub field_type_at : (at : ℕ → TypeV) (ks : List ℕ) (i : ℕ) → field_type (types_by at ks) i ≡ option_map at (slice_get ks i)
field_type_at at [] zero = refl
field_type_at at [] (suc i) = refl
field_type_at at (k ∷ ks) zero = refl
field_type_at at (k ∷ ks) (suc i) = field_type_at at ks i

-- a number's node stays
pub node_stays : (old new : Table) (k : ℕ) → Grows old new → k < length old.types → slice_get new.types k ≡ slice_get old.types k
node_stays old new k grows lt =
    let here : slice_get old.types k ≡ Some (get_or old.types k node.Ptr) = slice_get-get_or old.types k node.Ptr lt in
    grows.types k (get_or old.types k node.Ptr) here ∙ sym here
