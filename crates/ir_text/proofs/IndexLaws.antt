-- What indices may be, by the numbers of a table, and the tokens before them.
use Rattle.std.proofs.Common.{◌≡◌, ℕ, zero, suc, ◌+◌, ◌<◌, ◌≤◌, length, arith, Bool, true, false, List, [], ◌∷◌, drop, Option, Some, None, slice_get, Result, Ok, Err, refl, sym, ap, ◌∙◌}
use Rattle.std.specs.Prelude.{option_map, option_and_then, nat_eq, IfSome}
use Rattle.std.specs.List.{AllByRecursion}
use Rattle.std.proofs.lemmas.List.Elements.{recursion_from_All}
use Rattle.pv_base.specs.declared.name.Name.{Name}
use Rattle.ir_lex.specs.declared.token.Cause.{Cause}
use Rattle.ir_lex.specs.declared.token.Cause.TheVariants as causes
use Rattle.ir_tree.specs.declared.nodes.TypeNode.{TypeNode}
use Rattle.ir_tree.specs.declared.nodes.TypeNode.TheVariants as node
use Rattle.ir_tree.specs.declared.nodes.ConstantNode.{ConstantNode}
use Rattle.ir_tree.specs.declared.nodes.ConstantNode.TheVariants as constant
use Rattle.std.proofs.lemmas.Option.{slice_get_within}
use Rattle.ir_tree.specs.Table.{Table, IsTable, TypeWithin as TableWithin}
use Rattle.ir_tree.specs.Trees.{TypeV, NamedV, TypesV, ConstantV, NullC}
use Rattle.ir_tree.specs.Layouts.{field_type}
use Rattle.ir_tree.specs.Naming.{Grows, name_at, type_at, types_by, type_of_node, constant_at, constant_of_node}
use Rattle.ir_tree.proofs.Showing.{meaning_from}
use Rattle.ir_text.specs.declared.fault.ReadEnd.{ReadEnd}
use Rattle.ir_text.specs.declared.fault.ReadEnd.TheVariants as ends
use Rattle.ir_text.specs.declared.fault.Fault.TheVariants.{At}
use Rattle.ir_text.specs.Tokens.{TokenV, IsBlamed, blamed}
use Rattle.ir_text.specs.Reading.{Outcome, Fails, meant, wrong, next_is, token_by}
use Rattle.ir_text.specs.Types.{Known}
use Rattle.ir_text.specs.Passed.{skipped}
use Rattle.ir_text.specs.Indices.{is_address_word, address_word, no_type, of_32_bits, field_number, field_by, opened, Field, entered}
use Rattle.ir_text.specs.Constants.{width_of}
use Rattle.ir_text.specs.OpenConstants.{fields_of, shown_entry, TypeWithin, WantedWithin}
use Rattle.ir_text.specs.IndexNodes.{node_number, node_field, node_name, node_wanted}
use Rattle.ir_text.specs.Spelled.{one_token}
use Rattle.ir_text.specs.Lawful.{anything}
use Rattle.ir_text.proofs.Choices.{token_laws}
use Rattle.ir_text.proofs.Persisting.{shortens}
use Rattle.ir_text.proofs.PassedLaws.{skips_on, skips_end}
use Rattle.ir_text.proofs.Later.{named_later}
use Rattle.ir_text.proofs.LaidOut.{type_by}

-- ---- types that may not stand

pub blamed_fails : (A : Type 0) (t : TokenV) (cause : Cause) (e : ReadEnd) → IsBlamed t cause e → Fails {Y = A} e (wrong t cause)
blamed_fails A t cause ends.Memory b = tt
blamed_fails A t cause (ends.Bad f) b = ap Err (sym b)

pub no_type_ok : (A : Type 0) (r : Result TypeV Cause) (t : TokenV) (rest : List TokenV) (x : TypeV × List TokenV) (e : ReadEnd) → meant r t rest ≡ Ok x → IsBlamed t causes.Operand e → Fails {Y = A} e (meant (no_type {A = A} r) t rest)
no_type_ok A (Ok of) t rest x e m b = blamed_fails A t causes.Operand e b
no_type_ok A (Err cause) t rest x e m b = absurd cc

pub no_type_err : (A : Type 0) (r : Result TypeV Cause) (t : TokenV) (rest : List TokenV) (e : ReadEnd) → Fails e (meant r t rest) → Fails {Y = A} e (meant (no_type {A = A} r) t rest)
no_type_err A r t rest ends.Memory m = tt
no_type_err A (Ok of) t rest (ends.Bad f) m = absurd cc
no_type_err A (Err cause) t rest (ends.Bad f) m = let same : At t.line (blamed t cause) ≡ f = cc in ap Err same

pub ok_same : (c d : ConstantV) (rest : List TokenV) → (let p : Outcome ConstantV = Ok (c, rest) in p) ≡ Ok (d, rest) → c ≡ d
ok_same c d rest e =
    let pair : (let z : ConstantV × List TokenV = (c, rest) in z) ≡ (d, rest) = cc in
    ap (λ (z : ConstantV × List TokenV). z.0) pair

-- ---- nodes

node_is : (t later : Table) (k : ℕ) (n : TypeNode) → IsTable t → slice_get t.types k ≡ Some n → Grows t later → type_at later k ≡ type_of_node (name_at later) (type_at later) n
node_is t later k n is known grows = type_by later (length t.names) k n (is.types k n known) (grows.types k n known)

number_same : (name : ℕ → Name) (type : ℕ → TypeV) (at : ℕ → ConstantV) (n : ConstantNode) → node_number n ≡ field_number (constant_of_node name type at n)
number_same name type at (constant.Integer n) = refl
number_same name type at constant.Null = refl
number_same name type at constant.Zero = refl
number_same name type at (constant.Text bytes) = refl
number_same name type at (constant.Array es) = refl
number_same name type at (constant.Struct packed es) = refl
number_same name type at (constant.Name k) = refl
number_same name type at (constant.Address k base es) = refl

pub number_later : (t later : Table) (k : ℕ) (n : ConstantNode) → slice_get t.constants k ≡ Some n → Grows t later → node_number n ≡ field_number (constant_at later k)
unfolding constant_at
number_later t later k n known grows = number_same _ _ _ n ∙ ap field_number (sym (meaning_from (constant_of_node (name_at later) (type_at later)) NullC [] later.constants k n (grows.constants k n known)))

fields_same : (at : ℕ → TypeV) (ks : List ℕ) (i : ℕ) → option_map at (slice_get ks i) ≡ field_type (types_by at ks) i
fields_same at [] i = refl
fields_same at (k ∷ ks) zero = refl
fields_same at (k ∷ ks) (suc i) = fields_same at ks i

field_same : (name : ℕ → Name) (at : ℕ → TypeV) (n : TypeNode) (i : ℕ) → option_map at (node_field i n) ≡ field_type (fields_of (type_of_node name at n)) i
field_same name at (node.Struct packed ks) i = fields_same at ks i
field_same name at (node.Int w) i = refl
field_same name at node.Ptr i = refl
field_same name at node.Void i = refl
field_same name at (node.Array count k) i = refl
field_same name at (node.Named k) i = refl

pub field_later : (t later : Table) (k i : ℕ) (n : TypeNode) → IsTable t → slice_get t.types k ≡ Some n → Grows t later → option_map (type_at later) (node_field i n) ≡ field_type (fields_of (type_at later k)) i
field_later t later k i n is known grows = field_same (name_at later) (type_at later) n i ∙ ap (λ (x : TypeV). field_type (fields_of x) i) (sym (node_is t later k n is known grows))

wanted_same : (later : Table) (k : ℕ) (n : TypeNode) → type_at later k ≡ type_of_node (name_at later) (type_at later) n → shown_entry later (node_wanted k n) ≡ entered (Some (type_of_node (name_at later) (type_at later) n))
wanted_same later k (node.Struct packed ks) is = ap (λ (x : TypeV). Field (fields_of x)) is
wanted_same later k (node.Int w) is = refl
wanted_same later k node.Ptr is = refl
wanted_same later k node.Void is = refl
wanted_same later k (node.Array count of) is = refl
wanted_same later k (node.Named x) is = refl

pub wanted_later : (t later : Table) (k : ℕ) (n : TypeNode) → IsTable t → slice_get t.types k ≡ Some n → Grows t later → shown_entry later (node_wanted k n) ≡ entered (Some (type_at later k))
wanted_later t later k n is known grows =
    let here = node_is t later k n is known grows in
    wanted_same later k n here ∙ ap (λ (x : TypeV). entered (Some x)) (sym here)

plain_same : (known : Known) (name : ℕ → Name) (at : ℕ → TypeV) (n : TypeNode) → node_name n ≡ None → opened known (type_of_node name at n) ≡ Some (type_of_node name at n)
plain_same known name at (node.Struct packed ks) e = refl
plain_same known name at (node.Int w) e = refl
plain_same known name at node.Ptr e = refl
plain_same known name at node.Void e = refl
plain_same known name at (node.Array count of) e = refl
plain_same known name at (node.Named x) e = absurd cc

-- a type that is no name is its own body
pub plain_later : (known : Known) (t later : Table) (k : ℕ) (n : TypeNode) → IsTable t → slice_get t.types k ≡ Some n → Grows t later → node_name n ≡ None → Some (type_at later k) ≡ opened known (type_at later k)
plain_later known t later k n is found grows e =
    let here = node_is t later k n is found grows in
    ap Some here ∙ sym (plain_same known (name_at later) (type_at later) n e) ∙ ap (opened known) (sym here)

named_same : (name : ℕ → Name) (at : ℕ → TypeV) (n : TypeNode) (x : ℕ) → node_name n ≡ Some x → type_of_node name at n ≡ NamedV (name x)
named_same name at (node.Named y) x e = let same : y ≡ x = cc in ap (λ (z : ℕ). NamedV (name z)) same
named_same name at (node.Struct packed ks) x e = absurd cc
named_same name at (node.Int w) x e = absurd cc
named_same name at node.Ptr x e = absurd cc
named_same name at node.Void x e = absurd cc
named_same name at (node.Array count of) x e = absurd cc

-- a name's body is what the text says of it
pub body_later : (known : Known) (t later : Table) (k x : ℕ) (n : TypeNode) (name : Name) → IsTable t → slice_get t.types k ≡ Some n → Grows t later → node_name n ≡ Some x → slice_get t.names x ≡ Some name
    → option_and_then (λ b. b.of) (known name) ≡ opened known (type_at later k)
body_later known t later k x n name is found grows e spelled =
    let here : type_at later k ≡ NamedV name = node_is t later k n is found grows ∙ named_same (name_at later) (type_at later) n x e ∙ ap NamedV (named_later t later x name spelled grows) in
    ap (opened known) (sym here)

-- what may not stand as one thing may not as another
pub no_type_any : (A B : Type 0) (r : Result TypeV Cause) (t : TokenV) (rest : List TokenV) (e : ReadEnd) → Fails {Y = A} e (meant (no_type {A = A} r) t rest) → Fails {Y = B} e (meant (no_type {A = B} r) t rest)
no_type_any A B r t rest ends.Memory m = tt
no_type_any A B (Ok of) t rest (ends.Bad f) m = let same : At t.line (blamed t causes.Operand) ≡ f = cc in ap Err same
no_type_any A B (Err cause) t rest (ends.Bad f) m = let same : At t.line (blamed t cause) ≡ f = cc in ap Err same

-- a faulty constant is no field
pub field_err : (fields : TypesV) (r : Result ConstantV Cause) (t : TokenV) (rest : List TokenV) (e : ReadEnd) → Fails e (meant r t rest) → Fails e (meant (field_by fields r) t rest)
field_err fields r t rest ends.Memory m = tt
field_err fields (Ok c) t rest (ends.Bad f) m = absurd cc
field_err fields (Err cause) t rest (ends.Bad f) m = m

-- a constant that is no number, and a number of no field
pub field_none : (fields : TypesV) (r : Result ConstantV Cause) (t : TokenV) (rest : List TokenV) (c : ConstantV) (e : ReadEnd) → meant r t rest ≡ Ok (c, rest) → field_number c ≡ None → IsBlamed t causes.Operand e → Fails e (meant (field_by fields r) t rest)
field_none fields (Err cause) t rest c e m none b = absurd cc
field_none fields (Ok d) t rest c e m none b =
    let same : d ≡ c = ok_same d c rest m in
    rw (same, none) (blamed_fails ConstantV t causes.Operand e b)

pub field_far : (fields : TypesV) (r : Result ConstantV Cause) (t : TokenV) (rest : List TokenV) (c : ConstantV) (i : ℕ) (e : ReadEnd) → meant r t rest ≡ Ok (c, rest) → field_number c ≡ Some i → field_type fields i ≡ None → IsBlamed t causes.Number e → Fails e (meant (field_by fields r) t rest)
field_far fields (Err cause) t rest c i e m some far b = absurd cc
field_far fields (Ok d) t rest c i e m some far b =
    let same : d ≡ c = ok_same d c rest m in
    rw (same, some, far) (blamed_fails ConstantV t causes.Number e b)

pub field_there : (fields : TypesV) (r : Result ConstantV Cause) (t : TokenV) (rest : List TokenV) (c : ConstantV) (i : ℕ) (of : TypeV) → meant r t rest ≡ Ok (c, rest) → field_number c ≡ Some i → field_type fields i ≡ Some of → meant (field_by fields r) t rest ≡ Ok (c, rest)
field_there fields (Err cause) t rest c i of m some there = absurd cc
field_there fields (Ok d) t rest c i of m some there =
    let same : d ≡ c = ok_same d c rest m in
    rw (same, some, there) refl

-- a fault in the type, and i32
pub of_32_err : (r : Result TypeV Cause) (t : TokenV) (rest : List TokenV) (e : ReadEnd) → Fails e (meant r t rest) → Fails e (meant (of_32_bits r) t rest)
of_32_err r t rest ends.Memory m = tt
of_32_err (Ok of) t rest (ends.Bad f) m = absurd cc
of_32_err (Err cause) t rest (ends.Bad f) m = m

pub of_32_ok : (r : Result TypeV Cause) (t : TokenV) (rest : List TokenV) (of : TypeV) → meant r t rest ≡ Ok (of, rest) → nat_eq (width_of of) 32 ≡ true → meant (of_32_bits r) t rest ≡ Ok (of, rest)
of_32_ok (Err cause) t rest of m w = absurd cc
of_32_ok (Ok x) t rest of m w =
    let pair : (let z : TypeV × List TokenV = (x, rest) in z) ≡ (of, rest) = cc in
    let same : x ≡ of = ap (λ (z : TypeV × List TokenV). z.0) pair in
    rw (same, w) refl

-- ---- numbers of the table

all_some : (P : ℕ → Type 0) (ks : List ℕ) (i : ℕ) → AllByRecursion P ks → IfSome (slice_get ks i) P
all_some P [] i all = tt
all_some P (k ∷ ks) zero all = all.0
all_some P (k ∷ ks) (suc i) all = all_some P ks i all.1

some_more : (o : Option ℕ) (k m : ℕ) → k < m → IfSome o (λ j. j < k) → IfSome o (λ j. j < m)
some_more None k m lt h = tt
some_more (Some j) k m lt h = omega arith

field_below : (t : Table) (k i : ℕ) (n : TypeNode) → TableWithin (length t.names) k n → k < length t.types → TypeWithin t (node_field i n)
field_below t k i (node.Struct packed ks) within lt = some_more (slice_get ks i) k (length t.types) lt (all_some (λ j. j < k) ks i (recursion_from_All (λ j. j < k) ks within))
field_below t k i (node.Int w) within lt = tt
field_below t k i node.Ptr within lt = tt
field_below t k i node.Void within lt = tt
field_below t k i (node.Array count of) within lt = tt
field_below t k i (node.Named x) within lt = tt

pub field_within : (t : Table) (k i : ℕ) (n : TypeNode) → IsTable t → slice_get t.types k ≡ Some n → TypeWithin t (node_field i n)
field_within t k i n is found = field_below t k i n (is.types k n found) (slice_get_within t.types k n found)

wanted_below : (t : Table) (k : ℕ) (n : TypeNode) → TableWithin (length t.names) k n → k < length t.types → WantedWithin t (node_wanted k n)
wanted_below t k (node.Array count of) within lt = let less : of < k = within in omega arith
wanted_below t k (node.Struct packed ks) within lt = lt
wanted_below t k (node.Int w) within lt = tt
wanted_below t k node.Ptr within lt = tt
wanted_below t k node.Void within lt = tt
wanted_below t k (node.Named x) within lt = tt

pub wanted_within : (t : Table) (k : ℕ) (n : TypeNode) → IsTable t → slice_get t.types k ≡ Some n → WantedWithin t (node_wanted k n)
wanted_within t k n is found = wanted_below t k n (is.types k n found) (slice_get_within t.types k n found)

-- ---- words before the parenthesis

word_less : (ts : List TokenV) (x : Unit {0} × List TokenV) → token_by address_word ts ≡ Ok x → 1 + length x.1 ≤ length ts
word_less ts x e = shortens 0 anything (token_by address_word) (one_token address_word) (token_laws 0 address_word) (λ a ws s. omega (arith, ap length s.parts)) ts x e

word_there : (b : Bool) (ts : List TokenV) (t : TokenV) → ts ≡ t ∷ drop 1 ts → is_address_word t ≡ b → next_is is_address_word ts ≡ b
unfolding next_is
word_there b ts t is e = ap (next_is is_address_word) is ∙ e

word_here : (ts : List TokenV) (t : TokenV) → ts ≡ t ∷ drop 1 ts → is_address_word t ≡ true → token_by address_word ts ≡ Ok (tt, drop 1 ts)
unfolding token_by
word_here ts t is e = ap (token_by address_word) is ∙ rw e refl

no_words : (ts : List TokenV) → ts ≡ [] → next_is is_address_word ts ≡ false
unfolding next_is
no_words ts is = ap (next_is is_address_word) is

pub word_on : (ts : List TokenV) (t : TokenV) → ts ≡ t ∷ drop 1 ts → is_address_word t ≡ true → skipped is_address_word (token_by address_word) ts ≡ skipped is_address_word (token_by address_word) (drop 1 ts)
word_on ts t is e = skips_on is_address_word (token_by address_word) word_less ts (drop 1 ts) tt (word_there true ts t is e) (word_here ts t is e)

pub word_end : (ts : List TokenV) (t : TokenV) → ts ≡ t ∷ drop 1 ts → is_address_word t ≡ false → skipped is_address_word (token_by address_word) ts ≡ Ok (tt, ts)
word_end ts t is e = skips_end is_address_word (token_by address_word) word_less ts (word_there false ts t is e)

pub word_out : (ts : List TokenV) → ts ≡ [] → skipped is_address_word (token_by address_word) ts ≡ Ok (tt, ts)
word_out ts is = skips_end is_address_word (token_by address_word) word_less ts (no_words ts is)
