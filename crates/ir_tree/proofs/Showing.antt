-- A node stands for its tree, from the table on that has it.
use Rattle.std.proofs.Common.{◌≡◌, ℕ, zero, suc, ◌<◌, Bool, List, [], ◌∷◌, ◌++◌, length, take, get_or, slice_get, Some, Result, Ok, Err, refl, sym, ap, ◌∙◌, append_assoc, All}
use Rattle.std.specs.Prelude.{IfOk}
use Rattle.std.specs.List.{AllByRecursion}
use Rattle.std.proofs.lemmas.List.{append-nil, get_or-take}
use Rattle.std.proofs.lemmas.List.Elements.{recursion_from_All}
use Rattle.std.proofs.lemmas.Option.{slice_get_within, slice_get-get_or}
use Rattle.pv_base.specs.declared.name.Name.TheVariants.{Numbered}
use Rattle.pv_base.specs.declared.want.Memory.{Memory}
use Rattle.int_num.specs.Integer.{Integer}
use Rattle.ir_tree.specs.declared.nodes.TypeNode.{TypeNode}
use Rattle.ir_tree.specs.declared.nodes.TypeNode.TheVariants as node
use Rattle.ir_tree.specs.declared.nodes.Element.{Element}
use Rattle.ir_tree.specs.declared.nodes.ConstantNode.{ConstantNode}
use Rattle.ir_tree.specs.declared.nodes.ConstantNode.TheVariants as constant
use Rattle.ir_tree.specs.Table.{Table}
use Rattle.ir_tree.specs.Trees.{TypeV, IntV, PtrV, VoidV, ArrayV, StructV, NamedV}
use Rattle.ir_tree.specs.Trees.{ConstantV, IntegerC, NullC, ZeroC, TextC, ArrayC, StructC, NameC, AddressC}
use Rattle.ir_tree.specs.Naming.{Grows, Shows, ShowsConstant, ElementWithin, ElementsWithin, meanings, name_at, type_at, types_at, types_by, type_of_node, constant_at, elements_at, elements_by, constant_of_node}

-- what a node stands for, from what stands before it
pub meaning_from : {N V : Type 0} (step : (ℕ → V) → N → V) (none : V) (before : List V) (ns : List N) (k : ℕ) (n : N) → slice_get ns k ≡ Some n
    → get_or (meanings step none before ns) k none ≡ step (λ j. get_or (before ++ take k (meanings step none before ns)) j none) n
unfolding meanings
meaning_from step none before [] k n e = absurd cc
meaning_from {V = V} step none before (x ∷ rest) zero n e =
    let same : x ≡ n = cc in
    rw (← same) (ap (λ (b : List V). step (λ j. get_or b j none) x) (sym (append-nil before)))
meaning_from {V = V} step none before (x ∷ rest) (suc k) n e =
    let first : V = step (λ j. get_or before j none) x in
    meaning_from step none (before ++ first ∷ []) rest k n e
    ∙ ap (λ (b : List V). step (λ j. get_or b j none) n) (append_assoc before (first ∷ []) (take k (meanings step none (before ++ first ∷ []) rest)))

-- how a node reads the types below it
pub Reads : (Table → TypeV) → Table → ℕ → TypeNode → Type 0
Reads type new k n = (later : Table) (at : ℕ → TypeV) → Grows new later → ((j : ℕ) → j < k → at j ≡ type_at later j) → type_of_node (name_at later) at n ≡ type later

shows_at : (new : Table) (k : ℕ) (n : TypeNode) (type : Table → TypeV) → slice_get new.types k ≡ Some n → k < length new.types → Reads type new k n → Shows new k type
unfolding type_at Reads
shows_at new k n type known within reads = record {
  within = within;
  from = λ later grows.
      let at = meaning_from (type_of_node (name_at later)) PtrV [] later.types k n (grows.types k n known) in
      at ∙ reads later (λ j. get_or (take k (meanings (type_of_node (name_at later)) PtrV [] later.types)) j PtrV) grows (λ j lt. get_or-take k (meanings (type_of_node (name_at later)) PtrV [] later.types) j PtrV lt);
}

pub shows : (old new : Table) (r : Result ℕ Memory) (n : TypeNode) (type : Table → TypeV) → IfOk r (λ k. slice_get new.types k ≡ Some n) → IfOk r (λ k. k ≡ length old.types) → IfOk r (λ k. k < length new.types)
    → Reads type new (length old.types) n → IfOk r (λ k. Shows new k type)
shows old new (Ok k) n type known last within reads = shows_at new k n type known within (rw last reads)
shows old new (Err e) n type known last within reads = tt

pub reads_int : (new : Table) (k w : ℕ) → Reads (λ later. IntV w) new k (node.Int w)
unfolding Reads
reads_int new k w later at grows same = refl

pub reads_ptr : (new : Table) (k : ℕ) → Reads (λ later. PtrV) new k node.Ptr
unfolding Reads
reads_ptr new k later at grows same = refl

pub reads_void : (new : Table) (k : ℕ) → Reads (λ later. VoidV) new k node.Void
unfolding Reads
reads_void new k later at grows same = refl

pub reads_array : (new : Table) (k n of : ℕ) → of < k → Reads (λ later. ArrayV n (type_at later of)) new k (node.Array n of)
unfolding Reads
reads_array new k n of lt later at grows same = ap (ArrayV n) (same of lt)

pub types_same : (at to : ℕ → TypeV) (k : ℕ) (js : List ℕ) → AllByRecursion (λ j. j < k) js → ((j : ℕ) → j < k → at j ≡ to j) → types_by at js ≡ types_by to js
types_same at to k [] below same = refl
types_same at to k (j ∷ js) below same =
    let first : at j ≡ to j = same j below.0 in
    let others = types_same at to k js below.1 same in
    cc

pub reads_struct : (new : Table) (k : ℕ) (packed : Bool) (js : List ℕ) → All (λ j. j < k) js → Reads (λ later. StructV packed (types_at later js)) new k (node.Struct packed js)
unfolding Reads
reads_struct new k packed js below later at grows same = ap (StructV packed) (types_same at (type_at later) k js (recursion_from_All (λ j. j < k) js below) same)

pub reads_named : (new : Table) (k name : ℕ) → Reads (λ later. NamedV (name_at later name)) new k (node.Named name)
unfolding Reads
reads_named new k name later at grows same = refl

-- ---- constants

-- how a node reads the constants below it
pub ReadsConstant : (Table → ConstantV) → Table → ℕ → ConstantNode → Type 0
ReadsConstant value new k n = (later : Table) (at : ℕ → ConstantV) → Grows new later → ((j : ℕ) → j < k → at j ≡ constant_at later j) → constant_of_node (name_at later) (type_at later) at n ≡ value later

constant_shows_at : (new : Table) (k : ℕ) (n : ConstantNode) (value : Table → ConstantV) → slice_get new.constants k ≡ Some n → k < length new.constants → ReadsConstant value new k n → ShowsConstant new k value
unfolding constant_at ReadsConstant
constant_shows_at new k n value known within reads = record {
  within = within;
  from = λ later grows.
      let all = meanings (constant_of_node (name_at later) (type_at later)) NullC [] later.constants in
      let at = meaning_from (constant_of_node (name_at later) (type_at later)) NullC [] later.constants k n (grows.constants k n known) in
      at ∙ reads later (λ j. get_or (take k all) j NullC) grows (λ j lt. get_or-take k all j NullC lt);
}

pub shows_constant : (old new : Table) (r : Result ℕ Memory) (n : ConstantNode) (value : Table → ConstantV) → IfOk r (λ k. slice_get new.constants k ≡ Some n) → IfOk r (λ k. k ≡ length old.constants) → IfOk r (λ k. k < length new.constants)
    → ReadsConstant value new (length old.constants) n → IfOk r (λ k. ShowsConstant new k value)
shows_constant old new (Ok k) n value known last within reads = constant_shows_at new k n value known within (rw last reads)
shows_constant old new (Err e) n value known last within reads = tt

pub reads_integer : (new : Table) (k : ℕ) (n : Integer) → ReadsConstant (λ later. IntegerC n) new k (constant.Integer n)
unfolding ReadsConstant
reads_integer new k n later at grows same = refl

pub reads_null : (new : Table) (k : ℕ) → ReadsConstant (λ later. NullC) new k constant.Null
unfolding ReadsConstant
reads_null new k later at grows same = refl

pub reads_zero : (new : Table) (k : ℕ) → ReadsConstant (λ later. ZeroC) new k constant.Zero
unfolding ReadsConstant
reads_zero new k later at grows same = refl

pub reads_text : (new : Table) (k : ℕ) (bytes : List ℕ) → ReadsConstant (λ later. TextC bytes) new k (constant.Text bytes)
unfolding ReadsConstant
reads_text new k bytes later at grows same = refl

pub reads_name_of : (new : Table) (k name : ℕ) → ReadsConstant (λ later. NameC (name_at later name)) new k (constant.Name name)
unfolding ReadsConstant
reads_name_of new k name later at grows same = refl

pub elements_same : (type : ℕ → TypeV) (at to : ℕ → ConstantV) (k : ℕ) (es : List Element) → AllByRecursion (λ e. e.value < k) es → ((j : ℕ) → j < k → at j ≡ to j) → elements_by type at es ≡ elements_by type to es
elements_same type at to k [] below same = refl
elements_same type at to k (e ∷ es) below same =
    let first : at e.value ≡ to e.value = same e.value below.0 in
    let others = elements_same type at to k es below.1 same in
    cc

values_below : (old : Table) (es : List Element) → AllByRecursion (ElementWithin old) es → AllByRecursion (λ e. e.value < length old.constants) es
values_below old [] all = tt
values_below old (e ∷ es) all = (all.0.value, values_below old es all.1)

elements_read : (old later : Table) (at : ℕ → ConstantV) (es : List Element) → ElementsWithin old es → ((j : ℕ) → j < length old.constants → at j ≡ constant_at later j)
    → elements_by (type_at later) at es ≡ elements_at later es
elements_read old later at es within same =
    elements_same (type_at later) at (constant_at later) (length old.constants) es (values_below old es (recursion_from_All (ElementWithin old) es within)) same

pub reads_array_of : (old new : Table) (es : List Element) → Grows old new → ElementsWithin old es → ReadsConstant (λ later. ArrayC (elements_at later es)) new (length old.constants) (constant.Array es)
unfolding ReadsConstant
reads_array_of old new es grew within later at grows same = ap ArrayC (elements_read old later at es within same)

pub reads_structure_of : (old new : Table) (packed : Bool) (es : List Element) → Grows old new → ElementsWithin old es → ReadsConstant (λ later. StructC packed (elements_at later es)) new (length old.constants) (constant.Struct packed es)
unfolding ReadsConstant
reads_structure_of old new packed es grew within later at grows same = ap (StructC packed) (elements_read old later at es within same)

pub reads_address : (old new : Table) (of base : ℕ) (es : List Element) → Grows old new → base < length old.constants → ElementsWithin old es
    → ReadsConstant (λ later. AddressC (type_at later of) (constant_at later base) (elements_at later es)) new (length old.constants) (constant.Address of base es)
unfolding ReadsConstant
reads_address old new of base es grew lt within later at grows same =
    let first : at base ≡ constant_at later base = same base lt in
    let others = elements_read old later at es within same in
    cc

-- ---- tables that grow

pub grows_then : (a b c : Table) → Grows a b → Grows b c → Grows a c
grows_then a b c p q = record {
  names = λ k x e. q.names k x (p.names k x e);
  types = λ k x e. q.types k x (p.types k x e);
  constants = λ k x e. q.constants k x (p.constants k x e);
}

pub type_within_more : (a b : Table) (k : ℕ) → Grows a b → k < length a.types → k < length b.types
type_within_more a b k grows lt = slice_get_within b.types k _ (grows.types k _ (slice_get-get_or a.types k node.Ptr lt))

pub constant_within_more : (a b : Table) (k : ℕ) → Grows a b → k < length a.constants → k < length b.constants
constant_within_more a b k grows lt = slice_get_within b.constants k _ (grows.constants k _ (slice_get-get_or a.constants k constant.Null lt))

pub name_within_more : (a b : Table) (k : ℕ) → Grows a b → k < length a.names → k < length b.names
name_within_more a b k grows lt = slice_get_within b.names k _ (grows.names k _ (slice_get-get_or a.names k (Numbered 0) lt))
