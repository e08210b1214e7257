-- What reading a whole text keeps.
use Rattle.std.proofs.Common.{◌≡◌, ◌<◌, ℕ, Bool, true, List, [], ◌∷◌, length, Option, Some, None, Ok, Err, refl, subst, ◌∙◌, arith}
use Rattle.std.specs.Prelude.{◌^◌, ◌++◌, ◌&&◌, nat_lt, map, flat_map, is_some}
use Rattle.std.proofs.lemmas.Bool.{ltb-true}
use Rattle.std.proofs.lemmas.List.Folds.{list_all-append}
use Rattle.ir_rules.specs.Defining.{defined}
use Rattle.std.specs.List.{list_all, AllByRecursion}
use Rattle.pv_base.specs.declared.name.Name.{Name}
use Rattle.ir_lex.specs.Lexing.{lexed}
use Rattle.ir_lex.specs.declared.token.ReadError.{ReadError}
use Rattle.ir_tree.specs.declared.items.NamedType.{NamedType}
use Rattle.ir_tree.specs.Trees.{TypeV}
use Rattle.ir_text.specs.declared.fault.Fault.{Fault}
use Rattle.ir_text.specs.declared.fault.Fault.TheVariants.{At, Ended}
use Rattle.ir_text.specs.Tokens.{TokenV}
use Rattle.ir_text.specs.Reading.{Outcome, ◌>>=◌}
use Rattle.ir_text.specs.Types.{Known}
use Rattle.ir_grammar.specs.Items.{items_at, named_body_at}
use Rattle.ir_grammar.specs.NamedTypes.{definitions, named_only, unless_faulty, bodies_read, bodies_in, types_in, known_in}
use Rattle.ir_grammar.specs.Texts.{last_line, unless_fault, settled, unless_wrong, first_fault, module_at, module_in, read_tokens, read_of}
use Rattle.ir_rules.specs.Reading.{function_stands, instruction_stands, constants_stand, counts_stand, name_stands, type_names, global_names, defined_names}
use Rattle.ir_rules.specs.Seen.{InstructionV, BlockV, FunctionV, ModuleV}
use Rattle.ir_rules.proofs.SameLemmas.{and_both}
use Rattle.read_laws.specs.Functions.{most_defined, FunctionStands}
use Rattle.read_laws.specs.Laws.{IsRead}
use Rattle.read_laws.specs.Modules.{ItemsStand, ItemsAreFew}
use Rattle.read_laws.specs.Texts.{TextsStand}
use Rattle.read_laws.specs.Types.{BodiesAreRead, TypesStand}
use Rattle.read_laws.proofs.Counts.{items_few}
use Rattle.read_laws.proofs.Instructions as laws
use Rattle.read_laws.proofs.Items.{all_items_stand}
use Rattle.read_laws.proofs.Lengths.{read_few}
use Rattle.read_laws.proofs.Named.{texts_describe, types_stand}
use Rattle.read_laws.proofs.SmallNumbers.{names_small}
use Rattle.read_laws.proofs.Steps.{Gives, gives, then}

abbrev Types : Type 0
Types = List (NamedType Name TypeV)

-- ---- functions

module _ (types : Types) (p : InstructionV → Bool) (holds : (i : InstructionV) → IsRead types i → p i ≡ true) where
  all_hold : (all : List InstructionV) → AllByRecursion (IsRead types) all → list_all p all ≡ true
  all_hold [] r = refl
  all_hold (i ∷ all) r =
      let here = holds i r.0 in
      let others = all_hold all r.1 in
      rw (here, others) refl

  blocks_hold : (blocks : List BlockV) → AllByRecursion (λ b. AllByRecursion (IsRead types) b.instructions) blocks → list_all (λ b. list_all p b.instructions) blocks ≡ true
  blocks_hold [] r = refl
  blocks_hold (b ∷ blocks) r =
      let here = all_hold b.instructions r.0 in
      let others = blocks_hold blocks r.1 in
      rw (here, others) refl

one_stands : (types : Types) (f : FunctionV) → FunctionStands types f → counts_stand f ≡ true → function_stands types f ≡ true
one_stands types f s counts =
    let one = s.answer in
    let two = s.params in
    let three = s.names in
    let four = s.form in
    let five = blocks_hold types (instruction_stands types) (laws.instructions_stand types) f.blocks s.instructions in
    rw (one, two, three, four, counts, five) refl

all_stand : (types : Types) (fs : List FunctionV) → AllByRecursion (FunctionStands types) fs → list_all counts_stand fs ≡ true → list_all (function_stands types) fs ≡ true
all_stand types [] s counts = refl
all_stand types (f ∷ fs) s counts =
    let parts = and_both (counts_stand f) (list_all counts_stand fs) counts in
    let here = one_stands types f s.0 parts.0 in
    let others = all_stand types fs s.1 parts.1 in
    rw (here, others) refl

constants_all : (types : Types) (fs : List FunctionV) → AllByRecursion (FunctionStands types) fs → list_all (λ f. list_all (λ b. list_all (constants_stand types) b.instructions) f.blocks) fs ≡ true
constants_all types [] s = refl
constants_all types (f ∷ fs) s =
    let here = blocks_hold types (constants_stand types) (laws.constants_stand types) f.blocks s.0.instructions in
    let others = constants_all types fs s.1 in
    rw (here, others) refl

function_names : (types : Types) (fs : List FunctionV) → AllByRecursion (FunctionStands types) fs → list_all (λ f. nat_lt (most_defined f) (2 ^ 32)) fs ≡ true → list_all name_stands (flat_map (λ f. map (λ d. d.name) (defined f)) fs) ≡ true
function_names types [] s few = refl
function_names types (f ∷ fs) s few =
    let parts = and_both (nat_lt (most_defined f) (2 ^ 32)) (list_all (λ g. nat_lt (most_defined g) (2 ^ 32)) fs) few in
    let less : most_defined f < 2 ^ 32 = ltb-true (most_defined f) (2 ^ 32) parts.0 in
    let here = s.0.numbers (omega arith) in
    let others = function_names types fs s.1 parts.1 in
    list_all-append name_stands (map (λ d. d.name) (defined f)) (flat_map (λ g. map (λ d. d.name) (defined g)) fs) ∙ rw (here, others) refl

all_names : (v : ModuleV) → list_all name_stands (type_names v ++ global_names v) ≡ true → list_all name_stands (flat_map (λ f. map (λ d. d.name) (defined f)) v.functions) ≡ true → list_all name_stands (defined_names v) ≡ true
all_names v outer inner =
    list_all-append name_stands (type_names v ++ global_names v) (flat_map (λ f. map (λ d. d.name) (defined f)) v.functions) ∙ rw (outer, inner) refl

-- ---- the whole

-- all that stands but its names
record Nearly (v : ModuleV) : Type 0 where
  types : TypesStand v.types
  items : ItemsStand v.types v
  few : ItemsAreFew v

abbrev NearlyAt : ModuleV × List TokenV → Type 0
NearlyAt x = Nearly x.0

abbrev is_read : Name × Option TypeV → Bool
is_read b = is_some b.1

-- the bodies that are read one after the other are read each
bodies_each : (known : Known) (ds : List (Name × List TokenV)) (x : Unit {0} × List TokenV) → bodies_read known ds ≡ Ok x
    → list_all is_read (map (λ d. (d.0, unless_faulty (named_body_at known d.1))) ds) ≡ true
unfolding bodies_read
bodies_each known [] x e = refl
bodies_each known (d ∷ ds) x e = by_body (named_body_at known d.1) (λ f. bodies_each known ds x f) e
  where
    by_body : (o : Outcome TypeV) → (bodies_read known ds ≡ Ok x → list_all is_read (map (λ c. (c.0, unless_faulty (named_body_at known c.1))) ds) ≡ true)
        → (o >>= λ of. bodies_read known ds) ≡ Ok x → (is_some (unless_faulty o) && list_all is_read (map (λ c. (c.0, unless_faulty (named_body_at known c.1))) ds)) ≡ true
    by_body (Ok of) rest f = rest f
    by_body (Err fault) rest f = absurd cc

bodies_are_read : (ts : List TokenV) (x : Unit {0} × List TokenV) → bodies_in ts ≡ Ok x → BodiesAreRead ts
unfolding bodies_in
bodies_are_read ts x e = bodies_each (named_only (definitions ts)) (definitions ts) x e

module_is : (ts : List TokenV) → length ts < 2 ^ 32 → Gives NearlyAt (module_at (types_in ts) (bodies_in ts) (known_in ts) ts)
module_is ts short = then NearlyAt (items_at (known_in ts) ts) _ (λ items e. then NearlyAt (bodies_in ts) _ (λ bodies read. gives NearlyAt _ (
    let all = bodies_are_read ts bodies read in
    let i = all_items_stand (known_in ts) (types_in ts) ts items.1 items.0 (texts_describe ts all) e in
    let f = items_few (known_in ts) ts items.1 items.0 short e in
    record {
      types = types_stand ts;
      items = record { names = i.names; layouts = i.layouts; initialisers = i.initialisers; sizes = i.sizes; functions = i.functions };
      few = record { globals = f.globals; functions = f.functions; counts = f.counts; names = f.names };
    })))

unfaulted : (fault : Option ReadError) (x v : ModuleV) → unless_fault fault x ≡ Ok v → x ≡ v
unfaulted None x v e = cc
unfaulted (Some f) x v e = absurd cc

settled_is : (last : ℕ) (fault : Option ReadError) (o : Outcome ModuleV) (v : ModuleV) → Gives NearlyAt o → settled last fault o ≡ Ok v → Nearly v
settled_is last fault (Ok x) v g e = subst Nearly (unfaulted fault x.0 v e) (g.holds x refl)
settled_is last fault (Err (At line cause)) v g e = absurd cc
settled_is last fault (Err Ended) v g e = absurd cc

-- what is read where nothing is wrong
nothing_was : (wrong : Option Fault) (o : Outcome ModuleV) → Gives NearlyAt o → Gives NearlyAt (unless_wrong wrong o)
nothing_was None o g = g
nothing_was (Some f) o g = record { holds = λ x e. absurd cc }

read_is : (text : List ℕ) (v : ModuleV) → read_of text ≡ Ok v → length (read_tokens text) < 2 ^ 32 → Nearly v
unfolding read_of
read_is text v e short =
    let ts = read_tokens text in
    settled_is (last_line text) (lexed text).fault (unless_wrong (first_fault ts) (module_in ts)) v (nothing_was (first_fault ts) (module_in ts) (module_is ts short)) e

pub texts_stand : TextsStand
texts_stand text v e short =
    let few = read_few text in
    let fewer : length (read_tokens text) < 2 ^ 32 = omega arith in
    let n = read_is text v e fewer in
    record {
      names = all_names v (names_small text v e) (function_names v.types v.functions n.items.functions n.few.names);
      structs = n.types.structs;
      bodies = n.types.bodies;
      type_names = n.types.names;
      global_names = n.items.names;
      layouts = n.items.layouts;
      initialisers = n.items.initialisers;
      sizes = n.items.sizes;
      globals = n.few.globals;
      function_count = n.few.functions;
      functions = all_stand v.types v.functions n.items.functions n.few.counts;
      constants = constants_all v.types v.functions n.items.functions;
    }
