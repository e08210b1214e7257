-- The memory in which a checked program starts has the globals of its module, and its run keeps them.
use Rattle.std.proofs.Common.{◌≡◌, ◌∙◌, ◌+◌, ◌≤◌, ◌==◌, ℕ, zero, suc, List, [], ◌∷◌, length, map, Option, Some, None, Bool, true, false, refl, sym, ap, subst, arith, slice_get, if◌then◌else◌, inl, inr}
use Rattle.std.specs.Prelude.{is_some}
use Rattle.std.specs.Option.{option_map, option_map_or}
use Rattle.std.proofs.lemmas.Bool.Decides.{eqb_tells}
use Rattle.std.proofs.lemmas.List.Elements.{All-from_recursion}
use Rattle.std.proofs.lemmas.Option.{slice_get-map}
use Rattle.pv_base.specs.Outside.{Text}
use Rattle.ir_tree.specs.declared.items.Global.{Global as Variable}
use Rattle.ir_tree.specs.declared.layout.Layout.{Layout}
use Rattle.ir_tree.specs.Layouts.{layout_of}
use Rattle.ir_tree.specs.Modules.{Items, types_of}
use Rattle.ir_tree.specs.Naming.{type_at, constant_at}
use Rattle.ir_tree.specs.Shown.{shown_global}
use Rattle.ir_rules.specs.Checked.{IsChecked}
use Rattle.ir_rules.specs.Seen.{GlobalV, seen}
use Rattle.ir_rules.specs.Causes.{initialiser_fits}
use Rattle.ir_rules.specs.Reading.{has_layout}
use Rattle.ir_code.specs.Coding.{code_of}
use Rattle.ir_bytes.specs.Initial.{bytes_at, size_in, global_object, global_objects, first_picture, GlobalsFit}
use Rattle.ir_bytes.proofs.Globals.{bytes_parts}
use Rattle.mem_image.specs.declared.object.Object.{Object}
use Rattle.mem_image.specs.declared.object.Kind.TheVariants as kind
use Rattle.mem_image.specs.Picture.{Picture, IsPicture, PartFits, Rising, find, bytes_of, name_limit}
use Rattle.mem_image.specs.Picture.{bytes_at as bytes_in}
use Rattle.checked_code.proofs.Faults.{global_fits}
use Rattle.checked_code.proofs.Fitting.{globals_fit}
use Rattle.seq_machine.specs.declared.state.GlobalBytes.{GlobalBytes}
use Rattle.seq_machine.specs.Step.{steps_from}
use Rattle.seq_run.specs.First.{first_frames, first_state}
use Rattle.seq_run.specs.Outcomes.{global_bytes, outcome_of_run}
use Rattle.seq_run.proofs.Firsts.{first_own}
use Rattle.global_laws.specs.Globals.{KeepsGlobals}
use Rattle.global_laws.specs.Programs.{HasGlobals, IsOfGlobal}
use Rattle.global_laws.specs.Laws.{IsOwned}
use Rattle.global_laws.proofs.Shapes.{same_shape}
use Rattle.global_laws.specs.Filled.{IsFound}
use Rattle.global_laws.proofs.Runs.{run_keeps_globals}
use Rattle.global_laws.proofs.Filled.{initialisers_fill}
use Rattle.global_laws.proofs.Found.{all_at, initialisers_are_found}

-- ---- the first memory

rising_globals : (m : Items) (i n : ℕ) (gs : List (Variable ℕ ℕ ℕ)) → i + length gs ≤ n → Rising i (global_objects m i gs) n
rising_globals m i n [] le = tt
rising_globals m i n (g ∷ gs) le = (omega arith, omega arith, All-from_recursion PartFits (bytes_at m g.of g.init) (bytes_parts m (type_at m.names g.of) (constant_at m.names g.init)), rising_globals m (i + 1) n gs (omega arith))

first_is : (m : Items) → GlobalsFit m → IsPicture (first_picture m)
first_is m fit = record { rising = rising_globals m 0 (length m.globals) m.globals (omega arith); live = fit.live; names = fit.names }

all_globals : (m : Items) (i : ℕ) (gs : List (Variable ℕ ℕ ℕ)) (name : ℕ) (o : Object) → find name (global_objects m i gs) ≡ Some o → o.kind ≡ kind.Global
all_globals m i [] name o e = absurd (cc)
all_globals m i (g ∷ gs) name o e = (elim (name == i) as (λ b. (if b then Some (global_object m i g) else find name (global_objects m (i + 1) gs)) ≡ Some o → o.kind ≡ kind.Global) [
  | true ↦ λ f. (let s : global_object m i g ≡ o = cc in ap (λ (x : Object). x.kind) (sym s))
  | false ↦ λ f. all_globals m (i + 1) gs name o f
]) e

first_keeps : (m : Items) → KeepsGlobals (first_picture m) (first_picture m)
first_keeps m = record {
  kept = λ name o f g. (o, f, same_shape o);
  only = λ name i p f s. (p, f, all_globals m 0 m.globals name p f, same_shape p);
}

global_found : (m : Items) (i k name : ℕ) (gs : List (Variable ℕ ℕ ℕ)) (g : Variable ℕ ℕ ℕ) → name ≡ i + k → slice_get gs k ≡ Some g → find name (global_objects m i gs) ≡ Some (global_object m name g)
global_found m i k name [] g at e = absurd (cc)
global_found m i zero name (x ∷ gs) g at e =
    let here : i ≡ name = omega arith in
    let same : x ≡ g = cc in
    elim (eqb_tells name i) [
      | inl q ↦ rw q.0 (subst (λ (j : ℕ). Some (global_object m i x) ≡ Some (global_object m j g)) here (ap (λ (y : Variable ℕ ℕ ℕ). Some (global_object m i y)) same))
      | inr q ↦ absurd (q.1 (sym here))
    ]
global_found m i (suc k) name (x ∷ gs) g at e = elim (eqb_tells name i) [
  | inl q ↦ absurd (omega (arith, q.1))
  | inr q ↦ rw q.0 (global_found m (i + 1) k name gs g (omega arith) e)
]

first_has : (m : Items) (k : ℕ) (g : Variable ℕ ℕ ℕ) → slice_get m.globals k ≡ Some g → find k (first_picture m).objects ≡ Some (global_object m k g)
first_has m k g e = global_found m 0 k k m.globals g (omega arith) e

-- ---- the run

first_owned : (m : Items) → GlobalsFit m → IsOwned (first_state m)
first_owned m fit = record { memory = first_is m fit; own = first_own (code_of m) (first_frames (code_of m) (code_of m).main) (first_picture m) refl }

pub program_keeps_globals : (m : Items) (input : Text) (n : ℕ) → length m.globals ≤ name_limit → IsChecked m → KeepsGlobals (first_picture m) (steps_from (code_of m) input (first_state m) n).1.memory
program_keeps_globals m input n few checked = run_keeps_globals (code_of m) input n (first_picture m) (first_state m) (first_owned m (globals_fit m few checked)) (first_keeps m)

pub program_has_globals : (m : Items) (input : Text) (n : ℕ) → length m.globals ≤ name_limit → IsChecked m → HasGlobals m (steps_from (code_of m) input (first_state m) n).1.memory
program_has_globals m input n few checked = λ k g e. (program_keeps_globals m input n few checked).kept k (global_object m k g) (first_has m k g e) refl

-- ---- what it leaves

-- an entry is of the global of its number
record Entry (objects : List Object) (i : ℕ) (gs : List (Variable ℕ ℕ ℕ)) (e : GlobalBytes) : Type 0 where
  place : ℕ
  global : Variable ℕ ℕ ℕ
  there : slice_get gs place ≡ Some global
  changes : global.constant ≡ false
  number : e.global ≡ i + place
  bytes : e.bytes ≡ bytes_in e.global objects

behind : (objects : List Object) (i : ℕ) (g : Variable ℕ ℕ ℕ) (gs : List (Variable ℕ ℕ ℕ)) (e : GlobalBytes) → Entry objects (i + 1) gs e → Entry objects i (g ∷ gs) e
behind objects i g gs e x = record { place = suc x.place; global = x.global; there = x.there; changes = x.changes; number = (let n = x.number in omega arith); bytes = x.bytes }

entry : (objects : List Object) (i : ℕ) (gs : List (Variable ℕ ℕ ℕ)) (k : ℕ) (e : GlobalBytes) → slice_get (global_bytes objects i gs) k ≡ Some e → Entry objects i gs e
entry objects i [] k e q = absurd (cc)
entry objects i (g ∷ gs) k e q = go (λ j f. entry objects (i + 1) gs j e f) g.constant refl k q
  where
    go : ((j : ℕ) → slice_get (global_bytes objects (i + 1) gs) j ≡ Some e → Entry objects (i + 1) gs e) → (b : Bool) → g.constant ≡ b → (j : ℕ)
        → slice_get (if b then global_bytes objects (i + 1) gs else record { global = i; bytes = bytes_in i objects } ∷ global_bytes objects (i + 1) gs) j ≡ Some e → Entry objects i (g ∷ gs) e
    go again true c j f = behind objects i g gs e (again j f)
    go again false c zero f =
        let s : (let x : GlobalBytes = record { global = i; bytes = bytes_in i objects } in x) ≡ e = cc in
        let here : i + 0 ≡ i = omega arith in
        subst (λ (x : GlobalBytes). Entry objects i (g ∷ gs) x) s (record { place = 0; global = g; there = refl; changes = c; number = sym here; bytes = refl })
    go again false c (suc j) f = behind objects i g gs e (again j f)

shown_at : (m : Items) (k : ℕ) (g : Variable ℕ ℕ ℕ) → slice_get m.globals k ≡ Some g → slice_get (map (shown_global m.names) m.globals) k ≡ Some (shown_global m.names g)
shown_at m k g e = slice_get-map (shown_global m.names) m.globals k ∙ ap (option_map (shown_global m.names)) e

sized_by : (m : Items) (g : Variable ℕ ℕ ℕ) (o : Option Layout) → layout_of (types_of m) (type_at m.names g.of) ≡ o → is_some o ≡ true → initialiser_fits (seen m) (shown_global m.names g) ≡ true
    → IsFound m (constant_at m.names g.init) → length (bytes_at m g.of g.init) ≡ option_map_or (λ (l : Layout). l.size) o 0
sized_by m g None e some fits found = absurd (cc)
sized_by m g (Some l) e some fits found = initialisers_fill m (type_at m.names g.of) (constant_at m.names g.init) l fits e found

-- the first bytes of a global are as many as its type says
fills_type : (m : Items) (k : ℕ) (g : Variable ℕ ℕ ℕ) → IsChecked m → slice_get m.globals k ≡ Some g → length (bytes_at m g.of g.init) ≡ size_in m (type_at m.names g.of)
fills_type m k g checked e =
    let there = shown_at m k g e in
    let laid = all_at (λ (v : GlobalV). has_layout (types_of m) v.of) (map (shown_global m.names) m.globals) k (shown_global m.names g) checked.well_formed.stands.layouts there in
    sized_by m g (layout_of (types_of m) (type_at m.names g.of)) refl laid (global_fits (seen m) checked.faultless k (shown_global m.names g) there) (initialisers_are_found m checked k g e)

entry_is : (m : Items) (later : Picture) (e : GlobalBytes) → IsChecked m → HasGlobals m later → Entry later.objects 0 m.globals e → IsOfGlobal m e
entry_is m later e checked has x =
    let number : e.global ≡ x.place = (let n = x.number in omega arith) in
    let o = has x.place x.global x.there in
    let same : length e.bytes ≡ length (bytes_at m x.global.of x.global.init) =
    ap length x.bytes ∙ ap (λ (k : ℕ). length (bytes_in k later.objects)) number ∙ ap (λ (y : Option Object). length (bytes_of y)) o.1 ∙ o.2.size in
    record {
      global = x.global;
      there = ap (slice_get m.globals) number ∙ x.there;
      changes = x.changes;
      size = same ∙ fills_type m x.place x.global checked x.there;
    }

pub outcome_has_globals : (m : Items) (input : Text) (n : ℕ) → length m.globals ≤ name_limit → IsChecked m → (k : ℕ) (e : GlobalBytes) → slice_get (outcome_of_run m input n).globals k ≡ Some e → IsOfGlobal m e
outcome_has_globals m input n few checked k e q =
    let later = (steps_from (code_of m) input (first_state m) n).1.memory in
    entry_is m later e checked (program_has_globals m input n few checked) (entry later.objects 0 m.globals k e q)
