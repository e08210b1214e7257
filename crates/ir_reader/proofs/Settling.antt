-- What a whole text gives, from its tokens.
use Rattle.std.proofs.Common.{◌≡◌, ℕ, List, map, All, Option, Some, None, Result, Ok, Err, refl, sym, ap, ◌∙◌}
use Rattle.std.specs.Prelude.{IfOk, [], unwrap_or}
use Rattle.std.proofs.lemmas.List.Elements.{All-weaker}
use Rattle.pv_base.specs.declared.name.Name.{Name}
use Rattle.ir_lex.specs.declared.token.Token.{Token}
use Rattle.ir_lex.specs.declared.token.Lexed.{Lexed}
use Rattle.ir_lex.specs.Lexing.{lexed}
use Rattle.ir_tree.specs.declared.items.NamedType.{NamedType}
use Rattle.ir_tree.specs.Modules.{Items}
use Rattle.ir_tree.specs.Staying.{StaysSame}
use Rattle.ir_tree.specs.Table.{Table}
use Rattle.ir_tree.specs.Trees.{TypeV}
use Rattle.ir_tree.specs.Naming.{Grows}
use Rattle.ir_tree.specs.Filling.{NamedWithin, named_types}
use Rattle.ir_tree.specs.Shown.{shown_global, shown_function}
use Rattle.ir_tree.proofs.Showing.{name_within_more, type_within_more}
use Rattle.ir_text.specs.Tokens.{TokenV, tokens_of}
use Rattle.ir_text.specs.declared.fault.Fault.{Fault}
use Rattle.ir_text.specs.declared.fault.ReadEnd.{ReadEnd}
use Rattle.ir_text.specs.declared.fault.ReadEnd.TheVariants as ends
use Rattle.ir_text.specs.Reading.{Outcome, Fails}
use Rattle.ir_text.specs.Types.{Known}
use Rattle.ir_grammar.specs.Modules.{ModuleV, Item, SoFar, nothing_so_far, shown_module}
use Rattle.ir_grammar.specs.Items.{items_at}
use Rattle.ir_grammar.specs.NamedTypes.{definitions, bodies_read}
use Rattle.ir_grammar.specs.Texts.{last_line, settled, wrong_among, first_wrong, unless_wrong, first_fault, module_at, module_in, without_records, read_tokens, read_of}
use Rattle.ir_reader.specs.declared.so_far.SoFar.{SoFar as Read}
use Rattle.ir_reader.specs.declared.named.TextTypes.{TextTypes}
use Rattle.ir_reader.specs.Answering.{IsRead}
use Rattle.ir_reader.specs.Gathered.{gathered, so_far_at, IsWhole}
use Rattle.ir_reader.specs.Knowing.{fault_in}
use Rattle.ir_reader.proofs.Faults.{items_same, items_sound, items_faulty, ends_with, is_read, body_faulty}
use Rattle.ir_reader.proofs.ItemTurns.{module_gathered, module_unsound, module_ends}

-- the fault that a call answered
pub faulty_is : {Y : Type 0} (e : ReadEnd) (f : Fault) (read : Outcome Y) → e ≡ ends.Bad f → Fails e read → read ≡ Err f
faulty_is e f read is h = rw is at h

-- a module by number, as it is shown
pub read_as : (read : Outcome ModuleV) (t : Table) (types : List (NamedType Name TypeV)) (ns : List (NamedType ℕ ℕ)) (s : Read) (x : Items) (rest : List TokenV) → x ≡ record { names = t; types = ns; globals = s.globals; functions = s.functions }
    → named_types t ns ≡ types → read ≡ Ok (record (so_far_at t s).module_so_far { types = types }, rest) → read ≡ Ok (shown_module x, rest)
read_as read t types ns s x rest is shown h = rw (is, shown) h

-- the module of a text, by what was read of its items and of the bodies of its definitions
module _ (types : List (NamedType Name TypeV)) (only of all : Known) (same : of ≡ all) (us ts : List TokenV) (are : us ≡ ts) where
  abbrev bodies : Outcome (Unit {0})
  bodies = bodies_read only (definitions ts)

  abbrev whole : Outcome ModuleV
  whole = module_at types bodies all ts

  abbrev first : Option Fault
  first = first_wrong (wrong_among only all) [] ts

  items_are : gathered nothing_so_far (items_at of us) ≡ gathered nothing_so_far (items_at all ts)
  items_are = ap (λ (o : Outcome (List Item)). gathered nothing_so_far o) (items_same of all same us ts are)

  pub whole_ends : (item f : Fault) → gathered nothing_so_far (items_at of us) ≡ Err item → (items_at all ts ≡ Err item → f ≡ unwrap_or first item) → unless_wrong first whole ≡ Err f
  whole_ends item f h is =
      let e : items_at all ts ≡ Err item = items_faulty of all same us ts are nothing_so_far item h in
      ends_with only all ts whole item f (module_ends types bodies item (items_at all ts) e) (is e)

  pub whole_faulty : (f : Fault) (s : SoFar) (rest : List TokenV) → fault_in bodies ≡ Some f → gathered nothing_so_far (items_at of us) ≡ Ok (s, rest) → unless_wrong first whole ≡ Err f
  whole_faulty f s rest some h =
      body_faulty only all ts whole f (items_sound of all same us ts are nothing_so_far s rest h) some (module_unsound types bodies f (items_at all ts) s rest some (sym items_are ∙ h))

  pub whole_read : (s : SoFar) (rest : List TokenV) → fault_in bodies ≡ None → gathered nothing_so_far (items_at of us) ≡ Ok (s, rest) → unless_wrong first whole ≡ Ok (record s.module_so_far { types = types }, rest)
  whole_read s rest none h =
      is_read only all ts whole (record s.module_so_far { types = types }, rest) (items_sound of all same us ts are nothing_so_far s rest h) none (module_gathered types bodies (items_at all ts) s rest none (sym items_are ∙ h))

  pub whole_is : (table : Table) (named : TextTypes) (s : Read) (rest : List TokenV) (r : Result Items ReadEnd) → named_types table named.types ≡ types → gathered nothing_so_far (items_at of us) ≡ Ok (so_far_at table s, rest)
      → IsWhole table named s (fault_in bodies) r → IsRead r (unless_wrong first whole)
  whole_is table named s rest (Ok m) shown h is = (rest, read_as (unless_wrong first whole) table types named.types s m rest is.1 shown (whole_read (so_far_at table s) rest is.0 h))
  whole_is table named s rest (Err ends.Memory) shown h is = tt
  whole_is table named s rest (Err (ends.Bad f)) shown h is = whole_faulty f (so_far_at table s) rest is h

pub whole_stays : (table : Table) (named : TextTypes) (s : Read) (fault : Option Fault) (r : Result Items ReadEnd) → StaysSame (record { names = table; types = named.types; globals = s.globals; functions = s.functions }) → IsWhole table named s fault r → IfOk r StaysSame
whole_stays table named s fault (Ok m) stays is = rw is.1 stays
whole_stays table named s fault (Err e) stays is = tt

-- what is read under every later table is the same
read_same : (x y : SoFar × List TokenV) → (let r : Outcome SoFar = Ok x in r) ≡ Ok y → x ≡ y
read_same x y e = cc

pub so_far_same : (k j all : Known) (a b : SoFar) (ts rest : List TokenV) → k ≡ all → j ≡ all → gathered nothing_so_far (items_at k ts) ≡ Ok (a, rest) → gathered nothing_so_far (items_at j ts) ≡ Ok (b, rest) → a ≡ b
so_far_same k j all a b ts rest is same h i =
    let known : k ≡ j = is ∙ sym same in
    let both : (let r : Outcome SoFar = Ok (a, rest) in r) ≡ Ok (b, rest) = sym h ∙ ap (λ (x : Known). gathered nothing_so_far (items_at x ts)) known ∙ i in
    ap (λ (x : SoFar × List TokenV). x.0) (read_same (a, rest) (b, rest) both)

pub module_same : (t later : Table) (types : List (NamedType ℕ ℕ)) (read : Read) → named_types later types ≡ named_types t types → so_far_at later read ≡ so_far_at t read
    → shown_module (record { names = later; types = types; globals = read.globals; functions = read.functions }) ≡ shown_module (record { names = t; types = types; globals = read.globals; functions = read.functions })
module_same t later types read same e =
    let globals : map (shown_global later) read.globals ≡ map (shown_global t) read.globals = ap (λ (s : SoFar). s.module_so_far.globals) e in
    let functions : map (shown_function later) read.functions ≡ map (shown_function t) read.functions = ap (λ (s : SoFar). s.module_so_far.functions) e in
    rw (same, globals, functions) refl

pub kept_ok : {A E F : Type 0} (P : A → Type 0) (read : Result A E) (result : Result A F) → IfOk result (λ a. read ≡ Ok a) → IfOk read P → IfOk result P
kept_ok P read (Ok a) is h = rw is at h
kept_ok P read (Err e) is h = tt

-- the numbers of named types, as the table grows
pub types_kept : (a b : Table) (ns : List (NamedType ℕ ℕ)) → Grows a b → All (NamedWithin a) ns → All (NamedWithin b) ns
types_kept a b ns grows are = All-weaker (NamedWithin a) (NamedWithin b) (λ n is. record { name = name_within_more a b n.name grows is.name; of = type_within_more a b n.of grows is.of }) ns are

pub read_is : (text : List ℕ) (x : Lexed) (kept : List Token) → x ≡ lexed text → kept ≡ without_records text x.tokens
    → read_of text ≡ settled (last_line text) x.fault (unless_wrong (first_fault (tokens_of text kept)) (module_in (tokens_of text kept)))
unfolding read_of read_tokens
read_is text x kept e f = rw (f, e) refl
