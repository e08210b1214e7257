-- The named types of a whole text, as they are found.
use Rattle.std.proofs.Common.{◌≡◌, ℕ, ◌<◌, Bool, ◌+◌, true, false, cond, List, [], ◌∷◌, ◌++◌, Ok, Err, map, take, length, get_or, Option, Some, None, slice_get, refl, sym, ap, ◌∙◌, All, append_assoc, arith}
use Rattle.std.specs.Prelude.{◌&&◌, fold, IfSome, option_map, option_and_then}
use Rattle.std.specs.Map.{lookup}
use Rattle.std.specs.Option.{option_or}
use Rattle.std.specs.List.{AllByRecursion}
use Rattle.std.proofs.lemmas.List.Sums.{fold_push}
use Rattle.std.proofs.lemmas.List.{append-nil, map_push, take_more}
use Rattle.std.proofs.lemmas.List.Elements.{recursion_from_All, All-map, All-push, All-weaker}
use Rattle.std.proofs.lemmas.Option.{get_or_from_slice_get, slice_get_within, slice_get-get_or}
use mathlib.Core.Path.{fun_ext}
use Rattle.pv_base.specs.declared.name.Name.{Name}
use Rattle.pv_base.specs.declared.name.Name.TheVariants.{Numbered}
use Rattle.ir_tree.specs.declared.layout.Layout.{Layout}
use Rattle.ir_tree.specs.declared.items.NamedType.{NamedType}
use Rattle.ir_tree.specs.Filling.{answer_at, named_types, NamedWithin, AreLayouts}
use Rattle.ir_tree.specs.Layouts.{layout_of}
use Rattle.ir_tree.specs.Naming.{Grows, Shows, name_at, type_at}
use Rattle.ir_tree.specs.Shown.{shown_named}
use Rattle.ir_tree.specs.Table.{Table, IsTable, same_name, name_among}
use Rattle.ir_tree.specs.Trees.{TypeV, NamedV}
use Rattle.ir_tree.proofs.Showing.{grows_then, type_within_more, name_within_more}
use Rattle.ir_text.specs.declared.fault.Fault.{Fault}
use Rattle.ir_text.specs.declared.named.NamedBody.{NamedBody}
use Rattle.ir_text.specs.Tokens.{TokenV}
use Rattle.ir_text.specs.Operands.{is_local}
use Rattle.ir_text.specs.Reading.{Outcome, ◌>>=◌}
use Rattle.ir_text.specs.Named.{body_in, body_of, known_of}
use Rattle.ir_text.specs.Types.{Body, Known}
use Rattle.ir_text.proofs.Later.{named_later}
use Rattle.ir_instr.specs.Defined.{AreNames, AreTypes, number_among, with_number}
use Rattle.ir_instr.proofs.Kept.{same_table}
use Rattle.ir_reader.proofs.Naming.{among_later}
use Rattle.ir_grammar.specs.Items.{named_body_at}
use Rattle.ir_grammar.specs.NamedTypes as spec
use Rattle.ir_grammar.proofs.NamedLemmas.{same_is}
use Rattle.ir_grammar.specs.NamedTypes.{says_type, definitions, unread_body, named_only, unless_faulty, laid_body, laid_types, types_by, known_by, bodies_of, bodies_read, types_in, known_in}
use Rattle.ir_reader.specs.declared.named.DefinedType.{DefinedType}
use Rattle.ir_reader.specs.Knowing.{definition_at, read_bodies, fault_in, shown_defined, IsDefined, named_type, with_type, first_types, entry_of}

-- ---- definitions, one by one

some_by : (b : Bool) (x d : Name × List TokenV) (all : List (Name × List TokenV)) → cond b (Some x) None ≡ Some d → cond b (x ∷ all) all ≡ d ∷ all
some_by true x d all e = let same : x ≡ d = cc in rw same refl
some_by false x d all e = absurd cc

none_by : (b : Bool) (x : Name × List TokenV) (all : List (Name × List TokenV)) → cond b (Some x) None ≡ None → cond b (x ∷ all) all ≡ all
none_by true x all e = absurd cc
none_by false x all e = refl

pub defined_here : (t : TokenV) (rest : List TokenV) (d : Name × List TokenV) → definition_at (t ∷ rest) ≡ Some d → definitions (t ∷ rest) ≡ d ∷ definitions rest
unfolding definition_at definitions
defined_here t rest d e = some_by (is_local t && says_type rest) _ d (definitions rest) e

pub defined_later_on : (t : TokenV) (rest : List TokenV) → definition_at (t ∷ rest) ≡ None → definitions (t ∷ rest) ≡ definitions rest
unfolding definition_at definitions
defined_later_on t rest e = none_by (is_local t && says_type rest) _ (definitions rest) e

pub definition_is : (ts old new : List TokenV) (o : Option Name) (name : Name) → old ≡ ts → option_map (λ n. (n, new)) o ≡ definition_at old → o ≡ Some name → definition_at ts ≡ Some (name, new)
definition_is ts old new o name is at some = rw (← is, ← at, some) refl

pub no_definition : (ts old new : List TokenV) (o : Option Name) → old ≡ ts → option_map (λ n. (n, new)) o ≡ definition_at old → o ≡ None → definition_at ts ≡ None
no_definition ts old new o is at none = rw (← is, ← at, none) refl

-- ---- names alone

abbrev pub unread_of : List TokenV → NamedBody
unread_of ts = record { of = None; layout = None }

-- what the names before `= type` say of one
abbrev pub said : List TokenV → Name → Option NamedBody
said ts q = option_map unread_of (lookup (same_name q) (definitions ts))

or_step : (o : Option NamedBody) (b : Bool) (us : List TokenV) (others : Option (List TokenV)) → option_or (option_or o (cond b (Some (unread_of us)) None)) (option_map unread_of others) ≡ option_or o (option_map unread_of (cond b (Some us) others))
or_step (Some x) b us others = refl
or_step None true us others = refl
or_step None false us others = refl

-- a name that is new, before the others
pub said_here : (ts rest : List TokenV) (t : TokenV) (name : Name) (us : List TokenV) (old new : List (Name × NamedBody)) → ts ≡ t ∷ rest → definition_at ts ≡ Some (name, us)
    → ((q : Name) → body_in new q ≡ option_or (body_in old q) (cond (same_name q name) (Some (unread_of us)) None)) → (q : Name) → option_or (body_in new q) (said rest q) ≡ option_or (body_in old q) (said ts q)
said_here ts rest t name us old new is e known q =
    let all : definitions ts ≡ (name, us) ∷ definitions rest = rw is (defined_here t rest (name, us) (rw is at e)) in
    rw (known q, all) (or_step (body_in old q) (same_name q name) us (lookup (same_name q) (definitions rest)))

pub said_later_on : (ts rest : List TokenV) (t : TokenV) → ts ≡ t ∷ rest → definition_at ts ≡ None → (q : Name) → said rest q ≡ said ts q
said_later_on ts rest t is e q =
    let all : definitions ts ≡ definitions rest = rw is (defined_later_on t rest (rw is at e)) in
    rw all refl

or_none : (o : Option NamedBody) → option_or o None ≡ o
or_none (Some x) = refl
or_none None = refl

none_said : (ts : List TokenV) → ts ≡ [] → (q : Name) → said ts q ≡ None
unfolding definitions
none_said ts is q = rw is refl

unread_is : (later : Table) (o : Option (List TokenV)) → option_map (body_of later) (option_map unread_of o) ≡ option_map unread_body o
unread_is later None = refl
unread_is later (Some us) = refl

-- the names alone, at the end of the tokens
pub names_known : (later : Table) (ts rest : List TokenV) (k : List (Name × NamedBody)) → rest ≡ [] → ((q : Name) → option_or (body_in k q) (said rest q) ≡ said ts q) → known_of later k ≡ named_only (definitions ts)
names_known later ts rest k over all = fun_ext (λ q.
    let here : body_in k q ≡ said ts q = sym (or_none (body_in k q)) ∙ ap (option_or (body_in k q)) (sym (none_said rest over q)) ∙ all q in
    ap (option_map (body_of later)) here ∙ unread_is later (lookup (same_name q) (definitions ts)))

-- ---- as the table grows

some_within : (a b : Table) → Grows a b → (o : Option ℕ) → IfSome o (λ k. k < length a.types) → IfSome o (λ k. k < length b.types)
some_within a b grows None is = tt
some_within a b grows (Some k) is = type_within_more a b k grows is

shows_later : (a b : Table) (k : ℕ) (type : Table → TypeV) → Grows a b → Shows a k type → Shows b k type
shows_later a b k type grows shows = record {
  within = type_within_more a b k grows shows.within;
  from = λ later g. shows.from later (grows_then a b later grows g);
}

pub defined_kept : (a b : Table) (d : DefinedType) → Grows a b → IsDefined a d → IsDefined b d
defined_kept a b d grows is = record {
  name = name_within_more a b d.name grows is.name;
  of = some_within a b grows d.of is.of;
  laid = shows_later a b d.laid _ grows is.laid;
  named = shows_later a b d.named _ grows is.named;
}

pub all_kept : (a b : Table) (all : List DefinedType) → Grows a b → All (IsDefined a) all → All (IsDefined b) all
all_kept a b all grows are = All-weaker (IsDefined a) (IsDefined b) (λ d is. defined_kept a b d grows is) all are

-- what was added for one name
pub defined_is : (a b e f : Table) (k : ℕ) (of : Option ℕ) (laid named : ℕ) (name : Name) → slice_get a.names k ≡ Some name → Grows a b → IfSome of (λ j. j < length b.types) → Grows b e → Shows e laid (λ later. laid_body (option_map (type_at later) of)) → Grows e f
    → Shows f named (λ later. NamedV (name_at later k)) → IsDefined f (record { name = k; of = of; laid = laid; named = named })
defined_is a b e f k of laid named name known p within q laid_is r named_is = record {
  name = name_within_more a f k (grows_then a b f p (grows_then b e f q r)) (slice_get_within a.names k name known);
  of = some_within b f (grows_then b e f q r) of within;
  laid = shows_later e f laid _ r laid_is;
  named = named_is;
}

pub shown_is : (later : Table) (k : ℕ) (of : Option ℕ) (name : Name) (body : Option TypeV) → name_at later k ≡ name → option_map (type_at later) of ≡ body → (let p : Name × Option TypeV = (name_at later k, option_map (type_at later) of) in p) ≡ (name, body)
shown_is later k of name body p q = rw (p, q) refl

pub name_shown : (a later : Table) (k : ℕ) (name : Name) → slice_get a.names k ≡ Some name → Grows a later → name_at later k ≡ name
name_shown a later k name known grows = named_later a later k name known grows

all_within : (t : Table) (all : List DefinedType) → All (IsDefined t) all → All (NamedWithin t) (map named_type all)
all_within t all are = All-map (NamedWithin t) named_type all (All-weaker (IsDefined t) (λ d. NamedWithin t (named_type d)) (λ d is. record { name = is.name; of = is.laid.within }) all are)

-- ---- the bodies, one by one

pub body_here : (later : Table) (known : Known) (ts rest : List TokenV) (t : TokenV) (name : Name) (us : List TokenV) (found new : List DefinedType) (d : DefinedType) (whole : List (Name × Option TypeV)) → new ≡ found ++ d ∷ [] → ts ≡ t ∷ rest → definition_at ts ≡ Some (name, us)
    → shown_defined later d ≡ (name, unless_faulty (named_body_at known us)) → map (shown_defined later) found ++ read_bodies known (definitions ts) ≡ whole → map (shown_defined later) new ++ read_bodies known (definitions rest) ≡ whole
body_here later known ts rest t name us found new d whole more is e one so_far =
    let all : definitions ts ≡ (name, us) ∷ definitions rest = rw is (defined_here t rest (name, us) (rw is at e)) in
    let first : shown_defined later d ∷ read_bodies known (definitions rest) ≡ read_bodies known (definitions ts) = rw all (ap (λ (x : Name × Option TypeV). x ∷ read_bodies known (definitions rest)) one) in
    rw (more, map_push (shown_defined later) found d) (append_assoc (map (shown_defined later) found) (shown_defined later d ∷ []) (read_bodies known (definitions rest)) ∙ ap (λ (xs : List (Name × Option TypeV)). map (shown_defined later) found ++ xs) first ∙ so_far)

pub body_later_on : (known : Known) (ts rest : List TokenV) (t : TokenV) → ts ≡ t ∷ rest → definition_at ts ≡ None → read_bodies known (definitions rest) ≡ read_bodies known (definitions ts)
body_later_on known ts rest t is e =
    let all : definitions ts ≡ definitions rest = rw is (defined_later_on t rest (rw is at e)) in
    rw all refl

no_bodies : (known : Known) (ts : List TokenV) → ts ≡ [] → read_bodies known (definitions ts) ≡ []
unfolding definitions
no_bodies known ts is = rw is refl

pub all_read : (known : Known) (ts : List TokenV) (front whole : List (Name × Option TypeV)) → ts ≡ [] → front ++ read_bodies known (definitions ts) ≡ whole → front ≡ whole
all_read known ts front whole over so_far = sym (append-nil front) ∙ ap (λ (xs : List (Name × Option TypeV)). front ++ xs) (sym (no_bodies known ts over)) ∙ so_far

-- ---- the first of each name

lookup_if : (b : Bool) (x : NamedBody) (rest last : Option NamedBody) (all : Option NamedBody) → all ≡ option_or rest last → cond b (Some x) all ≡ option_or (cond b (Some x) rest) last
lookup_if true x rest last all e = refl
lookup_if false x rest last all e = e

pub lookup_push : (test : Name → Bool) (es : List (Name × NamedBody)) (e : Name × NamedBody) → lookup test (es ++ e ∷ []) ≡ option_or (lookup test es) (cond (test e.0) (Some e.1) None)
lookup_push test [] e = refl
lookup_push test (x ∷ es) e = lookup_if (test x.0) x.1 (lookup test es) (cond (test e.0) (Some e.1) None) (lookup test (es ++ e ∷ [])) (lookup_push test es e)

-- what is said of one more
pub entry_more : (f : DefinedType → Name × NamedBody) (all : List DefinedType) (i : ℕ) (d : DefinedType) (old new : List (Name × NamedBody)) (q : Name) → i < length all → body_in old q ≡ lookup (same_name q) (map f (take i all))
    → body_in new q ≡ option_or (body_in old q) (cond (same_name q (f (get_or all i d)).0) (Some (f (get_or all i d)).1) None) → body_in new q ≡ lookup (same_name q) (map f (take (i + 1) all))
entry_more f all i d old new q lt so_far e =
    let x = f (get_or all i d) in
    let last : Option NamedBody = cond (same_name q x.0) (Some x.1) None in
    rw (take_more all i d lt, map_push f (take i all) (get_or all i d)) (e ∙ ap (λ (o : Option NamedBody). option_or o last) so_far ∙ sym (lookup_push (same_name q) (map f (take i all)) x))

-- ---- the types, each with the first body of its name

type_names : (later : Table) (ns : List (NamedType ℕ ℕ)) → map (λ n. n.name) (named_types later ns) ≡ map (name_at later) (map (λ n. n.name) ns)
type_names later [] = refl
type_names later (n ∷ ns) = ap (λ (names : List Name). name_at later n.name ∷ names) (type_names later ns)

-- what the types of one more name are
pub names_more : (seen new : List ℕ) (types more : List (NamedType ℕ ℕ)) (n : NamedType ℕ ℕ) → seen ≡ map (λ t. t.name) types → number_among n.name seen ≡ false → more ≡ types ++ n ∷ [] → new ≡ with_number seen n.name → new ≡ map (λ t. t.name) more
names_more seen new types more n is fresh e f = rw (e, map_push (λ (t : NamedType ℕ ℕ). t.name) types n, ← is) (f ∙ rw fresh refl)

pub type_more : (seen : List ℕ) (types more : List (NamedType ℕ ℕ)) (n : NamedType ℕ ℕ) → seen ≡ map (λ t. t.name) types → number_among n.name seen ≡ false → more ≡ types ++ n ∷ [] → more ≡ with_type types n
type_more seen types more n is fresh e = let h : number_among n.name (map (λ (t : NamedType ℕ ℕ). t.name) types) ≡ false = rw is at fresh in rw h e

pub type_known : (seen : List ℕ) (types : List (NamedType ℕ ℕ)) (n : NamedType ℕ ℕ) → seen ≡ map (λ t. t.name) types → number_among n.name seen ≡ true → types ≡ with_type types n
type_known seen types n is old = let h : number_among n.name (map (λ (t : NamedType ℕ ℕ). t.name) types) ≡ true = rw is at old in rw h refl

-- the types of one more of a list
pub types_more : (all : List DefinedType) (i : ℕ) (d : DefinedType) (old new : List (NamedType ℕ ℕ)) → i < length all → old ≡ first_types (take i all) → new ≡ with_type old (named_type (get_or all i d)) → new ≡ first_types (take (i + 1) all)
types_more all i d old new lt so_far e =
    rw (take_more all i d lt, map_push named_type (take i all) (get_or all i d)) (e ∙ ap (λ (ns : List (NamedType ℕ ℕ)). with_type ns (named_type (get_or all i d))) so_far ∙ sym (fold_push with_type [] (map named_type (take i all)) (named_type (get_or all i d))))

module _ (t : Table) where
  type_names_within : (ns : List (NamedType ℕ ℕ)) (n : NamedType ℕ ℕ) → AreNames t (map (λ u. u.name) ns) → n.name < length t.names → AreNames t (map (λ u. u.name) (with_type ns n))
  type_names_within ns n are lt = by_test (number_among n.name (map (λ u. u.name) ns))
    where
      by_test : (b : Bool) → AreNames t (map (λ u. u.name) (cond b ns (ns ++ n ∷ [])))
      by_test true = are
      by_test false = rw (map_push (λ (u : NamedType ℕ ℕ). u.name) ns n) (All-push (λ k. k < length t.names) (map (λ u. u.name) ns) n.name are lt)

  firsts_within : (ns ds : List (NamedType ℕ ℕ)) → All (NamedWithin t) ns → AllByRecursion (NamedWithin t) ds → All (NamedWithin t) (fold with_type ns ds)
  firsts_within ns [] are rest = are
  firsts_within ns (d ∷ ds) are rest = firsts_within (with_type ns d) ds (by_test (number_among d.name (map (λ u. u.name) ns))) rest.1
    where
      by_test : (b : Bool) → All (NamedWithin t) (cond b ns (ns ++ d ∷ []))
      by_test true = are
      by_test false = All-push (NamedWithin t) ns d are rest.0

  pub types_within_table : (all : List DefinedType) → All (IsDefined t) all → All (NamedWithin t) (first_types all)
  types_within_table all are = firsts_within [] (map named_type all) (λ i d lt. absurd (omega arith)) (recursion_from_All (NamedWithin t) (map named_type all) (all_within t all are))

  module _ (later : Table) (is : IsTable t) (grows : Grows t later) where
    one_shown : (ns : List (NamedType ℕ ℕ)) (n : NamedType ℕ ℕ) → AreNames t (map (λ u. u.name) ns) → n.name < length t.names → named_types later (with_type ns n) ≡ spec.with_type (named_types later ns) (shown_named later n)
    one_shown ns n are lt = by_test (number_among n.name (map (λ u. u.name) ns)) (name_among (name_at later n.name) (map (λ u. u.name) (named_types later ns))) (ap (name_among (name_at later n.name)) (type_names later ns) ∙ among_later t later is grows (map (λ u. u.name) ns) n.name are lt)
      where
        by_test : (b c : Bool) → c ≡ b → named_types later (cond b ns (ns ++ n ∷ [])) ≡ cond c (named_types later ns) (named_types later ns ++ shown_named later n ∷ [])
        by_test true c e = rw e refl
        by_test false c e = rw e (map_push (shown_named later) ns n)

    firsts_shown : (ns ds : List (NamedType ℕ ℕ)) → AreNames t (map (λ u. u.name) ns) → AllByRecursion (NamedWithin t) ds → named_types later (fold with_type ns ds) ≡ fold spec.with_type (named_types later ns) (named_types later ds)
    firsts_shown ns [] are rest = refl
    firsts_shown ns (d ∷ ds) are rest =
        firsts_shown (with_type ns d) ds (type_names_within ns d are rest.0.name) rest.1
        ∙ ap (λ (us : List (NamedType Name TypeV)). fold spec.with_type us (named_types later ds)) (one_shown ns d are rest.0.name)

    laid_shown : (ds : List DefinedType) → AllByRecursion (IsDefined t) ds → named_types later (map named_type ds) ≡ laid_types (map (shown_defined later) ds)
    laid_shown [] are = refl
    laid_shown (d ∷ ds) are =
        let one : type_at later d.laid ≡ laid_body (option_map (type_at later) d.of) = are.0.laid.from later grows in
        rw (one, laid_shown ds are.1) refl

    -- the types by number are those of the bodies
    pub types_are : (all : List DefinedType) → All (IsDefined t) all → named_types later (first_types all) ≡ types_by (map (shown_defined later) all)
    types_are all are =
        firsts_shown [] (map named_type all) (λ i d lt. absurd (omega arith)) (recursion_from_All (NamedWithin t) (map named_type all) (all_within t all are))
        ∙ ap (fold spec.with_type []) (laid_shown all (recursion_from_All (IsDefined t) all are))

-- ---- all in one

pick : {A B C : Type 0} (f : A → C) (g : B → C) (b : Bool) (x : A) (y : B) (xs : Option A) (ys : Option B) → (b ≡ true → f x ≡ g y) → option_map f xs ≡ option_map g ys → option_map f (cond b (Some x) xs) ≡ option_map g (cond b (Some y) ys)
pick f g true x y xs ys one others = ap Some (one refl)
pick f g false x y xs ys one others = others

within_if : (n : ℕ) (b : Bool) (x : NamedBody) (rest : Option NamedBody) → IfSome x.of (λ k. k < n) → IfSome (option_and_then (λ (o : NamedBody). o.of) rest) (λ k. k < n) → IfSome (option_and_then (λ (o : NamedBody). o.of) (cond b (Some x) rest)) (λ k. k < n)
within_if n true x rest one others = one
within_if n false x rest one others = others

module _ (t : Table) (found : List (Option Layout)) where
  types_within : (ds : List DefinedType) → AllByRecursion (IsDefined t) ds → (q : Name) → IfSome (option_and_then (λ (o : NamedBody). o.of) (lookup (same_name q) (map (entry_of t found) ds))) (λ k. k < length t.types)
  types_within [] are q = tt
  types_within (d ∷ ds) are q = within_if (length t.types) (same_name q (name_at t d.name)) (entry_of t found d).1 (lookup (same_name q) (map (entry_of t found) ds)) are.0.of (types_within ds are.1 q)

  pub are_types : (all : List DefinedType) (k : List (Name × NamedBody)) → All (IsDefined t) all → ((q : Name) → body_in k q ≡ lookup (same_name q) (map (entry_of t found) all)) → AreTypes t k
  are_types all k are is q = rw (is q) (types_within all (recursion_from_All (IsDefined t) all are) q)

  module _ (all : List DefinedType) (bodies : List (Name × Option TypeV)) (are : All (IsDefined t) all) (shows : (later : Table) → Grows t later → map (shown_defined later) all ≡ bodies) (is : IsTable t) (laid : AreLayouts t (first_types all) found) where
    layout_is : (d : DefinedType) → IsDefined t d → answer_at found d.named ≡ layout_of (types_by bodies) (NamedV (name_at t d.name))
    layout_is d here =
        let types : named_types t (first_types all) ≡ types_by bodies = types_are t t is (same_table t) all are ∙ ap types_by (shows t (same_table t)) in
        laid d.named here.named.within
        ∙ ap (λ (ns : List (NamedType Name TypeV)). layout_of ns (type_at t d.named)) types
        ∙ ap (layout_of (types_by bodies)) (here.named.from t (same_table t))

    said_of : Name → Option TypeV → Body
    said_of q of = record { of = of; layout = layout_of (types_by bodies) (NamedV q) }

    module _ (later : Table) (grows : Grows t later) where
      name_is : (d : DefinedType) → IsDefined t d → name_at later d.name ≡ name_at t d.name
      name_is d is = get_or_from_slice_get later.names d.name (name_at t d.name) (Numbered 0) (grows.names d.name _ (slice_get-get_or t.names d.name (Numbered 0) is.name))

      body_is : (d : DefinedType) (q : Name) → IsDefined t d → q ≡ name_at t d.name → body_of later (entry_of t found d).1 ≡ said_of q (option_map (type_at later) d.of)
      unfolding said_of
      body_is d q is e =
          let layout : answer_at found d.named ≡ layout_of (types_by bodies) (NamedV q) = layout_is d is ∙ ap (λ (x : Name). layout_of (types_by bodies) (NamedV x)) (sym e) in
          ap (λ (l : Option Layout). (let b : Body = record { of = option_map (type_at later) d.of; layout = l } in b)) layout

      known_at : (q : Name) (ds : List DefinedType) → AllByRecursion (IsDefined t) ds → option_map (body_of later) (lookup (same_name q) (map (entry_of t found) ds)) ≡ option_map (said_of q) (lookup (same_name q) (map (shown_defined later) ds))
      known_at q [] are = refl
      known_at q (d ∷ ds) are =
          rw (name_is d are.0)
          (pick (body_of later) (said_of q) (same_name q (name_at t d.name)) (entry_of t found d).1 (option_map (type_at later) d.of) (lookup (same_name q) (map (entry_of t found) ds)) (lookup (same_name q) (map (shown_defined later) ds))
          (λ e. body_is d q are.0 (same_is q (name_at t d.name) e)) (known_at q ds are.1))

      pub all_known : (k : List (Name × NamedBody)) → ((q : Name) → body_in k q ≡ lookup (same_name q) (map (entry_of t found) all)) → known_of later k ≡ known_by bodies
      unfolding said_of
      all_known k is = fun_ext (λ q.
          ap (option_map (body_of later)) (is q) ∙ known_at q all (recursion_from_All (IsDefined t) all are)
          ∙ ap (λ (bs : List (Name × Option TypeV)). option_map (said_of q) (lookup (same_name q) bs)) (shows later grows))

-- what was found is what the text says
module _ (t : Table) (found : List (Option Layout)) (all : List DefinedType) (ts : List TokenV) (names : List (Name × NamedBody)) (is : IsTable t) (only : (later : Table) → known_of later names ≡ named_only (definitions ts)) (are : All (IsDefined t) all)
    (shows : (later : Table) → Grows t later → map (shown_defined later) all ≡ read_bodies (known_of later names) (definitions ts)) where
  bodies_are : (later : Table) → Grows t later → map (shown_defined later) all ≡ bodies_of (definitions ts)
  bodies_are later grows = shows later grows ∙ ap (λ (known : Known). read_bodies known (definitions ts)) (only later)

  pub types_found : (types : List (NamedType ℕ ℕ)) → types ≡ first_types all → (later : Table) → Grows t later → named_types later types ≡ types_in ts
  unfolding types_in
  types_found types e later grows = ap (named_types later) e ∙ types_are t later is grows all are ∙ ap types_by (bodies_are later grows)

  pub known_is : (k : List (Name × NamedBody)) → AreLayouts t (first_types all) found → ((q : Name) → body_in k q ≡ lookup (same_name q) (map (entry_of t found) all)) → (later : Table) → Grows t later → known_of later k ≡ known_in ts
  unfolding known_in
  known_is k laid said later grows = all_known t found all (bodies_of (definitions ts)) are bodies_are is laid later grows k said

-- what is read of no place of a list
abbrev pub no_type : DefinedType
no_type = record { name = 0; of = None; laid = 0; named = 0 }

-- ---- the first fault in a body

read_next : (x : Outcome TypeV) (v : TypeV × List TokenV) (rest : Outcome (Unit {0})) → x ≡ Ok v → (x >>= λ of. rest) ≡ rest
read_next x v rest is = rw is refl

read_ends : (x : Outcome TypeV) (f : Fault) (rest : Outcome (Unit {0})) → x ≡ Err f → (x >>= λ of. rest) ≡ Err f
read_ends x f rest is = rw is refl

pub sound_here : (known : Known) (ts rest : List TokenV) (t : TokenV) (name : Name) (us : List TokenV) (v : TypeV × List TokenV) → ts ≡ t ∷ rest → definition_at ts ≡ Some (name, us)
    → named_body_at known us ≡ Ok v → bodies_read known (definitions rest) ≡ bodies_read known (definitions ts)
unfolding bodies_read
sound_here known ts rest t name us v is at read =
    let all : definitions ts ≡ (name, us) ∷ definitions rest = rw is (defined_here t rest (name, us) (rw is at at)) in
    rw all (sym (read_next (named_body_at known us) v (bodies_read known (definitions rest)) read))

pub faulty_here : (known : Known) (ts rest : List TokenV) (t : TokenV) (name : Name) (us : List TokenV) (f : Fault) → ts ≡ t ∷ rest → definition_at ts ≡ Some (name, us)
    → named_body_at known us ≡ Err f → fault_in (bodies_read known (definitions ts)) ≡ Some f
unfolding bodies_read
faulty_here known ts rest t name us f is at read =
    let all : definitions ts ≡ (name, us) ∷ definitions rest = rw is (defined_here t rest (name, us) (rw is at at)) in
    rw (all, read_ends (named_body_at known us) f (bodies_read known (definitions rest)) read) refl

pub sound_later_on : (known : Known) (ts rest : List TokenV) (t : TokenV) → ts ≡ t ∷ rest → definition_at ts ≡ None → bodies_read known (definitions rest) ≡ bodies_read known (definitions ts)
sound_later_on known ts rest t is e =
    let all : definitions ts ≡ definitions rest = rw is (defined_later_on t rest (rw is at e)) in
    rw all refl

pub all_sound : (known : Known) (ts : List TokenV) → ts ≡ [] → fault_in (bodies_read known (definitions ts)) ≡ None
unfolding definitions bodies_read
all_sound known ts is = rw is refl

-- a body as it is read among all that is known
pub read_among : (known all : Known) (us : List TokenV) (r : Outcome TypeV) → known ≡ all → named_body_at known us ≡ r → named_body_at all us ≡ r
read_among known all us r same is = rw same at is
