-- The first fault of a text, by the faults of its items and of the bodies of its definitions.
use Rattle.std.proofs.Common.{◌≡◌, ℕ, List, [], ◌++◌, Option, Some, None, Result, Ok, Err, refl, sym, ap, ◌∙◌}
use Rattle.std.specs.Prelude.{unwrap_or, IfOk}
use Rattle.std.specs.Option.{option_or}
use Rattle.ir_tree.specs.Naming.{Grows}
use Rattle.ir_tree.specs.Table.{Table}
use Rattle.ir_tree.proofs.Showing.{grows_then}
use Rattle.ir_text.specs.declared.fault.Fault.{Fault}
use Rattle.ir_text.specs.declared.fault.Fault.TheVariants.{At, Ended}
use Rattle.ir_lex.specs.declared.token.Cause.{Cause}
use Rattle.ir_text.specs.Reading.{Outcome}
use Rattle.ir_text.specs.Tokens.{TokenV}
use Rattle.ir_text.specs.Types.{Known}
use Rattle.ir_grammar.specs.Items.{items_at}
use Rattle.ir_grammar.specs.Modules.{Item, SoFar}
use Rattle.ir_grammar.specs.NamedTypes.{definitions, bodies_read}
use Rattle.ir_grammar.specs.Texts.{token_fault, wrong_among, first_wrong, unless_wrong}
use Rattle.ir_reader.specs.Faulting.{at_token, IsSaid}
use Rattle.ir_reader.specs.Gathered.{gathered}
use Rattle.ir_reader.specs.Knowing.{fault_in}
use Rattle.ir_reader.specs.declared.named.TextTypes.{TextTypes}
use Rattle.module_laws.proofs.Staying.{items_stay_wrong, bodies_stay_wrong}
use Rattle.ir_reader.proofs.Places.{none_wrong, one_wrong}

-- ---- of two, the first that is there

none_or : (a b : Option Fault) → a ≡ None → b ≡ None → option_or a b ≡ None
none_or a b p q = rw (p, q) refl

first_of : (a b : Option Fault) (f : Fault) → a ≡ Some f → option_or a b ≡ Some f
first_of a b f e = rw e refl

second_of : (a b o : Option Fault) → a ≡ None → b ≡ o → option_or a b ≡ o
second_of a b o e f = rw (e, f) refl

or_none : (a b : Option Fault) → option_or a b ≡ None → (a ≡ None) × (b ≡ None)
or_none (Some x) b e = absurd cc
or_none None b e = (refl, e)

which : (f : Fault) (a b : Option Fault) (g : Fault) → option_or a b ≡ Some g → ((x : Fault) → a ≡ Some x → x ≡ f) → ((x : Fault) → b ≡ Some x → x ≡ f) → g ≡ f
which f (Some x) b g e p q = let same : x ≡ g = cc in sym same ∙ p x refl
which f None b g e p q = q g e

none_before : (part whole : Option Fault) → ((f : Fault) → part ≡ Some f → whole ≡ Some f) → whole ≡ None → part ≡ None
none_before None whole stays e = refl
none_before (Some f) whole stays e = let h = stays f refl in absurd cc

some_only : (o : Option Fault) (f : Fault) → o ≡ Some f → (g : Fault) → o ≡ Some g → g ≡ f
some_only o f e g h = cc

none_only : (o : Option Fault) (f : Fault) → o ≡ None → (g : Fault) → o ≡ Some g → g ≡ f
none_only o f e g h = absurd cc

-- ---- faults of readings

pub met : (bodies : Outcome (Unit {0})) → token_fault bodies ≡ at_token (fault_in bodies)
met (Ok x) = refl
met (Err (At line cause)) = refl
met (Err Ended) = refl

pub fails_at : {A : Type 0} (f : Fault) (read : Outcome A) → read ≡ Err f → token_fault read ≡ at_token (Some f)
fails_at (At line cause) read e = rw e refl
fails_at Ended read e = rw e refl

ends_so : (read : Outcome (List Item)) (f : Fault) → read ≡ Err f → token_fault read ≡ at_token (Some f)
ends_so read f e = fails_at f read e

alone_is : (o : Option Fault) (item f : Fault) → o ≡ Some f → f ≡ unwrap_or o item
alone_is o item f e = rw e refl

none_is : (o : Option Fault) (item : Fault) → o ≡ None → item ≡ unwrap_or o item
none_is o item e = rw e refl

unless_some : {A : Type 0} (o : Option Fault) (f : Fault) (read : Outcome A) → o ≡ Some f → unless_wrong o read ≡ Err f
unless_some o f read e = rw e refl

unless_none : {A : Type 0} (o : Option Fault) (read other : Outcome A) → o ≡ None → read ≡ other → unless_wrong o read ≡ other
unless_none o read other e is = rw e is

pub no_fault : (s t : SoFar) (rest : List TokenV) (read : Outcome (List Item)) → gathered s read ≡ Ok (t, rest) → token_fault read ≡ None
no_fault s t rest (Ok x) e = refl
no_fault s t rest (Err f) e = absurd cc

pub same_fault : (s : SoFar) (f : Fault) (read : Outcome (List Item)) → gathered s read ≡ Err f → read ≡ Err f
same_fault s f (Ok x) e = absurd cc
same_fault s f (Err g) e = cc

-- ---- of the whole text

module _ (only known : Known) where
  abbrev items : List TokenV → Option Fault
  items ts = token_fault (items_at known ts)

  abbrev bodies : List TokenV → Option Fault
  bodies ts = token_fault (bodies_read only (definitions ts))

  abbrev first : List TokenV → Option Fault
  first ts = first_wrong (wrong_among only known) [] ts

  pub wrong_is : (ts : List TokenV) (o : Option Fault) → option_or (items ts) (bodies ts) ≡ o → wrong_among only known ts ≡ o
  unfolding wrong_among
  wrong_is ts o e = e

  wrong_was : (ts : List TokenV) (o : Option Fault) → wrong_among only known ts ≡ o → option_or (items ts) (bodies ts) ≡ o
  unfolding wrong_among
  wrong_was ts o e = e

  pub wrong_here : (f : Fault) (ts : List TokenV) → Some f ≡ items ts → Some f ≡ wrong_among only known ts
  wrong_here f ts e = sym (wrong_is ts (Some f) (first_of (items ts) (bodies ts) f (sym e)))

  pub wrong_in_body : (ts : List TokenV) (found : Option Fault) → None ≡ items ts → found ≡ fault_in (bodies_read only (definitions ts)) → at_token found ≡ wrong_among only known ts
  wrong_in_body ts found e is =
      sym (wrong_is ts (at_token found) (second_of (items ts) (bodies ts) (at_token found) (sym e) (met (bodies_read only (definitions ts)) ∙ ap at_token (sym is))))

  pub stays_right : (us more : List TokenV) → wrong_among only known (us ++ more) ≡ None → wrong_among only known us ≡ None
  stays_right us more e =
      let none = or_none (items (us ++ more)) (bodies (us ++ more)) (wrong_was (us ++ more) None e) in
      wrong_is us None
      (none_or (items us) (bodies us) (none_before (items us) (items (us ++ more)) (items_stay_wrong known us more) none.0) (none_before (bodies us) (bodies (us ++ more)) (bodies_stay_wrong only us more) none.1))

  -- nothing is wrong
  pub nothing : (ts : List TokenV) → items ts ≡ None → bodies ts ≡ None → first ts ≡ None
  nothing ts item body =
      none_wrong (wrong_among only known) ts [] ts refl (λ us more e. stays_right us more (ap (wrong_among only known) e ∙ wrong_is ts None (none_or (items ts) (bodies ts) item body)))

  -- all that is wrong is this
  alone : (f : Fault) (ts : List TokenV) → ((g : Fault) → items ts ≡ Some g → g ≡ f) → ((g : Fault) → bodies ts ≡ Some g → g ≡ f) → wrong_among only known ts ≡ Some f → first ts ≡ Some f
  alone f ts item body here =
      one_wrong (wrong_among only known) f ts [] ts refl
      (λ us more e g is.
      which f (items us) (bodies us) g (wrong_was us (Some g) is) (λ x at. item x (ap items (sym e) ∙ items_stay_wrong known us more x at)) (λ x at. body x (ap bodies (sym e) ∙ bodies_stay_wrong only us more x at)))
      here

  pub item_alone : (f : Fault) (ts : List TokenV) → items ts ≡ Some f → bodies ts ≡ None → first ts ≡ Some f
  item_alone f ts item body = alone f ts (some_only (items ts) f item) (none_only (bodies ts) f body) (wrong_is ts (Some f) (first_of (items ts) (bodies ts) f item))

  pub body_alone : (f : Fault) (ts : List TokenV) → items ts ≡ None → bodies ts ≡ Some f → first ts ≡ Some f
  body_alone f ts item body = alone f ts (none_only (items ts) f item) (some_only (bodies ts) f body) (wrong_is ts (Some f) (second_of (items ts) (bodies ts) (Some f) item body))

  -- the items end with a fault, and no body does at a token
  pub item_first : (item : Fault) (ts : List TokenV) → items_at known ts ≡ Err item → bodies ts ≡ None → item ≡ unwrap_or (first ts) item
  item_first (At line cause) ts read body = alone_is (first ts) (At line cause) (At line cause) (item_alone (At line cause) ts (ends_so (items_at known ts) (At line cause) read) body)
  item_first Ended ts read body = none_is (first ts) Ended (nothing ts (ends_so (items_at known ts) Ended read) body)

  -- the tokens end in an item, and a body has a fault at one
  pub body_first : (f : Fault) (ts : List TokenV) → items_at known ts ≡ Err Ended → bodies ts ≡ Some f → f ≡ unwrap_or (first ts) Ended
  body_first f ts read body = alone_is (first ts) Ended f (body_alone f ts (ends_so (items_at known ts) Ended read) body)

  pub item_wrong : (line : ℕ) (cause : Cause) (ts : List TokenV) → items_at known ts ≡ Err (At line cause) → wrong_among only known ts ≡ Some (At line cause)
  item_wrong line cause ts read = wrong_is ts (Some (At line cause)) (first_of (items ts) (bodies ts) (At line cause) (ends_so (items_at known ts) (At line cause) read))

  pub both_wrong : (ts : List TokenV) (item f : Fault) → first ts ≡ Some f → f ≡ unwrap_or (first ts) item
  both_wrong ts item f e = alone_is (first ts) item f e

  -- ---- and what is read of it

  module _ {A : Type 0} (ts : List TokenV) (read : Outcome A) where
    unless_first : (o : Option Fault) (item f : Fault) → read ≡ Err item → f ≡ unwrap_or o item → unless_wrong o read ≡ Err f
    unless_first (Some g) item f e is = ap Err (sym is)
    unless_first None item f e is = e ∙ ap Err (sym is)

    pub ends_with : (item f : Fault) → read ≡ Err item → f ≡ unwrap_or (first ts) item → unless_wrong (first ts) read ≡ Err f
    ends_with item f e is = unless_first (first ts) item f e is

    pub is_read : (x : A × List TokenV) → items ts ≡ None → fault_in (bodies_read only (definitions ts)) ≡ None → read ≡ Ok x → unless_wrong (first ts) read ≡ Ok x
    is_read x item body e = unless_none (first ts) read (Ok x) (nothing ts item (met (bodies_read only (definitions ts)) ∙ ap at_token body)) e

    pub body_faulty : (f : Fault) → items ts ≡ None → fault_in (bodies_read only (definitions ts)) ≡ Some f → read ≡ Err f → unless_wrong (first ts) read ≡ Err f
    body_faulty (At line cause) item body e = unless_some (first ts) (At line cause) read (body_alone (At line cause) ts item (met (bodies_read only (definitions ts)) ∙ ap at_token body))
    body_faulty Ended item body e = unless_none (first ts) read (Err Ended) (nothing ts item (met (bodies_read only (definitions ts)) ∙ ap at_token body)) e

-- the items as they are read, among all that is known
module _ (of all : Known) (same : of ≡ all) (us ts : List TokenV) (are : us ≡ ts) where
  pub items_same : items_at of us ≡ items_at all ts
  items_same = ap (λ (k : Known). items_at k us) same ∙ ap (items_at all) are

  pub items_sound : (s t : SoFar) (rest : List TokenV) → gathered s (items_at of us) ≡ Ok (t, rest) → token_fault (items_at all ts) ≡ None
  items_sound s t rest e = ap (λ (o : Outcome (List Item)). token_fault o) (sym items_same) ∙ no_fault s t rest (items_at of us) e

  pub items_faulty : (s : SoFar) (f : Fault) → gathered s (items_at of us) ≡ Err f → items_at all ts ≡ Err f
  items_faulty s f e = sym items_same ∙ same_fault s f (items_at of us) e

-- what is said is said of a table that has grown
pub said_later : (a b : Table) (named : TextTypes) (only known : Known) → Grows a b → IsSaid a named only known → IsSaid b named only known
said_later a b named only known grows said = record {
  names = said.names;
  bodies = λ later more. said.bodies later (grows_then a b later grows more);
}

pub ok_then : {A E : Type 0} (P Q : A → Type 0) (r : Result A E) → ((a : A) → P a → Q a) → IfOk r P → IfOk r Q
ok_then P Q (Ok a) then is = then a is
ok_then P Q (Err e) then is = tt
