-- Codes by name, in a map and in the table that contracts see.
use Rattle.std.proofs.Common.{◌≡◌, ℕ, ◌==◌, List, [], ◌∷◌, map, Option, Some, None, option_map, Bool, true, false, cond, Result, Ok, Err, refl, sym, ap, ◌∙◌, arith}
use Rattle.std.specs.Result.{result_unwrap_or}
use Rattle.std.proofs.lemmas.Map.Made.{lookup-map_values}
use Rattle.std.specs.Map.{lookup, keys_of}
use Rattle.std.specs.Ordering.{nat_cmp}
use Rattle.std.specs.BTreeMap.{is_at}
use Rattle.pv_base.specs.declared.place.Place.{Place}
use Rattle.privacy_check.specs.declared.access.Access.{Access}
use Rattle.privacy_check.specs.declared.access.BadCode.{BadCode}
use Rattle.privacy_check.specs.Shadows.{Shadows, with_codes, told, kept_in, object_after, shadows_after}
use Rattle.privacy_check.specs.Views.{Table, table_of, codes_of, names_of, Has}

pub same_test : (k n : ℕ) → is_at (nat_cmp k) n ≡ (n == k)
same_test k n = grind arith

table_step : {V : Type 0} (codes : V → List ℕ) (v : V) (b : Bool) (there : Option (List ℕ)) (here : Option V) → there ≡ option_map codes here → cond b (Some (codes v)) there ≡ option_map codes (cond b (Some v) here)
table_step codes v true there here h = refl
table_step codes v false there here h = h

-- what the table has at a name is what the map has
pub codes_of-table_of : {V : Type 0} (codes : V → List ℕ) (entries : List (ℕ × V)) (name : ℕ) → codes_of (table_of codes entries) name ≡ option_map codes (lookup (is_at (nat_cmp name)) entries)
codes_of-table_of codes [] name = refl
codes_of-table_of codes (e ∷ es) name = rw (same_test name e.0) (table_step codes e.1 (e.0 == name) _ _ (codes_of-table_of codes es name))

at_map : {V : Type 0} (codes : V → List ℕ) (b : Bool) (w : V) (here : Option V) (there : Option (List ℕ)) → option_map codes here ≡ there → option_map codes (cond b (Some w) here) ≡ cond b (Some (codes w)) there
at_map codes true w here there h = refl
at_map codes false w here there h = h

-- a map in which one name has a new value
pub table_written : {V : Type 0} (codes : V → List ℕ) (old : Table) (before after : List (ℕ × V)) (name : ℕ) (w : V) → table_of codes before ≡ old
    → ((q : ℕ) → lookup (is_at (nat_cmp q)) after ≡ cond (is_at (nat_cmp name) q) (Some w) (lookup (is_at (nat_cmp q)) before))
    → Has (table_of codes after) (with_codes (codes_of old) name (codes w))
table_written codes old before after name w is updates q =
    rw (codes_of-table_of codes after q, updates q, same_test name q)
    (at_map codes (q == name) w _ _ (sym (codes_of-table_of codes before q) ∙ ap (λ (t : Table). codes_of t q) is))

-- an access to one object, told of and kept among all
told_kept : (shadows : Shadows) (name : ℕ) (r : Result (List ℕ) BadCode) → told r ≡ told (kept_in shadows name r)
told_kept shadows name (Ok codes) = refl
told_kept shadows name (Err bad) = refl

pub touch_told : (shadows : Shadows) (access : Access) (stamp : ℕ) (at : Place) (len : ℕ) (codes : List ℕ) → shadows at.name ≡ Some codes → told (object_after access stamp at.offset len codes) ≡ told (shadows_after access stamp at len shadows)
touch_told shadows access stamp at len codes known = rw known (told_kept shadows at.name _)

same_codes : (shadows : Shadows) (name n : ℕ) (codes : List ℕ) → shadows name ≡ Some codes → (b : Bool) → (b ≡ true → n ≡ name) → cond b (Some codes) (shadows n) ≡ shadows n
same_codes shadows name n codes known true is = sym (ap shadows (is refl) ∙ known)
same_codes shadows name n codes known false is = refl

codes_kept : (shadows : Shadows) (name n : ℕ) (codes new : List ℕ) → shadows name ≡ Some codes → (r : Result (List ℕ) BadCode) → new ≡ result_unwrap_or r codes → with_codes shadows name new n ≡ result_unwrap_or (kept_in shadows name r) shadows n
codes_kept shadows name n codes new known (Ok after) is = ap (λ (cs : List ℕ). with_codes shadows name cs n) is
codes_kept shadows name n codes new known (Err bad) is = rw is (same_codes shadows name n codes known (n == name) (λ e. grind arith))

pub touch_codes : (shadows : Shadows) (access : Access) (stamp : ℕ) (at : Place) (len : ℕ) (codes new : List ℕ) → shadows at.name ≡ Some codes → new ≡ result_unwrap_or (object_after access stamp at.offset len codes) codes
    → (n : ℕ) → with_codes shadows at.name new n ≡ result_unwrap_or (shadows_after access stamp at len shadows) shadows n
touch_codes shadows access stamp at len codes new known is n = rw known (codes_kept shadows at.name n codes new known _ is)

-- what a map's value says of the table
pub table_at : {V : Type 0} (codes : V → List ℕ) (old : Table) (entries : List (ℕ × V)) (name : ℕ) (found : Option V) → table_of codes entries ≡ old → found ≡ lookup (is_at (nat_cmp name)) entries → codes_of old name ≡ option_map codes found
table_at codes old entries name found is value = ap (λ (t : Table). codes_of t name) (sym is) ∙ codes_of-table_of codes entries name ∙ ap (option_map codes) (sym value)

pub same_known : (shadows : Shadows) (name : ℕ) (a b : List ℕ) → shadows name ≡ Some a → shadows name ≡ Some b → a ≡ b
same_known shadows name a b p q = cc

-- each object's codes after a change to all
pub table_mapped : {V : Type 0} (codes : V → List ℕ) (f : V → V) (g : List ℕ → List ℕ) → ((v : V) → codes (f v) ≡ g (codes v)) → (old : Table) (before after : List (ℕ × V)) → table_of codes before ≡ old → after ≡ map (λ e. (e.0, f e.1)) before
    → Has (table_of codes after) (λ name. option_map g (codes_of old name))
table_mapped {V} codes f g does old before after is mapped name =
    rw (codes_of-table_of codes after name, mapped, lookup-map_values f (is_at (nat_cmp name)) before)
    (each _ ∙ ap (option_map g) (sym (codes_of-table_of codes before name) ∙ ap (λ (t : Table). codes_of t name) is))
  where
    each : (o : Option V) → option_map codes (option_map f o) ≡ option_map g (option_map codes o)
    each None = refl
    each (Some v) = ap Some (does v)

-- one object more in a map
pub made_more : {V : Type 0} (codes : V → List ℕ) (before after : List (ℕ × V)) (key name : ℕ) (w : V) (had : Option (List ℕ)) (new : List ℕ)
    → lookup (is_at (nat_cmp name)) after ≡ cond (is_at (nat_cmp key) name) (Some w) (lookup (is_at (nat_cmp name)) before)
    → option_map codes (lookup (is_at (nat_cmp name)) before) ≡ had → codes w ≡ new → option_map codes (lookup (is_at (nat_cmp name)) after) ≡ cond (key == name) (Some new) had
made_more {V} codes before after key name w had new updates was is =
    rw (updates, same_test key name, flip name key) (at_map codes (key == name) w _ _ was ∙ ap (λ (cs : List ℕ). cond (key == name) (Some cs) had) is)
  where
    flip : (a b : ℕ) → (a == b) ≡ (b == a)
    flip a b = grind arith

-- the names of a map are those of its table
pub names_of-table_of : {V : Type 0} (codes : V → List ℕ) (entries : List (ℕ × V)) → keys_of entries ≡ names_of (table_of codes entries)
names_of-table_of codes [] = refl
names_of-table_of codes (e ∷ es) = ap (λ (ns : List ℕ). e.0 ∷ ns) (names_of-table_of codes es)
