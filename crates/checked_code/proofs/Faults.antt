-- What a module without faults meets at each place.
use Rattle.std.proofs.Common.{◌≡◌, ℕ, zero, suc, ◌+◌, ◌<◌, ◌≤◌, Bool, true, false, List, [], ◌∷◌, ◌++◌, map, length, Option, Some, None, slice_get, refl, sym, ap, ◌∙◌, arith}
use Rattle.std.proofs.Common.{subst}
use Rattle.std.proofs.lemmas.Option.{slice_get_within}
use Rattle.std.specs.Prelude.{find, not, is_some, cond, option_and_then, option_map}
use Rattle.std.specs.List.{range_with_len}
use Rattle.ir_rules.specs.declared.fault.CheckSite.{CheckSite}
use Rattle.ir_rules.specs.declared.fault.CheckSite.TheVariants as at
use Rattle.ir_rules.specs.declared.fault.CheckCause.{CheckCause}
use Rattle.ir_rules.specs.declared.fault.CheckCause.TheVariants.{TypeDiffers, Terminator, NoMain, MainType}
use Rattle.ir_rules.specs.declared.fault.CheckError.{CheckError}
use Rattle.ir_rules.specs.Seen.{FunctionV, GlobalV, ModuleV}
use Rattle.ir_rules.specs.Spots.{instruction_count}
use Rattle.ir_rules.specs.Causes.{initialiser_fits, main_of, main_fits}
use Rattle.ir_rules.specs.Faults.{causes, number_meets, global_meets, whole_meets, cause_at, sites_of, sites_from, places, fault_at, first_fault}

-- ---- finding nothing

-- nothing of the list passes
abbrev pub Lacks : {A : Type 0} → (A → Bool) → List A → Type 0
Lacks p xs = find p xs ≡ None

section : {A : Type 0} (p : A → Bool) (x : A) (xs : List A) (b : Bool) → p x ≡ b → cond b (Some x) (find p xs) ≡ None → (p x ≡ false) × Lacks p xs
section p x xs true e lacks = absurd cc
section p x xs false e lacks = (e, lacks)

pub lacks_parts : {A : Type 0} (p : A → Bool) (x : A) (xs : List A) → Lacks p (x ∷ xs) → (p x ≡ false) × Lacks p xs
lacks_parts p x xs lacks = section p x xs (p x) refl lacks

joined : {A : Type 0} (p : A → Bool) (x : A) (xs : List A) → p x ≡ false → Lacks p xs → Lacks p (x ∷ xs)
joined p x xs e lacks = rw e lacks

pub lacks_left : {A : Type 0} (p : A → Bool) (xs ys : List A) → Lacks p (xs ++ ys) → Lacks p xs
lacks_left p [] ys lacks = refl
lacks_left p (x ∷ xs) ys lacks = let h = lacks_parts p x (xs ++ ys) lacks in joined p x xs h.0 (lacks_left p xs ys h.1)

pub lacks_right : {A : Type 0} (p : A → Bool) (xs ys : List A) → Lacks p (xs ++ ys) → Lacks p ys
lacks_right p [] ys lacks = lacks
lacks_right p (x ∷ xs) ys lacks = lacks_right p xs ys (lacks_parts p x (xs ++ ys) lacks).1

pub lacks_map : {A B : Type 0} (p : B → Bool) (f : A → B) (xs : List A) → Lacks p (map f xs) → Lacks (λ x. p (f x)) xs
lacks_map p f [] lacks = refl
lacks_map p f (x ∷ xs) lacks = let h = lacks_parts p (f x) (map f xs) lacks in joined (λ y. p (f y)) x xs h.0 (lacks_map p f xs h.1)

pub lacks_range : (p : ℕ → Bool) (a n k : ℕ) → Lacks p (range_with_len a n) → k < n → p (a + k) ≡ false
lacks_range p a zero k lacks lt = absurd (omega arith)
lacks_range p a (suc n) zero lacks lt = let e : a + 0 ≡ a = omega arith in rw e (lacks_parts p a (range_with_len (a + 1) n) lacks).0
lacks_range p a (suc n) (suc k) lacks lt =
    let e : a + suc k ≡ (a + 1) + k = omega arith in
    rw e (lacks_range p (a + 1) n k (lacks_parts p a (range_with_len (a + 1) n) lacks).1 (omega arith))

pub lacks_at : {A : Type 0} (p : A → Bool) (xs : List A) → Lacks p xs → (k : ℕ) (x : A) → slice_get xs k ≡ Some x → p x ≡ false
lacks_at p [] lacks k x e = absurd cc
lacks_at p (y ∷ xs) lacks zero x e = let same : y ≡ x = cc in ap p (sym same) ∙ (lacks_parts p y xs lacks).0
lacks_at p (y ∷ xs) lacks (suc k) x e = lacks_at p xs (lacks_parts p y xs lacks).1 k x e

-- ---- no place has a fault

none_of : {A : Type 0} (o : Option A) → is_some o ≡ false → o ≡ None
none_of None e = refl
none_of (Some a) e = absurd cc

found_if : {A : Type 0} (p : A → Bool) (x y : A) (o : Option A) (b : Bool) → p x ≡ b → (o ≡ Some y → p y ≡ true) → cond b (Some x) o ≡ Some y → p y ≡ true
found_if p x y o true e rest is = let same : x ≡ y = cc in ap p (sym same) ∙ e
found_if p x y o false e rest is = rest is

-- what is found passes
pub found_passes : {A : Type 0} (p : A → Bool) (xs : List A) (y : A) → find p xs ≡ Some y → p y ≡ true
found_passes p [] y e = absurd cc
found_passes p (x ∷ xs) y e = found_if p x y (find p xs) (p x) refl (found_passes p xs y) e

fault_there : (m : ModuleV) (p : CheckSite) (o : Option CheckCause) → is_some o ≡ true → option_map (λ cause. let e : CheckError = record { at = p; cause = cause } in e) o ≡ None → ⊥
fault_there m p None some none = absurd cc
fault_there m p (Some c) some none = absurd cc

no_fault_if : (m : ModuleV) (o : Option CheckSite) → find (λ p. is_some (cause_at m p)) (places m) ≡ o → option_and_then (fault_at m) o ≡ None → Lacks (λ p. is_some (cause_at m p)) (places m)
no_fault_if m None e none = e
no_fault_if m (Some p) e none = absurd (fault_there m p (cause_at m p) (found_passes (λ q. is_some (cause_at m q)) (places m) p e) none)

no_fault : (m : ModuleV) → first_fault m ≡ None → Lacks (λ p. is_some (cause_at m p)) (places m)
unfolding first_fault
no_fault m none = no_fault_if m (find (λ p. is_some (cause_at m p)) (places m)) refl none

-- ---- what is met nowhere

-- the cause of a number of the order
caused : (meets : CheckCause → Bool) → Lacks meets causes → (k : ℕ) (c : CheckCause) → slice_get causes k ≡ Some c → meets c ≡ false
caused meets lacks k c e = lacks_at meets causes lacks k c e

-- what a test of no fault says
pub true_of : (b : Bool) → not b ≡ false → b ≡ true
true_of true e = refl
true_of false e = absurd cc

no_global : (m : ModuleV) → first_fault m ≡ None → Lacks (λ p. is_some (cause_at m p)) (map at.Global (range_with_len 0 (length m.globals)))
no_global m none =
    let globals = map at.Global (range_with_len 0 (length m.globals)) in
    let front = lacks_left (λ p. is_some (cause_at m p)) (globals ++ sites_from 0 m.functions) (at.Whole ∷ []) (no_fault m none) in
    lacks_left (λ p. is_some (cause_at m p)) globals (sites_from 0 m.functions) front

global_causes : (m : ModuleV) (g : GlobalV) (o : Option GlobalV) → o ≡ Some g → option_and_then (λ x. find (global_meets m x) causes) o ≡ None → Lacks (global_meets m g) causes
global_causes m g None e none = absurd cc
global_causes m g (Some x) e none = let same : x ≡ g = cc in let P : GlobalV → Type 0 = λ y. Lacks (global_meets m y) causes in subst P same none

-- no initialiser of a global is of another type
pub global_fits : (m : ModuleV) → first_fault m ≡ None → (k : ℕ) (g : GlobalV) → slice_get m.globals k ≡ Some g → initialiser_fits m g ≡ true
global_fits m none k g is =
    let all = lacks_map (λ p. is_some (cause_at m p)) at.Global (range_with_len 0 (length m.globals)) (no_global m none) in
    let e : 0 + k ≡ k = omega arith in
    let P : ℕ → Type 0 = λ i. is_some (cause_at m (at.Global i)) ≡ false in
    let here : is_some (cause_at m (at.Global k)) ≡ false = subst P e (lacks_range (λ i. is_some (cause_at m (at.Global i))) 0 (length m.globals) k all (slice_get_within m.globals k g is)) in
    let there : cause_at m (at.Global k) ≡ None = none_of _ here in
    true_of (initialiser_fits m g) (caused (global_meets m g) (global_causes m g (slice_get m.globals k) is there) 1 TypeDiffers refl)

-- ---- at the instructions

lacks_sites : (p : CheckSite → Bool) (number : ℕ) (fs : List FunctionV) (j : ℕ) (f : FunctionV) → Lacks p (sites_from number fs) → slice_get fs j ≡ Some f → Lacks p (sites_of (number + j) f)
lacks_sites p number [] j f lacks is = absurd cc
lacks_sites p number (g ∷ fs) zero f lacks is =
    let e : number + 0 ≡ number = omega arith in
    let same : g ≡ f = cc in
    let P : FunctionV → Type 0 = λ h. Lacks p (sites_of number h) in
    let Q : ℕ → Type 0 = λ n. Lacks p (sites_of n f) in
    subst Q (sym e) (subst P same (lacks_left p (sites_of number g) (sites_from (suc number) fs) lacks))
lacks_sites p number (g ∷ fs) (suc j) f lacks is =
    let e : number + suc j ≡ suc number + j = omega arith in
    let Q : ℕ → Type 0 = λ n. Lacks p (sites_of n f) in
    subst Q (sym e) (lacks_sites p (suc number) fs j f (lacks_right p (sites_of number g) (sites_from (suc number) fs) lacks) is)

no_site : (m : ModuleV) → first_fault m ≡ None → Lacks (λ p. is_some (cause_at m p)) (sites_from 0 m.functions)
no_site m none =
    let globals = map at.Global (range_with_len 0 (length m.globals)) in
    let front = lacks_left (λ p. is_some (cause_at m p)) (globals ++ sites_from 0 m.functions) (at.Whole ∷ []) (no_fault m none) in
    lacks_right (λ p. is_some (cause_at m p)) globals (sites_from 0 m.functions) front

number_causes : (m : ModuleV) (k : ℕ) (f : FunctionV) (o : Option FunctionV) → o ≡ Some f → option_and_then (λ x. find (number_meets m x k) causes) o ≡ None → Lacks (number_meets m f k) causes
number_causes m k f None e none = absurd cc
number_causes m k f (Some x) e none = let same : x ≡ f = cc in let P : FunctionV → Type 0 = λ y. Lacks (number_meets m y k) causes in subst P same none

-- no number of an instruction, and not that behind the last, meets a cause
pub number_meets_none : (m : ModuleV) → first_fault m ≡ None → (j : ℕ) (f : FunctionV) (k : ℕ) → slice_get m.functions j ≡ Some f → k ≤ instruction_count f.blocks → Lacks (number_meets m f k) causes
number_meets_none m none j f k is le =
    let e : 0 + j ≡ j = omega arith in
    let d : 0 + k ≡ k = omega arith in
    let Q : ℕ → Type 0 = λ n. Lacks (λ p. is_some (cause_at m p)) (sites_of n f) in
    let sites = subst Q e (lacks_sites (λ p. is_some (cause_at m p)) 0 m.functions j f (no_site m none) is) in
    let all = lacks_map (λ p. is_some (cause_at m p)) (λ n. at.At (record { function = j; place = n })) (range_with_len 0 (suc (instruction_count f.blocks))) sites in
    let P : ℕ → Type 0 = λ n. is_some (cause_at m (at.At (record { function = j; place = n }))) ≡ false in
    let here = subst P d (lacks_range (λ n. is_some (cause_at m (at.At (record { function = j; place = n })))) 0 (suc (instruction_count f.blocks)) k all (omega arith)) in
    let there : cause_at m (at.At (record { function = j; place = k })) ≡ None = none_of _ here in
    number_causes m k f (slice_get m.functions j) is there

pub terminator_none : (m : ModuleV) → first_fault m ≡ None → (j : ℕ) (f : FunctionV) (k : ℕ) → slice_get m.functions j ≡ Some f → k ≤ instruction_count f.blocks → number_meets m f k Terminator ≡ false
terminator_none m none j f k is le = caused (number_meets m f k) (number_meets_none m none j f k is le) 2 Terminator refl

-- ---- of the whole

no_whole : (m : ModuleV) → first_fault m ≡ None → Lacks (whole_meets m) causes
no_whole m none =
    let globals = map at.Global (range_with_len 0 (length m.globals)) in
    let last = lacks_right (λ p. is_some (cause_at m p)) (globals ++ sites_from 0 m.functions) (at.Whole ∷ []) (no_fault m none) in
    none_of (cause_at m at.Whole) (lacks_parts (λ p. is_some (cause_at m p)) at.Whole [] last).0

-- there is a function at which the program begins, and it has its type
pub has_main : (m : ModuleV) → first_fault m ≡ None → is_some (main_of m) ≡ true
has_main m none = true_of _ (caused (whole_meets m) (no_whole m none) 7 NoMain refl)

pub main_typed : (m : ModuleV) → first_fault m ≡ None → main_fits (main_of m) ≡ true
main_typed m none = true_of _ (caused (whole_meets m) (no_whole m none) 8 MainType refl)
