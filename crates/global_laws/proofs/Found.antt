-- The names and the addresses in the initialisers of a checked module are found.
use Rattle.std.proofs.Common.{◌≡◌, ◌∙◌, ◌+◌, ℕ, zero, suc, Bool, true, false, List, [], ◌∷◌, ◌++◌, map, length, Option, Some, None, slice_get, refl, sym, ap, subst, arith}
use Rattle.std.specs.Prelude.{find, is_some, option_and_then, option_map}
use Rattle.std.specs.List.{range_with_len, list_all}
use Rattle.std.proofs.lemmas.Option.{slice_get_within, slice_get-map}
use Rattle.ir_tree.specs.declared.items.Global.{Global as Variable}
use Rattle.ir_tree.specs.Trees.{ConstantV, IntegerC, NullC, ZeroC, TextC, ArrayC, StructC, NameC, AddressC, ElementsV, NoneC, MoreC}
use Rattle.ir_tree.specs.Modules.{Items, types_of}
use Rattle.ir_tree.specs.Naming.{constant_at}
use Rattle.ir_tree.specs.Shown.{shown_global}
use Rattle.ir_rules.specs.declared.fault.CheckSite.{CheckSite}
use Rattle.ir_rules.specs.declared.fault.CheckSite.TheVariants as at
use Rattle.ir_rules.specs.declared.fault.CheckCause.{CheckCause}
use Rattle.ir_rules.specs.declared.fault.CheckCause.TheVariants.{UnknownName}
use Rattle.ir_rules.specs.declared.fault.CheckError.{CheckError}
use Rattle.ir_rules.specs.Seen.{GlobalV, ModuleV, seen}
use Rattle.ir_rules.specs.Numbering.{is_within}
use Rattle.ir_rules.specs.Constants.{has_form, holds_together, all_together, names_known, all_known}
use Rattle.ir_rules.specs.Reading.{type_stands, constant_stands, elements_stand}
use Rattle.ir_rules.specs.Causes.{initialiser_known}
use Rattle.ir_rules.specs.Faults.{causes, global_meets, cause_at, sites_from, places, fault_at, first_fault}
use Rattle.ir_rules.specs.Checked.{IsChecked}
use Rattle.ir_rules.proofs.SameLemmas.{and_both}
use Rattle.checked_code.proofs.Faults.{Lacks, lacks_left, lacks_map, lacks_range, lacks_at, found_passes, true_of, global_fits}
use Rattle.global_laws.specs.Filled.{IsFound, AreFound}
use Rattle.global_laws.proofs.Addresses.{pointer_found}

mutual
  unfolding holds_together all_together names_known all_known constant_stands elements_stand

  found_in : (m : Items) (c : ConstantV) → is_within m ≡ true → holds_together (seen m) c ≡ true → names_known (seen m) c ≡ true → constant_stands (types_of m) c ≡ true → IsFound m c
  found_in m (IntegerC n) within holds known stands = tt
  found_in m NullC within holds known stands = tt
  found_in m ZeroC within holds known stands = tt
  found_in m (TextC text) within holds known stands = tt
  found_in m (ArrayC es) within holds known stands = all_found m es within holds known stands
  found_in m (StructC packed es) within holds known stands = all_found m es within holds known stands
  found_in m (NameC x) within holds known stands = pointer_found m (NameC x) within refl holds known stands
  found_in m (AddressC of base es) within holds known stands = pointer_found m (AddressC of base es) within refl holds known stands

  all_found : (m : Items) (es : ElementsV) → is_within m ≡ true → all_together (seen m) es ≡ true → all_known (seen m) es ≡ true → elements_stand (types_of m) es ≡ true → AreFound m es
  all_found m NoneC within holds known stands = tt
  all_found m (MoreC type c rest) within holds known stands =
      let h = and_both _ (all_together (seen m) rest) holds in
      let f = and_both (has_form (seen m) type c) (holds_together (seen m) c) h.0 in
      let k = and_both (names_known (seen m) c) (all_known (seen m) rest) known in
      let s = and_both _ (elements_stand (types_of m) rest) stands in
      let t = and_both (type_stands (types_of m) type) (constant_stands (types_of m) c) s.0 in
      (found_in m c within f.1 k.0 t.1, all_found m rest within h.1 k.1 s.1)

-- ---- no initialiser of a global has a name that is not known

none_of : {A : Type 0} (o : Option A) → is_some o ≡ false → o ≡ None
none_of None e = refl
none_of (Some a) e = absurd (cc)

fault_there : (m : ModuleV) (p : CheckSite) (o : Option CheckCause) → is_some o ≡ true → option_map (λ cause. let e : CheckError = record { at = p; cause = cause } in e) o ≡ None → ⊥
fault_there m p None some none = absurd (cc)
fault_there m p (Some c) some none = absurd (cc)

no_fault_if : (m : ModuleV) (o : Option CheckSite) → find (λ p. is_some (cause_at m p)) (places m) ≡ o → option_and_then (fault_at m) o ≡ None → Lacks (λ p. is_some (cause_at m p)) (places m)
no_fault_if m None e none = e
no_fault_if m (Some p) e none = absurd (fault_there m p (cause_at m p) (found_passes (λ q. is_some (cause_at m q)) (places m) p e) none)

no_fault : (m : ModuleV) → first_fault m ≡ None → Lacks (λ p. is_some (cause_at m p)) (places m)
unfolding first_fault
no_fault m none = no_fault_if m (find (λ p. is_some (cause_at m p)) (places m)) refl none

no_global : (m : ModuleV) → first_fault m ≡ None → Lacks (λ p. is_some (cause_at m p)) (map at.Global (range_with_len 0 (length m.globals)))
no_global m none =
    let globals = map at.Global (range_with_len 0 (length m.globals)) in
    let front = lacks_left (λ p. is_some (cause_at m p)) (globals ++ sites_from 0 m.functions) (at.Whole ∷ []) (no_fault m none) in
    lacks_left (λ p. is_some (cause_at m p)) globals (sites_from 0 m.functions) front

global_causes : (m : ModuleV) (g : GlobalV) (o : Option GlobalV) → o ≡ Some g → option_and_then (λ x. find (global_meets m x) causes) o ≡ None → Lacks (global_meets m g) causes
global_causes m g None e none = absurd (cc)
global_causes m g (Some x) e none = let same : x ≡ g = cc in let P : GlobalV → Type 0 = λ y. Lacks (global_meets m y) causes in subst P same none

global_known : (m : ModuleV) → first_fault m ≡ None → (k : ℕ) (g : GlobalV) → slice_get m.globals k ≡ Some g → initialiser_known m g ≡ true
global_known m none k g is =
    let all = lacks_map (λ p. is_some (cause_at m p)) at.Global (range_with_len 0 (length m.globals)) (no_global m none) in
    let e : 0 + k ≡ k = omega arith in
    let P : ℕ → Type 0 = λ i. is_some (cause_at m (at.Global i)) ≡ false in
    let here : is_some (cause_at m (at.Global k)) ≡ false = subst P e (lacks_range (λ i. is_some (cause_at m (at.Global i))) 0 (length m.globals) k all (slice_get_within m.globals k g is)) in
    let there : cause_at m (at.Global k) ≡ None = none_of _ here in
    true_of (initialiser_known m g) (lacks_at (global_meets m g) causes (global_causes m g (slice_get m.globals k) is there) 0 UnknownName refl)

-- ---- all of it

pub all_at : {A : Type 0} (p : A → Bool) (xs : List A) (k : ℕ) (x : A) → list_all p xs ≡ true → slice_get xs k ≡ Some x → p x ≡ true
all_at p [] k x h e = absurd (cc)
all_at p (y ∷ ys) zero x h e = let s : y ≡ x = cc in ap p (sym s) ∙ (and_both (p y) (list_all p ys) h).0
all_at p (y ∷ ys) (suc k) x h e = all_at p ys k x (and_both (p y) (list_all p ys) h).1 e

pub initialisers_are_found : (m : Items) → IsChecked m → (k : ℕ) (g : Variable ℕ ℕ ℕ) → slice_get m.globals k ≡ Some g → IsFound m (constant_at m.names g.init)
initialisers_are_found m checked k g e =
    let there : slice_get (seen m).globals k ≡ Some (shown_global m.names g) = slice_get-map (shown_global m.names) m.globals k ∙ ap (option_map (shown_global m.names)) e in
    let fits = global_fits (seen m) checked.faultless k (shown_global m.names g) there in
    let known = global_known (seen m) checked.faultless k (shown_global m.names g) there in
    let stands = all_at (λ (v : GlobalV). constant_stands (types_of m) v.init) (seen m).globals k (shown_global m.names g) checked.well_formed.stands.initialisers there in
    found_in m (constant_at m.names g.init) checked.well_formed.within (and_both _ _ fits).1 known stands
