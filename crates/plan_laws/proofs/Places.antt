-- What a profile names is among the places of the module.
use Rattle.std.proofs.Common.{◌≡◌, ℕ, zero, suc, ◌+◌, ◌≤◌, ◌<◌, Bool, true, false, List, [], ◌∷◌, map, length, Option, Some, None, slice_get, refl, sym, subst, ap, ◌⊎◌, inl, inr, arith}
use Rattle.std.specs.Prelude.{option_map, option_and_then, position, nat_lt, cond, if◌then◌else◌}
use Rattle.std.specs.List.{range_with_len, position_or_len}
use Rattle.std.proofs.lemmas.Bool.{leb-true}
use Rattle.std.proofs.lemmas.Option.{slice_get_within}
use Rattle.pv_base.specs.declared.place.Site.{Site}
use Rattle.pv_base.specs.declared.place.AllocSite.{AllocSite}
use Rattle.pv_base.specs.declared.place.AllocSite.TheVariants.{Global as OfGlobal, At as OfSite}
use Rattle.ir_rules.specs.Seen.{ModuleV, FunctionV, InstructionV}
use Rattle.profile_lines.specs.declared.profile.ObjectName.{ObjectName}
use Rattle.profile_lines.specs.declared.profile.ObjectName.TheVariants.{Global, At}
use Rattle.loop_plan.specs.Naming.{instructions_of, instruction_in, instruction_at, makes, making, site_named, global_named, object_named, function_sites, sites_from, sites_of, places_of}
use Rattle.plan_laws.specs.Laws.{Has}
use Rattle.plan_laws.proofs.Lists.{in_front, behind}

split : (a k : ℕ) → a ≤ k → (a ≡ k) ⊎ (a + 1 ≤ k)
split zero zero h = inl refl
split zero (suc k) h = inr (omega arith)
split (suc a) zero h = let no : ⊥ = omega (arith, h) in absurd no
split (suc a) (suc k) h = elim (split a k (omega (arith, h))) [ inl e ↦ inl (ap suc e) | inr g ↦ inr (omega (arith, g)) ]

in_range : (n a k : ℕ) → a ≤ k → k < a + n → Has (range_with_len a n) k
in_range zero a k low high = let no : ⊥ = omega (arith, low, high) in absurd no
in_range (suc n) a k low high = elim (split a k low) [
  | inl e ↦ inl e
  | inr h ↦ inr (in_range n (a + 1) k h (let g : k < (a + 1) + n = omega (arith, high) in g))
]

in_map : {A B : Type 0} (f : A → B) (xs : List A) (x : A) → Has xs x → Has (map f xs) (f x)
in_map f [] x h = absurd h
in_map f (y ∷ ys) x (inl e) = inl (ap f e)
in_map f (y ∷ ys) x (inr h) = inr (in_map f ys x h)

by_test : (n m i : ℕ) (b : Bool) → nat_lt n m ≡ b → cond b (Some n) None ≡ Some i → i < m
by_test n m i true is e = let own : n ≡ i = cc in subst (λ k. k < m) own (leb-true (suc n) m is)
by_test n m i false is e = absurd cc

position_below : {A : Type 0} (p : A → Bool) (xs : List A) (i : ℕ) → position p xs ≡ Some i → i < length xs
position_below p xs i e = by_test (position_or_len p xs) (length xs) i (nat_lt (position_or_len p xs) (length xs)) refl e

module _ (v : ModuleV) where
  in_sites : (fs : List FunctionV) (k j : ℕ) (f : FunctionV) (place : ℕ) → slice_get fs j ≡ Some f → place < length (instructions_of f) → Has (sites_from v k fs) (record { function = k + j; place = place })
  in_sites [] k j f place at within = absurd cc
  in_sites (g ∷ gs) k zero f place at within =
      let same : g ≡ f = cc in
      let z : k + 0 ≡ k = omega arith in
      let inside = subst (λ h. place < length (instructions_of h)) (sym same) within in
      let ranged = in_range (length (instructions_of g)) 0 place (omega arith) (let h : place < 0 + length (instructions_of g) = omega (arith, inside) in h) in
      subst (λ n. Has (sites_from v k (g ∷ gs)) (record { function = n; place = place })) (sym z)
      (in_front (function_sites v k g) (sites_from v (suc k) gs) (record { function = k; place = place }) (in_map (λ p. record { function = k; place = p }) (range_with_len 0 (length (instructions_of g))) place ranged))
  in_sites (g ∷ gs) k (suc j) f place at within =
      let z : suc k + j ≡ k + suc j = omega arith in
      subst (λ n. Has (sites_from v k (g ∷ gs)) (record { function = n; place = place })) z (behind (function_sites v k g) (sites_from v (suc k) gs) _ (in_sites gs (suc k) j f place at within))

  in_function : (s : Site) (i : InstructionV) (o : Option FunctionV) → slice_get v.functions s.function ≡ o → option_and_then (λ f. instruction_in f s.place) o ≡ Some i → Has (sites_of v) s
  in_function s i None at e = absurd cc
  in_function s i (Some f) at e =
      let z : 0 + s.function ≡ s.function = omega arith in
      subst (λ n. Has (sites_of v) (record { function = n; place = s.place })) z (in_sites v.functions 0 s.function f s.place at (slice_get_within (instructions_of f) s.place i e))

  -- an instruction that is there
  site_is_there : (s : Site) (i : InstructionV) → instruction_at v s ≡ Some i → Has (sites_of v) s
  site_is_there s i e = in_function s i (slice_get v.functions s.function) refl e

  in_places : (s : Site) → Has (sites_of v) s → Has (places_of v) (OfSite s)
  in_places s h = behind (map OfGlobal (range_with_len 0 (length v.globals))) (map OfSite (sites_of v)) (OfSite s) (in_map OfSite (sites_of v) s h)

  made_by : (s : Site) (a : AllocSite) (i : InstructionV) → instruction_at v s ≡ Some i → (b : Bool) → makes i ≡ b → (if b then Some (OfSite s) else None) ≡ Some a → Has (places_of v) a
  made_by s a i at false is e = absurd cc
  made_by s a i at true is e = let own : OfSite s ≡ a = cc in subst (Has (places_of v)) own (in_places s (site_is_there s i at))

  made_at : (s : Site) (a : AllocSite) (o : Option InstructionV) → instruction_at v s ≡ o → option_and_then (making v s) o ≡ Some a → Has (places_of v) a
  made_at s a None at e = absurd cc
  made_at s a (Some i) at e = made_by s a i at (makes i) refl e

  made : (a : AllocSite) (o : Option Site) → option_and_then (λ at. option_and_then (making v at) (instruction_at v at)) o ≡ Some a → Has (places_of v) a
  made a None e = absurd cc
  made a (Some s) e = made_at s a (instruction_at v s) refl e

  of_global : (a : AllocSite) (o : Option ℕ) → ((g : ℕ) → o ≡ Some g → g < length v.globals) → option_map OfGlobal o ≡ Some a → Has (places_of v) a
  of_global a None within e = absurd cc
  of_global a (Some g) within e =
      let own : OfGlobal g ≡ a = cc in
      let low = within g refl in
      subst (Has (places_of v)) own
      (in_front (map OfGlobal (range_with_len 0 (length v.globals))) (map OfSite (sites_of v)) (OfGlobal g)
      (in_map OfGlobal (range_with_len 0 (length v.globals)) g (in_range (length v.globals) 0 g (omega arith) (let h : g < 0 + length v.globals = omega (arith, low) in h))))

  -- what is named is a place of the module
  pub object_is_there : (o : ObjectName) (a : AllocSite) → object_named v o ≡ Some a → Has (places_of v) a
  object_is_there (Global x) a e = of_global a (global_named v x) (λ g is. position_below _ v.globals g is) e
  object_is_there (At s) a e = made a (site_named v s) e
