-- The region of a loop keeps what it promises.
use Rattle.std.proofs.Common.{◌≡◌, ℕ, suc, Bool, true, false, List, [], ◌∷◌, length, Option, Some, None, refl, sym, subst}
use Rattle.std.specs.Prelude.{Ok, Err, option_map, option_and_then, find, position, nat_eq, slice_get, if◌then◌else◌}
use Rattle.pv_base.specs.declared.name.Name.{Name}
use Rattle.pv_base.specs.declared.place.Site.{Site}
use Rattle.ir_tree.specs.Table.{same_name}
use Rattle.ir_rules.specs.Seen.{ModuleV, FunctionV, BlockV, InstructionV}
use Rattle.profile_lines.specs.declared.profile.PhiLine.{PhiLine}
use Rattle.profile_lines.specs.declared.profile.PhiWord.{PhiWord}
use Rattle.profile_lines.specs.declared.profile.PhiWord.TheVariants as word
use Rattle.profile_lines.specs.declared.profile.ProfileLoop.{ProfileLoop}
use Rattle.loop_plan.specs.declared.plan.PhiGuess.{PhiGuess}
use Rattle.loop_plan.specs.declared.plan.PhiGuess.TheVariants as guess
use Rattle.loop_plan.specs.declared.plan.PhiPlan.{PhiPlan}
use Rattle.loop_plan.specs.declared.plan.CountedTest.{CountedTest}
use Rattle.loop_plan.specs.declared.plan.Region.{Region}
use Rattle.loop_plan.specs.declared.plan.Reason.TheVariants as reason
use Rattle.loop_plan.specs.Naming.{name_of, defines, instructions_of, function_named, block_named}
use Rattle.loop_plan.specs.Regions.{is_known, blocks_of, is_entered_by, latches, only}
use Rattle.loop_plan.specs.Triples.{Joining, joining}
use Rattle.loop_plan.specs.Phis.{PhiV, phis_of, first_of, listed_instructions, is_integer, is_reduction, register_from, joined, reduced, reduced_by, guess_of, plan_of, plans_from, phi_plans}
use Rattle.loop_plan.specs.Tests.{counters_of, counted_test}
use Rattle.loop_plan.specs.Plans.{Shape, label_at, region_with, with_phis, with_parts, with_latch, with_header, known_region, region_in, region_at, region_of}
use Rattle.loop_plan.specs.Promised.{FitsPhi, IsPlanned, ArePlanned, RegionOf, IsRegion}
use Rattle.loop_plan.specs.Laws.{RegionsStand}

only_one : {A : Type 0} (xs : List A) (x : A) → only xs ≡ Some x → xs ≡ x ∷ []
only_one [] x e = absurd cc
only_one (y ∷ []) x e = cc
only_one (y ∷ z ∷ rest) x e = absurd cc

-- ---- phis

module _ (f : FunctionV) (number : ℕ) (inside : List InstructionV) (latch : Name) where
  abbrev site : ℕ → Site
  site place = record { function = number; place = place }

  -- what is known of a reduction when its place is looked for
  reduced_at : (p : PhiV) (x : Name) (i : InstructionV) (j : Joining) (g : PhiGuess) → is_integer p.of ≡ true → register_from latch p ≡ Some x → find (defines x) inside ≡ Some i → joining i ≡ Some j → is_reduction inside p j ≡ true
      → (o : Option ℕ) → position (defines x) (instructions_of f) ≡ o → option_map (λ place. guess.Reduce (site place) j.kind) o ≡ Some g → FitsPhi f number inside latch p g
  reduced_at p x i j g integer taken defined joins alone None at e = absurd cc
  reduced_at p x i j g integer taken defined joins alone (Some place) at e =
      let own : guess.Reduce (site place) j.kind ≡ g = cc in
      subst (FitsPhi f number inside latch p) own (record {
        register = x;
        op = i;
        parts = j;
        integer = integer;
        taken = taken;
        defined = defined;
        joins = joins;
        alone = alone;
        function = refl;
        place = at;
        same = refl;
      })

  by_op : (p : PhiV) (x : Name) (i : InstructionV) (j : Joining) (g : PhiGuess) → is_integer p.of ≡ true → register_from latch p ≡ Some x → find (defines x) inside ≡ Some i → joining i ≡ Some j
      → (b : Bool) → is_reduction inside p j ≡ b → (if b then option_map (λ place. guess.Reduce (site place) j.kind) (position (defines x) (instructions_of f)) else None) ≡ Some g → FitsPhi f number inside latch p g
  by_op p x i j g integer taken defined joins false alone e = absurd cc
  by_op p x i j g integer taken defined joins true alone e = reduced_at p x i j g integer taken defined joins alone (position (defines x) (instructions_of f)) refl e

  by_instruction : (p : PhiV) (x : Name) (i : InstructionV) (g : PhiGuess) → is_integer p.of ≡ true → register_from latch p ≡ Some x → find (defines x) inside ≡ Some i
      → (o : Option Joining) → joining i ≡ o → option_and_then (reduced_by f number inside latch p x) o ≡ Some g → FitsPhi f number inside latch p g
  by_instruction p x i g integer taken defined None joins e = absurd cc
  by_instruction p x i g integer taken defined (Some j) joins e = by_op p x i j g integer taken defined joins (is_reduction inside p j) refl e

  by_register : (p : PhiV) (x : Name) (g : PhiGuess) → is_integer p.of ≡ true → register_from latch p ≡ Some x
      → (o : Option InstructionV) → find (defines x) inside ≡ o → option_and_then (reduced_by f number inside latch p x) (option_and_then joining o) ≡ Some g → FitsPhi f number inside latch p g
  by_register p x g integer taken None defined e = absurd cc
  by_register p x g integer taken (Some i) defined e = by_instruction p x i g integer taken defined (joining i) refl e

  by_value : (p : PhiV) (g : PhiGuess) → is_integer p.of ≡ true
      → (o : Option Name) → register_from latch p ≡ o → option_and_then (reduced f number inside latch p) o ≡ Some g → FitsPhi f number inside latch p g
  by_value p g integer None taken e = absurd cc
  by_value p g integer (Some x) taken e = by_register p x g integer taken (find (defines x) inside) refl e

  step_fits : (p : PhiV) (g : PhiGuess) (h : PhiGuess) (b : Bool) → is_integer p.of ≡ b → (b ≡ true → FitsPhi f number inside latch p h) → (if b then Some h else None) ≡ Some g → FitsPhi f number inside latch p g
  step_fits p g h false integer fits e = absurd cc
  step_fits p g h true integer fits e = let own : h ≡ g = cc in subst (FitsPhi f number inside latch p) own (fits refl)

  reduce_fits : (p : PhiV) (g : PhiGuess) (b : Bool) → is_integer p.of ≡ b → (if b then option_and_then (reduced f number inside latch p) (register_from latch p) else None) ≡ Some g → FitsPhi f number inside latch p g
  reduce_fits p g false integer e = absurd cc
  reduce_fits p g true integer e = by_value p g integer (register_from latch p) refl e

  guess_fits : (p : PhiV) (w : PhiWord) (g : PhiGuess) → guess_of f number inside latch p w ≡ Some g → FitsPhi f number inside latch p g
  guess_fits p (word.Step by) g e = step_fits p g (guess.Step by) (is_integer p.of) refl (λ integer. integer) e
  guess_fits p word.Same g e = let own : guess.Same ≡ g = cc in subst (FitsPhi f number inside latch p) own tt
  guess_fits p word.Reduce g e = reduce_fits p g (is_integer p.of) refl e

  -- over the lines of phis
  module _ (lines : List PhiLine) where
    by_line : (p : PhiV) (g : PhiGuess) (o : Option PhiLine) → option_and_then (λ line. guess_of f number inside latch p line.guess) o ≡ Some g → FitsPhi f number inside latch p g
    by_line p g None e = absurd cc
    by_line p g (Some line) e = guess_fits p line.guess g e

    is_planned : (place : ℕ) (p : PhiV) (x : PhiPlan) → (o : Option PhiGuess) → option_and_then (λ line. guess_of f number inside latch p line.guess) (find (λ line. same_name (name_of line.register) p.to) lines) ≡ o
        → option_map (λ g. record { phi = site place; guess = g }) o ≡ Some x → IsPlanned f number inside latch place p x
    is_planned place p x None e h = absurd cc
    is_planned place p x (Some g) e h =
        let own : record { phi = site place; guess = g } ≡ x = cc in
        subst (IsPlanned f number inside latch place p) own (record { function = refl; at = refl; fits = by_line p g (find (λ line. same_name (name_of line.register) p.to) lines) e })

    both : (place : ℕ) (p : PhiV) (ps : List PhiV) (xs : List PhiPlan)
        → (o : Option PhiPlan) → plan_of f number inside latch lines place p ≡ o → (os : Option (List PhiPlan)) → ((ys : List PhiPlan) → os ≡ Some ys → ArePlanned f number inside latch (suc place) ps ys) → joined o os ≡ Some xs → ArePlanned f number inside latch place (p ∷ ps) xs
    both place p ps xs None e os rest h = absurd cc
    both place p ps xs (Some x) e None rest h = absurd cc
    both place p ps xs (Some x) e (Some ys) rest h =
        let own : x ∷ ys ≡ xs = cc in
        subst (ArePlanned f number inside latch place (p ∷ ps)) own (is_planned place p x _ refl e, rest ys refl)

    are_planned : (place : ℕ) (ps : List PhiV) (xs : List PhiPlan) → plans_from f number inside latch lines place ps ≡ Some xs → ArePlanned f number inside latch place ps xs
    are_planned place [] xs e = let own : [] ≡ xs = cc in subst (ArePlanned f number inside latch place []) own tt
    are_planned place (p ∷ ps) xs e = both place p ps xs (plan_of f number inside latch lines place p) refl (plans_from f number inside latch lines (suc place) ps) (are_planned (suc place) ps) e

    phis_planned : (place : ℕ) (ps : List PhiV) (xs : List PhiPlan) (b : Bool) → (if b then plans_from f number inside latch lines place ps else None) ≡ Some xs → ArePlanned f number inside latch place ps xs
    phis_planned place ps xs false e = absurd cc
    phis_planned place ps xs true e = are_planned place ps xs e

-- ---- regions

module _ (f : FunctionV) (number : ℕ) (l : ProfileLoop) where
  -- what is known of a region in this function
  abbrev Stands : Region → Type 0
  Stands r = (r.function ≡ number) × RegionOf f r

  module _ (s : Shape) (header : BlockV) (latch : Name)
      (entered : is_entered_by f s.blocks s.header ≡ true) (returns : latches f s.blocks s.header ≡ s.latch ∷ []) (header_at : slice_get f.blocks s.header ≡ Some header) (latch_at : label_at f s.latch ≡ Some latch) where
    abbrev inside : List InstructionV
    inside = listed_instructions f s.blocks

    test_stands : (phis : List PhiPlan) (r : Region) → ArePlanned f number inside latch (first_of f s.header) (phis_of header) phis
        → (o : Option CountedTest) → counted_test f s.blocks inside latch (counters_of phis (phis_of header)) s.header s.latch ≡ o → region_with f number l s phis o ≡ Ok r → Stands r
    test_stands phis r planned None test e = absurd cc
    test_stands phis r planned (Some t) test e =
        let own : record { function = number; header = s.header; latch = s.latch; blocks = s.blocks; phis = phis; test = t } ≡ r = cc in
        subst Stands own (
          refl,
          record {
            header = header;
            latch = latch;
            entered = entered;
            returns = returns;
            header_at = header_at;
            latch_at = latch_at;
            phis = planned;
            test = test;
          },
        )

    phis_stand : (r : Region) (o : Option (List PhiPlan)) → phi_plans f number inside latch l.phis (first_of f s.header) (phis_of header) ≡ o → with_phis f number l s inside latch header o ≡ Ok r → Stands r
    phis_stand r None planned e = absurd cc
    phis_stand r (Some phis) planned e =
        test_stands phis r (phis_planned f number inside latch l.phis (first_of f s.header) (phis_of header) phis (nat_eq (length l.phis) (length (phis_of header))) planned)
        (counted_test f s.blocks inside latch (counters_of phis (phis_of header)) s.header s.latch) refl e

  parts_stand : (s : Shape) → is_entered_by f s.blocks s.header ≡ true → latches f s.blocks s.header ≡ s.latch ∷ []
      → (r : Region) (o : Option BlockV) → slice_get f.blocks s.header ≡ o → (n : Option Name) → label_at f s.latch ≡ n → with_parts f number l s o n ≡ Ok r → Stands r
  parts_stand s entered returns r None at n label e = absurd cc
  parts_stand s entered returns r (Some header) at None label e = absurd cc
  parts_stand s entered returns r (Some header) at (Some latch) label e = phis_stand s header latch entered returns at label r _ refl e

  latch_stands : (header : ℕ) (blocks : List ℕ) (r : Region) → is_entered_by f blocks header ≡ true
      → (o : Option ℕ) → only (latches f blocks header) ≡ o → with_latch f number l header blocks o ≡ Ok r → Stands r
  latch_stands header blocks r entered None one e = absurd cc
  latch_stands header blocks r entered (Some latch) one e =
      parts_stand (record { function = number; header = header; latch = latch; blocks = blocks }) entered (only_one (latches f blocks header) latch one) r _ refl _ refl e

  entry_stands : (header : ℕ) (blocks : List ℕ) (r : Region) (b : Bool) → is_entered_by f blocks header ≡ b
      → (if b then with_latch f number l header blocks (only (latches f blocks header)) else Err reason.Entry) ≡ Ok r → Stands r
  entry_stands header blocks r false entered e = absurd cc
  entry_stands header blocks r true entered e = latch_stands header blocks r entered _ refl e

  header_stands : (blocks : List ℕ) (r : Region) (o : Option ℕ) → with_header f number l blocks o ≡ Ok r → Stands r
  header_stands blocks r None e = absurd cc
  header_stands blocks r (Some header) e = entry_stands header blocks r _ refl e

-- ---- functions

module _ (v : ModuleV) (l : ProfileLoop) (r : Region) where
  known_stands : (number : ℕ) (f : FunctionV) → slice_get v.functions number ≡ Some f → (b : Bool) → (if b then known_region f number l else Err reason.Unknown) ≡ Ok r → IsRegion v r
  known_stands number f at false e = absurd cc
  known_stands number f at true e =
      let stands = header_stands f number l (blocks_of f l) r (block_named f (name_of l.header)) e in
      record { function = f; at = subst (λ k. slice_get v.functions k ≡ Some f) (sym stands.0) at; stands = stands.1 }

  function_stands : (number : ℕ) (o : Option FunctionV) → slice_get v.functions number ≡ o → region_in v l number o ≡ Ok r → IsRegion v r
  function_stands number None at e = absurd cc
  function_stands number (Some f) at e = known_stands number f at (is_known v l f) e

  named_stands : (o : Option ℕ) → region_at v l o ≡ Ok r → IsRegion v r
  named_stands None e = absurd cc
  named_stands (Some number) e = function_stands number (slice_get v.functions number) refl e

pub regions_stand : RegionsStand
unfolding region_of
regions_stand v l r e = named_stands v l r (function_named v l.function) e
