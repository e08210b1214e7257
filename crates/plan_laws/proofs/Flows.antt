-- The law of flows.
use Rattle.std.proofs.Common.{◌≡◌, Bool, true, false, [], Option, Some, None, refl, ap, ◌∙◌, ◌⊎◌, inl, inr}
use Rattle.std.specs.Prelude.{◌&&◌, not, option_map}
use Rattle.std.specs.List.{list_any}
use Rattle.std.specs.Option.{option_or}
use Rattle.int_num.specs.declared.ops.RedKind.{RedKind}
use Rattle.pv_base.specs.declared.place.AllocSite.{AllocSite}
use Rattle.pv_base.specs.declared.place.Heap.TheVariants.{Private, ShortLived, Reduction, ReadOnly, Unrestricted}
use Rattle.ir_tree.specs.declared.plans.Tag.{Tag}
use Rattle.ir_rules.specs.Seen.{ModuleV}
use Rattle.profile_lines.specs.declared.profile.FlowLine.{FlowLine}
use Rattle.profile_lines.specs.declared.profile.ProfileLoop.{ProfileLoop}
use Rattle.loop_plan.specs.Naming.{object_named, places_of}
use Rattle.loop_plan.specs.Heaps.{Flow, flow, flows, uses_of, tag, tags, reduction_tag, when, locals, is_covered, one_kind, tag_of, heap_of, unrestricted, same_place, same_heap}
use Rattle.plan_laws.specs.Laws.{Has, FlowsAreGuessed}
use Rattle.plan_laws.proofs.Lists.{one_holds, not_found, given_of, gives}
use Rattle.plan_laws.proofs.Same.{place_same}
use Rattle.plan_laws.proofs.Facts.{facts}
use Rattle.plan_laws.proofs.Places.{object_is_there}

no_site : (o : Option (AllocSite × Tag)) → option_map (λ p. p.0) o ≡ None → o ≡ None
no_site None e = refl
no_site (Some x) e = absurd cc

module _ (v : ModuleV) (l : ProfileLoop) where
  flow_object : (line : FlowLine) (d : Flow) (o : Option AllocSite) → object_named v line.object ≡ o → option_map (λ a. record { object = a; offset = line.offset; length = line.length }) o ≡ Some d → object_named v line.object ≡ Some d.object
  flow_object line d None at e = absurd cc
  flow_object line d (Some a) at e =
      let own : record { object = a; offset = line.offset; length = line.length } ≡ d = cc in
      at ∙ ap (λ (x : Flow). Some x.object) own

  flow_is_there : (d : Flow) → Has (flows v l) d → Has (places_of v) d.object
  flow_is_there d h =
      let g = given_of (flow v l) l.flows d h in
      object_is_there v g.0.object d.object (flow_object g.0 d (object_named v g.0.object) refl g.2)

  -- of the five rules, the first two alone go before the one of flows
  first_two : (local : Bool) (k : Option RedKind) (writes reads : Bool) →
      let o = option_or (when v l local (tag v l ShortLived)) (option_or (option_map (reduction_tag v l) k) (option_or (when v l true (tag v l Unrestricted)) (option_or (when v l writes (tag v l Private)) (when v l reads (tag v l ReadOnly))))) in
      (o ≡ Some (tag v l Unrestricted)) ⊎ (option_map (λ t. t.heap) o ≡ Some ShortLived) ⊎ (option_map (λ t. t.heap) o ≡ Some Reduction)
  first_two true k writes reads = inr (inl refl)
  first_two false (Some kind) writes reads = inr (inr refl)
  first_two false None writes reads = inl refl

  -- the class of an object whose bytes flow
  flowing : (a : AllocSite) → list_any (λ d. same_place a d.object && not (is_covered v l d)) (flows v l) ≡ true
      → (tag_of v l a ≡ Some (tag v l Unrestricted)) ⊎ (heap_of v l a ≡ Some ShortLived) ⊎ (heap_of v l a ≡ Some Reduction)
  flowing a any = rw any (first_two (list_any (same_place a) (locals v l)) (one_kind v l (uses_of v l a)) (list_any (λ u. u.writes) (uses_of v l a)) (list_any (λ u. not u.writes) (uses_of v l a)))

  uncovered : (d : Flow) → Has (flows v l) d → is_covered v l d ≡ false → list_any (λ e. same_place d.object e.object && not (is_covered v l e)) (flows v l) ≡ true
  uncovered d h bare = let here = place_same d.object in one_holds (λ e. same_place d.object e.object && not (is_covered v l e)) (flows v l) d (rw here (rw bare refl)) h

  never : (d : Flow) → Has (flows v l) d → unrestricted v l ≡ None → tag_of v l d.object ≡ Some (tag v l Unrestricted) → ⊥
  never d h none is =
      let own = gives (λ a. option_map (λ t. (a, t)) (tag_of v l a)) (places_of v) d.object (d.object, tag v l Unrestricted) (ap (option_map (λ t. (d.object, t))) is) (flow_is_there d h) in
      let bad : true ≡ false = not_found (λ p. same_heap p.1.heap Unrestricted) (tags v l) (d.object, tag v l Unrestricted) (no_site _ none) own in
      absurd cc

pub flows_are_guessed : FlowsAreGuessed
flows_are_guessed v q l p d is h bare =
    let f = facts v is.earlier p.number l p is.planned in
    elim (flowing v l d.object (uncovered v l d h bare)) [
      | inl e ↦ absurd (never v l d h f.restricted e)
      | inr e ↦ e
    ]
