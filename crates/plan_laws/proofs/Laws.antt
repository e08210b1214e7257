-- The laws of one plan.
use Rattle.std.proofs.Common.{◌≡◌, ℕ, Bool, true, false, List, [], ◌∷◌, Option, Some, None, refl, sym, subst, ap, ◌∙◌}
use Rattle.std.specs.Prelude.{◌&&◌, not, nat_eq, option_map, if◌then◌else◌}
use Rattle.std.specs.List.{filter_map, list_any, list_all}
use Rattle.std.specs.Option.{option_or}
use Rattle.pv_base.specs.declared.place.Site.{Site}
use Rattle.pv_base.specs.declared.place.AllocSite.{AllocSite}
use Rattle.pv_base.specs.declared.place.Heap.{Heap}
use Rattle.pv_base.specs.declared.place.Heap.TheVariants.{Private, ShortLived, ReadOnly, Unrestricted}
use Rattle.ir_tree.specs.declared.plans.Tag.{Tag}
use Rattle.ir_tree.specs.declared.plans.Expect.{Expect}
use Rattle.ir_rules.specs.Seen.{ModuleV}
use Rattle.profile_lines.specs.declared.profile.ProfileLoop.{ProfileLoop}
use Rattle.loop_plan.specs.Naming.{places_of, sites_of}
use Rattle.loop_plan.specs.Triples.{same_site}
use Rattle.loop_plan.specs.Heaps.{Used, uses, uses_of, tag, reduction_tag, when, locals, flows, is_covered, one_kind, tag_of, heap_of, heaps_at, expectation, slots_at, expectations_at, expected, is_mixed, same_place, same_heap}
use Rattle.plan_laws.specs.Laws.{Has, SlotsTouchTheirClass, SlotsHaveOneClass, TagsAreOfSites}
use Rattle.plan_laws.proofs.Lists.{not_false, all_hold, one_holds, not_found, in_filter, given_of, gives, of_flat}
use Rattle.plan_laws.proofs.Same.{number_same, heaps, site_same, place_same}
use Rattle.plan_laws.proofs.Facts.{facts}

-- ---- tags

module _ (v : ModuleV) (l : ProfileLoop) where
  tag_paired : (a : AllocSite) (own : AllocSite × Tag) (o : Option Tag) → tag_of v l a ≡ o → option_map (λ t. (a, t)) o ≡ Some own → tag_of v l own.0 ≡ Some own.1
  tag_paired a own None e h = absurd cc
  tag_paired a own (Some t) e h =
      let same : (a, t) ≡ own = cc in
      subst (λ (x : AllocSite × Tag). tag_of v l x.0 ≡ Some x.1) same e

  pub tags_are_given : (own : AllocSite × Tag) → Has (filter_map (λ a. option_map (λ t. (a, t)) (tag_of v l a)) (places_of v)) own → tag_of v l own.0 ≡ Some own.1
  tags_are_given own h =
      let g = given_of (λ a. option_map (λ t. (a, t)) (tag_of v l a)) (places_of v) own h in
      tag_paired g.0 own (tag_of v l g.0) refl g.2

pub tags_are_of_sites : TagsAreOfSites
tags_are_of_sites v q l p own is h =
    let f = facts v is.earlier p.number l p is.planned in
    tags_are_given v l own (subst (λ ts. Has ts own) f.tags_are h)

-- ---- slots

module _ (v : ModuleV) (l : ProfileLoop) where
  -- the class of a slot is that of the first object that it touched
  expected_first : (at : Site) (slot : ℕ) (hs : List Heap) (e : Expect) → expectation v l at slot hs ≡ Some e → (e.at ≡ at) × (e.slot ≡ slot) × (rest : List Heap) × (hs ≡ e.heap ∷ rest)
  expected_first at slot [] e is = absurd cc
  expected_first at slot (h ∷ rest) e is =
      let own : record { at = at; slot = slot; heap = h } ≡ e = cc in
      subst (λ (x : Expect). (x.at ≡ at) × (x.slot ≡ slot) × (others : List Heap) × (h ∷ rest ≡ x.heap ∷ others)) own (refl, refl, rest, refl)

  pub expected_of : (e : Expect) → Has (expected v l) e → (rest : List Heap) × (heaps_at v l e.at e.slot ≡ e.heap ∷ rest)
  expected_of e h =
      let f = of_flat (expectations_at v l) (sites_of v) e h in
      let g = given_of (λ slot. expectation v l f.0 slot (heaps_at v l f.0 slot)) (slots_at v l f.0) e f.2 in
      let x = expected_first f.0 g.0 (heaps_at v l f.0 g.0) e g.2 in
      (x.2, subst (λ s. heaps_at v l s e.slot ≡ e.heap ∷ x.2) (sym x.0) (subst (λ k. heaps_at v l f.0 k ≡ e.heap ∷ x.2) (sym x.1) x.3))

  -- what is used has a class
  some_tag : (a : Option Tag) (t : Tag) → (u : Tag) × (option_or a (Some t) ≡ Some u)
  some_tag None t = (t, refl)
  some_tag (Some s) t = (s, refl)

  some_or : (a b : Option Tag) → ((t : Tag) × (b ≡ Some t)) → (u : Tag) × (option_or a b ≡ Some u)
  some_or None b t = t
  some_or (Some s) b t = (s, refl)

  by_writes : (us : List Used) (u : Used) → Has us u → (b : Bool) → u.writes ≡ b → (t : Tag) × (option_or (when v l (list_any (λ w. w.writes) us) (tag v l Private)) (when v l (list_any (λ w. not w.writes) us) (tag v l ReadOnly)) ≡ Some t)
  by_writes us u h true is = let any = one_holds (λ w. w.writes) us u is h in rw any (tag v l Private, refl)
  by_writes us u h false is =
      let no : not u.writes ≡ true = ap not is in
      let any = one_holds (λ w. not w.writes) us u no h in
      rw any (some_tag (when v l (list_any (λ w. w.writes) us) (tag v l Private)) (tag v l ReadOnly))

  written_or_read : (us : List Used) (u : Used) → Has us u → (t : Tag) × (option_or (when v l (list_any (λ w. w.writes) us) (tag v l Private)) (when v l (list_any (λ w. not w.writes) us) (tag v l ReadOnly)) ≡ Some t)
  written_or_read us u h = by_writes us u h u.writes refl

  pub used_has_tag : (u : Used) → Has (uses v l) u → (t : Tag) × (tag_of v l u.object ≡ Some t)
  used_has_tag u h =
      let mine = in_filter (λ w. same_place u.object w.object) (uses v l) u (place_same u.object) h in
      some_or (when v l (list_any (same_place u.object) (locals v l)) (tag v l ShortLived)) _
      (some_or (option_map (reduction_tag v l) (one_kind v l (uses_of v l u.object))) _
      (some_or (when v l (list_any (λ d. same_place u.object d.object && not (is_covered v l d)) (flows v l)) (tag v l Unrestricted)) _ (written_or_read (uses_of v l u.object) u mine)))

  pub used_has_heap : (u : Used) → Has (uses v l) u → (h : Heap) × (heap_of v l u.object ≡ Some h)
  used_has_heap u h = let t = used_has_tag u h in (t.0.heap, ap (option_map (λ x. x.heap)) t.1)

  -- an object that a slot touched is among those of the slot
  pub is_at_slot : (u : Used) (h : Heap) (at : Site) (slot : ℕ) → Has (uses v l) u → u.at ≡ at → u.slot ≡ slot → heap_of v l u.object ≡ Some h → Has (heaps_at v l at slot) h
  is_at_slot u h at slot has here this is =
      let place : same_site at u.at ≡ true = subst (λ s. same_site at s ≡ true) (sym here) (site_same at) in
      let number : nat_eq slot u.slot ≡ true = subst (λ k. nat_eq slot k ≡ true) (sym this) (number_same slot) in
      let both : (same_site at u.at && nat_eq slot u.slot) ≡ true = rw place number in
      gives (λ w. if same_site at w.at && nat_eq slot w.slot then heap_of v l w.object else None) (uses v l) u h (rw both is) has

pub slots_touch_their_class : SlotsTouchTheirClass
slots_touch_their_class v q l p e u is he hu here this =
    let f = facts v is.earlier p.number l p is.planned in
    let own = subst (λ es. Has es e) f.expected_are he in
    let h = used_has_heap v l u hu in
    let pure = not_false (list_all (same_heap e.heap) (heaps_at v l e.at e.slot)) (not_found (is_mixed v l) (expected v l) e f.unmixed own) in
    let same = all_hold (same_heap e.heap) (heaps_at v l e.at e.slot) h.0 pure (is_at_slot v l u h.0 e.at e.slot hu here this h.1) in
    h.1 ∙ ap Some (sym (heaps e.heap h.0 same))

first_is : (xs ys : List Heap) (a b : Heap) → a ∷ xs ≡ b ∷ ys → a ≡ b
first_is xs ys a b e = cc

pub slots_have_one_class : SlotsHaveOneClass
slots_have_one_class v q l p e g is he hg here this =
    let f = facts v is.earlier p.number l p is.planned in
    let x = expected_of v l e (subst (λ es. Has es e) f.expected_are he) in
    let y = expected_of v l g (subst (λ es. Has es g) f.expected_are hg) in
    let z = subst (λ s. heaps_at v l s g.slot ≡ g.heap ∷ y.0) (sym here) y.1 in
    let w = subst (λ k. heaps_at v l e.at k ≡ g.heap ∷ y.0) (sym this) z in
    first_is x.0 y.0 e.heap g.heap (sym x.1 ∙ w)
