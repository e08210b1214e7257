-- The law of reduction sites.
use Rattle.std.proofs.Common.{◌≡◌, Bool, true, false, List, [], ◌∷◌, Option, Some, None, refl, sym, subst, ap, ◌∙◌, inl, inr}
use Rattle.std.specs.Prelude.{◌&&◌, not, option_map, is_some, if◌then◌else◌}
use Rattle.std.specs.List.{list_any, list_all}
use Rattle.std.specs.Option.{option_or}
use Rattle.int_num.specs.declared.ops.RedKind.{RedKind}
use Rattle.pv_base.specs.declared.place.AllocSite.{AllocSite}
use Rattle.pv_base.specs.declared.place.Heap.TheVariants.{Private, ShortLived, Reduction, ReadOnly, Unrestricted}
use Rattle.ir_tree.specs.declared.plans.Tag.{Tag}
use Rattle.ir_rules.specs.Seen.{ModuleV}
use Rattle.profile_lines.specs.declared.profile.ProfileLoop.{ProfileLoop}
use Rattle.loop_plan.specs.Heaps.{Used, uses, uses_of, tag, reduction_tag, when, locals, flows, is_covered, one_kind, element_kind, tag_of, same_place, same_kinds}
use Rattle.plan_laws.specs.Laws.{Has, ReductionsHaveOneKind}
use Rattle.plan_laws.proofs.Lists.{and_both, all_hold, in_filter}
use Rattle.plan_laws.proofs.Same.{some_kinds, place_same}
use Rattle.plan_laws.proofs.Facts.{facts}
use Rattle.plan_laws.proofs.Laws.{tags_are_given}

module _ (v : ModuleV) (l : ProfileLoop) where
  -- of the five rules, the second alone gives a reduction
  second : (local : Bool) (k : Option RedKind) (flowing writes reads : Bool) (t : Tag)
      → option_or (when v l local (tag v l ShortLived)) (option_or (option_map (reduction_tag v l) k) (option_or (when v l flowing (tag v l Unrestricted)) (option_or (when v l writes (tag v l Private)) (when v l reads (tag v l ReadOnly))))) ≡ Some t
      → t.heap ≡ Reduction → (kind : RedKind) × (k ≡ Some kind) × (t.kind ≡ Some kind)
  second true k flowing writes reads t e is = let own : tag v l ShortLived ≡ t = cc in let no : ShortLived ≡ Reduction = ap (λ x. x.heap) own ∙ is in absurd cc
  second false (Some kind) flowing writes reads t e is = let own : reduction_tag v l kind ≡ t = cc in (kind, refl, sym (ap (λ x. x.kind) own))
  second false None true writes reads t e is = let own : tag v l Unrestricted ≡ t = cc in let no : Unrestricted ≡ Reduction = ap (λ x. x.heap) own ∙ is in absurd cc
  second false None false true reads t e is = let own : tag v l Private ≡ t = cc in let no : Private ≡ Reduction = ap (λ x. x.heap) own ∙ is in absurd cc
  second false None false false true t e is = let own : tag v l ReadOnly ≡ t = cc in let no : ReadOnly ≡ Reduction = ap (λ x. x.heap) own ∙ is in absurd cc
  second false None false false false t e is = absurd cc

  one_or : (u : Used) (us : List Used) (w : Used) (kind : RedKind) (b : Bool) → (is_some (element_kind v l u) && list_all (λ x. same_kinds (element_kind v l x) (element_kind v l u)) us) ≡ b
      → (if b then element_kind v l u else None) ≡ Some kind → Has (u ∷ us) w → element_kind v l w ≡ Some kind
  one_or u us w kind false all e h = absurd cc
  one_or u us w kind true all e (inl s) = ap (element_kind v l) (sym s) ∙ e
  one_or u us w kind true all e (inr h) =
      let two = and_both (is_some (element_kind v l u)) (list_all (λ x. same_kinds (element_kind v l x) (element_kind v l u)) us) all in
      some_kinds (element_kind v l w) (element_kind v l u) (all_hold (λ x. same_kinds (element_kind v l x) (element_kind v l u)) us w two.1 h) ∙ e

  -- accesses that all belong to triples of one kind
  of_one_kind : (us : List Used) (w : Used) (kind : RedKind) → one_kind v l us ≡ Some kind → Has us w → element_kind v l w ≡ Some kind
  of_one_kind [] w kind e h = absurd h
  of_one_kind (u ∷ us) w kind e h = one_or u us w kind (is_some (element_kind v l u) && list_all (λ x. same_kinds (element_kind v l x) (element_kind v l u)) us) refl e h

  reduced_alone : (a : AllocSite) (t : Tag) → tag_of v l a ≡ Some t → t.heap ≡ Reduction → (kind : RedKind) × (t.kind ≡ Some kind) × ((u : Used) → Has (uses v l) u → u.object ≡ a → element_kind v l u ≡ Some kind)
  reduced_alone a t e is =
      let s = second (list_any (same_place a) (locals v l)) (one_kind v l (uses_of v l a)) (list_any (λ d. same_place a d.object && not (is_covered v l d)) (flows v l))
      (list_any (λ u. u.writes) (uses_of v l a)) (list_any (λ u. not u.writes) (uses_of v l a)) t e is in
      (s.0, s.2, λ u h same. of_one_kind (uses_of v l a) u s.0 s.1 (in_filter (λ w. same_place a w.object) (uses v l) u (subst (λ x. same_place a x ≡ true) (sym same) (place_same a)) h))

pub reductions_have_one_kind : ReductionsHaveOneKind
reductions_have_one_kind v q l p own is h heap =
    let f = facts v is.earlier p.number l p is.planned in
    reduced_alone v l own.0 own.1 (tags_are_given v l own (subst (λ ts. Has ts own) f.tags_are h)) heap
