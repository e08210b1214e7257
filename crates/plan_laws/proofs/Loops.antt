-- The laws of all planned loops.
use Rattle.std.proofs.Common.{◌≡◌, ℕ, suc, ◌+◌, Bool, true, false, List, [], ◌∷◌, ◌++◌, Option, Some, None, slice_get, refl, sym, subst, ap, ◌∙◌, inl, inr, arith}
use Rattle.std.specs.Prelude.{◌&&◌, not, find, option_map, Result, Ok, Err}
use Rattle.std.specs.List.{flat_map}
use Rattle.pv_base.specs.declared.place.AllocSite.{AllocSite}
use Rattle.ir_tree.specs.declared.plans.Tag.{Tag}
use Rattle.ir_rules.specs.Seen.{ModuleV}
use Rattle.profile_lines.specs.declared.profile.ProfileLoop.{ProfileLoop}
use Rattle.loop_plan.specs.declared.plan.LoopPlan.{LoopPlan}
use Rattle.loop_plan.specs.declared.plan.Reason.{Reason}
use Rattle.loop_plan.specs.Heaps.{tags, tag_of, tagged_otherwise, same_place, same_tag}
use Rattle.loop_plan.specs.Plans.{loop_plan, plan_from, plan_of, planned, with_answer}
use Rattle.plan_laws.specs.Laws.{Has, EachHasItsLoop, LoopsAgree}
use Rattle.plan_laws.proofs.Lists.{not_false, none_holds, not_found, in_front, behind, in_flat}
use Rattle.plan_laws.proofs.Same.{tags as same_tags, place_same}
use Rattle.plan_laws.proofs.Facts.{Planned, facts}
use Rattle.plan_laws.proofs.Laws.{tags_are_given}

-- tags of two plans agree
abbrev Agree : LoopPlan → LoopPlan → Type 0
Agree p r = (own other : AllocSite × Tag) → Has p.tags own → Has r.tags other → own.0 ≡ other.0 → own.1 ≡ other.1

turned : (p r : LoopPlan) → Agree p r → Agree r p
turned p r a own other h g e = sym (a other own g h (sym e))

-- where a conjunction fails and its first part holds, the second does not
second_fails : (a b : Bool) → (a && not b) ≡ false → a ≡ true → b ≡ true
second_fails true b e is = not_false b e
second_fails false b e is = absurd cc

no_site : (o : Option (AllocSite × Tag)) → option_map (λ p. p.0) o ≡ None → o ≡ None
no_site None e = refl
no_site (Some x) e = absurd cc

module _ (v : ModuleV) where
  -- a loop agrees with those before it
  agrees_before : (earlier : List LoopPlan) (number : ℕ) (l : ProfileLoop) (p r : LoopPlan) → Planned v earlier number l r → Has earlier p → Agree p r
  agrees_before earlier number l p r f before own other h g e =
      let all = flat_map (λ x. x.tags) earlier in
      let mine = subst (λ ts. Has ts other) f.tags_are g in
      let none = not_found (tagged_otherwise all) (tags v l) other (no_site (find (tagged_otherwise all) (tags v l)) f.agrees) mine in
      let no = none_holds (λ x. same_place x.0 other.0 && not (same_tag x.1 other.1)) all own none (in_flat (λ x. x.tags) earlier p own before h) in
      let here : same_place own.0 other.0 ≡ true = subst (λ a. same_place own.0 a ≡ true) e (place_same own.0) in
      same_tags own.1 other.1 (second_fails (same_place own.0 other.0) (same_tag own.1 other.1) no here)

  -- and with itself
  agrees_alone : (earlier : List LoopPlan) (number : ℕ) (l : ProfileLoop) (p : LoopPlan) → Planned v earlier number l p → Agree p p
  agrees_alone earlier number l p f own other h g e =
      let a = tags_are_given v l own (subst (λ ts. Has ts own) f.tags_are h) in
      let b = tags_are_given v l other (subst (λ ts. Has ts other) f.tags_are g) in
      let same : Some own.1 ≡ Some other.1 = sym a ∙ ap (tag_of v l) e ∙ b in
      cc

  -- what is behind these
  abbrev Behind : List LoopPlan → ℕ → List ProfileLoop → LoopPlan → Type 0
  Behind earlier number ls r = Has (plan_from v earlier number ls).loops r

  later_or : (earlier : List LoopPlan) (number : ℕ) (l : ProfileLoop) (ls : List ProfileLoop) (p r : LoopPlan)
      → ((more : List LoopPlan) → Has (earlier ++ more) p → Behind (earlier ++ more) (suc number) ls r → Agree p r) → Has earlier p
      → (o : Result LoopPlan Reason) → loop_plan v earlier number l ≡ o → Has (with_answer number o (plan_from v (earlier ++ planned o) (suc number) ls)).loops r → Agree p r
  later_or earlier number l ls p r rest before (Err e) is h = rest [] (in_front earlier [] p before) h
  later_or earlier number l ls p r rest before (Ok x) is (inl s) =
      subst (Agree p) s (agrees_before earlier number l p x (facts v earlier number l x is) before)
  later_or earlier number l ls p r rest before (Ok x) is (inr h) = rest (x ∷ []) (in_front earlier (x ∷ []) p before) h

  later_agrees : (earlier : List LoopPlan) (number : ℕ) (ls : List ProfileLoop) (p r : LoopPlan) → Has earlier p → Behind earlier number ls r → Agree p r
  later_agrees earlier number [] p r before h = absurd h
  later_agrees earlier number (l ∷ ls) p r before h =
      later_or earlier number l ls p r (λ more. later_agrees (earlier ++ more) (suc number) ls p r) before (loop_plan v earlier number l) refl h

  agree_or : (earlier : List LoopPlan) (number : ℕ) (l : ProfileLoop) (ls : List ProfileLoop) (p r : LoopPlan)
      → ((more : List LoopPlan) → Behind (earlier ++ more) (suc number) ls p → Behind (earlier ++ more) (suc number) ls r → Agree p r)
      → (o : Result LoopPlan Reason) → loop_plan v earlier number l ≡ o
      → Has (with_answer number o (plan_from v (earlier ++ planned o) (suc number) ls)).loops p → Has (with_answer number o (plan_from v (earlier ++ planned o) (suc number) ls)).loops r → Agree p r
  agree_or earlier number l ls p r rest (Err e) is h g = rest [] h g
  agree_or earlier number l ls p r rest (Ok x) is (inl s) (inl t) = subst (λ y. Agree y r) s (subst (Agree x) t (agrees_alone earlier number l x (facts v earlier number l x is)))
  agree_or earlier number l ls p r rest (Ok x) is (inl s) (inr g) = subst (λ y. Agree y r) s (later_agrees (earlier ++ x ∷ []) (suc number) ls x r (behind earlier (x ∷ []) x (inl refl)) g)
  agree_or earlier number l ls p r rest (Ok x) is (inr h) (inl t) = turned r p (subst (λ y. Agree y p) t (later_agrees (earlier ++ x ∷ []) (suc number) ls x p (behind earlier (x ∷ []) x (inl refl)) h))
  agree_or earlier number l ls p r rest (Ok x) is (inr h) (inr g) = rest (x ∷ []) h g

  all_agree : (earlier : List LoopPlan) (number : ℕ) (ls : List ProfileLoop) (p r : LoopPlan) → Behind earlier number ls p → Behind earlier number ls r → Agree p r
  all_agree earlier number [] p r h g = absurd h
  all_agree earlier number (l ∷ ls) p r h g = agree_or earlier number l ls p r (λ more. all_agree (earlier ++ more) (suc number) ls p r) (loop_plan v earlier number l) refl h g

  -- ---- whose plan it is

  pub record Of (number : ℕ) (ls : List ProfileLoop) (p : LoopPlan) : Type 0 where
    pub loop : ProfileLoop
    pub place : ℕ
    pub earlier : List LoopPlan
    pub at : slice_get ls place ≡ Some loop
    pub number_is : p.number ≡ number + place
    pub planned_is : loop_plan v earlier p.number loop ≡ Ok p

  next : (number : ℕ) (l : ProfileLoop) (ls : List ProfileLoop) (p : LoopPlan) → Of (suc number) ls p → Of number (l ∷ ls) p
  next number l ls p x = record {
    loop = x.loop;
    place = suc x.place;
    earlier = x.earlier;
    at = x.at;
    number_is = (let e : suc number + x.place ≡ number + suc x.place = omega arith in x.number_is ∙ e);
    planned_is = x.planned_is;
  }

  of_or : (earlier : List LoopPlan) (number : ℕ) (l : ProfileLoop) (ls : List ProfileLoop) (p : LoopPlan) → ((more : List LoopPlan) → Behind (earlier ++ more) (suc number) ls p → Of (suc number) ls p)
      → (o : Result LoopPlan Reason) → loop_plan v earlier number l ≡ o → Has (with_answer number o (plan_from v (earlier ++ planned o) (suc number) ls)).loops p → Of number (l ∷ ls) p
  of_or earlier number l ls p rest (Err e) is h = next number l ls p (rest [] h)
  of_or earlier number l ls p rest (Ok x) is (inl s) =
      let f = facts v earlier number l x is in
      let zero_more : number + 0 ≡ number = omega arith in
      subst (Of number (l ∷ ls)) s (record {
        loop = l;
        place = 0;
        earlier = earlier;
        at = refl;
        number_is = f.number_is ∙ sym zero_more;
        planned_is = subst (λ k. loop_plan v earlier k l ≡ Ok x) (sym f.number_is) is;
      })
  of_or earlier number l ls p rest (Ok x) is (inr h) = next number l ls p (rest (x ∷ []) h)

  whose : (earlier : List LoopPlan) (number : ℕ) (ls : List ProfileLoop) (p : LoopPlan) → Behind earlier number ls p → Of number ls p
  whose earlier number [] p h = absurd h
  whose earlier number (l ∷ ls) p h = of_or earlier number l ls p (λ more. whose (earlier ++ more) (suc number) ls p) (loop_plan v earlier number l) refl h

pub loops_agree : LoopsAgree
unfolding plan_of
loops_agree v q p r own other h g = all_agree v [] 0 q.loops p r h g own other

pub each_has_its_loop : EachHasItsLoop
unfolding plan_of
each_has_its_loop v q p h =
    let x = whose v [] 0 q.loops p h in
    let zero_more : 0 + x.place ≡ x.place = omega arith in
    (x.loop, record { earlier = x.earlier; at = subst (λ k. slice_get q.loops k ≡ Some x.loop) (sym (x.number_is ∙ zero_more)) x.at; planned = x.planned_is })
