-- What the plan of a loop says, in the words of who relies on it.
use Rattle.std.specs.Prelude.{ℕ, ◌≡◌, ◌+◌, ◌≤◌, ◌⊎◌, List, [], ◌∷◌, length, Some, Ok, true, false, slice_get}
use Rattle.int_num.specs.declared.ops.RedKind.{RedKind}
use Rattle.pv_base.specs.declared.place.AllocSite.{AllocSite}
use Rattle.pv_base.specs.declared.place.AllocSite.TheVariants.{Global}
use Rattle.pv_base.specs.declared.place.Heap.TheVariants.{Private, ShortLived, Reduction}
use Rattle.ir_tree.specs.declared.plans.Tag.{Tag}
use Rattle.ir_tree.specs.declared.plans.Expect.{Expect}
use Rattle.ir_tree.specs.declared.plans.MemGuess.{MemGuess}
use Rattle.ir_rules.specs.Seen.{ModuleV}
use Rattle.profile_lines.specs.declared.profile.ProfileLoop.{ProfileLoop}
use Rattle.profile_lines.specs.declared.profile.Profile.{Profile}
use Rattle.loop_plan.specs.declared.plan.LoopPlan.{LoopPlan}
use Rattle.loop_plan.specs.Heaps.{Used, Flow, uses, flows, is_covered, heap_of, tag_of, element_kind, size_of, are_apart}
use Rattle.loop_plan.specs.Plans.{loop_plan, plan_of}

-- x is one of these
abbrev pub Has : {A : Type 0} → List A → A → Type 0
Has [] x = ⊥
Has (y ∷ ys) x = (y ≡ x) ⊎ Has ys x

-- the plan of this loop of the profile, behind the loops that are planned before it
pub record IsPlanOf (v : ModuleV) (q : Profile) (l : ProfileLoop) (p : LoopPlan) : Type 0 where
  pub earlier : List LoopPlan
  pub at : slice_get q.loops p.number ≡ Some l
  pub planned : loop_plan v earlier p.number l ≡ Ok p

-- Each plan is that of the loop of its number.
abbrev pub EachHasItsLoop : Type 0
EachHasItsLoop = (v : ModuleV) (q : Profile) (p : LoopPlan) → Has (plan_of v q).loops p → (l : ProfileLoop) × IsPlanOf v q l p

-- The expected class of a slot is the class of every object that the profile names there.
abbrev pub SlotsTouchTheirClass : Type 0
SlotsTouchTheirClass =
    (v : ModuleV) (q : Profile) (l : ProfileLoop) (p : LoopPlan) (e : Expect) (u : Used) → IsPlanOf v q l p → Has p.expected e → Has (uses v l) u → u.at ≡ e.at → u.slot ≡ e.slot
    → heap_of v l u.object ≡ Some e.heap

-- A slot has one expected class at most.
abbrev pub SlotsHaveOneClass : Type 0
SlotsHaveOneClass =
    (v : ModuleV) (q : Profile) (l : ProfileLoop) (p : LoopPlan) (e f : Expect) → IsPlanOf v q l p → Has p.expected e → Has p.expected f → e.at ≡ f.at → e.slot ≡ f.slot → e.heap ≡ f.heap

-- A tag is the one that the rules give its site, so a site has one.
abbrev pub TagsAreOfSites : Type 0
TagsAreOfSites = (v : ModuleV) (q : Profile) (l : ProfileLoop) (p : LoopPlan) (own : AllocSite × Tag) → IsPlanOf v q l p → Has p.tags own → tag_of v l own.0 ≡ Some own.1

-- A guess lies inside a private global.
abbrev pub GuessesAreInside : Type 0
GuessesAreInside =
    (v : ModuleV) (q : Profile) (l : ProfileLoop) (p : LoopPlan) (g : MemGuess) → IsPlanOf v q l p → Has p.guesses g
    → (size : ℕ) × (size_of v l g.global ≡ Some size) × (g.offset + length g.bytes ≤ size) × (heap_of v l (Global g.global) ≡ Some Private)

-- No two guesses overlap.
abbrev pub GuessesAreApart : Type 0
GuessesAreApart = (v : ModuleV) (q : Profile) (l : ProfileLoop) (p : LoopPlan) → IsPlanOf v q l p → are_apart v l p.guesses ≡ true

-- What touches the objects of a reduction site are triples of its kind alone.
abbrev pub ReductionsHaveOneKind : Type 0
ReductionsHaveOneKind =
    (v : ModuleV) (q : Profile) (l : ProfileLoop) (p : LoopPlan) (own : AllocSite × Tag) → IsPlanOf v q l p → Has p.tags own → own.1.heap ≡ Reduction
    → (kind : RedKind) × (own.1.kind ≡ Some kind) × ((u : Used) → Has (uses v l) u → u.object ≡ own.0 → element_kind v l u ≡ Some kind)

-- Tags of two planned loops never disagree.
abbrev pub LoopsAgree : Type 0
LoopsAgree =
    (v : ModuleV) (q : Profile) (p r : LoopPlan) (own other : AllocSite × Tag) → Has (plan_of v q).loops p → Has (plan_of v q).loops r → Has p.tags own → Has r.tags other → own.0 ≡ other.0
    → own.1 ≡ other.1

-- What flows is guessed, unless it dies in its turn or is a reduction: a flow that no guess covers leaves its loop out.
abbrev pub FlowsAreGuessed : Type 0
FlowsAreGuessed =
    (v : ModuleV) (q : Profile) (l : ProfileLoop) (p : LoopPlan) (d : Flow) → IsPlanOf v q l p → Has (flows v l) d → is_covered v l d ≡ false
    → (heap_of v l d.object ≡ Some ShortLived) ⊎ (heap_of v l d.object ≡ Some Reduction)
