-- An instruction's arm as what the whole dispatch promises.
use Rattle.std.proofs.Common.{◌≡◌, List, Option, Result, Ok, Err, refl}
use Rattle.std.specs.Prelude.{IfOk}
use Rattle.ir_code.specs.declared.op.Scalar.{Scalar}
use Rattle.mem_image.specs.declared.fault.Trap.{Trap as TrapWord}
use Rattle.mem_image.specs.declared.fault.Fault.{Fault}
use Rattle.mem_image.specs.Picture.{Picture}
use Rattle.mem_image.specs.Calls.{Call, Reply}
use Rattle.seq_effects.specs.declared.state.Effect.{Effect}
use Rattle.seq_effects.specs.declared.state.Effect.TheVariants as effect
use Rattle.seq_effects.specs.Script.{tell, Follows, Tells}
use Rattle.seq_effects.specs.Values.{Sets}
use Rattle.seq_effects.specs.Flow.{IsReturn}
use Rattle.seq_effects.specs.Effects.{lifted}
use Rattle.seq_effects.specs.Effects.{MayStop}

pub tell_follows : {M : Type 0} (image : M → Picture) (R : M → Call → Result Reply Fault → M → Type 0) (x : Result Effect TrapWord) (m : M) → Follows image R (tell x) m (lifted x) m
tell_follows image R (Ok e) m = (refl, refl)
tell_follows image R (Err t) m = (refl, refl)

pub tells_follows : {M : Type 0} (image : M → Picture) (R : M → Call → Result Reply Fault → M → Type 0) (x : Result Effect TrapWord) (answer : Result Effect Fault) (m : M) → Tells x answer → Follows image R (tell x) m answer m
tells_follows image R (Ok e) answer m h = (h, refl)
tells_follows image R (Err t) answer m h = (h, refl)

pub next_sets : (types : List Scalar) (r : Result Effect Fault) → IfOk r (λ e. e ≡ effect.Next) → IfOk r (Sets types)
next_sets types (Ok e) h = rw h tt
next_sets types (Err f) h = tt

pub next_quiet : (P : Type 0) (r : Result Effect Fault) → IfOk r (λ e. e ≡ effect.Next) → IfOk r (λ e. MayStop e → P)
next_quiet P (Ok e) h = λ s. elim (rw h at s) [ ]
next_quiet P (Err f) h = tt

pub lifted_sets : (types : List Scalar) (x : Result Effect TrapWord) → IfOk x (Sets types) → IfOk (lifted x) (Sets types)
lifted_sets types (Ok e) h = h
lifted_sets types (Err t) h = tt

pub never_quiet : (P : Type 0) (r : Result Effect Fault) → IfOk r (λ e. MayStop e → ⊥) → IfOk r (λ e. MayStop e → P)
never_quiet P (Ok e) h = λ s. absurd (h s)
never_quiet P (Err f) h = tt

return_never : (P : Type 0) (of : Option Scalar) (e : Effect) → IsReturn of e → MayStop e → P
return_never P of (effect.Edge e) h s = elim h [ ]
return_never P of (effect.Enter k registers) h s = elim h [ ]
return_never P of (effect.Print text to v) h s = elim h [ ]
return_never P of _ h s = elim s [ ]

pub return_quiet : (P : Type 0) (of : Option Scalar) (r : Result Effect Fault) → IfOk r (IsReturn of) → IfOk r (λ e. MayStop e → P)
return_quiet P of (Ok e) h = return_never P of e h
return_quiet P of (Err f) h = tt

pub ruleset arms = (tell_follows, tells_follows, next_sets, next_quiet, lifted_sets, never_quiet, return_quiet)
