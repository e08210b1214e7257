use Rattle.std.proofs.Common.{◌≡◌, ℕ, Option, None, option_map, codes, ap, ◌∙◌}
use Rattle.std.specs.Option.{option_or}
use Rattle.pv_base.specs.Outside.{Text}
use Rattle.pv_base.specs.declared.external.External.{External}
use Rattle.pv_base.specs.declared.external.External.TheVariants.{Smax, Smin, Umax, Umin}
use Rattle.seq_calls.specs.Names.{width_behind, extreme}
use Rattle.seq_calls.proofs.names.extreme.Goals as goal

-- the external of the first of four widths that is there
abbrev first : Option ℕ → Option ℕ → Option ℕ → Option ℕ → Option External
first a b d e = option_or (option_map Smax a) (option_or (option_map Smin b) (option_or (option_map Umax d) (option_map Umin e)))

abbrev smin : Text → Option ℕ
smin name = width_behind (codes "llvm.smin.i") name

abbrev umax : Text → Option ℕ
umax name = width_behind (codes "llvm.umax.i") name

abbrev umin : Text → Option ℕ
umin name = width_behind (codes "llvm.umin.i") name

without_smax : (name : Text) → None ≡ width_behind (codes "llvm.smax.i") name → first None (smin name) (umax name) (umin name) ≡ extreme name
unfolding extreme
without_smax name a = ap (λ (o : Option ℕ). first o (smin name) (umax name) (umin name)) a

without_smin : (name : Text) → None ≡ width_behind (codes "llvm.smax.i") name → None ≡ smin name → first None None (umax name) (umin name) ≡ extreme name
without_smin name a b = ap (λ (o : Option ℕ). first None o (umax name) (umin name)) b ∙ without_smax name a

without_umax : (name : Text) → None ≡ width_behind (codes "llvm.smax.i") name → None ≡ smin name → None ≡ umax name → first None None None (umin name) ≡ extreme name
without_umax name a b d = ap (λ (o : Option ℕ). first None None o (umin name)) d ∙ without_smin name a b

pub returns-in-Some-width_behind : goal.returns-in-Some-width_behind
returns-in-Some-width_behind c =
    let name = c.args.name.now in
    ap (λ (o : Option ℕ). first None o (umax name) (umin name)) c.in-Some-width_behind.ensures ∙ without_smax name c.in_default.ensures

pub returns-in-Some-width_behind-2 : goal.returns-in-Some-width_behind-2
returns-in-Some-width_behind-2 c =
    let name = c.args.name.now in
    ap (λ (o : Option ℕ). first None None o (umin name)) c.in-Some-width_behind-2.ensures ∙ without_smin name c.in_default.ensures c.in_default-width_behind.ensures

pub returns-in-Some-width_behind-3 : goal.returns-in-Some-width_behind-3
returns-in-Some-width_behind-3 c =
    ap (λ (o : Option ℕ). first None None None o) c.in-Some-width_behind-3.ensures ∙ without_umax c.args.name.now c.in_default.ensures c.in_default-width_behind.ensures c.in_default-width_behind-2.ensures

pub returns : goal.returns
returns c =
    ap (λ (o : Option ℕ). first None None None o) c.in_default-width_behind-3.ensures ∙ without_umax c.args.name.now c.in_default.ensures c.in_default-width_behind.ensures c.in_default-width_behind-2.ensures
