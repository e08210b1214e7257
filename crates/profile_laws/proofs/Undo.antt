-- The loops of a profile from its lines.
use Rattle.std.proofs.Common.{◌≡◌, ℕ, List, [], ◌∷◌, ◌++◌, Option, None, Some, refl, sym, ap, ◌∙◌}
use Rattle.std.specs.Prelude.{map}
use Rattle.std.specs.List.{flat_map}
use Rattle.std.proofs.lemmas.List.{append_assoc}
use Rattle.profile_lines.specs.declared.profile.Profile.{Profile}
use Rattle.profile_lines.specs.declared.profile.ProfileLoop.{ProfileLoop}
use Rattle.profile_lines.specs.declared.profile.ProfileName.{ProfileName}
use Rattle.profile_lines.specs.declared.profile.PhiLine.{PhiLine}
use Rattle.profile_lines.specs.declared.profile.UseLine.{UseLine}
use Rattle.profile_lines.specs.declared.profile.SiteName.{SiteName}
use Rattle.profile_lines.specs.declared.profile.FlowLine.{FlowLine}
use Rattle.profile_lines.specs.declared.profile.ValueLine.{ValueLine}
use Rattle.profile_lines.specs.declared.lines.Line.{Line}
use Rattle.profile_lines.specs.declared.lines.Line.TheVariants.{Loop, Period, Block, Phi, Use, Local, Flow, Value, End}
use Rattle.profile_reader.specs.Grammar.{Saying, period_lines, loop_lines, profile_says}

-- the lines of a loop by kind
pub record Parts : Type 0 where
  pub period : Option ℕ
  pub blocks : List ProfileName
  pub phis : List PhiLine
  pub uses : List UseLine
  pub locals : List SiteName
  pub flows : List FlowLine
  pub values : List ValueLine

abbrev parts : Option ℕ → List ProfileName → List PhiLine → List UseLine → List SiteName → List FlowLine → List ValueLine → Parts
parts o b p u s f v = record { period = o; blocks = b; phis = p; uses = u; locals = s; flows = f; values = v }

abbrev no_parts : Parts
no_parts = parts None [] [] [] [] [] []

abbrev Undone : Type 0
Undone = Parts × List ProfileLoop

abbrev whole : ProfileName → ProfileName → Parts → ProfileLoop
whole f h p = record {
  function = f;
  header = h;
  period = p.period;
  blocks = p.blocks;
  phis = p.phis;
  uses = p.uses;
  locals = p.locals;
  flows = p.flows;
  values = p.values;
}

abbrev with_loop : ProfileName → ProfileName → Undone → Undone
with_loop f h u = (no_parts, whole f h u.0 ∷ u.1)

abbrev with_end : Undone → Undone
with_end u = (no_parts, u.1)

abbrev with_period : ℕ → Undone → Undone
with_period n u = (parts (Some n) u.0.blocks u.0.phis u.0.uses u.0.locals u.0.flows u.0.values, u.1)

abbrev with_blocks : ProfileName → Undone → Undone
with_blocks x u = (parts u.0.period (x ∷ u.0.blocks) u.0.phis u.0.uses u.0.locals u.0.flows u.0.values, u.1)

abbrev with_phis : PhiLine → Undone → Undone
with_phis x u = (parts u.0.period u.0.blocks (x ∷ u.0.phis) u.0.uses u.0.locals u.0.flows u.0.values, u.1)

abbrev with_uses : UseLine → Undone → Undone
with_uses x u = (parts u.0.period u.0.blocks u.0.phis (x ∷ u.0.uses) u.0.locals u.0.flows u.0.values, u.1)

abbrev with_locals : SiteName → Undone → Undone
with_locals x u = (parts u.0.period u.0.blocks u.0.phis u.0.uses (x ∷ u.0.locals) u.0.flows u.0.values, u.1)

abbrev with_flows : FlowLine → Undone → Undone
with_flows x u = (parts u.0.period u.0.blocks u.0.phis u.0.uses u.0.locals (x ∷ u.0.flows) u.0.values, u.1)

abbrev with_values : ValueLine → Undone → Undone
with_values x u = (parts u.0.period u.0.blocks u.0.phis u.0.uses u.0.locals u.0.flows (x ∷ u.0.values), u.1)

-- the lines before the first loop, and the loops, from the last line back
abbrev undo : List Line → Undone
undo [] = (no_parts, [])
undo (Loop f h ∷ ls) = with_loop f h (undo ls)
undo (Period n ∷ ls) = with_period n (undo ls)
undo (Block x ∷ ls) = with_blocks x (undo ls)
undo (Phi x ∷ ls) = with_phis x (undo ls)
undo (Use x ∷ ls) = with_uses x (undo ls)
undo (Local x ∷ ls) = with_locals x (undo ls)
undo (Flow x ∷ ls) = with_flows x (undo ls)
undo (Value x ∷ ls) = with_values x (undo ls)
undo (End ∷ ls) = with_end (undo ls)

undo_values : (xs : List ValueLine) (ls : List Line) (loops : List ProfileLoop) → undo ls ≡ (parts None [] [] [] [] [] [], loops) → undo (map (λ y. Value y) xs ++ ls) ≡ (parts None [] [] [] [] [] xs, loops)
undo_values [] ls loops e = e
undo_values (x ∷ xs) ls loops e = ap (with_values x) (undo_values xs ls loops e)

undo_flows : (xs : List FlowLine) (ls : List Line) (valuess_ : List ValueLine) (loops : List ProfileLoop) → undo ls ≡ (parts None [] [] [] [] [] valuess_, loops) → undo (map (λ y. Flow y) xs ++ ls) ≡ (parts None [] [] [] [] xs valuess_, loops)
undo_flows [] ls valuess_ loops e = e
undo_flows (x ∷ xs) ls valuess_ loops e = ap (with_flows x) (undo_flows xs ls valuess_ loops e)

undo_locals : (xs : List SiteName) (ls : List Line) (flowss_ : List FlowLine) (valuess_ : List ValueLine) (loops : List ProfileLoop) → undo ls ≡ (parts None [] [] [] [] flowss_ valuess_, loops) → undo (map (λ y. Local y) xs ++ ls) ≡ (parts None [] [] [] xs flowss_ valuess_, loops)
undo_locals [] ls flowss_ valuess_ loops e = e
undo_locals (x ∷ xs) ls flowss_ valuess_ loops e = ap (with_locals x) (undo_locals xs ls flowss_ valuess_ loops e)

undo_uses : (xs : List UseLine) (ls : List Line) (localss_ : List SiteName) (flowss_ : List FlowLine) (valuess_ : List ValueLine) (loops : List ProfileLoop) → undo ls ≡ (parts None [] [] [] localss_ flowss_ valuess_, loops) → undo (map (λ y. Use y) xs ++ ls) ≡ (parts None [] [] xs localss_ flowss_ valuess_, loops)
undo_uses [] ls localss_ flowss_ valuess_ loops e = e
undo_uses (x ∷ xs) ls localss_ flowss_ valuess_ loops e = ap (with_uses x) (undo_uses xs ls localss_ flowss_ valuess_ loops e)

undo_phis : (xs : List PhiLine) (ls : List Line) (usess_ : List UseLine) (localss_ : List SiteName) (flowss_ : List FlowLine) (valuess_ : List ValueLine) (loops : List ProfileLoop) → undo ls ≡ (parts None [] [] usess_ localss_ flowss_ valuess_, loops) → undo (map (λ y. Phi y) xs ++ ls) ≡ (parts None [] xs usess_ localss_ flowss_ valuess_, loops)
undo_phis [] ls usess_ localss_ flowss_ valuess_ loops e = e
undo_phis (x ∷ xs) ls usess_ localss_ flowss_ valuess_ loops e = ap (with_phis x) (undo_phis xs ls usess_ localss_ flowss_ valuess_ loops e)

undo_blocks : (xs : List ProfileName) (ls : List Line) (phiss_ : List PhiLine) (usess_ : List UseLine) (localss_ : List SiteName) (flowss_ : List FlowLine) (valuess_ : List ValueLine) (loops : List ProfileLoop) → undo ls ≡ (parts None [] phiss_ usess_ localss_ flowss_ valuess_, loops) → undo (map (λ y. Block y) xs ++ ls) ≡ (parts None xs phiss_ usess_ localss_ flowss_ valuess_, loops)
undo_blocks [] ls phiss_ usess_ localss_ flowss_ valuess_ loops e = e
undo_blocks (x ∷ xs) ls phiss_ usess_ localss_ flowss_ valuess_ loops e = ap (with_blocks x) (undo_blocks xs ls phiss_ usess_ localss_ flowss_ valuess_ loops e)

undo_period : (period : Option ℕ) (ls : List Line) (blockss_ : List ProfileName) (phiss_ : List PhiLine) (usess_ : List UseLine) (localss_ : List SiteName) (flowss_ : List FlowLine) (valuess_ : List ValueLine) (loops : List ProfileLoop) → undo ls ≡ (parts None blockss_ phiss_ usess_ localss_ flowss_ valuess_, loops) → undo (period_lines period ++ ls) ≡ (parts period blockss_ phiss_ usess_ localss_ flowss_ valuess_, loops)
undo_period None ls blockss_ phiss_ usess_ localss_ flowss_ valuess_ loops e = e
undo_period (Some n) ls blockss_ phiss_ usess_ localss_ flowss_ valuess_ loops e = ap (with_period n) e

in_turn : (o b p u s f v e ls : List Line)
    → (((((((o ++ b) ++ p) ++ u) ++ s) ++ f) ++ v) ++ e) ++ ls ≡ o ++ (b ++ (p ++ (u ++ (s ++ (f ++ (v ++ (e ++ ls)))))))
in_turn o b p u s f v e ls = simp append_assoc

undo_loop : (l : ProfileLoop) (ls : List Line) → undo (loop_lines l ++ ls) ≡ (no_parts, l ∷ (undo ls).1)
undo_loop l ls =
    let o = period_lines l.period in
    let b = map (λ y. Block y) l.blocks in
    let p = map (λ y. Phi y) l.phis in
    let u = map (λ y. Use y) l.uses in
    let s = map (λ y. Local y) l.locals in
    let f = map (λ y. Flow y) l.flows in
    let v = map (λ y. Value y) l.values in
    let done = (undo ls).1 in
    let values : undo (v ++ (End ∷ ls)) ≡ (parts None [] [] [] [] [] l.values, done) = undo_values l.values (End ∷ ls) done refl in
    let flows : undo (f ++ (v ++ (End ∷ ls))) ≡ (parts None [] [] [] [] l.flows l.values, done) = undo_flows l.flows _ l.values done values in
    let locals : undo (s ++ (f ++ (v ++ (End ∷ ls)))) ≡ (parts None [] [] [] l.locals l.flows l.values, done) = undo_locals l.locals _ l.flows l.values done flows in
    let uses : undo (u ++ (s ++ (f ++ (v ++ (End ∷ ls))))) ≡ (parts None [] [] l.uses l.locals l.flows l.values, done) = undo_uses l.uses _ l.locals l.flows l.values done locals in
    let phis : undo (p ++ (u ++ (s ++ (f ++ (v ++ (End ∷ ls)))))) ≡ (parts None [] l.phis l.uses l.locals l.flows l.values, done) = undo_phis l.phis _ l.uses l.locals l.flows l.values done uses in
    let blocks : undo (b ++ (p ++ (u ++ (s ++ (f ++ (v ++ (End ∷ ls))))))) ≡ (parts None l.blocks l.phis l.uses l.locals l.flows l.values, done) = undo_blocks l.blocks _ l.phis l.uses l.locals l.flows l.values done phis in
    let period : undo (o ++ (b ++ (p ++ (u ++ (s ++ (f ++ (v ++ (End ∷ ls)))))))) ≡ (parts l.period l.blocks l.phis l.uses l.locals l.flows l.values, done) = undo_period l.period _ l.blocks l.phis l.uses l.locals l.flows l.values done blocks in
    ap (λ (t : List Line). with_loop l.function l.header (undo t)) (in_turn o b p u s f v (End ∷ []) ls) ∙ ap (with_loop l.function l.header) period

undo_all : (loops : List ProfileLoop) → (undo (flat_map loop_lines loops)).1 ≡ loops
undo_all [] = refl
undo_all (l ∷ loops) =
    ap (λ (u : Undone). u.1) (undo_loop l (flat_map loop_lines loops)) ∙ ap (λ t. l ∷ t) (undo_all loops)

abbrev made : ℕ → List ProfileLoop → Profile
made version loops = record { version = version; loops = loops }

pub same_profile : (p q : Profile) → profile_says p ≡ profile_says q → p ≡ q
same_profile p q e =
    ap (made p.version) (sym (undo_all p.loops) ∙ ap (λ (s : Saying). (undo s.lines).1) e ∙ undo_all q.loops)
    ∙ ap (λ (version : ℕ). made version q.loops) (ap (λ (s : Saying). s.version) e)
