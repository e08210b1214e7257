-- A line at the end of its loop.
use Rattle.std.proofs.Common.{◌≡◌, ℕ, List, [], ◌∷◌, ◌++◌, None, Some, refl, sym, ap, ◌∙◌, arith}
use Rattle.std.specs.Prelude.{map}
use Rattle.std.proofs.lemmas.List.{append-nil, append_assoc, map_push}
use Rattle.profile_lines.specs.declared.profile.ProfileName.{ProfileName}
use Rattle.profile_lines.specs.declared.profile.PhiLine.{PhiLine}
use Rattle.profile_lines.specs.declared.profile.UseLine.{UseLine}
use Rattle.profile_lines.specs.declared.profile.SiteName.{SiteName}
use Rattle.profile_lines.specs.declared.profile.FlowLine.{FlowLine}
use Rattle.profile_lines.specs.declared.profile.ValueLine.{ValueLine}
use Rattle.profile_lines.specs.declared.profile.ProfileLoop.{ProfileLoop}
use Rattle.profile_lines.specs.declared.lines.Line.{Line}
use Rattle.profile_lines.specs.declared.lines.Line.TheVariants.{Loop, Period, Block, Phi, Use, Local, Flow, Value}
use Rattle.profile_reader.specs.Grammar.{open_lines, period_lines}
use Rattle.profile_reader.specs.Standing.{InOrder}

-- one more at the end of one kind of line, with empty kinds after it
put0 : {X : Type 0} (A : List Line) (f : X → Line) (xs : List X) (x : X) → A ++ map f (xs ++ x ∷ []) ≡ (A ++ map f xs) ++ f x ∷ []
put0 A f xs x = ap (λ t. A ++ t) (map_push f xs x) ∙ sym (append_assoc A (map f xs) (f x ∷ []))

empty_after : (P Q y : List Line) → P ≡ Q ++ y → P ++ [] ≡ (Q ++ []) ++ y
empty_after P Q y e = append-nil P ∙ e ∙ ap (λ t. t ++ y) (sym (append-nil Q))

empty_after2 : (P Q y : List Line) → P ≡ Q ++ y → (P ++ []) ++ [] ≡ ((Q ++ []) ++ []) ++ y
empty_after2 P Q y e = empty_after (P ++ []) (Q ++ []) y (empty_after P Q y e)

empty_after3 : (P Q y : List Line) → P ≡ Q ++ y → ((P ++ []) ++ []) ++ [] ≡ (((Q ++ []) ++ []) ++ []) ++ y
empty_after3 P Q y e = empty_after ((P ++ []) ++ []) ((Q ++ []) ++ []) y (empty_after2 P Q y e)

empty_after4 : (P Q y : List Line) → P ≡ Q ++ y → (((P ++ []) ++ []) ++ []) ++ [] ≡ ((((Q ++ []) ++ []) ++ []) ++ []) ++ y
empty_after4 P Q y e = empty_after2 ((P ++ []) ++ []) ((Q ++ []) ++ []) y (empty_after2 P Q y e)

empty_after5 : (P Q y : List Line) → P ≡ Q ++ y → ((((P ++ []) ++ []) ++ []) ++ []) ++ [] ≡ (((((Q ++ []) ++ []) ++ []) ++ []) ++ []) ++ y
empty_after5 P Q y e = empty_after3 ((P ++ []) ++ []) ((Q ++ []) ++ []) y (empty_after2 P Q y e)

put1 : {X : Type 0} (A : List Line) (f : X → Line) (xs : List X) (x : X)
    → (A ++ map f (xs ++ x ∷ [])) ++ [] ≡ ((A ++ map f xs) ++ []) ++ f x ∷ []
put1 A f xs x = empty_after (A ++ map f (xs ++ x ∷ [])) (A ++ map f xs) (f x ∷ []) (put0 A f xs x)

put2 : {X : Type 0} (A : List Line) (f : X → Line) (xs : List X) (x : X)
    → ((A ++ map f (xs ++ x ∷ [])) ++ []) ++ [] ≡ (((A ++ map f xs) ++ []) ++ []) ++ f x ∷ []
put2 A f xs x = empty_after2 (A ++ map f (xs ++ x ∷ [])) (A ++ map f xs) (f x ∷ []) (put0 A f xs x)

put3 : {X : Type 0} (A : List Line) (f : X → Line) (xs : List X) (x : X)
    → (((A ++ map f (xs ++ x ∷ [])) ++ []) ++ []) ++ [] ≡ ((((A ++ map f xs) ++ []) ++ []) ++ []) ++ f x ∷ []
put3 A f xs x = empty_after3 (A ++ map f (xs ++ x ∷ [])) (A ++ map f xs) (f x ∷ []) (put0 A f xs x)

put4 : {X : Type 0} (A : List Line) (f : X → Line) (xs : List X) (x : X)
    → ((((A ++ map f (xs ++ x ∷ [])) ++ []) ++ []) ++ []) ++ [] ≡ (((((A ++ map f xs) ++ []) ++ []) ++ []) ++ []) ++ f x ∷ []
put4 A f xs x = empty_after4 (A ++ map f (xs ++ x ∷ [])) (A ++ map f xs) (f x ∷ []) (put0 A f xs x)

put5 : {X : Type 0} (A : List Line) (f : X → Line) (xs : List X) (x : X)
    → (((((A ++ map f (xs ++ x ∷ [])) ++ []) ++ []) ++ []) ++ []) ++ [] ≡ ((((((A ++ map f xs) ++ []) ++ []) ++ []) ++ []) ++ []) ++ f x ∷ []
put5 A f xs x = empty_after5 (A ++ map f (xs ++ x ∷ [])) (A ++ map f xs) (f x ∷ []) (put0 A f xs x)

abbrev pub front_blocks : ProfileLoop → List Line
front_blocks l = (Loop l.function l.header ∷ []) ++ period_lines l.period

abbrev pub front_phis : ProfileLoop → List Line
front_phis l = front_blocks l ++ map (λ x. Block x) l.blocks

abbrev pub front_uses : ProfileLoop → List Line
front_uses l = front_phis l ++ map (λ x. Phi x) l.phis

abbrev pub front_locals : ProfileLoop → List Line
front_locals l = front_uses l ++ map (λ x. Use x) l.uses

abbrev pub front_flows : ProfileLoop → List Line
front_flows l = front_locals l ++ map (λ x. Local x) l.locals

abbrev pub front_values : ProfileLoop → List Line
front_values l = front_flows l ++ map (λ x. Flow x) l.flows

pub put_value : (l : ProfileLoop) (x : ValueLine) → InOrder l 7 → open_lines (record l { values = l.values ++ x ∷ [] }) ≡ open_lines l ++ Value x ∷ []
put_value l x h = put0 (front_values l) (λ y. Value y) l.values x

pub put_flow : (l : ProfileLoop) (x : FlowLine) → InOrder l 6 → open_lines (record l { flows = l.flows ++ x ∷ [] }) ≡ open_lines l ++ Flow x ∷ []
put_flow l x h =
    let no_values : l.values ≡ [] = h.values (omega arith) in
    rw no_values (put1 (front_flows l) (λ y. Flow y) l.flows x)

pub put_local : (l : ProfileLoop) (x : SiteName) → InOrder l 5 → open_lines (record l { locals = l.locals ++ x ∷ [] }) ≡ open_lines l ++ Local x ∷ []
put_local l x h =
    let no_flows : l.flows ≡ [] = h.flows (omega arith) in
    let no_values : l.values ≡ [] = h.values (omega arith) in
    rw (no_flows, no_values) (put2 (front_locals l) (λ y. Local y) l.locals x)

pub put_use : (l : ProfileLoop) (x : UseLine) → InOrder l 4 → open_lines (record l { uses = l.uses ++ x ∷ [] }) ≡ open_lines l ++ Use x ∷ []
put_use l x h =
    let no_locals : l.locals ≡ [] = h.locals (omega arith) in
    let no_flows : l.flows ≡ [] = h.flows (omega arith) in
    let no_values : l.values ≡ [] = h.values (omega arith) in
    rw (no_locals, no_flows, no_values) (put3 (front_uses l) (λ y. Use y) l.uses x)

pub put_phi : (l : ProfileLoop) (x : PhiLine) → InOrder l 3 → open_lines (record l { phis = l.phis ++ x ∷ [] }) ≡ open_lines l ++ Phi x ∷ []
put_phi l x h =
    let no_uses : l.uses ≡ [] = h.uses (omega arith) in
    let no_locals : l.locals ≡ [] = h.locals (omega arith) in
    let no_flows : l.flows ≡ [] = h.flows (omega arith) in
    let no_values : l.values ≡ [] = h.values (omega arith) in
    rw (no_uses, no_locals, no_flows, no_values) (put4 (front_phis l) (λ y. Phi y) l.phis x)

pub put_block : (l : ProfileLoop) (x : ProfileName) → InOrder l 2 → open_lines (record l { blocks = l.blocks ++ x ∷ [] }) ≡ open_lines l ++ Block x ∷ []
put_block l x h =
    let no_phis : l.phis ≡ [] = h.phis (omega arith) in
    let no_uses : l.uses ≡ [] = h.uses (omega arith) in
    let no_locals : l.locals ≡ [] = h.locals (omega arith) in
    let no_flows : l.flows ≡ [] = h.flows (omega arith) in
    let no_values : l.values ≡ [] = h.values (omega arith) in
    rw (no_phis, no_uses, no_locals, no_flows, no_values) (put5 (front_blocks l) (λ y. Block y) l.blocks x)

pub put_period : (l : ProfileLoop) (turns : ℕ) → InOrder l 1 → l.period ≡ None → open_lines (record l { period = Some turns }) ≡ open_lines l ++ Period turns ∷ []
put_period l turns h none =
    let no_blocks : l.blocks ≡ [] = h.blocks (omega arith) in
    let no_phis : l.phis ≡ [] = h.phis (omega arith) in
    let no_uses : l.uses ≡ [] = h.uses (omega arith) in
    let no_locals : l.locals ≡ [] = h.locals (omega arith) in
    let no_flows : l.flows ≡ [] = h.flows (omega arith) in
    let no_values : l.values ≡ [] = h.values (omega arith) in
    rw (none, no_blocks, no_phis, no_uses, no_locals, no_flows, no_values) refl
