-- What is the same is equal, and what is equal is the same.
use Rattle.std.proofs.Common.{◌≡◌, ℕ, Bool, true, false, Option, Some, None, refl, ap}
use Rattle.std.specs.Prelude.{◌&&◌, nat_eq}
use Rattle.std.proofs.lemmas.Bool.{eqb-true, eq-eqb}
use Rattle.pv_base.specs.declared.place.Site.{Site}
use Rattle.pv_base.specs.declared.place.AllocSite.{AllocSite}
use Rattle.pv_base.specs.declared.place.AllocSite.TheVariants.{Global, At}
use Rattle.pv_base.specs.declared.place.Heap.{Heap}
use Rattle.pv_base.specs.declared.place.Heap.TheVariants.{Private, ShortLived, Reduction, ReadOnly, Unrestricted, Untagged}
use Rattle.int_num.specs.declared.ops.Flags.{Flags}
use Rattle.int_num.specs.declared.ops.RedOp.{RedOp}
use Rattle.int_num.specs.declared.ops.RedOp.TheVariants.{Add, Mul, And, Or, Xor, Smax, Smin, Umax, Umin}
use Rattle.int_num.specs.declared.ops.RedKind.{RedKind}
use Rattle.ir_tree.specs.declared.plans.Tag.{Tag}
use Rattle.ir_rules.specs.Same.{same_bool}
use Rattle.loop_plan.specs.Triples.{same_site}
use Rattle.loop_plan.specs.Heaps.{same_place, same_heap, op_number, same_flags, same_kind, same_kinds, same_tag}
use Rattle.plan_laws.proofs.Lists.{and_both}

pub numbers : (a b : ℕ) → nat_eq a b ≡ true → a ≡ b
numbers a b e = eqb-true a b e

pub number_same : (a : ℕ) → nat_eq a a ≡ true
number_same a = eq-eqb a a refl

bools : (a b : Bool) → same_bool a b ≡ true → a ≡ b
bools true true e = refl
bools false false e = refl
bools true false e = absurd cc
bools false true e = absurd cc

pub heaps : (a b : Heap) → same_heap a b ≡ true → a ≡ b
heaps Private Private e = refl
heaps ShortLived ShortLived e = refl
heaps Reduction Reduction e = refl
heaps ReadOnly ReadOnly e = refl
heaps Unrestricted Unrestricted e = refl
heaps Untagged Untagged e = refl
heaps a b e = absurd cc

ops : (a b : RedOp) → nat_eq (op_number a) (op_number b) ≡ true → a ≡ b
ops Add Add e = refl
ops Mul Mul e = refl
ops And And e = refl
ops Or Or e = refl
ops Xor Xor e = refl
ops Smax Smax e = refl
ops Smin Smin e = refl
ops Umax Umax e = refl
ops Umin Umin e = refl
ops a b e = absurd cc

abbrev flags_of : Bool → Bool → Bool → Bool → Bool → Flags
flags_of nsw nuw exact disjoint nneg = record { nsw = nsw; nuw = nuw; exact = exact; disjoint = disjoint; nneg = nneg }

abbrev kind_with : RedOp → Flags → ℕ → RedKind
kind_with op flag width = record { op = op; flags = flag; width = width }

abbrev tag_with : Heap → Option RedKind → Tag
tag_with heap kind = record { heap = heap; kind = kind }

flags : (a b : Flags) → same_flags a b ≡ true → a ≡ b
flags a b e =
    let s = and_both (same_bool a.nsw b.nsw && same_bool a.nuw b.nuw && same_bool a.exact b.exact && same_bool a.disjoint b.disjoint) (same_bool a.nneg b.nneg) e in
    let t = and_both (same_bool a.nsw b.nsw && same_bool a.nuw b.nuw && same_bool a.exact b.exact) (same_bool a.disjoint b.disjoint) s.0 in
    let u = and_both (same_bool a.nsw b.nsw && same_bool a.nuw b.nuw) (same_bool a.exact b.exact) t.0 in
    let w = and_both (same_bool a.nsw b.nsw) (same_bool a.nuw b.nuw) u.0 in
    let nsw = bools a.nsw b.nsw w.0 in
    let nuw = bools a.nuw b.nuw w.1 in
    let exact = bools a.exact b.exact u.1 in
    let disjoint = bools a.disjoint b.disjoint t.1 in
    let nneg = bools a.nneg b.nneg s.1 in
    let own : flags_of a.nsw a.nuw a.exact a.disjoint a.nneg ≡ flags_of b.nsw b.nuw b.exact b.disjoint b.nneg = cc in
    own

pub kinds : (a b : RedKind) → same_kind a b ≡ true → a ≡ b
kinds a b e =
    let s = and_both (nat_eq (op_number a.op) (op_number b.op) && same_flags a.flags b.flags) (nat_eq a.width b.width) e in
    let t = and_both (nat_eq (op_number a.op) (op_number b.op)) (same_flags a.flags b.flags) s.0 in
    let op = ops a.op b.op t.0 in
    let flag = flags a.flags b.flags t.1 in
    let width = numbers a.width b.width s.1 in
    let own : kind_with a.op a.flags a.width ≡ kind_with b.op b.flags b.width = cc in
    own

pub some_kinds : (a b : Option RedKind) → same_kinds a b ≡ true → a ≡ b
some_kinds None None e = refl
some_kinds (Some a) (Some b) e = ap Some (kinds a b e)
some_kinds None (Some b) e = absurd cc
some_kinds (Some a) None e = absurd cc

pub tags : (a b : Tag) → same_tag a b ≡ true → a ≡ b
tags a b e =
    let s = and_both (same_heap a.heap b.heap) (same_kinds a.kind b.kind) e in
    let heap = heaps a.heap b.heap s.0 in
    let kind = some_kinds a.kind b.kind s.1 in
    let own : tag_with a.heap a.kind ≡ tag_with b.heap b.kind = cc in
    own

pub site_same : (a : Site) → same_site a a ≡ true
site_same a = let f = number_same a.function in let p = number_same a.place in rw f p

pub place_same : (a : AllocSite) → same_place a a ≡ true
place_same (Global g) = number_same g
place_same (At s) = site_same s
