-- What one layout more changes, and what a pass does.
use Rattle.std.proofs.Common.{◌≡◌, ℕ, zero, suc, ◌+◌, ◌*◌, ◌<◌, ◌≤◌, Bool, true, false, List, [], ◌∷◌, map, length, Option, Some, None, get_or, refl, sym, ap, subst, ◌∙◌, arith, get_or-set_other, get_or-set_same, inl, inr, eqb, eqb-true, eq-eqb}
use Rattle.std.proofs.Math.ListN.{set, length-set}
use Rattle.std.proofs.lemmas.Bool.{cases_Bool}
use borrow.Author.Count.{below_more}
use Rattle.std.specs.Prelude.{IfSome, nat_eq, if◌then◌else◌, option_and_then, fold, ◌||◌, slice_set}
use Rattle.std.proofs.lemmas.Option.{slice_get_within}
use Rattle.ir_tree.specs.declared.layout.Layout.{Layout}
use Rattle.ir_tree.specs.declared.nodes.TypeNode.{TypeNode}
use Rattle.ir_tree.specs.declared.nodes.TypeNode.TheVariants as node
use Rattle.ir_tree.specs.Table.{Table}
use Rattle.ir_tree.specs.Layouts.{sized, round_up, int_layout, joined, no_fields}
use Rattle.ir_tree.specs.Bounds.{IsLayout}
use Rattle.ir_tree.specs.Filling.{answer_at, named_answer, node_layout, AreBounded, IsDone, Finds, Tries, Reaches, Stays, Further, missing, PassEnds, Passes}
use Rattle.ir_tree.proofs.Bounded.{sized_bound, joined_bound}
use Rattle.ir_tree.proofs.Growing.{Upto, upto_by}

-- ---- a node's layout is bounded

if_bound : (b : Bool) (x y : Option Layout) → IfSome x IsLayout → IfSome y IsLayout → IfSome (if b then x else y) IsLayout
if_bound true x y p q = p
if_bound false x y p q = q

then_bound : (f : Layout → Option Layout) (o : Option Layout) → IfSome o IsLayout → ((l : Layout) → IsLayout l → IfSome (f l) IsLayout) → IfSome (option_and_then f o) IsLayout
then_bound f None is h = tt
then_bound f (Some l) is h = h l is

of_bytes : (n : ℕ) → 0 < n → n ≤ 8 → IsLayout (record { size = n; align = n })
of_bytes n least most = record { size = omega arith; least = least; most = most }

int_bound : (w : ℕ) → IfSome (int_layout w) IsLayout
int_bound w =
    if_bound (nat_eq w 1 || nat_eq w 8) _ _ (of_bytes 1 (omega arith) (omega arith))
    (if_bound (nat_eq w 16) _ _ (of_bytes 2 (omega arith) (omega arith))
    (if_bound (nat_eq w 32) _ _ (of_bytes 4 (omega arith) (omega arith))
    (if_bound (nat_eq w 64) _ None (of_bytes 8 (omega arith) (omega arith)) tt)))

fold_bound : (packed : Bool) (at : ℕ → Option Layout) (so : Option Layout) (ks : List ℕ) → ((k : ℕ) → IfSome (at k) IsLayout) → IfSome so IsLayout → IfSome (fold (joined packed) so (map at ks)) IsLayout
fold_bound packed at so [] all is = is
fold_bound packed at so (k ∷ ks) all is = fold_bound packed at (joined packed so (at k)) ks all (joined_bound packed so (at k) is (all k))

node_bound : (at named : ℕ → Option Layout) (n : TypeNode) → ((k : ℕ) → IfSome (at k) IsLayout) → ((x : ℕ) → IfSome (named x) IsLayout) → IfSome (node_layout at named n) IsLayout
node_bound at named (node.Int w) all names = int_bound w
node_bound at named node.Ptr all names = of_bytes 8 (omega arith) (omega arith)
node_bound at named node.Void all names = tt
node_bound at named (node.Array n k) all names = then_bound (λ l. sized (n * l.size) l.align) (at k) (all k) (λ l is. sized_bound (n * l.size) l.align is.least is.most)
node_bound at named (node.Struct packed ks) all names =
    then_bound (λ so. sized (round_up so.size so.align) so.align) _ (fold_bound packed at no_fields ks all (record { size = omega arith; least = omega arith; most = omega arith })) (λ l is. sized_bound (round_up l.size l.align) l.align is.least is.most)
node_bound at named (node.Named x) all names = names x

named_bound : (bodies : List (Option ℕ)) (answers : List (Option Layout)) → AreBounded answers → (x : ℕ) (b : Option ℕ) → IfSome (option_and_then (answer_at answers) b) IsLayout
named_bound bodies answers all x None = tt
named_bound bodies answers all x (Some b) = all b

is_some_bound : (o : Option Layout) (l : Layout) → IfSome o IsLayout → o ≡ Some l → IsLayout l
is_some_bound (Some m) l is e = let same : m ≡ l = cc in subst IsLayout same is
is_some_bound None l is e = absurd cc

-- ---- one layout more

in_range : (xs : List (Option Layout)) (k n : ℕ) → length xs ≡ n → k < n → k < length xs
in_range xs k n len lt = omega arith

pub set_same : (xs : List (Option Layout)) (k : ℕ) (l : Layout) → k < length xs → answer_at (slice_set xs k (Some l)) k ≡ Some l
set_same xs k l lt = rw get_or-set_same refl

pub set_other : (xs : List (Option Layout)) (k j : ℕ) (l : Layout) → (j ≡ k → ⊥) → answer_at (slice_set xs k (Some l)) j ≡ answer_at xs j
set_other xs k j l ne = rw get_or-set_other refl

pub found_at : (t : Table) (bodies : List (Option ℕ)) (old new : List (Option Layout)) (k : ℕ) → length old ≡ length t.types → (f : Finds t bodies old new k) → answer_at new k ≡ Some f.layout
found_at t bodies old new k len f =
    let lt : k < length t.types = slice_get_within t.types k _ f.known in
    rw f.new_is (set_same old k f.layout (in_range old k (length t.types) len lt))

pub found_other : (t : Table) (bodies : List (Option ℕ)) (old new : List (Option Layout)) (k j : ℕ) → Finds t bodies old new k → (j ≡ k → ⊥) → answer_at new j ≡ answer_at old j
found_other t bodies old new k j f ne = rw f.new_is (set_other old k j f.layout ne)

pub finds_len : (t : Table) (bodies : List (Option ℕ)) (old new : List (Option Layout)) (k : ℕ) → Finds t bodies old new k → length new ≡ length old
finds_len t bodies old new k f = rw f.new_is (length-set old k (Some f.layout))

pub finds_upto : (t : Table) (bodies : List (Option ℕ)) (old new : List (Option Layout)) (k : ℕ) → length old ≡ length t.types → Finds t bodies old new k → (j : ℕ) → Upto (answer_at old j) (answer_at new j)
finds_upto t bodies old new k len f j =
    elim (cases_Bool (eqb j k)) [
      | inl same ↦ let e : j ≡ k = eqb-true j k same in upto_by _ _ (λ l is. let no : answer_at old j ≡ None = rw e f.unknown in absurd cc)
      | inr other ↦ upto_by _ _ (λ l is. found_other t bodies old new k j f (λ e. let clash : eqb j k ≡ true = eq-eqb j k e in absurd cc) ∙ is)
    ]

pub finds_bounded : (t : Table) (bodies : List (Option ℕ)) (old new : List (Option Layout)) (k : ℕ) → length old ≡ length t.types → AreBounded old → Finds t bodies old new k → AreBounded new
finds_bounded t bodies old new k len all f j =
    elim (cases_Bool (eqb j k)) [
      | inl same ↦
          let e : j ≡ k = eqb-true j k same in
          let is : IsLayout f.layout = is_some_bound _ f.layout (node_bound (answer_at old) (named_answer bodies old) f.type all (λ x. named_bound bodies old all x _)) f.is in
          rw (e, found_at t bodies old new k len f) is
      | inr other ↦ rw (found_other t bodies old new k j f (λ e. let clash : eqb j k ≡ true = eq-eqb j k e in absurd cc)) (all j)
    ]

fewer : (xs : List (Option Layout)) (k : ℕ) (l : Layout) → k < length xs → get_or xs k None ≡ None → missing (set xs k (Some l)) < missing xs
fewer [] k l lt none = absurd (omega arith)
fewer (None ∷ xs) zero l lt none = omega arith
fewer (Some m ∷ xs) zero l lt none = absurd cc
fewer (None ∷ xs) (suc k) l lt none =
    let less = fewer xs k l (omega arith) none in
    omega (arith, less)
fewer (Some m ∷ xs) (suc k) l lt none =
    let less = fewer xs k l (omega arith) none in
    omega (arith, less)

pub finds_fewer : (t : Table) (bodies : List (Option ℕ)) (old new : List (Option Layout)) (k : ℕ) → length old ≡ length t.types → Finds t bodies old new k → missing new < missing old
finds_fewer t bodies old new k len f =
    let lt : k < length t.types = slice_get_within t.types k _ f.known in
    rw f.new_is (fewer old k f.layout (in_range old k (length t.types) len lt) f.unknown)

-- ---- passes

reaches_along : (t : Table) (bodies : List (Option ℕ)) (a b : List (Option Layout)) → Reaches t bodies a b → (c : List (Option Layout)) → Reaches t bodies b c → Reaches t bodies a c
reaches_along t bodies a b p _ Stays = p
reaches_along t bodies a b p _ (Further q f) = Further (reaches_along t bodies a b p _ q) f

pub reaches_then : (t : Table) (bodies : List (Option ℕ)) (a b c : List (Option Layout)) → Reaches t bodies a b → Reaches t bodies b c → Reaches t bodies a c
reaches_then t bodies a b c p q = reaches_along t bodies a b p c q

pub starts : (t : Table) (bodies : List (Option ℕ)) (a : List (Option Layout)) → AreBounded a → Passes t bodies a a 0 false
starts t bodies a all = record { reaches = Stays; len = refl; bounded = all; ends = (refl, λ k lt. absurd (omega arith)) }

pub tried : (t : Table) (bodies : List (Option ℕ)) (old new : List (Option Layout)) (k : ℕ) (b : Bool) → length old ≡ length t.types → AreBounded old → Tries t bodies old new k b
    → Reaches t bodies old new × (length new ≡ length old) × AreBounded new
tried t bodies old new k true len all f = (Further Stays f, finds_len t bodies old new k f, finds_bounded t bodies old new k len all f)
tried t bodies old new k false len all same = rw same.0 (Stays, refl, all)

most_missing : (t : Table) (bodies : List (Option ℕ)) (old new : List (Option Layout)) (n : ℕ) (b : Bool) → PassEnds t bodies old new n b → missing new ≤ missing old
most_missing t bodies old new n true ends = omega (arith, ends)
most_missing t bodies old new n false ends = rw ends.0 (omega arith)

pub found_more_now : (t : Table) (bodies : List (Option ℕ)) (old mid new : List (Option Layout)) (n : ℕ) (b : Bool) → length old ≡ length t.types → Passes t bodies old mid n b → Tries t bodies mid new n true → Passes t bodies old new (n + 1) true
found_more_now t bodies old mid new n b len p f =
    let mid_len : length mid ≡ length t.types = p.len ∙ len in
    let more = tried t bodies mid new n true mid_len p.bounded f in
    record {
      reaches = Further p.reaches f;
      len = more.1 ∙ p.len;
      bounded = more.2;
      ends = omega (arith, finds_fewer t bodies mid new n mid_len f, most_missing t bodies old mid n b p.ends);
    }

done_more : (t : Table) (bodies : List (Option ℕ)) (old : List (Option Layout)) (n : ℕ) → ((k : ℕ) → k < n → IsDone t bodies old k) → IsDone t bodies old n → (k : ℕ) → k < n + 1 → IsDone t bodies old k
done_more t bodies old n below here = below_more (IsDone t bodies old) n below here

passed_by : (t : Table) (bodies : List (Option ℕ)) (old mid new : List (Option Layout)) (n : ℕ) (b : Bool) → PassEnds t bodies old mid n b → Tries t bodies mid new n false → PassEnds t bodies old new (n + 1) b
passed_by t bodies old mid new n true ends same = rw same.0 ends
passed_by t bodies old mid new n false ends same =
    (same.0 ∙ ends.0, done_more t bodies old n ends.1 (subst (λ (a : List (Option Layout)). IsDone t bodies a n) ends.0 same.1))

pub no_more_now : (t : Table) (bodies : List (Option ℕ)) (old mid new : List (Option Layout)) (n : ℕ) (b : Bool) → Passes t bodies old mid n b → Tries t bodies mid new n false → Passes t bodies old new (n + 1) b
no_more_now t bodies old mid new n b p same = record {
  reaches = subst (λ (a : List (Option Layout)). Reaches t bodies old a) (sym same.0) p.reaches;
  len = ap length same.0 ∙ p.len;
  bounded = subst AreBounded (sym same.0) p.bounded;
  ends = passed_by t bodies old mid new n b p.ends same;
}
