-- The bytes of globals, one after another.
use Rattle.std.proofs.Common.{◌≡◌, ℕ, suc, ◌+◌, ◌<◌, Bool, true, false, List, [], ◌∷◌, ◌++◌, length, take, get_or, refl, sym, ap, ◌∙◌, arith, append-nil}
use Rattle.std.proofs.lemmas.List.{length-take, take_more}
use Rattle.std.specs.Prelude.{if◌then◌else◌, not}
use Rattle.ir_tree.specs.declared.items.Global.{Global as Variable}
use Rattle.mem_image.specs.declared.object.Byte.{Byte}
use Rattle.mem_image.specs.declared.object.Object.{Object}
use Rattle.mem_image.specs.Picture.{bytes_at}
use Rattle.seq_machine.specs.declared.state.GlobalBytes.{GlobalBytes}
use Rattle.seq_run.specs.Outcomes.{global_bytes}

more_if : (b : Bool) (x : GlobalBytes) (xs ys zs : List GlobalBytes) → xs ≡ ys ++ zs → (if b then xs else x ∷ xs) ≡ (if b then ys else x ∷ ys) ++ zs
more_if true x xs ys zs e = e
more_if false x xs ys zs e = ap (λ l. x ∷ l) e

bytes_append : (objects : List Object) (i : ℕ) (xs ys : List (Variable ℕ ℕ ℕ)) → global_bytes objects i (xs ++ ys) ≡ global_bytes objects i xs ++ global_bytes objects (i + length xs) ys
bytes_append objects i [] ys = let e : i + 0 ≡ i = omega arith in rw e refl
bytes_append objects i (x ∷ xs) ys =
    let e : (i + 1) + length xs ≡ i + suc (length xs) = omega arith in
    more_if x.constant (record { global = i; bytes = bytes_at i objects }) (global_bytes objects (i + 1) (xs ++ ys)) (global_bytes objects (i + 1) xs) (global_bytes objects (i + suc (length xs)) ys)
    (bytes_append objects (i + 1) xs ys ∙ rw e refl)

one_global : (b : Bool) (x : GlobalBytes) (v : Bool) → b ≡ v → (if b then [] else x ∷ []) ≡ (if v then [] else x ∷ [])
one_global b x v e = ap (λ t. if t then [] else x ∷ []) e

one_more : (objects : List Object) (gs : List (Variable ℕ ℕ ℕ)) (k : ℕ) (d : Variable ℕ ℕ ℕ) → k < length gs
    → global_bytes objects 0 (take (k + 1) gs) ≡ global_bytes objects 0 (take k gs) ++ global_bytes objects k (get_or gs k d ∷ [])
one_more objects gs k d lt =
    let len : 0 + length (take k gs) ≡ k = omega (arith, length-take k gs) in
    rw (take_more gs k d lt, bytes_append objects 0 (take k gs) (get_or gs k d ∷ []), len) refl

was_true : (b : Bool) → not b ≡ false → b ≡ true
was_true true e = refl
was_true false e = absurd cc

was_false : (b : Bool) → not b ≡ true → b ≡ false
was_false true e = absurd cc
was_false false e = refl

-- a constant adds nothing
pub constant_more : (objects : List Object) (gs : List (Variable ℕ ℕ ℕ)) (k : ℕ) (d : Variable ℕ ℕ ℕ) (all : List GlobalBytes) → k < length gs → not (get_or gs k d).constant ≡ false → all ≡ global_bytes objects 0 (take k gs)
    → all ≡ global_bytes objects 0 (take (k + 1) gs)
constant_more objects gs k d all lt constant is = is ∙ sym (one_more objects gs k d lt ∙ rw (was_true _ constant) (append-nil (global_bytes objects 0 (take k gs))))

-- another global adds its bytes
pub global_more : (objects : List Object) (gs : List (Variable ℕ ℕ ℕ)) (k : ℕ) (d : Variable ℕ ℕ ℕ) (all new : List GlobalBytes) (bytes : List Byte) → k < length gs → not (get_or gs k d).constant ≡ true → all ≡ global_bytes objects 0 (take k gs)
    → bytes ≡ bytes_at k objects → new ≡ all ++ record { global = k; bytes = bytes } ∷ [] → new ≡ global_bytes objects 0 (take (k + 1) gs)
global_more objects gs k d all new bytes lt variable is own pushed =
    pushed ∙ rw (is, own) (sym (one_more objects gs k d lt ∙ rw (was_false _ variable) refl))
