-- The texts that a format wants.
use Rattle.std.proofs.Common.{◌≡◌, ◌<◌, ◌≤◌, ◌+◌, ℕ, zero, suc, refl, arith, add-one, List, [], ◌∷◌, length, drop, drop-cons, get_or, slice_get, slice_set, Option, Result, Ok, Err}
use Rattle.std.proofs.lemmas.List.{drop_all}
use Rattle.pv_base.specs.Outside.{Text}
use Rattle.pv_base.specs.declared.place.Site.{Site}
use Rattle.ir_code.specs.declared.op.Scalar.{Scalar}
use Rattle.ir_code.specs.declared.op.Operand.{Operand}
use Rattle.mem_image.specs.declared.object.Pointer.{Pointer}
use Rattle.mem_image.specs.declared.fault.Trap.{Trap as TrapWord}
use Rattle.mem_image.specs.declared.fault.Fault.{Fault}
use Rattle.mem_image.specs.declared.fault.Fault.TheVariants.{Trap, Check, Memory}
use Rattle.mem_image.specs.Picture.{Picture}
use Rattle.mem_image.specs.Calls.{Call, Reply}
use Rattle.seq_calls.specs.declared.show.Arg.{Arg}
use Rattle.seq_calls.specs.declared.show.Arg.TheVariants as arg
use Rattle.seq_calls.specs.Format.{formatted, text_args, IsPointer}
use Rattle.seq_effects.specs.declared.state.Effect.{Effect}
use Rattle.seq_effects.specs.declared.state.Frame.{Frame}
use Rattle.seq_effects.specs.declared.state.Value.{Value}
use Rattle.seq_effects.specs.Script.{Script, chain, tell, with, Follows, Tells}
use Rattle.seq_effects.specs.Values.{pointer, operands}
use Rattle.seq_externals.specs.Externals.{text_at, text_of_value, texts, args_of, printed, formatting, printf}
use Rattle.seq_effects.proofs.Follow.{follows_chain, follows_cut, follows_out_of_memory}
use Rattle.seq_effects.proofs.Arms.{tells_follows}

pub pointer_there : (args : List Arg) (k : ℕ) → IsPointer (slice_get args k) → k < length args
pointer_there [] k h = elim h [ ]
pointer_there (a ∷ args) zero h = omega arith
pointer_there (a ∷ args) (suc k) h = let r = pointer_there args k h in omega arith

module _ {M : Type 0} (image : M → Picture) (R : M → Call → Result Reply Fault → M → Type 0) (at : Site) (vs : List Value) where
  -- ---- one text after another

  next : List ℕ → ℕ → List Arg → Text → Script (List Arg)
  next ks i args t = texts at vs (drop (suc i) ks) (slice_set args (get_or ks i 0) (arg.Text t))

  pub texts_more : (ks : List ℕ) (i : ℕ) (args more : List Arg) (t : Text) (m mid n : M) (answer : Result (List Arg) Fault) → i < length ks → Follows image R (text_of_value at (get_or ks i 0 + 1) (slice_get vs (get_or ks i 0))) m (Ok t) mid → more ≡ slice_set args (get_or ks i 0) (arg.Text t)
      → Follows image R (texts at vs (drop (i + 1) ks) more) mid answer n → Follows image R (texts at vs (drop i ks) args) m answer n
  unfolding next
  texts_more ks i args more t m mid n answer lt h e rest =
      let there : Follows image R (next ks i args t) mid answer n = rw (add-one, e) at rest in
      rw (drop-cons ks i 0) (follows_chain image R (text_of_value at (get_or ks i 0 + 1) (slice_get vs (get_or ks i 0))) (next ks i args) m mid n t answer h there)

  pub texts_cut : (ks : List ℕ) (i : ℕ) (args : List Arg) (m n : M) (f : Fault) → i < length ks → Follows image R (text_of_value at (get_or ks i 0 + 1) (slice_get vs (get_or ks i 0))) m (Err f) n → Follows image R (texts at vs (drop i ks) args) m (Err f) n
  unfolding next
  texts_cut ks i args m n f lt h = rw (drop-cons ks i 0) (follows_cut image R (text_of_value at (get_or ks i 0 + 1) (slice_get vs (get_or ks i 0))) (next ks i args) m n f h)

  pub texts_end : (ks : List ℕ) (i : ℕ) (args : List Arg) (m : M) → length ks ≤ i → Follows image R (texts at vs (drop i ks) args) m (Ok args) m
  texts_end ks i args m h = rw (drop_all i ks h) (refl, refl)

  -- ---- and then the format

  module _ (types : List Scalar) (to : Option ℕ) (format : Text) (found : List ℕ) (args : List Arg) (m n : M) (e : args ≡ args_of vs) (g : found ≡ text_args format args) where
    line : List Arg → Script Effect
    line filled = tell (printed types to (formatted format filled))

    pub values_cut : (f : Fault) → Follows image R (texts at vs found args) m (Err f) n → Follows image R (formatting types at to vs format) m (Err f) n
    unfolding line
    values_cut f h = rw (← e, ← g) (follows_cut image R (texts at vs found args) line m n f h)

    pub values_done : (filled : List Arg) (answer : Result Effect Fault) → Follows image R (texts at vs found args) m (Ok filled) n → Tells (printed types to (formatted format filled)) answer → Follows image R (formatting types at to vs format) m answer n
    unfolding line
    values_done filled answer h a = rw (← e, ← g) (follows_chain image R (texts at vs found args) line m n n filled answer h (tells_follows image R (printed types to (formatted format filled)) answer n a))

-- ---- the format itself

module _ {M : Type 0} (image : M → Picture) (R : M → Call → Result Reply Fault → M → Type 0) (types : List Scalar) (f : Frame) (at : Site) (to : Option ℕ) (x : Operand) (xs : List Operand) (p : Pointer) (e : Ok p ≡ pointer f x) where
  with_fault : (r : Result (List Value) TrapWord) (k : List Value → Script Effect) (m : M) (fault : Fault) → Tells r (Err fault) → Follows image R (with r k) m (Err fault) m
  with_fault (Ok a) k m (Trap t) h = elim h [ ]
  with_fault (Ok a) k m (Check c) h = elim h [ ]
  with_fault (Ok a) k m Memory h = follows_out_of_memory image R (k a) m
  with_fault (Err t) k m fault h = (h, refl)

  told : (r : Result (List Value) TrapWord) (vs : List Value) → Tells r (Ok vs) → r ≡ Ok vs
  told (Ok a) vs h = rw h refl
  told (Err t) vs h = elim h [ ]

  rest : List Value → Script Effect
  rest vs = chain (text_at at 0 p) (formatting types at to vs)

  pub operands_cut : (m : M) (fault : Fault) → Tells (operands f xs) (Err fault) → Follows image R (printf types f at to (x ∷ xs)) m (Err fault) m
  unfolding rest
  operands_cut m fault h = rw (← e) (with_fault (operands f xs) rest m fault h)

  pub format_cut : (vs : List Value) (m n : M) (fault : Fault) → Tells (operands f xs) (Ok vs) → Follows image R (text_at at 0 p) m (Err fault) n → Follows image R (printf types f at to (x ∷ xs)) m (Err fault) n
  format_cut vs m n fault are h = rw (← e, told (operands f xs) vs are) (follows_cut image R (text_at at 0 p) (formatting types at to vs) m n fault h)

  pub format_done : (vs : List Value) (m mid n : M) (format : Text) (answer : Result Effect Fault) → Tells (operands f xs) (Ok vs) → Follows image R (text_at at 0 p) m (Ok format) mid → Follows image R (formatting types at to vs format) mid answer n → Follows image R (printf types f at to (x ∷ xs)) m answer n
  format_done vs m mid n format answer are h next = rw (← e, told (operands f xs) vs are) (follows_chain image R (text_at at 0 p) (formatting types at to vs) m mid n format answer h next)
