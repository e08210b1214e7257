-- Typed calls of the functions outside a module are safe.
use Rattle.std.proofs.Common.{◌≡◌, ℕ, zero, suc, ◌+◌, ◌*◌, ◌==◌, ◌%◌, ◌^◌, ◌++◌, Bool, true, false, List, [], ◌∷◌, length, slice_get, Option, Some, None, refl, sym, ap, subst, ◌∙◌, if◌then◌else◌, eqb-true, eq-eqb, ◌⊎◌, inl, inr}
use Rattle.std.specs.Prelude.{slice_set}
use Rattle.pv_base.specs.Outside.{Text}
use Rattle.pv_base.specs.External.{ExternalType, IntegerOf, Pointer as PointerOf}
use Rattle.pv_base.specs.declared.place.Site.{Site}
use Rattle.pv_base.specs.declared.external.External.{External}
use Rattle.pv_base.specs.declared.external.External.TheVariants as external
use Rattle.int_num.specs.Integer.{Integer, low_byte}
use Rattle.int_num.specs.Operations.{compare}
use Rattle.int_num.specs.declared.ops.Pred.{Pred}
use Rattle.int_num.specs.declared.ops.Pred.TheVariants.{Sgt, Slt, Ugt, Ult}
use Rattle.ir_code.specs.declared.op.Scalar.{Scalar}
use Rattle.ir_code.specs.declared.op.Scalar.TheVariants as scalar
use Rattle.ir_code.specs.declared.op.Operand.{Operand}
use Rattle.ir_code.specs.declared.op.Op.TheVariants as op
use Rattle.ir_code.specs.declared.code.FunctionCode.{FunctionCode}
use Rattle.ir_code.specs.declared.code.Code.{Code}
use Rattle.mem_image.specs.declared.object.Pointer.{Pointer as Address}
use Rattle.mem_image.specs.declared.object.Pointer.TheVariants.{Null, Obj, Fun}
use Rattle.mem_image.specs.declared.object.Byte.{Byte}
use Rattle.mem_image.specs.declared.object.Byte.TheVariants.{Unset, Num, Ptr}
use Rattle.mem_image.specs.declared.object.Kind.TheVariants.{Heap}
use Rattle.mem_image.specs.Calls.{Reply, Make, Bytes, Made, Done}
use Rattle.seq_effects.specs.Script.{Script, Gives, tell}
use Rattle.seq_calls.specs.declared.show.Arg.{Arg}
use Rattle.seq_calls.specs.declared.show.Arg.TheVariants as arg
use Rattle.seq_calls.specs.Format.{formatted, text_args}
use Rattle.seq_effects.specs.declared.state.Value.{Value}
use Rattle.seq_effects.specs.declared.state.Value.TheVariants.{Int, Pointer}
use Rattle.seq_effects.specs.declared.state.Frame.{Frame}
use Rattle.seq_effects.specs.declared.state.Effect.{Effect}
use Rattle.seq_effects.specs.declared.state.Effect.TheVariants as effect
use Rattle.seq_effects.specs.Values.{number, pointer, operands, accepts, giving, is_of, is_some_type, may_hold}
use Rattle.seq_effects.specs.Flow.{receives}
use Rattle.seq_externals.specs.Externals.{called_external, made_value, request, malloc, calloc, free, freed, int32, printing, putchar, taking, getchar, exit, transfer, filled, memset, chosen, giving_to, extreme, after, byte_number, byte_of, read_byte, text_on, text, text_at, text_limit, puts, printf, printed, formatting, texts, text_of_value, capped, args_of}
use Rattle.unreachable_laws.specs.Typing.{OperandHas, OuterHas, Begin, OuterTyped}
use Rattle.unreachable_laws.specs.States.{RegistersTyped}
use Rattle.unreachable_laws.specs.Trees.{Sound, Replies, Safe, HoldsTyped, EffectTyped}
use Rattle.unreachable_laws.proofs.Trees.{Anything, then_sound, where_sound, if_sound, tell_safe, with_safe, chain_safe, if_safe}
use Rattle.unreachable_laws.proofs.Operands.{Of, Wide, any_operands, may_be, number_sound, pointer_sound}
use Rattle.unreachable_laws.proofs.Flow.{type_same}

only : {A : Type 0} → A ⊎ ⊥ → A
only (inl a) = a
only (inr e) = elim e [ ]

whole_of : (types : List Scalar) (n : ℕ) (x : Operand) → OuterHas types (IntegerOf n) x → OperandHas types (scalar.Int n) x
whole_of types n x (s, e, h) = let same : s ≡ scalar.Int n = cc in subst (λ t. OperandHas types t x) same h

pointer_of : (types : List Scalar) (x : Operand) → OuterHas types PointerOf x → OperandHas types scalar.Pointer x
pointer_of types x (s, e, h) = let same : s ≡ scalar.Pointer = cc in subst (λ t. OperandHas types t x) same h

accepted : (types : List Scalar) (to : Option ℕ) (t : Scalar) → receives types to (Some t) ≡ true → accepts types to t ≡ true
accepted types None t e = refl
accepted types (Some to) t e = e

-- ---- texts

byte_sound : (word : List Byte) → Sound Anything (byte_number word)
byte_sound [] = λ e. absurd cc
byte_sound (Num n ∷ []) = tt
byte_sound (Unset ∷ []) = λ e. absurd cc
byte_sound (Ptr part p ∷ []) = λ e. absurd cc
byte_sound (Num n ∷ b ∷ rest) = λ e. absurd cc
byte_sound (Unset ∷ b ∷ rest) = λ e. absurd cc
byte_sound (Ptr part p ∷ b ∷ rest) = λ e. absurd cc

read_safe : (at : Site) (slot : ℕ) (p : Address) → Safe Anything (read_byte at slot p)
read_safe at slot p (Bytes word) q = tell_safe Anything (byte_number word) (byte_sound word)
read_safe at slot p (Made x) q = elim q [ ]
read_safe at slot p Done q = elim q [ ]

on_safe : (go_on : Text → Script Text) (bytes : Text) (n : ℕ) → ((more : Text) → Safe Anything (go_on more)) → Safe Anything (text_on go_on bytes n)
on_safe go_on bytes n h = either (n == 0) (Gives bytes) (go_on (bytes ++ n ∷ [])) tt (h (bytes ++ n ∷ []))
  where
    either : (b : Bool) (s r : Script Text) → Safe Anything s → Safe Anything r → Safe Anything (if b then s else r)
    either true s r h k = h
    either false s r h k = k

text_safe : (fuel : ℕ) (at : Site) (slot : ℕ) (p : Address) (bytes : Text) → Safe Anything (text fuel at slot p bytes)
text_safe zero at slot p bytes = λ e. absurd cc
text_safe (suc fuel) at slot p bytes =
    chain_safe Anything Anything (read_byte at slot p) (text_on (text fuel at slot (after p)) bytes) (read_safe at slot p) (λ n q. on_safe (text fuel at slot (after p)) bytes n (text_safe fuel at slot (after p)))

at_safe : (at : Site) (slot : ℕ) (p : Address) → Safe Anything (text_at at slot p)
at_safe at slot p = text_safe text_limit at slot p []

value_safe : (at : Site) (slot : ℕ) (v : Option Value) → Safe Anything (text_of_value at slot v)
value_safe at slot (Some (Pointer p)) = at_safe at slot p
value_safe at slot (Some (Int n)) = λ e. absurd cc
value_safe at slot None = λ e. absurd cc

texts_safe : (at : Site) (vs : List Value) (ks : List ℕ) (args : List Arg) → Safe Anything (texts at vs ks args)
texts_safe at vs [] args = tt
texts_safe at vs (k ∷ ks) args = chain_safe Anything Anything (text_of_value at (k + 1) (slice_get vs k)) _ (value_safe at (k + 1) (slice_get vs k)) (λ t q. texts_safe at vs ks (slice_set args k (arg.Text t)))

-- over a call of an external in a frame whose registers have their types
module _ (code : Code) (g : FunctionCode) (to : Option ℕ) (e : External) (xs : List Operand) (f : Frame) (typed : RegistersTyped g.registers f.registers) where
  abbrev Typed : Effect → Type 0
  Typed x = EffectTyped code g (op.CallExternal to e xs) x

  holds : (t : Scalar) (v : Value) → receives g.registers to (Some t) ≡ true → Of t v → HoldsTyped g.registers to v
  holds t v r h = go to r
    where
      fits : (o : Option Scalar) → is_some_type o t ≡ true → may_hold o v ≡ true
      fits None r = absurd cc
      fits (Some s) r = let same : s ≡ t = type_same s t r in subst (λ x. is_of v x ≡ true) (sym same) h

      go : (to : Option ℕ) → receives g.registers to (Some t) ≡ true → HoldsTyped g.registers to v
      go None r = tt
      go (Some k) r = fits (slice_get g.registers k) r

  giving_typed : (t : Scalar) (v : Value) → receives g.registers to (Some t) ≡ true → Of t v → Typed (giving to v)
  giving_typed t v r h = go to (holds t v r h)
    where
      go : (k : Option ℕ) → HoldsTyped g.registers k v → Typed (giving k v)
      go None h = refl
      go (Some k) h = (refl, h)

  request_safe : (at : Site) (size : ℕ) (zeroed : Bool) → receives g.registers to (Some scalar.Pointer) ≡ true → Safe Typed (request g.registers at to size zeroed)
  request_safe at size zeroed r = if_safe Typed (accepts g.registers to scalar.Pointer) _ _ (accepted g.registers to scalar.Pointer r) answer
    where
      answer : (a : Reply) → Replies (Make at Heap size zeroed) a → Safe Typed (tell (made_value to a))
      answer (Made p) q = giving_typed scalar.Pointer (Pointer p) r refl
      answer (Bytes word) q = elim q [ ]
      answer Done q = elim q [ ]

  printing_sound : (t : Text) (n : ℕ) → receives g.registers to (Some (scalar.Int 32)) ≡ true → Sound Typed (printing g.registers to t n)
  printing_sound t n r = where_sound Typed (accepts g.registers to (scalar.Int 32)) (effect.Print t to (int32 n)) (accepted g.registers to (scalar.Int 32) r) (λ q. (refl, holds (scalar.Int 32) (int32 n) r refl))

  malloc_safe : (at : Site) (ys : List Operand) → Begin g.registers false (IntegerOf 64 ∷ []) ys → receives g.registers to (Some scalar.Pointer) ≡ true → Safe Typed (malloc g.registers f at to ys)
  malloc_safe at [] h r = elim h [ ]
  malloc_safe at (x ∷ []) h r = with_safe (Wide 64) Typed (number f x) _ (number_sound g.registers f typed 64 x (whole_of g.registers 64 x h.0)) (λ n q. request_safe at n.bits false r)
  malloc_safe at (x ∷ y ∷ ys) h r = elim h.1 [ ]

  calloc_safe : (at : Site) (ys : List Operand) → Begin g.registers false (IntegerOf 64 ∷ IntegerOf 64 ∷ []) ys → receives g.registers to (Some scalar.Pointer) ≡ true → Safe Typed (calloc g.registers f at to ys)
  calloc_safe at [] h r = elim h [ ]
  calloc_safe at (x ∷ []) h r = elim h.1 [ ]
  calloc_safe at (x ∷ y ∷ []) h r =
      with_safe (Wide 64) Typed (number f x) _ (number_sound g.registers f typed 64 x (whole_of g.registers 64 x h.0))
      (λ n q. with_safe (Wide 64) Typed (number f y) _ (number_sound g.registers f typed 64 y (whole_of g.registers 64 y h.1.0)) (λ s p. request_safe at (capped (n.bits * s.bits)) true r))
  calloc_safe at (x ∷ y ∷ z ∷ ys) h r = elim h.1.1 [ ]

  freed_safe : (at : Site) (p : Address) → Safe Typed (freed at p)
  freed_safe at Null = refl
  freed_safe at (Obj name offset) = λ r q. refl
  freed_safe at (Fun index) = λ r q. refl

  free_safe : (at : Site) (ys : List Operand) → Begin g.registers false (PointerOf ∷ []) ys → Safe Typed (free f at ys)
  free_safe at [] h = elim h [ ]
  free_safe at (x ∷ []) h = with_safe Anything Typed (pointer f x) _ (pointer_sound g.registers f typed x (pointer_of g.registers x h.0)) (λ p q. freed_safe at p)
  free_safe at (x ∷ y ∷ ys) h = elim h.1 [ ]

  putchar_sound : (ys : List Operand) → Begin g.registers false (IntegerOf 32 ∷ []) ys → receives g.registers to (Some (scalar.Int 32)) ≡ true → Sound Typed (putchar g.registers f to ys)
  putchar_sound [] h r = elim h [ ]
  putchar_sound (x ∷ []) h r = then_sound (Wide 32) Typed (number f x) _ (number_sound g.registers f typed 32 x (whole_of g.registers 32 x h.0)) (λ n q. printing_sound (low_byte n ∷ []) (low_byte n) r)
  putchar_sound (x ∷ y ∷ ys) h r = elim h.1 [ ]

  puts_safe : (at : Site) (ys : List Operand) → Begin g.registers false (PointerOf ∷ []) ys → receives g.registers to (Some (scalar.Int 32)) ≡ true → Safe Typed (puts g.registers f at to ys)
  puts_safe at [] h r = elim h [ ]
  puts_safe at (x ∷ []) h r =
      with_safe Anything Typed (pointer f x) _ (pointer_sound g.registers f typed x (pointer_of g.registers x h.0))
      (λ p q. chain_safe Anything Typed (text_at at 0 p) _ (at_safe at 0 p) (λ bytes c. tell_safe Typed (printing g.registers to (bytes ++ 10 ∷ []) 0) (printing_sound (bytes ++ 10 ∷ []) 0 r)))
  puts_safe at (x ∷ y ∷ ys) h r = elim h.1 [ ]

  getchar_sound : (input : Text) (place : ℕ) → receives g.registers to (Some (scalar.Int 32)) ≡ true → Sound Typed (getchar g.registers to input place)
  getchar_sound input place r = where_sound Typed (accepts g.registers to (scalar.Int 32)) (taking to place (slice_get input place)) (accepted g.registers to (scalar.Int 32) r) (λ q. took (slice_get input place))
    where
      took : (b : Option ℕ) → Typed (taking to place b)
      took (Some b) = (refl, holds (scalar.Int 32) (int32 b) r refl)
      took None = (refl, holds (scalar.Int 32) (int32 4294967295) r refl)

  printed_sound : (t : Option Text) → receives g.registers to (Some (scalar.Int 32)) ≡ true → Sound Typed (printed g.registers to t)
  printed_sound (Some t) r = printing_sound t (length t % 2 ^ 32) r
  printed_sound None r = λ q. absurd cc

  formatting_safe : (at : Site) (vs : List Value) (format : Text) → receives g.registers to (Some (scalar.Int 32)) ≡ true → Safe Typed (formatting g.registers at to vs format)
  formatting_safe at vs format r =
      chain_safe Anything Typed (texts at vs (text_args format (args_of vs)) (args_of vs)) _ (texts_safe at vs (text_args format (args_of vs)) (args_of vs))
      (λ args q. tell_safe Typed (printed g.registers to (formatted format args)) (printed_sound (formatted format args) r))

  printf_safe : (at : Site) (ys : List Operand) → Begin g.registers true (PointerOf ∷ []) ys → receives g.registers to (Some (scalar.Int 32)) ≡ true → Safe Typed (printf g.registers f at to ys)
  printf_safe at [] h r = elim h [ ]
  printf_safe at (x ∷ ys) h r =
      with_safe Anything Typed (pointer f x) _ (pointer_sound g.registers f typed x (pointer_of g.registers x h.0))
      (λ p a. with_safe Anything Typed (operands f ys) _ (any_operands f ys) (λ vs b. chain_safe Anything Typed (text_at at 0 p) _ (at_safe at 0 p) (λ format q. formatting_safe at vs format r)))

  exit_sound : (ys : List Operand) → Begin g.registers false (IntegerOf 32 ∷ []) ys → Sound Typed (exit f ys)
  exit_sound [] h = elim h [ ]
  exit_sound (x ∷ []) h = then_sound (Wide 32) Typed (number f x) _ (number_sound g.registers f typed 32 x (whole_of g.registers 32 x h.0)) (λ n q. where_sound Typed (n.width == 32) (effect.Exit n) (eq-eqb n.width 32 q) (λ p. tt))
  exit_sound (x ∷ y ∷ ys) h = elim h.1 [ ]

  transfer_safe : (at : Site) (overlap : Bool) (n : ℕ) (ys : List Operand) → Begin g.registers false (PointerOf ∷ PointerOf ∷ IntegerOf n ∷ IntegerOf 1 ∷ []) ys → Safe Typed (transfer f at overlap ys)
  transfer_safe at overlap n [] h = elim h [ ]
  transfer_safe at overlap n (x ∷ []) h = elim h.1 [ ]
  transfer_safe at overlap n (x ∷ y ∷ []) h = elim h.1.1 [ ]
  transfer_safe at overlap n (x ∷ y ∷ z ∷ []) h = elim h.1.1.1 [ ]
  transfer_safe at overlap n (x ∷ y ∷ z ∷ v ∷ []) h =
      with_safe Anything Typed (pointer f x) _ (pointer_sound g.registers f typed x (pointer_of g.registers x h.0))
      (λ p a. with_safe Anything Typed (pointer f y) _ (pointer_sound g.registers f typed y (pointer_of g.registers y h.1.0))
      (λ q b. with_safe (Wide n) Typed (number f z) _ (number_sound g.registers f typed n z (whole_of g.registers n z h.1.1.0))
      (λ l c. with_safe (Wide 1) Typed (number f v) _ (number_sound g.registers f typed 1 v (whole_of g.registers 1 v h.1.1.1.0)) (λ w d r s. refl))))
  transfer_safe at overlap n (x ∷ y ∷ z ∷ v ∷ w ∷ ys) h = elim h.1.1.1.1 [ ]

  memset_safe : (at : Site) (n : ℕ) (ys : List Operand) → Begin g.registers false (PointerOf ∷ IntegerOf 8 ∷ IntegerOf n ∷ IntegerOf 1 ∷ []) ys → Safe Typed (memset f at ys)
  memset_safe at n [] h = elim h [ ]
  memset_safe at n (x ∷ []) h = elim h.1 [ ]
  memset_safe at n (x ∷ y ∷ []) h = elim h.1.1 [ ]
  memset_safe at n (x ∷ y ∷ z ∷ []) h = elim h.1.1.1 [ ]
  memset_safe at n (x ∷ y ∷ z ∷ v ∷ []) h =
      with_safe Anything Typed (pointer f x) _ (pointer_sound g.registers f typed x (pointer_of g.registers x h.0))
      (λ p a. with_safe (Wide 8) Typed (number f y) _ (number_sound g.registers f typed 8 y (whole_of g.registers 8 y h.1.0))
      (λ b e. with_safe (Wide n) Typed (number f z) _ (number_sound g.registers f typed n z (whole_of g.registers n z h.1.1.0))
      (λ l c. with_safe (Wide 1) Typed (number f v) _ (number_sound g.registers f typed 1 v (whole_of g.registers 1 v h.1.1.1.0))
      (λ w d. if_safe Typed (b.width == 8) _ _ (eq-eqb b.width 8 e) (λ r s. refl)))))
  memset_safe at n (x ∷ y ∷ z ∷ v ∷ w ∷ ys) h = elim h.1.1.1.1 [ ]

  to_sound : (n : ℕ) (v : Value) → receives g.registers to (Some (scalar.Int n)) ≡ true → Of (scalar.Int n) v → Sound Typed (giving_to g.registers to v)
  to_sound n v r h = go to (holds (scalar.Int n) v r h)
    where
      go : (k : Option ℕ) → HoldsTyped g.registers k v → Sound Typed (giving_to g.registers k v)
      go None q = refl
      go (Some k) q = where_sound Typed (may_hold (slice_get g.registers k) v) (effect.Give k v) q (λ p. (refl, p))

  extreme_sound : (p : Pred) (n : ℕ) (ys : List Operand) → Begin g.registers false (IntegerOf n ∷ IntegerOf n ∷ []) ys → receives g.registers to (Some (scalar.Int n)) ≡ true → Sound Typed (extreme g.registers f p to ys)
  extreme_sound p n [] h r = elim h [ ]
  extreme_sound p n (x ∷ []) h r = elim h.1 [ ]
  extreme_sound p n (x ∷ y ∷ []) h r =
      then_sound (Wide n) Typed (number f x) _ (number_sound g.registers f typed n x (whole_of g.registers n x h.0))
      (λ a q. then_sound (Wide n) Typed (number f y) _ (number_sound g.registers f typed n y (whole_of g.registers n y h.1.0))
      (λ b s. then_sound (Wide n) Typed (chosen p a b) _ (chosen_sound a b q s) (λ m t. to_sound n (Int m) r (eq-eqb m.width n t))))
    where
      one : (c : Bool) (a b : Integer) → a.width ≡ n → b.width ≡ n → Wide n (if c then a else b)
      one true a b q s = q
      one false a b q s = s

      chosen_sound : (a b : Integer) → a.width ≡ n → b.width ≡ n → Sound (Wide n) (chosen p a b)
      chosen_sound a b q s = if_sound (Wide n) (a.width == b.width) _ _ (λ e. one (compare p a b) a b q s) (λ e. let t = eq-eqb a.width b.width (q ∙ sym s) in absurd cc)
  extreme_sound p n (x ∷ y ∷ z ∷ ys) h r = elim h.1.1 [ ]

-- ---- all of them

pub external_safe : (code : Code) (g : FunctionCode) (to : Option ℕ) (e : External) (xs : List Operand) (f : Frame) (at : Site) (input : Text) (place : ℕ) → RegistersTyped g.registers f.registers → OuterTyped g.registers to e xs
    → Safe (EffectTyped code g (op.CallExternal to e xs)) (called_external g.registers f at input place to e xs)
unfolding called_external
external_safe code g to external.Malloc xs f at input place typed h = malloc_safe code g to external.Malloc xs f typed at xs (only h.arguments) h.result
external_safe code g to external.Calloc xs f at input place typed h = calloc_safe code g to external.Calloc xs f typed at xs (only h.arguments) h.result
external_safe code g to external.Free xs f at input place typed h = free_safe code g to external.Free xs f typed at xs (only h.arguments)
external_safe code g to external.Putchar xs f at input place typed h = tell_safe (EffectTyped code g (op.CallExternal to external.Putchar xs)) (putchar g.registers f to xs) (putchar_sound code g to external.Putchar xs f typed xs (only h.arguments) h.result)
external_safe code g to external.Puts xs f at input place typed h = puts_safe code g to external.Puts xs f typed at xs (only h.arguments) h.result
external_safe code g to external.Getchar xs f at input place typed h = tell_safe (EffectTyped code g (op.CallExternal to external.Getchar xs)) (getchar g.registers to input place) (getchar_sound code g to external.Getchar xs f typed input place h.result)
external_safe code g to external.Printf xs f at input place typed h = printf_safe code g to external.Printf xs f typed at xs (only h.arguments) h.result
external_safe code g to external.Exit xs f at input place typed h = tell_safe (EffectTyped code g (op.CallExternal to external.Exit xs)) (exit f xs) (exit_sound code g to external.Exit xs f typed xs (only h.arguments))
external_safe code g to external.Abort xs f at input place typed h = λ q. absurd cc
external_safe code g to (external.Memcpy n) xs f at input place typed h = transfer_safe code g to (external.Memcpy n) xs f typed at false n xs (only h.arguments)
external_safe code g to (external.Memmove n) xs f at input place typed h = transfer_safe code g to (external.Memmove n) xs f typed at true n xs (only h.arguments)
external_safe code g to (external.Memset n) xs f at input place typed h = memset_safe code g to (external.Memset n) xs f typed at n xs (only h.arguments)
external_safe code g to (external.Smax n) xs f at input place typed h = tell_safe (EffectTyped code g (op.CallExternal to (external.Smax n) xs)) (extreme g.registers f Sgt to xs) (extreme_sound code g to (external.Smax n) xs f typed Sgt n xs (only h.arguments) h.result)
external_safe code g to (external.Smin n) xs f at input place typed h = tell_safe (EffectTyped code g (op.CallExternal to (external.Smin n) xs)) (extreme g.registers f Slt to xs) (extreme_sound code g to (external.Smin n) xs f typed Slt n xs (only h.arguments) h.result)
external_safe code g to (external.Umax n) xs f at input place typed h = tell_safe (EffectTyped code g (op.CallExternal to (external.Umax n) xs)) (extreme g.registers f Ugt to xs) (extreme_sound code g to (external.Umax n) xs f typed Ugt n xs (only h.arguments) h.result)
external_safe code g to (external.Umin n) xs f at input place typed h = tell_safe (EffectTyped code g (op.CallExternal to (external.Umin n) xs)) (extreme g.registers f Ult to xs) (extreme_sound code g to (external.Umin n) xs f typed Ult n xs (only h.arguments) h.result)
external_safe code g to external.LifetimeStart xs f at input place typed h = refl
external_safe code g to external.LifetimeEnd xs f at input place typed h = refl
