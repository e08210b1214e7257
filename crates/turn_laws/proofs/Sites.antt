-- Every call of an instruction has its site.
use Rattle.std.proofs.Common.{◌≡◌, ℕ, zero, suc, ◌+◌, ◌*◌, ◌==◌, Bool, true, false, List, [], ◌∷◌, ◌++◌, length, map, slice_get, Option, Some, None, Result, Ok, Err, refl, if◌then◌else◌}
use Rattle.std.specs.Prelude.{pos, negsuc}
use Rattle.std.specs.List.{AllByRecursion}
use Rattle.pv_base.specs.Outside.{Text}
use Rattle.pv_base.specs.declared.place.Site.{Site}
use Rattle.pv_base.specs.declared.external.External.{External}
use Rattle.pv_base.specs.declared.external.External.TheVariants as external
use Rattle.int_num.specs.Integer.{Integer}
use Rattle.ir_code.specs.declared.op.Op.{Op}
use Rattle.ir_code.specs.declared.op.Op.TheVariants as op
use Rattle.ir_code.specs.declared.op.Scalar.{Scalar}
use Rattle.ir_code.specs.declared.op.Scalar.TheVariants as scalar
use Rattle.ir_code.specs.declared.op.Operand.{Operand}
use Rattle.ir_code.specs.declared.op.Index.{Index}
use Rattle.ir_code.specs.declared.code.FunctionCode.{FunctionCode}
use Rattle.ir_code.specs.declared.code.Code.{Code}
use Rattle.mem_image.specs.declared.fault.Trap.{Trap as TrapWord}
use Rattle.mem_image.specs.declared.fault.Fault.{Fault}
use Rattle.mem_image.specs.declared.object.Kind.{Kind}
use Rattle.mem_image.specs.declared.object.Pointer.{Pointer as Address}
use Rattle.mem_image.specs.declared.object.Pointer.TheVariants.{Null, Obj, Fun}
use Rattle.mem_image.specs.Picture.{Picture, size_of}
use Rattle.mem_image.specs.Calls.{Call, Reply, ReadWord, WriteWord, CopyRange, Fill, Make, Release, EndFrame, Bytes, Made, Done}
use Rattle.seq_calls.specs.declared.show.Arg.{Arg}
use Rattle.seq_calls.specs.Format.{formatted, text_args}
use Rattle.seq_effects.specs.declared.state.Value.{Value}
use Rattle.seq_effects.specs.declared.state.Value.TheVariants.{Int, Pointer}
use Rattle.seq_effects.specs.declared.state.Frame.{Frame}
use Rattle.seq_effects.specs.declared.state.Effect.{Effect}
use Rattle.seq_effects.specs.Script.{Script, Gives, Stops, Sizes, Asks, tell, with, chain}
use Rattle.seq_effects.specs.Values.{operand, operands, number, pointer, given, accepts, is_some_type}
use Rattle.seq_effects.specs.Numbers.{calculated, converted, frozen, compared, selected}
use Rattle.seq_effects.specs.Words.{word_length, stored}
use Rattle.seq_effects.specs.Accesses.{loaded_reply, load_from, load, store, made_own, alloca, distance, moved, moved_inside, move, address}
use Rattle.seq_effects.specs.Flow.{branched, called, called_through, switched, result_value, is_result, returned}
use Rattle.seq_externals.specs.Externals.{called_external, made_value, request, malloc, calloc, free, freed, printing, putchar, getchar, exit, transfer, filled, memset, extreme, after, byte_of, read_byte, text, text_at, text_limit, puts, printf, printed, formatting, texts, text_of_value, capped, args_of}
use Rattle.int_num.specs.declared.ops.Pred.TheVariants.{Sgt, Slt, Ugt, Ult}
use Rattle.seq_machine.specs.Acts.{Control, Acted, acted, top, function_at, op_at}
use Rattle.seq_machine.specs.Step.{here, has_next, site_at, site_of, script_in, script_of, script, control}
use Rattle.seq_machine.specs.Meaning.{meaning}
use Rattle.turn_laws.specs.Events.{Way, Reads, Writes, Event, Ends, touched_from, touched, made_by, released, events, by_call, logged_over}
use Rattle.turn_laws.specs.Over.{image_acts}
use Rattle.turn_laws.specs.Sites.{IsAt, CallsAt, AsksAt}
use Rattle.turn_laws.specs.Laws.{InstructionsAskAt, LogsAreAt, StepLogIsAt}

-- ---- trees from trees

module _ (site : Site) where
  tell_at : {A : Type 0} (x : Result A TrapWord) → AsksAt site (tell x)
  tell_at (Ok a) = tt
  tell_at (Err t) = tt

  with_at : {A B : Type 0} (x : Result A TrapWord) (k : A → Script B) → ((a : A) → AsksAt site (k a)) → AsksAt site (with x k)
  with_at (Ok a) k h = h a
  with_at (Err t) k h = tt

  pub chain_at : {A B : Type 0} (s : Script A) (k : A → Script B) → AsksAt site s → ((a : A) → AsksAt site (k a)) → AsksAt site (chain s k)
  chain_at (Gives a) k h g = g a
  chain_at (Stops t) k h g = tt
  chain_at (Sizes p j) k h g = λ size. chain_at (j size) k (h size) g
  chain_at (Asks call j) k h g = (h.0, λ r. chain_at (j r) k (h.1 r) g)

  if_at : {A : Type 0} (b : Bool) (s r : Script A) → AsksAt site s → AsksAt site r → AsksAt site (if b then s else r)
  if_at true s r h g = h
  if_at false s r h g = g

  -- ---- the instructions on memory

  load_from_at : (types : List Scalar) (to : ℕ) (t : Scalar) (p : Address) (len : Option ℕ) → AsksAt site (load_from types site to t p len)
  load_from_at types to t p (Some len) = (refl, λ r. tell_at (loaded_reply types to t r))
  load_from_at types to t p None = tt

  load_at : (types : List Scalar) (f : Frame) (to : ℕ) (t : Scalar) (x : Operand) → AsksAt site (load types f site to t x)
  load_at types f to t x = with_at (pointer f x) _ (λ p. load_from_at types to t p (word_length t))

  store_at : (f : Frame) (t : Scalar) (x y : Operand) → AsksAt site (store f site t x y)
  store_at f t x y = with_at (operand f x) _ (λ v. with_at (pointer f y) _ (λ p. with_at (stored t v) _ (λ word. (refl, λ r. tt))))

  alloca_at : (types : List Scalar) (to size : ℕ) → AsksAt site (alloca types site to size)
  alloca_at types to size = if_at (is_some_type (slice_get types to) scalar.Pointer) _ _ (refl, λ r. tell_at (made_own to r)) tt

  move_at : (b : Bool) (p : Address) (d : _) → AsksAt site (move b p d)
  move_at true (Obj name offset) d = λ size. tell_at (moved_inside name offset d size)
  move_at true Null d = tell_at (moved Null d)
  move_at true (Fun index) d = tell_at (moved (Fun index) d)
  move_at false p d = tell_at (moved p d)

  address_at : (types : List Scalar) (f : Frame) (to : ℕ) (inbounds : Bool) (x : Operand) (is : List Index) → AsksAt site (address types f to inbounds x is)
  address_at types f to inbounds x is =
      with_at (pointer f x) _ (λ p. with_at (distance f is) _ (λ d. chain_at (move inbounds p d) _ (move_at inbounds p d) (λ q. tell_at (given types to (Pointer q)))))

  returned_at : (g : FunctionCode) (f : Frame) (x : Option Operand) → AsksAt site (returned g f x)
  returned_at g f x = with_at (result_value f x) _ (λ v. if_at (is_result g.result v) _ _ (tt, λ r. tt) tt)

  -- ---- the functions outside a module

  request_at : (types : List Scalar) (to : Option ℕ) (size : ℕ) (zeroed : Bool) → AsksAt site (request types site to size zeroed)
  request_at types to size zeroed = if_at (accepts types to scalar.Pointer) _ _ (refl, λ r. tell_at (made_value to r)) tt

  malloc_at : (types : List Scalar) (f : Frame) (to : Option ℕ) (xs : List Operand) → AsksAt site (malloc types f site to xs)
  malloc_at types f to (x ∷ []) = with_at (number f x) _ (λ n. request_at types to n.bits false)
  malloc_at types f to _ = tt

  calloc_at : (types : List Scalar) (f : Frame) (to : Option ℕ) (xs : List Operand) → AsksAt site (calloc types f site to xs)
  calloc_at types f to (x ∷ y ∷ []) = with_at (number f x) _ (λ n. with_at (number f y) _ (λ size. request_at types to (capped (n.bits * size.bits)) true))
  calloc_at types f to _ = tt

  freed_at : (p : Address) → AsksAt site (freed site p)
  freed_at Null = tt
  freed_at (Obj name offset) = (refl, λ r. tt)
  freed_at (Fun index) = (refl, λ r. tt)

  free_at : (f : Frame) (xs : List Operand) → AsksAt site (free f site xs)
  free_at f (x ∷ []) = with_at (pointer f x) _ freed_at
  free_at f _ = tt

  transfer_at : (f : Frame) (overlap : Bool) (xs : List Operand) → AsksAt site (transfer f site overlap xs)
  transfer_at f overlap (to ∷ from ∷ len ∷ volatile ∷ []) =
      with_at (pointer f to) _ (λ p. with_at (pointer f from) _ (λ q. with_at (number f len) _ (λ n. with_at (number f volatile) _ (λ v. (refl, λ r. tt)))))
  transfer_at f overlap _ = tt

  filled_at : (p : Address) (value len : Integer) → AsksAt site (filled site p value len)
  filled_at p value len = if_at (value.width == 8) _ _ (refl, λ r. tt) tt

  memset_at : (f : Frame) (xs : List Operand) → AsksAt site (memset f site xs)
  memset_at f (to ∷ value ∷ len ∷ volatile ∷ []) =
      with_at (pointer f to) _ (λ p. with_at (number f value) _ (λ b. with_at (number f len) _ (λ n. with_at (number f volatile) _ (λ v. filled_at p b n))))
  memset_at f _ = tt

  text_goes : (fuel slot : ℕ) (p : Address) (bytes : Text) → AsksAt site (text fuel site slot p bytes)
  text_goes zero slot p bytes = tt
  text_goes (suc fuel) slot p bytes =
      chain_at (read_byte site slot p) _ (refl, λ r. tell_at (byte_of r)) (λ n. if_at (n == 0) (Gives bytes) _ tt (text_goes fuel slot (after p) (bytes ++ n ∷ [])))

  text_at_at : (slot : ℕ) (p : Address) → AsksAt site (text_at site slot p)
  text_at_at slot p = text_goes text_limit slot p []

  puts_at : (types : List Scalar) (f : Frame) (to : Option ℕ) (xs : List Operand) → AsksAt site (puts types f site to xs)
  puts_at types f to (x ∷ []) = with_at (pointer f x) _ (λ p. chain_at (text_at site 0 p) _ (text_at_at 0 p) (λ bytes. tell_at (printing types to (bytes ++ 10 ∷ []) 0)))
  puts_at types f to _ = tt

  value_at : (slot : ℕ) (v : Option Value) → AsksAt site (text_of_value site slot v)
  value_at slot (Some (Pointer p)) = text_at_at slot p
  value_at slot (Some (Int n)) = tt
  value_at slot None = tt

  texts_at : (vs : List Value) (ks : List ℕ) (args : List Arg) → AsksAt site (texts site vs ks args)
  texts_at vs [] args = tt
  texts_at vs (k ∷ ks) args = chain_at (text_of_value site (k + 1) (slice_get vs k)) _ (value_at (k + 1) (slice_get vs k)) (λ t. texts_at vs ks _)

  formatting_at : (types : List Scalar) (to : Option ℕ) (vs : List Value) (format : Text) → AsksAt site (formatting types site to vs format)
  formatting_at types to vs format =
      chain_at {B = Effect} (texts site vs (text_args format (args_of vs)) (args_of vs)) (λ args. tell (printed types to (formatted format args)))
      (texts_at vs (text_args format (args_of vs)) (args_of vs)) (λ args. tell_at (printed types to (formatted format args)))

  printf_at : (types : List Scalar) (f : Frame) (to : Option ℕ) (xs : List Operand) → AsksAt site (printf types f site to xs)
  printf_at types f to (x ∷ xs) = with_at (pointer f x) _ (λ p. with_at (operands f xs) _ (λ vs. chain_at (text_at site 0 p) _ (text_at_at 0 p) (formatting_at types to vs)))
  printf_at types f to [] = tt

  external_at : (types : List Scalar) (f : Frame) (input : Text) (place : ℕ) (to : Option ℕ) (e : External) (xs : List Operand) → AsksAt site (called_external types f site input place to e xs)
  unfolding called_external
  external_at types f input place to external.Malloc xs = malloc_at types f to xs
  external_at types f input place to external.Calloc xs = calloc_at types f to xs
  external_at types f input place to external.Free xs = free_at f xs
  external_at types f input place to external.Putchar xs = tell_at (putchar types f to xs)
  external_at types f input place to external.Puts xs = puts_at types f to xs
  external_at types f input place to external.Getchar xs = tell_at (getchar types to input place)
  external_at types f input place to external.Printf xs = printf_at types f to xs
  external_at types f input place to external.Exit xs = tell_at (exit f xs)
  external_at types f input place to external.Abort xs = tt
  external_at types f input place to (external.Memcpy n) xs = transfer_at f false xs
  external_at types f input place to (external.Memmove n) xs = transfer_at f true xs
  external_at types f input place to (external.Memset n) xs = memset_at f xs
  external_at types f input place to (external.Smax n) xs = tell_at (extreme types f Sgt to xs)
  external_at types f input place to (external.Smin n) xs = tell_at (extreme types f Slt to xs)
  external_at types f input place to (external.Umax n) xs = tell_at (extreme types f Ugt to xs)
  external_at types f input place to (external.Umin n) xs = tell_at (extreme types f Ult to xs)
  external_at types f input place to external.LifetimeStart xs = tt
  external_at types f input place to external.LifetimeEnd xs = tt

-- ---- all instructions

pub instructions_ask_at : InstructionsAskAt
unfolding meaning
instructions_ask_at h (op.Binary to o flags left right) = tell_at h.site (calculated h.function.registers h.frame to o flags left right)
instructions_ask_at h (op.Cast to o flags value width) = tell_at h.site (converted h.function.registers h.frame to o flags value width)
instructions_ask_at h (op.Freeze to value) = tell_at h.site (frozen h.function.registers h.frame to value)
instructions_ask_at h (op.Compare to pred left right) = tell_at h.site (compared h.function.registers h.frame to pred left right)
instructions_ask_at h (op.Select to c x y) = tell_at h.site (selected h.function.registers h.frame to c x y)
instructions_ask_at h op.Phi = tt
instructions_ask_at h (op.Alloca to size) = alloca_at h.site h.function.registers to size
instructions_ask_at h (op.Load to t p) = load_at h.site h.function.registers h.frame to t p
instructions_ask_at h (op.Store t v p) = store_at h.site h.frame t v p
instructions_ask_at h (op.Address to inbounds base indices) = address_at h.site h.function.registers h.frame to inbounds base indices
instructions_ask_at h (op.Call to k arguments) = tell_at h.site (called h.code h.function.registers h.frame to k arguments)
instructions_ask_at h (op.CallPointer to p result parameters arguments) = tell_at h.site (called_through h.code h.function.registers h.frame to p result parameters arguments)
instructions_ask_at h (op.CallExternal to e arguments) = external_at h.site h.function.registers h.frame h.input h.place to e arguments
instructions_ask_at h (op.Return value) = returned_at h.site h.function h.frame value
instructions_ask_at h (op.Jump edge) = tt
instructions_ask_at h (op.Branch c x y) = tell_at h.site (branched h.frame c x y)
instructions_ask_at h (op.Switch v d cases) = tell_at h.site (switched h.frame v d cases)
instructions_ask_at h op.Unreachable = tt
instructions_ask_at h op.Stuck = tt

-- ---- what its calls do

module _ (site : Site) where
  both_at : (log more : List Event) → AllByRecursion (IsAt site) log → AllByRecursion (IsAt site) more → AllByRecursion (IsAt site) (log ++ more)
  both_at [] more h g = g
  both_at (e ∷ log) more h g = (h.0, both_at log more h.1 g)

  from_at : (at : Site) (slot : ℕ) (way : Way) (name offset len : ℕ) → at ≡ site → AllByRecursion (IsAt site) (touched_from at slot way name offset len)
  from_at at slot way name offset zero e = tt
  from_at at slot way name offset (suc len) e = (e, from_at at slot way name (offset + 1) len e)

  touched_at : (at : Site) (slot : ℕ) (way : Way) (p : Address) (len : ℕ) → at ≡ site → AllByRecursion (IsAt site) (touched at slot way p len)
  touched_at at slot way (Obj name (pos offset)) len e = from_at at slot way name offset len e
  touched_at at slot way (Obj name (negsuc offset)) len e = tt
  touched_at at slot way Null len e = tt
  touched_at at slot way (Fun index) len e = tt

  made_at : (at : Site) (kind : Kind) (size : ℕ) (r : Reply) → at ≡ site → AllByRecursion (IsAt site) (made_by at kind size r)
  made_at at kind size (Made (Obj name offset)) e = (e, tt)
  made_at at kind size (Made Null) e = tt
  made_at at kind size (Made (Fun index)) e = tt
  made_at at kind size (Bytes word) e = tt
  made_at at kind size Done e = tt

  released_at : (at : Site) (p : Address) → at ≡ site → AllByRecursion (IsAt site) (released at p)
  released_at at (Obj name offset) e = (e, tt)
  released_at at Null e = tt
  released_at at (Fun index) e = tt

  ended_at : (names : List ℕ) → AllByRecursion (IsAt site) (map Ends names)
  ended_at [] = tt
  ended_at (name ∷ names) = (tt, ended_at names)

  events_at : (call : Call) (r : Reply) → CallsAt site call → AllByRecursion (IsAt site) (events call r)
  events_at (ReadWord at slot from len) r e = touched_at at slot Reads from len e
  events_at (WriteWord at slot to word) r e = touched_at at slot Writes to (length word) e
  events_at (CopyRange at to from len overlap) r e = both_at (touched at 1 Reads from len) (touched at 0 Writes to len) (touched_at at 1 Reads from len e) (touched_at at 0 Writes to len e)
  events_at (Fill at to value len) r e = touched_at at 0 Writes to len e
  events_at (Make at kind size zeroed) r e = made_at at kind size r e
  events_at (Release at pointer) r e = released_at at pointer e
  events_at (EndFrame names) r e = ended_at names

pub logs_are_at : (A M : Type 0) → LogsAreAt A M
logs_are_at A M site image act (Gives a) m h = tt
logs_are_at A M site image act (Stops t) m h = tt
logs_are_at A M site image act (Sizes p k) m h = logs_are_at A M site image act (k (size_of (image m) p)) m (h (size_of (image m) p))
logs_are_at A M site image act (Asks call k) m h = go (λ r n. logs_are_at A M site image act (k r) n (h.1 r)) (act m call)
  where
    go : ((r : Reply) (n : M) → AllByRecursion (IsAt site) (logged_over image act (k r) n).log) → (d : Result Reply Fault × M) → AllByRecursion (IsAt site) (by_call call d (λ r n. logged_over image act (k r) n)).log
    go again (Ok r, n) = both_at site (events call r) (logged_over image act (k r) n).log (events_at site call r h.0) (again r n)
    go again (Err f, n) = tt

-- ---- a step

op_at_site : (code : Code) (input : Text) (c : Control) (f : Frame) (g : Option FunctionCode) (o : Option Op) → AsksAt (site_at code f) (script_in code input c f g o)
op_at_site code input c f None o = tt
op_at_site code input c f (Some g) None = tt
op_at_site code input c f (Some g) (Some o) =
    if_at (site_at code f) (has_next code f o) _ _
    (chain_at (site_at code f) (meaning (here code g f input c.input_place) o) _ (instructions_ask_at (here code g f input c.input_place) o) (λ e. tell_at (site_at code f) (acted code g f c e))) tt

top_at_site : (code : Code) (input : Text) (c : Control) (o : Option Frame) → AsksAt (site_of code o) (script_of code input c o)
top_at_site code input c None = tt
top_at_site code input c (Some f) = op_at_site code input c f (function_at code f) (op_at code f)

pub step_log_is_at : StepLogIsAt
step_log_is_at code input s = logs_are_at Acted Picture (site_of code (top s.frames)) (λ p. p) image_acts (script code input (control s)) s.memory (top_at_site code input (control s) (top s.frames))
