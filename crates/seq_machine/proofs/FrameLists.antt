-- The frames of a state, of which the top one changes.
use Rattle.std.proofs.Common.{◌≡◌, ℕ, zero, suc, ◌+◌, ◌-◌, ◌<◌, ◌⊎◌, inl, inr, List, [], ◌∷◌, ◌++◌, length, get_or, take, drop, slice_get, slice_set, Option, Some, Result, Ok, Err, refl, sym, ◌∙◌, ap, subst, arith, append_assoc, drop-cons, add-one, length-set, length-append}
use Rattle.std.proofs.lemmas.List.{length-take-le}
use Rattle.std.proofs.lemmas.Option.{slice_get_within, slice_get-get_or}
use Rattle.ir_code.specs.declared.op.Scalar.{Scalar}
use Rattle.ir_code.specs.declared.code.Move.{Move}
use Rattle.ir_code.specs.declared.code.Code.{Code}
use Rattle.ir_code.specs.declared.code.FunctionCode.{FunctionCode}
use Rattle.mem_image.specs.declared.fault.Trap.{Trap}
use Rattle.seq_effects.specs.declared.state.Value.{Value}
use Rattle.seq_effects.specs.declared.state.Frame.{Frame}
use Rattle.seq_effects.specs.Values.{then_, AreOf, Holds, IsOf}
use Rattle.seq_machine.specs.Acts.{move_value, move_values, set_moves, with_top, without_top, top}
use Rattle.seq_machine.specs.Frames.{FrameOf, FramesOf, Awaits}

pub set_set : {A : Type 0} (xs : List A) (i : ℕ) (x y : A) → slice_set (slice_set xs i x) i y ≡ slice_set xs i y
set_set [] i x y = refl
set_set (z ∷ zs) zero x y = refl
set_set (z ∷ zs) (suc i) x y = rw (set_set zs i x y) refl

pub set_same : {A : Type 0} (xs : List A) (i : ℕ) (x : A) → slice_get xs i ≡ Some x → slice_set xs i x ≡ xs
set_same [] i x e = refl
set_same (z ∷ zs) zero x e = let s : x ≡ z = cc in rw s refl
set_same (z ∷ zs) (suc i) x e = rw (set_same zs i x e) refl

pub get_set_same : {A : Type 0} (xs : List A) (i : ℕ) (x : A) → i < length xs → slice_get (slice_set xs i x) i ≡ Some x
get_set_same [] i x lt = absurd (omega arith)
get_set_same (z ∷ zs) zero x lt = refl
get_set_same (z ∷ zs) (suc i) x lt = get_set_same zs i x (omega arith)

pub get_set_other : {A : Type 0} (xs : List A) (i j : ℕ) (x : A) → (j ≡ i → ⊥) → slice_get (slice_set xs i x) j ≡ slice_get xs j
get_set_other [] i j x ne = refl
get_set_other (z ∷ zs) zero zero x ne = absurd (ne refl)
get_set_other (z ∷ zs) zero (suc j) x ne = refl
get_set_other (z ∷ zs) (suc i) zero x ne = refl
get_set_other (z ∷ zs) (suc i) (suc j) x ne = get_set_other zs i j x (λ e. ne (ap suc e))

pub same_some : {A : Type 0} (o : Option A) (x y : A) → o ≡ Some x → o ≡ Some y → x ≡ y
same_some o x y e q = cc

same_value : (v w : Value) → Some (Some v) ≡ Some (Some w) → v ≡ w
same_value v w e = cc

-- registers of their types, one of which is set
pub are_set : (types : List Scalar) (registers : List (Option Value)) (to : ℕ) (v : Value) → AreOf types registers → Holds types to v → AreOf types (slice_set registers to (Some v))
are_set types registers to v h holds = record {
  count = length-set registers to (Some v) ∙ h.count;
  each = λ i t w e q. go i t w e q (search arith);
}
  where
    go : (i : ℕ) (t : Scalar) (w : Value) → slice_get types i ≡ Some t → slice_get (slice_set registers to (Some v)) i ≡ Some (Some w) → (i ≡ to) ⊎ (i ≡ to → ⊥) → IsOf t w
    go i t w e q (inl same) =
        let there : to < length registers = omega (arith, holds.there, h.count) in
        let x : v ≡ w = same_value v w (sym (get_set_same registers to (Some v) there) ∙ rw same at q) in
        rw (← x) (holds.typed t (rw same at e))
    go i t w e q (inr other) = h.each i t w e (sym (get_set_other registers to i (Some v) other) ∙ q)

-- ---- the moves of an edge

-- the values so far, and those that are left
abbrev pub before : List Value → Result (List Value) Trap → Result (List Value) Trap
before so_far rest = then_ rest (λ vs. Ok (so_far ++ vs))

cons_before : (so_far : List Value) (v : Value) (rest : Result (List Value) Trap) → before so_far (then_ rest (λ vs. Ok (v ∷ vs))) ≡ before (so_far ++ v ∷ []) rest
cons_before so_far v (Ok vs) = rw append_assoc refl
cons_before so_far v (Err t) = refl

pub moves_on : (ms : List Move) (g : FunctionCode) (f : Frame) (so_far : List Value) (i : ℕ) (m : Move) (v : Value) → i < length ms → m ≡ get_or ms i m → Ok v ≡ move_value g f m → before so_far (move_values g f (drop i ms)) ≡ before (so_far ++ v ∷ []) (move_values g f (drop (i + 1) ms))
moves_on ms g f so_far i m v lt is e = rw (add-one, drop-cons ms i m, ← is, ← e) (cons_before so_far v (move_values g f (drop (suc i) ms)))

pub moves_err : (ms : List Move) (g : FunctionCode) (f : Frame) (so_far : List Value) (i : ℕ) (m : Move) (t : Trap) → i < length ms → m ≡ get_or ms i m → Err t ≡ move_value g f m → before so_far (move_values g f (drop i ms)) ≡ Err t
moves_err ms g f so_far i m t lt is e = rw (drop-cons ms i m, ← is, ← e) refl

pub moves_start : (r : Result (List Value) Trap) → before [] r ≡ r
moves_start (Ok vs) = refl
moves_start (Err t) = refl

pub set_on : (ms : List Move) (vs : List Value) (registers : List (Option Value)) (i k : ℕ) (m : Move) (v : Value) → k ≡ i → i < length ms → i < length vs → m ≡ get_or ms i m → v ≡ get_or vs k v → set_moves (drop i ms) (drop i vs) registers ≡ set_moves (drop (i + 1) ms) (drop (i + 1) vs) (slice_set registers m.register (Some v))
set_on ms vs registers i k m v same lt lv is iv = let iw = rw same at iv in rw (add-one, drop-cons ms i m, drop-cons vs i v, ← is, ← iw) refl

get_push : {A : Type 0} (xs : List A) (x : A) (j : ℕ) → j < length xs → slice_get (xs ++ x ∷ []) j ≡ slice_get xs j
get_push [] x j lt = absurd (omega arith)
get_push (y ∷ ys) x zero lt = refl
get_push (y ∷ ys) x (suc j) lt = get_push ys x j (omega arith)

get_last : {A : Type 0} (xs : List A) (x y : A) (j : ℕ) → j ≡ length xs → slice_get (xs ++ x ∷ []) j ≡ Some y → y ≡ x
get_last [] x y zero e q = cc
get_last [] x y (suc j) e q = absurd (cc)
get_last (z ∷ zs) x y zero e q = absurd (cc)
get_last (z ∷ zs) x y (suc j) e q = get_last zs x y j (omega (arith, e)) q

within_push : {A : Type 0} (xs : List A) (x y : A) (j : ℕ) → slice_get (xs ++ x ∷ []) j ≡ Some y → j < length xs + 1
within_push {A} xs x y j q = let lt : j < length (xs ++ x ∷ []) = slice_get_within (xs ++ x ∷ []) j y q in omega (arith, lt, length-append xs (x ∷ []))

-- one more value of a move
pub hold_more : (types : List Scalar) (ms : List Move) (vs : List Value) (i : ℕ) (m : Move) (v : Value) → i < length ms → m ≡ get_or ms i m → length vs ≡ i → Holds types m.register v
    → ((j : ℕ) (n : Move) (w : Value) → slice_get ms j ≡ Some n → slice_get vs j ≡ Some w → Holds types n.register w)
    → (j : ℕ) (n : Move) (w : Value) → slice_get ms j ≡ Some n → slice_get (vs ++ v ∷ []) j ≡ Some w → Holds types n.register w
hold_more types ms vs i m v lt is len holds h j n w e q =
    let below : j < length vs + 1 = within_push vs v w j q in
    let cases : (j < length vs) ⊎ (j ≡ length vs) = search arith in
    go cases
  where
    go : (j < length vs) ⊎ (j ≡ length vs) → Holds types n.register w
    go (inl less) = h j n w e (sym (get_push vs v j less) ∙ q)
    go (inr same) =
        let x : w ≡ v = get_last vs v w j same q in
        let here : slice_get ms i ≡ Some m = slice_get-get_or ms i m lt ∙ ap Some (sym is) in
        let y : n ≡ m = same_some (slice_get ms i) n m (rw (same ∙ len) at e) here in
        rw (x, y) holds

pub with_set : (frames new : List Frame) (last : ℕ) (d : Frame) → last ≡ length frames - 1 → new ≡ slice_set frames last d → (f : Frame) → with_top new f ≡ with_top frames f
with_set frames new last d l e f = rw (e, length-set, l) (set_set frames (length frames - 1) d f)

-- ---- the frames of a state

each_set : (P : Frame → Type 0) (frames : List Frame) (i : ℕ) (f : Frame) → ((j : ℕ) (g : Frame) → slice_get frames j ≡ Some g → P g) → P f → (j : ℕ) (g : Frame) → slice_get (slice_set frames i f) j ≡ Some g → P g
each_set P [] i f h ok j g e = h j g e
each_set P (x ∷ xs) zero f h ok zero g e = let s : f ≡ g = cc in subst P s ok
each_set P (x ∷ xs) zero f h ok (suc j) g e = h (suc j) g e
each_set P (x ∷ xs) (suc i) f h ok zero g e = h zero g e
each_set P (x ∷ xs) (suc i) f h ok (suc j) g e = each_set P xs i f (λ k q. h (suc k) q) ok j g e

-- the frame that stood where another one stands now
was : (frames : List Frame) (i : ℕ) (f g : Frame) → slice_get frames i ≡ Some g → (j : ℕ) (h : Frame) → slice_get (slice_set frames i f) j ≡ Some h → ((h' : Frame) × (slice_get frames j ≡ Some h') × (((j ≡ i) × (h ≡ f) × (h' ≡ g)) ⊎ (h ≡ h')))
was [] i f g there j h e = absurd (cc)
was (x ∷ xs) zero f g there zero h e = (x, refl, inl (refl, cc, cc))
was (x ∷ xs) zero f g there (suc j) h e = (h, e, inr refl)
was (x ∷ xs) (suc i) f g there zero h e = (h, e, inr refl)
was (x ∷ xs) (suc i) f g there (suc j) h e = again (was xs i f g there j h e)
  where
    again : ((h' : Frame) × (slice_get xs j ≡ Some h') × (((j ≡ i) × (h ≡ f) × (h' ≡ g)) ⊎ (h ≡ h'))) → ((h' : Frame) × (slice_get xs j ≡ Some h') × (((suc j ≡ suc i) × (h ≡ f) × (h' ≡ g)) ⊎ (h ≡ h')))
    again (h', q, inl (s, a, b)) = (h', q, inl (ap suc s, a, b))
    again (h', q, inr s) = (h', q, inr s)

-- the top frame changes within its function
pub frames_set : (code : Code) (frames : List Frame) (f f' : Frame) → FramesOf code frames → top frames ≡ Some f → FrameOf code f' → f'.function ≡ f.function → FramesOf code (with_top frames f')
frames_set code frames f f' h t ok same = record {
  filled = rw length-set h.filled;
  each = each_set (FrameOf code) frames (length frames - 1) f' h.each ok;
  waits = λ i a b e q. waits i a b e q (was frames (length frames - 1) f' f t (i + 1) b q);
  first = λ a e. first a (was frames (length frames - 1) f' f t 0 a e);
}
  where
    waits : (i : ℕ) (a b : Frame) → slice_get (with_top frames f') i ≡ Some a → slice_get (with_top frames f') (i + 1) ≡ Some b → ((b' : Frame) × (slice_get frames (i + 1) ≡ Some b') × (((i + 1 ≡ length frames - 1) × (b ≡ f') × (b' ≡ f)) ⊎ (b ≡ b'))) → Awaits code a b.function
    waits i a b e q (b', there, inl (s, x, y)) =
        let ne : i ≡ length frames - 1 → ⊥ = λ z. omega arith in
        let z : b'.function ≡ b.function = rw (x, y) (sym same) in
        subst (λ n. Awaits code a n) z (h.waits i a b' (sym (get_set_other frames (length frames - 1) i f' ne) ∙ e) there)
    waits i a b e q (b', there, inr s) =
        let lt : i + 1 < length frames = slice_get_within frames (i + 1) b' there in
        let ne : i ≡ length frames - 1 → ⊥ = λ z. omega arith in
        subst (λ n. Awaits code a n) (ap (λ (x : Frame). x.function) (sym s)) (h.waits i a b' (sym (get_set_other frames (length frames - 1) i f' ne) ∙ e) there)

    first : (a : Frame) → ((b' : Frame) × (slice_get frames 0 ≡ Some b') × (((0 ≡ length frames - 1) × (a ≡ f') × (b' ≡ f)) ⊎ (a ≡ b'))) → code.main ≡ Some a.function
    first a (b', there, inl (s, x, y)) = let z : b'.function ≡ a.function = rw (x, y) (sym same) in h.first b' there ∙ ap Some z
    first a (b', there, inr s) = h.first b' there ∙ ap (λ (x : Frame). Some x.function) (sym s)

-- a frame is added over one that waits for it
pub frames_push : (code : Code) (frames : List Frame) (f g : Frame) → FramesOf code frames → top frames ≡ Some f → FrameOf code g → Awaits code f g.function → FramesOf code (frames ++ g ∷ [])
frames_push code frames f g h t ok awaits = record {
  filled = omega (arith, length-append frames (g ∷ []));
  each = λ j a e. each j a e (below j a e);
  waits = λ i a b e q. waits i a b e q (below (i + 1) b q);
  first = λ a e. h.first a (sym (get_push frames g 0 h.filled) ∙ e);
}
  where
    below : (j : ℕ) (a : Frame) → slice_get (frames ++ g ∷ []) j ≡ Some a → (j < length frames) ⊎ (j ≡ length frames)
    below j a e = let lt : j < length frames + 1 = within_push frames g a j e in search arith

    each : (j : ℕ) (a : Frame) → slice_get (frames ++ g ∷ []) j ≡ Some a → (j < length frames) ⊎ (j ≡ length frames) → FrameOf code a
    each j a e (inl lt) = h.each j a (sym (get_push frames g j lt) ∙ e)
    each j a e (inr s) = let x : a ≡ g = get_last frames g a j s e in rw x ok

    waits : (i : ℕ) (a b : Frame) → slice_get (frames ++ g ∷ []) i ≡ Some a → slice_get (frames ++ g ∷ []) (i + 1) ≡ Some b → (i + 1 < length frames) ⊎ (i + 1 ≡ length frames) → Awaits code a b.function
    waits i a b e q (inl lt) =
        let small : i < length frames = omega arith in
        h.waits i a b (sym (get_push frames g i small) ∙ e) (sym (get_push frames g (i + 1) lt) ∙ q)
    waits i a b e q (inr s) =
        let small : i < length frames = omega arith in
        let last : i ≡ length frames - 1 = omega arith in
        let x : b ≡ g = get_last frames g b (i + 1) s q in
        let there : slice_get frames (length frames - 1) ≡ Some a = rw last at (sym (get_push frames g i small) ∙ e) in
        let y : f ≡ a = same_some (slice_get frames (length frames - 1)) f a t there in
        rw (x, ← y) awaits

pub get_take : (frames : List Frame) (k j : ℕ) (g : Frame) → slice_get (take k frames) j ≡ Some g → slice_get frames j ≡ Some g
get_take [] zero j g e = cc
get_take [] (suc k) j g e = cc
get_take (x ∷ xs) zero j g e = cc
get_take (x ∷ xs) (suc k) zero g e = e
get_take (x ∷ xs) (suc k) (suc j) g e = get_take xs k j g e

-- the frames under the top one
pub frames_below : (code : Code) (frames : List Frame) → FramesOf code frames → 1 < length frames → FramesOf code (without_top frames)
frames_below code frames h two =
    let l : length (without_top frames) ≡ length frames - 1 = length-take-le (length frames - 1) frames (omega arith) in
    record {
      filled = omega (arith, l);
      each = λ j g e. h.each j g (get_take frames (length frames - 1) j g e);
      waits = λ i a b e q. h.waits i a b (get_take frames (length frames - 1) i a e) (get_take frames (length frames - 1) (i + 1) b q);
      first = λ a e. h.first a (get_take frames (length frames - 1) 0 a e);
    }
