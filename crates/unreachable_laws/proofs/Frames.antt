-- The frames of a state, of which the top one changes.
use Rattle.std.proofs.Common.{◌≡◌, ℕ, zero, suc, ◌+◌, ◌-◌, ◌<◌, ◌⊎◌, inl, inr, List, [], ◌∷◌, ◌++◌, length, take, slice_get, slice_set, Option, Some, refl, sym, ◌∙◌, ap, subst, arith, length-set, length-append}
use Rattle.std.proofs.lemmas.List.{length-take-le}
use Rattle.std.proofs.lemmas.Option.{slice_get_within}
use Rattle.ir_code.specs.declared.code.Code.{Code}
use Rattle.seq_effects.specs.declared.state.Frame.{Frame}
use Rattle.seq_machine.specs.Acts.{with_top, without_top, top}
use Rattle.seq_machine.proofs.FrameLists.{get_set_other, same_some, get_take}
use Rattle.unreachable_laws.specs.States.{FrameTyped, FramesTyped, Waits}

get_push : {A : Type 0} (xs : List A) (x : A) (j : ℕ) → j < length xs → slice_get (xs ++ x ∷ []) j ≡ slice_get xs j
get_push [] x j lt = absurd (omega arith)
get_push (y ∷ ys) x zero lt = refl
get_push (y ∷ ys) x (suc j) lt = get_push ys x j (omega arith)

get_last : {A : Type 0} (xs : List A) (x y : A) (j : ℕ) → j ≡ length xs → slice_get (xs ++ x ∷ []) j ≡ Some y → y ≡ x
get_last [] x y zero e q = cc
get_last [] x y (suc j) e q = absurd (cc)
get_last (z ∷ zs) x y zero e q = absurd (cc)
get_last (z ∷ zs) x y (suc j) e q = get_last zs x y j (omega (arith, e)) q

within_push : {A : Type 0} (xs : List A) (x y : A) (j : ℕ) → slice_get (xs ++ x ∷ []) j ≡ Some y → j < length xs + 1
within_push {A} xs x y j q = let lt : j < length (xs ++ x ∷ []) = slice_get_within (xs ++ x ∷ []) j y q in omega (arith, lt, length-append xs (x ∷ []))

each_set : (P : Frame → Type 0) (frames : List Frame) (i : ℕ) (f : Frame) → ((j : ℕ) (g : Frame) → slice_get frames j ≡ Some g → P g) → P f → (j : ℕ) (g : Frame) → slice_get (slice_set frames i f) j ≡ Some g → P g
each_set P [] i f h ok j g e = h j g e
each_set P (x ∷ xs) zero f h ok zero g e = let s : f ≡ g = cc in subst P s ok
each_set P (x ∷ xs) zero f h ok (suc j) g e = h (suc j) g e
each_set P (x ∷ xs) (suc i) f h ok zero g e = h zero g e
each_set P (x ∷ xs) (suc i) f h ok (suc j) g e = each_set P xs i f (λ k q. h (suc k) q) ok j g e

-- the frame that stood where another one stands now
was : (frames : List Frame) (i : ℕ) (f g : Frame) → slice_get frames i ≡ Some g → (j : ℕ) (h : Frame) → slice_get (slice_set frames i f) j ≡ Some h → ((h' : Frame) × (slice_get frames j ≡ Some h') × (((j ≡ i) × (h ≡ f) × (h' ≡ g)) ⊎ (h ≡ h')))
was [] i f g there j h e = absurd (cc)
was (x ∷ xs) zero f g there zero h e = (x, refl, inl (refl, cc, cc))
was (x ∷ xs) zero f g there (suc j) h e = (h, e, inr refl)
was (x ∷ xs) (suc i) f g there zero h e = (h, e, inr refl)
was (x ∷ xs) (suc i) f g there (suc j) h e = again (was xs i f g there j h e)
  where
    again : ((h' : Frame) × (slice_get xs j ≡ Some h') × (((j ≡ i) × (h ≡ f) × (h' ≡ g)) ⊎ (h ≡ h'))) → ((h' : Frame) × (slice_get xs j ≡ Some h') × (((suc j ≡ suc i) × (h ≡ f) × (h' ≡ g)) ⊎ (h ≡ h')))
    again (h', q, inl (s, a, b)) = (h', q, inl (ap suc s, a, b))
    again (h', q, inr s) = (h', q, inr s)

-- the top frame changes within its function
pub frames_set : (code : Code) (frames : List Frame) (f f' : Frame) → FramesTyped code frames → top frames ≡ Some f → FrameTyped code f' → f'.function ≡ f.function → FramesTyped code (with_top frames f')
frames_set code frames f f' h t ok same = record {
  filled = rw length-set h.filled;
  each = each_set (FrameTyped code) frames (length frames - 1) f' h.each ok;
  waits = λ i a b e q. waits i a b e q (was frames (length frames - 1) f' f t (i + 1) b q);
}
  where
    waits : (i : ℕ) (a b : Frame) → slice_get (with_top frames f') i ≡ Some a → slice_get (with_top frames f') (i + 1) ≡ Some b → ((b' : Frame) × (slice_get frames (i + 1) ≡ Some b') × (((i + 1 ≡ length frames - 1) × (b ≡ f') × (b' ≡ f)) ⊎ (b ≡ b'))) → Waits code a b.function
    waits i a b e q (b', there, inl (s, x, y)) =
        let ne : i ≡ length frames - 1 → ⊥ = λ z. omega arith in
        let z : b'.function ≡ b.function = rw (x, y) (sym same) in
        subst (λ n. Waits code a n) z (h.waits i a b' (sym (get_set_other frames (length frames - 1) i f' ne) ∙ e) there)
    waits i a b e q (b', there, inr s) =
        let lt : i + 1 < length frames = slice_get_within frames (i + 1) b' there in
        let ne : i ≡ length frames - 1 → ⊥ = λ z. omega arith in
        subst (λ n. Waits code a n) (ap (λ (x : Frame). x.function) (sym s)) (h.waits i a b' (sym (get_set_other frames (length frames - 1) i f' ne) ∙ e) there)

-- a frame is added over one that waits for it
pub frames_push : (code : Code) (frames : List Frame) (f g : Frame) → FramesTyped code frames → top frames ≡ Some f → FrameTyped code g → Waits code f g.function → FramesTyped code (frames ++ g ∷ [])
frames_push code frames f g h t ok waiting = record {
  filled = omega (arith, length-append frames (g ∷ []));
  each = λ j a e. each j a e (below j a e);
  waits = λ i a b e q. waits i a b e q (below (i + 1) b q);
}
  where
    below : (j : ℕ) (a : Frame) → slice_get (frames ++ g ∷ []) j ≡ Some a → (j < length frames) ⊎ (j ≡ length frames)
    below j a e = let lt : j < length frames + 1 = within_push frames g a j e in search arith

    each : (j : ℕ) (a : Frame) → slice_get (frames ++ g ∷ []) j ≡ Some a → (j < length frames) ⊎ (j ≡ length frames) → FrameTyped code a
    each j a e (inl lt) = h.each j a (sym (get_push frames g j lt) ∙ e)
    each j a e (inr s) = let x : a ≡ g = get_last frames g a j s e in rw x ok

    waits : (i : ℕ) (a b : Frame) → slice_get (frames ++ g ∷ []) i ≡ Some a → slice_get (frames ++ g ∷ []) (i + 1) ≡ Some b → (i + 1 < length frames) ⊎ (i + 1 ≡ length frames) → Waits code a b.function
    waits i a b e q (inl lt) =
        let small : i < length frames = omega arith in
        h.waits i a b (sym (get_push frames g i small) ∙ e) (sym (get_push frames g (i + 1) lt) ∙ q)
    waits i a b e q (inr s) =
        let small : i < length frames = omega arith in
        let last : i ≡ length frames - 1 = omega arith in
        let x : b ≡ g = get_last frames g b (i + 1) s q in
        let there : slice_get frames (length frames - 1) ≡ Some a = rw last at (sym (get_push frames g i small) ∙ e) in
        let y : f ≡ a = same_some (slice_get frames (length frames - 1)) f a t there in
        rw (x, ← y) waiting

-- the frames under the top one
pub frames_below : (code : Code) (frames : List Frame) → FramesTyped code frames → 1 < length frames → FramesTyped code (without_top frames)
frames_below code frames h two =
    let l : length (without_top frames) ≡ length frames - 1 = length-take-le (length frames - 1) frames (omega arith) in
    record {
      filled = omega (arith, l);
      each = λ j g e. h.each j g (get_take frames (length frames - 1) j g e);
      waits = λ i a b e q. h.waits i a b (get_take frames (length frames - 1) i a e) (get_take frames (length frames - 1) (i + 1) b q);
    }
