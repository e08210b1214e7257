-- The loop over a text.
use Rattle.std.proofs.Common.{◌≡◌, ℕ, suc, [], ◌∷◌, ◌++◌, refl, ◌+◌, ◌-◌, ◌<◌, List, Result, Ok, Err, arith}
use Rattle.std.proofs.lemmas.Bool.{ne_eqb}
use Rattle.pv_base.specs.declared.place.Site.{Site}
use Rattle.mem_image.specs.declared.object.Pointer.{Pointer}
use Rattle.mem_image.specs.declared.fault.Fault.{Fault}
use Rattle.mem_image.specs.declared.fault.Fault.TheVariants.{Memory}
use Rattle.mem_image.specs.Picture.{Picture}
use Rattle.mem_image.specs.Calls.{Call, Reply}
use Rattle.seq_effects.specs.Script.{Follows}
use Rattle.seq_externals.specs.Externals.{text, text_on, read_byte, after}
use Rattle.seq_effects.proofs.Follow.{follows_chain, follows_cut, follows_out_of_memory}

module _ {M : Type 0} (image : M → Picture) (R : M → Call → Result Reply Fault → M → Type 0) (limit counter slot : ℕ) (at : Site) (p : Pointer) (bytes : List ℕ) (m : M) (lt : counter < limit) where
  gap : limit - counter ≡ suc (limit - (counter + 1))
  gap = omega arith

  pub text_ends : (mid : M) (a : ℕ) → Follows image R (read_byte at slot p) m (Ok a) mid → a ≡ 0 → Follows image R (text (limit - counter) at slot p bytes) m (Ok bytes) mid
  text_ends mid a h e =
      let next : Follows image R (text_on (text (limit - (counter + 1)) at slot (after p)) bytes a) mid (Ok bytes) mid = rw e (refl, refl) in
      rw gap (follows_chain image R (read_byte at slot p) (text_on (text (limit - (counter + 1)) at slot (after p)) bytes) m mid mid a _ h next)

  pub text_more : (mid n : M) (a : ℕ) (q : Pointer) (more : List ℕ) (answer : Result (List ℕ) Fault) → Follows image R (read_byte at slot p) m (Ok a) mid → (a ≡ 0 → ⊥) → more ≡ bytes ++ a ∷ [] → q ≡ after p
      → Follows image R (text (limit - (counter + 1)) at slot q more) mid answer n → Follows image R (text (limit - counter) at slot p bytes) m answer n
  text_more mid n a q more answer h ne e f follows =
      let k = text (limit - (counter + 1)) at slot (after p) in
      let same : text_on k bytes a ≡ k (bytes ++ a ∷ []) = rw (ne_eqb a 0 ne) refl in
      let there : Follows image R (k (bytes ++ a ∷ [])) mid answer n = rw (← e, ← f) follows in
      let next : Follows image R (text_on k bytes a) mid answer n = rw same there in
      rw gap (follows_chain image R (read_byte at slot p) (text_on k bytes) m mid n a answer h next)

  pub text_cut : (n : M) (f : Fault) → Follows image R (read_byte at slot p) m (Err f) n → Follows image R (text (limit - counter) at slot p bytes) m (Err f) n
  text_cut n f h = rw gap (follows_cut image R (read_byte at slot p) (text_on (text (limit - (counter + 1)) at slot (after p)) bytes) m n f h)

  pub text_out_of_memory : (mid : M) (a : ℕ) → Follows image R (read_byte at slot p) m (Ok a) mid → Follows image R (text (limit - counter) at slot p bytes) m (Err Memory) mid
  text_out_of_memory mid a h =
      rw gap (follows_chain image R (read_byte at slot p) (text_on (text (limit - (counter + 1)) at slot (after p)) bytes) m mid mid a _ h (follows_out_of_memory image R (text_on (text (limit - (counter + 1)) at slot (after p)) bytes a) mid))
