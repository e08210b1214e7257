-- The turns of the loop over items.
use Rattle.std.proofs.Common.{◌≡◌, ℕ, zero, suc, ◌<◌, true, false, List, [], ◌∷◌, length, Result, Ok, Err, arith, refl, sym, ◌∙◌}
use Rattle.std.specs.Prelude.{fold, IfSome, OnOk, Option, Some, None}
use Rattle.pv_base.specs.declared.name.Name.{Name}
use Rattle.ir_tree.specs.declared.layout.Layout.{Layout}
use Rattle.ir_tree.specs.declared.items.NamedType.{NamedType}
use Rattle.ir_tree.specs.Trees.{TypeV}
use Rattle.ir_tree.specs.Bounds.{IsLayout}
use Rattle.ir_tree.specs.Filling.{answer_at}
use Rattle.ir_tree.specs.Table.{Table}
use Rattle.ir_text.specs.declared.fault.Fault.{Fault}
use Rattle.ir_text.specs.declared.fault.ReadEnd.{ReadEnd}
use Rattle.ir_text.specs.declared.fault.ReadEnd.TheVariants as ends
use Rattle.ir_text.specs.MemoryTypes.{AreLaid}
use Rattle.ir_text.specs.Tokens.{TokenV}
use Rattle.ir_text.specs.Reading.{Outcome, Reader, ◌>>=◌, next_is, Fails}
use Rattle.ir_text.specs.Repeated.{repeated_to, repeated_under}
use Rattle.ir_grammar.specs.Modules.{ModuleV, Item, SoFar, nothing_so_far, with_item}
use Rattle.ir_grammar.specs.Items.{any_token}
use Rattle.ir_reader.specs.Gathered.{gathered, with_next}
use Rattle.ir_reader.specs.Knowing.{fault_in}

one_more : (s : SoFar) (x : Item) (read : Outcome (List Item)) → gathered s (read >>= λ others. Ok (x ∷ others.0, others.1)) ≡ gathered (with_item s x) read
one_more s x (Ok y) = refl
one_more s x (Err f) = refl

module _ (item : SoFar → Reader Item) where
  pub starts : (s : SoFar) (ts : List TokenV) → gathered s (repeated_to any_token item with_item (length ts) s ts) ≡ gathered s (repeated_under any_token item with_item s ts)
  unfolding repeated_under
  starts s ts = refl

  turn : (m n : ℕ) (s : SoFar) (ts : List TokenV) → n ≡ suc m → next_is any_token ts ≡ true
      → gathered s (repeated_to any_token item with_item n s ts) ≡ (with_next item s ts >>= λ next. gathered next.0 (repeated_to any_token item with_item m next.0 next.1))
  unfolding repeated_to
  turn m n s ts is there = rw (is, there) (by_item (item s ts))
    where
      by_item : (read : Outcome Item) → gathered s (read >>= λ first. repeated_to any_token item with_item m (with_item s first.0) first.1 >>= λ others. Ok (first.0 ∷ others.0, others.1))
          ≡ ((read >>= λ one. Ok (with_item s one.0, one.1)) >>= λ next. gathered next.0 (repeated_to any_token item with_item m next.0 next.1))
      by_item (Ok x) = one_more s x.0 (repeated_to any_token item with_item m (with_item s x.0) x.1)
      by_item (Err f) = refl

  pub goes_on : (m n : ℕ) (s t : SoFar) (ts rest : List TokenV) (total : Outcome SoFar) → n ≡ suc m → next_is any_token ts ≡ true → with_next item s ts ≡ Ok (t, rest)
      → gathered s (repeated_to any_token item with_item n s ts) ≡ total → gathered t (repeated_to any_token item with_item m t rest) ≡ total
  goes_on m n s t ts rest total is there h so_far = sym (turn m n s ts is there ∙ rw h refl) ∙ so_far

  pub fails : (e : ReadEnd) (m n : ℕ) (s : SoFar) (ts : List TokenV) (total : Outcome SoFar) → n ≡ suc m → next_is any_token ts ≡ true → Fails e (with_next item s ts)
      → gathered s (repeated_to any_token item with_item n s ts) ≡ total → Fails e total
  fails ends.Memory m n s ts total is there h so_far = tt
  fails (ends.Bad f) m n s ts total is there h so_far = sym so_far ∙ turn m n s ts is there ∙ rw h refl

  pub ends_there : (n : ℕ) (s : SoFar) (ts : List TokenV) (total : Outcome SoFar) → next_is any_token ts ≡ false → gathered s (repeated_to any_token item with_item n s ts) ≡ total → total ≡ Ok (s, ts)
  unfolding repeated_to
  ends_there zero s ts total e so_far = sym so_far
  ends_there (suc n) s ts total e so_far = sym so_far ∙ rw e refl

  pub runs_out : (n : ℕ) (s : SoFar) (ts : List TokenV) (total : Outcome SoFar) → n ≡ 0 → gathered s (repeated_to any_token item with_item n s ts) ≡ total → total ≡ Ok (s, ts)
  unfolding repeated_to
  runs_out n s ts total is so_far = sym so_far ∙ rw is refl

pub no_token : (ts : List TokenV) → length ts ≡ 0 → next_is any_token ts ≡ false
unfolding next_is
no_token [] e = refl
no_token (t ∷ ts) e = absurd (omega arith)

pub some_token : (ts : List TokenV) → 0 < length ts → next_is any_token ts ≡ true
unfolding next_is
some_token [] lt = absurd (omega arith)
some_token (t ∷ ts) lt = refl

none_at : (k : ℕ) → IfSome (answer_at [] k) IsLayout
none_at zero = tt
none_at (suc k) = tt

-- no layouts are of each table
pub none_laid : (named : Name → Option Layout) (table : Table) → AreLaid named table []
none_laid named table = record { few = omega arith; each = λ k lt. absurd (omega arith); bounded = none_at }

-- the module of what was read, behind its bodies
module _ (types : List (NamedType Name TypeV)) (bodies : Outcome (Unit {0})) where
  abbrev of_all : Outcome (List Item) → Outcome ModuleV
  of_all read = read >>= λ all. bodies >>= λ sound. Ok (record (fold with_item nothing_so_far all.0).module_so_far { types = types }, all.1)

  module_is : (read : Outcome (List Item)) → of_all read ≡ (gathered nothing_so_far read >>= λ all. bodies >>= λ sound. Ok (record all.0.module_so_far { types = types }, all.1))
  module_is (Ok x) = refl
  module_is (Err f) = refl

  sound_then : (read : Outcome ModuleV) → fault_in bodies ≡ None → (bodies >>= λ sound. read) ≡ read
  sound_then read none = by_bodies bodies none
    where
      by_bodies : (b : Outcome (Unit {0})) → fault_in b ≡ None → (b >>= λ sound. read) ≡ read
      by_bodies (Ok x) e = refl
      by_bodies (Err f) e = absurd cc

  faulty_then : (f : Fault) (read : Outcome ModuleV) → fault_in bodies ≡ Some f → (bodies >>= λ sound. read) ≡ Err f
  faulty_then f read some = by_bodies bodies some
    where
      by_bodies : (b : Outcome (Unit {0})) → fault_in b ≡ Some f → (b >>= λ sound. read) ≡ Err f
      by_bodies (Ok x) e = absurd cc
      by_bodies (Err g) e = cc

  pub module_gathered : (read : Outcome (List Item)) (s : SoFar) (rest : List TokenV) → fault_in bodies ≡ None → gathered nothing_so_far read ≡ Ok (s, rest)
      → of_all read ≡ Ok (record s.module_so_far { types = types }, rest)
  module_gathered read s rest none h = module_is read ∙ rw h (sound_then (Ok (record s.module_so_far { types = types }, rest)) none)

  pub module_unsound : (f : Fault) (read : Outcome (List Item)) (s : SoFar) (rest : List TokenV) → fault_in bodies ≡ Some f → gathered nothing_so_far read ≡ Ok (s, rest) → of_all read ≡ Err f
  module_unsound f read s rest some h = module_is read ∙ rw h (faulty_then f (Ok (record s.module_so_far { types = types }, rest)) some)

  pub module_ends : (f : Fault) (read : Outcome (List Item)) → read ≡ Err f → of_all read ≡ Err f
  module_ends f read e = rw e refl

-- what is said where all is well
pub on_ok : {A E : Type 0} (P : Type 0) (r : Result A E) → P → OnOk r P
on_ok P (Ok a) is = is
on_ok P (Err e) is = tt
