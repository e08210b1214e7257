-- What is open, and how a type inside goes on in it.
use Rattle.std.specs.Prelude.{◌≡◌, ℕ, ◌<◌, Bool, true, false, List, [], ◌∷◌, ◌++◌, map, All, Result, Ok, Err}
use Rattle.ir_tree.specs.Trees.{TypeV, ArrayV, StructV}
use Rattle.ir_tree.specs.Naming.{listed}
use Rattle.ir_text.specs.declared.fault.ReadEnd.{ReadEnd}
use Rattle.ir_text.specs.declared.nested.Open.{Open}
use Rattle.ir_text.specs.declared.nested.Open.TheVariants as waiting
use Rattle.ir_text.specs.declared.nested.Begun.{Begun}
use Rattle.ir_text.specs.declared.nested.Begun.TheVariants.{Done, Opened}
use Rattle.ir_text.specs.Tokens.{TokenV, is_mark}
use Rattle.ir_text.specs.Reading.{Outcome, Reader, ◌>>=◌, Fails}
use Rattle.ir_text.specs.Leaves.{mark_at}
use Rattle.ir_text.specs.Repeated.{repeated}
use Rattle.ir_text.specs.Lists.{after_comma, list_at}
use Rattle.ir_text.specs.Types.{Known, type_at}

module _ (known : Known) where
  abbrev pub array_end : ℕ → TypeV × List TokenV → Outcome TypeV
  array_end n x = mark_at 93 x.1 >>= λ close. Ok (ArrayV n x.0, close.1)

  -- the other fields behind one
  abbrev pub fields_behind : Reader (List TypeV)
  fields_behind ts = repeated (is_mark 44) (after_comma (type_at known)) ts

  -- the end of a struct behind its fields
  abbrev pub braces : Bool → List TypeV → Reader TypeV
  braces false fields ts = mark_at 125 ts >>= λ close. Ok (StructV false (listed fields), close.1)
  braces true fields ts = mark_at 125 ts >>= λ close. mark_at 62 close.1 >>= λ end. Ok (StructV true (listed fields), end.1)

  -- a struct behind its brace
  abbrev pub fields_rule : Bool → Reader TypeV
  fields_rule false ts = list_at 125 (type_at known) ts >>= λ fields. Ok (StructV false (listed fields.0), fields.1)
  fields_rule true ts = list_at 125 (type_at known) ts >>= λ fields. mark_at 62 fields.1 >>= λ close. Ok (StructV true (listed fields.0), close.1)

  -- behind a field that follows these
  unfoldable pub struct_end : Bool → List TypeV → TypeV × List TokenV → Outcome TypeV
  struct_end packed front x = fields_behind x.1 >>= λ others. braces packed (front ++ x.0 ∷ others.0) others.1

  module _ (at : ℕ → TypeV) where
    -- what is open, behind the type that it waited for
    abbrev pub closing : Open → TypeV × List TokenV → Outcome TypeV
    closing (waiting.Array n) = array_end n
    closing (waiting.Struct packed ks) = struct_end packed (map at ks)

    -- the innermost stands last
    abbrev pub resume : List Open → Outcome TypeV → Outcome TypeV
    resume [] read = read
    resume (o ∷ os) read = resume os read >>= closing o

    abbrev pub begun : List TokenV → Begun → Outcome TypeV
    begun ts (Done k) = Ok (at k, ts)
    begun ts (Opened o) = type_at known ts >>= closing o

    -- a step leads from one reading to the same
    abbrev pub Steps : List TokenV → Result Begun ReadEnd → Outcome TypeV → Type 0
    Steps ts (Ok b) read = read ≡ begun ts b
    Steps ts (Err e) read = Fails e read

-- the numbers that are open are below a bound
abbrev pub OpenWithin : ℕ → Open → Type 0
OpenWithin n (waiting.Array count) = Unit {0}
OpenWithin n (waiting.Struct packed ks) = All (λ k. k < n) ks

abbrev pub BegunWithin : ℕ → Begun → Type 0
BegunWithin n (Done k) = k < n
BegunWithin n (Opened o) = OpenWithin n o
