-- Verdicts and a commit of pieces that are given.
use Rattle.std.specs.Prelude.{ℕ, ◌-◌, ◌≡◌, pos, false, true, [], ◌∷◌, Some, None}
use Rattle.int_num.specs.declared.ops.RedOp.TheVariants.{Add}
use Rattle.pv_base.specs.Limits.{live_limit}
use Rattle.pv_base.specs.declared.place.Place.{Place}
use Rattle.pv_base.specs.declared.place.AllocSite.TheVariants as site
use Rattle.mem_image.specs.declared.fault.CheckKind.TheVariants as check
use Rattle.mem_image.specs.declared.fault.Kept.TheVariants.{Number}
use Rattle.mem_image.specs.declared.object.Byte.{Byte}
use Rattle.mem_image.specs.declared.object.Byte.TheVariants.{Num, Ptr}
use Rattle.mem_image.specs.declared.object.Pointer.TheVariants.{Obj}
use Rattle.mem_image.specs.declared.object.Kind.TheVariants as kind
use Rattle.mem_image.specs.declared.object.Object.{Object}
use Rattle.seq_effects.specs.declared.state.Value.TheVariants.{Int}
use Rattle.reduction_merge.specs.Partials.{PartialOf}
use Rattle.span_types.specs.declared.span.Span.{Span}
use Rattle.span_types.specs.declared.failure.FailSite.TheVariants.{At}
use Rattle.span_types.specs.declared.failure.Failure.{Failure}
use Rattle.span_types.specs.declared.failure.Element.TheVariants as element
use Rattle.span_types.specs.declared.failure.LimitKind.TheVariants as limit
use Rattle.span_types.specs.declared.failure.PeriodFailure.TheVariants as why
use Rattle.span_types.specs.declared.piece.Delta.{Delta}
use Rattle.span_types.specs.declared.piece.Body.TheVariants.{Done, Failed}
use Rattle.span_types.specs.declared.piece.Piece.{Piece}
use Rattle.period_rules.specs.Verdicts.{verdict}
use Rattle.period_rules.specs.Commits.{commit}
use Rattle.worked_spans.specs.Samples.{at, number, global, state, base, span, writing, plan}

abbrev pub place : Place
place = record { name = 0; offset = 0 }

-- one turn that did nothing in five steps
abbrev pub idle : ℕ → Delta
idle k = record {
  live_in = [];
  writes = [];
  registers = [];
  partials = [];
  phis = [];
  output = record { turn = k; bytes = [] } ∷ [];
  made = record { turn = k; count = 0 } ∷ [];
  steps = record { turn = k; count = 5 } ∷ [];
  kept = record { turn = k; objects = [] } ∷ [];
  peaks = record { turn = k; count = 0 } ∷ [];
}

abbrev pub done : ℕ → Delta → Piece
done w d = record { worker = w; period = 0; body = Done d }

abbrev pub failure : ℕ → Failure
failure k = record { turn = k; kind = check.PrivateWrite; at = At (at 5); kept = Number 2 }

abbrev pub failed : ℕ → Failure → Piece
failed w e = record { worker = w; period = 0; body = Failed e }

-- two turns for two workers, in one period
abbrev pub two : Span
two = record (span 2 2) { turns = 2 }

abbrev pub reads : ℕ → Delta
reads k = record (idle k) { live_in = place ∷ [] }

abbrev pub writes : ℕ → Byte → Delta
writes k b = record (idle k) { writes = record { place = place; turn = k; byte = b } ∷ [] }

-- Both workers failed: the failure of the lesser turn counts.
unfoldable pub LeastTurnFails : Type 0
LeastTurnFails = verdict writing plan two base (failed 1 (failure 1) ∷ failed 0 (failure 0) ∷ []) 0 ≡ Some (why.Piece (failure 0))

-- One read what the other wrote.
unfoldable pub ReadConflicts : Type 0
ReadConflicts = verdict writing plan two base (done 0 (reads 0) ∷ done 1 (writes 1 (Num 65)) ∷ []) 0 ≡ Some (why.Conflict place)

-- the byte with 120 added to it by an addition that promises not to leave the range of signed numbers
abbrev pub sum : PartialOf
sum = record {
  op = Add;
  flags = record { nsw = true; nuw = false; exact = false; disjoint = false; nneg = false };
  width = 8;
  count = 2;
  positive = pos 120;
  negative = pos 0;
  unsigned = 120;
  folded = record { width = 8; bits = 120 };
}

abbrev pub sums : Delta
sums = record (idle 0) { partials = record { place = place; partial = sum } ∷ [] }

-- A sum from 100 on would leave the range; a sum from 7 on does not, and is committed.
unfoldable pub SumLeavesRange : Type 0
SumLeavesRange = verdict writing plan two base (done 0 sums ∷ done 1 (idle 1) ∷ []) 0 ≡ Some (why.Range (element.Memory place))

unfoldable pub SumStays : Type 0
SumStays = verdict writing plan two (record base { memory = global 7 }) (done 0 sums ∷ done 1 (idle 1) ∷ []) 0 ≡ None

unfoldable pub SumIsCommitted : Type 0
SumIsCommitted =
    commit writing plan two (record base { memory = global 7 }) (done 0 sums ∷ done 1 (idle 1) ∷ []) 0
    ≡ state 1 1 (Some (Int (number 2)) ∷ None ∷ None ∷ None ∷ []) (global 127) 11

-- With its second turn the period takes more steps than there are; where there are just as many it passes.
unfoldable pub StepsAreSpent : Type 0
StepsAreSpent = verdict writing plan (record two { budget = 10 }) base (done 0 (idle 0) ∷ done 1 (idle 1) ∷ []) 0 ≡ Some (why.Limit 1 limit.Steps)

unfoldable pub StepsAreJustEnough : Type 0
StepsAreJustEnough = verdict writing plan (record two { budget = 11 }) base (done 0 (idle 0) ∷ done 1 (idle 1) ∷ []) 0 ≡ None

-- ---- a commit

-- one byte of a pointer to an object
abbrev pub pointing : ℕ → Byte
pointing name = Ptr 0 (Obj name (pos 0))

abbrev pub object : ℕ → Byte → Object
object name b = record { name = name; site = site.At (at 4); kind = kind.Heap; fixed = false; bytes = b ∷ [] }

-- the turn made so many objects, kept one of them that points to itself, and let the global point to it
abbrev pub keeps : ℕ → ℕ → ℕ → Delta
keeps k made name = record (writes k (pointing name)) {
  made = record { turn = k; count = made } ∷ [];
  kept = record { turn = k; objects = object name (pointing name) ∷ [] } ∷ [];
  peaks = record { turn = k; count = made } ∷ [];
}

-- Turn 0 kept its first object; turn 1 made two, and kept the second. Each worker counted from 1 on: the second turn's names are 2 and 3.
unfoldable pub KeptObjectsAreRenamed : Type 0
KeptObjectsAreRenamed =
    commit writing plan two base (done 1 (keeps 1 2 2) ∷ done 0 (keeps 0 1 1) ∷ []) 0
    ≡ state 1 1 (Some (Int (number 2)) ∷ None ∷ None ∷ None ∷ [])
    (record {
      objects =
          record { name = 0; site = site.Global 0; kind = kind.Global; fixed = false; bytes = pointing 3 ∷ [] }
          ∷ object 1 (pointing 1)
          ∷ object 3 (pointing 3)
          ∷ [];
      next = 4;
    }) 11

-- the turn's own objects took so many bytes at once
abbrev pub peaks : ℕ → ℕ → Delta
peaks k most = record (idle k) { peaks = record { turn = k; count = most } ∷ [] }

-- Beside the global's byte there is just enough for the second turn, but no longer where the first turn kept an object.
unfoldable pub MemoryIsJustEnough : Type 0
MemoryIsJustEnough = verdict writing plan two base (done 0 (idle 0) ∷ done 1 (peaks 1 (live_limit - 1)) ∷ []) 0 ≡ None

unfoldable pub MemoryIsShort : Type 0
MemoryIsShort = verdict writing plan two base (done 0 (keeps 0 1 1) ∷ done 1 (peaks 1 (live_limit - 1)) ∷ []) 0 ≡ Some (why.Limit 1 limit.Memory)
