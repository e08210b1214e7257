-- Pieces and journals, computed from the code of a loop.
use Rattle.std.specs.Prelude.{ℕ, ◌≡◌, List, [], ◌∷◌}
use Rattle.mem_image.specs.declared.object.Byte.TheVariants.{Num}
use Rattle.ir_code.specs.declared.code.Code.{Code}
use Rattle.seq_effects.specs.declared.state.Value.TheVariants.{Int}
use Rattle.seq_machine.specs.declared.state.End.{End}
use Rattle.seq_machine.specs.declared.state.End.TheVariants.{Ended}
use Rattle.span_types.specs.declared.piece.Body.TheVariants.{Done, Failed}
use Rattle.span_types.specs.declared.journal.Entry.{Entry}
use Rattle.span_types.specs.declared.journal.Entry.TheVariants as entry
use Rattle.span_types.specs.declared.failure.LimitKind.TheVariants as limit
use Rattle.span_types.specs.declared.failure.PeriodFailure.TheVariants as why
use Rattle.period_rules.specs.Pieces.{piece}
use Rattle.period_rules.specs.Runs.{Setting, run_from}
use Rattle.worked_spans.specs.Samples.{number, span, writing, rewriting, plan, first}
use Rattle.worked_spans.specs.Given.{failure, place}

-- The first of two workers takes turns 0 and 2 of three, and each writes the byte.
unfoldable pub WritingIsDone : Type 0
WritingIsDone = piece writing plan (span 2 3) 0 0 ≡ record {
  worker = 0;
  period = 0;
  body = Done (record {
    live_in = [];
    writes = record { place = place; turn = 2; byte = Num 65 } ∷ [];
    registers = record { register = 1; turn = 2; value = Int (record { width = 1; bits = 1 }) } ∷ record { register = 2; turn = 2; value = Int (number 3) } ∷ [];
    partials = [];
    phis = [];
    output = record { turn = 0; bytes = [] } ∷ record { turn = 2; bytes = [] } ∷ [];
    made = record { turn = 0; count = 0 } ∷ record { turn = 2; count = 0 } ∷ [];
    steps = record { turn = 0; count = 5 } ∷ record { turn = 2; count = 5 } ∷ [];
    kept = record { turn = 0; objects = [] } ∷ record { turn = 2; objects = [] } ∷ [];
    peaks = record { turn = 0; count = 0 } ∷ record { turn = 2; count = 0 } ∷ [];
  });
}

-- A turn that reads the byte and then writes it fails at the write.
unfoldable pub RewritingFails : Type 0
RewritingFails = piece rewriting plan (span 2 3) 1 0 ≡ record { worker = 1; period = 0; body = Failed (failure 1) }

-- ---- journals

abbrev pub set : Code → ℕ → ℕ → ℕ → Setting
set code workers period budget = record { code = code; plan = record { loops = plan ∷ []; left_out = [] }; input = []; workers = workers; period = period; budget = budget }

abbrev pub journal : Setting → List Entry
journal r = (run_from r r.budget first).0

abbrev pub end : Setting → End
end r = (run_from r r.budget first).1.0

abbrev pub began : ℕ → Entry
began turns = entry.Span 0 (record { function = 0; block = 1 }) turns

-- Two periods are committed.
unfoldable pub WritingCommits : Type 0
WritingCommits = journal (set writing 2 2 100) ≡ began 3 ∷ entry.Commit 0 2 ∷ entry.Commit 1 1 ∷ []

unfoldable pub WritingEnds : Type 0
WritingEnds = end (set writing 2 2 100) ≡ Ended (number 0)

-- The first period fails, and its two turns are run again; with one turn left no span begins.
unfoldable pub RewritingRecovers : Type 0
RewritingRecovers = journal (set rewriting 2 2 100) ≡ began 3 ∷ entry.Fail 0 (why.Piece (failure 0)) ∷ entry.Recovered 0 2 ∷ []

-- No turn is too long, but two of them are: the first comes back to the header, and the run is spent in the second.
unfoldable pub WritingIsSpent : Type 0
WritingIsSpent = journal (set writing 2 3 8) ≡ began 3 ∷ entry.Fail 0 (why.Limit 1 limit.Steps) ∷ entry.Recovered 0 1 ∷ []
