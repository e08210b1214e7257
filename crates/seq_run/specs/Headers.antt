-- Runs to a header.
use Rattle.std.specs.Prelude.{ℕ, zero, suc, ◌==◌, ◌&&◌, List, position, Bool, Option, None, Some, option_and_then, if◌then◌else◌}
use Rattle.pv_base.specs.Outside.{Text}
use Rattle.ir_code.specs.declared.code.Code.{Code}
use Rattle.mem_image.specs.Picture.{Picture}
use Rattle.seq_effects.specs.declared.state.Frame.{Frame}
use Rattle.seq_machine.specs.declared.state.State.{State}
use Rattle.seq_machine.specs.declared.state.Header.{Header}
use Rattle.seq_machine.specs.declared.state.Step.{Step}
use Rattle.seq_machine.specs.declared.state.Step.TheVariants as step
use Rattle.seq_machine.specs.declared.state.Stop.{Stop}
use Rattle.seq_machine.specs.declared.state.Stop.TheVariants.{AtHeader, Ended, Trapped, Spent}
use Rattle.seq_machine.specs.Acts.{top, block_at, phis_of}
use Rattle.seq_machine.specs.Step.{step as one_step}

-- the header is that of the block in which the frame stands
abbrev pub is_header : Frame → Header → Bool
is_header f h = h.function == f.function && h.block == f.block

-- the least place in the list of the header at which the frame stands, right after the phis of its block
abbrev pub header_at : Code → List Header → Frame → Option ℕ
header_at code headers f = if f.place == phis_of (block_at code f) then position (is_header f) headers else None

-- the same of the top frame
abbrev pub header_of : Code → List Header → List Frame → Option ℕ
header_of code headers frames = option_and_then (header_at code headers) (top frames)

-- stops at a header, or goes on
abbrev pub or_header : Option ℕ → State Picture → Stop × State Picture → Stop × State Picture
or_header (Some k) s rest = (AtHeader k, s)
or_header None s rest = rest

abbrev pub header_or : Code → List Header → Step → State Picture → Stop × State Picture → Stop × State Picture
header_or code headers step.Next s rest = or_header (header_of code headers s.frames) s rest
header_or code headers (step.Ended n) s rest = (Ended n, s)
header_or code headers (step.Trap t site) s rest = (Trapped t site, s)
header_or code headers (step.Failed f site) s rest = (Spent, s)

-- at most so many steps from a state, at least one where there are any, to the first state whose top frame stands right after the
-- phis of a listed header
abbrev pub to_header : Code → Text → List Header → State Picture → ℕ → Stop × State Picture
to_header code input headers s zero = (Spent, s)
to_header code input headers s (suc n) = header_or code headers (one_step code input s).0 (one_step code input s).1 (to_header code input headers (one_step code input s).1 n)
