use Rattle.std.proofs.Common.{ap, Some, take, ◌-◌}
use Rattle.pv_base.proofs.Fronts.{take_is_front}
use Rattle.pv_base.proofs.in_memory.MemSinkSink.put.Goals as goal

pub returns-in-Ok-extend_from_slice-clause-ends : goal.returns-in-Ok-extend_from_slice-clause-ends
returns-in-Ok-extend_from_slice-clause-ends c = (
  c.raised-self-in-Ok-extend_from_slice.ensures.rose,
  record {
    front = take (c.args.self.now.room - c.len.result) c.args.bytes.now;
    is_front = take_is_front _ _;
    held = ap Some c.in-Ok-extend_from_slice.ensures.items;
  },
)
