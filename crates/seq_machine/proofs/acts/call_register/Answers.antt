use Rattle.std.proofs.Common.{◌≡◌, Some}
use Rattle.seq_machine.specs.Acts.{top}
use Rattle.seq_machine.proofs.FrameLists.{same_some}
use Rattle.seq_machine.proofs.acts.call_register.Goals as goal

pub fetch-requires : goal.fetch-requires
fetch-requires c = c.requires.each _ _ c.at.ensures

pub returns : goal.returns
returns c = λ f e.
    let t : top c.args.frames.now ≡ Some c.at.result.now = rw c.len.ensures at c.at.ensures in
    let same : f ≡ c.at.result.now = same_some _ _ _ e t in
    rw (same, c.fetch.ensures) c.result_register.ensures
