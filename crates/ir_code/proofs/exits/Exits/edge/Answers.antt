use Rattle.std.proofs.Common.{◌<◌, length, arith}
use Rattle.ir_code.proofs.Noted.{place_below}
use Rattle.ir_code.proofs.exits.Exits.edge.Goals as goal

pub overflow_add-result : goal.overflow_add-result
overflow_add-result c =
    let lt : c.in_ok-place.place < length c.self.inside.targets = place_below _ _ _ c.in_ok-place.ensures in
    omega arith
