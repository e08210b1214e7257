use Rattle.std.proofs.Common.{◌≡◌, take}
use Rattle.ir_bytes.specs.Initial.{global_objects}
use Rattle.ir_bytes.proofs.image.first_image.Given as goal

abbrev pub invariant-loop-number : goal.invariant-loop-number
invariant-loop-number l = l.image ≡ record { objects = global_objects l.tree 0 (take l.number l.globals); next = l.number }
