use Rattle.std.proofs.Common.{◌≡◌, drop}
use Rattle.mem_image.specs.Picture.{end_frame}
use Rattle.mem_image.proofs.image.Image.remove_all.Given as goal

abbrev pub invariant-loop-name : goal.invariant-loop-name
invariant-loop-name l = end_frame l.self (drop l.name-index l.name-items) ≡ end_frame l.fn.self l.name-items
