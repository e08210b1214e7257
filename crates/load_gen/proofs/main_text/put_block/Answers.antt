use Rattle.std.proofs.Common.{codes, decimal}
use Rattle.std.proofs.lemmas.Result.{on_ok_weaker}
use Rattle.load_gen.proofs.Texts.{numbered}
use Rattle.load_gen.proofs.main_text.put_block.Goals as goal

pub returns : goal.returns
returns c =
    on_ok_weaker c.append.result
    (numbered c.args.to.now c.put_numbered.new.to c.put_numbered-2.new.to c.put_numbered-3.new.to c.append.new.self
    (codes "b") (codes ":\n  %r") (codes " = call i32 @w") (decimal c.args.j) (codes "(i32 %i)\n  br label %join\n")
    c.in_ok-put_numbered.ensures c.in_ok-put_numbered-2.ensures c.in_ok-put_numbered-3.ensures)
    c.append.ensures.ok
