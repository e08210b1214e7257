use Rattle.load_gen.specs.Profile.{line_text}
use Rattle.load_gen.proofs.Texts.{each_none, one_more}
use Rattle.load_gen.proofs.profile_text.put_lines.Goals as goal

pub loop-j-init : goal.loop-j-init
loop-j-init c = each_none (λ j. line_text j) c.args.to.now

pub loop-j-preserved : goal.loop-j-preserved
loop-j-preserved c = one_more (λ j. line_text j) c.loop-j.j c.args.to.now c.loop-j.to c.put_line.new.to c.loop-j.invariant c.in_ok-put_line.ensures
