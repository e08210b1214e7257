use Rattle.std.proofs.Common.{rules, ◌≡◌, length, sym, ap, ◌∙◌}
use Rattle.mem_image.proofs.Kept.{count_in}
use Rattle.mem_image.proofs.image.Image.count_from.Goals as goal

pub returns : goal.returns
returns c =
    let all : c.count.result ≡ length c.range.result = search rules in
    rw (← c.self.view_is) (all ∙ ap length (c.range.ensures.between tt) ∙ sym (count_in c.args.name c.self.inside.objects.entries c.self.invariant.keys))
