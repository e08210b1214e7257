use Rattle.std.proofs.Common.{◌≡◌, ◌++◌, ◌∙◌, codes, append_assoc}
use Rattle.std.proofs.lemmas.Result.{on_ok_weaker}
use Rattle.run_report.proofs.refusals.put_outside.Goals as goal

pub returns : goal.returns
returns c =
    let start : c.append.new.self ≡ c.args.to.now ++ codes "out-of-profile " = c.in_ok-append.ensures.ok in
    on_ok_weaker c.append-2.result (λ e. e ∙ rw (start, c.as_slice.ensures) (append_assoc c.args.to.now (codes "out-of-profile ") c.args.word.now)) c.append-2.ensures.ok
