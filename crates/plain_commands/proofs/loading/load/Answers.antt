use Rattle.std.proofs.Common.{refl}
use Rattle.plain_commands.proofs.LoadLemmas.{faulty_is, bad_read, judged_so, read_well}
use Rattle.plain_commands.proofs.loading.load.Goals as goal

pub judge-requires : goal.judge-requires
judge-requires c =
    read_well c.args.text.now c.in-Ok.tree c.requires c.tell_names.ensures c.in-Ok.ensures.reading c.in-Ok.ensures.stays

pub returns-in-Ok : goal.returns-in-Ok
returns-in-Ok c = judged_so c.args.text.now c.in-Ok.tree c.judge.result c.in-Ok.ensures.reading c.judge.ensures

pub returns-in_ok-line-in-Err-Bad : goal.returns-in_ok-line-in-Err-Bad
returns-in_ok-line-in-Err-Bad c = faulty_is c.args.text.now c.in-Err-Bad.error c.in_ok-line-in-Err-Bad.line
    (bad_read c.args.text.now c.in-Err-Bad.field-0 c.in-Err-Bad.error c.in-Err-Bad.field-0-is c.in-Err-Bad.ensures.reading) c.in_ok-line-in-Err-Bad.ensures
