use Rattle.std.proofs.Common.{Some, sym, ap, ◌∙◌}
use Rattle.ir_checker.proofs.ConstantKeyLemmas.{key_kind, key_more}
use Rattle.ir_checker.proofs.kinds.kind_of.Goals as goal

pub returns-clause-class : goal.returns-clause-class
returns-clause-class c =
    let key = c.in_ok-key.ensures in
    let found = c.in_ok-kind.ensures in
    key_kind c.args.names.now c.args.classes.now c.args.kinds.now c.args.keys.now c.number.new.self c.in_ok-kind.kind c.args.node.now
    c.is_table.ensures c.requires.classes c.requires.below c.requires.keyed c.requires.node found.kept (found.known ∙ ap Some key) (λ j at. found.only j (at ∙ ap Some (sym key)))

pub returns-clause-keyed : goal.returns-clause-keyed
returns-clause-keyed c =
    let key = c.in_ok-key.ensures in
    let found = c.in_ok-kind.ensures in
    key_more c.args.names.now c.args.classes.now c.args.kinds.now c.args.keys.now c.number.new.self c.in_ok-kind.kind c.args.node.now
    c.is_table.ensures c.requires.classes c.requires.below c.requires.keyed c.requires.node found.kept (found.known ∙ ap Some key) found.len
