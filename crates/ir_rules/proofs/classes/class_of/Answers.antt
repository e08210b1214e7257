use Rattle.std.proofs.Common.{Some, sym, ap, ◌∙◌}
use Rattle.ir_rules.proofs.TypeKeyLemmas.{key_class, key_more}
use Rattle.ir_rules.proofs.classes.class_of.Goals as goal

pub returns-clause-class : goal.returns-clause-class
returns-clause-class c =
    let key = c.in_ok-key.ensures in
    let found = c.in_ok-class.ensures in
    key_class c.args.names.now c.args.classes.now c.args.keys.now c.number.new.self c.in_ok-class.class c.args.node.now
    c.is_table.ensures c.requires.below c.requires.keyed c.requires.node found.kept (found.known ∙ ap Some key) (λ j at. found.only j (at ∙ ap Some (sym key)))

pub returns-clause-keyed : goal.returns-clause-keyed
returns-clause-keyed c =
    let key = c.in_ok-key.ensures in
    let found = c.in_ok-class.ensures in
    key_more c.args.names.now c.args.classes.now c.args.keys.now c.number.new.self c.in_ok-class.class c.args.node.now
    c.is_table.ensures c.requires.below c.requires.keyed c.requires.node found.kept (found.known ∙ ap Some key) found.len
