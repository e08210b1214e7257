use Rattle.std.proofs.Common.{map, sym, ◌∙◌}
use Rattle.ir_lex.specs.declared.token.Cause.TheVariants as causes
use Rattle.ir_tree.specs.Naming.{name_at}
use Rattle.ir_text.specs.Leaves.{spelled_name}
use Rattle.ir_instr.specs.Instructions.{definable}
use Rattle.ir_instr.proofs.Defining.{defines, duplicates, new_name, uncounted, meant_is, meant_fails}
use Rattle.ir_instr.proofs.naming.definable.Goals as goal

pub returns-then-not-is_counted-clause-reads : goal.returns-then-not-is_counted-clause-reads
returns-then-not-is_counted-clause-reads c = λ later rest grows.
    meant_fails (definable c.args.next (map (name_at later) c.args.defined.now) (spelled_name c.args.lexeme.now)) causes.Name c.args.lexeme.now rest c.bad.result
    (uncounted c.args.next (map (name_at later) c.args.defined.now) c.in_ok-name.name (spelled_name c.args.lexeme.now) c.in_ok-name.ensures (sym c.is_counted.ensures ∙ c.if-not-is_counted.true)) c.bad.ensures

pub returns-then-contains-clause-reads : goal.returns-then-contains-clause-reads
returns-then-contains-clause-reads c = λ later rest grows.
    let is = duplicates c.args.names.now c.number.new.self later c.is_table.ensures c.in_ok-number.ensures.grows grows c.in_ok-number.number c.in_ok-name.name c.in_ok-number.ensures.known c.args.defined.now c.requires.names c.args.next
    (sym c.is_counted.ensures ∙ c.if-not-is_counted.false) (sym c.contains.ensures ∙ c.if-contains.true) in
    meant_fails (definable c.args.next (map (name_at later) c.args.defined.now) (spelled_name c.args.lexeme.now)) causes.Duplicate c.args.lexeme.now rest c.bad-then-contains.result (rw c.in_ok-name.ensures at is) c.bad-then-contains.ensures

pub returns-clause-reads : goal.returns-clause-reads
returns-clause-reads c = λ later rest grows.
    let is = defines c.args.names.now c.number.new.self later c.is_table.ensures c.in_ok-number.ensures.grows grows c.in_ok-number.number c.in_ok-name.name c.in_ok-number.ensures.known c.args.defined.now c.requires.names c.args.next
    (sym c.is_counted.ensures ∙ c.if-not-is_counted.false) (sym c.contains.ensures ∙ c.if-contains.false) in
    meant_is (definable c.args.next (map (name_at later) c.args.defined.now) (spelled_name c.args.lexeme.now)) (name_at later c.in_ok-number.number) c.args.lexeme.now rest (rw c.in_ok-name.ensures at is)

pub returns-clause-is_new : goal.returns-clause-is_new
returns-clause-is_new c = new_name c.number.new.self c.in_ok-number.number c.in_ok-name.name c.args.defined.now c.in_ok-number.ensures.known (sym c.contains.ensures ∙ c.if-contains.false)
