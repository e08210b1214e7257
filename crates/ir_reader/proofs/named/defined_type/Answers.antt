use Rattle.ir_tree.proofs.Showing.{grows_then}
use Rattle.ir_reader.proofs.Knowing.{defined_is, shown_is, name_shown}
use Rattle.ir_reader.proofs.named.defined_type.Goals as goal

pub returns-clause-is : goal.returns-clause-is
returns-clause-is c =
    defined_is c.number.new.self c.body_unless_faulty.new.names c.laid_body.new.names c.named.new.self c.in_ok-name.name c.in_ok-of.of c.in_ok-laid.laid c.in_ok-named.named c.args.name c.in_ok-name.ensures.known c.in_ok-of.ensures.grows
    c.in_ok-of.ensures.within c.in_ok-laid.ensures.grows c.in_ok-laid.ensures.shows c.in_ok-named.ensures.grows c.in_ok-named.ensures.shows

pub returns-clause-shows : goal.returns-clause-shows
returns-clause-shows c = λ later grows.
    let read = grows_then c.body_unless_faulty.new.names c.laid_body.new.names later c.in_ok-laid.ensures.grows (grows_then c.laid_body.new.names c.named.new.self later c.in_ok-named.ensures.grows grows) in
    shown_is later c.in_ok-name.name c.in_ok-of.of c.args.name _ (name_shown c.number.new.self later c.in_ok-name.name c.args.name c.in_ok-name.ensures.known (grows_then c.number.new.self c.body_unless_faulty.new.names later c.in_ok-of.ensures.grows read)) (c.in_ok-of.ensures.body later read)
