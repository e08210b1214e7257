use Rattle.std.proofs.Common.{◌∙◌, ap}
use Rattle.ir_text.specs.Tokens.{tokens_of}
use Rattle.ir_reader.specs.Knowing.{first_types}
use Rattle.ir_reader.proofs.Knowing.{types_within_table, are_types, types_found, known_is}
use Rattle.ir_reader.proofs.named.known_in.Goals as goal

pub new-requires : goal.new-requires
new-requires c = rw (c.as_slice-2.ensures, c.in_ok-types.ensures, c.as_slice.ensures) (types_within_table c.defined_types.new.names c.in_ok-all.all c.in_ok-all.ensures.are)

pub returns-clause-known : goal.returns-clause-known
returns-clause-known c =
    known_is c.defined_types.new.names c.in_ok-layouts.layouts.layouts c.in_ok-all.all (tokens_of c.args.text.now c.args.tokens.now) c.in_ok-only.only c.is_table.ensures c.in_ok-only.ensures c.in_ok-all.ensures.are c.in_ok-all.ensures.shows
    c.in_ok-known.known (rw (c.as_slice-2.ensures, c.in_ok-types.ensures, c.as_slice.ensures) at c.in_ok-layouts.ensures.layouts) (rw c.as_slice-3.ensures at c.in_ok-known.ensures)

pub returns-clause-types : goal.returns-clause-types
returns-clause-types c =
    types_found c.defined_types.new.names c.in_ok-layouts.layouts.layouts c.in_ok-all.all (tokens_of c.args.text.now c.args.tokens.now) c.in_ok-only.only c.is_table.ensures c.in_ok-only.ensures c.in_ok-all.ensures.are c.in_ok-all.ensures.shows
    c.in_ok-types.types (c.in_ok-types.ensures ∙ ap first_types c.as_slice.ensures)

pub returns-clause-bodies : goal.returns-clause-bodies
returns-clause-bodies c = are_types c.defined_types.new.names c.in_ok-layouts.layouts.layouts c.in_ok-all.all c.in_ok-known.known c.in_ok-all.ensures.are (rw c.as_slice-3.ensures at c.in_ok-known.ensures)

pub returns-clause-within : goal.returns-clause-within
returns-clause-within c = rw (c.in_ok-types.ensures, c.as_slice.ensures) (types_within_table c.defined_types.new.names c.in_ok-all.all c.in_ok-all.ensures.are)
