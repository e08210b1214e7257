use Rattle.std.proofs.Common.{sym, ◌∙◌}
use Rattle.ir_tree.proofs.Showing.{grows_then}
use Rattle.ir_tree.specs.Staying.{StaysSame}
use Rattle.ir_text.specs.Named.{known_of}
use Rattle.ir_text.specs.Tokens.{tokens_of}
use Rattle.ir_instr.proofs.Kept.{same_table}
use Rattle.ir_instr.proofs.Kept.{types_kept as bodies_kept}
use Rattle.ir_grammar.specs.NamedTypes.{definitions, bodies_read}
use Rattle.ir_reader.specs.Gathered.{so_far_at}
use Rattle.ir_reader.specs.Knowing.{fault_in}
use Rattle.ir_reader.proofs.Faults.{said_later}
use Rattle.ir_reader.proofs.Settling.{whole_ends, whole_is, whole_stays, faulty_is, types_kept, so_far_same, module_same}
use Rattle.ir_reader.proofs.whole.module_of.Goals as goal

pub first_fault-requires-clause-types : goal.first_fault-requires-clause-types
first_fault-requires-clause-types c = bodies_kept c.args.names c.read_items.new.names c.args.named.known c.requires.bodies c.in-Err-Bad.ensures.grows

pub module_with-requires-clause-within : goal.module_with-requires-clause-within
module_with-requires-clause-within c = types_kept c.args.names c.read_items.new.names c.args.named.types c.in-Ok.ensures.grows c.requires.within

pub returns-in-Err-Bad-clause-reads : goal.returns-in-Err-Bad-clause-reads
returns-in-Err-Bad-clause-reads c = λ types only all shown said.
    let names = c.read_items.new.names in
    whole_ends types only (known_of names c.args.named.known) all (said.bodies names c.in-Err-Bad.ensures.grows) c.new-cursor.result (tokens_of c.args.text.now c.args.tokens.now) c.new-cursor.ensures c.in-Err-Bad.item
    c.in_ok-fault-in-Err-Bad.fault (faulty_is c.in-Err-Bad.field-0 c.in-Err-Bad.item _ c.in-Err-Bad.field-0-is (c.in-Err-Bad.ensures.reads names (same_table names)))
    (c.in_ok-fault-in-Err-Bad.ensures only all (said_later c.args.names names c.args.named only all c.in-Err-Bad.ensures.grows said))

pub returns-clause-reads : goal.returns-clause-reads
returns-clause-reads c = λ types only all shown said.
    let names = c.read_items.new.names in
    whole_is types only (known_of names c.args.named.known) all (said.bodies names c.in-Ok.ensures.grows) c.new-cursor.result (tokens_of c.args.text.now c.args.tokens.now) c.new-cursor.ensures
    names c.args.named c.in-Ok.read c.read_items.new.cursor c.module_with.result (shown names c.in-Ok.ensures.grows) (c.in-Ok.ensures.reads names (same_table names)) (c.module_with.ensures only said.names)

pub returns-clause-stays : goal.returns-clause-stays
returns-clause-stays c = λ types only all shown said.
    let names = c.read_items.new.names in
    let stays : StaysSame (record { names = names; types = c.args.named.types; globals = c.in-Ok.read.globals; functions = c.in-Ok.read.functions }) = λ later grows.
    let before = grows_then c.args.names names later c.in-Ok.ensures.grows grows in
    module_same names later c.args.named.types c.in-Ok.read (shown later before ∙ sym (shown names c.in-Ok.ensures.grows))
    (so_far_same (known_of later c.args.named.known) (known_of names c.args.named.known) all (so_far_at later c.in-Ok.read) (so_far_at names c.in-Ok.read) c.new-cursor.result c.read_items.new.cursor (said.bodies later before) (said.bodies names c.in-Ok.ensures.grows)
    (c.in-Ok.ensures.reads later grows) (c.in-Ok.ensures.reads names (same_table names)))
    in
    whole_stays names c.args.named c.in-Ok.read (fault_in (bodies_read only (definitions (tokens_of c.args.text.now c.args.tokens.now)))) c.module_with.result stays (c.module_with.ensures only said.names)
