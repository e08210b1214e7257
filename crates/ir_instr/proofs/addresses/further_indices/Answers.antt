use Rattle.std.proofs.Common.{◌+◌, ◌≤◌, length, arith, map, sym, ◌∙◌}
use Rattle.std.proofs.lemmas.Result.{err_from_is_err_and}
use Rattle.std.proofs.lemmas.List.{map_push}
use Rattle.ir_tree.specs.Shown.{shown_argument}
use Rattle.ir_tree.proofs.Showing.{grows_then}
use Rattle.ir_text.specs.Tokens.{is_mark}
use Rattle.ir_text.specs.Named.{known_of}
use Rattle.ir_instr.specs.Addresses.{behind_comma, still_into}
use Rattle.ir_instr.specs.Placing.{some_into_at, shown_further}
use Rattle.ir_instr.proofs.Kept.{types_kept, same_table}
use Rattle.ir_instr.proofs.IndexTurns.{comma_index_less}
use Rattle.ir_instr.proofs.KeptTurns.{kept_some, kept_none, kept_fails, kept_ends}
use Rattle.ir_instr.proofs.addresses.further_indices.Goals as goal

pub returns-in_err-index-clause-reads : goal.returns-in_err-index-clause-reads
returns-in_err-index-clause-reads c = λ later grows.
    let p = err_from_is_err_and c.from_residual.result c.from_residual.ensures.1 in
    let known = known_of later c.args.known.now in
    rw (p.1, p.2)
    (kept_fails (is_mark 44) (behind_comma known) (still_into known) (comma_index_less known) (some_into_at later c.indices.state) c.indices.cursor (map (shown_argument later) c.indices.indices) _
    (c.indices.invariant.so_far later (grows_then _ _ _ c.in_err-index.ensures.grows grows)) c.in_err-index.field-0.0 (sym c.sees.ensures ∙ c.indices-test.true) (c.in_err-index.ensures.reads later grows))

pub indices-smaller-in_ok-push-in-Some : goal.indices-smaller-in_ok-push-in-Some
indices-smaller-in_ok-push-in-Some c =
    let table = c.further_index.new.names in
    let less : 1 + length c.further_index.new.cursor ≤ length c.indices.cursor = comma_index_less (known_of table c.args.known.now) (some_into_at table c.indices.state) c.indices.cursor (shown_further table c.in_ok-index.field-0, c.further_index.new.cursor) (c.in_ok-index.ensures.reads table (same_table table)) in
    omega arith

pub indices-preserved-in_ok-push-in-Some : goal.indices-preserved-in_ok-push-in-Some
indices-preserved-in_ok-push-in-Some c = record {
  so_far = λ later grows.
      let known = known_of later c.args.known.now in
      let read = rw c.in-Some.is at c.in_ok-index.ensures.reads later grows in
      let next = rw c.in-Some.is at c.in_ok-index.ensures.next later grows in
      rw (c.in_ok-push-in-Some.ensures.ok, map_push, next)
      (kept_some (is_mark 44) (behind_comma known) (still_into known) (comma_index_less known) (some_into_at later c.indices.state) c.indices.cursor (map (shown_argument later) c.indices.indices) _
      (c.indices.invariant.so_far later (grows_then _ _ _ c.in_ok-index.ensures.grows grows)) (shown_argument later c.in-Some.index) c.further_index.new.cursor (sym c.sees.ensures ∙ c.indices-test.true) read);
  within = rw c.in-Some.is at c.in_ok-index.ensures.within;
  types = types_kept _ _ _ c.indices.invariant.types c.in_ok-index.ensures.grows;
  grows = grows_then _ _ _ c.indices.invariant.grows c.in_ok-index.ensures.grows;
}

pub indices-smaller : goal.indices-smaller
indices-smaller c =
    let table = c.further_index.new.names in
    let less : 1 + length c.further_index.new.cursor ≤ length c.indices.cursor = comma_index_less (known_of table c.args.known.now) (some_into_at table c.indices.state) c.indices.cursor (shown_further table c.in_ok-index.field-0, c.further_index.new.cursor) (c.in_ok-index.ensures.reads table (same_table table)) in
    omega arith

pub indices-preserved : goal.indices-preserved
indices-preserved c = record {
  so_far = λ later grows.
      let known = known_of later c.args.known.now in
      let read = rw c.in-None.is at c.in_ok-index.ensures.reads later grows in
      let next = rw c.in-None.is at c.in_ok-index.ensures.next later grows in
      rw next
      (kept_none (is_mark 44) (behind_comma known) (still_into known) (comma_index_less known) (some_into_at later c.indices.state) c.indices.cursor (map (shown_argument later) c.indices.indices) _
      (c.indices.invariant.so_far later (grows_then _ _ _ c.in_ok-index.ensures.grows grows)) c.further_index.new.cursor (sym c.sees.ensures ∙ c.indices-test.true) read);
  within = tt;
  types = types_kept _ _ _ c.indices.invariant.types c.in_ok-index.ensures.grows;
  grows = grows_then _ _ _ c.indices.invariant.grows c.in_ok-index.ensures.grows;
}

pub returns-clause-reads : goal.returns-clause-reads
returns-clause-reads c = λ later grows.
    let known = known_of later c.args.known.now in
    kept_ends (is_mark 44) (behind_comma known) (still_into known) (comma_index_less known) (some_into_at later c.indices.state) c.indices.cursor (map (shown_argument later) c.indices.indices) _
    (c.indices.invariant.so_far later grows) (sym c.sees.ensures ∙ c.indices-test.false)
