use Rattle.std.proofs.Common.{◌≡◌, ◌≤◌, ◌-◌, length, Some}
use Rattle.ir_tree.specs.Naming.{Grows}
use Rattle.ir_text.specs.Tokens.{tokens_of}
use Rattle.ir_text.specs.Types.{Known}
use Rattle.ir_instr.specs.Defined.{AreTypes}
use Rattle.ir_grammar.specs.Texts.{wrong_among}
use Rattle.ir_reader.specs.Faulting.{IsSaid}
use Rattle.ir_reader.proofs.Places.{IsBetween}
use Rattle.ir_reader.proofs.place.first_wrong.Given as goal

abbrev pub invariant-loop-least : goal.invariant-loop-least
invariant-loop-least l = record {
  so_far : (only known : Known) → IsSaid l.fn.names l.named only known → wrong_among only known (tokens_of l.text l.tokens) ≡ Some l.fn.found → IsBetween (wrong_among only known) (tokens_of l.text l.tokens) l.least l.most l.found;
  within : l.most ≤ length l.tokens;
  types : AreTypes l.names l.named.known;
  grows : Grows l.fn.names l.names;
}

abbrev pub decreases-loop-least : goal.decreases-loop-least
decreases-loop-least l = l.most - l.least
