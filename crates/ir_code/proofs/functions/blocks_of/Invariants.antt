use Rattle.std.proofs.Common.{◌≡◌, ◌++◌, ◌<◌, ◌^◌, length, drop}
use Rattle.std.specs.List.{flat_map}
use Rattle.ir_code.specs.Blocks.{blocks_from, edges_of}
use Rattle.ir_code.specs.Fitting.{BlocksFit}
use Rattle.ir_code.proofs.functions.blocks_of.Given as goal

abbrev pub invariant-loop-block : goal.invariant-loop-block
invariant-loop-block l = record {
  code : l.blocks ++ blocks_from l.«module» l.lookups l.scope l.first (length l.edges) (drop l.block-index l.all) ≡ blocks_from l.«module» l.lookups l.scope 0 (length l.initial.edges) l.all;
  edges : l.edges ++ flat_map (edges_of l.lookups l.scope) (drop l.block-index l.all) ≡ l.initial.edges ++ flat_map (edges_of l.lookups l.scope) l.all;
  first : l.first < 2 ^ 32;
  fits : BlocksFit l.blocks;
}
