use Rattle.std.proofs.Common.{◌≡◌, ◌+◌, ◌++◌, length, take, drop, replicate}
use Rattle.pv_base.proofs.list.List.fill.Given as goal

abbrev pub invariant-loop-i : goal.invariant-loop-i
invariant-loop-i g l = record {
  len : length l.self-inside.items.items ≡ length l.fn.self;
  front : take (l.at + l.i) l.self-inside.items.items ≡ take l.at l.fn.self ++ replicate l.i l.item;
  back : drop (l.at + l.i) l.self-inside.items.items ≡ drop (l.at + l.i) l.fn.self;
}
