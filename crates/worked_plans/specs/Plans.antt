-- The worked plans.
use Rattle.std.specs.Prelude.{ℕ, ◌≡◌, pos, codes, List, [], ◌∷◌, map, replicate, true, false, Option, Some, None}
use Rattle.int_num.specs.declared.ops.BinOp.{BinOp}
use Rattle.int_num.specs.declared.ops.BinOp.TheVariants as bin
use Rattle.int_num.specs.declared.ops.Flags.{Flags}
use Rattle.int_num.specs.declared.ops.Pred.TheVariants.{Slt}
use Rattle.int_num.specs.declared.ops.RedOp.TheVariants as red
use Rattle.int_num.specs.declared.ops.RedKind.{RedKind}
use Rattle.pv_base.specs.Outside.{Text}
use Rattle.pv_base.specs.declared.name.Name.{Name}
use Rattle.pv_base.specs.declared.place.AllocSite.{AllocSite}
use Rattle.pv_base.specs.declared.place.AllocSite.TheVariants as site
use Rattle.pv_base.specs.declared.place.Heap.{Heap}
use Rattle.pv_base.specs.declared.place.Heap.TheVariants.{Private, Reduction, ShortLived}
use Rattle.ir_tree.specs.declared.instruction.Operand.TheVariants.{Constant}
use Rattle.ir_tree.specs.declared.instruction.Instruction.TheVariants as tree
use Rattle.ir_tree.specs.declared.plans.Tag.{Tag}
use Rattle.ir_tree.specs.declared.plans.Expect.{Expect}
use Rattle.ir_tree.specs.declared.plans.CheckLine.{CheckLine}
use Rattle.ir_tree.specs.declared.plans.CheckLine.TheVariants as line
use Rattle.ir_tree.specs.declared.plans.CheckAt.{CheckAt}
use Rattle.ir_tree.specs.declared.instruction.Callee.TheVariants as callee
use Rattle.ir_tree.specs.Trees.{TypeV, IntV, PtrV, VoidV, IntegerC, NullC, NameC}
use Rattle.ir_rules.specs.Seen.{ModuleV, FunctionV, GlobalV, InstructionV, OperandV, ArgumentV}
use Rattle.profile_lines.specs.declared.profile.ObjectName.{ObjectName}
use Rattle.profile_lines.specs.declared.profile.ObjectName.TheVariants.{Global, At}
use Rattle.profile_lines.specs.declared.profile.ValueLine.{ValueLine}
use Rattle.profile_lines.specs.declared.profile.PhiWord.{PhiWord}
use Rattle.profile_lines.specs.declared.profile.PhiWord.TheVariants as word
use Rattle.profile_lines.specs.declared.profile.Profile.{Profile}
use Rattle.loop_plan.specs.declared.plan.PhiGuess.TheVariants as guess
use Rattle.loop_plan.specs.declared.plan.PhiPlan.{PhiPlan}
use Rattle.loop_plan.specs.declared.plan.Bound.TheVariants.{Const}
use Rattle.loop_plan.specs.declared.plan.CountedTest.{CountedTest}
use Rattle.loop_plan.specs.declared.plan.Region.{Region}
use Rattle.loop_plan.specs.declared.plan.Plan.{Plan}
use Rattle.loop_plan.specs.declared.plan.Reason.{Reason}
use Rattle.loop_plan.specs.declared.plan.Reason.TheVariants as reason
use Rattle.loop_plan.specs.Triples.{no_flags}
use Rattle.loop_plan.specs.Plans.{plan_of}
use Rattle.loop_plan.specs.Lines.{lines_of}
use Rattle.worked_plans.specs.Texts.{called, register, number, word as i32, block, jump, arm, variable, looping, ends_with_0, named, in_main, use_line, phi_line, profiled, at}

-- ---- what plans say

-- the test of the loops that count up to a number of turns
abbrev pub up_to : ℕ → CountedTest
up_to turns = record {
  block = 1;
  phi = at 1;
  latch_value = false;
  step = pos 1;
  pred = Slt;
  tested_left = true;
  into_on = true;
  bound = Const (record { width = 32; bits = turns });
}

abbrev pub counted : PhiPlan
counted = record { phi = at 1; guess = guess.Step (pos 1) }

-- the region of the loops with one block as their body
abbrev pub region : ℕ → List PhiPlan → Region
region turns phis = record { function = 0; header = 1; latch = 3; blocks = 1 ∷ 2 ∷ 3 ∷ []; phis = phis; test = up_to turns }

abbrev pub expect : ℕ → Heap → Expect
expect place heap = record { at = at place; slot = 0; heap = heap }

-- a plan that leaves its only loop out
abbrev pub left : Reason → Plan
left r = record { loops = []; left_out = record { number = 0; reason = r } ∷ [] }

-- ---- a counter: each turn loads it, changes it and stores it

abbrev pub global : Text → OperandV
global x = Constant (NameC (called x))

abbrev pub counter : BinOp → ℕ → ModuleV
counter op by = record {
  types = [];
  globals = variable (codes "n") i32 (IntegerC (record { width = 32; bits = 100 })) ∷ [];
  functions = looping 4 []
      (block (codes "body") (tree.Load (called (codes "x")) i32 (global (codes "n")) ∷ tree.Binary (called (codes "y")) op no_flags i32 (register (codes "x")) (number by) ∷ tree.Store i32 (register (codes "y")) (global (codes "n")) ∷ jump (codes "latch") ∷ []) ∷ [])
      ends_with_0 ∷ [];
}

-- what was seen of it
abbrev pub counter_profile : PhiWord → Profile
counter_profile i = profiled (phi_line (codes "i") i ∷ []) (use_line 4 (Global (named (codes "n"))) ∷ use_line 6 (Global (named (codes "n"))) ∷ []) [] [] []

-- A difference is no reduction: the counter is private.
unfoldable pub CounterIsPrivate : Type 0
CounterIsPrivate = plan_of (counter bin.Sub 1) (counter_profile (word.Step (pos 1))) ≡ record {
  loops = record {
    number = 0;
    period = None;
    region = region 4 (counted ∷ []);
    tags = (site.Global 0, record { heap = Private; kind = None }) ∷ [];
    expected = expect 4 Private ∷ expect 6 Private ∷ [];
    guesses = [];
    scratch = [];
  } ∷ [];
  left_out = [];
}

abbrev pub at_site : ℕ → CheckLine → CheckAt
at_site place l = record { at = site.At (at place); line = l }

-- The check lines of the private counter: its tag before the global, the turn behind the header's phi, the classes before its load and its
-- store, and the test before the latch's jump.
unfoldable pub CounterHasLines : Type 0
CounterHasLines =
    lines_of (counter bin.Sub 1) (plan_of (counter bin.Sub 1) (counter_profile (word.Step (pos 1))))
    ≡ record { at = site.Global 0; line = line.Tag Private }
    ∷ at_site 2 (line.Turn 0)
    ∷ at_site 4 (line.Expect 0 0 Private)
    ∷ at_site 6 (line.Expect 0 0 Private)
    ∷ at_site 9 (line.Test 0)
    ∷ []

abbrev pub sum : RedKind
sum = record { op = red.Add; flags = no_flags; width = 32 }

-- A sum is one.
unfoldable pub CounterIsReduction : Type 0
CounterIsReduction = plan_of (counter bin.Add 4294967295) (counter_profile (word.Step (pos 1))) ≡ record {
  loops = record {
    number = 0;
    period = None;
    region = region 4 (counted ∷ []);
    tags = (site.Global 0, record { heap = Reduction; kind = Some sum }) ∷ [];
    expected = expect 4 Reduction ∷ expect 6 Reduction ∷ [];
    guesses = [];
    scratch = record { load = at 4; op = at 5; store = at 6; kind = sum } ∷ [];
  } ∷ [];
  left_out = [];
}

-- A phi that stays counts nothing.
unfoldable pub CounterWithoutTest : Type 0
CounterWithoutTest = plan_of (counter bin.Sub 1) (counter_profile word.Same) ≡ left reason.Test

-- A phi without a line.
unfoldable pub CounterWithoutPhi : Type 0
CounterWithoutPhi = plan_of (counter bin.Sub 1) (profiled [] [] [] [] []) ≡ left reason.Phi

-- A `flow` of the counter that no `value` covers.
unfoldable pub CounterFlows : Type 0
CounterFlows =
    plan_of (counter bin.Sub 1)
    (profiled (phi_line (codes "i") (word.Step (pos 1)) ∷ []) (use_line 4 (Global (named (codes "n"))) ∷ use_line 6 (Global (named (codes "n"))) ∷ []) []
    (record { object = Global (named (codes "n")); offset = 0; length = 4 } ∷ []) [])
    ≡ left (reason.Unrestricted (site.Global 0))

-- An object that is not there.
unfoldable pub CounterUnknown : Type 0
CounterUnknown = plan_of (counter bin.Sub 1) (profiled (phi_line (codes "i") (word.Step (pos 1)) ∷ []) (use_line 4 (Global (named (codes "m"))) ∷ []) [] [] []) ≡ left reason.Unknown

-- ---- a sum in a register: `%s2 = add nsw i32 %s, %i`, and `ret i32 %s`

abbrev pub nsw : Flags
nsw = record { nsw = true; nuw = false; exact = false; disjoint = false; nneg = false }

abbrev pub summing : ModuleV
summing = record {
  types = [];
  globals = [];
  functions = looping 10 (tree.Phi (called (codes "s")) i32 (arm (number 0) (codes "entry") ∷ arm (register (codes "s2")) (codes "latch") ∷ []) ∷ [])
      (block (codes "body") (tree.Binary (called (codes "s2")) bin.Add nsw i32 (register (codes "s")) (register (codes "i")) ∷ jump (codes "latch") ∷ []) ∷ [])
      (tree.Return (Some (record { of = i32; value = register (codes "s") })) ∷ []) ∷ [];
}

unfoldable pub SumIsReduced : Type 0
SumIsReduced = plan_of summing (profiled (phi_line (codes "i") (word.Step (pos 1)) ∷ phi_line (codes "s") word.Reduce ∷ []) [] [] [] []) ≡ record {
  loops = record {
    number = 0;
    period = None;
    region = region 10 (counted ∷ record { phi = at 2; guess = guess.Reduce (at 5) (record { op = red.Add; flags = nsw; width = 32 }) } ∷ []);
    tags = [];
    expected = [];
    guesses = [];
    scratch = [];
  } ∷ [];
  left_out = [];
}

-- ---- a list that each turn builds and empties

abbrev pub pointer_global : Text → GlobalV
pointer_global x = variable x PtrV NullC

abbrev pub declared : Text → TypeV → List TypeV → FunctionV
declared x result params = record { name = called x; result = result; params = map (λ t. record { name = None; of = t }) params; variadic = false; blocks = []; declared = true }

abbrev pub call : Option Name → TypeV → Text → ArgumentV → InstructionV
call to of x argument = tree.Call to of false (callee.Function (called x)) (argument ∷ [])

abbrev pub listing : ModuleV
listing = record {
  types = [];
  globals = pointer_global (codes "list") ∷ pointer_global (codes "tail") ∷ [];
  functions =
      looping 6 []
      (block (codes "body") (
      call (Some (called (codes "p"))) PtrV (codes "malloc") (record { of = IntV 64; value = Constant (IntegerC (record { width = 64; bits = 16 })) })
      ∷ tree.Load (called (codes "h")) PtrV (global (codes "list"))
      ∷ tree.Store PtrV (register (codes "h")) (register (codes "p"))
      ∷ tree.Store PtrV (register (codes "p")) (global (codes "list"))
      ∷ tree.Store PtrV (register (codes "p")) (global (codes "tail"))
      ∷ tree.Load (called (codes "g")) PtrV (global (codes "list"))
      ∷ tree.Load (called (codes "n")) PtrV (register (codes "g"))
      ∷ tree.Store PtrV (register (codes "n")) (global (codes "list"))
      ∷ call None VoidV (codes "free") (record { of = PtrV; value = register (codes "g") })
      ∷ jump (codes "latch") ∷ []) ∷ [])
      ends_with_0
      ∷ declared (codes "malloc") PtrV (IntV 64 ∷ [])
      ∷ declared (codes "free") VoidV (PtrV ∷ []) ∷ [];
}

abbrev pub of_list : ObjectName
of_list = Global (named (codes "list"))

abbrev pub listed : List ValueLine → Profile
listed values = profiled (phi_line (codes "i") (word.Step (pos 1)) ∷ [])
    (use_line 5 of_list ∷ use_line 6 (At (in_main 4)) ∷ use_line 7 of_list ∷ use_line 8 (Global (named (codes "tail"))) ∷ use_line 9 of_list ∷ use_line 10 (At (in_main 4)) ∷ use_line 11 of_list ∷ [])
    (in_main 4 ∷ [])
    (record { object = of_list; offset = 0; length = 8 } ∷ [])
    values

-- the head of the list is null at each turn's start
abbrev pub null_head : ValueLine
null_head = record { global = named (codes "list"); offset = 0; bytes = replicate 8 0 }

abbrev pub private_site : ℕ → AllocSite × Tag
private_site g = (site.Global g, record { heap = Private; kind = None })

-- The nodes die in their turn, and what flows in the list's head is guessed.
unfoldable pub ListIsBuiltInTurns : Type 0
ListIsBuiltInTurns = plan_of listing (listed (null_head ∷ [])) ≡ record {
  loops = record {
    number = 0;
    period = None;
    region = region 6 (counted ∷ []);
    tags = private_site 0 ∷ private_site 1 ∷ (site.At (at 4), record { heap = ShortLived; kind = None }) ∷ [];
    expected = expect 5 Private ∷ expect 6 ShortLived ∷ expect 7 Private ∷ expect 8 Private ∷ expect 9 Private ∷ expect 10 ShortLived ∷ expect 11 Private ∷ [];
    guesses = record { global = 0; offset = 0; bytes = replicate 8 0 } ∷ [];
    scratch = [];
  } ∷ [];
  left_out = [];
}

-- Without the guess the flow leaves it out.
unfoldable pub ListFlows : Type 0
ListFlows = plan_of listing (listed []) ≡ left (reason.Unrestricted (site.Global 0))

-- A guess that leaves its global.
unfoldable pub ListGuessLeaves : Type 0
ListGuessLeaves = plan_of listing (listed (null_head ∷ record { global = named (codes "tail"); offset = 1; bytes = replicate 8 0 } ∷ [])) ≡ left reason.Guess

-- Two guesses that overlap.
unfoldable pub ListGuessesOverlap : Type 0
ListGuessesOverlap = plan_of listing (listed (null_head ∷ record { global = named (codes "list"); offset = 7; bytes = 0 ∷ [] } ∷ [])) ≡ left reason.Guess

-- A slot that touches a node and the list's head.
unfoldable pub ListIsMixed : Type 0
ListIsMixed =
    plan_of listing (profiled (phi_line (codes "i") (word.Step (pos 1)) ∷ []) (use_line 6 (At (in_main 4)) ∷ use_line 6 of_list ∷ []) (in_main 4 ∷ []) [] [])
    ≡ left (reason.Mixed (at 6) 0)
