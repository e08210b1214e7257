-- What the region of a loop promises to whatever runs the loop: all that is needed of it, with no further look at the profile.
use Rattle.std.specs.Prelude.{ℕ, suc, ◌≡◌, true, List, [], ◌∷◌, Some, find, position, slice_get}
use Rattle.int_num.specs.declared.ops.RedKind.{RedKind}
use Rattle.pv_base.specs.declared.name.Name.{Name}
use Rattle.pv_base.specs.declared.place.Site.{Site}
use Rattle.ir_rules.specs.Seen.{ModuleV, FunctionV, BlockV, InstructionV}
use Rattle.loop_plan.specs.declared.plan.PhiGuess.{PhiGuess}
use Rattle.loop_plan.specs.declared.plan.PhiGuess.TheVariants as guess
use Rattle.loop_plan.specs.declared.plan.PhiPlan.{PhiPlan}
use Rattle.loop_plan.specs.declared.plan.Region.{Region}
use Rattle.loop_plan.specs.Naming.{defines, instructions_of}
use Rattle.loop_plan.specs.Regions.{is_entered_by, latches}
use Rattle.loop_plan.specs.Triples.{Joining, joining}
use Rattle.loop_plan.specs.Phis.{PhiV, phis_of, first_of, listed_instructions, is_integer, is_reduction, register_from}
use Rattle.loop_plan.specs.Tests.{counters_of, counted_test}
use Rattle.loop_plan.specs.Plans.{label_at}

-- over a function of this number, the instructions of a loop's blocks, and the label of its latch
module _ (f : FunctionV) (number : ℕ) (inside : List InstructionV) (latch : Name) where
  -- A phi is reduced by the instruction at a site: that one's result is what the phi takes from the latch; of the loop's instructions
  -- it alone reads the phi, and the phi alone reads it.
  pub record IsReduced (p : PhiV) (at : Site) (kind : RedKind) : Type 0 where
    pub register : Name
    pub op : InstructionV
    pub parts : Joining
    pub integer : is_integer p.of ≡ true
    pub taken : register_from latch p ≡ Some register
    pub defined : find (defines register) inside ≡ Some op
    pub joins : joining op ≡ Some parts
    pub alone : is_reduction inside p parts ≡ true
    pub function : at.function ≡ number
    pub place : position (defines register) (instructions_of f) ≡ Some at.place
    pub same : parts.kind ≡ kind

  -- a guess fits its phi: a step is of an integer, and so is a reduction
  abbrev pub FitsPhi : PhiV → PhiGuess → Type 0
  FitsPhi p (guess.Step by) = is_integer p.of ≡ true
  FitsPhi p guess.Same = Unit {0}
  FitsPhi p (guess.Reduce at kind) = IsReduced p at kind

  -- a phi's plan, where the phi stands at this place
  pub record IsPlanned (place : ℕ) (p : PhiV) (plan : PhiPlan) : Type 0 where
    pub function : plan.phi.function ≡ number
    pub at : plan.phi.place ≡ place
    pub fits : FitsPhi p plan.guess

  -- the plans of phis, of which the first stands at this place: one for each, in order
  abbrev pub ArePlanned : ℕ → List PhiV → List PhiPlan → Type 0
  ArePlanned place [] [] = Unit {0}
  ArePlanned place (p ∷ ps) (x ∷ xs) = IsPlanned place p x × ArePlanned (suc place) ps xs
  ArePlanned place ps xs = ⊥

-- The loop is entered by its header alone; the latch has its only edge to the header; each of the header's phis is planned, in order;
-- and the header or the latch ends in the counted test.
pub record RegionOf (f : FunctionV) (r : Region) : Type 0 where
  pub header : BlockV
  pub latch : Name
  pub entered : is_entered_by f r.blocks r.header ≡ true
  pub returns : latches f r.blocks r.header ≡ r.latch ∷ []
  pub header_at : slice_get f.blocks r.header ≡ Some header
  pub latch_at : label_at f r.latch ≡ Some latch
  pub phis : ArePlanned f r.function (listed_instructions f r.blocks) latch (first_of f r.header) (phis_of header) r.phis
  pub test : counted_test f r.blocks (listed_instructions f r.blocks) latch (counters_of r.phis (phis_of header)) r.header r.latch ≡ Some r.test

-- the region of a function that the module has
pub record IsRegion (v : ModuleV) (r : Region) : Type 0 where
  pub function : FunctionV
  pub at : slice_get v.functions r.function ≡ Some function
  pub stands : RegionOf function r
