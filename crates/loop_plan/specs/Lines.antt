-- The check lines that a plan puts beside a module: what each says, and before what it stands.
use Rattle.std.specs.Prelude.{◌+◌, ◌-◌, length, List, [], ◌∷◌, ◌++◌, map, find, Some, None, slice_get, if◌then◌else◌}
use Rattle.std.specs.List.{filter_map, flat_map}
use Rattle.std.specs.Option.{option_map_or}
use Rattle.pv_base.specs.declared.place.Site.{Site}
use Rattle.pv_base.specs.declared.place.AllocSite.{AllocSite}
use Rattle.pv_base.specs.declared.place.AllocSite.TheVariants.{Global, At}
use Rattle.ir_tree.specs.declared.plans.Tag.{Tag}
use Rattle.ir_tree.specs.declared.plans.CheckLine.{CheckLine}
use Rattle.ir_tree.specs.declared.plans.CheckLine.TheVariants as line
use Rattle.ir_tree.specs.declared.plans.CheckAt.{CheckAt}
use Rattle.ir_rules.specs.Seen.{ModuleV, FunctionV}
use Rattle.loop_plan.specs.declared.plan.LoopPlan.{LoopPlan}
use Rattle.loop_plan.specs.declared.plan.Plan.{Plan}
use Rattle.loop_plan.specs.Naming.{places_of}
use Rattle.loop_plan.specs.Triples.{same_site}
use Rattle.loop_plan.specs.Heaps.{same_place}
use Rattle.loop_plan.specs.Phis.{first_of}

-- the site of the header's first instruction behind its phis
abbrev pub behind_phis : FunctionV → LoopPlan → Site
behind_phis f p = record { function = p.region.function; place = first_of f p.region.header + length p.region.phis }

-- the site of the latch's terminator, its last instruction
abbrev pub latch_end : FunctionV → LoopPlan → Site
latch_end f p = record { function = p.region.function; place = first_of f (p.region.latch + 1) - 1 }

-- what stands at a site, where it is this one
abbrev pub standing : Site → Site → List CheckLine → List CheckLine
standing at here lines = if same_site at here then lines else []

-- over a module
module _ (v : ModuleV) where
  -- the turn that begins at a site, and its guesses
  abbrev pub begun : LoopPlan → Site → List CheckLine
  begun p at =
      option_map_or (λ f. standing at (behind_phis f p) (line.Turn p.number ∷ map (line.Set p.number) p.guesses)) (slice_get v.functions p.region.function) []

  -- the turn that ends at a site
  abbrev pub ended : LoopPlan → Site → List CheckLine
  ended p at = option_map_or (λ f. standing at (latch_end f p) (line.Test p.number ∷ [])) (slice_get v.functions p.region.function) []

  -- the expected classes at a site, by slot
  abbrev pub expected_at : LoopPlan → Site → List CheckLine
  expected_at p at = filter_map (λ e. if same_site at e.at then Some (line.Expect p.number e.slot e.heap) else None) p.expected

  -- a loop's lines at a place
  abbrev pub loop_lines : LoopPlan → AllocSite → List CheckLine
  loop_lines p (Global g) = []
  loop_lines p (At at) = begun p at ++ expected_at p at ++ ended p at

  abbrev pub tag_line : AllocSite × Tag → List CheckLine
  tag_line own = line.Tag own.1.heap ∷ []

  -- the tag of a place, which all loops that have one give alike
  abbrev pub tag_lines : List LoopPlan → AllocSite → List CheckLine
  tag_lines loops at = option_map_or tag_line (find (λ own. same_place own.0 at) (flat_map (λ p. p.tags) loops)) []

  abbrev pub lines_at : List LoopPlan → AllocSite → List CheckAt
  lines_at loops at = map (λ l. record { at = at; line = l }) (tag_lines loops at ++ flat_map (λ p. loop_lines p at) loops)

  -- All check lines of a plan, by place: at one place the tag first, and then by loop the turn that begins, its guesses, the expected
  -- classes and the turn that ends.
  unfoldable pub lines_of : Plan → List CheckAt
  lines_of plan = flat_map (lines_at plan.loops) (places_of v)
