-- What an instruction of a checked module keeps.
use Rattle.std.proofs.Common.{◌≡◌, ℕ, ◌+◌, ◌≤◌, true, false, Bool, List, [], ◌∷◌, map, take, Option, Some, None, slice_get, refl, ap, subst, ◌∙◌, arith}
use Rattle.std.specs.Prelude.{◌||◌, option_map}
use Rattle.std.specs.List.{AllByRecursion, list_all}
use Rattle.std.proofs.lemmas.Option.{slice_get_within, slice_get-map}
use Rattle.ir_tree.specs.declared.instruction.Operand.{Operand as Named}
use Rattle.ir_tree.specs.declared.instruction.Instruction.{Instruction}
use Rattle.ir_tree.specs.declared.items.Block.{Block}
use Rattle.ir_tree.specs.declared.items.Function.{Function}
use Rattle.ir_tree.specs.Table.{Table}
use Rattle.ir_tree.specs.Trees.{TypeV}
use Rattle.ir_tree.specs.Naming.{name_at}
use Rattle.ir_tree.specs.Shown.{shown, shown_operand, shown_block, shown_function}
use Rattle.ir_tree.specs.Modules.{Items, types_of}
use Rattle.ir_rules.specs.declared.fault.CheckCause.{CheckCause}
use Rattle.ir_rules.specs.declared.fault.CheckCause.TheVariants.{UnknownName, TypeDiffers, PhiEdges, AllocaPlace, External}
use Rattle.ir_rules.specs.declared.given.Use.{Use}
use Rattle.ir_rules.specs.Seen.{FunctionV, ModuleV, seen}
use Rattle.ir_rules.specs.Forms.{uses, targets, sources, memory_types, cast_types, called_types, called_names, is_phi}
use Rattle.ir_rules.specs.Heads.{shown_use, shown_given}
use Rattle.ir_rules.specs.Defining.{given_type}
use Rattle.ir_rules.specs.Spots.{Spot, spots, instruction_count}
use Rattle.ir_rules.specs.Causes.{all_names_known, all_types_fit, phi_fits, alloca_fits, call_allowed, operand_known, operand_fits, use_fits}
use Rattle.ir_rules.specs.Reading.{instruction_stands, constants_stand, operand_stands, function_stands}
use Rattle.ir_rules.specs.Numbering.{is_name, is_type, instruction_within, global_within, function_within, block_within, operand_within, given_within, use_within, is_within}
use Rattle.ir_rules.specs.Faults.{causes, number_meets, found_meets, spot_meets}
use Rattle.ir_rules.specs.Checked.{IsChecked}
use Rattle.ir_rules.proofs.SameLemmas.{and_both}
use Rattle.ir_rules.proofs.ShownLemmas.{uses_shown}
use Rattle.checked_code.proofs.Faults.{lacks_at, true_of, number_meets_none}
use Rattle.global_laws.proofs.Found.{all_at}
use Rattle.resolving_laws.specs.Places.{StandsAt}
use Rattle.resolving_laws.proofs.Spotted.{Spotted, spotted, all_count}

-- what an instruction of a checked module keeps
pub record Sound (m : Items) (f : Function ℕ ℕ ℕ) (i : Instruction ℕ ℕ ℕ) : Type 0 where
  pub known : all_names_known (seen m) (shown_function m.names f) (shown m.names i) ≡ true
  pub types : all_types_fit (seen m) (shown_function m.names f) (shown m.names i) ≡ true
  pub calls : call_allowed (seen m) (shown m.names i) ≡ true
  pub entry : Bool
  pub alloca : alloca_fits entry (shown m.names i) ≡ true
  pub stands : instruction_stands (types_of m) (shown m.names i) ≡ true
  pub constants : constants_stand (types_of m) (shown m.names i) ≡ true
  pub within : instruction_within m.names i ≡ true

-- and what it keeps in its block
pub record SoundIn (m : Items) (f : Function ℕ ℕ ℕ) (b : Block ℕ ℕ ℕ) (k : ℕ) (i : Instruction ℕ ℕ ℕ) : Type 0 where
  pub own : Sound m f i
  pub spot : Spot
  pub label : spot.label ≡ name_at m.names b.label
  pub phi : phi_fits (shown_function m.names f) spot (shown m.names i) ≡ true
  pub first : spot.behind_phis ≡ true → list_all is_phi (take k b.instructions) ≡ true

or_false : (a b : Bool) → (a || b) ≡ false → a ≡ false
or_false true b e = absurd cc
or_false false b e = refl

met : (v : ModuleV) (g : FunctionV) (o : Option Spot) (s : Spot) (c : CheckCause) → o ≡ Some s → found_meets v g o c ≡ false → spot_meets v g s c ≡ false
met v g None s c e none = absurd cc
met v g (Some x) s c e none = let same : x ≡ s = cc in subst (λ y. spot_meets v g y c ≡ false) same none

pub functions_within : (m : Items) → is_within m ≡ true → list_all (function_within m.names) m.functions ≡ true
functions_within m e = (and_both (list_all (global_within m.names) m.globals) (list_all (function_within m.names) m.functions) (and_both _ _ e).0).1

pub sound_at : (m : Items) (k b i : ℕ) (s : StandsAt m k b i) → IsChecked m → SoundIn m s.function s.block i s.instruction
sound_at m k b i s checked = record {
  own = record {
    known = subst (λ x. all_names_known (seen m) F x ≡ true) p.instruction (true_of _ (none 0 UnknownName refl));
    types = subst (λ x. all_types_fit (seen m) F x ≡ true) p.instruction (true_of _ (none 1 TypeDiffers refl));
    calls = subst (λ x. call_allowed (seen m) x ≡ true) p.instruction (true_of _ (none 6 External refl));
    entry = p.spot.entry;
    alloca = subst (λ x. alloca_fits p.spot.entry x ≡ true) p.instruction (true_of _ (none 5 AllocaPlace refl));
    stands = all_at (instruction_stands (types_of m)) (map (shown m.names) s.block.instructions) i (shown m.names s.instruction) (all_at _ F.blocks b (shown_block m.names s.block) (and_both _ _ stands).1 there) inner;
    constants = all_at (constants_stand (types_of m)) (map (shown m.names) s.block.instructions) i (shown m.names s.instruction)
        (all_at _ F.blocks b (shown_block m.names s.block) (all_at _ (seen m).functions k F checked.well_formed.stands.constants outer) there) inner;
    within = all_at (instruction_within m.names) s.block.instructions i s.instruction (and_both _ _ (all_at (block_within m.names) s.function.blocks b s.block (and_both _ _ within).1 s.block_at)).1 s.instruction_at;
  };
  spot = p.spot;
  label = p.label_is;
  phi = subst (λ x. phi_fits F p.spot x ≡ true) p.instruction (true_of _ (none 4 PhiEdges refl));
  first = p.first;
}
  where
    F : FunctionV
    F = shown_function m.names s.function

    p : Spotted m.names (spots (shown_function m.names s.function)) (instruction_count (take b s.function.blocks) + i) s.block.label s.block.instructions i s.instruction
    p = spotted m.names s.function b s.block i s.instruction s.block_at s.instruction_at

    outer : slice_get (seen m).functions k ≡ Some (shown_function m.names s.function)
    outer = slice_get-map (shown_function m.names) m.functions k ∙ ap (option_map (shown_function m.names)) s.function_at

    there : slice_get (shown_function m.names s.function).blocks b ≡ Some (shown_block m.names s.block)
    there = slice_get-map (shown_block m.names) s.function.blocks b ∙ ap (option_map (shown_block m.names)) s.block_at

    inner : slice_get (map (shown m.names) s.block.instructions) i ≡ Some (shown m.names s.instruction)
    inner = slice_get-map (shown m.names) s.block.instructions i ∙ ap (option_map (shown m.names)) s.instruction_at

    stands : function_stands (types_of m) (shown_function m.names s.function) ≡ true
    stands = all_at (function_stands (types_of m)) (seen m).functions k (shown_function m.names s.function) checked.well_formed.stands.functions outer

    within : function_within m.names s.function ≡ true
    within = all_at (function_within m.names) m.functions k s.function (functions_within m checked.well_formed.within) s.function_at

    few : instruction_count (take b s.function.blocks) + i ≤ instruction_count (shown_function m.names s.function).blocks
    few = let lt = slice_get_within (spots (shown_function m.names s.function)) (instruction_count (take b s.function.blocks) + i) p.spot p.at in let c = all_count (shown_function m.names s.function).blocks in omega (arith, lt, c)

    none : (n : ℕ) (c : CheckCause) → slice_get causes n ≡ Some c → spot_meets (seen m) (shown_function m.names s.function) p.spot c ≡ false
    none n c e =
        met (seen m) (shown_function m.names s.function) (slice_get (spots (shown_function m.names s.function)) (instruction_count (take b s.function.blocks) + i)) p.spot c p.at
        (or_false _ _ (lacks_at (number_meets (seen m) (shown_function m.names s.function) (instruction_count (take b s.function.blocks) + i)) causes
        (number_meets_none (seen m) checked.faultless k (shown_function m.names s.function) (instruction_count (take b s.function.blocks) + i) outer few) n c e))

-- ---- what an instruction reads

-- what an operand of a type keeps
pub record UseSound (m : Items) (f : Function ℕ ℕ ℕ) (type : TypeV) (value : Named ℕ ℕ) : Type 0 where
  pub known : operand_known (seen m) (shown_function m.names f) (shown_operand m.names value) ≡ true
  pub fits : operand_fits (seen m) (shown_function m.names f) type (shown_operand m.names value) ≡ true
  pub stands : operand_stands (types_of m) (shown_operand m.names value) ≡ true
  pub within : operand_within m.names value ≡ true

-- and the type, by its number
pub record IsUse (m : Items) (f : Function ℕ ℕ ℕ) (u : Use ℕ ℕ ℕ) : Type 0 where
  pub operand : UseSound m f (given_type (shown_given m.names u.of)) u.value
  pub type : given_within m.names u.of ≡ true

each_use : (m : Items) (f : Function ℕ ℕ ℕ) (us : List (Use ℕ ℕ ℕ)) → list_all (λ u. operand_known (seen m) (shown_function m.names f) u.value) (map (shown_use m.names) us) ≡ true
    → list_all (use_fits (seen m) (shown_function m.names f)) (map (shown_use m.names) us) ≡ true → list_all (λ u. operand_stands (types_of m) u.value) (map (shown_use m.names) us) ≡ true
    → list_all (use_within m.names) us ≡ true → AllByRecursion (IsUse m f) us
each_use m f [] known fits stands within = tt
each_use m f (u ∷ us) known fits stands within =
    let k = and_both _ _ known in
    let t = and_both _ _ fits in
    let s = and_both _ _ stands in
    let w = and_both _ _ within in
    let v = and_both (operand_within m.names u.value) (given_within m.names u.of) w.0 in
    (record { operand = record { known = k.0; fits = t.0; stands = s.0; within = v.0 }; type = v.1 }, each_use m f us k.1 t.1 s.1 w.1)

pub sound_uses : (m : Items) (f : Function ℕ ℕ ℕ) (i : Instruction ℕ ℕ ℕ) → Sound m f i → AllByRecursion (IsUse m f) (uses i)
sound_uses m f i s =
    each_use m f (uses i)
    (subst (λ us. list_all (λ u. operand_known (seen m) (shown_function m.names f) u.value) us ≡ true) (uses_shown m.names i) (and_both _ _ (and_both _ _ (and_both _ _ s.known).0).0).0)
    (subst (λ us. list_all (use_fits (seen m) (shown_function m.names f)) us ≡ true) (uses_shown m.names i) (and_both _ _ (and_both _ _ s.types).0).0)
    (subst (λ us. list_all (λ u. operand_stands (types_of m) u.value) us ≡ true) (uses_shown m.names i) s.constants)
    (and_both _ _ (and_both _ _ (and_both _ _ (and_both _ _ (and_both _ _ (and_both _ _ (and_both _ _ s.within).0).0).0).0).0).0).1

-- ---- numbers of the table

pub record Within (t : Table) (i : Instruction ℕ ℕ ℕ) : Type 0 where
  pub targets : list_all (is_name t) (targets i) ≡ true
  pub sources : list_all (is_name t) (sources i) ≡ true
  pub memory : list_all (is_type t) (memory_types i) ≡ true
  pub casts : list_all (is_type t) (cast_types i) ≡ true
  pub called : list_all (is_type t) (called_types i) ≡ true
  pub names : list_all (is_name t) (called_names i) ≡ true

pub within_parts : (t : Table) (i : Instruction ℕ ℕ ℕ) → instruction_within t i ≡ true → Within t i
within_parts t i e =
    let a = and_both _ (list_all (is_name t) (called_names i)) e in
    let b = and_both _ (list_all (is_type t) (called_types i)) a.0 in
    let c = and_both _ (list_all (is_type t) (cast_types i)) b.0 in
    let d = and_both _ (list_all (is_type t) (memory_types i)) c.0 in
    let g = and_both _ (list_all (is_name t) (sources i)) d.0 in
    let h = and_both _ (list_all (is_name t) (targets i)) g.0 in
    record { targets = h.1; sources = g.1; memory = d.1; casts = c.1; called = b.1; names = a.1 }
