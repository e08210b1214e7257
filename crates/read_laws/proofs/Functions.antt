-- What reading a function keeps.
use Rattle.std.proofs.Common.{◌≡◌, Bool, true, false, List, [], ◌∷◌, ◌++◌, Option, Some, None, refl, sym, ap, ◌∙◌, map, arith}
use Rattle.std.specs.Prelude.{◌^◌, fold, filter_map, option_map, flat_map, ◌&&◌, not}
use Rattle.std.specs.List.{list_all, cons_option}
use Rattle.std.proofs.lemmas.List.{map-append, append-nil}
use Rattle.pv_base.specs.declared.name.Name.{Name}
use Rattle.ir_tree.specs.declared.instruction.Instruction.TheVariants as instruction
use Rattle.ir_tree.specs.declared.items.NamedType.{NamedType}
use Rattle.ir_tree.specs.declared.items.Param.{Param}
use Rattle.ir_tree.specs.Trees.{TypeV}
use Rattle.ir_text.specs.Tokens.{TokenV}
use Rattle.ir_text.specs.Leaves.{mark_at}
use Rattle.ir_text.specs.Passed.{words_at, stops}
use Rattle.ir_text.specs.Tails.{notes_at}
use Rattle.ir_text.specs.Types.{Known}
use Rattle.ir_instr.specs.Results.{result_of}
use Rattle.ir_grammar.specs.Scopes.{no_scope, after_param, after_block}
use Rattle.ir_grammar.specs.Headers.{Header, header_at, scope_of}
use Rattle.ir_grammar.specs.Bodies.{body_at}
use Rattle.ir_grammar.specs.Items.{words_behind, declared_function, declaration_at, definition_at}
use Rattle.ir_grammar.specs.PassedItems.{attached_at}
use Rattle.ir_rules.specs.declared.given.Defined.{Defined}
use Rattle.ir_rules.specs.declared.given.Given.TheVariants.{Written}
use Rattle.ir_rules.specs.Defining.{argument_of, defined_in, defined}
use Rattle.ir_rules.specs.Forms.{result_of as defined_by}
use Rattle.ir_rules.specs.Reading.{names_differ, name_stands}
use Rattle.ir_rules.specs.Seen.{InstructionV, BlockV, FunctionV}
use Rattle.read_laws.specs.Describing.{Describes}
use Rattle.read_laws.specs.Functions.{FunctionStands, DeclarationsStand, DefinitionsStand}
use Rattle.read_laws.proofs.Heads.{HeaderIs, header_is}
use Rattle.read_laws.proofs.Blocks.{body_is}
use Rattle.read_laws.proofs.Numbers.{params_next, blocks_next, sizes_are, scope_below}
use Rattle.read_laws.proofs.Steps.{Gives, gives, then}

-- ---- what a function defines, by name

abbrev DefinedV : Type 0
DefinedV = Defined Name TypeV

abbrev name_of : DefinedV → Name
name_of d = d.name

cons_named : (o : Option DefinedV) (all : List DefinedV) → map name_of (cons_option o all) ≡ cons_option (option_map name_of o) (map name_of all)
cons_named None all = refl
cons_named (Some d) all = refl

param_named : (o : Option Name) (of : TypeV) → option_map name_of (option_map (λ (name : Name). record { name = name; of = Some (Written of) }) o) ≡ o
param_named None of = refl
param_named (Some name) of = refl

params_named : (params : List (Param Name TypeV)) → map name_of (filter_map argument_of params) ≡ filter_map (λ p. p.name) params
params_named [] = refl
params_named (p ∷ params) = cons_named (argument_of p) (filter_map argument_of params) ∙ rw (param_named p.name p.of, params_named params) refl

result_named : (i : InstructionV) → option_map name_of (defined_by i) ≡ result_of i
unfolding defined_by
result_named (instruction.Binary to op flags of left right) = refl
result_named (instruction.Cast to op flags of value target) = refl
result_named (instruction.Freeze to of value) = refl
result_named (instruction.Compare to pred of left right) = refl
result_named (instruction.Select to condition of on_true on_false) = refl
result_named (instruction.Phi to of arms) = refl
result_named (instruction.Alloca to of count) = refl
result_named (instruction.Load to of pointer) = refl
result_named (instruction.Store of value pointer) = refl
result_named (instruction.Address to inbounds of base indices) = refl
result_named (instruction.Call None of variadic what arguments) = refl
result_named (instruction.Call (Some to) of variadic what arguments) = refl
result_named (instruction.Return value) = refl
result_named (instruction.Jump target) = refl
result_named (instruction.Branch condition on_true on_false) = refl
result_named (instruction.Switch of value default cases) = refl
result_named instruction.Unreachable = refl

results_named : (all : List InstructionV) → map name_of (filter_map defined_by all) ≡ filter_map result_of all
results_named [] = refl
results_named (i ∷ all) = cons_named (defined_by i) (filter_map defined_by all) ∙ rw (result_named i, results_named all) refl

blocks_named : (blocks : List BlockV) → map name_of (flat_map defined_in blocks) ≡ flat_map (λ b. b.label ∷ filter_map result_of b.instructions) blocks
blocks_named [] = refl
blocks_named (b ∷ blocks) =
    map-append name_of (defined_in b) (flat_map defined_in blocks)
    ∙ ap (λ (l : List Name). (b.label ∷ l) ++ map name_of (flat_map defined_in blocks)) (results_named b.instructions)
    ∙ ap (λ (l : List Name). (b.label ∷ filter_map result_of b.instructions) ++ l) (blocks_named blocks)

defined_named : (f : FunctionV) → map name_of (defined f) ≡ filter_map (λ p. p.name) f.params ++ flat_map (λ b. b.label ∷ filter_map result_of b.instructions) f.blocks
defined_named f =
    map-append name_of (filter_map argument_of f.params) (flat_map defined_in f.blocks)
    ∙ ap (λ (l : List Name). l ++ map name_of (flat_map defined_in f.blocks)) (params_named f.params)
    ∙ ap (λ (l : List Name). filter_map (λ p. p.name) f.params ++ l) (blocks_named f.blocks)

-- ---- functions

both : {a b : Bool} → a ≡ true → b ≡ true → (a && b) ≡ true
both h g = rw (h, g) refl

abbrev FunctionGiven : List (NamedType Name TypeV) → FunctionV × List TokenV → Type 0
FunctionGiven types x = FunctionStands types x.0

declared_stands : (types : List (NamedType Name TypeV)) (values : List Name) (h : Header) → HeaderIs true values h → FunctionStands types (declared_function h)
declared_stands types values h is = record {
  answer = is.result;
  params = is.params.types;
  names = ap names_differ (defined_named (declared_function h) ∙ append-nil (filter_map (λ p. p.name) h.params.params) ∙ sym is.params.defines.all) ∙ is.params.defines.fresh.differ;
  form = refl;
  numbers = λ most. ap (list_all name_stands) (defined_named (declared_function h) ∙ append-nil (filter_map (λ p. p.name) h.params.params) ∙ sym is.params.defines.all)
      ∙ scope_below (fold after_param no_scope h.params.params) (2 ^ 63) is.params.defines.fresh (let next = params_next no_scope h.params.params in omega arith);
  instructions = tt;
}

declaration_is : (types : List (NamedType Name TypeV)) (values : List Name) (ts : List TokenV) → Gives (FunctionGiven types) (declaration_at values ts)
declaration_is types values ts =
    then (FunctionGiven types) (notes_at ts) _ (λ notes a. then (FunctionGiven types) (header_at true values notes.1) _ (λ header b. then (FunctionGiven types) (words_behind header.1) _ (λ words c. then (FunctionGiven types) (attached_at words.1) _ (λ attached d.
    gives (FunctionGiven types) _ (declared_stands types values header.0 ((header_is true values notes.1).holds header b))))))

pub declarations_stand : DeclarationsStand
declarations_stand types values ts rest f e = (declaration_is types values ts).holds (f, rest) e

definition_is : (known : Known) (types : List (NamedType Name TypeV)) (values : List Name) (ts : List TokenV) → Describes known types → Gives (FunctionGiven types) (definition_at known values ts)
definition_is known types values ts describes =
    then (FunctionGiven types) (header_at false values ts) _ (λ header a.
    let head = (header_is false values ts).holds header a in
    then (FunctionGiven types) (words_at (stops [] false) header.1) _ (λ words b. then (FunctionGiven types) (notes_at words.1) _ (λ notes c. then (FunctionGiven types) (mark_at 123 notes.1) _ (λ brace d.
    then (FunctionGiven types) (body_at known (scope_of header.0.params) brace.1) _ (λ blocks g.
    let body = (body_is known types describes (scope_of header.0.params) brace.1 head.params.defines.fresh).holds blocks g in
    gives (FunctionGiven types) _ (record {
      answer = head.result;
      params = head.params.types;
      names =
          ap names_differ (defined_named (record { name = header.0.name; result = header.0.result; params = header.0.params.params; variadic = header.0.params.variadic; blocks = blocks.0; declared = false })
          ∙ ap (λ (l : List Name). l ++ flat_map (λ b. b.label ∷ filter_map result_of b.instructions) blocks.0) (sym head.params.defines.all) ∙ sym body.defines.all)
          ∙ body.defines.fresh.differ;
      numbers = λ most.
          ap (list_all name_stands) (defined_named (record { name = header.0.name; result = header.0.result; params = header.0.params.params; variadic = header.0.params.variadic; blocks = blocks.0; declared = false })
          ∙ ap (λ (l : List Name). l ++ flat_map (λ b. b.label ∷ filter_map result_of b.instructions) blocks.0) (sym head.params.defines.all) ∙ sym body.defines.all)
          ∙ scope_below (fold after_block (scope_of header.0.params) blocks.0) (2 ^ 63) body.defines.fresh (
          let first = params_next no_scope header.0.params.params in
          let next = blocks_next (scope_of header.0.params) blocks.0 in
          let sizes = sizes_are blocks.0 in
          omega arith);
      form = both (ap not (head.params.fixed refl)) (head.params.named refl);
      instructions = body.read;
    }))))))

pub definitions_stand : DefinitionsStand
definitions_stand known types values ts rest f describes e = (definition_is known types values ts describes).holds (f, rest) e
