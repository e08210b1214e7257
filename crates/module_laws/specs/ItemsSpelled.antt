-- How the items of a module's text are spelled.
use Rattle.std.specs.Prelude.{◌≡◌, ◌+◌, ℕ, true, false, fold, List, [], codes}
use Rattle.std.proofs.Common.{◌⊎◌}
use Rattle.pv_base.specs.declared.name.Name.{Name}
use Rattle.ir_tree.specs.declared.items.NamedType.{NamedType}
use Rattle.ir_tree.specs.declared.items.Global.{Global}
use Rattle.ir_tree.specs.declared.items.Function.{Function}
use Rattle.ir_tree.specs.declared.items.Block.{Block}
use Rattle.ir_tree.specs.Trees.{TypeV, ConstantV}
use Rattle.ir_text.specs.Tokens.{TokenV}
use Rattle.ir_text.specs.Choice.{Opens}
use Rattle.ir_text.specs.Constants.{width_of}
use Rattle.ir_text.specs.MemoryTypes.{a_memory_type}
use Rattle.ir_text.specs.Operands.{a_constant}
use Rattle.ir_text.specs.Passed.{some_words, stops}
use Rattle.ir_text.specs.Repeated.{each_under}
use Rattle.ir_text.specs.Spelled.{one_token}
use Rattle.ir_text.specs.Tails.{some_notes, some_tails}
use Rattle.ir_text.specs.Types.{Known}
use Rattle.ir_text.specs.TypeSpelled.{◌▸◌, a_mark, a_word, a_type}
use Rattle.ir_instr.specs.Words.{worded}
use Rattle.instr_laws.specs.Made.{Made}
use Rattle.ir_grammar.specs.Headers.{Header, scope_of, new_global, new_local}
use Rattle.ir_grammar.specs.Modules.{Item, TypeItem, GlobalItem, FunctionItem, PassedItem, SoFar, nothing_so_far, with_item, ModuleV}
use Rattle.ir_grammar.specs.Items.{begins_body, global_words, before_global, size_of, fits_globals, item_words, declared_function}
use Rattle.module_laws.specs.Heads.{a_head}
use Rattle.module_laws.specs.Blocks.{a_body}
use Rattle.module_laws.specs.Skipped.{up_to_string, some_attributes, some_metadata, a_comdat, some_attached}

-- { T, .. } or <{ T, .. }>
abbrev pub a_named_body : Known → TypeV → List TokenV → Type 0
a_named_body known of ws = a_type known of ws × Opens begins_body ws

-- %name = type BODY, where these names of types were given before
abbrev pub a_named_type : Known → List Name → NamedType Name TypeV → List TokenV → Type 0
a_named_type known types t = one_token (new_local types) t.name ▸ a_mark 61 ▸ a_word (codes "type") ▸ a_named_body known t.of

-- a type with a layout, with which so many bytes of globals are not too many
abbrev pub a_global_type : Known → ℕ → TypeV → List TokenV → Type 0
a_global_type known size of ws = a_memory_type known of ws × (fits_globals (size + size_of known of) ≡ true)

-- @name = WORDS global|constant T INIT, and what is passed over behind it
abbrev pub a_global : Known → List Name → ℕ → Global Name TypeV ConstantV → List TokenV → Type 0
a_global known values size g =
    one_token (new_global values) g.name ▸ a_mark 61 ▸ some_words before_global tt ▸ one_token (worded global_words) g.constant
    ▸ a_global_type known size g.of ▸ a_constant known (width_of g.of) g.init ▸ some_tails tt

-- behind `declare`
abbrev pub a_declaration : List Name → Function Name TypeV ConstantV → List TokenV → Type 0
a_declaration values = Made declared_function (λ h. some_notes tt ▸ a_head true values h ▸ some_words (stops item_words false) tt ▸ some_attached)

-- a function of its head and its blocks
abbrev pub defined_function : Header × List (Block Name TypeV ConstantV) → Function Name TypeV ConstantV
defined_function p = record { name = p.0.name; result = p.0.result; params = p.0.params.params; variadic = p.0.params.variadic; blocks = p.1; declared = false }

-- behind `define`
abbrev pub a_definition : Known → List Name → Function Name TypeV ConstantV → List TokenV → Type 0
a_definition known values = Made defined_function (λ p. a_head false values p.0 ▸ some_words (stops [] false) tt ▸ some_notes tt ▸ a_mark 123 ▸ a_body known (scope_of p.0.params) p.1)

-- an item that is passed over
abbrev pub a_passed_item : List TokenV → Type 0
a_passed_item ws =
    ((a_word (codes "source_filename") ▸ up_to_string) ws ⊎ (a_word (codes "target") ▸ up_to_string) ws) ⊎ ((a_word (codes "attributes") ▸ some_attributes) ws ⊎ (some_metadata ws ⊎ a_comdat ws))

module _ (known : Known) (s : SoFar) where
  -- an item behind those so far
  abbrev pub an_item : Item → List TokenV → Type 0
  an_item (TypeItem t) ws = a_named_type known s.types t ws
  an_item (GlobalItem g size) ws = a_global known s.values s.size g ws × (size_of known g.of ≡ size)
  an_item (FunctionItem f) ws = (a_word (codes "declare") ▸ a_declaration s.values f) ws ⊎ (a_word (codes "define") ▸ a_definition known s.values f) ws
  an_item PassedItem ws = a_passed_item ws

-- all items
abbrev pub some_items : Known → List Item → List TokenV → Type 0
some_items known = each_under (an_item known) with_item nothing_so_far

-- the module of these named types and all items
abbrev pub module_of : List (NamedType Name TypeV) → List Item → ModuleV
module_of types all = record (fold with_item nothing_so_far all).module_so_far { types = types }

-- a module of these named types is spelled by the tokens of its items
abbrev pub a_module : List (NamedType Name TypeV) → Known → ModuleV → List TokenV → Type 0
a_module types known = Made (module_of types) (some_items known)
