-- How many tokens items take at least.
use Rattle.std.proofs.Common.{◌≡◌, ℕ, zero, suc, ◌+◌, ◌≤◌, ◌<◌, length, arith, Bool, true, false, List, [], ◌∷◌, Ok, refl}
use Rattle.std.specs.Prelude.{sum_by, fold, codes, nat_lt, ◌&&◌, ◌^◌}
use Rattle.std.specs.List.{list_all}
use Rattle.std.proofs.lemmas.Bool.Decides.{nat_tests}
use Rattle.std.proofs.lemmas.List.{length-append}
use Rattle.std.proofs.lemmas.List.Sums.{sum_by-cons, sum_by_push}
use Rattle.pv_base.specs.declared.name.Name.{Name}
use Rattle.ir_lex.specs.declared.token.Cause.TheVariants as causes
use Rattle.ir_tree.specs.declared.items.Global.{Global}
use Rattle.ir_tree.specs.declared.items.NamedType.{NamedType}
use Rattle.ir_tree.specs.declared.items.Param.{Param}
use Rattle.ir_tree.specs.Trees.{TypeV, ConstantV}
use Rattle.ir_text.specs.declared.fault.Fault.TheVariants.{At, Ended}
use Rattle.ir_text.specs.Tokens.{TokenV, is_word, blamed}
use Rattle.ir_text.specs.Reading.{Outcome, token_by}
use Rattle.ir_text.specs.Leaves.{mark, mark_at, word, word_at}
use Rattle.ir_text.specs.Passed.{words_at, stops, group_from, some_integer, some_word}
use Rattle.ir_text.specs.Tails.{notes_at, tails_at}
use Rattle.ir_text.specs.Repeated.{repeated_under}
use Rattle.ir_text.specs.Types.{Known, register_type, result_type, type_at}
use Rattle.ir_text.specs.Lawful.{anything}
use Rattle.ir_text.proofs.Agreeing.{keeps}
use Rattle.ir_text.proofs.Groups.{group_laws}
use Rattle.ir_text.proofs.TypeFuel.{type_laws}
use Rattle.ir_text.proofs.ConstantFuel.{constant_laws}
use Rattle.ir_text.proofs.PassedLaws.{words_laws}
use Rattle.ir_text.proofs.TailLaws.{notes_laws, tails_laws}
use Rattle.ir_instr.specs.Instructions.{defined_name}
use Rattle.ir_instr.proofs.Consuming.{instruction_less}
use Rattle.ir_grammar.specs.Scopes.{Scope, defining, after_instruction, after_block, after_param, no_scope}
use Rattle.ir_grammar.specs.Headers.{Params, Header, new_local, param_name_at, param_at, points_by, entries_to, entries_at, params_at, new_global, header_at, scope_of}
use Rattle.ir_grammar.specs.Bodies.{new_label, is_label, in_block, entry_label_at, step_at, instructions_at, block_behind, block_at, entry_at, body_at}
use Rattle.ir_grammar.specs.Items.{named_body_at, named_type_at, global_type_at, global_at, declaration_at, definition_at, item_words, words_behind, passing, type_item_at, global_item_at, declaration_item_at, definition_item_at, worded_item_at, marked_item_at, item_at, any_token, before_global, global_words}
use Rattle.ir_grammar.specs.Modules.{Item, TypeItem, GlobalItem, FunctionItem, PassedItem, SoFar, nothing_so_far, with_item}
use Rattle.ir_grammar.specs.PassedItems.{to_string, to_group, equals_group, attributes_at, word_or_number, metadata_at, comdat_name, comdat_at, note_end, item_end, attached_end, attached_one, attached_to, attached_at}
use Rattle.ir_rules.specs.Seen.{InstructionV, BlockV, FunctionV}
use Rattle.instr_laws.proofs.MemoryLaws.{memory_type_laws}
use Rattle.ir_text.specs.Constants.{width_of}
use Rattle.ir_text.specs.MemoryTypes.{memory_type_at}
use Rattle.ir_text.specs.Operands.{constant_at}
use Rattle.ir_instr.specs.Words.{worded}
use Rattle.read_laws.specs.Modules.{AllItemsAreFew}
use Rattle.read_laws.proofs.Numbers.{block_size, sizes_are}
use Rattle.ir_rules.specs.Spots.{instruction_count}
use Rattle.read_laws.proofs.Steps.{Gives, gives, faulty, then, either, token_less, few_read}

-- ---- heads

-- no more than so many are left
abbrev Left : {A : Type 0} → ℕ → A × List TokenV → Type 0
Left n x = length x.1 ≤ n

words_keep : (stop : TokenV → Bool) (ts : List TokenV) (x : Unit {0} × List TokenV) → words_at stop ts ≡ Ok x → length x.1 ≤ length ts
words_keep stop ts x e = keeps 0 _ (words_at stop) _ (words_laws stop 0) ts x e

notes_keep : (ts : List TokenV) (x : Unit {0} × List TokenV) → notes_at ts ≡ Ok x → length x.1 ≤ length ts
notes_keep ts x e = keeps 0 _ notes_at _ (notes_laws 0) ts x e

name_left : (declared : Bool) (scope : Scope) (n : ℕ) (ts : List TokenV) → length ts ≤ n → Gives (Left n) (param_name_at declared scope ts)
name_left declared scope n ts few =
    either (Left n) _ _ _ (then (Left n) (token_by (defined_name scope.next scope.defined) ts) _ (λ x e. gives (Left n) _ (let less = token_less (defined_name scope.next scope.defined) ts x e in omega arith)))
    (gives (Left n) _ few)

abbrev ParamLeft : ℕ → Param Name TypeV × List TokenV → Type 0
ParamLeft n x = 1 + length x.1 ≤ n

param_left : (declared : Bool) (scope : Scope) (n : ℕ) (ts : List TokenV) → length ts ≤ n → Gives (ParamLeft n) (param_at declared scope ts)
param_left declared scope n ts few =
    then (ParamLeft n) (token_by register_type ts) _ (λ of a. then (ParamLeft n) (words_at (stops [] false) of.1) _ (λ passed b. then (ParamLeft n) (param_name_at declared scope passed.1) _ (λ name c. gives (ParamLeft n) _ (
    let one = token_less register_type ts of a in
    let two = words_keep (stops [] false) of.1 passed b in
    let three = (name_left declared scope (length passed.1) passed.1 (omega arith)).holds name c in
    omega arith))))

-- each parameter takes a token
abbrev ParamsLeft : ℕ → Params × List TokenV → Type 0
ParamsLeft n x = length x.0.params + length x.1 ≤ n

entries_left : (declared : Bool) (k : ℕ) (scope : Scope) (n : ℕ) (ts : List TokenV) → length ts ≤ n → Gives (ParamsLeft n) (entries_to declared k scope ts)
unfolding entries_to
entries_left declared zero scope n ts few = faulty (ParamsLeft n) Ended
entries_left declared (suc k) scope n ts few =
    either (ParamsLeft n) _ _ _ (then (ParamsLeft n) (token_by (points_by declared) ts) _ (λ x e. gives (ParamsLeft n) _ (let less = token_less (points_by declared) ts x e in omega arith)))
    (then (ParamsLeft n) (param_at declared scope ts) _ (λ p a.
    let one = (param_left declared scope n ts few).holds p a in
    either (ParamsLeft n) _ _ _
    (then (ParamsLeft n) (mark_at 44 p.1) _ (λ comma b. then (ParamsLeft n) (entries_to declared k (after_param scope p.0) comma.1) _ (λ others c. gives (ParamsLeft n) _ (
    let two = token_less (mark 44) p.1 comma b in
    let three = (entries_left declared k (after_param scope p.0) (length comma.1) comma.1 (omega arith)).holds others c in
    omega arith))))
    (gives (ParamsLeft n) _ (omega arith))))

params_left : (declared : Bool) (n : ℕ) (ts : List TokenV) → length ts ≤ n → Gives (ParamsLeft n) (params_at declared ts)
params_left declared n ts few =
    either (ParamsLeft n) _ _ _ (then (ParamsLeft n) (mark_at 41 ts) _ (λ close a. gives (ParamsLeft n) _ (let less = token_less (mark 41) ts close a in omega arith)))
    (then (ParamsLeft n) (entries_at declared ts) _ (λ all a. then (ParamsLeft n) (mark_at 41 all.1) _ (λ close b. gives (ParamsLeft n) _ (
    let one = (entries_left declared (length ts) no_scope n ts few).holds all a in
    let two = token_less (mark 41) all.1 close b in
    omega arith))))

abbrev HeaderLeft : ℕ → Header × List TokenV → Type 0
HeaderLeft n x = length x.0.params.params + length x.1 ≤ n

header_left : (declared : Bool) (values : List Name) (n : ℕ) (ts : List TokenV) → length ts ≤ n → Gives (HeaderLeft n) (header_at declared values ts)
header_left declared values n ts few =
    then (HeaderLeft n) (words_at (stops [] true) ts) _ (λ words a. then (HeaderLeft n) (token_by result_type words.1) _ (λ result b. then (HeaderLeft n) (token_by (new_global values) result.1) _ (λ name c. then (HeaderLeft n) (mark_at 40 name.1) _ (λ parenthesis d.
    then (HeaderLeft n) (params_at declared parenthesis.1) _ (λ params e. gives (HeaderLeft n) _ (
    let one = words_keep (stops [] true) ts words a in
    let two = token_less result_type words.1 result b in
    let three = token_less (new_global values) result.1 name c in
    let four = token_less (mark 40) name.1 parenthesis d in
    (params_left declared n parenthesis.1 (omega arith)).holds params e))))))

-- ---- bodies

ones : {A : Type 0} (all : List A) → sum_by (λ a. 1) all ≡ length all
ones [] = refl
ones {A} (a ∷ all) = let others = ones all in omega (arith, sum_by-cons (λ (x : A). 1) a all)

abbrev Behind : ℕ → BlockV × List TokenV → Type 0
Behind n x = length x.0.instructions + length x.1 ≤ n

abbrev Sized : ℕ → BlockV × List TokenV → Type 0
Sized n x = block_size x.0 + length x.1 ≤ n

module _ (known : Known) where
  instructions_few : (scope : Scope) (ts : List TokenV) (x : List InstructionV × List TokenV) → instructions_at known scope ts ≡ Ok x → length x.0 + length x.1 ≤ length ts
  instructions_few scope ts x e =
      let n = few_read in_block (step_at known) after_instruction (λ (i : InstructionV). 1) (λ s us y f. instruction_less known s.next s.defined us y f) scope ts x e in
      omega (arith, ones x.0)

  behind_few : (scope : Scope) (label : Name) (ts : List TokenV) → Gives (Behind (length ts)) (block_behind known scope label ts)
  behind_few scope label ts = then (Behind (length ts)) (instructions_at known (defining scope label) ts) _ (λ all e. gives (Behind (length ts)) _ (instructions_few (defining scope label) ts all e))

  block_few : (scope : Scope) (ts : List TokenV) → Gives (Sized (length ts)) (block_at known scope ts)
  block_few scope ts = then (Sized (length ts)) (token_by (new_label scope) ts) _ (λ label e. record {
    holds = λ x f.
        let less = token_less (new_label scope) ts label e in
        let behind = (behind_few scope label.0 label.1).holds x f in
        omega arith;
  })

  label_few : (scope : Scope) (ts : List TokenV) → Gives (Left (length ts)) (entry_label_at scope ts)
  label_few scope ts =
      either (Left (length ts)) _ _ _ (record { holds = λ x e. let less = token_less (new_label scope) ts x e in omega arith })
      (gives (Left (length ts)) _ (omega arith))

  entry_few : (scope : Scope) (ts : List TokenV) → Gives (Behind (length ts)) (entry_at known scope ts)
  entry_few scope ts = then (Behind (length ts)) (entry_label_at scope ts) _ (λ label e. record {
    holds = λ x f.
        let less = (label_few scope ts).holds label e in
        let behind = (behind_few scope label.0 label.1).holds x f in
        omega arith;
  })

  abbrev AllSized : ℕ → List BlockV × List TokenV → Type 0
  AllSized n x = sum_by block_size x.0 + length x.1 ≤ n

  -- the closing brace is counted for the first block
  body_few : (scope : Scope) (ts : List TokenV) → Gives (AllSized (length ts)) (body_at known scope ts)
  body_few scope ts =
      then (AllSized (length ts)) (entry_at known scope ts) _ (λ entry e. then (AllSized (length ts)) (repeated_under is_label (block_at known) after_block (after_block scope entry.0) entry.1) _ (λ others f.
      then (AllSized (length ts)) (mark_at 125 others.1) _ (λ close g. gives (AllSized (length ts)) _ (
      let one = (entry_few scope ts).holds entry e in
      let more = few_read is_label (block_at known) after_block block_size (λ s us y h. (block_few s us).holds y h) (after_block scope entry.0) entry.1 others f in
      let last = token_less (mark 125) others.1 close g in
      omega (arith, sum_by-cons block_size entry.0 others.0)))))

  abbrev FunctionSized : ℕ → FunctionV × List TokenV → Type 0
  FunctionSized n x = (length x.0.params + sum_by block_size x.0.blocks) + length x.1 ≤ n

  pub definition_few : (values : List Name) (ts : List TokenV) → Gives (FunctionSized (length ts)) (definition_at known values ts)
  definition_few values ts =
      let n : ℕ = length ts in
      then (FunctionSized n) (header_at false values ts) _ (λ header a. then (FunctionSized n) (words_at (stops [] false) header.1) _ (λ words b. then (FunctionSized n) (notes_at words.1) _ (λ notes c. then (FunctionSized n) (mark_at 123 notes.1) _ (λ brace d.
      then (FunctionSized n) (body_at known (scope_of header.0.params) brace.1) _ (λ blocks e. gives (FunctionSized n) _ (
      let one = (header_left false values n ts (omega arith)).holds header a in
      let two = words_keep (stops [] false) header.1 words b in
      let three = notes_keep words.1 notes c in
      let four = token_less (mark 123) notes.1 brace d in
      let five = (body_few (scope_of header.0.params) brace.1).holds blocks e in
      omega arith))))))

-- ---- what is passed over

module _ (n : ℕ) where
  abbrev Fewer : {A : Type 0} → Outcome A → Type 0
  Fewer o = Gives (Left n) o

  string_left : (ts : List TokenV) → length ts ≤ n → Fewer (to_string ts)
  unfolding to_string
  string_left [] few = faulty (Left n) Ended
  string_left (t ∷ rest) few = either (Left n) _ _ _ (gives (Left n) _ (omega arith)) (string_left rest (omega arith))

  closing_left : (depth : ℕ) (ts : List TokenV) → length ts ≤ n → Fewer (group_from depth ts)
  closing_left depth ts few = record { holds = λ x e. let less = keeps 0 anything (group_from depth) _ (group_laws 0 depth) ts x e in omega arith }

  group_left : (ts : List TokenV) → length ts ≤ n → Fewer (to_group ts)
  unfolding to_group
  group_left [] few = faulty (Left n) Ended
  group_left (t ∷ rest) few = either (Left n) _ _ _ (closing_left 1 rest (omega arith)) (group_left rest (omega arith))

  equals_left : (ts : List TokenV) → length ts ≤ n → Fewer (equals_group ts)
  equals_left ts few = then (Left n) (mark_at 61 ts) _ (λ x a. let one = token_less (mark 61) ts x a in group_left x.1 (omega arith))

  attributes_left : (ts : List TokenV) → length ts ≤ n → Fewer (attributes_at ts)
  attributes_left ts few = then (Left n) (mark_at 35 ts) _ (λ x a. then (Left n) (token_by some_integer x.1) _ (λ y b.
      let one = token_less (mark 35) ts x a in
      let two = token_less some_integer x.1 y b in
      equals_left y.1 (omega arith)))

  metadata_left : (ts : List TokenV) → length ts ≤ n → Fewer (metadata_at ts)
  metadata_left ts few = then (Left n) (mark_at 33 ts) _ (λ x a. then (Left n) (token_by word_or_number x.1) _ (λ y b.
      let one = token_less (mark 33) ts x a in
      let two = token_less word_or_number x.1 y b in
      equals_left y.1 (omega arith)))

  comdat_left : (ts : List TokenV) → length ts ≤ n → Fewer (comdat_at ts)
  comdat_left ts few = then (Left n) (mark_at 36 ts) _ (λ x a. then (Left n) (token_by comdat_name x.1) _ (λ y b. then (Left n) (mark_at 61 y.1) _ (λ z c. then (Left n) (word_at (codes "comdat") z.1) _ (λ v d. record {
    holds = λ w e.
        let one = token_less (mark 36) ts x a in
        let two = token_less comdat_name x.1 y b in
        let three = token_less (mark 61) y.1 z c in
        let four = token_less (word (codes "comdat")) z.1 v d in
        let five = token_less some_word v.1 w e in
        omega arith;
  }))))

  note_left : (ts : List TokenV) → length ts ≤ n → Fewer (note_end ts)
  note_left ts few = then (Left n) (mark_at 33 ts) _ (λ x a. then (Left n) (token_by some_integer x.1) _ (λ y b. gives (Left n) _ (
      let one = token_less (mark 33) ts x a in
      let two = token_less some_integer x.1 y b in
      omega arith)))

  end_left : (ts : List TokenV) → length ts ≤ n → Fewer (item_end ts)
  end_left ts few = then (Left n) (equals_group ts) _ (λ x a. gives (Left n) _ ((equals_left ts few).holds x a))

  attached_end_left : (b : Bool) (ts : List TokenV) → length ts ≤ n → Fewer (attached_end b ts)
  attached_end_left true ts few = either (Left n) _ _ _ (note_left ts few) (end_left ts few)
  attached_end_left false ts few = end_left ts few

  one_left : (ts : List TokenV) → length ts ≤ n → Fewer (attached_one ts)
  one_left ts few = then (Left n) (mark_at 33 ts) _ (λ x a. then (Left n) (token_by word_or_number x.1) _ (λ y b.
      let one = token_less (mark 33) ts x a in
      let two = token_less word_or_number x.1 y b in
      attached_end_left y.0 y.1 (omega arith)))

  attached_left : (k : ℕ) (ts : List TokenV) → length ts ≤ n → Fewer (attached_to k ts)
  unfolding attached_to
  attached_left zero ts few = gives (Left n) _ few
  attached_left (suc k) ts few =
      either (Left n) _ _ _ (then (Left n) (attached_one ts) _ (λ x a.
      let one = (one_left ts few).holds x a in
      either (Left n) _ _ _ (attached_left k x.1 one) (gives (Left n) _ one))) (gives (Left n) _ few)

-- ---- items

pub item_size : Item → ℕ
item_size (TypeItem t) = 0
item_size (GlobalItem g size) = 1
item_size (FunctionItem f) = 1 + (length f.params + sum_by block_size f.blocks)
item_size PassedItem = 0

abbrev ItemSized : ℕ → Item × List TokenV → Type 0
ItemSized n x = item_size x.0 + length x.1 ≤ n

module _ (known : Known) (s : SoFar) where
  passed_few : (n : ℕ) (o : Outcome (Unit {0})) → Gives (Left n) o → Gives (ItemSized n) (passing o)
  unfolding item_size
  passed_few n o left = then (ItemSized n) o _ (λ x e. gives (ItemSized n) _ (let few = left.holds x e in omega arith))

  body_left : (ts : List TokenV) → Gives (Left (length ts)) (named_body_at known ts)
  unfolding named_body_at
  body_left [] = faulty (Left 0) Ended
  body_left (t ∷ rest) =
      either (Left (length (t ∷ rest))) _ _ _ (record { holds = λ x e. keeps 0 anything (type_at known) _ (type_laws known 0) (t ∷ rest) x e })
      (faulty (Left (length (t ∷ rest))) _)

  type_few : (ts : List TokenV) → Gives (ItemSized (length ts)) (type_item_at known s ts)
  unfolding item_size
  type_few ts =
      let n : ℕ = length ts in
      then (ItemSized n) (named_type_at known s.types ts) _ (λ t e. gives (ItemSized n) _ (
      let left = (then (Left {A = NamedType Name TypeV} n) (token_by (new_local s.types) ts) _ (λ name a. then (Left {A = NamedType Name TypeV} n) (mark_at 61 name.1) _ (λ equals b. then (Left {A = NamedType Name TypeV} n) (word_at (codes "type") equals.1) _ (λ w c.
      then (Left {A = NamedType Name TypeV} n) (named_body_at known w.1) _ (λ of d. gives (Left {A = NamedType Name TypeV} n) _ (
      let one = token_less (new_local s.types) ts name a in
      let two = token_less (mark 61) name.1 equals b in
      let three = token_less (word (codes "type")) equals.1 w c in
      let four = (body_left w.1).holds of d in
      omega arith)))))).holds t e in
      omega arith))

  memory_left : (n size : ℕ) (ts : List TokenV) → length ts ≤ n → Gives (Left n) (global_type_at known size ts)
  unfolding global_type_at
  memory_left n size [] few = faulty (Left n) Ended
  memory_left n size (t ∷ rest) few =
      then (Left n) (memory_type_at known (t ∷ rest)) _ (λ of e. either (Left n) _ _ _ (gives (Left n) _ (let less = keeps 0 anything (memory_type_at known) _ (memory_type_laws 0 known) (t ∷ rest) of e in omega arith)) (faulty (Left n) _))

  global_left : (ts : List TokenV) → Gives (λ (x : Global Name TypeV ConstantV × List TokenV). 1 + length x.1 ≤ length ts) (global_at known s.values s.size ts)
  global_left ts =
      let P = λ (x : Global Name TypeV ConstantV × List TokenV). 1 + length x.1 ≤ length ts in
      then P (token_by (new_global s.values) ts) _ (λ name a. then P (mark_at 61 name.1) _ (λ equals b. then P (words_at before_global equals.1) _ (λ words c. then P (token_by (worded global_words) words.1) _ (λ constant d.
      then P (global_type_at known s.size constant.1) _ (λ of e. then P (constant_at known (width_of of.0) of.1) _ (λ init f. then P (tails_at init.1) _ (λ passed g. gives P _ (
      let one = token_less (new_global s.values) ts name a in
      let two = token_less (mark 61) name.1 equals b in
      let three = words_keep before_global equals.1 words c in
      let four = token_less (worded global_words) words.1 constant d in
      let five = (memory_left (length constant.1) s.size constant.1 (omega arith)).holds of e in
      let six = keeps 0 anything (constant_at known (width_of of.0)) _ (constant_laws known 0 (width_of of.0)) of.1 init f in
      let seven = keeps 0 _ tails_at _ (tails_laws 0) init.1 passed g in
      omega arith))))))))

  global_few : (ts : List TokenV) → Gives (ItemSized (length ts)) (global_item_at known s ts)
  unfolding item_size
  global_few ts = then (ItemSized (length ts)) (global_at known s.values s.size ts) _ (λ g e. gives (ItemSized (length ts)) _ ((global_left ts).holds g e))

  abbrev Declared : ℕ → FunctionV × List TokenV → Type 0
  Declared n x = (1 + (length x.0.params + sum_by block_size x.0.blocks)) + length x.1 ≤ 1 + n

  declared_few : (ts : List TokenV) → Gives (Declared (length ts)) (declaration_at s.values ts)
  declared_few ts =
      let n : ℕ = length ts in
      then (Declared n) (notes_at ts) _ (λ notes a. then (Declared n) (header_at true s.values notes.1) _ (λ header b. then (Declared n) (words_behind header.1) _ (λ words c. then (Declared n) (attached_at words.1) _ (λ attached d. gives (Declared n) _ (
      let one = notes_keep ts notes a in
      let two = (header_left true s.values n notes.1 (omega arith)).holds header b in
      let three = words_keep (stops item_words false) header.1 words c in
      let four = (attached_left (length words.1) (length words.1) words.1 (omega arith)).holds attached d in
      omega arith)))))

  -- behind the word that begins it
  declaration_few : (ts : List TokenV) → Gives (ItemSized (1 + length ts)) (declaration_item_at known s ts)
  unfolding item_size
  declaration_few ts = then (ItemSized (1 + length ts)) (declaration_at s.values ts) _ (λ f e. gives (ItemSized (1 + length ts)) _ ((declared_few ts).holds f e))

  definition_item_few : (ts : List TokenV) → Gives (ItemSized (1 + length ts)) (definition_item_at known s ts)
  unfolding item_size
  definition_item_few ts = then (ItemSized (1 + length ts)) (definition_at known s.values ts) _ (λ f e. gives (ItemSized (1 + length ts)) _ (let few = (definition_few known s.values ts).holds f e in omega arith))

  worded_few : (ts : List TokenV) → Gives (ItemSized (length ts)) (worded_item_at known s ts)
  unfolding worded_item_at
  worded_few [] = faulty (ItemSized 0) Ended
  worded_few (t ∷ rest) =
      let n : ℕ = length (t ∷ rest) in
      either (ItemSized n) (is_word (codes "define") t) _ _ (record { holds = λ x e. let few = (definition_item_few rest).holds x e in omega arith })
      (either (ItemSized n) (is_word (codes "declare") t) _ _ (record { holds = λ x e. let few = (declaration_few rest).holds x e in omega arith })
      (either (ItemSized n) (is_word (codes "source_filename") t) _ _ (passed_few n (to_string rest) (string_left n rest (omega arith)))
      (either (ItemSized n) (is_word (codes "target") t) _ _ (passed_few n (to_string rest) (string_left n rest (omega arith)))
      (either (ItemSized n) (is_word (codes "attributes") t) _ _ (passed_few n (attributes_at rest) (attributes_left n rest (omega arith))) (faulty (ItemSized n) (At t.line (blamed t causes.Instruction)))))))

  marked_few : (ts : List TokenV) → Gives (ItemSized (length ts)) (marked_item_at known s ts)
  marked_few ts =
      let n : ℕ = length ts in
      either (ItemSized n) _ _ _ (passed_few n (metadata_at ts) (metadata_left n ts (omega arith))) (either (ItemSized n) _ _ _ (passed_few n (comdat_at ts) (comdat_left n ts (omega arith))) (worded_few ts))

  item_few : (ts : List TokenV) → Gives (ItemSized (length ts)) (item_at known s ts)
  item_few ts = let n : ℕ = length ts in either (ItemSized n) _ _ _ (type_few ts) (either (ItemSized n) _ _ _ (global_few ts) (marked_few ts))

-- ---- all items

abbrev function_size : FunctionV → ℕ
function_size f = 1 + (length f.params + sum_by block_size f.blocks)

abbrev total : SoFar → ℕ
total s = length s.module_so_far.globals + sum_by function_size s.module_so_far.functions

total_more : (s : SoFar) (item : Item) → total (with_item s item) ≡ total s + item_size item
unfolding item_size
total_more s (TypeItem t) = omega arith
total_more s (GlobalItem g size) = omega (arith, length-append s.module_so_far.globals (g ∷ []))
total_more s (FunctionItem f) = omega (arith, sum_by_push function_size s.module_so_far.functions f)
total_more s PassedItem = omega arith

total_all : (s : SoFar) (all : List Item) → total (fold with_item s all) ≡ total s + sum_by item_size all
total_all s [] = omega arith
total_all s (item ∷ all) = let others = total_all (with_item s item) all in omega (arith, total_more s item, sum_by-cons item_size item all)

functions_few : (fs : List FunctionV) → length fs ≤ sum_by function_size fs
functions_few [] = omega arith
functions_few (f ∷ fs) = let others = functions_few fs in omega (arith, sum_by-cons function_size f fs)

below : (a n : ℕ) → a < n → nat_lt a n ≡ true
below a n lt = grind (arith, nat_tests)

counted_by : (n : ℕ) (f : FunctionV) → function_size f < n → (nat_lt (length f.blocks) n && nat_lt (instruction_count f.blocks) n) ≡ true
counted_by n f few =
    let sizes = sizes_are f.blocks in
    let blocks = below (length f.blocks) n (omega arith) in
    let instructions = below (instruction_count f.blocks) n (omega arith) in
    rw (blocks, instructions) refl

all_counted : (n : ℕ) (fs : List FunctionV) → sum_by function_size fs < n → list_all (λ f. nat_lt (length f.blocks) n && nat_lt (instruction_count f.blocks) n) fs ≡ true
all_counted n [] few = refl
all_counted n (f ∷ fs) few =
    let sum = sum_by-cons function_size f fs in
    let here = counted_by n f (omega arith) in
    let others = all_counted n fs (omega arith) in
    rw (here, others) refl

named_by : (n : ℕ) (f : FunctionV) → function_size f < n → nat_lt (length f.params + (length f.blocks + instruction_count f.blocks)) n ≡ true
named_by n f few = let sizes = sizes_are f.blocks in below (length f.params + (length f.blocks + instruction_count f.blocks)) n (omega arith)

all_named : (n : ℕ) (fs : List FunctionV) → sum_by function_size fs < n → list_all (λ f. nat_lt (length f.params + (length f.blocks + instruction_count f.blocks)) n) fs ≡ true
all_named n [] few = refl
all_named n (f ∷ fs) few =
    let sum = sum_by-cons function_size f fs in
    let here = named_by n f (omega arith) in
    let others = all_named n fs (omega arith) in
    rw (here, others) refl

pub items_few : AllItemsAreFew
items_few known ts rest all short e =
    let sum = few_read any_token (item_at known) with_item item_size (λ s us x f. (item_few known s us).holds x f) nothing_so_far ts (all, rest) e in
    let whole = total_all nothing_so_far all in
    let m = (fold with_item nothing_so_far all).module_so_far in
    let functions = functions_few m.functions in
    record {
      globals = omega arith;
      functions = omega arith;
      counts = all_counted (2 ^ 32) m.functions (omega arith);
      names = all_named (2 ^ 32) m.functions (omega arith);
    }
