-- Indices that are spelled stay inside of structs.
use Rattle.std.proofs.Common.{◌≡◌, ℕ, zero, suc, Bool, true, false, cond, List, [], ◌∷◌, Option, Some, None, refl, sym, ap, subst, ◌∙◌}
use Rattle.std.specs.Prelude.{map, fold, nat_eq, IsSome, option_and_then}
use Rattle.pv_base.specs.declared.name.Name.{Name}
use Rattle.ir_tree.specs.declared.instruction.Argument.{Argument}
use Rattle.ir_tree.specs.declared.instruction.Operand.{Operand}
use Rattle.ir_tree.specs.declared.instruction.Operand.TheVariants as operand
use Rattle.ir_tree.specs.declared.items.NamedType.{NamedType}
use Rattle.ir_tree.specs.Layouts.{type_named, field_type, struct_fields}
use Rattle.ir_tree.specs.Trees.{TypeV, IntV, PtrV, VoidV, ArrayV, StructV, NamedV, TypesV, NoneV, MoreV, ConstantV, IntegerC, NullC, ZeroC, TextC, ArrayC, StructC, NameC, AddressC}
use Rattle.ir_text.specs.Tokens.{TokenV}
use Rattle.ir_text.specs.Repeated.{each_under}
use Rattle.ir_text.specs.Types.{Known}
use Rattle.ir_text.specs.TypeSpelled.{◌▸◌, a_mark}
use Rattle.ir_instr.specs.Addresses.{Into, Inside, opened, constant_field, field_number, field_of, inside_or_faulty, led_into, next_into}
use Rattle.ir_instr.specs.InstructionSpelled.{AField, an_index_into, an_index, some_indices}
use Rattle.ir_rules.specs.declared.given.Walk.TheVariants.{Through, Differs}
use Rattle.ir_rules.specs.Causes.{operand_index}
use Rattle.ir_rules.specs.Constants.{constant_bits}
use Rattle.ir_rules.specs.Indexing.{WalkV, field_at, field_step, step_into, advance, path, is_inside}
use Rattle.read_laws.specs.Describing.{Describes}

abbrev Index : Type 0
Index = Argument Name TypeV ConstantV

abbrev number_of : Index → Option ℕ
number_of a = operand_index a.of a.value

-- ---- fields

pub field_found : (fields : TypesV) (i : ℕ) (of : TypeV) → field_type fields i ≡ Some of → field_at fields i ≡ Through of
field_found NoneV i of e = absurd cc
field_found (MoreV type rest) zero of e = let s : type ≡ of = cc in ap Through s
field_found (MoreV type rest) (suc i) of e = field_found rest i of e

-- the number of a field, at the type of 32 bits
field_by : (b : Bool) (bits i : ℕ) → cond b (Some bits) None ≡ Some i → Some bits ≡ Some i
field_by true bits i e = e
field_by false bits i e = absurd cc

bits_are : (c : ConstantV) (i : ℕ) → constant_field c ≡ Some i → constant_bits c ≡ Some i
bits_are (IntegerC n) i e = field_by (nat_eq n.width 32) n.bits i e
bits_are NullC i e = absurd cc
bits_are ZeroC i e = e
bits_are (TextC bytes) i e = absurd cc
bits_are (ArrayC es) i e = absurd cc
bits_are (StructC packed es) i e = absurd cc
bits_are (NameC name) i e = absurd cc
bits_are (AddressC of base es) i e = absurd cc

index_is : (value : Operand Name ConstantV) (i : ℕ) → field_number value ≡ Some i → operand_index (IntV 32) value ≡ Some i
index_is (operand.Register name) i e = absurd cc
index_is (operand.Constant c) i e = bits_are c i e

some_of : {A : Type 0} (o : Option A) → IsSome o → (a : A) × (o ≡ Some a)
some_of (Some a) h = (a, refl)
some_of None h = absurd (let e : false ≡ true = h in cc)

number_some : (fields : TypesV) (o : Option ℕ) (of : TypeV) → option_and_then (field_type fields) o ≡ Some of → (i : ℕ) × (o ≡ Some i) × (field_type fields i ≡ Some of)
number_some fields None of e = absurd cc
number_some fields (Some i) of e = (i, refl, e)

field_leads : (packed : Bool) (fields : TypesV) (value : Operand Name ConstantV) (of : TypeV) → field_of fields value ≡ Some of → field_step (Some (packed, fields)) (operand_index (IntV 32) value) ≡ Through of
field_leads packed fields value of e =
    let n = number_some fields (field_number value) of e in
    ap (field_step (Some (packed, fields))) (index_is value n.0 n.1) ∙ field_found fields n.0 of n.2

-- ---- walks

module _ (types : List (NamedType Name TypeV)) where
  pub differs_stays : (ns : List (Option ℕ)) → is_inside (fold (advance types) Differs ns) ≡ true
  differs_stays [] = refl
  differs_stays (n ∷ ns) = differs_stays ns

  module _ (known : Known) (describes : Describes known types) where
    abbrev Rest : TypeV → List Index → List TokenV → Type 0
    Rest of = each_under (λ into a. a_mark 44 ▸ an_index known into a) (next_into known) (Inside of)

    abbrev Walks : TypeV → List Index → Type 0
    Walks of all = is_inside (fold (advance types) (Through of) (map number_of all)) ≡ true

    -- what follows an index, wherever it leads
    abbrev Further : Into → List Index → Type 0
    Further into all = (us : List TokenV) → each_under (λ i a. a_mark 44 ▸ an_index known i a) (next_into known) into all us → (of : TypeV) → into ≡ Inside of → Walks of all

    struct_walks : (packed : Bool) (fields : TypesV) (a : Index) (all : List Index) (ws us : List TokenV) (w : WalkV) → AField known fields a ws → w ≡ field_step (Some (packed, fields)) (number_of a)
        → Further (led_into (Some (StructV packed fields)) a.value) all → each_under (λ i b. a_mark 44 ▸ an_index known i b) (next_into known) (led_into (Some (StructV packed fields)) a.value) all us
        → is_inside (fold (advance types) w (map number_of all)) ≡ true
    struct_walks packed fields a all ws us w s is further behind =
        let t = some_of (field_of fields a.value) s.names in
        let leads : w ≡ Through t.0 = is ∙ ap (λ (of : TypeV). field_step (Some (packed, fields)) (operand_index of a.value)) s.of ∙ field_leads packed fields a.value t.0 t.1 in
        subst (λ (x : WalkV). is_inside (fold (advance types) x (map number_of all)) ≡ true) (sym leads) (further us behind t.0 (ap inside_or_faulty t.1))

    named_walks : (o : Option TypeV) (a : Index) (all : List Index) (ws us : List TokenV) (w : WalkV) → an_index_into known o a ws → w ≡ field_step (option_and_then struct_fields o) (number_of a)
        → Further (led_into o a.value) all → each_under (λ i b. a_mark 44 ▸ an_index known i b) (next_into known) (led_into o a.value) all us → is_inside (fold (advance types) w (map number_of all)) ≡ true
    named_walks None a all ws us w s is further behind = subst (λ (x : WalkV). is_inside (fold (advance types) x (map number_of all)) ≡ true) (sym is) (differs_stays (map number_of all))
    named_walks (Some (ArrayV n of)) a all ws us w s is further behind = subst (λ (x : WalkV). is_inside (fold (advance types) x (map number_of all)) ≡ true) (sym is) (differs_stays (map number_of all))
    named_walks (Some (StructV packed fields)) a all ws us w s is further behind = struct_walks packed fields a all ws us w s is further behind
    named_walks (Some (IntV n)) a all ws us w s is further behind = absurd s
    named_walks (Some PtrV) a all ws us w s is further behind = absurd s
    named_walks (Some VoidV) a all ws us w s is further behind = absurd s
    named_walks (Some (NamedV name)) a all ws us w s is further behind = absurd s

    step_walks : (of : TypeV) (a : Index) (all : List Index) (ws us : List TokenV) → an_index_into known (opened known of) a ws → Further (led_into (opened known of) a.value) all
        → each_under (λ i b. a_mark 44 ▸ an_index known i b) (next_into known) (led_into (opened known of) a.value) all us → is_inside (fold (advance types) (step_into types of (number_of a)) (map number_of all)) ≡ true
    unfolding step_into
    step_walks (IntV w) a all ws us s further behind = absurd s
    step_walks PtrV a all ws us s further behind = absurd s
    step_walks VoidV a all ws us s further behind = absurd s
    step_walks (ArrayV n of) a all ws us s further behind = further us behind of refl
    step_walks (StructV packed fields) a all ws us s further behind = struct_walks packed fields a all ws us (field_step (Some (packed, fields)) (number_of a)) s refl further behind
    step_walks (NamedV name) a all ws us s further behind =
        named_walks (option_and_then (λ b. b.of) (known name)) a all ws us (field_step (option_and_then struct_fields (type_named types name)) (number_of a)) s
        (ap (λ (o : Option TypeV). field_step (option_and_then struct_fields o) (number_of a)) (sym (describes.bodies name))) further behind

    into_walks : (into : Into) (of : TypeV) (all : List Index) (ws : List TokenV) → into ≡ Inside of → each_under (λ i a. a_mark 44 ▸ an_index known i a) (next_into known) into all ws → Walks of all
    into_walks into of [] ws e s = refl
    into_walks into of (a ∷ all) ws e s =
        let b = subst (λ (i : Into). each_under (λ j x. a_mark 44 ▸ an_index known j x) (next_into known) i (a ∷ all) ws) e s in
        step_walks of a all b.first_spells.rest b.rest b.first_spells.rest_spells (λ us behind type is. into_walks (led_into (opened known of) a.value) type all us is behind) b.rest_spells

    -- the indices of an address
    pub indices_walk : (of : TypeV) (all : List Index) (ws : List TokenV) → some_indices known of all ws → is_inside (path types of (map number_of all)) ≡ true
    indices_walk of [] ws s = absurd s
    indices_walk of (first ∷ others) ws s = into_walks (Inside of) of others s.rest_spells.rest refl s.rest_spells.rest_spells
