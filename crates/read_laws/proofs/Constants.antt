-- Constants that are spelled stand at each level.
use Rattle.std.proofs.Common.{◌≡◌, ℕ, Bool, true, false, cond, List, [], ◌∷◌, Option, Some, None, Result, Ok, Err, refl, sym, ap, subst, ◌∙◌, eqb-true}
use Rattle.std.specs.Prelude.{◌&&◌, nat_le, nat_eq, length, fold, is_some, option_and_then}
use Rattle.pv_base.specs.declared.name.Name.{Name}
use Rattle.ir_lex.specs.declared.token.Cause.{Cause}
use Rattle.ir_lex.specs.declared.token.Cause.TheVariants as causes
use Rattle.ir_tree.specs.declared.items.NamedType.{NamedType}
use Rattle.ir_tree.specs.Layouts.{named_layout, type_named, field_type, struct_fields}
use Rattle.ir_tree.specs.Trees.{TypeV, IntV, PtrV, VoidV, ArrayV, StructV, NamedV, TypesV, ConstantV, IntegerC, NullC, ZeroC, TextC, ArrayC, StructC, NameC, AddressC, ElementsV, NoneC, MoreC}
use Rattle.ir_text.specs.Tokens.{TokenV, is_word}
use Rattle.ir_text.specs.ConstantSpelled.{an_index, a_constant, first_index, more_indices, some_elements, more_elements}
use Rattle.ir_text.specs.Constants.{width_of, simple_constant}
use Rattle.ir_text.specs.Indices.{integer_type, of_32_bits, field_number, one_of_fields, field_by, opened, Entry, Counted, Field, Never, entered, entry_of, led_to}
use Rattle.ir_text.specs.MemoryTypes.{named_layouts, a_memory_type}
use Rattle.ir_text.specs.Spelled.{one_token}
use Rattle.ir_text.specs.Types.{Known, register_type}
use Rattle.ir_text.proofs.LaidOut.{layouts_by}
use Rattle.ir_rules.specs.declared.given.Walk.TheVariants.{Through}
use Rattle.ir_rules.specs.Constants.{constant_bits, constant_index, indices_of}
use Rattle.ir_rules.specs.Indexing.{WalkV, field_step, step_into, advance, path, is_inside}
use Rattle.ir_rules.specs.Reading.{has_layout, is_register, type_stands, constant_stands, elements_stand}
use Rattle.read_laws.specs.Describing.{Describes}
use Rattle.read_laws.proofs.Tokens.{register_stands}
use Rattle.read_laws.proofs.Paths.{field_found, differs_stays}
use Rattle.read_laws.proofs.Types.{register_type_stands, spelled_type}

-- ---- types of indices

integer_by : (t : TokenV) (b : Bool) (of : TypeV) → is_word (112 ∷ 116 ∷ 114 ∷ []) t ≡ b → cond b (Err causes.Operand) (register_type t) ≡ Ok of → is_register of ≡ true
integer_by t true of is e = absurd cc
integer_by t false of is e = register_stands t of e

integer_stands : (t : TokenV) (of : TypeV) → integer_type t ≡ Ok of → is_register of ≡ true
integer_stands t of e = integer_by t (is_word (112 ∷ 116 ∷ 114 ∷ []) t) of refl e

width_by : (b : Bool) (w : ℕ) → nat_eq (cond b w 64) 32 ≡ true → IntV w ≡ IntV 32
width_by true w e = ap IntV (eqb-true w 32 e)
width_by false w e = absurd (let h : false ≡ true = e in cc)

wide_of : (of : TypeV) → nat_eq (width_of of) 32 ≡ true → of ≡ IntV 32
wide_of (IntV w) e = width_by (nat_le 1 w && nat_le w 64) w e
wide_of PtrV e = absurd (let h : false ≡ true = e in cc)
wide_of VoidV e = absurd (let h : false ≡ true = e in cc)
wide_of (ArrayV n of) e = absurd (let h : false ≡ true = e in cc)
wide_of (StructV packed fields) e = absurd (let h : false ≡ true = e in cc)
wide_of (NamedV name) e = absurd (let h : false ≡ true = e in cc)

word_by : (type of : TypeV) (b : Bool) → nat_eq (width_of type) 32 ≡ b → cond b (Ok type) (Err causes.Operand) ≡ Ok of → of ≡ IntV 32
word_by type of true is e = let s : of ≡ type = cc in s ∙ wide_of type is
word_by type of false is e = absurd cc

word_in : (r : Result TypeV Cause) (of : TypeV) → of_32_bits r ≡ Ok of → of ≡ IntV 32
word_in (Ok type) of e = word_by type of (nat_eq (width_of type) 32) refl e
word_in (Err cause) of e = absurd cc

-- ---- the number of a field

record Names (fields : TypesV) (c : ConstantV) : Type 0 where
  number : ℕ
  of : TypeV
  is : field_number c ≡ Some number
  leads : field_type fields number ≡ Some of

names_at : (fields : TypesV) (d c : ConstantV) (i : ℕ) (o : Option TypeV) → field_number d ≡ Some i → field_type fields i ≡ o → cond (is_some o) (Ok d) (Err causes.Number) ≡ Ok c → Names fields c
names_at fields d c i None is at e = absurd cc
names_at fields d c i (Some of) is at e = let s : d ≡ c = cc in record { number = i; of = of; is = subst (λ (x : ConstantV). field_number x ≡ Some i) s is; leads = at }

names_by : (fields : TypesV) (d c : ConstantV) (o : Option ℕ) → field_number d ≡ o → one_of_fields fields d o ≡ Ok c → Names fields c
names_by fields d c None is e = absurd cc
names_by fields d c (Some i) is e = names_at fields d c i (field_type fields i) is refl e

names_in : (fields : TypesV) (r : Result ConstantV Cause) (c : ConstantV) → field_by fields r ≡ Ok c → Names fields c
names_in fields (Ok d) c e = names_by fields d c (field_number d) refl e
names_in fields (Err cause) c e = absurd cc

number_by : (b : Bool) (bits i : ℕ) → cond b (Some bits) None ≡ Some i → Some bits ≡ Some i
number_by true bits i e = e
number_by false bits i e = absurd cc

bits_are : (c : ConstantV) (i : ℕ) → field_number c ≡ Some i → constant_bits c ≡ Some i
bits_are (IntegerC n) i e = number_by (nat_eq n.width 32) n.bits i e
bits_are NullC i e = absurd cc
bits_are ZeroC i e = e
bits_are (TextC bytes) i e = absurd cc
bits_are (ArrayC es) i e = absurd cc
bits_are (StructC packed es) i e = absurd cc
bits_are (NameC name) i e = absurd cc
bits_are (AddressC of base es) i e = absurd cc

leads_to : (packed : Bool) (fields : TypesV) (t : TypeV) (c : ConstantV) → t ≡ IntV 32 → (n : Names fields c) → field_step (Some (packed, fields)) (constant_index t c) ≡ Through n.of
leads_to packed fields t c wide n =
    ap (λ (x : TypeV). field_step (Some (packed, fields)) (constant_index x c)) wide
    ∙ ap (field_step (Some (packed, fields))) (bits_are c n.number n.is)
    ∙ field_found fields n.number n.of n.leads

module _ (known : Known) (types : List (NamedType Name TypeV)) (describes : Describes known types) where
  number_stands : (c : ConstantV) (i : ℕ) → field_number c ≡ Some i → constant_stands types c ≡ true
  unfolding constant_stands
  number_stands (IntegerC n) i e = refl
  number_stands NullC i e = refl
  number_stands ZeroC i e = refl
  number_stands (TextC bytes) i e = refl
  number_stands (ArrayC es) i e = absurd cc
  number_stands (StructC packed es) i e = absurd cc
  number_stands (NameC name) i e = refl
  number_stands (AddressC of base es) i e = absurd cc

  -- ---- where indices lead

  abbrev Walks : TypeV → ElementsV → Type 0
  Walks of es = is_inside (fold (advance types) (Through of) (indices_of es)) ≡ true

  -- what follows an index, wherever it leads
  abbrev Further : Option TypeV → ElementsV → Type 0
  Further into es = (us : List TokenV) → more_indices known into es us → (of : TypeV) → into ≡ Some of → Walks of es

  field_walks : (packed : Bool) (fields : TypesV) (t : TypeV) (c : ConstantV) (rest : ElementsV) (ws us : List TokenV) (value : List TokenV → Type 0) (w : WalkV) → an_index (Field fields) t c value ws
      → w ≡ field_step (Some (packed, fields)) (constant_index t c) → Further (led_to (Field fields) c) rest → more_indices known (led_to (Field fields) c) rest us → is_inside (fold (advance types) w (indices_of rest)) ≡ true
  field_walks packed fields t c rest ws us value w s is further behind =
      let n = names_in fields (simple_constant 32 s.rest_spells.token) c s.rest_spells.is in
      let wide : t ≡ IntV 32 = word_in (register_type s.first_spells.token) t s.first_spells.is in
      let leads : w ≡ Through n.of = is ∙ leads_to packed fields t c wide n in
      subst (λ (x : WalkV). is_inside (fold (advance types) x (indices_of rest)) ≡ true) (sym leads) (further us behind n.of (ap (option_and_then (field_type fields)) n.is ∙ n.leads))

  named_walks : (o : Option TypeV) (t : TypeV) (c : ConstantV) (rest : ElementsV) (ws us : List TokenV) (value : List TokenV → Type 0) (w : WalkV) → an_index (entered o) t c value ws
      → w ≡ field_step (option_and_then struct_fields o) (constant_index t c) → Further (led_to (entered o) c) rest → more_indices known (led_to (entered o) c) rest us → is_inside (fold (advance types) w (indices_of rest)) ≡ true
  named_walks None t c rest ws us value w s is further behind = subst (λ (x : WalkV). is_inside (fold (advance types) x (indices_of rest)) ≡ true) (sym is) (differs_stays types (indices_of rest))
  named_walks (Some (ArrayV n of)) t c rest ws us value w s is further behind = subst (λ (x : WalkV). is_inside (fold (advance types) x (indices_of rest)) ≡ true) (sym is) (differs_stays types (indices_of rest))
  named_walks (Some (StructV packed fields)) t c rest ws us value w s is further behind = field_walks packed fields t c rest ws us value w s is further behind
  named_walks (Some (IntV n)) t c rest ws us value w s is further behind = absurd s
  named_walks (Some PtrV) t c rest ws us value w s is further behind = absurd s
  named_walks (Some VoidV) t c rest ws us value w s is further behind = absurd s
  named_walks (Some (NamedV name)) t c rest ws us value w s is further behind = absurd s

  step_walks : (of t : TypeV) (c : ConstantV) (rest : ElementsV) (ws us : List TokenV) (value : List TokenV → Type 0) → an_index (entered (opened known of)) t c value ws
      → Further (led_to (entered (opened known of)) c) rest → more_indices known (led_to (entered (opened known of)) c) rest us → is_inside (fold (advance types) (step_into types of (constant_index t c)) (indices_of rest)) ≡ true
  unfolding step_into
  step_walks (IntV w) t c rest ws us value s further behind = absurd s
  step_walks PtrV t c rest ws us value s further behind = absurd s
  step_walks VoidV t c rest ws us value s further behind = absurd s
  step_walks (ArrayV n of) t c rest ws us value s further behind = further us behind of refl
  step_walks (StructV packed fields) t c rest ws us value s further behind = field_walks packed fields t c rest ws us value (field_step (Some (packed, fields)) (constant_index t c)) s refl further behind
  step_walks (NamedV name) t c rest ws us value s further behind =
      named_walks (option_and_then (λ b. b.of) (known name)) t c rest ws us value (field_step (option_and_then struct_fields (type_named types name)) (constant_index t c)) s
      (ap (λ (o : Option TypeV). field_step (option_and_then struct_fields o) (constant_index t c)) (sym (describes.bodies name))) further behind

  into_walks : (into : Option TypeV) (of : TypeV) (es : ElementsV) (ws : List TokenV) → into ≡ Some of → more_indices known into es ws → Walks of es
  unfolding indices_of
  into_walks into of NoneC ws e s = refl
  into_walks into of (MoreC t c rest) ws e s =
      let b = subst (λ (i : Option TypeV). more_indices known i (MoreC t c rest) ws) e s in
      step_walks of t c rest b.rest_spells.front b.rest_spells.rest (a_constant known (width_of t) c) b.rest_spells.first_spells
      (λ us behind type is. into_walks (led_to (entered (opened known of)) c) type rest us is behind) b.rest_spells.rest_spells

  first_walks : (of : TypeV) (es : ElementsV) (ws : List TokenV) → first_index known of es ws → is_inside (path types of (indices_of es)) ≡ true
  unfolding indices_of
  first_walks of NoneC ws s = absurd s
  first_walks of (MoreC t c rest) ws s = into_walks (Some of) of rest s.rest_spells.rest refl s.rest_spells.rest_spells

  -- ---- constants

  laid_out : (of : TypeV) (ws : List TokenV) → a_memory_type known of ws → has_layout types of ≡ true
  laid_out of ws s = ap is_some (sym (layouts_by (named_layouts known) (named_layout (length types) types) describes.layouts of)) ∙ s.1

  register_level : (t : TokenV) (of : TypeV) → register_type t ≡ Ok of → type_stands types of ≡ true
  register_level t of e = register_type_stands known types describes.names of (register_stands t of e)

  thirty_two : (of : TypeV) → of ≡ IntV 32 → type_stands types of ≡ true
  thirty_two of e = register_type_stands known types describes.names of (subst (λ (x : TypeV). is_register x ≡ true) (sym e) refl)

  integer_level : (of : TypeV) (ws : List TokenV) → one_token integer_type of ws → type_stands types of ≡ true
  integer_level of ws s = register_type_stands known types describes.names of (integer_stands s.token of s.is)

  index_stands : (e : Entry) (t : TypeV) (c : ConstantV) (ws : List TokenV) → ((us : List TokenV) → a_constant known (width_of t) c us → constant_stands types c ≡ true) → an_index e t c (a_constant known (width_of t) c) ws
      → (type_stands types t ≡ true) × (constant_stands types c ≡ true)
  index_stands (Counted into) t c ws inner s = (integer_level t s.front s.first_spells, inner s.rest s.rest_spells)
  index_stands (Field fields) t c ws inner s =
      let n = names_in fields (simple_constant 32 s.rest_spells.token) c s.rest_spells.is in
      (thirty_two t (word_in (register_type s.first_spells.token) t s.first_spells.is), number_stands c n.number n.is)
  index_stands Never t c ws inner s = absurd s

  mutual
    unfolding constant_stands

    pub spelled_constant : (w : ℕ) (c : ConstantV) (ws : List TokenV) → a_constant known w c ws → constant_stands types c ≡ true
    spelled_constant w (IntegerC n) ws s = refl
    spelled_constant w NullC ws s = refl
    spelled_constant w ZeroC ws s = refl
    spelled_constant w (NameC name) ws s = refl
    spelled_constant w (TextC bytes) ws s = refl
    spelled_constant w (ArrayC es) ws s = spelled_some 93 es s.rest s.rest_spells
    spelled_constant w (StructC false es) ws s = spelled_some 125 es s.rest s.rest_spells
    spelled_constant w (StructC true es) ws s = let o = s.rest_spells.rest_spells in spelled_some 125 es o.front o.first_spells
    spelled_constant w (AddressC of base es) ws s =
        let m = s.rest_spells.first_spells.rest_spells.rest_spells in
        let b = s.rest_spells.rest_spells in
        let laid = laid_out of m.front m.first_spells in
        let inside = first_walks of es b.rest b.rest_spells in
        let below = spelled_constant 64 base b.front b.first_spells in
        let others = spelled_first of es b.rest b.rest_spells in
        rw (laid, inside, below, others) refl

    spelled_first : (of : TypeV) (es : ElementsV) (ws : List TokenV) → first_index known of es ws → elements_stand types es ≡ true
    spelled_first of NoneC ws s = refl
    spelled_first of (MoreC t c rest) ws s =
        let o = s.rest_spells.first_spells in
        let type = integer_level t o.front o.first_spells in
        let here = spelled_constant (width_of t) c o.rest o.rest_spells in
        let others = spelled_indices (Some of) rest s.rest_spells.rest s.rest_spells.rest_spells in
        rw (type, here, others) refl

    spelled_indices : (into : Option TypeV) (es : ElementsV) (ws : List TokenV) → more_indices known into es ws → elements_stand types es ≡ true
    spelled_indices into NoneC ws s = refl
    spelled_indices into (MoreC t c rest) ws s =
        let others = spelled_indices (led_to (entry_of known into) c) rest s.rest_spells.rest s.rest_spells.rest_spells in
        let both = index_stands (entry_of known into) t c s.rest_spells.front (λ us k. spelled_constant (width_of t) c us k) s.rest_spells.first_spells in
        let type = both.0 in
        let here = both.1 in
        rw (type, here, others) refl

    spelled_some : (close : ℕ) (es : ElementsV) (ws : List TokenV) → some_elements known close es ws → elements_stand types es ≡ true
    spelled_some close NoneC ws s = refl
    spelled_some close (MoreC of c rest) ws s =
        let o = s.first_spells in
        let type = spelled_type known types describes.names of o.front o.first_spells in
        let here = spelled_constant (width_of of) c o.rest o.rest_spells in
        let others = spelled_more close rest s.rest s.rest_spells in
        rw (type, here, others) refl

    spelled_more : (close : ℕ) (es : ElementsV) (ws : List TokenV) → more_elements known close es ws → elements_stand types es ≡ true
    spelled_more close NoneC ws s = refl
    spelled_more close (MoreC of c rest) ws s =
        let o = s.rest_spells.first_spells in
        let type = spelled_type known types describes.names of o.front o.first_spells in
        let here = spelled_constant (width_of of) c o.rest o.rest_spells in
        let others = spelled_more close rest s.rest_spells.rest s.rest_spells.rest_spells in
        rw (type, here, others) refl
