-- Constants and operands that are printed, read back.
use Rattle.std.proofs.Common.{◌≡◌, ℕ, true, false, List, [], ◌∷◌, ◌++◌, Option, Some, Ok, refl, sym, ap, subst, ◌∙◌, arith, append_assoc, inl, inr}
use Rattle.std.specs.Prelude.{codes}
use Rattle.pv_base.specs.declared.name.Name.{Name}
use Rattle.ir_lex.specs.declared.token.TokenKind.{TokenKind}
use Rattle.ir_lex.specs.declared.token.TokenKind.TheVariants as kind
use Rattle.ir_lex.specs.Spelling.{IsNameKind}
use Rattle.int_num.specs.Integer.{IsWidth}
use Rattle.ir_tree.specs.declared.instruction.Operand.{Operand}
use Rattle.ir_tree.specs.declared.instruction.Operand.TheVariants as operand
use Rattle.ir_tree.specs.Trees.{TypeV, ConstantV, IntegerC, NullC, ZeroC, TextC, ArrayC, StructC, NameC, AddressC, ElementsV, NoneC, MoreC}
use Rattle.ir_text.specs.Tokens.{TokenV}
use Rattle.ir_text.specs.Spelled.{one_token}
use Rattle.ir_text.specs.Repeated.{Both}
use Rattle.ir_text.specs.Leaves.{spelled_name}
use Rattle.ir_text.specs.Passed.{skips}
use Rattle.ir_text.specs.Types.{Known}
use Rattle.ir_text.specs.TypeSpelled.{a_mark}
use Rattle.ir_text.specs.MemoryTypes.{a_memory_type}
use Rattle.ir_text.specs.Indices as index
use Rattle.ir_text.specs.Indices.{entry_of, led_to}
use Rattle.ir_text.specs.Constants.{width_of, simple_constant}
use Rattle.ir_text.specs.ConstantSpelled.{an_address_start, a_constant, first_index, more_indices, some_elements, more_elements}
use Rattle.ir_text.specs.Operands.{constant_operand, an_operand, register, register_by}
use Rattle.ir_printer.specs.Pieces.{Piece, Blank, Word, Mark, Local, Quote, led, within}
use Rattle.ir_printer.specs.Operands.{address_head, pointer_lead, type_pieces, constant_pieces, elements_pieces, operand_pieces}
use Rattle.print_tokens.specs.Standing.{NameFits, is_plain_mark}
use Rattle.print_values.specs.Printed.{IsSound, AreSound, Printed}
use Rattle.print_values.specs.Laws.{ConstantsReadBack, OperandsReadBack}
use Rattle.print_values.proofs.Composing.{both_front, both_rest, turn_front, one_sound, printed_one, printed_both, printed_last, printed_skip, printed_blank, printed_as}
use Rattle.print_values.proofs.Tokens.{mark_then, mark_blank, printed_mark, then_mark, plain_word, word_fits, word_then, first_item, next_item, address_is}
use Rattle.print_values.proofs.Names.{names_back, names_fit}
use Rattle.print_values.proofs.TypeTrees.{type_back}
use Rattle.print_values.proofs.Constants.{width_fits, single_back, string_back}
use Rattle.print_values.proofs.Indices.{counting_back, item_back, index_back}

-- ---- addresses

pointer_back : Printed (one_token index.pointer_type tt) (Word (codes "ptr") ∷ [])
unfolding plain_word
pointer_back = printed_one (Word (codes "ptr")) kind.Word refl (word_fits (codes "ptr") refl) (λ line. refl)

no_words : skips (one_token index.address_word) tt []
no_words = record { value = []; front = []; rest = []; parts = refl; first_spells = refl; rest_spells = (refl, refl) }

-- `(T, ptr`
start_pieces : List Piece → List Piece
start_pieces ts = Blank ∷ Mark 40 ∷ (ts ++ (Mark 44 ∷ Blank ∷ Word (codes "ptr") ∷ []))

start_back : (known : Known) (of : TypeV) (ts : List Piece) → Printed (a_memory_type known of) ts → Printed (an_address_start known of) (start_pieces ts)
unfolding is_plain_mark start_pieces
start_back known of ts p =
    printed_blank (Mark 40 ∷ (ts ++ (Mark 44 ∷ Blank ∷ Word (codes "ptr") ∷ [])))
    (printed_skip (Mark 40 ∷ (ts ++ (Mark 44 ∷ Blank ∷ Word (codes "ptr") ∷ []))) no_words
    (mark_then 40 (ts ++ (Mark 44 ∷ Blank ∷ Word (codes "ptr") ∷ [])) refl
    (printed_both ts (Mark 44 ∷ Blank ∷ Word (codes "ptr") ∷ []) p (mark_blank 44 (Word (codes "ptr") ∷ []) refl pointer_back))))

head_is : (ts bs rs : List Piece) → Word (codes "getelementptr") ∷ (start_pieces ts ++ (Blank ∷ (bs ++ rs))) ≡ address_head ++ ts ++ pointer_lead ++ bs ++ rs
unfolding start_pieces
head_is ts bs rs =
    ap (λ (u : List Piece). Word (codes "getelementptr") ∷ Blank ∷ Mark 40 ∷ u) (append_assoc ts (Mark 44 ∷ Blank ∷ Word (codes "ptr") ∷ []) (Blank ∷ (bs ++ rs))) ∙ sym (address_is ts bs rs)

address_back : (known : Known) (w : ℕ) (of : TypeV) (base : ConstantV) (indices : ElementsV) (ts bs rs : List Piece)
    → Printed (a_memory_type known of) ts → Printed (a_constant known 64 base) bs → Printed (first_index known of indices) rs
    → Printed (a_constant known w (AddressC of base indices)) (address_head ++ ts ++ pointer_lead ++ bs ++ rs)
unfolding plain_word
address_back known w of base indices ts bs rs p q r =
    subst (Printed (a_constant known w (AddressC of base indices))) (head_is ts bs rs)
    (word_then (codes "getelementptr") (start_pieces ts ++ (Blank ∷ (bs ++ rs))) refl
    (printed_both (start_pieces ts) (Blank ∷ (bs ++ rs)) (start_back known of ts p) (printed_blank (bs ++ rs) (printed_both bs rs q r))))

memory_type_back : (known : Known) (of : TypeV) (ws : List TokenV) → AreSound ws → a_memory_type known of ws → Printed (a_memory_type known of) (type_pieces of)
memory_type_back known of ws s o = printed_as (type_pieces of) (λ us e. (e, o.1)) (type_back known of ws s o.0)

start_type : (known : Known) (of : TypeV) (ws : List TokenV) → AreSound ws → an_address_start known of ws → Printed (a_memory_type known of) (type_pieces of)
start_type known of ws s b =
    let t = b.rest_spells.rest_spells in
    memory_type_back known of t.front (both_front (both_rest (both_rest s b) b.rest_spells) t) t.first_spells

-- ---- structs

-- between `<{` and `}>`
packed_back : (known : Known) (w : ℕ) (fields : ElementsV) (ps : List Piece) → Printed (some_elements known 125 fields) (ps ++ Mark 125 ∷ []) → Printed (a_constant known w (StructC true fields)) (Mark 60 ∷ Mark 123 ∷ ps ++ Mark 125 ∷ Mark 62 ∷ [])
unfolding is_plain_mark
packed_back known w fields ps p =
    let e : Printed (Both (some_elements known 125 fields) (a_mark 62)) (ps ++ Mark 125 ∷ Mark 62 ∷ []) =
    subst (Printed (Both (some_elements known 125 fields) (a_mark 62))) (append_assoc ps (Mark 125 ∷ []) (Mark 62 ∷ [])) (then_mark (ps ++ Mark 125 ∷ []) 62 refl p) in
    mark_then 60 (Mark 123 ∷ ps ++ Mark 125 ∷ Mark 62 ∷ []) refl (mark_then 123 (ps ++ Mark 125 ∷ Mark 62 ∷ []) refl e)

-- ---- constants

same_single : (w : ℕ) (c : ConstantV) (ws : List TokenV) → IsWidth w → AreSound ws → one_token (simple_constant w) c ws → Printed (one_token (simple_constant w) c) (constant_pieces c)
same_single w c ws width s o = single_back w width (simple_constant w) c c ws s o (λ t e. e)

mutual
  unfolding constant_pieces elements_pieces is_plain_mark plain_word

  pub constant_back : (known : Known) (w : ℕ) (c : ConstantV) (ws : List TokenV) → IsWidth w → AreSound ws → a_constant known w c ws → Printed (a_constant known w c) (constant_pieces c)
  constant_back known w (IntegerC n) ws width s o = same_single w (IntegerC n) ws width s o
  constant_back known w NullC ws width s o = same_single w NullC ws width s o
  constant_back known w ZeroC ws width s o = same_single w ZeroC ws width s o
  constant_back known w (NameC name) ws width s o = same_single w (NameC name) ws width s o
  constant_back known w (TextC bytes) ws width s b = word_then (codes "c") (Quote bytes ∷ []) refl (string_back bytes b.rest (both_rest s b) b.rest_spells)
  constant_back known w (ArrayC elements) ws width s b = mark_then 91 (within false (elements_pieces elements) ++ Mark 93 ∷ []) refl (some_back known 93 elements b.rest refl (both_rest s b) b.rest_spells)
  constant_back known w (StructC false fields) ws width s b = mark_then 123 (within false (elements_pieces fields) ++ Mark 125 ∷ []) refl (some_back known 125 fields b.rest refl (both_rest s b) b.rest_spells)
  constant_back known w (StructC true fields) ws width s b =
      packed_back known w fields (within false (elements_pieces fields))
      (some_back known 125 fields b.rest_spells.rest_spells.front refl (both_front (both_rest (both_rest s b) b.rest_spells) b.rest_spells.rest_spells) b.rest_spells.rest_spells.first_spells)
  constant_back known w (AddressC of base indices) ws width s b =
      address_back known w of base indices (type_pieces of) (constant_pieces base) (led (elements_pieces indices) ++ Mark 41 ∷ [])
      (start_type known of b.rest_spells.front (both_front (both_rest s b) b.rest_spells) b.rest_spells.first_spells)
      (constant_back known 64 base b.rest_spells.rest_spells.front (record { positive = omega arith; most = omega arith }) (both_front (both_rest (both_rest s b) b.rest_spells) b.rest_spells.rest_spells) b.rest_spells.rest_spells.first_spells)
      (first_back known of indices b.rest_spells.rest_spells.rest (both_rest (both_rest (both_rest s b) b.rest_spells) b.rest_spells.rest_spells) b.rest_spells.rest_spells.rest_spells)

  some_back : (known : Known) (close : ℕ) (elements : ElementsV) (ws : List TokenV) → is_plain_mark close ≡ true → AreSound ws → some_elements known close elements ws
      → Printed (some_elements known close elements) (within false (elements_pieces elements) ++ Mark close ∷ [])
  some_back known close NoneC ws mark s o = printed_mark close mark
  some_back known close (MoreC of value rest) ws mark s b =
      first_item (type_pieces of ++ Blank ∷ constant_pieces value) (within true (elements_pieces rest)) (Mark close ∷ [])
      (item_back (type_pieces of) (constant_pieces value)
      (type_back known of b.first_spells.front (both_front (both_front s b) b.first_spells) b.first_spells.first_spells)
      (constant_back known (width_of of) value b.first_spells.rest (width_fits of) (both_rest (both_front s b) b.first_spells) b.first_spells.rest_spells))
      (more_back known close rest b.rest mark (both_rest s b) b.rest_spells)

  more_back : (known : Known) (close : ℕ) (elements : ElementsV) (ws : List TokenV) → is_plain_mark close ≡ true → AreSound ws → more_elements known close elements ws
      → Printed (more_elements known close elements) (within true (elements_pieces elements) ++ Mark close ∷ [])
  more_back known close NoneC ws mark s o = printed_blank (Mark close ∷ []) (printed_mark close mark)
  more_back known close (MoreC of value rest) ws mark s b =
      next_item (type_pieces of ++ Blank ∷ constant_pieces value) (within true (elements_pieces rest)) (Mark close ∷ [])
      (item_back (type_pieces of) (constant_pieces value)
      (type_back known of b.rest_spells.first_spells.front (both_front (both_front (both_rest s b) b.rest_spells) b.rest_spells.first_spells) b.rest_spells.first_spells.first_spells)
      (constant_back known (width_of of) value b.rest_spells.first_spells.rest (width_fits of) (both_rest (both_front (both_rest s b) b.rest_spells) b.rest_spells.first_spells) b.rest_spells.first_spells.rest_spells))
      (more_back known close rest b.rest_spells.rest mark (both_rest (both_rest s b) b.rest_spells) b.rest_spells.rest_spells)

  first_back : (known : Known) (of : TypeV) (indices : ElementsV) (ws : List TokenV) → AreSound ws → first_index known of indices ws → Printed (first_index known of indices) (led (elements_pieces indices) ++ Mark 41 ∷ [])
  first_back known of NoneC ws s b = absurd b
  first_back known of (MoreC t c rest) ws s b =
      next_item (type_pieces t ++ Blank ∷ constant_pieces c) (led (elements_pieces rest)) (Mark 41 ∷ [])
      (item_back (type_pieces t) (constant_pieces c)
      (counting_back t b.rest_spells.first_spells.front b.rest_spells.first_spells.first_spells)
      (constant_back known (width_of t) c b.rest_spells.first_spells.rest (width_fits t) (both_rest (both_front (both_rest s b) b.rest_spells) b.rest_spells.first_spells) b.rest_spells.first_spells.rest_spells))
      (indices_back known (Some of) rest b.rest_spells.rest (both_rest (both_rest s b) b.rest_spells) b.rest_spells.rest_spells)

  indices_back : (known : Known) (into : Option TypeV) (indices : ElementsV) (ws : List TokenV) → AreSound ws → more_indices known into indices ws → Printed (more_indices known into indices) (led (elements_pieces indices) ++ Mark 41 ∷ [])
  indices_back known into NoneC ws s o = printed_mark 41 refl
  indices_back known into (MoreC t c rest) ws s b =
      next_item (type_pieces t ++ Blank ∷ constant_pieces c) (led (elements_pieces rest)) (Mark 41 ∷ [])
      (index_back (entry_of known into) t c (a_constant known (width_of t) c) b.rest_spells.front (both_front (both_rest s b) b.rest_spells) b.rest_spells.first_spells (λ us sound e. constant_back known (width_of t) c us (width_fits t) sound e))
      (indices_back known (led_to (entry_of known into) c) rest b.rest_spells.rest (both_rest (both_rest s b) b.rest_spells) b.rest_spells.rest_spells)

pub constants_back : ConstantsReadBack
constants_back known w c ws least most s o = constant_back known w c ws (record { positive = omega arith; most = most }) s o

-- ---- operands

register_local : (k : TokenKind) (t : TokenV) (o : Operand Name ConstantV) → IsSound t → t.kind ≡ k → register_by k t ≡ Ok o → (NameFits (spelled_name t)) × (operand.Register (spelled_name t) ≡ o)
register_local kind.LocalName t o sound is e = (names_fit t sound (subst IsNameKind (sym is) tt), cc)
register_local kind.Word t o sound is e = absurd cc
register_local kind.GlobalName t o sound is e = absurd cc
register_local kind.Label t o sound is e = absurd cc
register_local kind.Integer t o sound is e = absurd cc
register_local kind.Text t o sound is e = absurd cc
register_local kind.Punct t o sound is e = absurd cc

register_printed : (name : Name) → NameFits name → Printed (one_token register (operand.Register name)) (operand_pieces (operand.Register name))
unfolding operand_pieces
register_printed name fits = printed_one (Local name) kind.LocalName refl fits (λ line. ap (λ (x : Name). Ok (operand.Register x)) ((names_back name fits).local line))

register_back : (o : Operand Name ConstantV) (ws : List TokenV) → AreSound ws → one_token register o ws → Printed (one_token register o) (operand_pieces o)
register_back o ws s r =
    let h = register_local r.token.kind r.token o (one_sound s r) refl r.is in
    subst (λ (x : Operand Name ConstantV). Printed (one_token register x) (operand_pieces x)) h.1 (register_printed (spelled_name r.token) h.0)

constant_printed : (known : Known) (of : TypeV) (c : ConstantV) (ws : List TokenV) → AreSound ws → a_constant known (width_of of) c ws → Printed (constant_operand known of (operand.Constant c)) (operand_pieces (operand.Constant c))
unfolding operand_pieces
constant_printed known of c ws s o = printed_last c (constant_pieces c) (constant_back known (width_of of) c ws (width_fits of) s o) (refl, refl)

pub operand_back : (known : Known) (of : TypeV) (o : Operand Name ConstantV) (ws : List TokenV) → AreSound ws → an_operand known of o ws → Printed (an_operand known of o) (operand_pieces o)
operand_back known of o ws s (inl b) =
    let p : Printed (constant_operand known of o) (operand_pieces o) =
    subst (λ (x : Operand Name ConstantV). Printed (constant_operand known of x) (operand_pieces x)) b.rest_spells.0 (constant_printed known of b.value b.front (turn_front s b) b.first_spells) in
    printed_as (operand_pieces o) (λ us e. inl e) p
operand_back known of o ws s (inr r) = printed_as (operand_pieces o) (λ us e. inr e) (register_back o ws s r)

pub operands_back : OperandsReadBack
operands_back = operand_back
