-- The heads of functions: parameters, and what stands before them.
use Rattle.std.proofs.Common.{◌≡◌, ℕ, ◌+◌, ◌≤◌, ◌<◌, length, Bool, true, false, List, [], ◌∷◌, ◌++◌, Option, Some, None, refl, sym, ap, subst, ◌∙◌, ◌⊎◌, inl, inr, arith, append_assoc, length-append}
use Rattle.std.specs.Prelude.{◌^◌, fold, map, codes}
use Rattle.pv_base.specs.declared.name.Name.{Name}
use Rattle.ir_lex.specs.declared.token.TokenKind.TheVariants as kind
use Rattle.ir_tree.specs.declared.items.Param.{Param}
use Rattle.ir_tree.specs.Table.{name_among}
use Rattle.ir_tree.specs.Trees.{TypeV}
use Rattle.ir_text.specs.Tokens.{TokenV}
use Rattle.ir_text.specs.Passed.{passed_unless, stops}
use Rattle.ir_text.specs.Spelled.{one_token}
use Rattle.ir_text.specs.TypeSpelled.{◌▸◌, a_mark}
use Rattle.ir_grammar.specs.Scopes.{Scope, no_scope, after_name, after_param}
use Rattle.ir_grammar.specs.Headers.{Params, no_params, unnamed, points_by, Header, scope_of}
use Rattle.module_laws.specs.Heads.{a_param_name, a_param, some_params, closed_params, a_head}
use Rattle.ir_printer.specs.Pieces.{Piece, Blank, Mark, Dots, Global, separated, led}
use Rattle.ir_printer.specs.Operands.{type_pieces}
use Rattle.ir_printer.specs.Items.{param_name, param_pieces, variadic_param, params_pieces}
use Rattle.print_values.specs.Printed.{AreSound}
use Rattle.print_values.specs.Laws.{NamesFit, NamesReadBack, RegisterTypesReadBack, ResultTypesReadBack, TypesStand}
use Rattle.print_functions.specs.Lines.{PrintedLines}
use Rattle.print_functions.proofs.Composing.{inside, behind_blank, as_pieces, as_spelled, nothing_printed, in_turn, sound_front, sound_rest}
use Rattle.print_functions.proofs.Naming.{Definable, one_piece, local_fits, local_printed, global_fits, global_printed}
use Rattle.print_functions.proofs.Counting.{Fresh, fresh_behind, next_definable, counted_once}
use Rattle.print_functions.proofs.Leaves.{none_passed, none_then, comma_printed, open_printed, close_printed}

-- In a definition no number as great as the counter is defined, and there is room for so many more.
pub record Room (declared : Bool) (scope : Scope) (many : ℕ) : Type 0 where
  pub fresh : declared ≡ false → Fresh scope
  pub few : declared ≡ false → scope.next + many < 2 ^ 62

pub less_room : (declared : Bool) (scope : Scope) (m n : ℕ) → m ≤ n → Room declared scope n → Room declared scope m
less_room declared scope m n le room = record { fresh = room.fresh; few = λ h. let few = room.few h in omega arith }

-- a name that can be defined, or none in a declaration
abbrev NameStands : Bool → Scope → Option Name → Type 0
NameStands declared scope (Some name) = Definable scope name
NameStands declared scope None = declared ≡ true

room_behind : (declared : Bool) (scope : Scope) (o : Option Name) (m n : ℕ) → m + 1 ≤ n → NameStands declared scope o → Room declared scope n → Room declared (after_name scope o) m
room_behind declared scope (Some name) m n le d room = record {
  fresh = λ h. fresh_behind scope name (room.fresh h) d;
  few = λ h. let few = room.few h in let once = counted_once scope.next name in omega arith;
}
room_behind declared scope None m n le d room = record { fresh = λ h. absurd cc; few = λ h. absurd cc }

-- what stands behind four parts is no longer than all of them
shorter : (ws a b c d e f g h : List TokenV) → ws ≡ a ++ b → b ≡ c ++ d → d ≡ e ++ f → f ≡ g ++ h → length h ≤ length ws
shorter ws a b c d e f g h p q r s =
    let one : length ws ≡ length a + length b = ap (length {A = TokenV}) p ∙ length-append a b in
    let two : length b ≡ length c + length d = ap (length {A = TokenV}) q ∙ length-append c d in
    let three : length d ≡ length e + length f = ap (length {A = TokenV}) r ∙ length-append e f in
    let four : length f ≡ length g + length h = ap (length {A = TokenV}) s ∙ length-append g h in
    omega arith

-- pieces in a row, from the left and from the right
pub gathered : (a b c d e f : List Piece) → a ++ b ++ c ++ d ++ e ++ f ≡ a ++ (b ++ (c ++ (d ++ (e ++ f))))
gathered a b c d e f = simp append_assoc

module _ (names_fit : NamesFit) (names_back : NamesReadBack) where
  -- ---- the name of a parameter

  implied : (declared : Bool) (scope : Scope) (many : ℕ) (o : Option Name) → Room declared scope many → unnamed declared scope.next ≡ o → NameStands declared scope o
  implied true scope many o room e = subst (NameStands true scope) e refl
  implied false scope many o room e = let few = room.few refl in subst (NameStands false scope) e (next_definable scope (room.fresh refl) (omega arith))

  name_stands : (declared : Bool) (scope : Scope) (many : ℕ) (o : Option Name) (ws : List TokenV) → Room declared scope many → AreSound ws → a_param_name declared scope o ws → NameStands declared scope o
  name_stands declared scope many o ws room sound (inl none) = implied declared scope many o room none.0
  name_stands declared scope many o ws room sound (inr made) = subst (NameStands declared scope) made.is (local_fits names_fit names_back scope made.parts ws sound made.spelled)

  name_printed : (declared : Bool) (scope : Scope) (o : Option Name) → NameStands declared scope o → PrintedLines (a_param_name declared scope o) (param_name o)
  name_printed true scope None d = nothing_printed (inl (refl, refl))
  name_printed false scope None d = absurd cc
  name_printed declared scope (Some name) d = behind_blank (as_spelled (λ ws s. inr (record { parts = name; is = refl; spelled = s })) (local_printed names_fit names_back scope name d))

  -- ---- one parameter, which has a token for its type

  param_name_stands : (declared : Bool) (scope : Scope) (p : Param Name TypeV) (many : ℕ) (ws : List TokenV) → Room declared scope many → AreSound ws → a_param declared scope p ws → NameStands declared scope p.name
  param_name_stands declared scope p many ws room sound s =
      let behind = s.rest_spells in
      name_stands declared scope many p.name behind.rest room (sound_rest behind.front behind.rest s.rest behind.parts (sound_rest s.front s.rest ws s.parts sound)) behind.rest_spells

  param_takes : (declared : Bool) (scope : Scope) (p : Param Name TypeV) (ws : List TokenV) → a_param declared scope p ws → 1 ≤ length ws
  param_takes declared scope p ws s =
      let first : s.front ≡ s.first_spells.token ∷ [] = s.first_spells.parts in
      let one : length s.front ≡ 1 = ap (length {A = TokenV}) first in
      let all : length ws ≡ length s.front + length s.rest = ap (length {A = TokenV}) s.parts ∙ length-append s.front s.rest in
      omega arith

  room_behind_param : (declared : Bool) (scope : Scope) (p : Param Name TypeV) (front rest ws : List TokenV) → ws ≡ front ++ rest → AreSound front → Room declared scope (length ws) → a_param declared scope p front → Room declared (after_param scope p) (length rest)
  room_behind_param declared scope p front rest ws parts sound room s =
      let takes = param_takes declared scope p front s in
      let all : length ws ≡ length front + length rest = ap (length {A = TokenV}) parts ∙ length-append front rest in
      room_behind declared scope p.name (length rest) (length ws) (omega arith) (param_name_stands declared scope p (length ws) front room sound s) room

  -- ---- what all parameters leave

  room_behind_more : (declared : Bool) (scope : Scope) (others : List (Param Name TypeV)) (variadic : Bool) (us : List TokenV)
      → ((vs : List TokenV) → Room declared scope (length vs) → AreSound vs → some_params declared scope others variadic vs → Room declared (fold after_param scope others) 0)
      → Room declared scope (length us) → AreSound us → ((others ≡ []) × (variadic ≡ false) × (us ≡ [])) ⊎ (a_mark 44 ▸ some_params declared scope others variadic) us → Room declared (fold after_param scope others) 0
  room_behind_more declared scope others variadic us behind room sound (inl none) =
      subst (λ (l : List (Param Name TypeV)). Room declared (fold after_param scope l) 0) (sym none.0) (less_room declared scope 0 (length us) (omega arith) room)
  room_behind_more declared scope others variadic us behind room sound (inr more) =
      let all : length us ≡ length more.front + length more.rest = ap (length {A = TokenV}) more.parts ∙ length-append more.front more.rest in
      behind more.rest (less_room declared scope (length more.rest) (length us) (omega arith) room) (sound_rest more.front more.rest us more.parts sound) more.rest_spells

  room_behind_some : (declared : Bool) (scope : Scope) (params : List (Param Name TypeV)) (variadic : Bool) (ws : List TokenV) → Room declared scope (length ws) → AreSound ws → some_params declared scope params variadic ws → Room declared (fold after_param scope params) 0
  room_behind_some declared scope [] variadic ws room sound s = less_room declared scope 0 (length ws) (omega arith) room
  room_behind_some declared scope (p ∷ others) variadic ws room sound s =
      room_behind_more declared (after_param scope p) others variadic s.rest (room_behind_some declared (after_param scope p) others variadic)
      (room_behind_param declared scope p s.front s.rest ws s.parts (sound_front s.front s.rest ws s.parts sound) room s.first_spells)
      (sound_rest s.front s.rest ws s.parts sound) s.rest_spells

  room_behind_all : (declared : Bool) (all : Params) (ws : List TokenV) → Room declared no_scope (length ws) → AreSound ws → closed_params declared all ws → Room declared (scope_of all) 0
  room_behind_all declared all ws room sound (inl none) = subst (λ (a : Params). Room declared (scope_of a) 0) (sym none.0) (less_room declared no_scope 0 (length ws) (omega arith) room)
  room_behind_all declared all ws room sound (inr some) =
      let size : length ws ≡ length some.front + length some.rest = ap (length {A = TokenV}) some.parts ∙ length-append some.front some.rest in
      room_behind_some declared no_scope all.params all.variadic some.front (less_room declared no_scope (length some.front) (length ws) (omega arith) room) (sound_front some.front some.rest ws some.parts sound) some.first_spells

  pub room_behind_head : (declared : Bool) (values : List Name) (h : Header) (ws : List TokenV) → Room declared no_scope (length ws) → AreSound ws → a_head declared values h ws → Room declared (scope_of h.params) 0
  room_behind_head declared values h ws room sound s =
      let result = s.rest_spells in
      let name = result.rest_spells in
      let open_mark = name.rest_spells in
      let sound_name = sound_rest result.front result.rest s.rest result.parts (sound_rest s.front s.rest ws s.parts sound) in
      let sound_params = sound_rest open_mark.front open_mark.rest name.rest open_mark.parts (sound_rest name.front name.rest result.rest name.parts sound_name) in
      let size : length open_mark.rest ≤ length ws = shorter ws s.front s.rest result.front result.rest name.front name.rest open_mark.front open_mark.rest s.parts result.parts name.parts open_mark.parts in
      room_behind_all declared h.params open_mark.rest (less_room declared no_scope (length open_mark.rest) (length ws) size room) sound_params open_mark.rest_spells

  module _ (registers_back : RegisterTypesReadBack) (types_stand : TypesStand) where
    param_printed : (declared : Bool) (scope : Scope) (p : Param Name TypeV) (many : ℕ) (ws : List TokenV) → Room declared scope many → AreSound ws → a_param declared scope p ws → PrintedLines (a_param declared scope p) (param_pieces p)
    param_printed declared scope p many ws room sound s =
        in_turn (type_pieces p.of) (param_name p.name)
        (inside (types_stand p.of).one_line (registers_back p.of s.front s.first_spells))
        (as_spelled (λ us t. none_then us (none_passed (passed_unless (stops [] false))) t) (name_printed declared scope p.name (param_name_stands declared scope p many ws room sound s)))

    -- ---- all parameters

    -- behind a parameter
    abbrev MoreParams : Bool → Scope → List (Param Name TypeV) → Bool → List TokenV → Type 0
    MoreParams declared scope others variadic us = ((others ≡ []) × (variadic ≡ false) × (us ≡ [])) ⊎ (a_mark 44 ▸ some_params declared scope others variadic) us

    abbrev entries : List (Param Name TypeV) → Bool → List (List Piece)
    entries params variadic = map param_pieces params ++ variadic_param variadic

    abbrev ParamsPrinted : Bool → Scope → List (Param Name TypeV) → Bool → Type 0
    ParamsPrinted declared scope params variadic =
        (ws : List TokenV) → Room declared scope (length ws) → AreSound ws → some_params declared scope params variadic ws → PrintedLines (some_params declared scope params variadic) (separated (entries params variadic))

    led_some : (declared : Bool) (scope : Scope) (params : List (Param Name TypeV)) (variadic : Bool) (ws : List TokenV) → some_params declared scope params variadic ws → led (entries params variadic) ≡ Mark 44 ∷ Blank ∷ separated (entries params variadic)
    led_some declared scope [] false ws s = absurd s
    led_some declared scope [] true ws s = refl
    led_some declared scope (p ∷ params) variadic ws s = refl

    no_more : (declared : Bool) (scope : Scope) (others : List (Param Name TypeV)) (variadic : Bool) → others ≡ [] → variadic ≡ false → PrintedLines (MoreParams declared scope others variadic) (led (entries others variadic))
    no_more declared scope others variadic e f =
        let none : PrintedLines (MoreParams declared scope [] false) (led (entries [] false)) = nothing_printed (inl (refl, refl, refl)) in
        let fixed : PrintedLines (MoreParams declared scope [] variadic) (led (entries [] variadic)) = subst (λ (v : Bool). PrintedLines (MoreParams declared scope [] v) (led (entries [] v))) (sym f) none in
        subst (λ (l : List (Param Name TypeV)). PrintedLines (MoreParams declared scope l variadic) (led (entries l variadic))) (sym e) fixed

    more_printed : (declared : Bool) (scope : Scope) (others : List (Param Name TypeV)) (variadic : Bool) (us : List TokenV) → ParamsPrinted declared scope others variadic → Room declared scope (length us) → AreSound us → MoreParams declared scope others variadic us → PrintedLines (MoreParams declared scope others variadic) (led (entries others variadic))
    more_printed declared scope others variadic us back room sound (inl none) = no_more declared scope others variadic none.0 none.1
    more_printed declared scope others variadic us back room sound (inr more) =
        let all : length us ≡ length more.front + length more.rest = ap (length {A = TokenV}) more.parts ∙ length-append more.front more.rest in
        let there = less_room declared scope (length more.rest) (length us) (omega arith) room in
        as_pieces (led (entries others variadic)) (sym (led_some declared scope others variadic more.rest more.rest_spells))
        (as_spelled (λ ws s. inr s)
        (in_turn (Mark 44 ∷ []) (Blank ∷ separated (entries others variadic)) comma_printed
        (behind_blank (back more.rest there (sound_rest more.front more.rest us more.parts sound) more.rest_spells))))

    points_printed : (declared : Bool) (ws : List TokenV) → one_token (points_by declared) tt ws → PrintedLines (one_token (points_by declared) tt) (Dots ∷ [])
    points_printed true ws s = one_piece (points_by true) tt Dots tt (λ line. record { token = record { kind = kind.Punct; text = codes "..."; line = line }; parts = refl; is = refl })
    points_printed false ws s = let is = s.is in absurd cc

    some_printed : (declared : Bool) (scope : Scope) (params : List (Param Name TypeV)) (variadic : Bool) → ParamsPrinted declared scope params variadic
    some_printed declared scope [] false ws room sound s = absurd s
    some_printed declared scope [] true ws room sound s = points_printed declared ws s
    some_printed declared scope (p ∷ others) variadic ws room sound s =
        let here = sound_front s.front s.rest ws s.parts sound in
        let behind = sound_rest s.front s.rest ws s.parts sound in
        in_turn (param_pieces p) (led (entries others variadic))
        (param_printed declared scope p (length ws) s.front room here s.first_spells)
        (more_printed declared (after_param scope p) others variadic s.rest (some_printed declared (after_param scope p) others variadic)
        (room_behind_param declared scope p s.front s.rest ws s.parts here room s.first_spells) behind s.rest_spells)

    -- ---- and the parenthesis

    closed_printed : (declared : Bool) (all : Params) (ws : List TokenV) → Room declared no_scope (length ws) → AreSound ws → closed_params declared all ws → PrintedLines (closed_params declared all) (params_pieces all.params all.variadic ++ Mark 41 ∷ [])
    closed_printed declared all ws room sound (inl none) =
        let closed : PrintedLines (closed_params declared no_params) (Mark 41 ∷ []) = as_spelled (λ us s. inl (refl, s)) close_printed in
        subst (λ (a : Params). PrintedLines (closed_params declared a) (params_pieces a.params a.variadic ++ Mark 41 ∷ [])) (sym none.0) closed
    closed_printed declared all ws room sound (inr some) =
        let size : length ws ≡ length some.front + length some.rest = ap (length {A = TokenV}) some.parts ∙ length-append some.front some.rest in
        let there = less_room declared no_scope (length some.front) (length ws) (omega arith) room in
        as_spelled (λ us s. inr s)
        (in_turn (params_pieces all.params all.variadic) (Mark 41 ∷ [])
        (some_printed declared no_scope all.params all.variadic some.front there (sound_front some.front some.rest ws some.parts sound) some.first_spells)
        close_printed)

    -- ---- heads

    -- `T @name(PARAMS)`
    abbrev pub header_pieces : Header → List Piece
    header_pieces h = type_pieces h.result ++ (Blank ∷ []) ++ (Global h.name ∷ []) ++ (Mark 40 ∷ []) ++ params_pieces h.params.params h.params.variadic ++ (Mark 41 ∷ [])

    module _ (results_back : ResultTypesReadBack) where
      pub head_printed : (declared : Bool) (values others : List Name) (h : Header) (ws : List TokenV) → Room declared no_scope (length ws) → AreSound ws → name_among h.name others ≡ false → a_head declared values h ws → PrintedLines (a_head declared others h) (header_pieces h)
      head_printed declared values others h ws room sound new s =
          let result = s.rest_spells in
          let name = result.rest_spells in
          let open_mark = name.rest_spells in
          let sound_result = sound_rest s.front s.rest ws s.parts sound in
          let sound_name = sound_rest result.front result.rest s.rest result.parts sound_result in
          let sound_open = sound_rest name.front name.rest result.rest name.parts sound_name in
          let sound_params = sound_rest open_mark.front open_mark.rest name.rest open_mark.parts sound_open in
          let fits = global_fits names_fit names_back values h.name name.front (sound_front name.front name.rest result.rest name.parts sound_name) name.first_spells in
          let size : length open_mark.rest ≤ length ws = shorter ws s.front s.rest result.front result.rest name.front name.rest open_mark.front open_mark.rest s.parts result.parts name.parts open_mark.parts in
          let there = less_room declared no_scope (length open_mark.rest) (length ws) size room in
          let params = params_pieces h.params.params h.params.variadic in
          as_pieces (header_pieces h) (sym (gathered (type_pieces h.result) (Blank ∷ []) (Global h.name ∷ []) (Mark 40 ∷ []) params (Mark 41 ∷ [])))
          (as_spelled (λ us t. none_then us (none_passed (passed_unless (stops [] true))) t)
          (in_turn (type_pieces h.result) (Blank ∷ Global h.name ∷ Mark 40 ∷ (params ++ Mark 41 ∷ [])) (inside (types_stand h.result).one_line (results_back h.result result.front result.first_spells))
          (behind_blank (in_turn (Global h.name ∷ []) (Mark 40 ∷ (params ++ Mark 41 ∷ [])) (global_printed names_fit names_back others h.name fits new)
          (in_turn (Mark 40 ∷ []) (params ++ Mark 41 ∷ []) open_printed (closed_printed declared h.params open_mark.rest there sound_params open_mark.rest_spells))))))
