-- What is wrong in the fewest tokens: where that is, on which line, and that nothing behind it helps.
use Rattle.std.proofs.Common.{◌≡◌, ℕ, length, arith, Bool, true, false, cond, List, [], ◌∷◌, ◌++◌, take, drop, Option, Some, None, Ok, Err, refl, sym, ap, subst, append_assoc, ◌∙◌}
use Rattle.std.proofs.lemmas.List.{append-nil, take-append-drop}
use Rattle.std.specs.Prelude.{◌&&◌}
use Rattle.std.specs.Option.{option_or}
use Rattle.pv_base.specs.declared.name.Name.{Name}
use Rattle.ir_lex.specs.declared.token.Cause.{Cause}
use Rattle.ir_tree.specs.Trees.{TypeV}
use Rattle.ir_text.specs.declared.fault.Fault.{Fault}
use Rattle.ir_text.specs.declared.fault.Fault.TheVariants.{At, Ended}
use Rattle.ir_text.specs.Tokens.{TokenV}
use Rattle.ir_text.specs.Reading.{Outcome, Reader, ◌>>=◌, next_is}
use Rattle.ir_text.specs.Repeated.{repeated_to, repeated_under}
use Rattle.ir_text.specs.Lawful.{Follow, anything, Lawful, OnLine}
use Rattle.ir_text.specs.Leaves.{spelled_name}
use Rattle.ir_text.specs.Operands.{is_local}
use Rattle.ir_text.specs.Spelled.{Spelling}
use Rattle.ir_text.specs.Types.{Known}
use Rattle.ir_grammar.specs.Items.{named_body_at, items_at}
use Rattle.ir_grammar.specs.NamedTypes.{says_type, definitions, bodies_read}
use Rattle.ir_grammar.specs.Texts.{token_fault, wrong_among, first_wrong}
use Rattle.module_laws.specs.ItemsSpelled.{a_named_body, some_items}
use Rattle.module_laws.proofs.GlobalLaws.{named_body_laws}
use Rattle.module_laws.proofs.RowLaws.{nowhere}
use Rattle.module_laws.proofs.WholeLaws.{loose_items}
use Rattle.module_laws.proofs.Staying.{items_stay_wrong, bodies_stay_wrong}

-- ---- one of two

pub none_both : (o p : Option Fault) → option_or o p ≡ None → (o ≡ None) × (p ≡ None)
none_both None p e = (refl, e)
none_both (Some f) p e = absurd cc

pub both_none : (o p : Option Fault) → o ≡ None → p ≡ None → option_or o p ≡ None
both_none None p e h = h
both_none (Some f) p e h = absurd cc

-- ---- the fewest tokens

module _ (wrong : List TokenV → Option Fault) where
  found_at : (rest front : List TokenV) (fault : Fault) → wrong front ≡ Some fault → first_wrong wrong front rest ≡ Some fault
  unfolding first_wrong
  found_at [] front fault e = e
  found_at (t ∷ rest) front fault e = rw e refl

  -- where nothing is wrong in fewer tokens, nothing is wrong in all
  pub none_in_all : (rest front : List TokenV) → first_wrong wrong front rest ≡ None → wrong (front ++ rest) ≡ None
  unfolding first_wrong
  none_in_all [] front e = ap wrong (append-nil front) ∙ e
  none_in_all (t ∷ rest) front e =
      let behind = none_both (wrong front) (first_wrong wrong (front ++ t ∷ []) rest) e in
      ap wrong (sym (append_assoc front (t ∷ []) rest)) ∙ none_in_all rest (front ++ t ∷ []) behind.1

  -- the token at which the fault is met
  pub record Place (ts : List TokenV) (fault : Fault) : Type 0 where
    pub front : List TokenV
    pub token : TokenV
    pub rest : List TokenV
    pub parts : ts ≡ front ++ token ∷ rest
    pub before : wrong front ≡ None
    pub here : wrong (front ++ token ∷ []) ≡ Some fault

  pub place_in : (rest front : List TokenV) (fault : Fault) → wrong front ≡ None → first_wrong wrong front rest ≡ Some fault → Place (front ++ rest) fault
  unfolding first_wrong
  place_in [] front fault none e = absurd cc
  place_in (t ∷ rest) front fault none e =
      by_next (wrong (front ++ t ∷ [])) refl
      (let p : option_or None (first_wrong wrong (front ++ t ∷ []) rest) ≡ Some fault = ap (λ (o : Option Fault). option_or o (first_wrong wrong (front ++ t ∷ []) rest)) (sym none) ∙ e in p)
      (λ w n. place_in rest (front ++ t ∷ []) fault w n)
    where
      by_next : (o : Option Fault) → wrong (front ++ t ∷ []) ≡ o → first_wrong wrong (front ++ t ∷ []) rest ≡ Some fault
          → (wrong (front ++ t ∷ []) ≡ None → first_wrong wrong (front ++ t ∷ []) rest ≡ Some fault → Place ((front ++ t ∷ []) ++ rest) fault) → Place (front ++ t ∷ rest) fault
      by_next None w next later = subst (λ (us : List TokenV). Place us fault) (append_assoc front (t ∷ []) rest) (later w next)
      by_next (Some g) w next later =
          let same : wrong (front ++ t ∷ []) ≡ Some fault = w ∙ sym (found_at rest (front ++ t ∷ []) g w) ∙ next in
          record { front = front; token = t; rest = rest; parts = refl; before = none; here = same }

  module _ (stays : (ts more : List TokenV) → wrong (ts ++ more) ≡ None → wrong ts ≡ None) where
    pub none_before : (rest front : List TokenV) → wrong (front ++ rest) ≡ None → first_wrong wrong front rest ≡ None
    unfolding first_wrong
    none_before [] front e = ap wrong (sym (append-nil front)) ∙ e
    none_before (t ∷ rest) front e =
        both_none (wrong front) (first_wrong wrong (front ++ t ∷ []) rest) (stays front (t ∷ rest) e) (none_before rest (front ++ t ∷ []) (ap wrong (append_assoc front (t ∷ []) rest) ∙ e))

    -- whatever stands behind the token
    pub met_at : (between front : List TokenV) (t : TokenV) (more : List TokenV) (fault : Fault) → wrong (front ++ between) ≡ None → wrong ((front ++ between) ++ t ∷ []) ≡ Some fault
        → first_wrong wrong front (between ++ t ∷ more) ≡ Some fault
    unfolding first_wrong
    met_at [] front t more fault none here =
        let before : wrong front ≡ None = ap wrong (sym (append-nil front)) ∙ none in
        let at : wrong (front ++ t ∷ []) ≡ Some fault = ap (λ (us : List TokenV). wrong (us ++ t ∷ [])) (sym (append-nil front)) ∙ here in
        rw before (found_at more (front ++ t ∷ []) fault at)
    met_at (b ∷ between) front t more fault none here =
        let before : wrong front ≡ None = stays front (b ∷ between) none in
        let one : (front ++ b ∷ []) ++ between ≡ front ++ b ∷ between = append_assoc front (b ∷ []) between in
        rw before (met_at between (front ++ b ∷ []) t more fault (ap wrong one ∙ none) (ap (λ (us : List TokenV). wrong (us ++ t ∷ [])) one ∙ here))

-- ---- items and bodies

one_stays : (o long : Option Fault) → ((fault : Fault) → o ≡ Some fault → long ≡ Some fault) → long ≡ None → o ≡ None
one_stays None long h e = refl
one_stays (Some fault) long h e = let there = h fault refl in absurd cc

not_ended : {A : Type 0} (o : Outcome A) → token_fault o ≡ Some Ended → ⊥
not_ended (Ok x) e = absurd cc
not_ended (Err (At line cause)) e = let same : At line cause ≡ Ended = cc in absurd cc
not_ended (Err Ended) e = absurd cc

either : (o p : Option Fault) (fault : Fault) → option_or o p ≡ Some fault → (o ≡ Some fault → ⊥) → (p ≡ Some fault → ⊥) → ⊥
either None p fault e h k = k e
either (Some g) p fault e h k = h e

module _ (names known : Known) where
  -- where nothing is wrong in all tokens, nothing is in fewer
  pub wrong_stays : (ts more : List TokenV) → wrong_among names known (ts ++ more) ≡ None → wrong_among names known ts ≡ None
  unfolding wrong_among
  wrong_stays ts more e =
      let none = none_both (token_fault (items_at known (ts ++ more))) (token_fault (bodies_read names (definitions (ts ++ more)))) e in
      both_none (token_fault (items_at known ts)) (token_fault (bodies_read names (definitions ts)))
      (one_stays (token_fault (items_at known ts)) (token_fault (items_at known (ts ++ more))) (λ f h. items_stay_wrong known ts more f h) none.0)
      (one_stays (token_fault (bodies_read names (definitions ts))) (token_fault (bodies_read names (definitions (ts ++ more)))) (λ f h. bodies_stay_wrong names ts more f h) none.1)

  pub none_at_start : wrong_among names known [] ≡ None
  unfolding wrong_among repeated_under repeated_to next_is definitions bodies_read
  none_at_start = refl

  pub never_ended : (ts : List TokenV) → wrong_among names known ts ≡ Some Ended → ⊥
  unfolding wrong_among
  never_ended ts e = either (token_fault (items_at known ts)) (token_fault (bodies_read names (definitions ts))) Ended e (not_ended (items_at known ts)) (not_ended (bodies_read names (definitions ts)))

-- ---- lines

longer : (line : ℕ) (ts more : List TokenV) → OnLine line ts → OnLine line (ts ++ more)
longer line ts more o = record { before = o.before; token = o.token; behind = o.behind ++ more; parts = ap (λ (us : List TokenV). us ++ more) o.parts ∙ append_assoc o.before (o.token ∷ o.behind) more; is = o.is }

further : (line : ℕ) (front ts : List TokenV) → OnLine line ts → OnLine line (front ++ ts)
further line front ts o = record { before = front ++ o.before; token = o.token; behind = o.behind; parts = ap (λ (us : List TokenV). front ++ us) o.parts ∙ sym (append_assoc front o.before (o.token ∷ o.behind)); is = o.is }

-- the line of a fault is that of a token
module _ {A : Type 0} (follow : Follow) (read : Reader A) (spells : Spelling A) (ts : List TokenV) (laws : Lawful (length ts) follow read spells) (line : ℕ) (cause : Cause) where
  met_on : (o : Outcome A) → read ts ≡ o → token_fault o ≡ Some (At line cause) → OnLine line ts
  met_on (Ok x) e h = absurd cc
  met_on (Err Ended) e h = absurd cc
  met_on (Err (At other why)) e h =
      let w = laws.faults ts other why (omega arith) e in
      let same : other ≡ line = cc in
      let parts : ts ≡ (w.front ++ w.token ∷ []) ++ w.rest = w.parts ∙ sym (append_assoc w.front (w.token ∷ []) w.rest) in
      subst (λ (l : ℕ). OnLine l ts) same (subst (OnLine other) (sym parts) (longer other (w.front ++ w.token ∷ []) w.rest w.on_line))

module _ (names known : Known) (line : ℕ) (cause : Cause) where
  abbrev items_line : (ts : List TokenV) → token_fault (items_at known ts) ≡ Some (At line cause) → OnLine line ts
  items_line ts = met_on nowhere (items_at known) (some_items known) ts (loose_items (length ts) known) line cause (items_at known ts) refl

  abbrev body_line : (ts : List TokenV) (o : Outcome TypeV) → named_body_at names ts ≡ o → token_fault o ≡ Some (At line cause) → OnLine line ts
  body_line ts = met_on anything (named_body_at names) (a_named_body names) ts (named_body_laws (length ts) names) line cause

  by_body : (t : TokenV) (rest : List TokenV) (others : Outcome (Unit {0})) → (token_fault others ≡ Some (At line cause) → OnLine line rest)
      → (o : Outcome TypeV) → named_body_at names (drop 2 rest) ≡ o → token_fault (o >>= λ of. others) ≡ Some (At line cause) → OnLine line (t ∷ rest)
  by_body t rest others later (Ok x) e h = further line (t ∷ []) rest (later h)
  by_body t rest others later (Err f) e h =
      let here : OnLine line (drop 2 rest) = body_line (drop 2 rest) (Err f) e h in
      further line (t ∷ []) rest (subst (OnLine line) (take-append-drop 2 rest) (further line (take 2 rest) (drop 2 rest) here))

  by_begun : (b : Bool) (t : TokenV) (rest : List TokenV) (all : List (Name × List TokenV)) → (token_fault (bodies_read names all) ≡ Some (At line cause) → OnLine line rest)
      → token_fault (bodies_read names (cond b ((spelled_name t, drop 2 rest) ∷ all) all)) ≡ Some (At line cause) → OnLine line (t ∷ rest)
  unfolding bodies_read
  by_begun true t rest all later h = by_body t rest (bodies_read names all) later (named_body_at names (drop 2 rest)) refl h
  by_begun false t rest all later h = further line (t ∷ []) rest (later h)

  bodies_line : (ts : List TokenV) → token_fault (bodies_read names (definitions ts)) ≡ Some (At line cause) → OnLine line ts
  unfolding definitions bodies_read
  bodies_line [] e = absurd cc
  bodies_line (t ∷ rest) e = by_begun (is_local t && says_type rest) t rest (definitions rest) (λ h. bodies_line rest h) e

  first_of_two : (ts : List TokenV) (o p : Option Fault) → (o ≡ Some (At line cause) → OnLine line ts) → (p ≡ Some (At line cause) → OnLine line ts) → option_or o p ≡ Some (At line cause) → OnLine line ts
  first_of_two ts None p h k e = k e
  first_of_two ts (Some f) p h k e = h e

  pub wrong_line : (ts : List TokenV) → wrong_among names known ts ≡ Some (At line cause) → OnLine line ts
  unfolding wrong_among
  wrong_line ts e = first_of_two ts (token_fault (items_at known ts)) (token_fault (bodies_read names (definitions ts))) (items_line ts) (bodies_line ts) e
