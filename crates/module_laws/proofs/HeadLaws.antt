-- The laws of the heads of functions.
use Rattle.std.proofs.Common.{◌≡◌, ℕ, zero, suc, ◌+◌, ◌≤◌, length, arith, Bool, true, false, cond, List, [], ◌∷◌, ◌++◌, Option, Some, Ok, Err, refl, sym, ap, subst, ◌∙◌, ◌⊎◌, inl, inr}
use Rattle.std.specs.Prelude.{not, codes}
use Rattle.std.proofs.lemmas.Bool.{or_cases, or_left, or_right}
use Rattle.std.proofs.lemmas.List.{length-append}
use lib.Pointwise.{bytes_decides}
use Rattle.pv_base.specs.declared.name.Name.{Name}
use Rattle.ir_lex.specs.declared.token.TokenKind.{TokenKind}
use Rattle.ir_lex.specs.declared.token.TokenKind.TheVariants as kind
use Rattle.ir_lex.specs.declared.token.Cause.TheVariants as causes
use Rattle.ir_tree.specs.declared.items.Param.{Param}
use Rattle.ir_tree.specs.Trees.{TypeV}
use Rattle.ir_text.specs.declared.fault.Fault.TheVariants.{Ended}
use Rattle.ir_text.specs.Tokens.{TokenV, is_mark, is_points, punct_is}
use Rattle.ir_text.specs.Reading.{Outcome, Reader, ◌>>=◌, gives, next_is, token_by}
use Rattle.ir_text.specs.Choice.{choose, Opens}
use Rattle.ir_text.specs.Lawful.{Follow, Behind, anything, Lawful}
use Rattle.ir_text.specs.Leaves.{mark, mark_at}
use Rattle.ir_text.specs.Lists.{mark_for}
use Rattle.ir_text.specs.Operands.{is_local, kind_is_local}
use Rattle.ir_text.specs.Passed.{stops, some_words, is_type_word}
use Rattle.ir_text.specs.Repeated.{Both}
use Rattle.ir_text.specs.Spelled.{Spelling, InTurn, one_token, nothing, never}
use Rattle.ir_text.specs.Types.{register_type, result_type}
use Rattle.ir_text.specs.TypeSpelled.{◌▸◌, a_mark}
use Rattle.ir_text.proofs.Agreeing.{bind_agree, mark_keeps}
use Rattle.ir_text.proofs.Choices.{respell, token_laws, weaken, dead}
use Rattle.ir_text.proofs.ChoiceLaws.{choice, optional, token_opens}
use Rattle.ir_text.proofs.Laws.{in_turn_before}
use Rattle.ir_text.proofs.Marks.{apart, mark_opens}
use Rattle.ir_text.proofs.PassedLaws.{words_laws}
use Rattle.ir_text.proofs.Persisting.{counted, shortens, Takers}
use Rattle.ir_instr.specs.Instructions.{defined_by, defined_name}
use Rattle.instr_laws.specs.Behind.{ends_argument}
use Rattle.instr_laws.specs.Made.{Made}
use Rattle.instr_laws.proofs.Rows.{last, ended, then, past, pass}
use Rattle.instr_laws.proofs.Opening.{word_of, word_by, unopened, both_opens, one_opens, opens_as, register_word, result_word, not_mark}
use Rattle.ir_grammar.specs.Scopes.{Scope, no_scope, after_param}
use Rattle.ir_grammar.specs.Headers.{new_global, Params, no_params, with_param, unnamed, param_name_at, param_at, points_by, points_at, entries_to, entries_at, params_at, Header, header_at}
use Rattle.module_laws.specs.Heads.{a_param_name, a_param, some_params, closed_params, a_head}
use Rattle.module_laws.specs.Behind.{Between, BehindParam}
use Rattle.module_laws.proofs.Between.{opens_follow, next_follow, ends_between, name_between, local_name, type_between}

-- ---- parameters

defined_local_by : (scope : Scope) (k : TokenKind) (t : TokenV) (name : Name) → defined_by scope.next scope.defined k t ≡ Ok name → kind_is_local k ≡ true
defined_local_by scope kind.LocalName t name e = refl
defined_local_by scope kind.GlobalName t name e = absurd cc
defined_local_by scope kind.Label t name e = absurd cc
defined_local_by scope kind.Integer t name e = absurd cc
defined_local_by scope kind.Word t name e = absurd cc
defined_local_by scope kind.Text t name e = absurd cc
defined_local_by scope kind.Punct t name e = absurd cc

abbrev Named : Scope → Spelling (Option Name)
Named scope = Made (λ (name : Name). Some name) (λ name. one_token (defined_name scope.next scope.defined) name)

named_opens : (scope : Scope) (o : Option Name) (ws : List TokenV) → Named scope o ws → Opens is_local ws
named_opens scope o ws s = one_opens is_local (defined_name scope.next scope.defined) s.parts ws (λ t e. defined_local_by scope t.kind t s.parts e) s.spelled

not_local_by : (b : ℕ) (k : TokenKind) (text : List ℕ) → punct_is (b ∷ []) k text ≡ true → kind_is_local k ≡ false
not_local_by b kind.Punct text e = refl
not_local_by b kind.LocalName text e = absurd cc
not_local_by b kind.GlobalName text e = absurd cc
not_local_by b kind.Label text e = absurd cc
not_local_by b kind.Integer text e = absurd cc
not_local_by b kind.Word text e = absurd cc
not_local_by b kind.Text text e = absurd cc

ends_not_local : (t : TokenV) → ends_argument t ≡ true → is_local t ≡ false
ends_not_local t e =
    elim (or_cases (is_mark 44 t) (is_mark 41 t) e) [
      | inl comma ↦ not_local_by 44 t.kind t.text comma
      | inr close ↦ not_local_by 41 t.kind t.text close
    ]

no_name_behind : (rest : List TokenV) → BehindParam rest → Behind is_local anything rest
unfolding next_is
no_name_behind rest h = next_follow ends_argument (Behind is_local anything) rest (λ t us e. record { none = ends_not_local t e; fits = tt }) h

module _ (n : ℕ) (declared : Bool) where
  name_laws : (scope : Scope) → Lawful n BehindParam (param_name_at declared scope) (a_param_name declared scope)
  name_laws scope =
      weaken n (Behind is_local anything) BehindParam (param_name_at declared scope) (a_param_name declared scope) no_name_behind
      (optional n is_local anything (λ us. token_by (defined_name scope.next scope.defined) us >>= λ name. Ok (Some name.0, name.1)) (unnamed declared scope.next) (Named scope) (last (λ (name : Name). Some name) (token_laws n (defined_name scope.next scope.defined))) (named_opens scope))

  name_behind : (scope : Scope) (o : Option Name) (ws rest : List TokenV) → a_param_name declared scope o ws → BehindParam rest → Between (stops [] false) (ws ++ rest)
  name_behind scope o ws rest (inl s) h = subst (λ (u : List TokenV). Between (stops [] false) (u ++ rest)) (sym s.1) (next_follow ends_argument (Between (stops [] false)) rest (ends_between (stops [] false)) h)
  name_behind scope o ws rest (inr s) h = opens_follow is_local (Between (stops [] false)) ws rest (λ t us e. name_between (stops [] false) t us (local_name t e)) (named_opens scope o ws s)

  abbrev made_param : Scope → Spelling (Param Name TypeV)
  made_param scope = Made (λ (p : TypeV × Option Name). record { name = p.1; of = p.0 }) (λ p. one_token register_type p.0 ▸ some_words (stops [] false) tt ▸ a_param_name declared scope p.1)

  pub param_laws : (scope : Scope) → Lawful n BehindParam (param_at declared scope) (a_param declared scope)
  param_laws scope = respell n BehindParam (param_at declared scope) (made_param scope) (a_param declared scope)
      (λ p ws t. subst (λ (x : Param Name TypeV). a_param declared scope x ws) t.is t.spelled)
      (λ p ws t. record { parts = (p.of, p.name); is = refl; spelled = t })
      (then (token_laws n register_type) (λ (of : TypeV). past (words_laws (stops [] false) n) (last (λ (name : Option Name). record { name = name; of = of }) (name_laws scope)) (λ name ws rest s h. name_behind scope name ws rest s h)))

param_opens : (declared : Bool) (scope : Scope) (p : Param Name TypeV) (ws : List TokenV) → a_param declared scope p ws → Opens (word_of is_type_word) ws
param_opens declared scope p ws s = both_opens (word_of is_type_word) (one_token register_type p.of) _ ws (λ us o. one_opens (word_of is_type_word) register_type p.of us (λ t e. register_word t p.of e) o) s

param_takes : (declared : Bool) (scope : Scope) → Takers (a_param declared scope)
param_takes declared scope p ws s = let o = param_opens declared scope p ws s in omega (arith, ap length o.parts)

-- ---- `...`

no_points_by : (k : TokenKind) (text : List ℕ) → word_by is_type_word k text ≡ true → (t : TokenV) → t.kind ≡ k → is_points t ≡ false
no_points_by kind.Word text e t is = rw is refl
no_points_by kind.Punct text e t is = absurd cc
no_points_by kind.LocalName text e t is = absurd cc
no_points_by kind.GlobalName text e t is = absurd cc
no_points_by kind.Label text e t is = absurd cc
no_points_by kind.Integer text e t is = absurd cc
no_points_by kind.Text text e t is = absurd cc

word_no_points : (t : TokenV) → word_of is_type_word t ≡ true → not (is_points t) ≡ true
word_no_points t e = let no : is_points t ≡ false = no_points_by t.kind t.text e t refl in rw no refl

points_open : (declared : Bool) (u : Unit {0}) (ws : List TokenV) → one_token (points_by declared) u ws → Opens is_points ws
points_open true u ws s = token_opens is_points (λ _. causes.Operand) u ws s
points_open false u ws s = let e = s.is in absurd cc

-- ---- all parameters

-- they end at the closing parenthesis
abbrev Closes : Follow
Closes rest = next_is (is_mark 41) rest ≡ true

close_ends : (rest : List TokenV) → Closes rest → BehindParam rest
unfolding next_is
close_ends rest h = next_follow (is_mark 41) BehindParam rest (λ t us e. first t us (or_right (is_mark 44 t) (is_mark 41 t) e)) h
  where
    first : (t : TokenV) (us : List TokenV) → ends_argument t ≡ true → BehindParam (t ∷ us)
    first t us e = e

close_no_comma : (rest : List TokenV) → Closes rest → next_is (is_mark 44) rest ≡ false
unfolding next_is
close_no_comma rest h = next_follow (is_mark 41) (λ us. next_is (is_mark 44) us ≡ false) rest first h
  where
    first : (t : TokenV) (us : List TokenV) → is_mark 41 t ≡ true → next_is (is_mark 44) (t ∷ us) ≡ false
    first t us e = apart 41 44 t refl e

abbrev params_of : List (Param Name TypeV) → Bool → Params
params_of params variadic = record { params = params; variadic = variadic }

-- how many entries they are
abbrev entries : List (Param Name TypeV) → Bool → ℕ
entries [] variadic = cond variadic 1 0
entries (p ∷ others) variadic = suc (entries others variadic)

module _ (n : ℕ) (declared : Bool) where
  abbrev spelled : Scope → Spelling Params
  spelled scope all ws = some_params declared scope all.params all.variadic ws

  abbrev up_to : ℕ → Scope → Spelling Params
  up_to k scope all ws = spelled scope all ws × (entries all.params all.variadic ≤ k)

  -- a comma and further entries
  abbrev more : ℕ → Scope → Param Name TypeV → Reader Params
  more k scope p vs = mark_at 44 vs >>= λ comma. entries_to declared k (after_param scope p) comma.1 >>= λ others. Ok (with_param p others.0, others.1)

  abbrev more_spelled : ℕ → Scope → Param Name TypeV → Spelling Params
  more_spelled k scope p = Made (with_param p) (λ others. a_mark 44 ▸ up_to k (after_param scope p) others)

  abbrev tail_spelled : ℕ → Scope → Param Name TypeV → Spelling Params
  tail_spelled k scope p all ws = nothing (with_param p no_params) all ws ⊎ more_spelled k scope p all ws

  abbrev led_by : ℕ → Scope → Spelling Params
  led_by k scope = InTurn (a_param declared scope) (λ p. tail_spelled k scope p)

  abbrev dots : Spelling Params
  dots = Made (λ (u : Unit {0}). record { params = []; variadic = true }) (one_token (points_by declared))

  more_opens : (k : ℕ) (scope : Scope) (p : Param Name TypeV) (all : Params) (ws : List TokenV) → more_spelled k scope p all ws → Opens (is_mark 44) ws
  more_opens k scope p all ws s = both_opens (is_mark 44) (a_mark 44) _ ws (λ us o. mark_opens 44 us o) s.spelled

  tail_behind : (k : ℕ) (scope : Scope) (p : Param Name TypeV) (all : Params) (ws rest : List TokenV) → tail_spelled k scope p all ws → Closes rest → BehindParam (ws ++ rest)
  unfolding next_is
  tail_behind k scope p all ws rest (inl s) h = subst (λ (u : List TokenV). BehindParam (u ++ rest)) (sym s.1) (close_ends rest h)
  tail_behind k scope p all ws rest (inr s) h = opens_follow (is_mark 44) BehindParam ws rest (λ t us e. first t us (or_left (is_mark 44 t) (is_mark 41 t) e)) (more_opens k scope p all ws s)
    where
      first : (t : TokenV) (us : List TokenV) → ends_argument t ≡ true → BehindParam (t ∷ us)
      first t us e = e

  led_opens : (k : ℕ) (scope : Scope) (all : Params) (ws : List TokenV) → led_by k scope all ws → Opens (word_of is_type_word) ws
  led_opens k scope all ws s =
      let o = param_opens declared scope s.value s.front s.first_spells in
      record { token = o.token; rest = o.rest ++ s.rest; parts = s.parts ∙ ap (λ (u : List TokenV). u ++ s.rest) o.parts; is = o.is }

  -- one entry more
  to_more : (k : ℕ) (scope : Scope) (all : Params) (ws : List TokenV) → led_by k scope all ws ⊎ dots all ws → up_to (suc k) scope all ws
  to_more k scope all ws (inr s) = subst (λ (x : Params). up_to (suc k) scope x ws) s.is (s.spelled, omega arith)
  to_more k scope all ws (inl s) = by_tail s.rest_spells
    where
      by_tail : tail_spelled k scope s.value all s.rest → up_to (suc k) scope all ws
      by_tail (inl none) = subst (λ (x : Params). up_to (suc k) scope x ws) none.0
          (record { front = s.front; rest = s.rest; parts = s.parts; first_spells = s.first_spells; rest_spells = inl (refl, refl, none.1) }, omega arith)
      by_tail (inr others) =
          let m = others.spelled in
          let few = m.rest_spells.1 in
          subst (λ (x : Params). up_to (suc k) scope x ws) others.is
          (record { front = s.front; rest = s.rest; parts = s.parts; first_spells = s.first_spells; rest_spells = inr (record { front = m.front; rest = m.rest; parts = m.parts; first_spells = m.first_spells; rest_spells = m.rest_spells.0 }) }, omega arith)

  from_more : (k : ℕ) (scope : Scope) (all : Params) (ws : List TokenV) → up_to (suc k) scope all ws → led_by k scope all ws ⊎ dots all ws
  from_more k scope all ws s = by_params all.params all.variadic all refl s.0 s.1
    where
      by_params : (params : List (Param Name TypeV)) (variadic : Bool) (whole : Params) → record { params = params; variadic = variadic } ≡ whole → some_params declared scope params variadic ws → entries params variadic ≤ suc k → led_by k scope whole ws ⊎ dots whole ws
      by_params [] false whole is t few = absurd t
      by_params [] true whole is t few = inr (record { parts = tt; is = is; spelled = t })
      by_params (p ∷ others) variadic whole is t few =
          inl (record {
            value = p;
            front = t.front;
            rest = t.rest;
            parts = t.parts;
            first_spells = t.first_spells;
            rest_spells = elim t.rest_spells [
              | inl none ↦ inl (ap (λ (xs : List (Param Name TypeV)). params_of (p ∷ xs) false) (sym none.0) ∙ ap (λ (v : Bool). params_of (p ∷ others) v) (sym none.1) ∙ is, none.2)
              | inr m ↦ inr (record { parts = record { params = others; variadic = variadic }; is = is; spelled = record { front = m.front; rest = m.rest; parts = m.parts; first_spells = m.first_spells; rest_spells = (m.rest_spells, omega arith) } })
            ];
          })

  none_spelled : (scope : Scope) (all : Params) (ws : List TokenV) → up_to 0 scope all ws → ⊥
  none_spelled scope all ws s = by_params all.params all.variadic s.0 s.1
    where
      by_params : (params : List (Param Name TypeV)) (variadic : Bool) → some_params declared scope params variadic ws → entries params variadic ≤ 0 → ⊥
      by_params [] false t few = t
      by_params [] true t few = absurd (omega arith)
      by_params (p ∷ others) variadic t few = absurd (omega arith)

  zero_laws : (scope : Scope) → Lawful n Closes (entries_to declared 0 scope) (up_to 0 scope)
  unfolding entries_to
  zero_laws scope = respell n Closes (λ ts. Err Ended) never (up_to 0 scope) (λ all ws s. absurd s) (none_spelled scope) (dead n Closes)

  to_laws : (k : ℕ) (scope : Scope) → Lawful n Closes (entries_to declared k scope) (up_to k scope)
  unfolding entries_to
  to_laws zero scope = zero_laws scope
  to_laws (suc k) scope =
      respell n Closes (entries_to declared (suc k) scope) (λ all ws. led_by k scope all ws ⊎ dots all ws) (up_to (suc k) scope) (to_more k scope) (from_more k scope)
      (choice n is_points anything Closes Closes (points_at declared) (λ us. param_at declared scope us >>= λ p. choose (is_mark 44) (more k scope p.0) (gives (with_param p.0 no_params)) p.1) dots (led_by k scope)
      (last (λ (u : Unit {0}). record { params = []; variadic = true }) (token_laws n (points_by declared)))
      (in_turn_before n BehindParam Closes (param_at declared scope) (λ p. choose (is_mark 44) (more k scope p) (gives (with_param p no_params))) (a_param declared scope) (tail_spelled k scope) (param_laws n declared scope)
      (λ p. weaken n (Behind (is_mark 44) Closes) Closes (choose (is_mark 44) (more k scope p) (gives (with_param p no_params))) (tail_spelled k scope p) (λ rest h. record { none = close_no_comma rest h; fits = h })
      (optional n (is_mark 44) Closes (more k scope p) (with_param p no_params) (more_spelled k scope p) (pass (token_laws n (mark 44)) (last (with_param p) (to_laws k (after_param scope p)))) (more_opens k scope p)))
      (tail_behind k scope))
      (λ all ws s. points_open declared s.parts ws s.spelled)
      (λ all ws rest s h. unopened is_points ws rest (opens_as (word_of is_type_word) (λ t. not (is_points t)) ws word_no_points (led_opens k scope all ws s)))
      (λ rest h. tt) (λ rest h. h))

  few : (scope : Scope) (params : List (Param Name TypeV)) (variadic : Bool) (ws : List TokenV) → some_params declared scope params variadic ws → entries params variadic ≤ length ws
  few scope [] false ws s = absurd s
  few scope [] true ws s = let size = ap length s.parts in omega arith
  few scope (p ∷ others) variadic ws s =
      let one = param_takes declared scope p s.front s.first_spells in
      let size : length ws ≡ length s.front + length s.rest = ap length s.parts ∙ length-append s.front s.rest in
      elim s.rest_spells [
        | inl none ↦ let least = ends others variadic none.0 none.1 in omega arith
        | inr m ↦
            let inner = few (after_param scope p) others variadic m.rest m.rest_spells in
            let cut : length s.rest ≡ length m.front + length m.rest = ap length m.parts ∙ length-append m.front m.rest in
            omega arith
      ]
    where
      ends : (xs : List (Param Name TypeV)) (v : Bool) → xs ≡ [] → v ≡ false → entries xs v ≡ 0
      ends xs v none plain = ap (λ (ys : List (Param Name TypeV)). entries ys v) none ∙ ap (λ (w : Bool). entries [] w) plain

  shorter : (scope : Scope) (ts : List TokenV) (x : Param Name TypeV × List TokenV) → param_at declared scope ts ≡ Ok x → 1 + length x.1 ≤ length ts
  shorter scope ts x e = shortens n BehindParam (param_at declared scope) (a_param declared scope) (param_laws n declared scope) (param_takes declared scope) ts x e

  none_read : (k : ℕ) (scope : Scope) (ts : List TokenV) → length ts ≤ 0 → entries_to declared k scope ts ≡ Err Ended
  unfolding entries_to next_is token_by
  none_read zero scope ts le = refl
  none_read (suc k) scope [] le = refl
  none_read (suc k) scope (t ∷ ts) le = absurd (omega arith)

  -- more steps than tokens change nothing
  enough : (k m : ℕ) (scope : Scope) (ts : List TokenV) → length ts ≤ k → length ts ≤ m → entries_to declared k scope ts ≡ entries_to declared m scope ts
  unfolding entries_to
  enough zero m scope ts le lt = sym (none_read m scope ts le)
  enough (suc k) zero scope ts le lt = none_read (suc k) scope ts lt
  enough (suc k) (suc m) scope ts le lt =
      ap (λ (o : Outcome Params). cond (next_is is_points ts) (points_at declared ts) o)
      (bind_agree (param_at declared scope ts) (param_at declared scope ts) (λ p. choose (is_mark 44) (more k scope p.0) (gives (with_param p.0 no_params)) p.1) (λ p. choose (is_mark 44) (more m scope p.0) (gives (with_param p.0 no_params)) p.1) refl
      (λ x e.
      let fewer = shorter scope ts x e in
      ap (λ (o : Outcome Params). cond (next_is (is_mark 44) x.1) o (gives (with_param x.0 no_params) x.1))
      (bind_agree (mark_at 44 x.1) (mark_at 44 x.1) (λ comma. entries_to declared k (after_param scope x.0) comma.1 >>= λ others. Ok (with_param x.0 others.0, others.1)) (λ comma. entries_to declared m (after_param scope x.0) comma.1 >>= λ others. Ok (with_param x.0 others.0, others.1)) refl
      (λ y d. let kept = mark_keeps 44 x.1 y d in ap (λ (o : Outcome Params). o >>= λ others. Ok (with_param x.0 others.0, others.1)) (enough k m (after_param scope x.0) y.1 (omega arith) (omega arith))))))

  entries_laws : Lawful n Closes (entries_at declared) (spelled no_scope)
  entries_laws = counted n Closes (λ k. entries_to declared k no_scope) (spelled no_scope) (λ k m ts le lt. enough k m no_scope ts le lt) (λ k le. bounded k le (to_laws k no_scope))
    where
      bounded : (k : ℕ) → n ≤ k → Lawful n Closes (entries_to declared k no_scope) (up_to k no_scope) → Lawful n Closes (entries_to declared k no_scope) (spelled no_scope)
      bounded k le one = record {
        sound = λ ts x e. let t = one.sound ts x e in record { front = t.front; parts = t.parts; spelled = t.spelled.0; again = t.again; alone = t.alone };
        complete = λ a ws rest short s f. one.complete a ws rest short (s, (let less = few no_scope a.params a.variadic ws s in omega arith)) f;
        faults = one.faults;
        begins = one.begins;
      }

  -- ---- up to the closing parenthesis

  abbrev nothing_closed : Spelling Params
  nothing_closed = Made (λ (u : Unit {0}). no_params) (one_token (mark 41))

  abbrev some_closed : Spelling Params
  some_closed = Made (λ (all : Params). all) (λ all. spelled no_scope all ▸ a_mark 41)

  entries_open : (params : List (Param Name TypeV)) (variadic : Bool) (ws : List TokenV) → some_params declared no_scope params variadic ws → Opens (λ t. not (is_mark 41 t)) ws
  entries_open [] false ws s = absurd s
  entries_open [] true ws s = opens_as is_points (λ t. not (is_mark 41 t)) ws (λ t e. points_no_mark t.kind t.text e t refl refl) (points_open declared tt ws s)
    where
      points_no_mark : (k : TokenKind) (text : List ℕ) → punct_is (codes "...") k text ≡ true → (t : TokenV) → t.kind ≡ k → t.text ≡ text → not (is_mark 41 t) ≡ true
      points_no_mark kind.Punct text e t is same = let whole : text ≡ codes "..." = (bytes_decides text (codes "...")).0 e in rw (is, same, whole) refl
      points_no_mark kind.LocalName text e t is same = absurd cc
      points_no_mark kind.GlobalName text e t is same = absurd cc
      points_no_mark kind.Label text e t is same = absurd cc
      points_no_mark kind.Integer text e t is same = absurd cc
      points_no_mark kind.Word text e t is same = absurd cc
      points_no_mark kind.Text text e t is same = absurd cc
  entries_open (p ∷ others) variadic ws s =
      both_opens (λ t. not (is_mark 41 t)) (a_param declared no_scope p) _ ws (λ us o. opens_as (word_of is_type_word) (λ t. not (is_mark 41 t)) us (λ t e. not_mark is_type_word 41 t e) (param_opens declared no_scope p us o)) s

  closed_to : (all : Params) (ws : List TokenV) → some_closed all ws ⊎ nothing_closed all ws → closed_params declared all ws
  closed_to all ws (inl s) = inr (subst (λ (x : Params). Both (spelled no_scope x) (a_mark 41) ws) s.is s.spelled)
  closed_to all ws (inr s) = inl (sym s.is, s.spelled)

  closed_from : (all : Params) (ws : List TokenV) → closed_params declared all ws → some_closed all ws ⊎ nothing_closed all ws
  closed_from all ws (inl s) = inr (record { parts = tt; is = sym s.0; spelled = s.1 })
  closed_from all ws (inr s) = inl (record { parts = all; is = refl; spelled = s })

  close_first : (ws rest : List TokenV) → a_mark 41 ws → Closes (ws ++ rest)
  unfolding next_is
  close_first ws rest s = let o = mark_opens 41 ws s in ap (λ (u : List TokenV). next_is (is_mark 41) (u ++ rest)) o.parts ∙ o.is

  pub params_laws : Lawful n anything (params_at declared) (closed_params declared)
  params_laws = respell n anything (params_at declared) (λ all ws. some_closed all ws ⊎ nothing_closed all ws) (closed_params declared) closed_to closed_from
      (choice n (is_mark 41) anything anything anything (mark_for 41 no_params) (λ ts. entries_at declared ts >>= λ all. mark_for 41 all.0 all.1) nothing_closed some_closed
      (last (λ (u : Unit {0}). no_params) (token_laws n (mark 41)))
      (ended (λ (all : Params). all) entries_laws (token_laws n (mark 41)) (λ ws rest s h. close_first ws rest s))
      (λ all ws s. mark_opens 41 ws s.spelled)
      (λ all ws rest s h. unopened (is_mark 41) ws rest (both_opens (λ t. not (is_mark 41 t)) (spelled no_scope s.parts) (a_mark 41) ws (λ us o. entries_open s.parts.params s.parts.variadic us o) s.spelled))
      (λ rest h. tt) (λ rest h. tt))

  -- ---- heads

  abbrev made_head : List Name → Spelling Header
  made_head values = Made (λ (p : TypeV × (Name × Params)). record { result = p.0; name = p.1.0; params = p.1.1 })
      (λ p. some_words (stops [] true) tt ▸ one_token result_type p.0 ▸ one_token (new_global values) p.1.0 ▸ a_mark 40 ▸ closed_params declared p.1.1)

  result_behind : (of : TypeV) (c : List TokenV → Type 0) (ws rest : List TokenV) → Both (one_token result_type of) c ws → Between (stops [] true) (ws ++ rest)
  result_behind of c ws rest s =
      opens_follow (word_of is_type_word) (Between (stops [] true)) ws rest (λ t us e. type_between t us e)
      (both_opens (word_of is_type_word) (one_token result_type of) c ws (λ us m. one_opens (word_of is_type_word) result_type of us (λ t e. result_word t of e) m) s)

  pub head_laws : (values : List Name) → Lawful n anything (header_at declared values) (a_head declared values)
  head_laws values = respell n anything (header_at declared values) (made_head values) (a_head declared values)
      (λ h ws t. subst (λ (x : Header). a_head declared values x ws) t.is t.spelled)
      (λ h ws t. record { parts = (h.result, (h.name, h.params)); is = refl; spelled = t })
      (past (words_laws (stops [] true) n) (then (token_laws n result_type) (λ (result : TypeV). then (token_laws n (new_global values)) (λ (name : Name).
      pass (token_laws n (mark 40)) (last (λ (params : Params). record { result = result; name = name; params = params }) params_laws)))) (λ p ws rest s h. result_behind p.0 _ ws rest s))
