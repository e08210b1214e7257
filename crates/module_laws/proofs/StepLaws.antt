-- An instruction before others: it is read before anything but `,`, or is a call that words behind it belong to.
use Rattle.std.proofs.Common.{◌≡◌, ℕ, ◌+◌, length, arith, Bool, true, false, List, [], ◌∷◌, ◌++◌, Option, Some, None, Ok, refl, sym, ap, subst, ◌∙◌, append_assoc, ◌⊎◌, inl, inr}
use Rattle.std.specs.Prelude.{codes, not}
use Rattle.std.proofs.lemmas.List.{append-nil}
use Rattle.pv_base.specs.declared.name.Name.{Name}
use Rattle.ir_tree.specs.declared.instruction.Argument.{Argument}
use Rattle.ir_tree.specs.declared.instruction.Callee.{Callee}
use Rattle.ir_tree.specs.declared.instruction.Instruction.{Instruction}
use Rattle.ir_tree.specs.declared.instruction.Instruction.TheVariants as instruction
use Rattle.ir_tree.specs.Trees.{TypeV, ConstantV}
use Rattle.ir_text.specs.Tokens.{TokenV, is_mark, is_word}
use Rattle.ir_text.specs.Reading.{next_is}
use Rattle.ir_text.specs.Choice.{Opens}
use Rattle.ir_text.specs.Leaves.{mark}
use Rattle.ir_text.specs.Lists.{closed_list}
use Rattle.ir_text.specs.Operands.{is_local}
use Rattle.ir_text.specs.Passed.{passed_unless, some_words, words_at, stops}
use Rattle.ir_text.specs.Repeated.{Both, each}
use Rattle.ir_text.specs.Spelled.{one_token}
use Rattle.ir_text.specs.Tails.{a_tail, some_tails}
use Rattle.ir_text.specs.Types.{Known}
use Rattle.ir_text.specs.TypeSpelled.{◌▸◌, a_mark, a_word}
use Rattle.ir_text.proofs.Choices.{token_laws}
use Rattle.ir_text.proofs.Marks.{mark_opens}
use Rattle.ir_text.proofs.PassedLaws.{words_laws}
use Rattle.ir_text.proofs.TailLaws.{tails_laws}
use Rattle.ir_instr.specs.Calls.{answer_type, called}
use Rattle.ir_instr.specs.Instructions.{defined_name, marked_call, call_from, resulting_at, effect_at, instruction_at}
use Rattle.ir_instr.specs.InstructionSpelled.{some_markers, a_function_type, an_argument, a_call, a_result, an_instruction}
use Rattle.ir_instr.specs.Words.{opcodes}
use Rattle.instr_laws.specs.Behind.{BehindCall}
use Rattle.instr_laws.proofs.Attributes.{words_parts, words_of}
use Rattle.instr_laws.proofs.CallLaws.{call_laws}
use Rattle.instr_laws.proofs.Chains.{Tokens, one7}
use Rattle.instr_laws.proofs.DispatchLaws.{comma_behind, call_behind, Unlike, marked_form, a_resulting, form_settled, resulting_call, effect_settled, effect_call}
use Rattle.instr_laws.proofs.InstructionLaws.{markers_words, markers_open, Read, from, unlike_not_local, effect_opens}
use Rattle.instr_laws.proofs.MemoryLaws.{Last}
use Rattle.instr_laws.proofs.Opening.{opened, unopened, both_opens, opens_as, the_word}
use Rattle.instr_laws.proofs.Trails.{tails_none, tails_more, tails_cases}
use Rattle.module_laws.proofs.Leading.{result_opens}
use Rattle.module_laws.proofs.Between.{opens_follow}

abbrev Instr : Type 0
Instr = Instruction Name TypeV ConstantV

abbrev Arguments : Type 0
Arguments = List (Argument Name TypeV ConstantV)

-- ---- tokens in a row

pub either_inside : {a b x y : Tokens} → ((us : List TokenV) → b us → x us ⊎ y us) → (ws : List TokenV) → Both a b ws → Both a x ws ⊎ Both a y ws
either_inside by ws s =
    elim (by s.rest s.rest_spells) [
      | inl h ↦ inl (record { front = s.front; rest = s.rest; parts = s.parts; first_spells = s.first_spells; rest_spells = h })
      | inr h ↦ inr (record { front = s.front; rest = s.rest; parts = s.parts; first_spells = s.first_spells; rest_spells = h })
    ]

pub more_inside : {a b c : Tokens} (m : List TokenV) → ((us : List TokenV) → b us → c (us ++ m)) → (ws : List TokenV) → Both a b ws → Both a c (ws ++ m)
more_inside m to ws s =
    record { front = s.front; rest = s.rest ++ m; parts = ap (λ (u : List TokenV). u ++ m) s.parts ∙ append_assoc s.front s.rest m; first_spells = s.first_spells; rest_spells = to s.rest s.rest_spells }

-- words, and further ones
module _ (stop : TokenV → Bool) where
  units_more : (units others : List (Unit {0})) (us vs : List TokenV) → each (passed_unless stop) units us → each (passed_unless stop) others vs → (all : List (Unit {0})) × each (passed_unless stop) all (us ++ vs)
  units_more [] others us vs s t = (others, subst (λ (w : List TokenV). each (passed_unless stop) others (w ++ vs)) (sym s) t)
  units_more (u ∷ units) others us vs s t =
      let more = units_more units others s.rest vs s.rest_spells t in
      (u ∷ more.0, record { front = s.front; rest = s.rest ++ vs; parts = ap (λ (w : List TokenV). w ++ vs) s.parts ∙ append_assoc s.front s.rest vs; first_spells = s.first_spells; rest_spells = more.1 })

  words_append : (us vs : List TokenV) → some_words stop tt us → some_words stop tt vs → some_words stop tt (us ++ vs)
  words_append us vs s t =
      let a = words_parts stop us s in
      let b = words_parts stop vs t in
      let both = units_more a.0 b.0 us vs a.1 b.1 in
      words_of stop both.0 (us ++ vs) both.1

-- ---- calls

abbrev none_behind : Tokens
none_behind ws = ws ≡ []

abbrev one_behind : Tokens
one_behind = a_mark 44 ▸ a_tail tt ▸ some_tails tt

abbrev pub Words : List TokenV → Type 0
Words = some_words (stops opcodes false) tt

module _ (known : Known) (to : Option Name) (of : TypeV) (variadic : Bool) (what : Callee Name) (arguments : Arguments) where
  -- a call with this behind its words
  abbrev call_with : Tokens → Tokens
  call_with tail =
      some_markers ▸ a_word (codes "call") ▸ some_words (stops [] true) tt ▸ one_token (answer_type to) of ▸ a_function_type variadic ▸ one_token (called variadic) what
      ▸ a_mark 40 ▸ closed_list 41 (an_argument known) arguments ▸ some_words (stops opcodes false) tt ▸ tail

  call_cases : (ws : List TokenV) → a_call known to of variadic what arguments ws → call_with none_behind ws ⊎ call_with one_behind ws
  call_cases = either_inside (either_inside (either_inside (either_inside (either_inside (either_inside (either_inside (either_inside (either_inside tails_cases))))))))

  -- without tails further words belong to it
  more_words : (m : List TokenV) → Words m → (us : List TokenV) → (some_words (stops opcodes false) tt ▸ none_behind) us → (some_words (stops opcodes false) tt ▸ some_tails tt) (us ++ m)
  more_words m w us s =
      let is : us ≡ s.front = s.parts ∙ ap (λ (v : List TokenV). s.front ++ v) s.rest_spells ∙ append-nil s.front in
      record { front = s.front ++ m; rest = []; parts = ap (λ (v : List TokenV). v ++ m) is ∙ sym (append-nil (s.front ++ m)); first_spells = words_append (stops opcodes false) s.front m s.first_spells w; rest_spells = tails_none }

  call_more : (m : List TokenV) → Words m → (ws : List TokenV) → call_with none_behind ws → a_call known to of variadic what arguments (ws ++ m)
  call_more m w = more_inside m (more_inside m (more_inside m (more_inside m (more_inside m (more_inside m (more_inside m (more_inside m (more_words m w))))))))

  -- with tails it is read before anything but `,`
  abbrev Is : Instr
  Is = instruction.Call to of variadic what arguments

  tail_behind : (ws rest : List TokenV) → one_behind ws → BehindCall (ws ++ rest)
  tail_behind ws rest s = opens_follow (is_mark 44) BehindCall ws rest comma_behind (both_opens (is_mark 44) (a_mark 44) _ ws (λ us o. mark_opens 44 us o) s)

  call_settled : (t : TokenV) (ws rest : List TokenV) → call_with one_behind ws → Last rest → call_from known to t (ws ++ rest) ≡ Ok (Is, rest)
  unfolding marked_call
  call_settled t ws rest s h =
      let c = s.rest_spells in
      let w = c.first_spells in
      let b = one7 c.rest c.rest_spells in
      let n : ℕ = length s.front + length b.front + length b.rest in
      let e : is_word (codes "call") w.token ≡ true = the_word (codes "call") w.token tt w.is in
      let cut : ws ++ rest ≡ s.front ++ (w.token ∷ (c.rest ++ rest)) =
      ap (λ (u : List TokenV). u ++ rest) s.parts ∙ append_assoc s.front s.rest rest ∙ ap (λ (u : List TokenV). s.front ++ (u ++ rest)) (c.parts ∙ ap (λ (u : List TokenV). u ++ c.rest) w.parts) in
      let inner : c.rest ++ rest ≡ b.front ++ (b.rest ++ rest) = ap (λ (u : List TokenV). u ++ rest) b.parts ∙ append_assoc b.front b.rest rest in
      let words : words_at (stops opcodes false) (s.front ++ (w.token ∷ (c.rest ++ rest))) ≡ Ok (tt, w.token ∷ (c.rest ++ rest)) =
      (words_laws (stops opcodes false) n).complete tt s.front (w.token ∷ (c.rest ++ rest)) (omega arith) (markers_words s.front s.first_spells) (call_behind (w.token ∷ []) (c.rest ++ rest) (record { token = w.token; parts = refl; is = w.is })) in
      let form = (call_laws n known to).complete Is b.front (b.rest ++ rest) (omega arith) (record { parts = (of, (variadic, (what, arguments))); is = refl; spelled = b.first_spells }) (tail_behind b.rest rest b.rest_spells) in
      let tails = (tails_laws n).complete tt b.rest rest (omega arith) (tails_more b.rest b.rest_spells) h in
      ap (call_from known to t) cut ∙ rw words (rw e (rw inner (rw form (rw tails refl))))

-- ---- an instruction

abbrev is_call : Instr → Bool
is_call (instruction.Call to of variadic what arguments) = true
is_call _ = false

module _ (known : Known) (next : ℕ) (defined : List Name) where
  abbrev Spelled : Instr → Tokens
  Spelled i ws = an_instruction known next defined i ws

  -- it is read before anything but `,`
  abbrev pub Settled : Instr → Tokens
  Settled i ws = (rest : List TokenV) → Last rest → instruction_at known next defined (ws ++ rest) ≡ Ok (i, rest)

  -- words behind it belong to it
  abbrev pub Extends : Instr → Tokens
  Extends i ws = (m : List TokenV) → Words m → Spelled i (ws ++ m)

  result_local : (to : Name) (c : Tokens) (ws rest : List TokenV) → (a_result known next defined to ▸ c) ws → next_is is_local (ws ++ rest) ≡ true
  result_local to c ws rest s = opened is_local ws rest (result_opens known next defined to c ws s)

  -- what stands behind `%r =` is read alike
  assigned : (to : Name) (i : Instr) (pre us rest : List TokenV) → a_result known next defined to pre → resulting_at known to (us ++ rest) ≡ Ok (i, rest) → instruction_at known next defined ((pre ++ us) ++ rest) ≡ Ok (i, rest)
  assigned to i pre us rest r read =
      let n : ℕ = length r.front + length r.rest in
      let cut : (pre ++ us) ++ rest ≡ r.front ++ (r.rest ++ (us ++ rest)) = append_assoc pre us rest ∙ ap (λ (v : List TokenV). v ++ (us ++ rest)) r.parts ∙ append_assoc r.front r.rest (us ++ rest) in
      let here : next_is is_local ((pre ++ us) ++ rest) ≡ true = result_local to (λ vs. vs ≡ us) (pre ++ us) rest (record { front = pre; rest = us; parts = refl; first_spells = r; rest_spells = refl }) in
      let name = (token_laws n (defined_name next defined)).complete to r.front (r.rest ++ (us ++ rest)) (omega arith) r.first_spells tt in
      let equals = (token_laws n (mark 61)).complete tt r.rest (us ++ rest) (omega arith) r.rest_spells tt in
      rw here (rw cut (rw name (rw equals read)))

  not_marked : (to : Option Name) (i : Instr) (ws : List TokenV) → is_call i ≡ false → marked_form 0 known to i ws → ⊥
  not_marked to i ws plain m =
      let f = m.rest_spells.rest_spells.first_spells in
      let clash : true ≡ false = ap is_call f.is ∙ plain in absurd cc

  plain_settled : (i : Instr) (ws : List TokenV) → is_call i ≡ false → Read (length ws) known next defined i ws → Settled i ws
  plain_settled i ws plain (inl (inl f)) rest h =
      let other : next_is is_local (ws ++ rest) ≡ false = unopened is_local ws rest (effect_opens (length ws) known next defined i ws (inl f)) in
      rw other (effect_settled known (length ws) i ws rest (omega arith) f h)
  plain_settled i ws plain (inl (inr m)) rest h = absurd (not_marked None i ws plain m.0)
  plain_settled i ws plain (inr a) rest h = by_form a.rest_spells.rest_spells
    where
      by_form : a_resulting known a.value (length ws) i a.rest_spells.rest → instruction_at known next defined (ws ++ rest) ≡ Ok (i, rest)
      by_form (inr m) = absurd (not_marked (Some a.value) i a.rest_spells.rest plain m.0)
      by_form (inl f) =
          let r = a.rest_spells in
          let whole : ws ≡ (a.front ++ r.front) ++ r.rest = a.parts ∙ ap (λ (u : List TokenV). a.front ++ u) r.parts ∙ sym (append_assoc a.front r.front r.rest) in
          let read = form_settled known a.value (length r.rest) i r.rest rest (omega arith) f h in
          ap (λ (u : List TokenV). instruction_at known next defined (u ++ rest)) whole
          ∙ assigned a.value i (a.front ++ r.front) r.rest rest (record { front = a.front; rest = r.front; parts = refl; first_spells = a.first_spells; rest_spells = r.first_spells }) read

  plain_cases : (i : Instr) (ws : List TokenV) → is_call i ≡ false → Spelled i ws → Settled i ws ⊎ Extends i ws
  plain_cases i ws plain s = inl (plain_settled i ws plain (from (length ws) known next defined i ws s))

  module _ (of : TypeV) (variadic : Bool) (what : Callee Name) (arguments : Arguments) where
    unlike_first : (c : Tokens) (ws : List TokenV) → (some_markers ▸ a_word (codes "call") ▸ c) ws → Opens Unlike ws
    unlike_first c ws s = markers_open c ws s.front s.rest s.parts s.first_spells s.rest_spells

    bare_settled : (ws : List TokenV) → call_with known None of variadic what arguments one_behind ws → Settled (instruction.Call None of variadic what arguments) ws
    bare_settled ws s rest h =
        let o = unlike_first _ ws s in
        let is : ws ++ rest ≡ o.token ∷ (o.rest ++ rest) = ap (λ (u : List TokenV). u ++ rest) o.parts in
        let other : next_is is_local (ws ++ rest) ≡ false = unopened is_local ws rest (opens_as Unlike (λ t. not (is_local t)) ws (λ t e. unlike_not_local 0 known next defined t.kind t.text e) o) in
        let read : call_from known None o.token (o.token ∷ (o.rest ++ rest)) ≡ Ok (instruction.Call None of variadic what arguments, rest) = ap (call_from known None o.token) (sym is) ∙ call_settled known None of variadic what arguments o.token ws rest s h in
        rw other (ap (effect_at known) is ∙ sym (effect_call known 0 o.token (o.rest ++ rest) o.is) ∙ read)

    result_settled : (to : Name) (ws : List TokenV) → (a_result known next defined to ▸ call_with known (Some to) of variadic what arguments one_behind) ws → Settled (instruction.Call (Some to) of variadic what arguments) ws
    result_settled to ws s rest h =
        let c = s.rest_spells in
        let o = unlike_first _ s.rest c in
        let is : s.rest ++ rest ≡ o.token ∷ (o.rest ++ rest) = ap (λ (u : List TokenV). u ++ rest) o.parts in
        let read : call_from known (Some to) o.token (o.token ∷ (o.rest ++ rest)) ≡ Ok (instruction.Call (Some to) of variadic what arguments, rest) = ap (call_from known (Some to) o.token) (sym is) ∙ call_settled known (Some to) of variadic what arguments o.token s.rest rest c h in
        let inner = ap (resulting_at known to) is ∙ sym (resulting_call known to 0 o.token (o.rest ++ rest) o.is) ∙ read in
        ap (λ (u : List TokenV). instruction_at known next defined (u ++ rest)) s.parts ∙ assigned to (instruction.Call (Some to) of variadic what arguments) s.front s.rest rest s.first_spells inner

    bare_cases : (ws : List TokenV) → Spelled (instruction.Call None of variadic what arguments) ws → Settled (instruction.Call None of variadic what arguments) ws ⊎ Extends (instruction.Call None of variadic what arguments) ws
    bare_cases ws s =
        elim (call_cases known None of variadic what arguments ws s) [
          | inl none ↦ inr (λ m w. call_more known None of variadic what arguments m w ws none)
          | inr some ↦ inl (bare_settled ws some)
        ]

    result_cases : (to : Name) (ws : List TokenV) → Spelled (instruction.Call (Some to) of variadic what arguments) ws → Settled (instruction.Call (Some to) of variadic what arguments) ws ⊎ Extends (instruction.Call (Some to) of variadic what arguments) ws
    result_cases to ws s =
        elim (either_inside (call_cases known (Some to) of variadic what arguments) ws s) [
          | inl none ↦ inr (λ m w. more_inside m (call_more known (Some to) of variadic what arguments m w) ws none)
          | inr some ↦ inl (result_settled to ws some)
        ]

  -- either of both
  pub step_cases : (i : Instr) (ws : List TokenV) → Spelled i ws → Settled i ws ⊎ Extends i ws
  step_cases (instruction.Call None of variadic what arguments) ws s = bare_cases of variadic what arguments ws s
  step_cases (instruction.Call (Some to) of variadic what arguments) ws s = result_cases of variadic what arguments to ws s
  step_cases (instruction.Binary to operation flags of left right) ws s = plain_cases _ ws refl s
  step_cases (instruction.Cast to operation flags of value target) ws s = plain_cases _ ws refl s
  step_cases (instruction.Freeze to of value) ws s = plain_cases _ ws refl s
  step_cases (instruction.Compare to pred of left right) ws s = plain_cases _ ws refl s
  step_cases (instruction.Select to condition of on_true on_false) ws s = plain_cases _ ws refl s
  step_cases (instruction.Phi to of arms) ws s = plain_cases _ ws refl s
  step_cases (instruction.Alloca to of count) ws s = plain_cases _ ws refl s
  step_cases (instruction.Load to of pointer) ws s = plain_cases _ ws refl s
  step_cases (instruction.Store of value pointer) ws s = plain_cases _ ws refl s
  step_cases (instruction.Address to inbounds of base indices) ws s = plain_cases _ ws refl s
  step_cases (instruction.Return value) ws s = plain_cases _ ws refl s
  step_cases (instruction.Jump target) ws s = plain_cases _ ws refl s
  step_cases (instruction.Branch condition on_true on_false) ws s = plain_cases _ ws refl s
  step_cases (instruction.Switch of value default cases) ws s = plain_cases _ ws refl s
  step_cases instruction.Unreachable ws s = plain_cases _ ws refl s
