-- The laws of an instruction by its first word.
use Rattle.std.proofs.Common.{◌≡◌, ℕ, ◌+◌, ◌≤◌, length, arith, Bool, true, false, cond, List, [], ◌∷◌, ◌++◌, Option, Some, None, Ok, Err, refl, sym, ap, subst, ◌∙◌, ◌⊎◌, inl, inr}
use Rattle.std.specs.Prelude.{codes, not}
use Rattle.std.proofs.lemmas.List.{length-append}
use lib.Pointwise.{bytes_decides}
use Rattle.pv_base.specs.declared.name.Name.{Name}
use Rattle.ir_lex.specs.declared.token.TokenKind.{TokenKind}
use Rattle.ir_lex.specs.declared.token.TokenKind.TheVariants as kind
use Rattle.ir_lex.specs.declared.token.Cause.TheVariants as causes
use Rattle.int_num.specs.declared.ops.BinOp.{BinOp}
use Rattle.int_num.specs.declared.ops.CastOp.{CastOp}
use Rattle.ir_tree.specs.declared.instruction.Instruction.{Instruction}
use Rattle.ir_tree.specs.declared.instruction.Instruction.TheVariants as instruction
use Rattle.ir_tree.specs.Trees.{TypeV, ConstantV}
use Rattle.ir_text.specs.declared.fault.Fault.TheVariants.{Ended}
use Rattle.ir_text.specs.Tokens.{TokenV, same, among, is_mark, is_word, word_is, punct_is, blamed}
use Rattle.ir_text.specs.Reading.{Outcome, Reader, ◌>>=◌, next_is, wrong}
use Rattle.ir_text.specs.Choice.{choose, Opens}
use Rattle.ir_text.specs.Lawful.{Follow, Behind, anything, Lawful, Refuses}
use Rattle.ir_text.specs.Passed.{AfterPassed, may_pass, may_pass_by, stops, stops_at, words_at, some_words}
use Rattle.ir_text.specs.Repeated.{Both}
use Rattle.ir_text.specs.Spelled.{Led, nothing, never, by_test, unless}
use Rattle.ir_text.specs.Tails.{tails_at, some_tails}
use Rattle.ir_text.specs.Types.{Known}
use Rattle.ir_text.specs.TypeSpelled.{◌▸◌, a_word}
use Rattle.ir_text.proofs.Laws.{nothing_laws}
use Rattle.ir_text.proofs.Choices.{weaken, respell, led, dead}
use Rattle.ir_text.proofs.ChoiceLaws.{choice}
use Rattle.ir_text.proofs.Marks.{apart}
use Rattle.ir_text.proofs.PassedLaws.{words_laws}
use Rattle.ir_text.proofs.Persisting.{Takers}
use Rattle.ir_text.proofs.TailLaws.{tails_laws}
use Rattle.ir_instr.specs.Words.{meaning_of, operations, casts, resultless, opcodes}
use Rattle.ir_instr.specs.Instructions.{with_tails, marked_call, call_from, cast_or_other, binary_or_other, resulting_by, resulting_at, effect_by, effect_at}
use Rattle.ir_instr.specs.Arithmetic.{binary_at}
use Rattle.ir_instr.specs.Casts.{cast_at, freeze_at}
use Rattle.ir_instr.specs.Comparing.{compare_at}
use Rattle.ir_instr.specs.Selecting.{select_at, phi_at}
use Rattle.ir_instr.specs.Memory.{alloca_at, load_at, store_at}
use Rattle.ir_instr.specs.Addresses.{address_at}
use Rattle.ir_instr.specs.Control.{return_at, jump_or_branch_at, switch_at}
use Rattle.ir_instr.specs.Calls.{call_at}
use Rattle.instr_laws.specs.Made.{Made}
use Rattle.instr_laws.specs.Behind.{BehindCall, BehindInstruction}
use Rattle.instr_laws.specs.Forms.{Form, a_binary, a_cast, a_freeze, a_compare, a_select, a_load, a_store, a_return, a_jump_or_branch, a_switch, an_alloca, a_phi, an_address, a_call_form}
use Rattle.instr_laws.proofs.Rows.{itself, ended}
use Rattle.instr_laws.proofs.Opening.{word_by, word_of, the_word, the_mark}
use Rattle.instr_laws.proofs.Said.{reread}
use Rattle.instr_laws.proofs.Restricted.{only, only_laws}
use Rattle.instr_laws.proofs.Trails.{tails_cases}
use Rattle.instr_laws.proofs.FormLaws.{binary_laws, cast_laws, freeze_laws, compare_laws, select_laws, load_laws, store_laws}
use Rattle.instr_laws.proofs.ControlLaws.{return_laws, jump_or_branch_laws, switch_laws}
use Rattle.instr_laws.proofs.MemoryLaws.{Last, alloca_laws}
use Rattle.instr_laws.proofs.PhiLaws.{phi_laws}
use Rattle.instr_laws.proofs.AddressLaws.{address_laws}
use Rattle.instr_laws.proofs.CallLaws.{call_laws, stopped, word_after, mark_after}
use Rattle.instr_laws.proofs.Blaming.{blaming, marked, marked_laws}
use Rattle.instr_laws.proofs.Opcodes.{listed, unlisted, only_resultless}

abbrev pub Instr : Type 0
Instr = Instruction Name TypeV ConstantV

-- ---- what is passed over behind a form

abbrev pub tailed : Form → Form
tailed form i = Both (form i) (some_tails tt)

abbrev pub Unlike : TokenV → Bool
Unlike t = word_of (λ text. not (listed text)) t

to_last : (rest : List TokenV) → BehindInstruction rest → Last rest
to_last rest h = record { none = h.none; fits = tt }

module _ (n : ℕ) where
  end_laws : Lawful n BehindInstruction tails_at some_tails
  end_laws = weaken n Last BehindInstruction tails_at some_tails to_last (tails_laws n)

  tailed_laws : (r : Reader Instr) (s : Form) → Lawful n anything r s → Lawful n Last (with_tails r) (tailed s)
  tailed_laws r s laws = itself (ended (λ (i : Instr). i) laws (tails_laws n) (λ ws rest t h. tt))

-- a comma goes on with nothing that was passed over
no_pass_by : (b : ℕ) (stop : TokenV → Bool) (k : TokenKind) (t : TokenV) → t.kind ≡ k → punct_is (35 ∷ []) kind.Punct (b ∷ []) ≡ false → punct_is (b ∷ []) k t.text ≡ true → may_pass_by k stop t ≡ false
no_pass_by b stop kind.Punct t is other e = apart b 35 t other (ap (λ (j : TokenKind). punct_is (b ∷ []) j t.text) is ∙ e)
no_pass_by b stop kind.Word t is other e = absurd cc
no_pass_by b stop kind.GlobalName t is other e = absurd cc
no_pass_by b stop kind.LocalName t is other e = absurd cc
no_pass_by b stop kind.Label t is other e = absurd cc
no_pass_by b stop kind.Integer t is other e = absurd cc
no_pass_by b stop kind.Text t is other e = absurd cc

no_pass : (b : ℕ) (stop : TokenV → Bool) (t : TokenV) → punct_is (35 ∷ []) kind.Punct (b ∷ []) ≡ false → is_mark b t ≡ true → may_pass stop t ≡ false
unfolding may_pass
no_pass b stop t other e = no_pass_by b stop t.kind t refl other e

pub comma_behind : (t : TokenV) (rest : List TokenV) → is_mark 44 t ≡ true → BehindCall (t ∷ rest)
unfolding next_is
comma_behind t rest e = record { none = apart 44 91 t refl e; fits = record { none = no_pass 44 (stops opcodes false) t refl e; fits = mark_after 44 t rest refl refl e } }

tails_behind : (ws rest : List TokenV) → some_tails tt ws → BehindInstruction rest → BehindCall (ws ++ rest)
tails_behind ws rest s h =
    elim (tails_cases ws s) [
      | inl none ↦ subst (λ (u : List TokenV). BehindCall (u ++ rest)) (sym none) h.fits
      | inr more ↦
          let m = more.first_spells in
          let is : ws ++ rest ≡ m.token ∷ (more.rest ++ rest) = ap (λ (u : List TokenV). u ++ rest) (more.parts ∙ ap (λ (u : List TokenV). u ++ more.rest) m.parts) in
          subst BehindCall (sym is) (comma_behind m.token (more.rest ++ rest) (the_mark 44 m.token tt m.is))
    ]

-- ---- calls with markers before the word

call_stops_by : (k : TokenKind) (text : List ℕ) → word_is (codes "call") k text ≡ true → stops_at opcodes false text ≡ true
unfolding stops_at among
call_stops_by kind.Word text e = let here : text ≡ codes "call" = (bytes_decides text (codes "call")).0 e in rw here refl
call_stops_by kind.Punct text e = absurd cc
call_stops_by kind.GlobalName text e = absurd cc
call_stops_by kind.LocalName text e = absurd cc
call_stops_by kind.Label text e = absurd cc
call_stops_by kind.Integer text e = absurd cc
call_stops_by kind.Text text e = absurd cc

abbrev is_call : TokenV → Bool
is_call t = is_word (codes "call") t

call_word_by : (k : TokenKind) (text : List ℕ) → word_is (codes "call") k text ≡ true → word_by (λ w. same w (codes "call")) k text ≡ true
call_word_by kind.Word text e = e
call_word_by kind.Punct text e = absurd cc
call_word_by kind.GlobalName text e = absurd cc
call_word_by kind.LocalName text e = absurd cc
call_word_by kind.Label text e = absurd cc
call_word_by kind.Integer text e = absurd cc
call_word_by kind.Text text e = absurd cc

abbrev Between : Follow
Between = Behind (may_pass (stops opcodes false)) AfterPassed

pub call_behind : (ws rest : List TokenV) → a_word (codes "call") ws → Between (ws ++ rest)
unfolding next_is
call_behind ws rest s =
    let e = the_word (codes "call") s.token tt s.is in
    let w : word_of (λ x. same x (codes "call")) s.token ≡ true = call_word_by s.token.kind s.token.text e in
    let is : ws ++ rest ≡ s.token ∷ rest = ap (λ (u : List TokenV). u ++ rest) s.parts in
    subst Between (sym is) (record { none = stopped (λ x. same x (codes "call")) (stops opcodes false) s.token (λ h. call_stops_by s.token.kind s.token.text e) w; fits = word_after (λ x. same x (codes "call")) s.token rest w })

module _ (n : ℕ) (known : Known) (to : Option Name) where
  tailed_call_laws : Lawful n BehindInstruction (with_tails (call_at known to)) (tailed (a_call_form known to))
  tailed_call_laws = itself (ended (λ (i : Instr). i) (call_laws n known to) (end_laws n) tails_behind)

  abbrev marked_reader : Reader Instr
  marked_reader = marked n Between BehindInstruction (words_at (stops opcodes false)) (some_words (stops opcodes false)) is_call (with_tails (call_at known to)) (tailed (a_call_form known to)) causes.Instruction (words_laws (stops opcodes false) n) tailed_call_laws call_behind

  abbrev pub marked_form : Form
  marked_form i = some_words (stops opcodes false) tt ▸ a_word (codes "call") ▸ tailed (a_call_form known to) i

  marked_call_laws : Lawful n BehindInstruction marked_reader marked_form
  marked_call_laws = marked_laws n Between BehindInstruction (words_at (stops opcodes false)) (some_words (stops opcodes false)) is_call (with_tails (call_at known to)) (tailed (a_call_form known to)) causes.Instruction (words_laws (stops opcodes false) n) tailed_call_laws call_behind

  marked_takes : Takers marked_form
  marked_takes i ws s =
      let c = s.rest_spells.first_spells in
      let size : length ws ≡ length s.front + length s.rest = ap length s.parts ∙ length-append s.front s.rest in
      let inner : length s.rest ≡ length s.rest_spells.front + length s.rest_spells.rest = ap length s.rest_spells.parts ∙ length-append s.rest_spells.front s.rest_spells.rest in
      let one = ap length c.parts in omega arith

  from_is : (t : TokenV) (rest : List TokenV) → marked_reader (t ∷ rest) ≡ call_from known to t (t ∷ rest)
  unfolding marked_call
  from_is t rest = each (words_at (stops opcodes false) (t ∷ rest))
    where
      inner : (us : List TokenV) → blaming n Between BehindInstruction (words_at (stops opcodes false)) (some_words (stops opcodes false)) is_call (with_tails (call_at known to)) (tailed (a_call_form known to)) causes.Instruction (words_laws (stops opcodes false) n) tailed_call_laws call_behind t us ≡ marked_call known to t us
      inner [] = refl
      inner (u ∷ us) = refl

      each : (o : Outcome (Unit {0})) → (o >>= λ x. blaming n Between BehindInstruction (words_at (stops opcodes false)) (some_words (stops opcodes false)) is_call (with_tails (call_at known to)) (tailed (a_call_form known to)) causes.Instruction (words_laws (stops opcodes false) n) tailed_call_laws call_behind t x.1) ≡ (o >>= λ passed. marked_call known to t passed.1)
      each (Ok x) = inner x.1
      each (Err e) = refl

  abbrev only_marked : Reader Instr
  only_marked = only n BehindInstruction Unlike marked_reader marked_form marked_call_laws marked_takes

  only_marked_laws : Lawful n BehindInstruction only_marked (λ i ws. marked_form i ws × Opens Unlike ws)
  only_marked_laws = only_laws n BehindInstruction Unlike marked_reader marked_form marked_call_laws marked_takes

-- ---- with a result

refused : (t : TokenV) → Refuses {A = Instr} (λ rest. wrong t causes.Instruction) never t
refused t = record { cause = blamed t causes.Instruction; refused = λ rest. refl; unspelled = λ i ws s. s }

abbrev Each : ℕ → TokenV → Reader Instr → Form → Type 0
Each n t r s = Lawful n Last r s ⊎ Refuses r s t

module _ (known : Known) (to : Name) where
  abbrev pub by_word : List ℕ → Form
  by_word text =
      by_test (same text (codes "freeze")) (tailed (a_freeze known to))
      (by_test (same text (codes "icmp")) (tailed (a_compare known to))
      (by_test (same text (codes "select")) (tailed (a_select known to))
      (by_test (same text (codes "phi")) (a_phi known to)
      (by_test (same text (codes "alloca")) (an_alloca known to)
      (by_test (same text (codes "load")) (tailed (a_load known to))
      (by_test (same text (codes "getelementptr")) (an_address known to) never))))))

  abbrev pub by_cast : Option CastOp → List ℕ → Form
  by_cast (Some operation) text = tailed (a_cast known to operation)
  by_cast None text = by_word text

  abbrev pub by_operation : Option BinOp → List ℕ → Form
  by_operation (Some operation) text = tailed (a_binary known to operation)
  by_operation None text = by_cast (meaning_of casts text) text

  abbrev pub by_kind : TokenKind → List ℕ → Form
  by_kind kind.Word text = by_operation (meaning_of operations text) text
  by_kind _ text = never

  -- a form by its word, unless the word begins no instruction but a call
  abbrev pub led_form : TokenKind → List ℕ → Form
  led_form k text = unless (word_by (λ w. not (listed w)) k text) (by_kind k text)

  abbrev pub a_form : Form
  a_form = Led (λ t. led_form t.kind t.text)

  form_at : Reader Instr
  form_at [] = Err Ended
  form_at (t ∷ rest) = cond (Unlike t) (Err Ended) (resulting_by known t.kind to t rest)

  module _ (n : ℕ) where
    word_each : (t : TokenV) (a b c d e f g h : Bool) → (a ≡ false → b ≡ false → c ≡ false → d ≡ false → e ≡ false → f ≡ false → g ≡ false → h ≡ true)
        → Each n t (λ rest. cond a (with_tails (freeze_at known to) rest) (cond b (with_tails (compare_at known to) rest) (cond c (with_tails (select_at known to) rest) (cond d (phi_at known to rest) (cond e (alloca_at known to rest) (cond f (with_tails (load_at known to) rest)
        (cond g (address_at known to rest) (cond h (wrong t causes.Instruction) (call_from known (Some to) t (t ∷ rest))))))))))
        (by_test a (tailed (a_freeze known to)) (by_test b (tailed (a_compare known to)) (by_test c (tailed (a_select known to)) (by_test d (a_phi known to) (by_test e (an_alloca known to) (by_test f (tailed (a_load known to)) (by_test g (an_address known to) never)))))))
    word_each t true b c d e f g h end = inl (tailed_laws n (freeze_at known to) (a_freeze known to) (freeze_laws n known to))
    word_each t false true c d e f g h end = inl (tailed_laws n (compare_at known to) (a_compare known to) (compare_laws n known to))
    word_each t false false true d e f g h end = inl (tailed_laws n (select_at known to) (a_select known to) (select_laws n known to))
    word_each t false false false true e f g h end = inl (phi_laws n known to)
    word_each t false false false false true f g h end = inl (alloca_laws n known to)
    word_each t false false false false false true g h end = inl (tailed_laws n (load_at known to) (a_load known to) (load_laws n known to))
    word_each t false false false false false false true h end = inl (address_laws n known to)
    word_each t false false false false false false false true end = inr (refused t)
    word_each t false false false false false false false false end = let clash : false ≡ true = end refl refl refl refl refl refl refl in absurd cc

    cast_each : (t : TokenV) (o : Option CastOp) → listed t.text ≡ true → meaning_of operations t.text ≡ None → meaning_of casts t.text ≡ o → Each n t (cast_or_other known o to t) (by_cast o t.text)
    cast_each t (Some operation) is none e = inl (tailed_laws n (cast_at known to operation) (a_cast known to operation) (cast_laws n known to operation))
    cast_each t None is none e = word_each t (same t.text (codes "freeze")) (same t.text (codes "icmp")) (same t.text (codes "select")) (same t.text (codes "phi")) (same t.text (codes "alloca")) (same t.text (codes "load")) (same t.text (codes "getelementptr")) (among resultless t.text) (only_resultless t.text is none e)

    operation_each : (t : TokenV) (o : Option BinOp) → listed t.text ≡ true → meaning_of operations t.text ≡ o → Each n t (binary_or_other known o to t) (by_operation o t.text)
    operation_each t (Some operation) is e = inl (tailed_laws n (binary_at known to operation) (a_binary known to operation) (binary_laws n known to operation))
    operation_each t None is e = cast_each t (meaning_of casts t.text) is e refl

    not_false : (b : Bool) → not b ≡ false → b ≡ true
    not_false true e = refl
    not_false false e = absurd cc

    kind_each : (k : TokenKind) (t : TokenV) (b : Bool) → word_by (λ w. not (listed w)) k t.text ≡ b → Each n t (λ rest. cond b (Err Ended) (resulting_by known k to t rest)) (unless b (by_kind k t.text))
    kind_each k t true is = inl (dead n Last)
    kind_each kind.Word t false is = operation_each t (meaning_of operations t.text) (not_false (listed t.text) is) refl
    kind_each kind.Punct t false is = inr (refused t)
    kind_each kind.GlobalName t false is = inr (refused t)
    kind_each kind.LocalName t false is = inr (refused t)
    kind_each kind.Label t false is = inr (refused t)
    kind_each kind.Integer t false is = inr (refused t)
    kind_each kind.Text t false is = inr (refused t)

    form_laws : Lawful n Last form_at a_form
    unfolding form_at
    form_laws = led n Last form_at (λ t rest. cond (Unlike t) (Err Ended) (resulting_by known t.kind to t rest)) (λ t. led_form t.kind t.text) refl (λ t rest. refl) (λ t. kind_each t.kind t (Unlike t) refl)

    -- a call where the word begins no other instruction
    call_there_by : (k : TokenKind) (t : TokenV) (rest : List TokenV) → word_by (λ w. not (listed w)) k t.text ≡ true → call_from known (Some to) t (t ∷ rest) ≡ resulting_by known k to t rest
    call_there_by kind.Word t rest e =
        let u = unlisted t.text (not_listed (listed t.text) e) in
        rw (u.operations_none, u.casts_none, u.freeze_none, u.icmp_none, u.select_none, u.phi_none, u.alloca_none, u.load_none, u.getelementptr_none, u.resultless_none) refl
      where
        not_listed : (b : Bool) → not b ≡ true → b ≡ false
        not_listed true h = absurd cc
        not_listed false h = refl
    call_there_by kind.Punct t rest e = absurd cc
    call_there_by kind.GlobalName t rest e = absurd cc
    call_there_by kind.LocalName t rest e = absurd cc
    call_there_by kind.Label t rest e = absurd cc
    call_there_by kind.Integer t rest e = absurd cc
    call_there_by kind.Text t rest e = absurd cc

    by_first : (ts : List TokenV) → choose Unlike (only_marked n known (Some to)) form_at ts ≡ resulting_at known to ts
    unfolding form_at resulting_at next_is
    by_first [] = refl
    by_first (t ∷ rest) = by_unlike (Unlike t) refl
      where
        by_unlike : (b : Bool) → Unlike t ≡ b → cond b (cond b (marked_reader n known (Some to) (t ∷ rest)) (Err Ended)) (cond b (Err Ended) (resulting_by known t.kind to t rest)) ≡ resulting_by known t.kind to t rest
        by_unlike true is = from_is n known (Some to) t rest ∙ call_there_by t.kind t rest is
        by_unlike false is = refl

    form_unlike : (i : Instr) (ws rest : List TokenV) → a_form i ws → next_is Unlike (ws ++ rest) ≡ false
    unfolding next_is
    form_unlike i ws rest s = ap (λ (u : List TokenV). next_is Unlike (u ++ rest)) s.parts ∙ by_unlike (Unlike s.token) s.rest_spells
      where
        by_unlike : (b : Bool) → unless b (by_kind s.token.kind s.token.text) i s.rest → b ≡ false
        by_unlike true u = absurd u
        by_unlike false u = refl

    -- a form but a call is read before anything but `,`
    pub form_settled : (i : Instr) (ws rest : List TokenV) → length ws ≤ n → a_form i ws → Last rest → resulting_at known to (ws ++ rest) ≡ Ok (i, rest)
    form_settled i ws rest short s h = let other = form_unlike i ws rest s in sym (by_first (ws ++ rest)) ∙ rw other (form_laws.complete i ws rest short s h)

    -- and a call, from a word that begins no other instruction
    pub resulting_call : (t : TokenV) (rest : List TokenV) → Unlike t ≡ true → call_from known (Some to) t (t ∷ rest) ≡ resulting_at known to (t ∷ rest)
    unfolding resulting_at
    resulting_call t rest e = call_there_by t.kind t rest e

    abbrev pub a_resulting : Form
    a_resulting i ws = a_form i ws ⊎ (marked_form n known (Some to) i ws × Opens Unlike ws)

    pub resulting_laws : Lawful n BehindInstruction (resulting_at known to) a_resulting
    resulting_laws =
        reread n BehindInstruction (λ ts. choose Unlike (only_marked n known (Some to)) form_at ts) (resulting_at known to) a_resulting by_first
        (choice n Unlike BehindInstruction Last BehindInstruction (only_marked n known (Some to)) form_at (λ i ws. marked_form n known (Some to) i ws × Opens Unlike ws) a_form (only_marked_laws n known (Some to)) form_laws (λ i ws s. s.1) (λ i ws rest s h. form_unlike i ws rest s) (λ rest h. h) to_last)

-- ---- without a result

module _ (known : Known) where
  abbrev pub an_end : Form
  an_end = Made (λ (u : Unit {0}). instruction.Unreachable) (λ u ws. ws ≡ [])

  abbrev pub effect_by_word : List ℕ → Form
  effect_by_word text =
      by_test (same text (codes "store")) (tailed (a_store known))
      (by_test (same text (codes "ret")) (tailed (a_return known))
      (by_test (same text (codes "br")) (tailed (a_jump_or_branch known))
      (by_test (same text (codes "switch")) (tailed (a_switch known))
      (by_test (same text (codes "unreachable")) (tailed an_end) never))))

  abbrev pub effect_by_kind : TokenKind → List ℕ → Form
  effect_by_kind kind.Word text = effect_by_word text
  effect_by_kind _ text = never

  abbrev pub led_effect : TokenKind → List ℕ → Form
  led_effect k text = unless (word_by (λ w. not (listed w)) k text) (effect_by_kind k text)

  abbrev pub an_effect_form : Form
  an_effect_form = Led (λ t. led_effect t.kind t.text)

  effect_form_at : Reader Instr
  effect_form_at [] = Err Ended
  effect_form_at (t ∷ rest) = cond (Unlike t) (Err Ended) (effect_by known t.kind t rest)

  module _ (n : ℕ) where
    end_is : Lawful n anything (λ us. Ok (instruction.Unreachable, us)) an_end
    end_is = respell n anything (λ us. Ok (instruction.Unreachable, us)) (nothing instruction.Unreachable) an_end (λ i ws s. record { parts = tt; is = s.0; spelled = s.1 }) (λ i ws s. (s.is, s.spelled)) (nothing_laws n anything instruction.Unreachable)

    effect_word_each : (t : TokenV) (a b c d e f : Bool) → f ≡ true
        → Each n t (λ rest. cond a (with_tails (store_at known) rest) (cond b (with_tails (return_at known) rest) (cond c (with_tails (jump_or_branch_at known) rest) (cond d (with_tails (switch_at known) rest) (cond e (with_tails (λ us. Ok (instruction.Unreachable, us)) rest)
        (cond f (wrong t causes.Instruction) (call_from known None t (t ∷ rest))))))))
        (by_test a (tailed (a_store known)) (by_test b (tailed (a_return known)) (by_test c (tailed (a_jump_or_branch known)) (by_test d (tailed (a_switch known)) (by_test e (tailed an_end) never)))))
    effect_word_each t true b c d e f is = inl (tailed_laws n (store_at known) (a_store known) (store_laws n known))
    effect_word_each t false true c d e f is = inl (tailed_laws n (return_at known) (a_return known) (return_laws n known))
    effect_word_each t false false true d e f is = inl (tailed_laws n (jump_or_branch_at known) (a_jump_or_branch known) (jump_or_branch_laws n known))
    effect_word_each t false false false true e f is = inl (tailed_laws n (switch_at known) (a_switch known) (switch_laws n known))
    effect_word_each t false false false false true f is = inl (tailed_laws n (λ us. Ok (instruction.Unreachable, us)) an_end end_is)
    effect_word_each t false false false false false true is = inr (refused t)
    effect_word_each t false false false false false false is = absurd cc

    effect_kind_each : (k : TokenKind) (t : TokenV) (b : Bool) → word_by (λ w. not (listed w)) k t.text ≡ b → Each n t (λ rest. cond b (Err Ended) (effect_by known k t rest)) (unless b (effect_by_kind k t.text))
    effect_kind_each k t true is = inl (dead n Last)
    effect_kind_each kind.Word t false is =
        effect_word_each t (same t.text (codes "store")) (same t.text (codes "ret")) (same t.text (codes "br")) (same t.text (codes "switch")) (same t.text (codes "unreachable")) (listed t.text) (yes_listed (listed t.text) is)
      where
        yes_listed : (b : Bool) → not b ≡ false → b ≡ true
        yes_listed true h = refl
        yes_listed false h = absurd cc
    effect_kind_each kind.Punct t false is = inr (refused t)
    effect_kind_each kind.GlobalName t false is = inr (refused t)
    effect_kind_each kind.LocalName t false is = inr (refused t)
    effect_kind_each kind.Label t false is = inr (refused t)
    effect_kind_each kind.Integer t false is = inr (refused t)
    effect_kind_each kind.Text t false is = inr (refused t)

    effect_form_laws : Lawful n Last effect_form_at an_effect_form
    unfolding effect_form_at
    effect_form_laws = led n Last effect_form_at (λ t rest. cond (Unlike t) (Err Ended) (effect_by known t.kind t rest)) (λ t. led_effect t.kind t.text) refl (λ t rest. refl) (λ t. effect_kind_each t.kind t (Unlike t) refl)

    effect_call_by : (k : TokenKind) (t : TokenV) (rest : List TokenV) → word_by (λ w. not (listed w)) k t.text ≡ true → call_from known None t (t ∷ rest) ≡ effect_by known k t rest
    effect_call_by kind.Word t rest e =
        let l : listed t.text ≡ false = not_listed (listed t.text) e in
        let u = unlisted t.text l in
        rw (u.store_none, u.ret_none, u.br_none, u.switch_none, u.unreachable_none, l) refl
      where
        not_listed : (b : Bool) → not b ≡ true → b ≡ false
        not_listed true h = absurd cc
        not_listed false h = refl
    effect_call_by kind.Punct t rest e = absurd cc
    effect_call_by kind.GlobalName t rest e = absurd cc
    effect_call_by kind.LocalName t rest e = absurd cc
    effect_call_by kind.Label t rest e = absurd cc
    effect_call_by kind.Integer t rest e = absurd cc
    effect_call_by kind.Text t rest e = absurd cc

    by_first_effect : (ts : List TokenV) → choose Unlike (only_marked n known None) effect_form_at ts ≡ effect_at known ts
    unfolding effect_form_at effect_at next_is
    by_first_effect [] = refl
    by_first_effect (t ∷ rest) = by_unlike (Unlike t) refl
      where
        by_unlike : (b : Bool) → Unlike t ≡ b → cond b (cond b (marked_reader n known None (t ∷ rest)) (Err Ended)) (cond b (Err Ended) (effect_by known t.kind t rest)) ≡ effect_by known t.kind t rest
        by_unlike true is = from_is n known None t rest ∙ effect_call_by t.kind t rest is
        by_unlike false is = refl

    effect_unlike : (i : Instr) (ws rest : List TokenV) → an_effect_form i ws → next_is Unlike (ws ++ rest) ≡ false
    unfolding next_is
    effect_unlike i ws rest s = ap (λ (u : List TokenV). next_is Unlike (u ++ rest)) s.parts ∙ by_unlike (Unlike s.token) s.rest_spells
      where
        by_unlike : (b : Bool) → unless b (effect_by_kind s.token.kind s.token.text) i s.rest → b ≡ false
        by_unlike true u = absurd u
        by_unlike false u = refl

    -- a form but a call is read before anything but `,`
    pub effect_settled : (i : Instr) (ws rest : List TokenV) → length ws ≤ n → an_effect_form i ws → Last rest → effect_at known (ws ++ rest) ≡ Ok (i, rest)
    effect_settled i ws rest short s h = let other = effect_unlike i ws rest s in sym (by_first_effect (ws ++ rest)) ∙ rw other (effect_form_laws.complete i ws rest short s h)

    -- and a call, from a word that begins no other instruction
    pub effect_call : (t : TokenV) (rest : List TokenV) → Unlike t ≡ true → call_from known None t (t ∷ rest) ≡ effect_at known (t ∷ rest)
    unfolding effect_at
    effect_call t rest e = effect_call_by t.kind t rest e

    abbrev pub an_effect : Form
    an_effect i ws = an_effect_form i ws ⊎ (marked_form n known None i ws × Opens Unlike ws)

    pub effect_laws : Lawful n BehindInstruction (effect_at known) an_effect
    effect_laws =
        reread n BehindInstruction (λ ts. choose Unlike (only_marked n known None) effect_form_at ts) (effect_at known) an_effect by_first_effect
        (choice n Unlike BehindInstruction Last BehindInstruction (only_marked n known None) effect_form_at (λ i ws. marked_form n known None i ws × Opens Unlike ws) an_effect_form (only_marked_laws n known None) effect_form_laws (λ i ws s. s.1) (λ i ws rest s h. effect_unlike i ws rest s) (λ rest h. h) to_last)
