-- The laws of items that are passed over.
use Rattle.std.proofs.Common.{◌≡◌, ℕ, zero, suc, ◌+◌, ◌≤◌, length, arith, Bool, true, false, cond, List, [], ◌∷◌, ◌++◌, Ok, Err, refl, sym, ap, subst, ◌∙◌, append_assoc, ◌⊎◌, inl, inr}
use Rattle.std.specs.Prelude.{not, codes}
use Rattle.std.proofs.lemmas.Bool.{cases_Bool}
use Rattle.std.proofs.lemmas.List.{append-nil, length-append}
use Rattle.ir_lex.specs.declared.token.TokenKind.{TokenKind}
use Rattle.ir_lex.specs.declared.token.TokenKind.TheVariants as kind
use Rattle.ir_lex.specs.declared.token.Cause.{Cause}
use Rattle.ir_lex.specs.declared.token.Cause.TheVariants as causes
use Rattle.ir_text.specs.declared.fault.Fault.TheVariants.{At, Ended}
use Rattle.ir_text.specs.Tokens.{TokenV, is_mark}
use Rattle.ir_text.specs.Reading.{Outcome, Reader, ◌>>=◌, next_is}
use Rattle.ir_text.specs.Choice.{Opens}
use Rattle.ir_text.specs.Lawful.{Follow, Behind, anything, Takes, WrongAt, Lawful}
use Rattle.ir_text.specs.Leaves.{tested, mark, word}
use Rattle.ir_text.specs.Passed.{is_string, is_opening, is_any_word, kind_is_word, some_integer, some_word, group_from, a_group}
use Rattle.ir_text.specs.Repeated.{each}
use Rattle.ir_text.specs.Spelled.{Spelling, InTurn, one_token, nothing}
use Rattle.ir_text.specs.Tails.{a_note, some_notes}
use Rattle.ir_text.specs.TypeSpelled.{◌▸◌, a_mark}
use Rattle.ir_text.proofs.Agreeing.{bind_agree}
use Rattle.ir_text.proofs.Persisting.{counted, shortens}
use Rattle.ir_text.proofs.Laws.{line_behind, nothing_laws, in_turn_before}
use Rattle.ir_text.proofs.Choices.{respell, token_laws}
use Rattle.ir_text.proofs.ChoiceLaws.{choice}
use Rattle.ir_text.proofs.Groups.{group_laws}
use Rattle.ir_text.proofs.Marks.{apart, mark_opens}
use Rattle.instr_laws.specs.Made.{Made}
use Rattle.instr_laws.proofs.Rows.{last, whole, then, pass}
use Rattle.instr_laws.proofs.Opening.{opened, unopened, both_opens, opens_as}
use Rattle.instr_laws.proofs.Attributes.{through}
use Rattle.ir_grammar.specs.PassedItems.{to_string, to_group, equals_group, attributes_at, word_or_number_by, word_or_number, metadata_at, comdat_name, comdat_at, note_end, item_end, attached_end, attached_one, attached_to, attached_at}
use Rattle.module_laws.specs.Skipped.{up_to_string, up_to_group, an_equals_group, some_attributes, some_metadata, a_comdat, some_attached}

-- ---- tokens up to one that passes a test, and what is read behind it

module _ (n : ℕ) (test : TokenV → Bool) (q r : Reader (Unit {0})) (s z : Spelling (Unit {0})) (laws : Lawful n anything q s) (ended : r [] ≡ Err Ended)
    (there : (t : TokenV) (rest : List TokenV) → test t ≡ true → r (t ∷ rest) ≡ q rest) (further : (t : TokenV) (rest : List TokenV) → test t ≡ false → r (t ∷ rest) ≡ r rest)
    (none : (u : Unit {0}) → z u [] → ⊥)
    (last_to : (t : TokenV) (us : List TokenV) (u : Unit {0}) → test t ≡ true → s u us → z u (t ∷ us)) (last_from : (t : TokenV) (us : List TokenV) (u : Unit {0}) → test t ≡ true → z u (t ∷ us) → s u us)
    (more_to : (t : TokenV) (us : List TokenV) (u : Unit {0}) → test t ≡ false → z u us → z u (t ∷ us)) (more_from : (t : TokenV) (us : List TokenV) (u : Unit {0}) → test t ≡ false → z u (t ∷ us) → z u us) where
  until_sound : (ts : List TokenV) (x : Unit {0} × List TokenV) → r ts ≡ Ok x → Takes r z ts x.0 x.1
  until_sound [] x e = let clash = sym ended ∙ e in absurd cc
  until_sound (t ∷ rest) x e =
      elim (cases_Bool (test t)) [
        | inl is ↦ let one = laws.sound rest x (sym (there t rest is) ∙ e) in record {
          front = t ∷ one.front;
          parts = ap (λ (us : List TokenV). t ∷ us) one.parts;
          spelled = last_to t one.front x.0 is one.spelled;
          again = λ others same. there t (one.front ++ others) is ∙ one.again others same;
          alone = elim one.alone [
            | inl all ↦ inl (there t one.front is ∙ all)
            | inr more ↦ inr (there t one.front is ∙ more)
          ];
        }
        | inr is ↦ let one = until_sound rest x (sym (further t rest is) ∙ e) in record {
          front = t ∷ one.front;
          parts = ap (λ (us : List TokenV). t ∷ us) one.parts;
          spelled = more_to t one.front x.0 is one.spelled;
          again = λ others same. further t (one.front ++ others) is ∙ one.again others same;
          alone = elim one.alone [
            | inl all ↦ inl (further t one.front is ∙ all)
            | inr more ↦ inr (further t one.front is ∙ more)
          ];
        }
      ]

  until_complete : (u : Unit {0}) (ws rest : List TokenV) → length ws ≤ n → z u ws → anything rest → r (ws ++ rest) ≡ Ok (u, rest)
  until_complete u [] rest short spelled f = absurd (none u spelled)
  until_complete u (t ∷ ws) rest short spelled f =
      elim (cases_Bool (test t)) [
        | inl is ↦ there t (ws ++ rest) is ∙ laws.complete u ws rest (omega arith) (last_from t ws u is spelled) f
        | inr is ↦ further t (ws ++ rest) is ∙ until_complete u ws rest (omega arith) (more_from t ws u is spelled) f
      ]

  until_faults : (ts : List TokenV) (line : ℕ) (cause : Cause) → length ts ≤ n → r ts ≡ Err (At line cause) → WrongAt r ts line cause
  until_faults [] line cause short e = let clash = sym ended ∙ e in absurd cc
  until_faults (t ∷ rest) line cause short e =
      elim (cases_Bool (test t)) [
        | inl is ↦ let w = laws.faults rest line cause (omega arith) (sym (there t rest is) ∙ e) in record {
          front = t ∷ w.front;
          token = w.token;
          rest = w.rest;
          parts = ap (λ (us : List TokenV). t ∷ us) w.parts;
          on_line = line_behind line (t ∷ []) (w.front ++ w.token ∷ []) w.on_line;
          still_open = elim w.still_open [
            | inl all ↦ inl (all.0, there t w.front is ∙ all.1)
            | inr more ↦ inr (there t w.front is ∙ more)
          ];
          stays = λ more. there t (w.front ++ w.token ∷ more) is ∙ w.stays more;
        }
        | inr is ↦ let w = until_faults rest line cause (omega arith) (sym (further t rest is) ∙ e) in record {
          front = t ∷ w.front;
          token = w.token;
          rest = w.rest;
          parts = ap (λ (us : List TokenV). t ∷ us) w.parts;
          on_line = line_behind line (t ∷ []) (w.front ++ w.token ∷ []) w.on_line;
          still_open = elim w.still_open [
            | inl all ↦ inl (all.0, further t w.front is ∙ all.1)
            | inr more ↦ inr (further t w.front is ∙ more)
          ];
          stays = λ more. further t (w.front ++ w.token ∷ more) is ∙ w.stays more;
        }
      ]

  until_laws : Lawful n anything r z
  until_laws = record { sound = until_sound; complete = until_complete; faults = until_faults; begins = inr ended }

abbrev a_string : Spelling (Unit {0})
a_string u ws = up_to_string ws

abbrev any_group : Spelling (Unit {0})
any_group u ws = up_to_group ws

pub string_laws : (n : ℕ) → Lawful n anything to_string a_string
unfolding to_string up_to_string
string_laws n =
    until_laws n is_string (λ ts. Ok (tt, ts)) to_string (nothing tt) a_string (nothing_laws n anything tt) refl (λ t rest is. rw is refl) (λ t rest is. rw is refl) (λ u s. s)
    (λ t us u is s. rw is s.1) (λ t us u is s. (refl, rw is at s)) (λ t us u is s. rw is s) (λ t us u is s. rw is at s)

to_group_laws : (n : ℕ) → Lawful n anything to_group any_group
unfolding to_group up_to_group
to_group_laws n =
    until_laws n is_opening (group_from 1) to_group (a_group 1) any_group (group_laws n 1) refl (λ t rest is. rw is refl) (λ t rest is. rw is refl) (λ u s. s)
    (λ t us u is s. rw is s) (λ t us u is s. rw is at s) (λ t us u is s. rw is s) (λ t us u is s. rw is at s)

module _ (n : ℕ) where
  equals_laws : Lawful n anything equals_group (λ u. an_equals_group)
  equals_laws = through (token_laws n (mark 61)) (to_group_laws n) (λ u ws rest s h. tt)

  pub attributes_laws : Lawful n anything attributes_at (λ u. some_attributes)
  attributes_laws = through (token_laws n (mark 35)) (through (token_laws n some_integer) equals_laws (λ u ws rest s h. tt)) (λ u ws rest s h. tt)

  pub metadata_laws : Lawful n anything metadata_at (λ u. some_metadata)
  metadata_laws = respell n anything metadata_at (Made (λ (p : Bool × Unit {0}). p.1) (λ p. a_mark 33 ▸ one_token word_or_number p.0 ▸ an_equals_group)) (λ u. some_metadata)
      (λ u ws t. record { parts = t.parts.0; is = refl; spelled = t.spelled })
      (λ u ws t. record { parts = (t.parts, u); is = refl; spelled = t.spelled })
      (pass (token_laws n (mark 33)) (then (token_laws n word_or_number) (λ (b : Bool). whole equals_laws)))

  pub comdat_laws : Lawful n anything comdat_at (λ u. a_comdat)
  comdat_laws = through (token_laws n (mark 36)) (through (token_laws n comdat_name) (through (token_laws n (mark 61)) (through (token_laws n (word (codes "comdat"))) (token_laws n some_word) (λ u ws rest s h. tt)) (λ u ws rest s h. tt)) (λ u ws rest s h. tt)) (λ u ws rest s h. tt)

-- ---- what is attached to a declaration

-- no further one follows
abbrev pub Last : Follow
Last = Behind (is_mark 33) anything

module _ (n : ℕ) where
  abbrev a_note_end : Spelling Bool
  a_note_end = Made (λ (u : Unit {0}). true) (λ u. a_mark 33 ▸ one_token some_integer u)

  abbrev an_item_end : Spelling Bool
  an_item_end = Made (λ (u : Unit {0}). false) (λ u. an_equals_group)

  abbrev an_end : Bool → Spelling Bool
  an_end true more ws = an_item_end more ws ⊎ a_note_end more ws
  an_end false more ws = an_item_end more ws

  item_end_laws : Lawful n anything item_end an_item_end
  item_end_laws = last (λ (u : Unit {0}). false) (equals_laws n)

  item_opens : (more : Bool) (ws : List TokenV) → an_item_end more ws → Opens (λ t. not (is_mark 33 t)) ws
  item_opens more ws s = both_opens (λ t. not (is_mark 33 t)) (a_mark 61) up_to_group ws (λ us o. opens_as (is_mark 61) (λ t. not (is_mark 33 t)) us (λ t e. let other : is_mark 33 t ≡ false = apart 61 33 t refl e in rw other refl) (mark_opens 61 us o)) s.spelled

  end_laws : (b : Bool) → Lawful n anything (attached_end b) (an_end b)
  end_laws false = item_end_laws
  end_laws true = choice n (is_mark 33) anything anything anything note_end item_end a_note_end an_item_end
      (pass (token_laws n (mark 33)) (last (λ (u : Unit {0}). true) (token_laws n some_integer))) item_end_laws
      (λ more ws s. both_opens (is_mark 33) (a_mark 33) _ ws (λ us o. mark_opens 33 us o) s.spelled)
      (λ more ws rest s h. unopened (is_mark 33) ws rest (item_opens more ws s)) (λ rest h. tt) (λ rest h. tt)

  abbrev one_attached : Spelling Bool
  one_attached = Made (λ (p : Bool × Bool). p.1) (λ p. a_mark 33 ▸ one_token word_or_number p.0 ▸ an_end p.0 p.1)

  one_laws : Lawful n anything attached_one one_attached
  one_laws = pass (token_laws n (mark 33)) (then (token_laws n word_or_number) (λ (b : Bool). whole (end_laws b)))

  one_opens_mark : (more : Bool) (ws : List TokenV) → one_attached more ws → Opens (is_mark 33) ws
  one_opens_mark more ws s = both_opens (is_mark 33) (a_mark 33) _ ws (λ us o. mark_opens 33 us o) s.spelled

  -- at most so many
  abbrev goes_on : Bool → Spelling (Unit {0}) → Spelling (Unit {0})
  goes_on true s u us = s u us
  goes_on false s u us = nothing tt u us

  abbrev up_to : ℕ → Spelling (Unit {0})
  up_to zero u ws = nothing tt u ws
  up_to (suc k) u ws = nothing tt u ws ⊎ InTurn one_attached (λ more. goes_on more (up_to k)) u ws

  more_laws : (k : ℕ) → Lawful n Last (attached_to k) (up_to k) → (b : Bool) → Lawful n Last (λ ts. cond b (attached_to k ts) (Ok (tt, ts))) (goes_on b (up_to k))
  more_laws k laws true = laws
  more_laws k laws false = nothing_laws n Last tt

  to_laws : (k : ℕ) → Lawful n Last (attached_to k) (up_to k)
  unfolding attached_to
  to_laws zero = nothing_laws n Last tt
  to_laws (suc k) =
      choice n (is_mark 33) Last Last Last (λ us. attached_one us >>= λ more. cond more.0 (attached_to k more.1) (Ok (tt, more.1))) (λ us. Ok (tt, us)) (InTurn one_attached (λ more. goes_on more (up_to k))) (nothing tt)
      (in_turn_before n anything Last attached_one (λ more ts. cond more (attached_to k ts) (Ok (tt, ts))) one_attached (λ more. goes_on more (up_to k)) one_laws (more_laws k (to_laws k)) (λ a b ws rest t h. tt))
      (nothing_laws n Last tt)
      (λ u ws s. let o = one_opens_mark s.value s.front s.first_spells in record { token = o.token; rest = o.rest ++ s.rest; parts = s.parts ∙ ap (λ (v : List TokenV). v ++ s.rest) o.parts; is = o.is })
      (λ u ws rest s h. rw s.1 h.none) (λ rest h. h) (λ rest h. h)

  -- ---- a note, or an item

  any_word_by : (k : TokenKind) → word_or_number_by k ≡ Ok true → kind_is_word k ≡ true
  any_word_by kind.Word e = refl
  any_word_by kind.Integer e = absurd cc
  any_word_by kind.LocalName e = absurd cc
  any_word_by kind.GlobalName e = absurd cc
  any_word_by kind.Label e = absurd cc
  any_word_by kind.Text e = absurd cc
  any_word_by kind.Punct e = absurd cc

  word_number_by : (k : TokenKind) → kind_is_word k ≡ true → word_or_number_by k ≡ Ok true
  word_number_by kind.Word e = refl
  word_number_by kind.Integer e = absurd cc
  word_number_by kind.LocalName e = absurd cc
  word_number_by kind.GlobalName e = absurd cc
  word_number_by kind.Label e = absurd cc
  word_number_by kind.Text e = absurd cc
  word_number_by kind.Punct e = absurd cc

  plain_word : (ws : List TokenV) → one_token word_or_number true ws → one_token some_word tt ws
  plain_word ws s = let w : is_any_word s.token ≡ true = any_word_by s.token.kind s.is in record { token = s.token; parts = s.parts; is = rw w refl }

  tested_is : (b : Bool) (cause : Cause) (u : Unit {0}) → tested b cause ≡ Ok u → b ≡ true
  tested_is true cause u e = refl
  tested_is false cause u e = absurd cc

  named_word : (u : Unit {0}) (ws : List TokenV) → one_token some_word u ws → one_token word_or_number true ws
  named_word u ws s = record { token = s.token; parts = s.parts; is = word_number_by s.token.kind (tested_is (is_any_word s.token) causes.Operand u s.is) }

  note_to : (ws : List TokenV) → one_attached true ws → a_note tt ws
  note_to ws s = by_parts s.parts.0 s.parts.1 s.is s.spelled
    where
      by_parts : (b more : Bool) → more ≡ true → (a_mark 33 ▸ one_token word_or_number b ▸ an_end b more) ws → a_note tt ws
      by_parts b false is t = absurd cc
      by_parts false true is t = let e = t.rest_spells.rest_spells.is in absurd cc
      by_parts true true is t =
          let m = t.rest_spells in
          elim m.rest_spells [
            | inl item ↦ let e = item.is in absurd cc
            | inr note ↦
                let k = note.spelled in
                record {
                  value = tt;
                  front = t.front;
                  rest = t.rest;
                  parts = t.parts;
                  first_spells = t.first_spells;
                  rest_spells = record {
                    value = tt;
                    front = m.front;
                    rest = m.rest;
                    parts = m.parts;
                    first_spells = plain_word m.front m.first_spells;
                    rest_spells = record { value = tt; front = k.front; rest = k.rest; parts = k.parts; first_spells = k.first_spells; rest_spells = k.rest_spells };
                  };
                }
          ]

  note_from : (u : Unit {0}) (ws : List TokenV) → a_note u ws → one_attached true ws
  note_from u ws s =
      let m = s.rest_spells in
      let k = m.rest_spells in
      record {
        parts = (true, true);
        is = refl;
        spelled = record {
          front = s.front;
          rest = s.rest;
          parts = s.parts;
          first_spells = s.first_spells;
          rest_spells = record {
            front = m.front;
            rest = m.rest;
            parts = m.parts;
            first_spells = named_word m.value m.front m.first_spells;
            rest_spells = inr (record { parts = u; is = refl; spelled = record { front = k.front; rest = k.rest; parts = k.parts; first_spells = k.first_spells; rest_spells = k.rest_spells } });
          };
        };
      }

  item_to : (ws : List TokenV) → one_attached false ws → some_metadata ws
  item_to ws s = by_parts s.parts.0 s.parts.1 s.is s.spelled
    where
      by_parts : (b more : Bool) → more ≡ false → (a_mark 33 ▸ one_token word_or_number b ▸ an_end b more) ws → some_metadata ws
      by_parts b true is t = absurd cc
      by_parts b false is t =
          let m = t.rest_spells in
          record { parts = b; is = refl; spelled = record { front = t.front; rest = t.rest; parts = t.parts; first_spells = t.first_spells; rest_spells = record { front = m.front; rest = m.rest; parts = m.parts; first_spells = m.first_spells; rest_spells = only_item b m.rest m.rest_spells } } }
        where
          only_item : (c : Bool) (us : List TokenV) → an_end c false us → an_equals_group us
          only_item false us e = e.spelled
          only_item true us (inl e) = e.spelled
          only_item true us (inr e) = let clash = e.is in absurd cc

  item_from : (ws : List TokenV) → some_metadata ws → one_attached false ws
  item_from ws s =
      let t = s.spelled in
      let m = t.rest_spells in
      record { parts = (s.parts, false); is = refl; spelled = record { front = t.front; rest = t.rest; parts = t.parts; first_spells = t.first_spells; rest_spells = record { front = m.front; rest = m.rest; parts = m.parts; first_spells = m.first_spells; rest_spells = an_item_of s.parts m.rest m.rest_spells } } }
    where
      an_item_of : (c : Bool) (us : List TokenV) → an_equals_group us → an_end c false us
      an_item_of false us e = record { parts = tt; is = refl; spelled = e }
      an_item_of true us e = inl (record { parts = tt; is = refl; spelled = e })

  -- ---- all of them

  abbrev a_last : List TokenV → Type 0
  a_last ws = (ws ≡ []) ⊎ some_metadata ws

  notes_of : (units : List (Unit {0})) (ws : List TokenV) → each a_note units ws → some_notes tt ws
  notes_of units ws s = record { value = units; front = ws; rest = []; parts = sym (append-nil ws); first_spells = s; rest_spells = (refl, refl) }

  notes_parts : (ws : List TokenV) → some_notes tt ws → (units : List (Unit {0})) × each a_note units ws
  notes_parts ws s =
      let flat : ws ≡ s.front = s.parts ∙ ap (λ (u : List TokenV). s.front ++ u) s.rest_spells.1 ∙ append-nil s.front in
      (s.value, subst (λ (u : List TokenV). each a_note s.value u) (sym flat) s.first_spells)

  none_attached : (ws : List TokenV) → ws ≡ [] → some_attached ws
  none_attached ws none = record { front = []; rest = []; parts = none; first_spells = notes_of [] [] refl; rest_spells = inl refl }

  one_more : (first : List TokenV) (ws : List TokenV) → a_note tt first → some_attached ws → some_attached (first ++ ws)
  one_more first ws s a =
      let n = notes_parts a.front a.first_spells in
      record {
        front = first ++ a.front;
        rest = a.rest;
        parts = ap (λ (u : List TokenV). first ++ u) a.parts ∙ sym (append_assoc first a.front a.rest);
        first_spells = notes_of (tt ∷ n.0) (first ++ a.front) (record { front = first; rest = a.front; parts = refl; first_spells = s; rest_spells = n.1 });
        rest_spells = a.rest_spells;
      }

  to_all : (k : ℕ) (u : Unit {0}) (ws : List TokenV) → up_to k u ws → some_attached ws
  to_all zero u ws s = none_attached ws s.1
  to_all (suc k) u ws (inl s) = none_attached ws s.1
  to_all (suc k) u ws (inr s) = by_more (λ us t. to_all k u us t) s.value s.first_spells s.rest_spells
    where
      by_more : ((us : List TokenV) → up_to k u us → some_attached us) → (more : Bool) → one_attached more s.front → goes_on more (up_to k) u s.rest → some_attached ws
      by_more less true one others = subst some_attached (sym s.parts) (one_more s.front s.rest (note_to s.front one) (less s.rest others))
      by_more less false one others =
          let flat : ws ≡ s.front = s.parts ∙ ap (λ (v : List TokenV). s.front ++ v) others.1 ∙ append-nil s.front in
          record { front = []; rest = ws; parts = refl; first_spells = notes_of [] [] refl; rest_spells = inr (subst some_metadata (sym flat) (item_to s.front one)) }

  item_takes : (ws : List TokenV) → some_metadata ws → 1 ≤ length ws
  item_takes ws s = let o = one_opens_mark false ws (item_from ws s) in omega (arith, ap length o.parts)

  note_takes : (u : Unit {0}) (ws : List TokenV) → a_note u ws → 1 ≤ length ws
  note_takes u ws s = let o = one_opens_mark true ws (note_from u ws s) in omega (arith, ap length o.parts)

  last_from : (k : ℕ) (u : Unit {0}) (ws : List TokenV) → a_last ws → length ws ≤ k → up_to k u ws
  last_from zero u ws (inl none) le = (refl, none)
  last_from (suc k) u ws (inl none) le = inl (refl, none)
  last_from zero u ws (inr item) le = let some = item_takes ws item in absurd (omega arith)
  last_from (suc k) u ws (inr item) le = inr (record { value = false; front = ws; rest = []; parts = sym (append-nil ws); first_spells = item_from ws item; rest_spells = (refl, refl) })

  from_all : (k : ℕ) (u : Unit {0}) (units : List (Unit {0})) (ws end : List TokenV) → each a_note units ws → a_last end → length (ws ++ end) ≤ k → up_to k u (ws ++ end)
  from_all k u [] ws end notes last le =
      let is : ws ++ end ≡ end = ap (λ (v : List TokenV). v ++ end) notes in
      subst (up_to k u) (sym is) (last_from k u end last (let size = ap length is in omega arith))
  from_all zero u (v ∷ units) ws end notes last le =
      let some = note_takes v notes.front notes.first_spells in
      let size : length (ws ++ end) ≡ length ws + length end = length-append ws end in
      let cut : length ws ≡ length notes.front + length notes.rest = ap length notes.parts ∙ length-append notes.front notes.rest in
      absurd (omega arith)
  from_all (suc k) u (v ∷ units) ws end notes last le =
      let some = note_takes v notes.front notes.first_spells in
      let is : ws ++ end ≡ notes.front ++ (notes.rest ++ end) = ap (λ (us : List TokenV). us ++ end) notes.parts ∙ append_assoc notes.front notes.rest end in
      let size : length (ws ++ end) ≡ length notes.front + length (notes.rest ++ end) = ap length is ∙ length-append notes.front (notes.rest ++ end) in
      inr (record { value = true; front = notes.front; rest = notes.rest ++ end; parts = is; first_spells = note_from v notes.front notes.first_spells; rest_spells = from_all k u units notes.rest end notes.rest_spells last (omega arith) })

  attached_from : (k : ℕ) (u : Unit {0}) (ws : List TokenV) → some_attached ws → length ws ≤ k → up_to k u ws
  attached_from k u ws s le =
      let p = notes_parts s.front s.first_spells in
      subst (up_to k u) (sym s.parts) (from_all k u p.0 s.front s.rest p.1 s.rest_spells (let size = ap length s.parts in omega arith))

  one_shorter : (ts : List TokenV) (x : Bool × List TokenV) → attached_one ts ≡ Ok x → 1 + length x.1 ≤ length ts
  one_shorter ts x e = shortens n anything attached_one one_attached one_laws (λ more ws s. let o = one_opens_mark more ws s in omega (arith, ap length o.parts)) ts x e

  none_first : (ts : List TokenV) → length ts ≤ 0 → next_is (is_mark 33) ts ≡ false
  unfolding next_is
  none_first [] le = refl
  none_first (t ∷ ts) le = absurd (omega arith)

  -- more steps than tokens change nothing
  enough : (k m : ℕ) (ts : List TokenV) → length ts ≤ k → length ts ≤ m → attached_to k ts ≡ attached_to m ts
  unfolding attached_to
  enough zero zero ts le lt = refl
  enough zero (suc m) ts le lt = rw (none_first ts le) refl
  enough (suc k) zero ts le lt = rw (none_first ts lt) refl
  enough (suc k) (suc m) ts le lt =
      ap (λ (o : Outcome (Unit {0})). cond (next_is (is_mark 33) ts) o (Ok (tt, ts)))
      (bind_agree (attached_one ts) (attached_one ts) (λ more. cond more.0 (attached_to k more.1) (Ok (tt, more.1))) (λ more. cond more.0 (attached_to m more.1) (Ok (tt, more.1))) refl
      (λ x e. let fewer = one_shorter ts x e in ap (λ (o : Outcome (Unit {0})). cond x.0 o (Ok (tt, x.1))) (enough k m x.1 (omega arith) (omega arith))))

  pub attached_laws : Lawful n Last attached_at (λ u. some_attached)
  attached_laws = counted n Last attached_to (λ u. some_attached) enough (λ k le. bounded k le (to_laws k))
    where
      bounded : (k : ℕ) → n ≤ k → Lawful n Last (attached_to k) (up_to k) → Lawful n Last (attached_to k) (λ u. some_attached)
      bounded k le one = record {
        sound = λ ts x e. let t = one.sound ts x e in record { front = t.front; parts = t.parts; spelled = to_all k x.0 t.front t.spelled; again = t.again; alone = t.alone };
        complete = λ u ws rest short s f. one.complete u ws rest short (attached_from k u ws s (omega arith)) f;
        faults = one.faults;
        begins = one.begins;
      }

-- ---- none, or one that begins with `!`

notes_by : (units : List (Unit {0})) (ws : List TokenV) → each a_note units ws → (ws ≡ []) ⊎ Opens (is_mark 33) ws
notes_by [] ws s = inl s
notes_by (u ∷ units) ws s =
    let o = one_opens_mark 0 true s.front (note_from 0 u s.front s.first_spells) in
    inr (record { token = o.token; rest = o.rest ++ s.rest; parts = s.parts ∙ ap (λ (v : List TokenV). v ++ s.rest) o.parts; is = o.is })

pub notes_cases : (ws : List TokenV) → some_notes tt ws → (ws ≡ []) ⊎ Opens (is_mark 33) ws
notes_cases ws s = let p = notes_parts 0 ws s in notes_by p.0 ws p.1

pub metadata_opens : (ws : List TokenV) → some_metadata ws → Opens (is_mark 33) ws
metadata_opens ws s = one_opens_mark 0 false ws (item_from 0 ws s)

pub attached_cases : (ws : List TokenV) → some_attached ws → (ws ≡ []) ⊎ Opens (is_mark 33) ws
attached_cases ws s =
    elim (notes_cases s.front s.first_spells) [
      | inl none ↦
          let is : ws ≡ s.rest = s.parts ∙ ap (λ (u : List TokenV). u ++ s.rest) none in
          elim s.rest_spells [
            | inl over ↦ inl (is ∙ over)
            | inr item ↦ inr (let o = metadata_opens s.rest item in record { token = o.token; rest = o.rest; parts = is ∙ o.parts; is = o.is })
          ]
      | inr o ↦ inr (record { token = o.token; rest = o.rest ++ s.rest; parts = s.parts ∙ ap (λ (u : List TokenV). u ++ s.rest) o.parts; is = o.is })
    ]

-- ---- behind an item of metadata nothing more is attached

closed_to : (n k : ℕ) (units : List (Unit {0})) (ws item rest : List TokenV) → each a_note units ws → some_metadata item → length (ws ++ item) ≤ k → length (ws ++ item) ≤ n → attached_to k ((ws ++ item) ++ rest) ≡ Ok (tt, rest)
unfolding attached_to
closed_to n zero units ws item rest notes last le few =
    let some = item_takes 0 item last in
    let size : length (ws ++ item) ≡ length ws + length item = length-append ws item in
    absurd (omega arith)
closed_to n (suc k) [] ws item rest notes last le few =
    let is : (ws ++ item) ++ rest ≡ item ++ rest = ap (λ (u : List TokenV). (u ++ item) ++ rest) notes in
    let size : length (ws ++ item) ≡ length item = ap (λ (u : List TokenV). length (u ++ item)) notes in
    let here : next_is (is_mark 33) (item ++ rest) ≡ true = opened (is_mark 33) item rest (one_opens_mark 0 false item (item_from 0 item last)) in
    let one : attached_one (item ++ rest) ≡ Ok (false, rest) = (one_laws n).complete false item rest (omega arith) (item_from 0 item last) tt in
    rw is (rw here (rw one refl))
closed_to n (suc k) (u ∷ units) ws item rest notes last le few =
    let some = note_takes 0 u notes.front notes.first_spells in
    let cut : ws ++ item ≡ notes.front ++ (notes.rest ++ item) = ap (λ (us : List TokenV). us ++ item) notes.parts ∙ append_assoc notes.front notes.rest item in
    let is : (ws ++ item) ++ rest ≡ notes.front ++ ((notes.rest ++ item) ++ rest) = ap (λ (us : List TokenV). us ++ rest) cut ∙ append_assoc notes.front (notes.rest ++ item) rest in
    let size : length (ws ++ item) ≡ length notes.front + length (notes.rest ++ item) = ap length cut ∙ length-append notes.front (notes.rest ++ item) in
    let here : next_is (is_mark 33) (notes.front ++ ((notes.rest ++ item) ++ rest)) ≡ true = opened (is_mark 33) notes.front ((notes.rest ++ item) ++ rest) (one_opens_mark 0 true notes.front (note_from 0 u notes.front notes.first_spells)) in
    let one : attached_one (notes.front ++ ((notes.rest ++ item) ++ rest)) ≡ Ok (true, (notes.rest ++ item) ++ rest) = (one_laws n).complete true notes.front ((notes.rest ++ item) ++ rest) (omega arith) (note_from 0 u notes.front notes.first_spells) tt in
    let others = closed_to n k units notes.rest item rest notes.rest_spells last (omega arith) (omega arith) in
    rw is (rw here (rw one others))

pub closed_read : (ws rest : List TokenV) → (some_notes tt ▸ some_metadata) ws → attached_at (ws ++ rest) ≡ Ok (tt, rest)
closed_read ws rest s =
    let p = notes_parts 0 s.front s.first_spells in
    let is : ws ++ rest ≡ (s.front ++ s.rest) ++ rest = ap (λ (u : List TokenV). u ++ rest) s.parts in
    let size : length ((s.front ++ s.rest) ++ rest) ≡ length (s.front ++ s.rest) + length rest = length-append (s.front ++ s.rest) rest in
    ap attached_at is ∙ closed_to (length (s.front ++ s.rest)) (length ((s.front ++ s.rest) ++ rest)) p.0 s.front s.rest rest p.1 s.rest_spells (omega arith) (omega arith)

pub closed_opens : (ws : List TokenV) → (some_notes tt ▸ some_metadata) ws → Opens (is_mark 33) ws
closed_opens ws s =
    elim (notes_cases s.front s.first_spells) [
      | inl none ↦
          let o = metadata_opens s.rest s.rest_spells in
          record { token = o.token; rest = o.rest; parts = s.parts ∙ ap (λ (u : List TokenV). u ++ s.rest) none ∙ o.parts; is = o.is }
      | inr o ↦ record { token = o.token; rest = o.rest ++ s.rest; parts = s.parts ∙ ap (λ (u : List TokenV). u ++ s.rest) o.parts; is = o.is }
    ]
