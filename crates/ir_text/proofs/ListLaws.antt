-- Items separated by commas keep the laws.
use Rattle.std.proofs.Common.{◌≡◌, ℕ, Bool, true, false, List, [], ◌∷◌, ◌++◌, Ok, refl, sym, ap, subst, ◌∙◌, append_assoc, inl, inr}
use Rattle.std.specs.Prelude.{not}
use Rattle.std.proofs.lemmas.List.{append-nil}
use Rattle.ir_lex.specs.declared.token.Cause.TheVariants as causes
use Rattle.ir_text.specs.Tokens.{TokenV, is_mark}
use Rattle.ir_text.specs.Reading.{Reader, ◌>>=◌, next_is}
use Rattle.ir_text.specs.Spelled.{Spelling, InTurn, one_token, nothing}
use Rattle.ir_text.specs.Lawful.{Follow, Behind, anything, Lawful}
use Rattle.ir_text.specs.Choice.{Opens}
use Rattle.ir_text.specs.Leaves.{mark, mark_at}
use Rattle.ir_text.specs.Repeated.{repeated, each, stays}
use Rattle.ir_text.specs.Lists.{after_comma, listed_at, mark_for, filled_at, list_at, with_comma, a_listed, a_mark_for, a_filled, a_list, behind_item, closed_list}
use Rattle.ir_text.proofs.Laws.{nothing_laws, in_turn_before}
use Rattle.ir_text.proofs.Choices.{in_turn, respell, token_laws}
use Rattle.ir_text.proofs.ChoiceLaws.{choice, token_opens, opens_more}
use Rattle.ir_text.proofs.RepeatedLaws.{repeated_laws}
use Rattle.ir_text.proofs.TailLaws.{comma_opens}

module _ {A : Type 0} (n : ℕ) (item : Reader A) (s : Spelling A) (between : Follow) (laws : Lawful n between item s) (comma : (t : TokenV) (rest : List TokenV) → is_mark 44 t ≡ true → between (t ∷ rest)) where
  comma_first : (a : A) (ws rest : List TokenV) → with_comma s a ws → between (ws ++ rest)
  comma_first a ws rest t =
      let o = comma_opens s a ws t in
      subst between (sym (ap (λ (u : List TokenV). u ++ rest) o.parts)) (comma o.token (o.rest ++ rest) o.is)

  others_first : (all : List A) (ws rest : List TokenV) → each (with_comma s) all ws → between rest → between (ws ++ rest)
  others_first [] ws rest t b = rw t b
  others_first (a ∷ all) ws rest t b =
      let is : ws ++ rest ≡ t.front ++ (t.rest ++ rest) = ap (λ (u : List TokenV). u ++ rest) t.parts ∙ append_assoc t.front t.rest rest in
      subst between (sym is) (comma_first a t.front (t.rest ++ rest) t.first_spells)

  pub commas_laws : Lawful n (Behind (is_mark 44) between) (repeated (is_mark 44) (after_comma item)) (each (with_comma s))
  commas_laws = repeated_laws n (is_mark 44) (λ _. after_comma item) stays (λ _. with_comma s) between (λ _. in_turn n between _ _ _ _ (token_laws n (mark 44)) (λ _. laws)) (λ _ a ws t. comma_opens s a ws t) (λ _ a ws rest t. comma_first a ws rest t) tt

  with_first : (first : A) (all : List A) (ws rest : List TokenV) → InTurn (each (with_comma s)) (λ others. nothing (first ∷ others)) all ws → Behind (is_mark 44) between rest → between (ws ++ rest)
  with_first first all ws rest t b =
      let is : ws ++ rest ≡ t.front ++ (t.rest ++ rest) = ap (λ (u : List TokenV). u ++ rest) t.parts ∙ append_assoc t.front t.rest rest in
      let last : t.rest ++ rest ≡ rest = ap (λ (u : List TokenV). u ++ rest) t.rest_spells.1 in
      subst between (sym (is ∙ ap (λ (u : List TokenV). t.front ++ u) last)) (others_first t.value t.front rest t.first_spells b.fits)

  pub listed_laws : Lawful n (Behind (is_mark 44) between) (listed_at item) (a_listed s)
  listed_laws =
      in_turn_before n between (Behind (is_mark 44) between) item (λ first ts. repeated (is_mark 44) (after_comma item) ts >>= λ others. Ok (first ∷ others.0, others.1)) s (λ first. InTurn (each (with_comma s)) (λ others. nothing (first ∷ others))) laws
      (λ first. in_turn_before n (Behind (is_mark 44) between) (Behind (is_mark 44) between) (repeated (is_mark 44) (after_comma item)) (λ others ts. Ok (first ∷ others, ts)) (each (with_comma s)) (λ others. nothing (first ∷ others)) commas_laws (λ others. nothing_laws n (Behind (is_mark 44) between) (first ∷ others)) (λ others all ws rest t b. rw t.1 b))
      with_first

  module _ (close : ℕ) (apart : (t : TokenV) → is_mark close t ≡ true → is_mark 44 t ≡ false) (closing : (t : TokenV) (rest : List TokenV) → is_mark close t ≡ true → between (t ∷ rest)) where
    mark_for_laws : {B : Type 0} (b : B) → Lawful n anything (mark_for close b) (a_mark_for close b)
    mark_for_laws b = in_turn n anything (mark_at close) (λ _ ts. Ok (b, ts)) (one_token (mark close)) (λ _. nothing b) (token_laws n (mark close)) (λ _. nothing_laws n anything b)

    close_opens : {B : Type 0} (b c : B) (ws : List TokenV) → a_mark_for close b c ws → Opens (is_mark close) ws
    close_opens b c ws t = opens_more (is_mark close) (one_token (mark close)) (λ _. nothing b) (token_opens (is_mark close) (λ _. causes.Operand)) c ws t

    close_first : (all end : List A) (ws rest : List TokenV) → a_mark_for close all end ws → Behind (is_mark 44) between (ws ++ rest)
    unfolding next_is
    close_first all end ws rest t =
        let o = close_opens all end ws t in
        subst (Behind (is_mark 44) between) (sym (ap (λ (u : List TokenV). u ++ rest) o.parts)) (record { none = apart o.token o.is; fits = closing o.token (o.rest ++ rest) o.is })

    pub filled_laws : Lawful n anything (filled_at close item) (a_filled close s)
    filled_laws = in_turn_before n (Behind (is_mark 44) between) anything (listed_at item) (λ all. mark_for close all) (a_listed s) (λ all. a_mark_for close all) listed_laws (λ all. mark_for_laws all) (λ all end ws rest t b. close_first all end ws rest t)

    module _ (opens : (a : A) (ws : List TokenV) → s a ws → Opens (λ t. not (is_mark close t)) ws) where
      not_true : (b : Bool) → not b ≡ true → b ≡ false
      not_true true e = absurd cc
      not_true false e = refl

      not_closed : (all : List A) (ws rest : List TokenV) → a_filled close s all ws → anything rest → next_is (is_mark close) (ws ++ rest) ≡ false
      unfolding next_is
      not_closed all ws rest t b =
          let o = opens_more (λ u. not (is_mark close u)) (a_listed s) (λ some. a_mark_for close some) (opens_more (λ u. not (is_mark close u)) s _ opens) all ws t in
          ap (λ (u : List TokenV). next_is (is_mark close) (u ++ rest)) o.parts ∙ not_true (is_mark close o.token) o.is

      pub list_laws : Lawful n anything (list_at close item) (a_list close s)
      unfolding list_at
      list_laws = choice n (is_mark close) anything anything anything (mark_for close []) (filled_at close item) (a_mark_for close []) (a_filled close s) (mark_for_laws []) filled_laws (close_opens []) not_closed (λ rest b. b) (λ rest b. b)

-- ---- by the list's items

module _ {A : Type 0} (close : ℕ) (s : Spelling A) where
  flat : {B : Type 0} (b c : B) (ws : List TokenV) → a_mark_for close b c ws → (b ≡ c) × one_token (mark close) tt ws
  flat b c ws t =
      let whole : ws ≡ t.front = t.parts ∙ ap (λ (u : List TokenV). t.front ++ u) t.rest_spells.1 ∙ append-nil t.front in
      (t.rest_spells.0, subst (λ (u : List TokenV). one_token (mark close) tt u) (sym whole) (one_unit t.value t.front t.first_spells))
    where
      one_unit : (u : Unit {0}) (us : List TokenV) → one_token (mark close) u us → one_token (mark close) tt us
      one_unit u us h = h

  marked : {B : Type 0} (b : B) (ws : List TokenV) → one_token (mark close) tt ws → a_mark_for close b b ws
  marked b ws t = record { value = tt; front = ws; rest = []; parts = sym (append-nil ws); first_spells = t; rest_spells = (refl, refl) }

  behind_to : (others : List A) (ws end : List TokenV) → each (with_comma s) others ws → one_token (mark close) tt end → behind_item close s others (ws ++ end)
  behind_to [] ws end t m = rw t m
  behind_to (a ∷ others) ws end t m =
      let c = t.first_spells in
      record {
        front = c.front;
        rest = c.rest ++ (t.rest ++ end);
        parts = ap (λ (u : List TokenV). u ++ end) (t.parts ∙ ap (λ (u : List TokenV). u ++ t.rest) c.parts) ∙ append_assoc (c.front ++ c.rest) t.rest end ∙ append_assoc c.front c.rest (t.rest ++ end);
        first_spells = one_unit c.value c.front c.first_spells;
        rest_spells = record { front = c.rest; rest = t.rest ++ end; parts = refl; first_spells = c.rest_spells; rest_spells = behind_to others t.rest end t.rest_spells m };
      }
    where
      one_unit : (u : Unit {0}) (us : List TokenV) → one_token (mark 44) u us → one_token (mark 44) tt us
      one_unit u us h = h

  -- the items behind the first, and the mark
  record Split (others : List A) (ws : List TokenV) : Type 0 where
    front : List TokenV
    end : List TokenV
    parts : ws ≡ front ++ end
    items : each (with_comma s) others front
    closes : one_token (mark close) tt end

  behind_from : (others : List A) (ws : List TokenV) → behind_item close s others ws → Split others ws
  behind_from [] ws t = record { front = []; end = ws; parts = refl; items = refl; closes = t }
  behind_from (a ∷ others) ws t =
      let i = t.rest_spells in
      let more = behind_from others i.rest i.rest_spells in
      record {
        front = (t.front ++ i.front) ++ more.front;
        end = more.end;
        parts = t.parts ∙ ap (λ (u : List TokenV). t.front ++ u) (i.parts ∙ ap (λ (u : List TokenV). i.front ++ u) more.parts) ∙ sym (append_assoc t.front i.front (more.front ++ more.end)) ∙ sym (append_assoc (t.front ++ i.front) more.front more.end);
        items = record { front = t.front ++ i.front; rest = more.front; parts = refl; first_spells = record { value = tt; front = t.front; rest = i.front; parts = refl; first_spells = t.first_spells; rest_spells = i.first_spells }; rest_spells = more.items };
        closes = more.closes;
      }

  closed_to : (all : List A) (ws : List TokenV) → a_list close s all ws → closed_list close s all ws
  closed_to [] ws (inl t) =
      let c = flat t.value [] t.rest t.rest_spells in
      let none : t.value ≡ [] = c.0 in
      let first : t.first_spells.value ∷ t.first_spells.rest_spells.value ≡ t.value = t.first_spells.rest_spells.rest_spells.0 in
      absurd cc
  closed_to [] ws (inr t) = (flat [] [] ws t).1
  closed_to (a ∷ all) ws (inl t) =
      let c = flat t.value (a ∷ all) t.rest t.rest_spells in
      let l = t.first_spells in
      let o = l.rest_spells in
      let is : l.value ∷ o.value ≡ a ∷ all = o.rest_spells.0 ∙ c.0 in
      let first : l.value ≡ a = cc in
      let others : o.value ≡ all = cc in
      let whole : l.rest ≡ o.front = o.parts ∙ ap (λ (u : List TokenV). o.front ++ u) o.rest_spells.1 ∙ append-nil o.front in
      record {
        front = l.front;
        rest = o.front ++ t.rest;
        parts = t.parts ∙ ap (λ (u : List TokenV). u ++ t.rest) (l.parts ∙ ap (λ (u : List TokenV). l.front ++ u) whole) ∙ append_assoc l.front o.front t.rest;
        first_spells = subst (λ (x : A). s x l.front) first l.first_spells;
        rest_spells = behind_to all o.front t.rest (subst (λ (xs : List A). each (with_comma s) xs o.front) others o.first_spells) c.1;
      }
  closed_to (a ∷ all) ws (inr t) = let c = flat [] (a ∷ all) ws t in let none : [] ≡ a ∷ all = c.0 in absurd cc

  closed_from : (all : List A) (ws : List TokenV) → closed_list close s all ws → a_list close s all ws
  closed_from [] ws t = inr (marked [] ws t)
  closed_from (a ∷ all) ws t =
      let m = behind_from all t.rest t.rest_spells in
      inl (record {
        value = a ∷ all;
        front = t.front ++ m.front;
        rest = m.end;
        parts = t.parts ∙ ap (λ (u : List TokenV). t.front ++ u) m.parts ∙ sym (append_assoc t.front m.front m.end);
        first_spells = record { value = a; front = t.front; rest = m.front; parts = refl; first_spells = t.first_spells; rest_spells = record { value = all; front = m.front; rest = []; parts = sym (append-nil m.front); first_spells = m.items; rest_spells = (refl, refl) } };
        rest_spells = marked (a ∷ all) m.end m.closes;
      })

  pub closed_laws : (n : ℕ) (item : Reader A) → Lawful n anything (list_at close item) (a_list close s) → Lawful n anything (list_at close item) (closed_list close s)
  closed_laws n item laws = respell n anything (list_at close item) (a_list close s) (closed_list close s) closed_to closed_from laws
