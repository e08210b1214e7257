-- Items behind commas and what is passed over behind them keep the laws.
use Rattle.std.proofs.Common.{◌≡◌, ℕ, Bool, true, false, List, [], ◌∷◌, ◌++◌, Option, Some, None, Ok, refl, sym, ap, subst, ◌∙◌, append_assoc, ◌⊎◌, inl, inr}
use Rattle.std.proofs.lemmas.List.{append-nil}
use Rattle.ir_text.specs.Tokens.{TokenV, is_mark}
use Rattle.ir_text.specs.Reading.{Reader, ◌>>=◌, next_is}
use Rattle.ir_text.specs.Spelled.{Spelling, InTurn, one_token, nothing}
use Rattle.ir_text.specs.Lawful.{Follow, Behind, Lawful}
use Rattle.ir_text.specs.Choice.{Opens}
use Rattle.ir_text.specs.Leaves.{mark, mark_at}
use Rattle.ir_text.specs.Repeated.{repeated_under, each, each_under}
use Rattle.ir_text.specs.Lists.{with_comma}
use Rattle.ir_text.specs.Tails.{tail_at, a_tail, some_tails}
use Rattle.ir_text.specs.Trailing.{passed_tail, trailing_item, still, kept, comma_item, trailing_at, a_trailing}
use Rattle.ir_text.proofs.Laws.{nothing_laws, in_turn_before}
use Rattle.ir_text.proofs.Choices.{in_turn, respell, token_laws}
use Rattle.ir_text.proofs.ChoiceLaws.{choice, opens_more}
use Rattle.ir_text.proofs.RepeatedLaws.{repeated_laws}
use Rattle.ir_text.proofs.TailLaws.{tail_laws, comma_opens}

module _ {A : Type 0} (n : ℕ) (begins : TokenV → Bool) (item : Reader A) (s : Spelling A) (between : Follow) (laws : Lawful n between item s) (opens : (a : A) (ws : List TokenV) → s a ws → Opens begins ws)
    (tail_apart : (a : Unit {0}) (ws rest : List TokenV) → a_tail a ws → next_is begins (ws ++ rest) ≡ false) (comma : (t : TokenV) (rest : List TokenV) → is_mark 44 t ≡ true → between (t ∷ rest)) where
  abbrev a_kept : Spelling (Option A)
  a_kept = InTurn s (λ a. nothing (Some a))

  abbrev a_passed : Spelling (Option A)
  a_passed = InTurn a_tail (λ _. nothing None)

  abbrev a_trailing_item : Bool → Spelling (Option A)
  a_trailing_item true o ws = a_passed o ws ⊎ a_kept o ws
  a_trailing_item false o ws = a_passed o ws

  kept_laws : Lawful n between (λ ts. item ts >>= λ x. Ok (Some x.0, x.1)) a_kept
  kept_laws = in_turn_before n between between item (λ a ts. Ok (Some a, ts)) s (λ a. nothing (Some a)) laws (λ a. nothing_laws n between (Some a)) (λ a o ws rest t b. rw t.1 b)

  passed_laws : Lawful n between passed_tail a_passed
  passed_laws = in_turn n between tail_at (λ _ ts. Ok (None, ts)) a_tail (λ _. nothing None) (tail_laws n) (λ _. nothing_laws n between None)

  item_laws : (more : Bool) → Lawful n between (trailing_item begins item more) (a_trailing_item more)
  item_laws false = passed_laws
  item_laws true =
      choice n begins between between between (λ us. item us >>= λ x. Ok (Some x.0, x.1)) passed_tail a_kept a_passed kept_laws passed_laws
      (opens_more begins s (λ a. nothing (Some a)) opens) passed_apart (λ rest b. b) (λ rest b. b)
    where
      passed_apart : (o : Option A) (ws rest : List TokenV) → a_passed o ws → between rest → next_is begins (ws ++ rest) ≡ false
      passed_apart o ws rest t b =
          let is : ws ++ rest ≡ t.front ++ (t.rest ++ rest) = ap (λ (u : List TokenV). u ++ rest) t.parts ∙ append_assoc t.front t.rest rest in
          ap (next_is begins) is ∙ tail_apart t.value t.front (t.rest ++ rest) t.first_spells

  abbrev a_comma_item : Bool → Spelling (Option A)
  a_comma_item more = with_comma (a_trailing_item more)

  comma_laws : (more : Bool) → Lawful n between (comma_item begins item more) (a_comma_item more)
  comma_laws more = in_turn n between (mark_at 44) (λ _. trailing_item begins item more) (one_token (mark 44)) (λ _. a_trailing_item more) (token_laws n (mark 44)) (λ _. item_laws more)

  comma_first : (more : Bool) (o : Option A) (ws rest : List TokenV) → a_comma_item more o ws → between (ws ++ rest)
  comma_first more o ws rest t =
      let f = comma_opens (a_trailing_item more) o ws t in
      subst between (sym (ap (λ (u : List TokenV). u ++ rest) f.parts)) (comma f.token (f.rest ++ rest) f.is)

  abbrev Last : Follow
  Last = Behind (is_mark 44) between

  abbrev listed : Spelling (List A)
  listed = InTurn (each_under a_comma_item still true) (λ all. nothing (kept all))

  all_laws : Lawful n Last (trailing_at begins item) listed
  all_laws =
      in_turn_before n Last Last (repeated_under (is_mark 44) (comma_item begins item) still true) (λ all ts. Ok (kept all, ts)) (each_under a_comma_item still true) (λ all. nothing (kept all))
      (repeated_laws n (is_mark 44) (comma_item begins item) still a_comma_item between comma_laws (λ more o ws t. comma_opens (a_trailing_item more) o ws t) comma_first true)
      (λ all. nothing_laws n Last (kept all)) (λ all items ws rest t b. rw t.1 b)

  -- ---- items first, and then what is passed over

  none_kept : (all : List (Option A)) (ws : List TokenV) → each_under a_comma_item still false all ws → (kept all ≡ []) × ((units : List (Unit {0})) × each (with_comma a_tail) units ws)
  none_kept [] ws t = (refl, ([], t))
  none_kept (Some a ∷ all) ws t = let e = t.first_spells.rest_spells.rest_spells.0 in absurd cc
  none_kept (None ∷ all) ws t =
      let others = none_kept all t.rest t.rest_spells in
      let c = t.first_spells in
      let none : c.rest ≡ c.rest_spells.front = c.rest_spells.parts ∙ ap (λ (u : List TokenV). c.rest_spells.front ++ u) c.rest_spells.rest_spells.1 ∙ append-nil c.rest_spells.front in (
        others.0,
        (
          tt ∷ others.1.0,
          record {
            front = t.front;
            rest = t.rest;
            parts = t.parts;
            first_spells = record { value = c.value; front = c.front; rest = c.rest; parts = c.parts; first_spells = c.first_spells; rest_spells = subst (λ (u : List TokenV). a_tail tt u) (sym none) (one_unit c.rest_spells.value c.rest_spells.front c.rest_spells.first_spells) };
            rest_spells = others.1.1;
          },
        ),
      )
    where
      one_unit : (u : Unit {0}) (ws : List TokenV) → a_tail u ws → a_tail tt ws
      one_unit u ws s = s

  only_tails : (ws : List TokenV) → ((units : List (Unit {0})) × each (with_comma a_tail) units ws) → some_tails tt ws
  only_tails ws t = record { value = t.0; front = ws; rest = []; parts = sym (append-nil ws); first_spells = t.1; rest_spells = (refl, refl) }

  alone : (ws : List TokenV) → some_tails tt ws → a_trailing s [] ws
  alone ws t = record {
    value = [];
    front = [];
    rest = ws;
    parts = refl;
    first_spells = refl;
    rest_spells = record { value = tt; front = ws; rest = []; parts = sym (append-nil ws); first_spells = t; rest_spells = (refl, refl) };
  }

  one_more : (a : A) (items : List A) (front rest : List TokenV) → with_comma s a front → a_trailing s items rest → a_trailing s (a ∷ items) (front ++ rest)
  one_more a items front rest first t = record {
    value = a ∷ t.value;
    front = front ++ t.front;
    rest = t.rest;
    parts = ap (λ (u : List TokenV). front ++ u) t.parts ∙ sym (append_assoc front t.front t.rest);
    first_spells = record { front = front; rest = t.front; parts = refl; first_spells = first; rest_spells = t.first_spells };
    rest_spells = record {
      value = t.rest_spells.value;
      front = t.rest_spells.front;
      rest = t.rest_spells.rest;
      parts = t.rest_spells.parts;
      first_spells = t.rest_spells.first_spells;
      rest_spells = (ap (λ (xs : List A). a ∷ xs) t.rest_spells.rest_spells.0, t.rest_spells.rest_spells.1);
    };
  }

  to_trailing : (all : List (Option A)) (ws : List TokenV) → each_under a_comma_item still true all ws → a_trailing s (kept all) ws
  to_trailing [] ws t = rw t (alone [] (only_tails [] ([], refl)))
  to_trailing (Some a ∷ all) ws t =
      let others = to_trailing all t.rest t.rest_spells in
      subst (λ (u : List TokenV). a_trailing s (a ∷ kept all) u) (sym t.parts) (one_more a (kept all) t.front t.rest (first_of t.first_spells) others)
    where
      item_of : (ws : List TokenV) → a_trailing_item true (Some a) ws → s a ws
      item_of ws (inl p) = let e = p.rest_spells.0 in absurd cc
      item_of ws (inr k) =
          let e : Some k.value ≡ Some a = k.rest_spells.0 in
          let v : k.value ≡ a = cc in
          let whole : ws ≡ k.front = k.parts ∙ ap (λ (u : List TokenV). k.front ++ u) k.rest_spells.1 ∙ append-nil k.front in
          subst (λ (u : List TokenV). s a u) (sym whole) (subst (λ (x : A). s x k.front) v k.first_spells)

      first_of : a_comma_item true (Some a) t.front → with_comma s a t.front
      first_of c = record { value = c.value; front = c.front; rest = c.rest; parts = c.parts; first_spells = c.first_spells; rest_spells = item_of c.rest c.rest_spells }
  to_trailing (None ∷ all) ws t =
      let less : each_under a_comma_item still false (None ∷ all) ws = record { front = t.front; rest = t.rest; parts = t.parts; first_spells = passed_of t.first_spells; rest_spells = t.rest_spells } in
      let none = none_kept (None ∷ all) ws less in
      subst (λ (xs : List A). a_trailing s xs ws) (sym none.0) (alone ws (only_tails ws none.1))
    where
      passed_only : (ws : List TokenV) → a_trailing_item true None ws → a_passed None ws
      passed_only ws (inl p) = p
      passed_only ws (inr k) = let e = k.rest_spells.0 in absurd cc

      passed_of : a_comma_item true None t.front → a_comma_item false None t.front
      passed_of c = record { value = c.value; front = c.front; rest = c.rest; parts = c.parts; first_spells = c.first_spells; rest_spells = passed_only c.rest c.rest_spells }

  -- as many of what is passed over
  nones : List (Unit {0}) → List (Option A)
  nones [] = []
  nones (u ∷ us) = None ∷ nones us

  -- items, and then as many of what is passed over
  both_of : List A → List (Unit {0}) → List (Option A)
  unfolding nones
  both_of [] us = nones us
  both_of (a ∷ items) us = Some a ∷ both_of items us

  nones_kept : (us : List (Unit {0})) → kept (nones us) ≡ []
  unfolding nones
  nones_kept [] = refl
  nones_kept (u ∷ us) = nones_kept us

  both_kept : (items : List A) (us : List (Unit {0})) → kept (both_of items us) ≡ items
  unfolding both_of nones
  both_kept [] us = nones_kept us
  both_kept (a ∷ items) us = ap (λ (xs : List A). a ∷ xs) (both_kept items us)

  passed_from : (more : Bool) (u : Unit {0}) (ws : List TokenV) → a_tail u ws → a_trailing_item more None ws
  passed_from false u ws t = record { value = u; front = ws; rest = []; parts = sym (append-nil ws); first_spells = t; rest_spells = (refl, refl) }
  passed_from true u ws t = inl (record { value = u; front = ws; rest = []; parts = sym (append-nil ws); first_spells = t; rest_spells = (refl, refl) })

  tails_from : (more : Bool) (us : List (Unit {0})) (ws : List TokenV) → each (with_comma a_tail) us ws → each_under a_comma_item still more (nones us) ws
  unfolding nones
  tails_from more [] ws t = t
  tails_from more (u ∷ us) ws t =
      let c = t.first_spells in
      record {
        front = t.front;
        rest = t.rest;
        parts = t.parts;
        first_spells = record { value = c.value; front = c.front; rest = c.rest; parts = c.parts; first_spells = c.first_spells; rest_spells = passed_from more u c.rest c.rest_spells };
        rest_spells = tails_from false us t.rest t.rest_spells;
      }

  items_from : (items : List A) (us : List (Unit {0})) (ws rest : List TokenV) → each (with_comma s) items ws → each (with_comma a_tail) us rest → each_under a_comma_item still true (both_of items us) (ws ++ rest)
  unfolding both_of
  items_from [] us ws rest t tails = rw t (tails_from true us rest tails)
  items_from (a ∷ items) us ws rest t tails =
      let c = t.first_spells in
      record {
        front = t.front;
        rest = t.rest ++ rest;
        parts = ap (λ (u : List TokenV). u ++ rest) t.parts ∙ append_assoc t.front t.rest rest;
        first_spells = record {
          value = c.value;
          front = c.front;
          rest = c.rest;
          parts = c.parts;
          first_spells = c.first_spells;
          rest_spells = inr (record { value = a; front = c.rest; rest = []; parts = sym (append-nil c.rest); first_spells = c.rest_spells; rest_spells = (refl, refl) });
        };
        rest_spells = items_from items us t.rest rest t.rest_spells tails;
      }

  to_listed : (items : List A) (ws : List TokenV) → listed items ws → a_trailing s items ws
  to_listed items ws t =
      let whole : ws ≡ t.front = t.parts ∙ ap (λ (u : List TokenV). t.front ++ u) t.rest_spells.1 ∙ append-nil t.front in
      subst (λ (u : List TokenV). a_trailing s items u) (sym whole) (subst (λ (xs : List A). a_trailing s xs t.front) t.rest_spells.0 (to_trailing t.value t.front t.first_spells))

  from_listed : (items : List A) (ws : List TokenV) → a_trailing s items ws → listed items ws
  from_listed items ws t =
      let tails = t.rest_spells in
      let last = tails.first_spells in
      let items_are : t.value ≡ items = tails.rest_spells.0 in
      let none : t.rest ≡ last.front = tails.parts ∙ ap (λ (u : List TokenV). tails.front ++ u) tails.rest_spells.1 ∙ append-nil tails.front ∙ last.parts ∙ ap (λ (u : List TokenV). last.front ++ u) last.rest_spells.1 ∙ append-nil last.front in
      let whole : ws ≡ t.front ++ last.front = t.parts ∙ ap (λ (u : List TokenV). t.front ++ u) none in
      record {
        value = both_of t.value last.value;
        front = t.front ++ last.front;
        rest = [];
        parts = whole ∙ sym (append-nil (t.front ++ last.front));
        first_spells = items_from t.value last.value t.front last.front t.first_spells last.first_spells;
        rest_spells = (both_kept t.value last.value ∙ items_are, refl);
      }

  pub trailing_laws : Lawful n (Behind (is_mark 44) between) (trailing_at begins item) (a_trailing s)
  trailing_laws = respell n (Behind (is_mark 44) between) (trailing_at begins item) listed (a_trailing s) to_listed from_listed all_laws
