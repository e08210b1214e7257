-- The words that begin instructions, one by one.
use Rattle.std.proofs.Common.{◌≡◌, ℕ, Bool, true, false, cond, List, ◌∷◌, Some, None, refl, sym, subst}
use Rattle.std.specs.Prelude.{codes}
use Rattle.std.proofs.lemmas.Bool.{or_parts}
use lib.Pointwise.{bytes_decides}
use Rattle.ir_text.specs.Tokens.{same, among}
use Rattle.ir_instr.specs.Words.{meaning_of, operations, casts, resultless, opcodes}

-- a word that begins an instruction other than `call`
abbrev pub listed : List ℕ → Bool
listed text = cond (same text (codes "call")) false (among opcodes text)

-- a word that begins no instruction but `call`
pub record Unlisted (text : List ℕ) : Type 0 where
  pub operations_none : meaning_of operations text ≡ None
  pub casts_none : meaning_of casts text ≡ None
  pub freeze_none : same text (codes "freeze") ≡ false
  pub icmp_none : same text (codes "icmp") ≡ false
  pub select_none : same text (codes "select") ≡ false
  pub phi_none : same text (codes "phi") ≡ false
  pub alloca_none : same text (codes "alloca") ≡ false
  pub load_none : same text (codes "load") ≡ false
  pub getelementptr_none : same text (codes "getelementptr") ≡ false
  pub store_none : same text (codes "store") ≡ false
  pub ret_none : same text (codes "ret") ≡ false
  pub br_none : same text (codes "br") ≡ false
  pub switch_none : same text (codes "switch") ≡ false
  pub unreachable_none : same text (codes "unreachable") ≡ false
  pub resultless_none : among resultless text ≡ false

unlisted_call : Unlisted (codes "call")
unfolding meaning_of among
unlisted_call = record {
  operations_none = refl;
  casts_none = refl;
  freeze_none = refl;
  icmp_none = refl;
  select_none = refl;
  phi_none = refl;
  alloca_none = refl;
  load_none = refl;
  getelementptr_none = refl;
  store_none = refl;
  ret_none = refl;
  br_none = refl;
  switch_none = refl;
  unreachable_none = refl;
  resultless_none = refl;
}

unlisted_other : (text : List ℕ) → among opcodes text ≡ false → Unlisted text
unfolding meaning_of among
unlisted_other text none =
    let o0 = or_parts (same text (codes "add")) _ none in
    let o1 = or_parts (same text (codes "sub")) _ o0.1 in
    let o2 = or_parts (same text (codes "mul")) _ o1.1 in
    let o3 = or_parts (same text (codes "udiv")) _ o2.1 in
    let o4 = or_parts (same text (codes "sdiv")) _ o3.1 in
    let o5 = or_parts (same text (codes "urem")) _ o4.1 in
    let o6 = or_parts (same text (codes "srem")) _ o5.1 in
    let o7 = or_parts (same text (codes "shl")) _ o6.1 in
    let o8 = or_parts (same text (codes "lshr")) _ o7.1 in
    let o9 = or_parts (same text (codes "ashr")) _ o8.1 in
    let o10 = or_parts (same text (codes "and")) _ o9.1 in
    let o11 = or_parts (same text (codes "or")) _ o10.1 in
    let o12 = or_parts (same text (codes "xor")) _ o11.1 in
    let o13 = or_parts (same text (codes "trunc")) _ o12.1 in
    let o14 = or_parts (same text (codes "zext")) _ o13.1 in
    let o15 = or_parts (same text (codes "sext")) _ o14.1 in
    let o16 = or_parts (same text (codes "freeze")) _ o15.1 in
    let o17 = or_parts (same text (codes "icmp")) _ o16.1 in
    let o18 = or_parts (same text (codes "select")) _ o17.1 in
    let o19 = or_parts (same text (codes "phi")) _ o18.1 in
    let o20 = or_parts (same text (codes "alloca")) _ o19.1 in
    let o21 = or_parts (same text (codes "load")) _ o20.1 in
    let o22 = or_parts (same text (codes "store")) _ o21.1 in
    let o23 = or_parts (same text (codes "getelementptr")) _ o22.1 in
    let o24 = or_parts (same text (codes "call")) _ o23.1 in
    let o25 = or_parts (same text (codes "ret")) _ o24.1 in
    let o26 = or_parts (same text (codes "br")) _ o25.1 in
    let o27 = or_parts (same text (codes "switch")) _ o26.1 in
    let o28 = or_parts (same text (codes "unreachable")) _ o27.1 in
    record {
      operations_none = rw (o0.0, o1.0, o2.0, o3.0, o4.0, o5.0, o6.0, o7.0, o8.0, o9.0, o10.0, o11.0, o12.0) refl;
      casts_none = rw (o13.0, o14.0, o15.0) refl;
      freeze_none = o16.0;
      icmp_none = o17.0;
      select_none = o18.0;
      phi_none = o19.0;
      alloca_none = o20.0;
      load_none = o21.0;
      getelementptr_none = o23.0;
      store_none = o22.0;
      ret_none = o25.0;
      br_none = o26.0;
      switch_none = o27.0;
      unreachable_none = o28.0;
      resultless_none = rw (o22.0, o25.0, o26.0, o27.0, o28.0) refl;
    }

pub unlisted : (text : List ℕ) → listed text ≡ false → Unlisted text
unlisted text none = by_call (same text (codes "call")) refl none
  where
    by_call : (b : Bool) → same text (codes "call") ≡ b → cond b false (among opcodes text) ≡ false → Unlisted text
    by_call true is h = let here : text ≡ codes "call" = (bytes_decides text (codes "call")).0 is in subst Unlisted (sym here) unlisted_call
    by_call false is h = unlisted_other text h

listed_parts : (text : List ℕ) → listed text ≡ true → (same text (codes "call") ≡ false) × (among opcodes text ≡ true)
listed_parts text e = by_call (same text (codes "call")) refl e
  where
    by_call : (b : Bool) → same text (codes "call") ≡ b → cond b false (among opcodes text) ≡ true → (same text (codes "call") ≡ false) × (among opcodes text ≡ true)
    by_call true is h = absurd cc
    by_call false is h = (is, h)

-- a word that a table has
meaning_first : {A : Type 0} (w : List ℕ) (a : A) (table : List (List ℕ × A)) (text : List ℕ) → meaning_of ((w, a) ∷ table) text ≡ None → (same text w ≡ false) × (meaning_of table text ≡ None)
unfolding meaning_of
meaning_first {A} w a table text e = by_same (same text w) refl e
  where
    by_same : (b : Bool) → same text w ≡ b → cond b (Some a) (meaning_of table text) ≡ None → (same text w ≡ false) × (meaning_of table text ≡ None)
    by_same true is h = absurd cc
    by_same false is h = (is, h)

-- a word that begins an instruction, and none of those with a result, has none
pub only_resultless : (text : List ℕ) → listed text ≡ true → meaning_of operations text ≡ None → meaning_of casts text ≡ None
    → same text (codes "freeze") ≡ false
    → same text (codes "icmp") ≡ false
    → same text (codes "select") ≡ false
    → same text (codes "phi") ≡ false
    → same text (codes "alloca") ≡ false
    → same text (codes "load") ≡ false
    → same text (codes "getelementptr") ≡ false
    → among resultless text ≡ true
unfolding among
only_resultless text is none no_cast e_freeze e_icmp e_select e_phi e_alloca e_load e_getelementptr =
    let o0 = meaning_first (codes "add") _ _ text none in
    let o1 = meaning_first (codes "sub") _ _ text o0.1 in
    let o2 = meaning_first (codes "mul") _ _ text o1.1 in
    let o3 = meaning_first (codes "udiv") _ _ text o2.1 in
    let o4 = meaning_first (codes "sdiv") _ _ text o3.1 in
    let o5 = meaning_first (codes "urem") _ _ text o4.1 in
    let o6 = meaning_first (codes "srem") _ _ text o5.1 in
    let o7 = meaning_first (codes "shl") _ _ text o6.1 in
    let o8 = meaning_first (codes "lshr") _ _ text o7.1 in
    let o9 = meaning_first (codes "ashr") _ _ text o8.1 in
    let o10 = meaning_first (codes "and") _ _ text o9.1 in
    let o11 = meaning_first (codes "or") _ _ text o10.1 in
    let o12 = meaning_first (codes "xor") _ _ text o11.1 in
    let o13 = meaning_first (codes "trunc") _ _ text no_cast in
    let o14 = meaning_first (codes "zext") _ _ text o13.1 in
    let o15 = meaning_first (codes "sext") _ _ text o14.1 in
    let p = listed_parts text is in
    let h : among opcodes text ≡ true = p.1 in
    rw (o0.0, o1.0, o2.0, o3.0, o4.0, o5.0, o6.0, o7.0, o8.0, o9.0, o10.0, o11.0, o12.0, o13.0, o14.0, o15.0, e_freeze, e_icmp, e_select, e_phi, e_alloca, e_load, e_getelementptr, p.0) at h
