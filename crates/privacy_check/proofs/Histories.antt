-- Lawful calls keep the codes those of the turns.
use Rattle.std.proofs.Common.{◌≡◌, ℕ, ◌+◌, ◌<◌, ◌≤◌, ◌==◌, List, [], ◌∷◌, ◌++◌, length, length-take, length-drop, get_or, map, replicate, Option, Some, None, option_map, Bool, true, false, cond, Ok, refl, sym, ap, subst, ◌∙◌, arith, inl, inr}
use Rattle.std.proofs.lemmas.Bool.{cases_eq, cases_lt}
use Rattle.std.proofs.lemmas.List.{get_or-map, length-map, get_or-replicate, length-replicate}
use Rattle.std.proofs.lemmas.List.Elements.{All-from_get_or}
use Rattle.std.specs.Map.{lookup}
use Rattle.std.specs.Result.{result_unwrap_or}
use Rattle.shadow_codes.specs.Codes.{reset_code}
use Rattle.pv_base.specs.declared.place.Place.{Place}
use Rattle.privacy_check.specs.declared.access.Access.{Access}
use Rattle.privacy_check.specs.declared.access.Access.TheVariants.{Read, Write}
use Rattle.privacy_check.specs.declared.access.BadCode.{BadCode}
use Rattle.privacy_check.specs.Shadows.{Shadows, MayAccess, with_codes, next_code, first_bad, in_range, shadows_after, told, next_period, untouched}
use Rattle.privacy_check.specs.History.{Call, Touch, EndPeriod, Turns, no_turns, covers, touched_by, turns_with, turns_after, code_of, refused, answer_by, InObject, Lawful, codes_after, after_calls, AllOk, StandsFor}
use Rattle.privacy_check.proofs.Tables.{touch_told}
use Rattle.privacy_check.proofs.ByteCodes.{Small, small_later, reset_by, code_small}
use Rattle.privacy_check.proofs.RangeEdits.{mapped_range, inside, before, behind, range_at, length-mapped_range}
use Rattle.privacy_check.proofs.Refusals.{CodesOf, bad_at, refused_is, told_is, all_may, next_is}

-- the codes of all objects are those of the turns, whose stamps in this period end at `last`
pub record Inv (sizes : List (ℕ × ℕ)) (shadows : Shadows) (turns : ℕ → ℕ → Turns) (last : ℕ) : Type 0 where
  pub least : 3 ≤ last
  pub stands : (name size : ℕ) → lookup (λ n. n == name) sizes ≡ Some size → StandsFor shadows name size (turns name)
  pub small : (name offset : ℕ) → Small last (turns name offset).wrote

covers_in : (at : Place) (len o : ℕ) → at.offset ≤ o → o < at.offset + len → covers at len at.name o ≡ true
covers_in at len o h l = grind arith

covers_before : (at : Place) (len o : ℕ) → o < at.offset → covers at len at.name o ≡ false
covers_before at len o h = grind arith

covers_behind : (at : Place) (len o : ℕ) → at.offset + len ≤ o → covers at len at.name o ≡ false
covers_behind at len o h = grind arith

covers_other : (at : Place) (len name o : ℕ) → (name ≡ at.name → ⊥) → covers at len name o ≡ false
covers_other at len name o ne = let no : (name == at.name) ≡ false = grind arith in rw no refl

range_length : (offset len : ℕ) (codes : List ℕ) → offset + len ≤ length codes → length (in_range offset len codes) ≡ len
range_length offset len codes h = omega (arith, length-take {A = ℕ}, length-drop {A = ℕ})

same_name : {A : Type 0} (n : ℕ) (x : A) (y : Option A) → cond (n == n) (Some x) y ≡ Some x
same_name n x y = let e : (n == n) ≡ true = grind arith in rw e refl

module _ (shadows : Shadows) (turns : ℕ → Turns) (access : Access) (at : Place) (len stamp size : ℕ) (stands : StandsFor shadows at.name size turns) (within : at.offset + len ≤ size) (least : 3 ≤ stamp) (small : (o : ℕ) → Small stamp (turns o).wrote) where
  range_codes : CodesOf turns stamp at.offset (in_range at.offset len stands.codes)
  range_codes i j e h =
      let sized = stands.sized in
      let n = range_length at.offset len stands.codes (omega arith) in
      let below : i < len = omega arith in
      (range_at at.offset len stands.codes i below ∙ (ap (λ (o : ℕ). get_or stands.codes o 0) (sym e) ∙ stands.each j (omega arith)), small j)

  refused_range : refused access stamp turns at.offset len ≡ option_map (bad_at at.offset (in_range at.offset len stands.codes)) (first_bad access stamp (in_range at.offset len stands.codes))
  refused_range =
      let sized = stands.sized in
      let n = range_length at.offset len stands.codes (omega arith) in
      ap (refused access stamp turns at.offset) (sym n) ∙ refused_is access stamp turns at.offset (in_range at.offset len stands.codes) least range_codes

  -- what the caller is told of the next access
  pub told_next : told (shadows_after access stamp at len shadows) ≡ answer_by (refused access stamp turns at.offset len)
  told_next = sym (touch_told shadows access stamp at len stands.codes stands.known) ∙ (told_is at.offset _ _ _ ∙ ap answer_by (sym refused_range))

  none_from_ok : (first : Option BadCode) → answer_by first ≡ Ok tt → first ≡ None
  none_from_ok None e = refl
  none_from_ok (Some bad) e = absurd (cc)

  none_mapped : (f : ℕ → BadCode) (o : Option ℕ) → option_map f o ≡ None → o ≡ None
  none_mapped f None e = refl
  none_mapped f (Some i) e = absurd (cc)

  pub passes : told (shadows_after access stamp at len shadows) ≡ Ok tt → refused access stamp turns at.offset len ≡ None
  passes ok = none_from_ok _ (sym told_next ∙ ok)

  after_access : told (shadows_after access stamp at len shadows) ≡ Ok tt → result_unwrap_or (shadows_after access stamp at len shadows) shadows ≡ with_codes shadows at.name (mapped_range (next_code access stamp) at.offset len stands.codes)
  after_access ok =
      let first : first_bad access stamp (in_range at.offset len stands.codes) ≡ None = none_mapped _ _ (sym refused_range ∙ passes ok) in
      rw (stands.known, first) refl

  -- each code of the object after it
  each_after : told (shadows_after access stamp at len shadows) ≡ Ok tt → (o : ℕ) → o < size → get_or (mapped_range (next_code access stamp) at.offset len stands.codes) o 0 ≡ code_of (turns_with at.name o (turns o) (Touch access at len stamp))
  each_after ok o h =
      let sized = stands.sized in
      let below : o < length stands.codes = omega arith in
      elim (cases_lt o at.offset) [
        | inl front ↦ rw (covers_before at len o front) (before (next_code access stamp) at.offset len stands.codes o front below ∙ stands.each o h)
        | inr from ↦ elim (cases_lt o (at.offset + len)) [
          | inl within' ↦ rw (covers_in at len o from within') (inside (next_code access stamp) at.offset len stands.codes o from within' below ∙ next_is access stamp _ (turns o) least (small o) (stands.each o h) (all_may access stamp turns at.offset len (passes ok) o from within'))
          | inr back ↦ rw (covers_behind at len o back) (behind (next_code access stamp) at.offset len stands.codes o back below ∙ stands.each o h)
        ]
      ]

  stands_after : told (shadows_after access stamp at len shadows) ≡ Ok tt → StandsFor (result_unwrap_or (shadows_after access stamp at len shadows) shadows) at.name size (λ o. turns_with at.name o (turns o) (Touch access at len stamp))
  stands_after ok = record {
    codes = mapped_range (next_code access stamp) at.offset len stands.codes;
    known = rw (after_access ok) (same_name at.name _ _);
    sized = length-mapped_range (next_code access stamp) at.offset len stands.codes ∙ stands.sized;
    each = each_after ok;
  }

-- an object that the access does not reach
stands_apart : (shadows : Shadows) (turns : ℕ → Turns) (access : Access) (at : Place) (len stamp name size : ℕ) (new : List ℕ) → (name ≡ at.name → ⊥) → StandsFor shadows name size turns
    → StandsFor (with_codes shadows at.name new) name size (λ o. turns_with name o (turns o) (Touch access at len stamp))
stands_apart shadows turns access at len stamp name size new ne stands = record {
  codes = stands.codes;
  known = let no : (name == at.name) ≡ false = grind arith in rw no stands.known;
  sized = stands.sized;
  each = λ o h. rw (covers_other at len name o ne) (stands.each o h);
}

small_with : (name o last stamp len : ℕ) (access : Access) (at : Place) (t : Turns) → 3 ≤ last → last ≤ stamp → Small last t.wrote → (b : Bool) → Small stamp (cond b (touched_by access stamp t) t).wrote
small_with name o last stamp len Write at t least later small true = (omega arith, omega arith, small_later last stamp t.wrote later small)
small_with name o last stamp len Read at t least later small true = small_later last stamp t.wrote later small
small_with name o last stamp len access at t least later small false = small_later last stamp t.wrote later small

in_size : (size size' end : ℕ) {o : Option ℕ} → o ≡ Some size → o ≡ Some size' → end ≤ size' → end ≤ size
in_size size size' end p q h = let e : size' ≡ size = cc in omega arith

-- one access that passes
pub touch_inv : (sizes : List (ℕ × ℕ)) (shadows : Shadows) (turns : ℕ → ℕ → Turns) (last : ℕ) (access : Access) (at : Place) (len stamp : ℕ) → Inv sizes shadows turns last → last ≤ stamp → InObject sizes at len
    → told (shadows_after access stamp at len shadows) ≡ Ok tt → Inv sizes (codes_after shadows (Touch access at len stamp)) (λ n o. turns_with n o (turns n o) (Touch access at len stamp)) stamp
touch_inv sizes shadows turns last access at len stamp inv later object ok =
    let old = inv.least in
    let least : 3 ≤ stamp = omega arith in
    let small : (o : ℕ) → Small stamp (turns at.name o).wrote = λ o. small_later last stamp _ later (inv.small at.name o) in
    let here = inv.stands at.name object.size object.known in
    record {
      least = least;
      stands = λ name size known. elim (cases_eq name at.name) [
        | inl same ↦
            subst (λ (n : ℕ). (size : ℕ) → lookup (λ m. m == n) sizes ≡ Some size → StandsFor (codes_after shadows (Touch access at len stamp)) n size (λ o. turns_with n o (turns n o) (Touch access at len stamp))) (sym same)
            (λ size known. stands_after shadows (turns at.name) access at len stamp size (inv.stands at.name size known) (in_size size object.size _ known object.known object.within) least small ok) size known
        | inr other ↦
            rw (after_access shadows (turns at.name) access at len stamp object.size here object.within least small ok)
            (stands_apart shadows (turns name) access at len stamp name size _ other (inv.stands name size known))
      ];
      small = λ n o. small_with n o last stamp len access at (turns n o) inv.least later (inv.small n o) (covers at len n o);
    }

-- the end of a period
period_stands : (shadows : Shadows) (turns : ℕ → Turns) (name size last : ℕ) → ((o : ℕ) → Small last (turns o).wrote) → StandsFor shadows name size turns → StandsFor (next_period shadows) name size (λ o. turns_with name o (turns o) EndPeriod)
period_stands shadows turns name size last small stands = record {
  codes = map reset_code stands.codes;
  known = ap (option_map (map reset_code)) stands.known;
  sized = length-map stands.codes reset_code ∙ stands.sized;
  each = λ o h.
      let sized = stands.sized in
      let below : o < length stands.codes = omega arith in
      get_or-map reset_code stands.codes o 0 0 below ∙ (ap reset_code (stands.each o h) ∙ reset_by last (turns o).wrote (turns o).wrote_before (turns o).read (small o));
}

pub period_inv : (sizes : List (ℕ × ℕ)) (shadows : Shadows) (turns : ℕ → ℕ → Turns) (last : ℕ) → Inv sizes shadows turns last → Inv sizes (codes_after shadows EndPeriod) (λ n o. turns_with n o (turns n o) EndPeriod) 3
period_inv sizes shadows turns last inv = record {
  least = omega arith;
  stands = λ name size known. period_stands shadows (turns name) name size last (inv.small name) (inv.stands name size known);
  small = λ n o. tt;
}

-- a new shadow
pub new_inv : (sizes : List (ℕ × ℕ)) → Inv sizes (untouched sizes) (λ n o. no_turns) 3
new_inv sizes = record {
  least = omega arith;
  stands = λ name size known. record {
    codes = replicate size 0;
    known = ap (option_map (λ n. replicate n 0)) known;
    sized = length-replicate size 0;
    each = λ o h. get_or-replicate size o 0 0 h;
  };
  small = λ n o. tt;
}

-- where lawful calls lead, before the ones that may follow
pub record Reached (sizes : List (ℕ × ℕ)) (shadows : Shadows) (turns : ℕ → ℕ → Turns) (more : List Call) : Type 0 where
  pub last : ℕ
  pub inv : Inv sizes shadows turns last
  pub lawful : Lawful sizes last more

pub reached : (sizes : List (ℕ × ℕ)) (calls more : List Call) (shadows : Shadows) (turns : ℕ → ℕ → Turns) (last : ℕ) → Inv sizes shadows turns last → Lawful sizes last (calls ++ more) → AllOk shadows calls
    → Reached sizes (after_calls shadows calls) (λ n o. turns_after n o (turns n o) calls) more
reached sizes [] more shadows turns last inv lawful ok = record { last = last; inv = inv; lawful = lawful }
reached sizes (Touch access at len stamp ∷ calls) more shadows turns last inv lawful ok =
    reached sizes calls more (codes_after shadows (Touch access at len stamp)) (λ n o. turns_with n o (turns n o) (Touch access at len stamp)) stamp
    (touch_inv sizes shadows turns last access at len stamp inv lawful.0 lawful.1 ok.0) lawful.2 ok.1
reached sizes (EndPeriod ∷ calls) more shadows turns last inv lawful ok =
    reached sizes calls more (codes_after shadows EndPeriod) (λ n o. turns_with n o (turns n o) EndPeriod) 3 (period_inv sizes shadows turns last inv) lawful ok.1

-- the next access after them
pub next_told : (sizes : List (ℕ × ℕ)) (shadows : Shadows) (turns : ℕ → ℕ → Turns) (access : Access) (at : Place) (len stamp : ℕ) → Reached sizes shadows turns (Touch access at len stamp ∷ [])
    → told (shadows_after access stamp at len shadows) ≡ answer_by (refused access stamp (turns at.name) at.offset len)
next_told sizes shadows turns access at len stamp to =
    let later = to.lawful.0 in
    let old = to.inv.least in
    let object = to.lawful.1 in
    told_next shadows (turns at.name) access at len stamp object.size (to.inv.stands at.name object.size object.known) object.within (omega arith) (λ o. small_later to.last stamp _ later (to.inv.small at.name o))

-- the condition of that access
pub next_may : (sizes : List (ℕ × ℕ)) (shadows : Shadows) (turns : ℕ → ℕ → Turns) (access : Access) (at : Place) (len stamp : ℕ) → Reached sizes shadows turns (Touch access at len stamp ∷ []) → MayAccess shadows at len stamp
next_may sizes shadows turns access at len stamp to =
    let later = to.lawful.0 in
    let old = to.inv.least in
    let object = to.lawful.1 in
    let within = object.within in
    let stands = to.inv.stands at.name object.size object.known in
    let sized = stands.sized in
    record {
      codes = stands.codes;
      known = stands.known;
      within = omega arith;
      stamps = All-from_get_or (λ c. c ≤ stamp) (in_range at.offset len stands.codes) 0 (λ i h.
          let n = range_length at.offset len stands.codes (omega arith) in
          let below : i < len = omega arith in
          let t : Turns = turns at.name (at.offset + i) in
          rw (range_at at.offset len stands.codes i below, stands.each (at.offset + i) (omega arith))
          (code_small stamp t.wrote t.wrote_before t.read (omega arith) (small_later to.last stamp t.wrote later (to.inv.small at.name (at.offset + i)))));
    }
