-- A walk over the live objects from a name on.
use Rattle.std.proofs.Common.{◌≡◌, ℕ, suc, ◌+◌, ◌<◌, ◌≤◌, ◌&&◌, nat_le, Bool, true, false, cond, List, [], ◌∷◌, length, Option, Some, None, refl, sym, ap, subst, ◌∙◌, arith, inl, inr, MatchOption}
use Rattle.std.specs.Prelude.{⊤}
use Rattle.std.proofs.lemmas.Bool.{cases_lt}
use Rattle.std.proofs.lemmas.Bool.Decides.{nat_tests}
use Rattle.std.specs.List.{list_any}
use Rattle.pv_base.specs.declared.place.AllocSite.{AllocSite}
use Rattle.mem_image.specs.declared.object.Object.{Object}
use Rattle.mem_image.specs.Picture.{Rising, first_from}
use Rattle.lifetime_check.specs.declared.alive.Left.{Left}
use Rattle.lifetime_check.specs.Alive.{same_site, short_from, left_of, one_more}

-- what is left, and these objects behind it
pub joined : Option Left → List Object → Option Left
joined None os = left_of os
joined (Some l) os = Some (record l { count = l.count + length os })

pub joined_start : (os : List Object) → joined None os ≡ left_of os
unfolding joined
joined_start os = refl

pub joined_none : (left : Option Left) → joined left [] ≡ left
unfolding joined
joined_none None = refl
joined_none (Some l) = let e : l.count + 0 ≡ l.count = omega arith in ap (λ n. Some (record l { count = n })) e

pub joined_one : (left : Option Left) (o : Object) (os : List Object) → joined left (o ∷ os) ≡ joined (Some (one_more left o.site)) os
unfolding joined
joined_one None o os = let e : suc (length os) ≡ 1 + length os = omega arith in ap (λ n. Some (record { site = o.site; count = n })) e
joined_one (Some l) o os = let e : l.count + suc (length os) ≡ l.count + 1 + length os = omega arith in ap (λ n. Some (record l { count = n })) e

passes : (a b : ℕ) → a ≤ b → nat_le a b ≡ true
passes a b h = grind (arith, nat_tests)

fails : (a b : ℕ) → b < a → nat_le a b ≡ false
fails a b h = grind (arith, nat_tests)

module _ (short : List AllocSite) where
  abbrev pub among : Object → Bool
  among o = list_any (same_site o.site) short

  -- an object from the name on, and one below it
  short_in : (name : ℕ) (x : Object) (xs : List Object) → name ≤ x.name → short_from name short (x ∷ xs) ≡ cond (among x) (x ∷ short_from name short xs) (short_from name short xs)
  short_in name x xs le = ap (λ b. cond (b && among x) (x ∷ short_from name short xs) (short_from name short xs)) (passes name x.name le)

  short_out : (name : ℕ) (x : Object) (xs : List Object) → x.name < name → short_from name short (x ∷ xs) ≡ short_from name short xs
  short_out name x xs lt = ap (λ b. cond (b && among x) (x ∷ short_from name short xs) (short_from name short xs)) (fails name x.name lt)

  -- from whichever name at or below all of them
  short_lower : (a b low next : ℕ) (os : List Object) → Rising low os next → a ≤ low → b ≤ low → short_from a short os ≡ short_from b short os
  short_lower a b low next [] rising la lb = refl
  short_lower a b low next (x ∷ xs) rising la lb =
      let h = rising.0 in
      short_in a x xs (omega arith) ∙ ap (λ zs. cond (among x) (x ∷ zs) zs) (short_lower a b (x.name + 1) next xs rising.3 (omega arith) (omega arith)) ∙ sym (short_in b x xs (omega arith))

  -- from the next name on there is none
  pub short_end : (name low next : ℕ) (os : List Object) → Rising low os next → next ≤ name → short_from name short os ≡ []
  short_end name low next [] rising le = refl
  short_end name low next (x ∷ xs) rising le = let h = rising.1 in short_out name x xs (omega arith) ∙ short_end name (x.name + 1) next xs rising.3 le

  pub short_none : (name : ℕ) (os : List Object) → first_from name os ≡ None → short_from name short os ≡ []
  short_none name [] e = refl
  short_none name (x ∷ xs) e = elim (cases_lt x.name name) [
    | inl lt ↦ short_out name x xs lt ∙ short_none name xs (sym (ap (λ b. cond b (Some x) (first_from name xs)) (fails name x.name lt)) ∙ e)
    | inr le ↦ absurd (some x (sym (ap (λ b. cond b (Some x) (first_from name xs)) (passes name x.name le)) ∙ e))
  ]
    where
      some : (y : Object) → ◌≡◌ {A = Option Object} (Some y) None → ⊥
      some y h = cc

  pub record First (name next : ℕ) (os : List Object) (o : Object) : Type 0 where
    pub from : name ≤ o.name
    pub below : o.name < next
    pub rest : short_from name short os ≡ cond (among o) (o ∷ short_from (o.name + 1) short os) (short_from (o.name + 1) short os)

  -- the object of least name from the name on, and what is behind it
  pub first : (name low next : ℕ) (os : List Object) (o : Object) → Rising low os next → first_from name os ≡ Some o → First name next os o
  first name low next [] o rising e = absurd (none e)
    where
      none : ◌≡◌ {A = Option Object} None (Some o) → ⊥
      none h = cc
  first name low next (x ∷ xs) o rising e = elim (cases_lt x.name name) [
    | inr le ↦ here (one x (sym (ap (λ b. cond b (Some x) (first_from name xs)) (passes name x.name le)) ∙ e)) le
    | inl lt ↦ behind lt (first name (x.name + 1) next xs o rising.3 (sym (ap (λ b. cond b (Some x) (first_from name xs)) (fails name x.name lt)) ∙ e))
  ]
    where
      one : (y : Object) → ◌≡◌ {A = Option Object} (Some y) (Some o) → y ≡ o
      one y h = cc

      at_head : name ≤ x.name → First name next (x ∷ xs) x
      at_head le = record {
        from = le;
        below = rising.1;
        rest = short_in name x xs le
            ∙ ap (λ zs. cond (among x) (x ∷ zs) zs) (short_lower name (x.name + 1) (x.name + 1) next xs rising.3 (omega arith) (omega arith) ∙ sym (short_out (x.name + 1) x xs (omega arith)));
      }

      here : x ≡ o → name ≤ x.name → First name next (x ∷ xs) o
      here same le = subst (First name next (x ∷ xs)) same (at_head le)

      behind : x.name < name → First name next xs o → First name next (x ∷ xs) o
      behind lt f =
          let le = f.from in
          record {
            from = f.from;
            below = f.below;
            rest = short_out name x xs lt ∙ f.rest ∙ ap (λ zs. cond (among o) (o ∷ zs) zs) (sym (short_out (o.name + 1) x xs (omega arith)));
          }

  -- the object was counted or passed over
  pub counted : (name : ℕ) (os : List Object) (o : Object) (left : Option Left) → short_from name short os ≡ cond (among o) (o ∷ short_from (o.name + 1) short os) (short_from (o.name + 1) short os) → among o ≡ true → joined (Some (one_more left o.site)) (short_from (o.name + 1) short os) ≡ joined left (short_from name short os)
  counted name os o left rest yes_among = sym (ap (joined left) (rest ∙ ap (λ b. cond b (o ∷ short_from (o.name + 1) short os) (short_from (o.name + 1) short os)) yes_among) ∙ joined_one left o (short_from (o.name + 1) short os))

  pub passed : (name : ℕ) (os : List Object) (o : Object) (left : Option Left) → short_from name short os ≡ cond (among o) (o ∷ short_from (o.name + 1) short os) (short_from (o.name + 1) short os) → among o ≡ false → joined left (short_from (o.name + 1) short os) ≡ joined left (short_from name short os)
  passed name os o left rest not_among = sym (ap (joined left) (rest ∙ ap (λ b. cond b (o ∷ short_from (o.name + 1) short os) (short_from (o.name + 1) short os)) not_among))

-- one object more has one name more
pub few_more : (left : Option Left) (site : AllocSite) (name more : ℕ) → name < more → MatchOption left ⊤ (λ x. x.count ≤ name) → (one_more left site).count ≤ more
few_more None site name more lt few = omega arith
few_more (Some l) site name more lt few = omega arith

pub few_still : (left : Option Left) (name more : ℕ) → name ≤ more → MatchOption left ⊤ (λ x. x.count ≤ name) → MatchOption left ⊤ (λ x. x.count ≤ more)
few_still None name more le few = few
few_still (Some l) name more le few = omega arith
