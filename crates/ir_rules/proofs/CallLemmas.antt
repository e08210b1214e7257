-- The types of calls, by numbers and written out.
use Rattle.std.proofs.Common.{◌≡◌, ℕ, suc, ◌<◌, ◌≤◌, ◌+◌, ◌-◌, Bool, true, false, List, [], ◌∷◌, map, length, drop, get_or, refl, sym, ap, ◌∙◌, arith, add-one, length-drop}
use Rattle.std.specs.Prelude.{◌&&◌, ◌||◌, nat_eq}
use Rattle.std.proofs.lemmas.Bool.{ne_eqb}
use Rattle.std.proofs.Math.Seq.{drop-cons}
use Rattle.std.proofs.lemmas.List.{drop_all}
use Rattle.ir_tree.specs.declared.instruction.Argument.{Argument}
use Rattle.ir_tree.specs.declared.items.Param.{Param}
use Rattle.ir_tree.specs.declared.items.Function.{Function}
use Rattle.ir_tree.specs.Table.{Table}
use Rattle.ir_tree.specs.Trees.{TypeV, PtrV}
use Rattle.ir_tree.specs.Naming.{type_at}
use Rattle.ir_tree.specs.Shown.{shown_operand, shown_argument, shown_param, shown_function}
use Rattle.ir_rules.specs.Same.{same_type}
use Rattle.ir_rules.specs.Constants.{is_pointer}
use Rattle.ir_rules.specs.Calls.{params_fit, param_types, written_form}
use Rattle.ir_rules.specs.Causes.{operand_index}
use Rattle.ir_rules.proofs.GivenLemmas.{pointer_left}

pub param_types_shown : (t : Table) (f : Function ℕ ℕ ℕ) → param_types (shown_function t f) ≡ map (type_at t) (map (λ p. p.of) f.params)
param_types_shown t f = go f.params
  where
    go : (ps : List (Param ℕ ℕ)) → map (λ p. p.of) (map (shown_param t) ps) ≡ map (type_at t) (map (λ p. p.of) ps)
    go [] = refl
    go (p ∷ ps) = ap (λ l. type_at t p.of ∷ l) (go ps)

pub argument_types_shown : (t : Table) (args : List (Argument ℕ ℕ ℕ)) → map (λ a. a.of) (map (shown_argument t) args) ≡ map (type_at t) (map (λ a. a.of) args)
argument_types_shown t [] = refl
argument_types_shown t (a ∷ args) = ap (λ l. type_at t a.of ∷ l) (argument_types_shown t args)

pub indices_shown : (t : Table) (args : List (Argument ℕ ℕ ℕ)) → map (λ a. operand_index a.of a.value) (map (shown_argument t) args) ≡ map (λ a. operand_index (type_at t a.of) (shown_operand t a.value)) args
indices_shown t [] = refl
indices_shown t (a ∷ args) = ap (λ l. operand_index (type_at t a.of) (shown_operand t a.value) ∷ l) (indices_shown t args)

and_true : (b : Bool) → (b && true) ≡ b
and_true true = refl
and_true false = refl

and_false : (b : Bool) → (b && false) ≡ false
and_false true = refl
and_false false = refl

or_true : (b : Bool) → (b || true) ≡ true
or_true true = refl
or_true false = refl

or_false : (b : Bool) → (b || false) ≡ b
or_false true = refl
or_false false = refl

pub form_one : (a : TypeV) → written_form (a ∷ []) ≡ is_pointer a
unfolding params_fit
form_one a = and_true (same_type PtrV a) ∙ pointer_left a

pub form_more : (a b : TypeV) (rest : List TypeV) → written_form (a ∷ b ∷ rest) ≡ false
unfolding params_fit
form_more a b rest = and_false (same_type PtrV a)

pub only_one : (at : ℕ → TypeV) (xs : List ℕ) → 1 ≤ length xs → length xs < 2 → is_pointer (at (get_or xs 0 0)) ≡ written_form (map at xs)
only_one at [] some few = absurd (omega arith)
only_one at (x ∷ []) some few = sym (form_one (at x))
only_one at (x ∷ y ∷ rest) some few = absurd (omega arith)

pub or_left : (a b : Bool) → a ≡ true → a ≡ (a || b)
or_left a b e = rw e refl

pub or_right : (a b : Bool) → a ≡ false → b ≡ (a || b)
or_right a b e = rw e refl

-- types that are written in two ways, pair by pair
module _ {X Y : Type 0} (f : X → TypeV) (g : Y → TypeV) (more : Bool) where
  fit_step : (ps : List X) (args : List Y) (i : ℕ) (d : X) (e : Y) → i < length ps → i < length args
      → params_fit more (map f (drop i ps)) (map g (drop i args)) ≡ (same_type (f (get_or ps i d)) (g (get_or args i e)) && params_fit more (map f (drop (suc i) ps)) (map g (drop (suc i) args)))
  unfolding params_fit
  fit_step ps args i d e lp la = rw (drop-cons ps i d, drop-cons args i e) refl

  pub fit_short : (ps : List X) (args : List Y) → length args < length ps → false ≡ params_fit more (map f ps) (map g args)
  unfolding params_fit
  fit_short [] args lt = absurd (omega arith)
  fit_short (p ∷ ps) [] lt = refl
  fit_short (p ∷ ps) (a ∷ args) lt = rw (← fit_short ps args (omega arith)) (sym (and_false (same_type (f p) (g a))))

  -- a loop over two lists stops at a pair that differs, and goes on behind one that does not
  pub fit_stop : (ps : List X) (args : List Y) (i : ℕ) (d : X) (e : Y) (t : Bool) → i < length ps → i < length args → params_fit more (map f ps) (map g args) ≡ params_fit more (map f (drop i ps)) (map g (drop i args))
      → t ≡ same_type (f (get_or ps i d)) (g (get_or args i e)) → t ≡ false → false ≡ params_fit more (map f ps) (map g args)
  fit_stop ps args i d e t lp la so is h =
      let k : same_type (f (get_or ps i d)) (g (get_or args i e)) ≡ false = sym is ∙ h in
      sym (so ∙ fit_step ps args i d e lp la ∙ rw k refl)

  pub fit_more : (ps : List X) (args : List Y) (i : ℕ) (d : X) (e : Y) (t : Bool) → i < length ps → i < length args → params_fit more (map f ps) (map g args) ≡ params_fit more (map f (drop i ps)) (map g (drop i args))
      → t ≡ same_type (f (get_or ps i d)) (g (get_or args i e)) → t ≡ true → params_fit more (map f ps) (map g args) ≡ params_fit more (map f (drop (i + 1) ps)) (map g (drop (i + 1) args))
  fit_more ps args i d e t lp la so is h =
      let k : same_type (f (get_or ps i d)) (g (get_or args i e)) ≡ true = sym is ∙ h in
      rw add-one (so ∙ fit_step ps args i d e lp la ∙ rw k refl)

  fit_rest : (args : List Y) → params_fit more [] (map g args) ≡ (more || nat_eq (length args) 0)
  unfolding params_fit
  fit_rest [] = sym (or_true more)
  fit_rest (a ∷ args) =
      let h : nat_eq (suc (length args)) 0 ≡ false = ne_eqb (suc (length args)) 0 (λ (e : suc (length args) ≡ 0). omega arith) in
      sym (ap (λ b. more || b) h ∙ or_false more)

  pub fit_end : (ps : List X) (args : List Y) (i : ℕ) → length ps ≤ i → i ≤ length ps → (more || nat_eq (length args - length ps) 0) ≡ params_fit more (map f (drop i ps)) (map g (drop i args))
  fit_end ps args i le ge =
      let e : i ≡ length ps = omega arith in
      rw (e, drop_all (length ps) ps (omega arith)) (sym (fit_rest (drop (length ps) args) ∙ ap (λ n. more || nat_eq n 0) (length-drop (length ps) args)))
