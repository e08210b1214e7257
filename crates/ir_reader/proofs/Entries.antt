-- Parameters, one after the other.
use Rattle.std.proofs.Common.{◌≡◌, ℕ, suc, Bool, true, false, List, [], ◌∷◌, ◌++◌, drop, Ok, Err, refl, sym, ap, ◌∙◌, append_assoc}
use Rattle.std.proofs.lemmas.List.{append-nil}
use Rattle.pv_base.specs.declared.name.Name.{Name}
use Rattle.ir_tree.specs.declared.items.Param.{Param}
use Rattle.ir_tree.specs.Trees.{TypeV}
use Rattle.ir_text.specs.declared.fault.Fault.TheVariants.{Ended}
use Rattle.ir_text.specs.declared.fault.ReadEnd.{ReadEnd}
use Rattle.ir_text.specs.declared.fault.ReadEnd.TheVariants as ends
use Rattle.ir_text.specs.Tokens.{TokenV, is_mark, is_points}
use Rattle.ir_text.specs.Reading.{Outcome, ◌>>=◌, next_is, token_by, Fails}
use Rattle.ir_text.proofs.Eaten.{eaten}
use Rattle.ir_grammar.specs.Scopes.{Scope, after_param}
use Rattle.ir_grammar.specs.Headers.{Params, with_param, points_by, param_at, entries_to}
use Rattle.ir_reader.specs.Heads.{behind_params}

none_behind : (front : List (Param Name TypeV)) (read : Outcome Params) → behind_params [] read ≡ read
none_behind front (Ok x) = refl
none_behind front (Err f) = refl

pub starts : (read : Outcome Params) → behind_params [] read ≡ read
starts read = none_behind [] read

one_more : (front : List (Param Name TypeV)) (p : Param Name TypeV) (read : Outcome Params) → behind_params front (read >>= λ others. Ok (with_param p others.0, others.1)) ≡ behind_params (front ++ p ∷ []) read
one_more front p (Ok x) = ap (λ (ps : List (Param Name TypeV)). Ok (record { params = ps; variadic = x.0.variadic }, x.1)) (sym (append_assoc front (p ∷ []) x.0.params))
one_more front p (Err f) = refl

module _ (declared : Bool) (m n : ℕ) (s : Scope) (ts : List TokenV) (front : List (Param Name TypeV)) (total : Outcome Params) (turn : n ≡ suc m) (so_far : behind_params front (entries_to declared n s ts) ≡ total) where
  pub variadic_end : (rest : List TokenV) → next_is is_points ts ≡ true → token_by (points_by declared) ts ≡ Ok (tt, rest) → total ≡ Ok (record { params = front; variadic = true }, rest)
  unfolding entries_to
  variadic_end rest there read =
      let one : behind_params front (entries_to declared n s ts) ≡ Ok (record { params = front; variadic = true }, rest) = rw (turn, there, read) (ap (λ (ps : List (Param Name TypeV)). Ok (record { params = ps; variadic = true }, rest)) (append-nil front)) in
      sym so_far ∙ one

  pub points_fail : (d : ReadEnd) → next_is is_points ts ≡ true → Fails d (token_by (points_by declared) ts) → Fails d total
  unfolding entries_to
  points_fail ends.Memory there read = tt
  points_fail (ends.Bad f) there read =
      let one : behind_params front (entries_to declared n s ts) ≡ Err f = rw (turn, there, read) refl in
      sym so_far ∙ one

  pub param_fails : (d : ReadEnd) → next_is is_points ts ≡ false → Fails d (param_at declared s ts) → Fails d total
  unfolding entries_to
  param_fails ends.Memory there read = tt
  param_fails (ends.Bad f) there read =
      let one : behind_params front (entries_to declared n s ts) ≡ Err f = rw (turn, there, read) refl in
      sym so_far ∙ one

  pub last_param : (p : Param Name TypeV) (rest : List TokenV) → next_is is_points ts ≡ false → param_at declared s ts ≡ Ok (p, rest) → next_is (is_mark 44) rest ≡ false → total ≡ Ok (record { params = front ++ p ∷ []; variadic = false }, rest)
  unfolding entries_to
  last_param p rest there read none =
      let one : behind_params front (entries_to declared n s ts) ≡ Ok (record { params = front ++ p ∷ []; variadic = false }, rest) = rw (turn, there, read, none) refl in
      sym so_far ∙ one

  pub goes_on : (p : Param Name TypeV) (rest : List TokenV) → next_is is_points ts ≡ false → param_at declared s ts ≡ Ok (p, rest) → next_is (is_mark 44) rest ≡ true → behind_params (front ++ p ∷ []) (entries_to declared m (after_param s p) (drop 1 rest)) ≡ total
  unfolding entries_to
  goes_on p rest there read more =
      let one : behind_params front (entries_to declared n s ts) ≡ behind_params (front ++ p ∷ []) (entries_to declared m (after_param s p) (drop 1 rest)) = rw (turn, there, read, more, eaten 44 rest more) (one_more front p (entries_to declared m (after_param s p) (drop 1 rest))) in
      sym one ∙ so_far

pub runs_out : (declared : Bool) (n : ℕ) (s : Scope) (ts : List TokenV) (front : List (Param Name TypeV)) (total : Outcome Params) → n ≡ 0 → behind_params front (entries_to declared n s ts) ≡ total → total ≡ Err Ended
unfolding entries_to
runs_out declared n s ts front total is so_far =
    let one : behind_params front (entries_to declared n s ts) ≡ Err Ended = rw is refl in
    sym so_far ∙ one
