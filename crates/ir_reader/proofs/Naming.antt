-- Names among others, by their numbers.
use Rattle.std.proofs.Common.{◌≡◌, ℕ, ◌<◌, Bool, true, false, cond, List, [], ◌∷◌, ◌++◌, length, map, Ok, Err, refl, sym, ap, ◌∙◌}
use Rattle.std.specs.Prelude.{nat_eq}
use Rattle.std.specs.List.{list_any, AllByRecursion}
use Rattle.std.proofs.lemmas.List.{map-append}
use Rattle.std.proofs.lemmas.List.Elements.{recursion_from_All}
use Rattle.pv_base.specs.declared.name.Name.{Name}
use Rattle.ir_tree.specs.Table.{Table, IsTable, same_name, name_among, with_name}
use Rattle.ir_tree.specs.Naming.{Grows, name_at}
use Rattle.ir_tree.proofs.Bodies.{each_same}
use Rattle.std.proofs.lemmas.Option.{get_or_from_slice_get, slice_get-get_or}
use Rattle.pv_base.specs.declared.name.Name.TheVariants.{Numbered}
use Rattle.ir_lex.specs.declared.token.Cause.{Cause}
use Rattle.ir_lex.specs.declared.token.Cause.TheVariants as causes
use Rattle.ir_text.specs.declared.fault.ReadEnd.{ReadEnd}
use Rattle.ir_text.specs.declared.fault.ReadEnd.TheVariants as ends
use Rattle.ir_text.specs.Tokens.{TokenV, IsBlamed}
use Rattle.ir_text.specs.Reading.{Fails, wrong}
use Rattle.ir_instr.specs.Defined.{AreNames, number_among, with_number}
use Rattle.ir_grammar.specs.Headers.{unique}

module _ (table later : Table) (is : IsTable table) (grows : Grows table later) where
  pub name_stays : (k : ℕ) → k < length table.names → name_at later k ≡ name_at table k
  name_stays k lt = get_or_from_slice_get later.names k (name_at table k) (Numbered 0) (grows.names k _ (slice_get-get_or table.names k (Numbered 0) lt))

  among_each : (ks : List ℕ) (k : ℕ) → AllByRecursion (λ j. j < length table.names) ks → k < length table.names → name_among (name_at later k) (map (name_at later) ks) ≡ number_among k ks
  among_each [] k all lt = refl
  among_each (j ∷ js) k all lt =
      let one : same_name (name_at later k) (name_at later j) ≡ nat_eq k j = rw (name_stays k lt, name_stays j all.0) (sym (each_same table k j is lt all.0)) in
      let others : list_any (same_name (name_at later k)) (map (name_at later) js) ≡ list_any (nat_eq k) js = among_each js k all.1 lt in
      rw (one, others) refl

  -- whether a name is among others, and whether its number is among theirs
  pub among_later : (ks : List ℕ) (k : ℕ) → AreNames table ks → k < length table.names → name_among (name_at later k) (map (name_at later) ks) ≡ number_among k ks
  among_later ks k all lt = among_each ks k (recursion_from_All (λ j. j < length table.names) ks all) lt

  pub with_later : (ks : List ℕ) (k : ℕ) → AreNames table ks → k < length table.names → map (name_at later) (with_number ks k) ≡ with_name (map (name_at later) ks) (name_at later k)
  with_later ks k all lt = by_test (number_among k ks) (name_among (name_at later k) (map (name_at later) ks)) (among_later ks k all lt)
    where
      by_test : (b c : Bool) → c ≡ b → map (name_at later) (cond b ks (ks ++ k ∷ [])) ≡ cond c (map (name_at later) ks) (map (name_at later) ks ++ name_at later k ∷ [])
      by_test true c e = rw e refl
      by_test false c e = rw e (map-append (name_at later) ks (k ∷ []))

  pub given_before : (ks : List ℕ) (k : ℕ) (name : Name) → AreNames table ks → k < length table.names → name_at later k ≡ name → number_among k ks ≡ true → unique (map (name_at later) ks) name ≡ Err causes.Duplicate
  given_before ks k name all lt spelled there = let e : name_among (name_at later k) (map (name_at later) ks) ≡ true = among_later ks k all lt ∙ there in rw (← spelled, e) refl

  pub given_first : (ks : List ℕ) (k : ℕ) (name : Name) → AreNames table ks → k < length table.names → name_at later k ≡ name → number_among k ks ≡ false → unique (map (name_at later) ks) name ≡ Ok (name_at later k)
  given_first ks k name all lt spelled there = let e : name_among (name_at later k) (map (name_at later) ks) ≡ false = among_later ks k all lt ∙ there in rw (← spelled, e) refl

-- a token that is refused
pub blamed_fails : (A : Type 0) (t : TokenV) (cause : Cause) (e : ReadEnd) → IsBlamed t cause e → Fails e (wrong {A = A} t cause)
blamed_fails A t cause ends.Memory is = tt
blamed_fails A t cause (ends.Bad f) is = ap Err (sym is)
