-- Names that a function can define.
use Rattle.std.proofs.Common.{◌≡◌, ℕ, ◌<◌, length, true, false, List, [], ◌∷◌, map, Some, slice_get, Result, Ok, Err, refl, sym, ap, ◌∙◌}
use Rattle.std.specs.List.{AllByRecursion}
use Rattle.std.proofs.lemmas.List.Elements.{recursion_from_All}
use Rattle.std.proofs.lemmas.Option.{get_or_from_slice_get, slice_get_within}
use Rattle.pv_base.specs.declared.name.Name.{Name}
use Rattle.pv_base.specs.declared.name.Name.TheVariants.{Numbered}
use Rattle.ir_lex.specs.declared.token.Cause.{Cause}
use Rattle.ir_lex.specs.declared.token.Cause.TheVariants as causes
use Rattle.ir_tree.specs.Table.{Table, IsTable, name_among}
use Rattle.ir_tree.specs.Naming.{Grows, name_at}
use Rattle.ir_tree.proofs.Bodies.{each_same}
use Rattle.ir_text.specs.declared.fault.ReadEnd.{ReadEnd}
use Rattle.ir_text.specs.declared.fault.ReadEnd.TheVariants as ends
use Rattle.ir_text.specs.Tokens.{TokenV, IsBlamed}
use Rattle.ir_text.specs.Reading.{Fails, meant}
use Rattle.ir_text.proofs.LaidOut.{name_kept}
use Rattle.ir_instr.specs.Defined.{number_among, AreNames, IsNew}
use Rattle.ir_instr.specs.Instructions.{is_counted, definable}
use Rattle.ir_instr.proofs.Kept.{names_kept}

among_later : (t later : Table) → IsTable t → Grows t later → (k : ℕ) → k < length t.names → (ks : List ℕ) → AllByRecursion (λ j. j < length t.names) ks → number_among k ks ≡ name_among (name_at later k) (map (name_at later) ks)
among_later t later is grows k lt [] all = refl
among_later t later is grows k lt (j ∷ ks) all =
    let others : number_among k ks ≡ name_among (name_at later k) (map (name_at later) ks) = among_later t later is grows k lt ks all.1 in
    rw (← others, name_kept t later is grows k lt, name_kept t later is grows j all.0, ← each_same t k j is lt all.0) refl

module _ (old t later : Table) (is : IsTable t) (grew : Grows old t) (grows : Grows t later) (k : ℕ) (name : Name) (numbered : slice_get t.names k ≡ Some name) (ks : List ℕ) (are : AreNames old ks) where
  within : k < length t.names
  within = slice_get_within t.names k name numbered

  shows : name_at later k ≡ name
  shows = get_or_from_slice_get later.names k name (Numbered 0) (grows.names k name numbered)

  among : name_among name (map (name_at later) ks) ≡ number_among k ks
  among = sym (among_later t later is grows k within ks (recursion_from_All (λ j. j < length t.names) ks (names_kept old t ks are grew)) ∙ ap (λ (n : Name). name_among n (map (name_at later) ks)) shows)

  module _ (next : ℕ) (counted : is_counted next name ≡ true) where
    pub defines : number_among k ks ≡ false → definable next (map (name_at later) ks) name ≡ Ok (name_at later k)
    defines none = rw (counted, among, none) (ap Ok (sym shows))

    pub duplicates : number_among k ks ≡ true → definable next (map (name_at later) ks) name ≡ Err causes.Duplicate
    duplicates there = rw (counted, among, there) refl

pub new_name : (t : Table) (k : ℕ) (name : Name) (ks : List ℕ) → slice_get t.names k ≡ Some name → number_among k ks ≡ false → IsNew t ks k
new_name t k name ks numbered none = record { within = slice_get_within t.names k name numbered; is_new = none }

pub uncounted : (next : ℕ) (names : List Name) (name spelled : Name) → name ≡ spelled → is_counted next name ≡ false → definable next names spelled ≡ Err causes.Name
uncounted next names name spelled is e = rw (← is) (rw e refl)

pub meant_is : {A : Type 0} (m : Result A Cause) (a : A) (t : TokenV) (rest : List TokenV) → m ≡ Ok a → meant m t rest ≡ Ok (a, rest)
meant_is m a t rest e = rw e refl

pub meant_fails : {A : Type 0} (m : Result A Cause) (cause : Cause) (t : TokenV) (rest : List TokenV) (e : ReadEnd) → m ≡ Err cause → IsBlamed t cause e → Fails e (meant m t rest)
meant_fails m cause t rest ends.Memory is h = tt
meant_fails m cause t rest (ends.Bad fault) is h = rw is (rw h refl)
