-- Types of globals.
use Rattle.std.proofs.Common.{◌≡◌, ℕ, ◌+◌, ◌<◌, true, false, cond, List, [], ◌∷◌, Option, length, Ok, Err, refl, sym, ap, ◌∙◌}
use Rattle.ir_lex.specs.declared.token.Cause.TheVariants as causes
use Rattle.pv_base.specs.declared.name.Name.{Name}
use Rattle.ir_tree.specs.declared.layout.Layout.{Layout}
use Rattle.ir_tree.specs.Layouts.{layout_with}
use Rattle.ir_tree.specs.Table.{Table, IsTable}
use Rattle.ir_tree.specs.Naming.{Grows, type_at}
use Rattle.ir_tree.specs.Trees.{TypeV}
use Rattle.ir_text.specs.declared.named.NamedBody.{NamedBody}
use Rattle.ir_text.specs.declared.fault.Fault.TheVariants.{Ended}
use Rattle.ir_text.specs.declared.fault.ReadEnd.{ReadEnd}
use Rattle.ir_text.specs.declared.fault.ReadEnd.TheVariants as ends
use Rattle.ir_text.specs.Tokens.{TokenV, IsBlamed}
use Rattle.ir_text.specs.Reading.{Outcome, ◌>>=◌, Fails, wrong}
use Rattle.ir_text.specs.Named.{known_of, layout_in}
use Rattle.ir_text.specs.MemoryTypes.{memory_type_at}
use Rattle.ir_text.specs.Types.{Known}
use Rattle.ir_text.proofs.LaidOut.{type_kept}
use Rattle.ir_text.proofs.MemoryTypeLaws.{laid_names}
use Rattle.ir_grammar.specs.Items.{bytes_of, size_of, fits_globals, global_type_at}

pub size_is : (table later : Table) → IsTable table → Grows table later → (bodies : List (Name × NamedBody)) (k bytes : ℕ) (l : Option Layout) → k < length table.types → l ≡ layout_with (layout_in bodies) (type_at table k) → bytes ≡ bytes_of l
    → bytes ≡ size_of (known_of later bodies) (type_at later k)
size_is table later is grows bodies k bytes l lt laid e =
    e ∙ ap bytes_of (laid ∙ sym (ap (layout_with (layout_in bodies)) (type_kept table later is grows k lt)) ∙ sym (laid_names later bodies (type_at later k)))

module _ (known : Known) (size : ℕ) (ts : List TokenV) where
  pub global_none : ts ≡ [] → global_type_at known size ts ≡ Err Ended
  unfolding global_type_at
  global_none is = rw is refl

  module _ (rest : List TokenV) (t : TokenV) (is : ts ≡ t ∷ rest) where
    global_is : global_type_at known size ts ≡ (memory_type_at known ts >>= λ of. cond (fits_globals (size + size_of known of.0)) (let p : Outcome TypeV = Ok of in p) (wrong t causes.Layout))
    unfolding global_type_at
    global_is = rw is refl

    pub global_fails : (e : ReadEnd) → Fails e (memory_type_at known ts) → Fails e (global_type_at known size ts)
    global_fails ends.Memory h = tt
    global_fails (ends.Bad f) h = global_is ∙ rw h refl

    module _ (of : TypeV) (us : List TokenV) (read : memory_type_at known ts ≡ Ok (of, us)) (bytes : ℕ) (taken : bytes ≡ size_of known of) where
      pub global_fits : fits_globals (size + bytes) ≡ true → global_type_at known size ts ≡ Ok (of, us)
      global_fits fits = global_is ∙ rw read (rw (← taken, fits) refl)

      pub global_over : fits_globals (size + bytes) ≡ false → (e : ReadEnd) → IsBlamed t causes.Layout e → Fails e (global_type_at known size ts)
      global_over over ends.Memory h = tt
      global_over over (ends.Bad f) h = global_is ∙ rw read (rw (← taken, over) (ap Err (sym h)))
