-- What reading a type of memory comes to.
use Rattle.std.proofs.Common.{◌≡◌, ℕ, List, [], ◌∷◌, Option, Some, None, Ok, Err, cond, refl, sym, ap, ◌∙◌}
use Rattle.std.specs.Prelude.{option_map, option_and_then}
use Rattle.pv_base.specs.declared.name.Name.{Name}
use Rattle.ir_lex.specs.declared.token.Cause.TheVariants as causes
use Rattle.ir_tree.specs.declared.layout.Layout.{Layout}
use Rattle.ir_tree.specs.Layouts.{layout_with}
use Rattle.ir_tree.specs.Table.{Table}
use Rattle.ir_tree.specs.Trees.{TypeV}
use Rattle.ir_tree.specs.Naming as naming
use Rattle.ir_text.specs.declared.fault.Fault.TheVariants.{Ended}
use Rattle.ir_text.specs.declared.fault.ReadEnd.{ReadEnd}
use Rattle.ir_text.specs.declared.fault.ReadEnd.TheVariants as ends
use Rattle.ir_text.specs.declared.named.NamedBody.{NamedBody}
use Rattle.ir_text.specs.Tokens.{TokenV, IsBlamed}
use Rattle.ir_text.specs.Reading.{Outcome, ◌>>=◌, Fails, wrong}
use Rattle.ir_text.specs.Types.{Body, Known, type_at}
use Rattle.ir_text.specs.Named.{own_layout, body_of, body_in, known_of, layout_in}
use Rattle.ir_text.specs.MemoryTypes.{named_layouts, has_layout, memory_type_at}
use Rattle.ir_text.proofs.NestedSteps.{bind_fails, fails_is}
use Rattle.ir_text.proofs.LaidOut.{layouts_by}

body_layout : (t : Table) (o : Option NamedBody) → option_and_then (λ (b : Body). b.layout) (option_map (body_of t) o) ≡ option_and_then own_layout o
body_layout t None = refl
body_layout t (Some b) = refl

-- the layouts of names do not rest on the table
pub laid_names : (t : Table) (bodies : List (Name × NamedBody)) (of : TypeV) → layout_with (named_layouts (known_of t bodies)) of ≡ layout_with (layout_in bodies) of
laid_names t bodies of = layouts_by (named_layouts (known_of t bodies)) (layout_in bodies) (λ name. body_layout t (body_in bodies name)) of

module _ (known : Known) where
  pub memory_none : (ts : List TokenV) → ts ≡ [] → memory_type_at known ts ≡ Err Ended
  unfolding memory_type_at
  memory_none ts is = rw is refl

  module _ (ts rest : List TokenV) (t : TokenV) (is : ts ≡ t ∷ rest) where
    memory_is : memory_type_at known ts ≡ (type_at known ts >>= λ x. cond (has_layout known x.0) (let p : Outcome TypeV = Ok x in p) (wrong t causes.Layout))
    unfolding memory_type_at
    memory_is = rw is refl

    pub memory_fails : (e : ReadEnd) → Fails e (type_at known ts) → Fails e (memory_type_at known ts)
    memory_fails e h = fails_is e _ _ memory_is (bind_fails e (type_at known ts) _ h)

    module _ (x : TypeV × List TokenV) (read : type_at known ts ≡ Ok x) where
      pub memory_laid : (l : Layout) → layout_with (named_layouts known) x.0 ≡ Some l → memory_type_at known ts ≡ Ok x
      memory_laid l has = memory_is ∙ rw read (rw has refl)

      pub memory_unlaid : layout_with (named_layouts known) x.0 ≡ None → (e : ReadEnd) → IsBlamed t causes.Layout e → Fails e (memory_type_at known ts)
      memory_unlaid lacks ends.Memory h = tt
      memory_unlaid lacks (ends.Bad fault) h = memory_is ∙ rw read (rw lacks (rw h refl))

-- the same by a type's number
module _ (bodies : List (Name × NamedBody)) (later names : Table) (ts rest us : List TokenV) (t : TokenV) (is : ts ≡ t ∷ rest) (k : ℕ) (read : type_at (known_of later bodies) ts ≡ Ok (naming.type_at later k, us))
    (kept : naming.type_at later k ≡ naming.type_at names k) where
  layout_is : layout_with (named_layouts (known_of later bodies)) (naming.type_at later k) ≡ layout_with (layout_in bodies) (naming.type_at names k)
  layout_is = laid_names later bodies (naming.type_at later k) ∙ ap (layout_with (layout_in bodies)) kept

  pub read_laid : (l : Layout) → Some l ≡ layout_with (layout_in bodies) (naming.type_at names k) → memory_type_at (known_of later bodies) ts ≡ Ok (naming.type_at later k, us)
  read_laid l has = memory_laid (known_of later bodies) ts rest t is (naming.type_at later k, us) read l (layout_is ∙ sym has)

  pub read_unlaid : None ≡ layout_with (layout_in bodies) (naming.type_at names k) → (e : ReadEnd) → IsBlamed t causes.Layout e → Fails e (memory_type_at (known_of later bodies) ts)
  read_unlaid lacks e h = memory_unlaid (known_of later bodies) ts rest t is (naming.type_at later k, us) read (layout_is ∙ sym lacks) e h
