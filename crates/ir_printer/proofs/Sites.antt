-- A site, part by part.
use Rattle.std.proofs.Common.{◌≡◌, ℕ, List, [], ◌∷◌, ◌++◌, Some, slice_get, refl, sym, ap, ◌∙◌}
use Rattle.std.specs.Prelude.{codes, decimal}
use Rattle.std.proofs.lemmas.List.{append-nil}
use Rattle.pv_base.specs.declared.place.Site.{Site}
use Rattle.ir_tree.specs.declared.items.Function.{Function}
use Rattle.ir_tree.specs.Naming.{name_at}
use Rattle.ir_tree.specs.Modules.{Items}
use Rattle.ir_printer.specs.Pieces.{Global, spelled, bytes_of}
use Rattle.ir_printer.specs.Items.{function_named, site_text}

pub site_written : (m : Items) (site : Site) (f : Function ℕ ℕ ℕ) (x y z : List ℕ) → slice_get m.functions site.function ≡ Some f → x ≡ bytes_of (Global (name_at m.names f.name) ∷ []) → y ≡ x ++ codes ":" → z ≡ y ++ decimal site.place
    → z ≡ site_text m site
site_written m site f x y z known e g h =
    let name = spelled (Global (name_at m.names f.name)) in
    let found : function_named m (slice_get m.functions site.function) ≡ name = rw known refl in
    let first : x ≡ name = e ∙ append-nil name in
    h ∙ ap (λ (bs : List ℕ). bs ++ decimal site.place) (g ∙ ap (λ (bs : List ℕ). bs ++ codes ":") (first ∙ sym found))
