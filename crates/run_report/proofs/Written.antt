-- What is said of a module by its numbers, of the module written out.
use Rattle.std.proofs.Common.{◌≡◌, ℕ, ◌+◌, List, [], ◌∷◌, map, length, Option, Some, None, option_map, slice_get, refl, sym, ap, ◌∙◌}
use Rattle.std.specs.Prelude.{fold, cond, count_by, sum_by}
use Rattle.std.proofs.lemmas.List.{length-map}
use Rattle.std.proofs.lemmas.Option.{slice_get-map}
use Rattle.ir_tree.specs.declared.items.Global.{Global}
use Rattle.ir_tree.specs.declared.items.Function.{Function}
use Rattle.ir_tree.specs.Naming.{name_at}
use Rattle.ir_tree.specs.Shown.{shown, shown_block, shown_global, shown_function}
use Rattle.ir_tree.specs.Modules.{Items}
use Rattle.ir_tree.specs.Written.{shown_module}
use Rattle.ir_printer.specs.Pieces.{Global as GlobalName, spelled}
use Rattle.run_report.specs.Report.{function_text, global_text}
use Rattle.run_report.specs.Refusals.{is_defined, block_size, function_size}

-- ---- names

global_by : (m : Items) (o : Option (Global ℕ ℕ ℕ)) (g : Global ℕ ℕ ℕ) → Some g ≡ o → global_text (option_map (shown_global m.names) o) ≡ spelled (GlobalName (name_at m.names g.name))
global_by m None g e = absurd cc
global_by m (Some h) g e = let same : h ≡ g = cc in ap (λ (x : Global ℕ ℕ ℕ). spelled (GlobalName (name_at m.names x.name))) same

function_by : (m : Items) (o : Option (Function ℕ ℕ ℕ)) (f : Function ℕ ℕ ℕ) → Some f ≡ o → function_text (option_map (shown_function m.names) o) ≡ spelled (GlobalName (name_at m.names f.name))
function_by m None f e = absurd cc
function_by m (Some h) f e = let same : h ≡ f = cc in ap (λ (x : Function ℕ ℕ ℕ). spelled (GlobalName (name_at m.names x.name))) same

no_global : (m : Items) (o : Option (Global ℕ ℕ ℕ)) → None ≡ o → global_text (option_map (shown_global m.names) o) ≡ []
no_global m None e = refl
no_global m (Some g) e = absurd cc

no_function : (m : Items) (o : Option (Function ℕ ℕ ℕ)) → None ≡ o → function_text (option_map (shown_function m.names) o) ≡ []
no_function m None e = refl
no_function m (Some f) e = absurd cc

module _ (m : Items) (k : ℕ) where
  -- the global of a number
  pub global_is : (g : Global ℕ ℕ ℕ) → Some g ≡ slice_get m.globals k → global_text (slice_get (shown_module m).globals k) ≡ spelled (GlobalName (name_at m.names g.name))
  global_is g e = ap global_text (slice_get-map (shown_global m.names) m.globals k) ∙ global_by m (slice_get m.globals k) g e

  pub global_none : None ≡ slice_get m.globals k → global_text (slice_get (shown_module m).globals k) ≡ []
  global_none e = ap global_text (slice_get-map (shown_global m.names) m.globals k) ∙ no_global m (slice_get m.globals k) e

  -- the function of a number
  pub function_is : (f : Function ℕ ℕ ℕ) → Some f ≡ slice_get m.functions k → function_text (slice_get (shown_module m).functions k) ≡ spelled (GlobalName (name_at m.names f.name))
  function_is f e = ap function_text (slice_get-map (shown_function m.names) m.functions k) ∙ function_by m (slice_get m.functions k) f e

  pub function_none : None ≡ slice_get m.functions k → function_text (slice_get (shown_module m).functions k) ≡ []
  function_none e = ap function_text (slice_get-map (shown_function m.names) m.functions k) ∙ no_function m (slice_get m.functions k) e

-- ---- counts

sums_same : {X Y : Type 0} (f : X → ℕ) (g : Y → ℕ) (h : X → Y) → ((x : X) → f x ≡ g (h x)) → (a : ℕ) (xs : List X) → fold (λ b x. b + f x) a xs ≡ fold (λ b y. b + g y) a (map h xs)
sums_same f g h e a [] = refl
sums_same f g h e a (x ∷ xs) = sums_same f g h e (a + f x) xs ∙ ap (λ n. fold (λ b y. b + g y) (a + n) (map h xs)) (e x)

module _ (m : Items) where
  size_same : (f : Function ℕ ℕ ℕ) → function_size f ≡ function_size (shown_function m.names f)
  size_same f = sums_same block_size block_size (shown_block m.names) (λ b. sym (length-map b.instructions (shown m.names))) 0 f.blocks

  pub defined_same : count_by is_defined m.functions ≡ count_by is_defined (shown_module m).functions
  defined_same = sums_same (λ f. cond (is_defined f) 1 0) (λ f. cond (is_defined f) 1 0) (shown_function m.names) (λ f. refl) 0 m.functions

  pub globals_same : length m.globals ≡ length (shown_module m).globals
  globals_same = sym (length-map m.globals (shown_global m.names))

  pub sizes_same : sum_by function_size m.functions ≡ sum_by function_size (shown_module m).functions
  sizes_same = sums_same function_size function_size (shown_function m.names) size_same 0 m.functions
