-- A text spells at most one module, and has at most one first fault.
use Rattle.std.proofs.Common.{◌≡◌, ℕ, List, [], ◌∷◌, ◌++◌, Option, Some, None, Ok, Err, refl, sym, ap, append_assoc, ◌∙◌}
use Rattle.ir_lex.specs.declared.token.ReadError.{ReadError}
use Rattle.ir_lex.specs.Lexing.{lexed}
use Rattle.ir_text.specs.declared.fault.Fault.{Fault}
use Rattle.ir_text.specs.declared.fault.Fault.TheVariants.{At}
use Rattle.ir_text.specs.Tokens.{TokenV}
use Rattle.ir_text.specs.Reading.{Outcome, ◌>>=◌}
use Rattle.ir_grammar.specs.Modules.{Item, ModuleV}
use Rattle.ir_grammar.specs.Items.{items_at}
use Rattle.ir_grammar.specs.NamedTypes.{definitions, bodies_read, bodies_in}
use Rattle.ir_grammar.specs.Texts.{last_line, settled, token_fault, wrong_among, unless_wrong, first_fault, module_in, read_tokens, read_of}
use Rattle.module_laws.specs.ItemsSpelled.{module_of}
use Rattle.module_laws.specs.TextLaws.{types_of, known_of, names_of, wrong_in, SpellsModule, SpelledIsRead, OneModule, FirstFault, OneFault, FaultsApart}
use Rattle.module_laws.proofs.FirstFaults.{both_none, none_before, wrong_stays}
use Rattle.module_laws.proofs.ModuleLaws.{module_read}
use Rattle.module_laws.proofs.WholeLaws.{both_sound}

-- ---- one module

-- where the items are read, nothing is wrong in them
items_sound : (text : List ℕ) (o : Outcome (List Item)) (x : ModuleV × List TokenV) → (o >>= λ all. Ok (module_of (types_of text) all.0, all.1)) ≡ Ok x → token_fault o ≡ None
items_sound text (Ok all) x e = refl
items_sound text (Err f) x e = absurd cc

-- nothing is wrong in what spells a module
spelled_sound : (text : List ℕ) (m : ModuleV) → SpellsModule text m → first_fault (read_tokens text) ≡ None
unfolding wrong_among bodies_in
spelled_sound text m s =
    let ts = read_tokens text in
    let items = items_sound text (items_at (known_of text) ts) (m, []) (module_read (known_of text) (types_of text) m ts s.spelled) in
    let bodies : token_fault (bodies_read (names_of text) (definitions ts)) ≡ None = ap (λ (o : Outcome (Unit {0})). token_fault o) s.bodies in
    none_before (wrong_in text) (wrong_stays (names_of text) (known_of text)) ts []
    (both_none (token_fault (items_at (known_of text) ts)) (token_fault (bodies_read (names_of text) (definitions ts))) items bodies)

pub spelled_is_read : SpelledIsRead
unfolding read_of
spelled_is_read text m s =
    let both : module_in (read_tokens text) ≡ Ok (m, []) = both_sound (types_of text) (bodies_in (read_tokens text)) (items_at (known_of text) (read_tokens text)) (m, []) s.bodies (module_read (known_of text) (types_of text) m (read_tokens text) s.spelled) in
    let lexical = s.lexical in
    ap (λ (o : Option Fault). settled (last_line text) (lexed text).fault (unless_wrong o (module_in (read_tokens text)))) (spelled_sound text m s)
    ∙ ap (settled (last_line text) (lexed text).fault) both
    ∙ rw lexical refl

pub one_module : OneModule
one_module text a b s t = let same = sym (spelled_is_read text a s) ∙ spelled_is_read text b t in cc

-- ---- one place

-- of two places in a row of tokens one is not behind the other, or both are one
data Places (us : List TokenV) (t : TokenV) (vs : List TokenV) (u : TokenV) : Type 0 where
  One : us ≡ vs → t ≡ u → Places us t vs u
  Earlier : (more : List TokenV) → vs ≡ us ++ t ∷ more → Places us t vs u
  Later : (more : List TokenV) → us ≡ vs ++ u ∷ more → Places us t vs u

further : (w x : TokenV) (us : List TokenV) (t : TokenV) (vs : List TokenV) (u : TokenV) → w ≡ x → Places us t vs u → Places (w ∷ us) t (x ∷ vs) u
further w x us t vs u e (One p q) = One (ap (λ (y : TokenV). y ∷ us) e ∙ ap (λ (ys : List TokenV). x ∷ ys) p) q
further w x us t vs u e (Earlier more p) = Earlier more (ap (λ (ys : List TokenV). x ∷ ys) p ∙ ap (λ (y : TokenV). y ∷ (us ++ t ∷ more)) (sym e))
further w x us t vs u e (Later more p) = Later more (ap (λ (ys : List TokenV). w ∷ ys) p ∙ ap (λ (y : TokenV). y ∷ (vs ++ u ∷ more)) e)

places : (us : List TokenV) (t : TokenV) (rest vs : List TokenV) (u : TokenV) (others : List TokenV) → us ++ t ∷ rest ≡ vs ++ u ∷ others → Places us t vs u
places [] t rest [] u others e = One refl (let first : t ≡ u = cc in first)
places [] t rest (x ∷ vs) u others e = Earlier vs (let first : t ≡ x = cc in ap (λ (y : TokenV). y ∷ vs) (sym first))
places (w ∷ us) t rest [] u others e = Later us (let first : w ≡ u = cc in ap (λ (y : TokenV). y ∷ us) first)
places (w ∷ us) t rest (x ∷ vs) u others e = let first : w ≡ x = cc in let behind : us ++ t ∷ rest ≡ vs ++ u ∷ others = cc in further w x us t vs u first (places us t rest vs u others behind)

-- what is wrong in some tokens is not right in more
not_behind : (text : List ℕ) (ts more : List TokenV) (fault : Fault) → wrong_in text ts ≡ Some fault → wrong_in text (ts ++ more) ≡ None → ⊥
not_behind text ts more fault bad none = let clash = sym bad ∙ wrong_stays (names_of text) (known_of text) ts more none in absurd cc

-- a first fault is not behind another
not_later : (text : List ℕ) (found other : ReadError) (a : FirstFault text found) (b : FirstFault text other) (more : List TokenV) → b.front ≡ a.front ++ a.token ∷ more → ⊥
not_later text found other a b more is =
    not_behind text (a.front ++ a.token ∷ []) more (At found.line found.cause) a.here (ap (wrong_in text) (append_assoc a.front (a.token ∷ []) more ∙ sym is) ∙ b.before)

pub one_fault : OneFault
one_fault text found other a b =
    let same : found ≡ other = (let first = a.met text a.rest a.parts (λ name. refl) in let second = b.met text b.rest b.parts (λ name. refl) in let both = sym first ∙ second in cc) in
    let one : (a.front ≡ b.front) × (a.token ≡ b.token) = elim (places a.front a.token a.rest b.front b.token b.rest (sym a.parts ∙ b.parts)) [
      | One p q ↦ (p, q)
      | Earlier more p ↦ absurd (not_later text found other a b more p)
      | Later more p ↦ absurd (not_later text other found b a more p)
    ] in
    (same, one.0, one.1)

-- ---- one of the two

pub faults_apart : FaultsApart
faults_apart text found other a b =
    not_behind text (a.front ++ a.token ∷ []) a.rest (At found.line found.cause) a.here (ap (wrong_in text) (append_assoc a.front (a.token ∷ []) a.rest ∙ sym a.parts) ∙ b.nothing_wrong)
