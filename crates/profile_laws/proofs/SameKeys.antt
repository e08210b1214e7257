-- What a line says, back from its list of numbers.
use Rattle.std.proofs.Common.{◌≡◌, ℕ, true, cond, eqb, List, [], ◌∷◌, ◌++◌, length, take, drop, refl, sym, ap, ◌∙◌}
use Rattle.std.proofs.lemmas.List.{append-nil, append_assoc, take_at, drop_at}
use Rattle.std.proofs.lemmas.Slice.Eq.{bytes_eq-Decides}
use Rattle.profile_lines.specs.declared.profile.ProfileName.{ProfileName}
use Rattle.profile_lines.specs.declared.profile.ProfileName.TheVariants.{Named, Numbered}
use Rattle.profile_lines.specs.declared.profile.SiteName.{SiteName}
use Rattle.profile_lines.specs.declared.profile.ObjectName.{ObjectName}
use Rattle.profile_lines.specs.declared.profile.ObjectName.TheVariants.{Global, At}
use Rattle.profile_lines.specs.declared.profile.PhiWord.TheVariants.{Same}
use Rattle.profile_lines.specs.declared.lines.Line.{Line}
use Rattle.profile_lines.specs.declared.lines.Line.TheVariants.{Loop, Period, Block, Phi, Use, Local, Flow, Value, End}
use Rattle.profile_lines.specs.Keys.{name_key, site_key, object_key, key_of}
use Rattle.profile_reader.specs.Reading.{says_again}
use Rattle.profile_laws.specs.Laws.{asked}

abbrev first : List ℕ → ℕ
first [] = 0
first (k ∷ ks) = k

abbrev others : List ℕ → List ℕ
others [] = []
others (k ∷ ks) = ks

-- a name, and the numbers after it
abbrev name_back : List ℕ → ProfileName × List ℕ
name_back ks =
    cond (eqb (first ks) 0) (Numbered (first (others ks)), others (others ks)) (Named (take (first (others ks)) (others (others ks))), drop (first (others ks)) (others (others ks)))

abbrev site_with : ProfileName × List ℕ → SiteName × List ℕ
site_with p = (record { function = p.0; place = first p.1 }, others p.1)

abbrev site_back : List ℕ → SiteName × List ℕ
site_back ks = site_with (name_back ks)

abbrev global_with : ProfileName × List ℕ → ObjectName × List ℕ
global_with p = (Global p.0, p.1)

abbrev at_with : SiteName × List ℕ → ObjectName × List ℕ
at_with p = (At p.0, p.1)

abbrev object_back : List ℕ → ObjectName × List ℕ
object_back ks = cond (eqb (first ks) 0) (global_with (name_back (others ks))) (at_with (site_back (others ks)))

named : (name : ProfileName) (rest : List ℕ) → name_back (name_key name ++ rest) ≡ (name, rest)
named (Named bytes) rest =
    let t : take (length bytes) (bytes ++ rest) ≡ bytes = take_at bytes rest (length bytes) refl in
    let d : drop (length bytes) (bytes ++ rest) ≡ rest = drop_at bytes rest (length bytes) refl in
    rw (t, d) refl
named (Numbered n) rest = refl

placed : (site : SiteName) (rest : List ℕ) → site_back (site_key site ++ rest) ≡ (site, rest)
placed site rest =
    ap site_back (append_assoc (name_key site.function) (site.place ∷ []) rest)
    ∙ ap site_with (named site.function (site.place ∷ rest))

made : (object : ObjectName) (rest : List ℕ) → object_back (object_key object ++ rest) ≡ (object, rest)
made (Global name) rest = ap global_with (named name rest)
made (At site) rest = ap at_with (placed site rest)

named_last : (name : ProfileName) → name_back (name_key name) ≡ (name, [])
named_last name = ap name_back (sym (append-nil (name_key name))) ∙ named name []

placed_last : (site : SiteName) → site_back (site_key site) ≡ (site, [])
placed_last site = ap site_back (sym (append-nil (site_key site))) ∙ placed site []

made_last : (object : ObjectName) → object_back (object_key object) ≡ (object, [])
made_last object = ap object_back (sym (append-nil (object_key object))) ∙ made object []

abbrev loop_after : ProfileName × List ℕ → Line
loop_after p = Loop p.0 (name_back p.1).0

abbrev use_after : SiteName × List ℕ → Line
use_after p = Use (record { at = p.0; slot = first p.1; object = (object_back (others p.1)).0 })

abbrev flow_after : ObjectName × List ℕ → Line
flow_after p = Flow (record { object = p.0; offset = first p.1; length = first (others p.1) })

abbrev value_after : ProfileName × List ℕ → Line
value_after p = Value (record { global = p.0; offset = first p.1; bytes = others p.1 })

abbrev phi_after : ProfileName × List ℕ → Line
phi_after p = Phi (record { register = p.0; guess = Same })

abbrev line_at : ℕ → List ℕ → Line
line_at tag ks =
    cond (eqb tag 0) (loop_after (name_back ks)) (
    cond (eqb tag 1) (Period (first ks)) (
    cond (eqb tag 2) (Block (name_back ks).0) (
    cond (eqb tag 3) (phi_after (name_back ks)) (
    cond (eqb tag 4) (use_after (site_back ks)) (
    cond (eqb tag 5) (Local (site_back ks).0) (
    cond (eqb tag 6) (flow_after (object_back ks)) (
    cond (eqb tag 7) (value_after (name_back ks)) End)))))))

abbrev line_back : List ℕ → Line
line_back ks = line_at (first ks) (others ks)

abbrev block_after : ProfileName × List ℕ → Line
block_after p = Block p.0

abbrev local_after : SiteName × List ℕ → Line
local_after p = Local p.0

back : (line : Line) → line_back (key_of line) ≡ asked line
back (Loop function header) =
    ap loop_after (named function (name_key header)) ∙ ap (λ (p : ProfileName × List ℕ). Loop function p.0) (named_last header)
back (Period turns) = refl
back (Block name) = ap block_after (named_last name)
back (Phi line) = ap phi_after (named_last line.register)
back (Use line) =
    ap (λ (ks : List ℕ). use_after (site_back ks)) (append_assoc (site_key line.at) (line.slot ∷ []) (object_key line.object))
    ∙ ap use_after (placed line.at (line.slot ∷ object_key line.object))
    ∙ ap (λ (p : ObjectName × List ℕ). Use (record { at = line.at; slot = line.slot; object = p.0 })) (made_last line.object)
back (Local site) = ap local_after (placed_last site)
back (Flow line) =
    ap (λ (ks : List ℕ). flow_after (object_back ks)) (append_assoc (object_key line.object) (line.offset ∷ []) (line.length ∷ []))
    ∙ ap flow_after (made line.object (line.offset ∷ line.length ∷ []))
back (Value line) =
    ap (λ (ks : List ℕ). value_after (name_back ks)) (append_assoc (name_key line.global) (line.offset ∷ []) line.bytes)
    ∙ ap value_after (named line.global (line.offset ∷ line.bytes))
back End = refl

-- of a phi the list has the register alone
key_of_asked : (line : Line) → key_of (asked line) ≡ key_of line
key_of_asked (Loop function header) = refl
key_of_asked (Period turns) = refl
key_of_asked (Block name) = refl
key_of_asked (Phi line) = refl
key_of_asked (Use line) = refl
key_of_asked (Local site) = refl
key_of_asked (Flow line) = refl
key_of_asked (Value line) = refl
key_of_asked End = refl

same_from_key : (a b : Line) → key_of a ≡ key_of b → asked a ≡ asked b
same_from_key a b e = sym (back a) ∙ ap line_back e ∙ back b

key_from_same : (a b : Line) → asked a ≡ asked b → key_of a ≡ key_of b
key_from_same a b e = sym (key_of_asked a) ∙ ap key_of e ∙ key_of_asked b

pub keys_tell : (a b : Line) → (says_again a b ≡ true → asked a ≡ asked b) × (asked a ≡ asked b → says_again a b ≡ true)
keys_tell a b =
    let tells = bytes_eq-Decides (key_of b) (key_of a) in (
      λ again. sym (same_from_key b a (tells.0 again)),
      λ same. tells.1 (key_from_same b a (sym same)),
    )
