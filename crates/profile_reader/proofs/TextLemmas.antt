-- The first line of a text is what stands before its first newline.
use Rattle.std.proofs.Common.{◌≡◌, ℕ, ◌<◌, Bool, true, false, cond, eqb, List, [], ◌∷◌, Option, Some, None, MatchOption, length, refl, sym, subst, arith}
use Rattle.std.specs.Prelude.{option_map}
use Rattle.pv_base.specs.Outside.{Text}
use Rattle.profile_lines.specs.Cuts.{cut}
use Rattle.profile_reader.specs.Texts.{lines_of, before_lines}

-- a text without newlines is one line, and an empty one is none
abbrev one_line : Text → List Text
one_line [] = []
one_line (b ∷ bs) = (b ∷ bs) ∷ []

one_more : (b : ℕ) (bs : Text) → before_lines b (one_line bs) ≡ (b ∷ bs) ∷ []
one_more b [] = refl
one_more b (c ∷ cs) = refl

abbrev CutsLine : Text → Option (Text × Text) → Type 0
CutsLine text r =
    MatchOption r (lines_of text ≡ one_line text) (λ p. (lines_of text ≡ p.0 ∷ lines_of p.1) × (length p.1 < length text))

cuts_at : (b : ℕ) (bs : Text) (t : Bool) (r : Option (Text × Text)) → CutsLine bs r
    → MatchOption {T = Text × Text} (cond t (Some ([], bs)) (option_map (λ (p : Text × Text). (b ∷ p.0, p.1)) r))
    (cond t ([] ∷ lines_of bs) (before_lines b (lines_of bs)) ≡ (b ∷ bs) ∷ [])
    (λ p. (cond t ([] ∷ lines_of bs) (before_lines b (lines_of bs)) ≡ p.0 ∷ lines_of p.1) × (length p.1 < length (b ∷ bs)))
cuts_at b bs true r h = let now : (([] ∷ lines_of bs) ≡ [] ∷ lines_of bs) × (length bs < length (b ∷ bs)) = (refl, omega arith) in now
cuts_at b bs false None h = rw h (one_more b bs)
cuts_at b bs false (Some p) h =
    let now : (before_lines b (lines_of bs) ≡ (b ∷ p.0) ∷ lines_of p.1) × (length p.1 < length (b ∷ bs)) = (rw h.0 refl, omega arith) in now

cuts_line : (text : Text) → CutsLine text (cut 10 text)
cuts_line [] = refl
cuts_line (b ∷ bs) = cuts_at b bs (eqb b 10) (cut 10 bs) (cuts_line bs)

pub line_at_some : (text : Text) (p : Text × Text) → Some p ≡ cut 10 text
    → (lines_of text ≡ p.0 ∷ lines_of p.1) × (length p.1 < length text)
line_at_some text p e = subst (λ (o : Option (Text × Text)). CutsLine text o) (sym e) (cuts_line text)

no_newline : (text : Text) → 0 < length text → lines_of text ≡ one_line text → lines_of text ≡ text ∷ []
no_newline [] l h = absurd (omega arith)
no_newline (b ∷ bs) l h = h

pub line_at_none : (text : Text) → 0 < length text → None ≡ cut 10 text → lines_of text ≡ text ∷ []
line_at_none text l e = no_newline text l (subst (λ (o : Option (Text × Text)). CutsLine text o) (sym e) (cuts_line text))
