-- A set of what lines say, after one more line.
use Rattle.std.proofs.Common.{◌≡◌, ℕ, Bool, true, false, cond, ◌||◌, List, [], ◌∷◌, ◌++◌, refl, ◌∙◌}
use Rattle.std.specs.Prelude.{Vec}
use Rattle.std.specs.Str.{bytes_eq}
use Rattle.std.specs.List.{list_any}
use Rattle.std.specs.Ordering.{nat_cmp, is_eq}
use Rattle.std.specs.Cmp.Lexicographic.{slice_cmp}
use Rattle.std.specs.BTreeSet.{BTreeSet, contains}
use Rattle.std.proofs.lemmas.Map.Text.{is_eq-slice_cmp}
use Rattle.std.proofs.lemmas.List.Folds.{list_any-append}
use Rattle.profile_lines.specs.declared.lines.Line.{Line}
use Rattle.profile_lines.specs.Keys.{key_of}
use Rattle.profile_reader.specs.Reading.{says_again}
use Rattle.profile_reader.specs.Standing.{Holds}

cond_or : (t u : Bool) → cond t true u ≡ (u || (t || false))
cond_or true true = refl
cond_or true false = refl
cond_or false true = refl
cond_or false false = refl

pub holds_more : {Z : Type 0} (s n : BTreeSet (Vec ℕ Z)) (k : Vec ℕ Z) (line : Line) (lines : List Line)
    → k.items ≡ key_of line → Holds s lines
    → ((q : Vec ℕ Z) → contains (λ x y. slice_cmp nat_cmp x.items y.items) n q ≡ cond (is_eq (slice_cmp nat_cmp k.items q.items)) true (contains (λ x y. slice_cmp nat_cmp x.items y.items) s q))
    → Holds n (lines ++ line ∷ [])
holds_more s n k line lines is holds made q =
    made q
    ∙ rw (is_eq-slice_cmp k.items q.items, is, holds q, list_any-append (λ l. bytes_eq (key_of l) q.items) lines (line ∷ [])) (cond_or _ _)

pub new_at : {Z : Type 0} (s : BTreeSet (Vec ℕ Z)) (k : Vec ℕ Z) (line : Line) (lines : List Line)
    → k.items ≡ key_of line → Holds s lines
    → contains (λ x y. slice_cmp nat_cmp x.items y.items) s k ≡ list_any (says_again line) lines
new_at s k line lines is holds = holds k ∙ rw is refl
