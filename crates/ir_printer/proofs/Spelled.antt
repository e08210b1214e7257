-- Spelled bytes, one after another.
use Rattle.std.specs.Prelude.{option_copied}
use Rattle.pv_base.specs.declared.name.Name.{Name}
use Rattle.pv_base.specs.declared.name.Name.TheVariants.{Numbered}
use Rattle.std.proofs.Common.{◌≡◌, None, slice_get, ℕ, zero, suc, ◌+◌, ◌<◌, ◌≤◌, List, [], ◌∷◌, ◌++◌, length, drop, take, ◌-◌, subst, get_or, append_assoc, refl, sym, ap, ◌∙◌, arith}
use Rattle.std.proofs.lemmas.List.{at_drop_more, at_drop_all, append-nil, take_all}
use Rattle.std.proofs.Common.{map, Result}
use Rattle.std.specs.Prelude.{OnOk}
use Rattle.std.proofs.lemmas.Result.{on_ok_weaker}
use Rattle.pv_base.specs.declared.want.Memory.{Memory}
use Rattle.ir_printer.specs.Pieces.{Piece, spelled, bytes_of, escaped_byte, escaped, comma, led, separated, joined}

-- what is written, and what is left, with one more byte
pub escaped_step : (bs : List ℕ) (i : ℕ) (to more whole : List ℕ) → i < length bs → more ≡ to ++ escaped_byte (get_or bs i 0) → to ++ escaped (drop i bs) ≡ whole → more ++ escaped (drop (i + 1) bs) ≡ whole
unfolding escaped
escaped_step bs i to more whole lt e so =
    let next : escaped (drop i bs) ≡ escaped_byte (get_or bs i 0) ++ escaped (drop (i + 1) bs) = at_drop_more escaped bs i 0 lt in
    rw e (append_assoc to _ _ ∙ ap (λ (xs : List ℕ). to ++ xs) (sym next) ∙ so)

pub escaped_end : (bs : List ℕ) (i : ℕ) (to whole : List ℕ) → length bs ≤ i → to ++ escaped (drop i bs) ≡ whole → to ≡ whole
unfolding escaped
escaped_end bs i to whole le so =
    let none : escaped (drop i bs) ≡ [] = at_drop_all escaped bs i le in
    sym (append-nil to) ∙ ap (λ (xs : List ℕ). to ++ xs) (sym none) ∙ so

pub bytes_append : (ps qs : List Piece) → bytes_of (ps ++ qs) ≡ bytes_of ps ++ bytes_of qs
bytes_append [] qs = refl
bytes_append (p ∷ ps) qs = ap (λ (bs : List ℕ). spelled p ++ bs) (bytes_append ps qs) ∙ sym (append_assoc (spelled p) (bytes_of ps) (bytes_of qs))

-- a number without a name
pub name_past : (names : List Name) (k : ℕ) → option_copied {T = Name} None ≡ slice_get names k → get_or names k (Numbered 0) ≡ Numbered 0
name_past [] k e = refl
name_past (x ∷ rest) zero e = absurd cc
name_past (x ∷ rest) (suc k) e = name_past rest k e

-- ---- pieces behind pieces

pub put_then : (x y z : List ℕ) (ps qs : List Piece) → y ≡ x ++ bytes_of ps → z ≡ y ++ bytes_of qs → z ≡ x ++ bytes_of (ps ++ qs)
put_then x y z ps qs e f = f ∙ ap (λ (bs : List ℕ). bs ++ bytes_of qs) e ∙ append_assoc x (bytes_of ps) (bytes_of qs) ∙ ap (λ (bs : List ℕ). x ++ bs) (sym (bytes_append ps qs))

pub put_last : (r : Result (Unit {0}) Memory) (x y z : List ℕ) (ps qs : List Piece) → y ≡ x ++ bytes_of ps → OnOk r (z ≡ y ++ bytes_of qs) → OnOk r (z ≡ x ++ bytes_of (ps ++ qs))
put_last r x y z ps qs e ok = on_ok_weaker r (put_then x y z ps qs e) ok

-- ---- lists of pieces, one item after another

pub led_append : (ps qs : List (List Piece)) → led (ps ++ qs) ≡ led ps ++ led qs
led_append [] qs = refl
led_append (p ∷ ps) qs = ap (λ (rs : List Piece). comma ++ p ++ rs) (led_append ps qs) ∙ sym (append_assoc (comma ++ p) (led ps) (led qs))

-- what is written, and what is left of a list, with one more item of it
pub led_step : {X Y : Type 0} (f : Y → List Piece) (g : X → Y) (xs : List X) (i : ℕ) (x d : X) (to more whole : List ℕ) → i < length xs → get_or xs i d ≡ x → more ≡ to ++ bytes_of (comma ++ f (g x))
    → to ++ bytes_of (led (map f (map g (drop i xs)))) ≡ whole → more ++ bytes_of (led (map f (map g (drop (i + 1) xs)))) ≡ whole
led_step f g xs i x d to more whole lt at e so =
    let rest = led (map f (map g (drop (i + 1) xs))) in
    let next = at_drop_more (λ ys. bytes_of (led (map f (map g ys)))) xs i d lt in
    let same : bytes_of (comma ++ f (g (get_or xs i d)) ++ rest) ≡ bytes_of (comma ++ f (g x)) ++ bytes_of rest =
    ap (λ y. bytes_of (comma ++ f (g y) ++ rest)) at ∙ bytes_append (comma ++ f (g x)) rest in
    ap (λ (bs : List ℕ). bs ++ bytes_of rest) e ∙ append_assoc to (bytes_of (comma ++ f (g x))) (bytes_of rest) ∙ ap (λ (bs : List ℕ). to ++ bs) (sym (next ∙ same)) ∙ so

pub joined_step : {X Y : Type 0} (f : Y → List Piece) (g : X → Y) (xs : List X) (i : ℕ) (x d : X) (to more whole : List ℕ) → i < length xs → get_or xs i d ≡ x → more ≡ to ++ bytes_of (f (g x))
    → to ++ bytes_of (joined (map f (map g (drop i xs)))) ≡ whole → more ++ bytes_of (joined (map f (map g (drop (i + 1) xs)))) ≡ whole
joined_step f g xs i x d to more whole lt at e so =
    let rest = joined (map f (map g (drop (i + 1) xs))) in
    let next = at_drop_more (λ ys. bytes_of (joined (map f (map g ys)))) xs i d lt in
    let same : bytes_of (f (g (get_or xs i d)) ++ rest) ≡ bytes_of (f (g x)) ++ bytes_of rest = ap (λ y. bytes_of (f (g y) ++ rest)) at ∙ bytes_append (f (g x)) rest in
    ap (λ (bs : List ℕ). bs ++ bytes_of rest) e ∙ append_assoc to (bytes_of (f (g x))) (bytes_of rest) ∙ ap (λ (bs : List ℕ). to ++ bs) (sym (next ∙ same)) ∙ so

-- the first item of a list, and then the others
pub separated_first : {X Y : Type 0} (f : Y → List Piece) (g : X → Y) (xs : List X) (d : X) (r : Result (Unit {0}) Memory) (x y z : List ℕ) → 1 ≤ length xs → y ≡ x ++ bytes_of (f (g (get_or xs 0 d)))
    → OnOk r (z ≡ y ++ bytes_of (led (map f (map g (take (length xs - 1) (drop 1 xs)))))) → OnOk r (z ≡ x ++ bytes_of (separated (map f (map g xs))))
separated_first f g [] d r x y z some e ok = absurd (omega arith)
separated_first {X = X} f g (a ∷ rest) d r x y z some e ok =
    let all : take (length (a ∷ rest) - 1) rest ≡ rest = take_all (length (a ∷ rest) - 1) rest (omega arith) in
    let P : List X → Type 0 = λ ys. OnOk r (z ≡ y ++ bytes_of (led (map f (map g ys)))) in
    put_last r x y z (f (g a)) (led (map f (map g rest))) e (subst P all ok)

-- the first item, the others, and then more of them
pub separated_more : {X Y : Type 0} (f : Y → List Piece) (g : X → Y) (xs : List X) (d : X) (more : List (List Piece)) (r : Result (Unit {0}) Memory) (x y z w : List ℕ) → 1 ≤ length xs → y ≡ x ++ bytes_of (f (g (get_or xs 0 d)))
    → z ≡ y ++ bytes_of (led (map f (map g (take (length xs - 1) (drop 1 xs))))) → OnOk r (w ≡ z ++ bytes_of (led more)) → OnOk r (w ≡ x ++ bytes_of (separated (map f (map g xs) ++ more)))
separated_more f g [] d more r x y z w some e h ok = absurd (omega arith)
separated_more {X = X} f g (a ∷ rest) d more r x y z w some e h ok =
    let all : take (length (a ∷ rest) - 1) rest ≡ rest = take_all (length (a ∷ rest) - 1) rest (omega arith) in
    let P : List X → Type 0 = λ ys. z ≡ y ++ bytes_of (led (map f (map g ys))) in
    let others = led (map f (map g rest)) in
    let so : OnOk r (w ≡ y ++ bytes_of (others ++ led more)) = put_last r y z w others (led more) (subst P all h) ok in
    let Q : List Piece → Type 0 = λ ps. OnOk r (w ≡ y ++ bytes_of ps) in
    put_last r x y w (f (g a)) (led (map f (map g rest) ++ more)) e (subst Q (sym (led_append (map f (map g rest)) more)) so)
