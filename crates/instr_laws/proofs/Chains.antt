-- The order of tokens in a row, however it is grouped.
use Rattle.std.proofs.Common.{List, ◌++◌, refl, sym, ap, ◌∙◌, append_assoc}
use Rattle.ir_text.specs.Tokens.{TokenV}
use Rattle.ir_text.specs.Repeated.{Both}

abbrev pub Tokens : Type 1
Tokens = List TokenV → Type 0

pub inside : (a b c : Tokens) → ((ws : List TokenV) → b ws → c ws) → (ws : List TokenV) → Both a b ws → Both a c ws
inside a b c to ws s = record { front = s.front; rest = s.rest; parts = s.parts; first_spells = s.first_spells; rest_spells = to s.rest s.rest_spells }

pub apart : (a b z : Tokens) (ws : List TokenV) → Both (Both a b) z ws → Both a (Both b z) ws
apart a b z ws s =
    let f = s.first_spells in
    record {
      front = f.front;
      rest = f.rest ++ s.rest;
      parts = s.parts ∙ ap (λ (u : List TokenV). u ++ s.rest) f.parts ∙ append_assoc f.front f.rest s.rest;
      first_spells = f.first_spells;
      rest_spells = record { front = f.rest; rest = s.rest; parts = refl; first_spells = f.rest_spells; rest_spells = s.rest_spells };
    }

pub together : (a b z : Tokens) (ws : List TokenV) → Both a (Both b z) ws → Both (Both a b) z ws
together a b z ws s =
    let r = s.rest_spells in
    record {
      front = s.front ++ r.front;
      rest = r.rest;
      parts = s.parts ∙ ap (λ (u : List TokenV). s.front ++ u) r.parts ∙ sym (append_assoc s.front r.front r.rest);
      first_spells = record { front = s.front; rest = r.front; parts = refl; first_spells = s.first_spells; rest_spells = r.first_spells };
      rest_spells = r.rest_spells;
    }

-- the same where more stands before: what ends so many is the last of all

pub last2 : {a b z : Tokens} (ws : List TokenV) → Both (Both a b) z ws → Both a (Both b z) ws
last2 {a} {b} {z} ws s = apart a b z ws s

pub one2 : {a b z : Tokens} (ws : List TokenV) → Both a (Both b z) ws → Both (Both a b) z ws
one2 {a} {b} {z} ws s = together a b z ws s

pub last3 : {a b c z : Tokens} (ws : List TokenV) → Both (Both a (Both b c)) z ws → Both a (Both b (Both c z)) ws
last3 {a} {b} {c} {z} ws s = inside a (Both (Both b c) z) (Both b (Both c z)) last2 ws (apart a (Both b c) z ws s)

pub one3 : {a b c z : Tokens} (ws : List TokenV) → Both a (Both b (Both c z)) ws → Both (Both a (Both b c)) z ws
one3 {a} {b} {c} {z} ws s = together a (Both b c) z ws (inside a (Both b (Both c z)) (Both (Both b c) z) one2 ws s)

pub last4 : {a b c d z : Tokens} (ws : List TokenV) → Both (Both a (Both b (Both c d))) z ws → Both a (Both b (Both c (Both d z))) ws
last4 {a} {b} {c} {d} {z} ws s = inside a (Both (Both b (Both c d)) z) (Both b (Both c (Both d z))) last3 ws (apart a (Both b (Both c d)) z ws s)

pub one4 : {a b c d z : Tokens} (ws : List TokenV) → Both a (Both b (Both c (Both d z))) ws → Both (Both a (Both b (Both c d))) z ws
one4 {a} {b} {c} {d} {z} ws s = together a (Both b (Both c d)) z ws (inside a (Both b (Both c (Both d z))) (Both (Both b (Both c d)) z) one3 ws s)

pub last5 : {a b c d e z : Tokens} (ws : List TokenV) → Both (Both a (Both b (Both c (Both d e)))) z ws → Both a (Both b (Both c (Both d (Both e z)))) ws
last5 {a} {b} {c} {d} {e} {z} ws s = inside a (Both (Both b (Both c (Both d e))) z) (Both b (Both c (Both d (Both e z)))) last4 ws (apart a (Both b (Both c (Both d e))) z ws s)

pub one5 : {a b c d e z : Tokens} (ws : List TokenV) → Both a (Both b (Both c (Both d (Both e z)))) ws → Both (Both a (Both b (Both c (Both d e)))) z ws
one5 {a} {b} {c} {d} {e} {z} ws s = together a (Both b (Both c (Both d e))) z ws (inside a (Both b (Both c (Both d (Both e z)))) (Both (Both b (Both c (Both d e))) z) one4 ws s)

pub last6 : {a b c d e f z : Tokens} (ws : List TokenV) → Both (Both a (Both b (Both c (Both d (Both e f))))) z ws → Both a (Both b (Both c (Both d (Both e (Both f z))))) ws
last6 {a} {b} {c} {d} {e} {f} {z} ws s = inside a (Both (Both b (Both c (Both d (Both e f)))) z) (Both b (Both c (Both d (Both e (Both f z))))) last5 ws (apart a (Both b (Both c (Both d (Both e f)))) z ws s)

pub one6 : {a b c d e f z : Tokens} (ws : List TokenV) → Both a (Both b (Both c (Both d (Both e (Both f z))))) ws → Both (Both a (Both b (Both c (Both d (Both e f))))) z ws
one6 {a} {b} {c} {d} {e} {f} {z} ws s = together a (Both b (Both c (Both d (Both e f)))) z ws (inside a (Both b (Both c (Both d (Both e (Both f z))))) (Both (Both b (Both c (Both d (Both e f)))) z) one5 ws s)

pub last7 : {a b c d e f g z : Tokens} (ws : List TokenV) → Both (Both a (Both b (Both c (Both d (Both e (Both f g)))))) z ws → Both a (Both b (Both c (Both d (Both e (Both f (Both g z)))))) ws
last7 {a} {b} {c} {d} {e} {f} {g} {z} ws s = inside a (Both (Both b (Both c (Both d (Both e (Both f g))))) z) (Both b (Both c (Both d (Both e (Both f (Both g z)))))) last6 ws (apart a (Both b (Both c (Both d (Both e (Both f g))))) z ws s)

pub one7 : {a b c d e f g z : Tokens} (ws : List TokenV) → Both a (Both b (Both c (Both d (Both e (Both f (Both g z)))))) ws → Both (Both a (Both b (Both c (Both d (Both e (Both f g)))))) z ws
one7 {a} {b} {c} {d} {e} {f} {g} {z} ws s = together a (Both b (Both c (Both d (Both e (Both f g))))) z ws (inside a (Both b (Both c (Both d (Both e (Both f (Both g z)))))) (Both (Both b (Both c (Both d (Both e (Both f g))))) z) one6 ws s)

pub last8 : {a b c d e f g h z : Tokens} (ws : List TokenV) → Both (Both a (Both b (Both c (Both d (Both e (Both f (Both g h))))))) z ws → Both a (Both b (Both c (Both d (Both e (Both f (Both g (Both h z))))))) ws
last8 {a} {b} {c} {d} {e} {f} {g} {h} {z} ws s = inside a (Both (Both b (Both c (Both d (Both e (Both f (Both g h)))))) z) (Both b (Both c (Both d (Both e (Both f (Both g (Both h z))))))) last7 ws (apart a (Both b (Both c (Both d (Both e (Both f (Both g h)))))) z ws s)

pub one8 : {a b c d e f g h z : Tokens} (ws : List TokenV) → Both a (Both b (Both c (Both d (Both e (Both f (Both g (Both h z))))))) ws → Both (Both a (Both b (Both c (Both d (Both e (Both f (Both g h))))))) z ws
one8 {a} {b} {c} {d} {e} {f} {g} {h} {z} ws s = together a (Both b (Both c (Both d (Both e (Both f (Both g h)))))) z ws (inside a (Both b (Both c (Both d (Both e (Both f (Both g (Both h z))))))) (Both (Both b (Both c (Both d (Both e (Both f (Both g h)))))) z) one7 ws s)

pub last9 : {a b c d e f g h i z : Tokens} (ws : List TokenV) → Both (Both a (Both b (Both c (Both d (Both e (Both f (Both g (Both h i)))))))) z ws → Both a (Both b (Both c (Both d (Both e (Both f (Both g (Both h (Both i z)))))))) ws
last9 {a} {b} {c} {d} {e} {f} {g} {h} {i} {z} ws s = inside a (Both (Both b (Both c (Both d (Both e (Both f (Both g (Both h i))))))) z) (Both b (Both c (Both d (Both e (Both f (Both g (Both h (Both i z)))))))) last8 ws (apart a (Both b (Both c (Both d (Both e (Both f (Both g (Both h i))))))) z ws s)

pub one9 : {a b c d e f g h i z : Tokens} (ws : List TokenV) → Both a (Both b (Both c (Both d (Both e (Both f (Both g (Both h (Both i z)))))))) ws → Both (Both a (Both b (Both c (Both d (Both e (Both f (Both g (Both h i)))))))) z ws
one9 {a} {b} {c} {d} {e} {f} {g} {h} {i} {z} ws s = together a (Both b (Both c (Both d (Both e (Both f (Both g (Both h i))))))) z ws (inside a (Both b (Both c (Both d (Both e (Both f (Both g (Both h (Both i z)))))))) (Both (Both b (Both c (Both d (Both e (Both f (Both g (Both h i))))))) z) one8 ws s)

pub last10 : {a b c d e f g h i j z : Tokens} (ws : List TokenV) → Both (Both a (Both b (Both c (Both d (Both e (Both f (Both g (Both h (Both i j))))))))) z ws → Both a (Both b (Both c (Both d (Both e (Both f (Both g (Both h (Both i (Both j z))))))))) ws
last10 {a} {b} {c} {d} {e} {f} {g} {h} {i} {j} {z} ws s = inside a (Both (Both b (Both c (Both d (Both e (Both f (Both g (Both h (Both i j)))))))) z) (Both b (Both c (Both d (Both e (Both f (Both g (Both h (Both i (Both j z))))))))) last9 ws (apart a (Both b (Both c (Both d (Both e (Both f (Both g (Both h (Both i j)))))))) z ws s)

pub one10 : {a b c d e f g h i j z : Tokens} (ws : List TokenV) → Both a (Both b (Both c (Both d (Both e (Both f (Both g (Both h (Both i (Both j z))))))))) ws → Both (Both a (Both b (Both c (Both d (Both e (Both f (Both g (Both h (Both i j))))))))) z ws
one10 {a} {b} {c} {d} {e} {f} {g} {h} {i} {j} {z} ws s = together a (Both b (Both c (Both d (Both e (Both f (Both g (Both h (Both i j)))))))) z ws (inside a (Both b (Both c (Both d (Both e (Both f (Both g (Both h (Both i (Both j z))))))))) (Both (Both b (Both c (Both d (Both e (Both f (Both g (Both h (Both i j)))))))) z) one9 ws s)
