-- A list in which a range was mapped, place by place.
use Rattle.std.proofs.Common.{◌≡◌, ℕ, zero, suc, ◌+◌, ◌<◌, ◌≤◌, List, [], ◌∷◌, ◌++◌, length, take, drop, get_or, map, refl, ap, ◌∙◌, arith}
use Rattle.std.proofs.lemmas.List.{get_or-take, get_or-drop}

front_in : (f : ℕ → ℕ) (xs : List ℕ) (n o : ℕ) → o < n → o < length xs → get_or (map f (take n xs) ++ drop n xs) o 0 ≡ f (get_or xs o 0)
front_in f [] n o h k = absurd (omega arith)
front_in f (x ∷ xs) zero o h k = absurd (omega arith)
front_in f (x ∷ xs) (suc n) zero h k = refl
front_in f (x ∷ xs) (suc n) (suc o) h k = front_in f xs n o (omega arith) (omega arith)

front_out : (f : ℕ → ℕ) (xs : List ℕ) (n o : ℕ) → n ≤ o → o < length xs → get_or (map f (take n xs) ++ drop n xs) o 0 ≡ get_or xs o 0
front_out f [] n o h k = absurd (omega arith)
front_out f (x ∷ xs) zero o h k = refl
front_out f (x ∷ xs) (suc n) zero h k = absurd (omega arith)
front_out f (x ∷ xs) (suc n) (suc o) h k = front_out f xs n o (omega arith) (omega arith)

-- the list with its range mapped
abbrev pub mapped_range : (ℕ → ℕ) → ℕ → ℕ → List ℕ → List ℕ
mapped_range f a n xs = take a xs ++ (map f (take n (drop a xs)) ++ drop n (drop a xs))

pub inside : (f : ℕ → ℕ) (a n : ℕ) (xs : List ℕ) (o : ℕ) → a ≤ o → o < a + n → o < length xs → get_or (mapped_range f a n xs) o 0 ≡ f (get_or xs o 0)
inside f zero n xs o h k l = front_in f xs n o (omega arith) l
inside f (suc a) n [] o h k l = absurd (omega arith)
inside f (suc a) n (x ∷ xs) zero h k l = absurd (omega arith)
inside f (suc a) n (x ∷ xs) (suc o) h k l = inside f a n xs o (omega arith) (omega arith) (omega arith)

pub before : (f : ℕ → ℕ) (a n : ℕ) (xs : List ℕ) (o : ℕ) → o < a → o < length xs → get_or (mapped_range f a n xs) o 0 ≡ get_or xs o 0
before f zero n xs o h l = absurd (omega arith)
before f (suc a) n [] o h l = absurd (omega arith)
before f (suc a) n (x ∷ xs) zero h l = refl
before f (suc a) n (x ∷ xs) (suc o) h l = before f a n xs o (omega arith) (omega arith)

pub behind : (f : ℕ → ℕ) (a n : ℕ) (xs : List ℕ) (o : ℕ) → a + n ≤ o → o < length xs → get_or (mapped_range f a n xs) o 0 ≡ get_or xs o 0
behind f zero n xs o h l = front_out f xs n o (omega arith) l
behind f (suc a) n [] o h l = absurd (omega arith)
behind f (suc a) n (x ∷ xs) zero h l = absurd (omega arith)
behind f (suc a) n (x ∷ xs) (suc o) h l = behind f a n xs o (omega arith) (omega arith)

pub length-mapped_range : (f : ℕ → ℕ) (a n : ℕ) (xs : List ℕ) → length (mapped_range f a n xs) ≡ length xs
length-mapped_range f zero n xs = front_length f n xs
  where
    front_length : (f : ℕ → ℕ) (n : ℕ) (xs : List ℕ) → length (map f (take n xs) ++ drop n xs) ≡ length xs
    front_length f zero xs = refl
    front_length f (suc n) [] = refl
    front_length f (suc n) (x ∷ xs) = ap suc (front_length f n xs)
length-mapped_range f (suc a) zero [] = refl
length-mapped_range f (suc a) (suc n) [] = refl
length-mapped_range f (suc a) n (x ∷ xs) = ap suc (length-mapped_range f a n xs)

pub range_at : (a n : ℕ) (xs : List ℕ) (i : ℕ) → i < n → get_or (take n (drop a xs)) i 0 ≡ get_or xs (a + i) 0
range_at a n xs i h = get_or-take n (drop a xs) i 0 h ∙ get_or-drop a xs i 0
