-- The first fault in text order is the first of all places.
use Rattle.std.proofs.Common.{◌≡◌, ℕ, suc, ◌+◌, ◌-◌, Bool, true, false, List, [], ◌∷◌, ◌++◌, map, length, Option, Some, None, refl, sym, ap, ◌∙◌, arith, slice_get, cond, add-zero, zero-add}
use Rattle.std.specs.Prelude.{not, ◌&&◌, ◌||◌, find, is_some, option_map, option_and_then, nat_eq, nat_le}
use Rattle.std.specs.List.{range_with_len, flat_map}
use Rattle.std.proofs.Math.Dec.{leb-zero, leb-suc-zero, leb-suc-suc, eqb-suc-zero}
use Rattle.std.proofs.lemmas.List.Sums.{sum_by-cons}
use Rattle.pv_base.specs.declared.name.Name.{Name}
use Rattle.ir_rules.specs.declared.fault.CheckSite.TheVariants as at
use Rattle.ir_rules.specs.declared.fault.CheckCause.{CheckCause}
use Rattle.ir_rules.specs.Seen.{InstructionV, BlockV, FunctionV, GlobalV, ModuleV}
use Rattle.ir_rules.specs.Forms.{is_phi}
use Rattle.ir_rules.specs.Spots.{Spot, is_empty, spots_in, block_spots, blocks_spots, empty_at, instruction_count}
use Rattle.ir_rules.specs.Faults.{causes, found_meets, lack_meets, number_meets, global_meets, cause_at, fault_at, sites_of, sites_from, places, first_fault}
use Rattle.ir_checker.specs.declared.found.Found.{Found}
use Rattle.ir_checker.specs.Finding.{either, spot_cause, found_at, block_fault, lack_cause, blocks_fault, function_fault, fault_in, functions_fault, global_cause, fault_of_global, globals_fault, whole_cause, fault_of_whole}

-- ---- the first answer of a list

abbrev first_in : {A B : Type 0} → (A → Option B) → List A → Option B
first_in g [] = None
first_in g (x ∷ xs) = either (g x) (first_in g xs)

either_assoc : {A : Type 0} (a b c : Option A) → either (either a b) c ≡ either a (either b c)
either_assoc None b c = refl
either_assoc (Some x) b c = refl

either_none : {A : Type 0} (a : Option A) → either a None ≡ a
either_none None = refl
either_none (Some x) = refl

first_append : {A B : Type 0} (g : A → Option B) (xs ys : List A) → first_in g (xs ++ ys) ≡ either (first_in g xs) (first_in g ys)
first_append g [] ys = refl
first_append g (x ∷ xs) ys = ap (either (g x)) (first_append g xs ys) ∙ sym (either_assoc (g x) (first_in g xs) (first_in g ys))

either_map : {A B : Type 0} (w : A → B) (a b : Option A) → either (option_map w a) (option_map w b) ≡ option_map w (either a b)
either_map w None b = refl
either_map w (Some x) b = refl

-- each answer through a function
first_map : {A B C D : Type 0} (w : C → D) (h : A → B) (g : B → Option D) (k : A → Option C) → ((a : A) → g (h a) ≡ option_map w (k a)) → (xs : List A) → first_in g (map h xs) ≡ option_map w (first_in k xs)
first_map w h g k e [] = refl
first_map w h g k e (x ∷ xs) = rw (e x, first_map w h g k e xs) (either_map w (k x) (first_in k xs))

found_one : {A B C : Type 0} (h : A → Option C) (w : A → C → B) (x : A) (rest : Option A) (o : Option C) → h x ≡ o
    → option_and_then (λ p. option_map (w p) (h p)) (cond (is_some o) (Some x) rest) ≡ either (option_map (w x) o) (option_and_then (λ p. option_map (w p) (h p)) rest)
found_one h w x rest None e = refl
found_one h w x rest (Some c) e = rw e refl

find_first : {A B C : Type 0} (h : A → Option C) (w : A → C → B) (xs : List A) → option_and_then (λ p. option_map (w p) (h p)) (find (λ p. is_some (h p)) xs) ≡ first_in (λ p. option_map (w p) (h p)) xs
find_first h w [] = refl
find_first h w (x ∷ xs) = found_one h w x (find (λ p. is_some (h p)) xs) (h x) refl ∙ ap (either (option_map (w x) (h x))) (find_first h w xs)

-- ---- tests

or_swap : (a b : Bool) → (a || b) ≡ (b || a)
or_swap true true = refl
or_swap true false = refl
or_swap false true = refl
or_swap false false = refl

or_twice : (a x y : Bool) → ((a && x) || (x || y)) ≡ (x || y)
or_twice true true y = refl
or_twice true false y = refl
or_twice false x y = refl

and_false : (a : Bool) → (a && false) ≡ false
and_false true = refl
and_false false = refl

alone : (a : Bool) → ((a && true) || false) ≡ a
alone true = refl
alone false = refl

or_neither : (b : Bool) → (b || false) ≡ b
or_neither true = refl
or_neither false = refl

-- ---- the sites of a function

spots_of : Bool → List BlockV → List Spot
spots_of entry [] = []
spots_of entry (b ∷ rest) = spots_in b.label entry true b.instructions ++ spots_of false rest

module _ (m : ModuleV) (f : FunctionV) where
  -- the first cause at each number from a base on: where spots stand, and where an instruction is lacked
  abbrev Gives : (ℕ → Option Found) → List Spot → (ℕ → Bool) → ℕ → Type 0
  Gives g these lacks base = (j : ℕ) → g (base + j) ≡ found_at (base + j) (find (λ c. found_meets m f (slice_get these j) c || lack_meets (lacks j) c) causes)

  gives_head : (g : ℕ → Option Found) (s : Spot) (these : List Spot) (lacks : ℕ → Bool) (base : ℕ) (lack : Bool) → Gives g (s ∷ these) lacks base → lacks 0 ≡ lack → g base ≡ found_at base (spot_cause m f lack s)
  unfolding spot_cause
  gives_head g s these lacks base lack h e = let p : base + 0 ≡ base = add-zero base in rw (← e, ← p) (h 0)

  gives_tail : (g : ℕ → Option Found) (s : Spot) (these : List Spot) (lacks more : ℕ → Bool) (base : ℕ) → Gives g (s ∷ these) lacks base → ((j : ℕ) → lacks (suc j) ≡ more j) → Gives g these more (base + 1)
  gives_tail g s these lacks more base h e = λ j. let p : base + 1 + j ≡ base + suc j = omega arith in rw (p, ← e j) (h (suc j))

  gives_other : (g : ℕ → Option Found) (these : List Spot) (lacks more : ℕ → Bool) (base : ℕ) → Gives g these lacks base → ((j : ℕ) → lacks j ≡ more j) → Gives g these more base
  gives_other g these lacks more base h e = λ j. rw (← e j) (h j)

  abbrev BlocksOk : Bool → List BlockV → Type 0
  BlocksOk entry bs =
      (lack : Bool) (base : ℕ) (g : ℕ → Option Found) → Gives g (spots_of entry bs) (λ j. (lack && nat_eq j 0) || empty_at bs j) base
      → first_in g (range_with_len base (suc (instruction_count bs))) ≡ blocks_fault m f entry lack base bs

  -- what is left of a block, and the blocks behind it
  in_block : (rest : List BlockV) → BlocksOk false rest → (label : Name) (entry phis : Bool) (base : ℕ) (is : List InstructionV) (g : ℕ → Option Found)
      → Gives g (spots_in label entry phis is ++ spots_of false rest) (λ j. nat_le (length is) j && empty_at rest (j - length is)) base
      → first_in g (range_with_len base (suc (length is + instruction_count rest))) ≡ either (block_fault m f label entry phis false base is) (blocks_fault m f false false (base + length is) rest)
  unfolding spots_in block_fault
  in_block rest ok label entry phis base [] g h =
      let z : 0 + instruction_count rest ≡ instruction_count rest = zero-add (instruction_count rest) in
      let p : base + 0 ≡ base = add-zero base in
      rw (z, p) (ok false base g (gives_other g (spots_of false rest) _ _ base h (λ j. let d : j - 0 ≡ j = omega arith in rw (leb-zero j, d) refl)))
  in_block rest ok label entry phis base (i ∷ is) g h =
      let s : suc (length is) + instruction_count rest ≡ suc (length is + instruction_count rest) = omega arith in
      let p : base + suc (length is) ≡ base + 1 + length is = omega arith in
      let first = gives_head g _ _ _ base false h (rw (leb-suc-zero (length is)) refl) in
      let tail = in_block rest ok label entry (phis && is_phi i) (base + 1) is g (gives_tail g _ _ _ _ base h (λ j. let d : suc j - suc (length is) ≡ j - length is = omega arith in rw (leb-suc-suc (length is) j, d) refl)) in
      rw (s, p, first, tail) (sym (either_assoc (found_at base (spot_cause m f false (record { instruction = i; label = label; entry = entry; behind_phis = phis; last = is_empty is }))) (block_fault m f label entry (phis && is_phi i) false (base + 1) is) (blocks_fault m f false false (base + 1 + length is) rest)))

  -- a block, before which an empty one may stand, and the blocks behind it
  a_block : (rest : List BlockV) → BlocksOk false rest → (label : Name) (entry lack : Bool) (base : ℕ) (is : List InstructionV) (g : ℕ → Option Found)
      → Gives g (spots_in label entry true is ++ spots_of false rest) (λ j. (lack && nat_eq j 0) || ((is_empty is && nat_eq j 0) || (nat_le (length is) j && empty_at rest (j - length is)))) base
      → first_in g (range_with_len base (suc (length is + instruction_count rest))) ≡ either (block_fault m f label entry true lack base is) (blocks_fault m f false (is_empty is) (base + length is) rest)
  unfolding spots_in block_fault
  a_block rest ok label entry lack base [] g h =
      let z : 0 + instruction_count rest ≡ instruction_count rest = zero-add (instruction_count rest) in
      let p : base + 0 ≡ base = add-zero base in
      rw (z, p) (ok true base g (gives_other g (spots_of false rest) _ _ base h (λ j. let d : j - 0 ≡ j = omega arith in rw (leb-zero j, d) (or_twice lack (nat_eq j 0) (empty_at rest j)))))
  a_block rest ok label entry lack base (i ∷ is) g h =
      let s : suc (length is) + instruction_count rest ≡ suc (length is + instruction_count rest) = omega arith in
      let p : base + suc (length is) ≡ base + 1 + length is = omega arith in
      let first = gives_head g _ _ _ base lack h (rw (leb-suc-zero (length is)) (alone lack)) in
      let tail = in_block rest ok label entry (is_phi i) (base + 1) is g (gives_tail g _ _ _ _ base h (λ j.
      let d : suc j - suc (length is) ≡ j - length is = omega arith in
      rw (leb-suc-suc (length is) j, d, eqb-suc-zero j, and_false lack) refl)) in
      rw (s, p, first, tail) (sym (either_assoc (found_at base (spot_cause m f lack (record { instruction = i; label = label; entry = entry; behind_phis = true; last = is_empty is }))) (block_fault m f label entry (is_phi i) false (base + 1) is) (blocks_fault m f false false (base + 1 + length is) rest)))

  lack_end : (lack : Bool) → find (λ c. false || lack_meets ((lack && true) || false) c) causes ≡ lack_cause lack
  lack_end true = refl
  lack_end false = refl

  blocks_are : (entry : Bool) (bs : List BlockV) → BlocksOk entry bs
  unfolding blocks_fault empty_at spots_of
  blocks_are entry [] = λ lack base g h.
      let p : base + 0 ≡ base = add-zero base in
      let first : g base ≡ found_at base (find (λ c. false || lack_meets ((lack && true) || false) c) causes) = rw (← p) (h 0) in
      rw (first, lack_end lack) (either_none (found_at base (lack_cause lack)))
  blocks_are entry (b ∷ rest) = λ lack base g h.
      rw (sum_by-cons (λ (x : BlockV). length x.instructions) b rest) (a_block rest (blocks_are false rest) b.label entry lack base b.instructions g h)

flat_spots : (bs : List BlockV) → flat_map (block_spots false) bs ≡ spots_of false bs
unfolding spots_of
flat_spots [] = refl
flat_spots (b ∷ rest) = ap (λ l. block_spots false b ++ l) (flat_spots rest)

all_spots : (bs : List BlockV) → blocks_spots bs ≡ spots_of true bs
unfolding spots_of
all_spots [] = refl
all_spots (b ∷ rest) = ap (λ l. block_spots true b ++ l) (flat_spots rest)

-- the first cause of a function
function_is : (m : ModuleV) (f : FunctionV) → first_in (λ k. found_at k (find (number_meets m f k) causes)) (range_with_len 0 (suc (instruction_count f.blocks))) ≡ function_fault m f
function_is m f = blocks_are m f true f.blocks (not f.declared && is_empty f.blocks) 0 (λ k. found_at k (find (number_meets m f k) causes)) (λ j.
    let z : 0 + j ≡ j = zero-add j in
    rw (z, ← all_spots f.blocks, or_swap (not f.declared && is_empty f.blocks && nat_eq j 0) (empty_at f.blocks j)) refl)

-- the sites of one function of the module
sites_are : (m : ModuleV) (n : ℕ) (f : FunctionV) → slice_get m.functions n ≡ Some f → first_in (fault_at m) (sites_of n f) ≡ fault_in n (function_fault m f)
sites_are m n f e =
    first_map (λ (x : Found). record { at = at.At (record { function = n; place = x.place }); cause = x.cause }) (λ k. at.At (record { function = n; place = k })) (fault_at m) (λ k. found_at k (find (number_meets m f k) causes))
    (λ k. rw e (site_one n k (find (number_meets m f k) causes))) (range_with_len 0 (suc (instruction_count f.blocks)))
    ∙ ap (fault_in n) (function_is m f)
  where
    site_one : (n k : ℕ) (o : Option CheckCause) → option_map (λ (c : CheckCause). record { at = at.At (record { function = n; place = k }); cause = c }) o ≡ fault_in n (found_at k o)
    site_one n k None = refl
    site_one n k (Some c) = refl

functions_are : (m : ModuleV) (n : ℕ) (fs : List FunctionV) → ((j : ℕ) → slice_get m.functions (n + j) ≡ slice_get fs j) → first_in (fault_at m) (sites_from n fs) ≡ functions_fault m n fs
unfolding functions_fault
functions_are m n [] h = refl
functions_are m n (f ∷ rest) h =
    let p : n + 0 ≡ n = add-zero n in
    let here : slice_get m.functions n ≡ Some f = rw (← p) (h 0) in
    let s : suc n ≡ n + 1 = omega arith in
    first_append (fault_at m) (sites_of n f) (sites_from (suc n) rest)
    ∙ rw (sites_are m n f here, s) (ap (either (fault_in n (function_fault m f))) (functions_are m (n + 1) rest (λ j. let q : n + 1 + j ≡ n + suc j = omega arith in rw q (h (suc j)))))

global_one : (n : ℕ) (o : Option CheckCause) → option_map (λ (c : CheckCause). record { at = at.Global n; cause = c }) o ≡ fault_of_global n o
global_one n o = refl

globals_are : (m : ModuleV) (n : ℕ) (gs : List GlobalV) → ((j : ℕ) → slice_get m.globals (n + j) ≡ slice_get gs j) → first_in (fault_at m) (map at.Global (range_with_len n (length gs))) ≡ globals_fault m n gs
unfolding globals_fault global_cause
globals_are m n [] h = refl
globals_are m n (g ∷ rest) h =
    let p : n + 0 ≡ n = add-zero n in
    let here : slice_get m.globals n ≡ Some g = rw (← p) (h 0) in
    rw here (ap (either (fault_of_global n (find (global_meets m g) causes))) (globals_are m (n + 1) rest (λ j. let q : n + 1 + j ≡ n + suc j = omega arith in rw q (h (suc j)))))

whole_is : (m : ModuleV) → first_in (fault_at m) (at.Whole ∷ []) ≡ fault_of_whole (whole_cause m)
unfolding whole_cause
whole_is m = either_none (fault_at m at.Whole)

pub first_is : (m : ModuleV) → first_fault m ≡ either (globals_fault m 0 m.globals) (either (functions_fault m 0 m.functions) (fault_of_whole (whole_cause m)))
unfolding first_fault
first_is m =
    find_first (cause_at m) (λ place cause. record { at = place; cause = cause }) (places m)
    ∙ first_append (fault_at m) (map at.Global (range_with_len 0 (length m.globals)) ++ sites_from 0 m.functions) (at.Whole ∷ [])
    ∙ rw (
      first_append (fault_at m) (map at.Global (range_with_len 0 (length m.globals))) (sites_from 0 m.functions),
      globals_are m 0 m.globals (λ j. rw (zero-add j) refl),
      functions_are m 0 m.functions (λ j. rw (zero-add j) refl),
      whole_is m,
    )
    (either_assoc (globals_fault m 0 m.globals) (functions_fault m 0 m.functions) (fault_of_whole (whole_cause m)))
