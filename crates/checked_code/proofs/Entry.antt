-- The program of a checked module has a place at which it begins.
use Rattle.std.proofs.Common.{◌≡◌, ℕ, zero, suc, ◌+◌, ◌-◌, ◌<◌, ◌≤◌, Bool, true, false, List, [], ◌∷◌, ◌++◌, map, length, Option, Some, None, slice_get, refl, sym, ap, ◌∙◌, arith, ◌⊎◌, inl, inr}
use Rattle.std.specs.Prelude.{find, not, ◌||◌, ◌&&◌, cond, if◌then◌else◌, nat_eq, nat_le, position, codes}
use Rattle.std.specs.List.{position_or_len, flat_map}
use Rattle.std.proofs.lemmas.Bool.{lt-ltb}
use lib.Pointwise.{bytes_decides}
use Rattle.pv_base.specs.declared.name.Name.{Name}
use Rattle.pv_base.specs.declared.name.Name.TheVariants.{Named, Numbered}
use Rattle.ir_tree.specs.declared.instruction.Instruction.{Instruction}
use Rattle.ir_tree.specs.declared.instruction.Instruction.TheVariants as tree
use Rattle.ir_tree.specs.declared.items.Block.{Block}
use Rattle.ir_tree.specs.declared.items.Function.{Function}
use Rattle.ir_tree.specs.Table.{Table, same_name}
use Rattle.ir_tree.specs.Naming.{name_at}
use Rattle.ir_tree.specs.Shown.{shown, shown_block, shown_function}
use Rattle.ir_code.specs.Blocks.{Join, join_of, joins_of, before_joins}
use Rattle.ir_code.specs.Coding.{is_named, is_main as is_main_at}
use Rattle.ir_rules.specs.Seen.{InstructionV, BlockV, FunctionV, ModuleV}
use Rattle.ir_rules.specs.Same.{same_bool}
use Rattle.ir_rules.specs.Forms.{is_terminator, is_phi}
use Rattle.ir_rules.specs.Spots.{Spot, spots, spots_in, block_spots, blocks_spots, is_empty, empty_at, lacks_instruction, instruction_count}
use Rattle.ir_rules.specs.Causes.{terminates, is_main}
use Rattle.ir_rules.specs.Faults.{number_meets, found_meets, lack_meets}
use Rattle.ir_rules.specs.declared.fault.CheckCause.TheVariants.{Terminator}
use Rattle.ir_rules.proofs.ShownLemmas.{terminator_shown}
use Rattle.checked_code.proofs.Fitting.{sum_from}
use Rattle.checked_code.proofs.Faults.{true_of}

-- ---- tests

or_false : (a b : Bool) → (a || b) ≡ false → (a ≡ false) × (b ≡ false)
or_false true b e = absurd cc
or_false false b e = (refl, e)

same_tests : (p q : Bool) → (p ≡ true → q ≡ true) → (q ≡ true → p ≡ true) → p ≡ q
same_tests true q to from = sym (to refl)
same_tests false true to from = from refl
same_tests false false to from = refl

-- ---- the first that passes

pub record First {A B : Type 0} (q : A → Bool) (h : A → B) (xs : List A) (y : B) : Type 0 where
  pub place : ℕ
  pub item : A
  pub is : position_or_len q xs ≡ place
  pub lt : place < length xs
  pub at : slice_get xs place ≡ Some item
  pub shows : h item ≡ y

first_if : {A B : Type 0} (p : B → Bool) (q : A → Bool) (h : A → B) (x : A) (xs : List A) (y : B) (b : Bool) → q x ≡ b → p (h x) ≡ b → (find p (map h xs) ≡ Some y → First q h xs y) → cond b (Some (h x)) (find p (map h xs)) ≡ Some y → First q h (x ∷ xs) y
first_if p q h x xs y true e f rest is = record { place = 0; item = x; is = rw e refl; lt = omega arith; at = refl; shows = cc }
first_if p q h x xs y false e f rest is =
    let r = rest is in
    record { place = suc r.place; item = r.item; is = rw e (ap (λ n. 1 + n) r.is ∙ (omega arith)); lt = let lt = r.lt in omega arith; at = r.at; shows = r.shows }

pub first : {A B : Type 0} (p : B → Bool) (q : A → Bool) (h : A → B) → ((x : A) → q x ≡ p (h x)) → (xs : List A) (y : B) → find p (map h xs) ≡ Some y → First q h xs y
first p q h same [] y is = absurd cc
first p q h same (x ∷ xs) y is = first_if p q h x xs y (p (h x)) (same x) refl (first p q h same xs y) is

pub placed : {A B : Type 0} (q : A → Bool) (h : A → B) (xs : List A) (y : B) → (f : First q h xs y) → position q xs ≡ Some f.place
placed q h xs y f = rw (f.is, lt-ltb f.place (length xs) f.lt) refl

-- ---- the name of `main`

spelled : (a b : List ℕ) → same_name (Named a) (Named b) ≡ same_name (Named b) (Named a)
spelled a b = same_tests _ _ (λ e. (bytes_decides b a).1 (sym ((bytes_decides a b).0 e))) (λ e. (bytes_decides a b).1 (sym ((bytes_decides b a).0 e)))

named : (name : Name) → is_named (codes "main") name ≡ same_name (Named (codes "main")) name
named (Named own) = spelled own (codes "main")
named (Numbered n) = refl

main_if : (declared : Bool) (name : Name) → (if declared then false else is_named (codes "main") name) ≡ (not declared && same_name (Named (codes "main")) name)
main_if true name = refl
main_if false name = named name

pub main_shown : (t : Table) (f : Function ℕ ℕ ℕ) → is_main_at t f ≡ is_main (shown_function t f)
main_shown t f = main_if f.declared (name_at t f.name)

-- ---- the entry block

-- an instruction is none of those that a block begins with, or ends no block
join_or_not : (i : Instruction ℕ ℕ ℕ) → (join_of i ≡ None) ⊎ (is_terminator i ≡ false)
unfolding is_terminator
join_or_not (tree.Phi to of arms) = inr refl
join_or_not i = inl refl

-- each spot of a block's instructions ends its block where it is the last
abbrev EndsRight : List Spot → Type 0
EndsRight ss = (k : ℕ) (s : Spot) → slice_get ss k ≡ Some s → terminates s ≡ true

-- one that begins a block and is the last is no such one
alone : (t : Table) (label : Name) (entry phis : Bool) (i : Instruction ℕ ℕ ℕ) → EndsRight (spots_in label entry phis (shown t i ∷ [])) → (join_of i ≡ None) ⊎ (is_terminator i ≡ false) → length (joins_of (i ∷ [])) < 1
unfolding spots_in
alone t label entry phis i ends (inl none) = rw none (omega arith)
alone t label entry phis i ends (inr none) =
    let last : same_bool (is_terminator (shown t i)) true ≡ true = ends 0 _ refl in
    let not_last : is_terminator (shown t i) ≡ false = terminator_shown t i ∙ none in
    let both : same_bool false true ≡ true = rw not_last at last in
    absurd cc

one_more : (o : Option Join) (joins : List Join) (n : ℕ) → length joins < n → length (before_joins o joins) < suc n
one_more None joins n lt = omega arith
one_more (Some j) joins n lt = omega arith

fewer : (t : Table) (label : Name) (entry phis : Bool) (i : Instruction ℕ ℕ ℕ) (rest : List (Instruction ℕ ℕ ℕ)) → EndsRight (spots_in label entry phis (shown t i ∷ map (shown t) rest)) → length (joins_of (i ∷ rest)) < length (i ∷ rest)
unfolding spots_in
fewer t label entry phis i [] ends = alone t label entry phis i ends (join_or_not i)
fewer t label entry phis i (x ∷ rest) ends =
    one_more (join_of i) (joins_of (x ∷ rest)) (length (x ∷ rest))
    (fewer t label entry (phis && is_phi (shown t i)) x rest (λ k s e. ends (suc k) s e))

-- what the spots of the first block are
first_spots : (bs : List Spot) (others : List Spot) (k : ℕ) (s : Spot) → slice_get bs k ≡ Some s → slice_get (bs ++ others) k ≡ Some s
first_spots [] others k s e = absurd cc
first_spots (b ∷ bs) others zero s e = e
first_spots (b ∷ bs) others (suc k) s e = first_spots bs others k s e

spots_length : (label : Name) (entry phis : Bool) (is : List InstructionV) (k : ℕ) (s : Spot) → slice_get (spots_in label entry phis is) k ≡ Some s → k < length is
unfolding spots_in
spots_length label entry phis [] k s e = absurd cc
spots_length label entry phis (i ∷ is) zero s e = omega arith
spots_length label entry phis (i ∷ is) (suc k) s e = let lt = spots_length label entry (phis && is_phi i) is k s e in omega arith

met : (m : ModuleV) (f : FunctionV) (o : Option Spot) (s : Spot) → o ≡ Some s → found_meets m f o Terminator ≡ false → terminates s ≡ true
met m f None s e none = absurd cc
met m f (Some x) s e none = let same : x ≡ s = cc in ap terminates (sym same) ∙ true_of (terminates x) none

count_first : (b : BlockV) (rest : List BlockV) → length b.instructions ≤ instruction_count (b ∷ rest)
count_first b rest = let e = sum_from (λ (x : BlockV). length x.instructions) rest (0 + length b.instructions) in omega (arith, e)

-- each number meets no early or missing end
abbrev pub EndsEverywhere : ModuleV → FunctionV → Type 0
EndsEverywhere m f = (k : ℕ) → k ≤ instruction_count f.blocks → number_meets m f k Terminator ≡ false

first_ends : (m : ModuleV) (f : FunctionV) (b : BlockV) (others : List BlockV) → f.blocks ≡ b ∷ others → EndsEverywhere m f → EndsRight (block_spots true b)
first_ends m f b others blocks none k s e =
    let lt = spots_length b.label true true b.instructions k s e in
    let count = count_first b others in
    let all : instruction_count f.blocks ≡ instruction_count (b ∷ others) = ap (λ (bs : List BlockV). instruction_count bs) blocks in
    let here : slice_get (spots f) k ≡ Some s = ap (λ (bs : List BlockV). slice_get (blocks_spots bs) k) blocks ∙ first_spots (block_spots true b) (flat_map (block_spots false) others) k s e in
    met m f (slice_get (spots f) k) s here (or_false (found_meets m f (slice_get (spots f) k) Terminator) (lack_meets (lacks_instruction f k) Terminator) (none k (omega (arith, lt, count, all)))).0

not_empty : (is : List InstructionV) (rest : Bool) → ((is_empty is && true) || rest) ≡ false → is_empty is ≡ false
not_empty [] rest e = absurd cc
not_empty (i ∷ is) rest e = refl

first_filled : (m : ModuleV) (f : FunctionV) (b : BlockV) (others : List BlockV) → f.blocks ≡ b ∷ others → EndsEverywhere m f → is_empty b.instructions ≡ false
unfolding empty_at
first_filled m f b others blocks none =
    let lack = (or_false (found_meets m f (slice_get (spots f) 0) Terminator) (lack_meets (lacks_instruction f 0) Terminator) (none 0 (omega arith))).1 in
    let here : empty_at f.blocks 0 ≡ false = (or_false (empty_at f.blocks 0) (not f.declared && is_empty f.blocks && nat_eq 0 0) lack).0 in
    let there : empty_at (b ∷ others) 0 ≡ false = ap (λ (bs : List BlockV). empty_at bs 0) (sym blocks) ∙ here in
    not_empty b.instructions (nat_le (length b.instructions) 0 && empty_at others (0 - length b.instructions)) there

some_block : (m : ModuleV) (f : FunctionV) → f.declared ≡ false → EndsEverywhere m f → is_empty f.blocks ≡ false
some_block m f declared none =
    let lack = (or_false (found_meets m f (slice_get (spots f) 0) Terminator) (lack_meets (lacks_instruction f 0) Terminator) (none 0 (omega arith))).1 in
    let here : (not f.declared && is_empty f.blocks && true) ≡ false = (or_false (empty_at f.blocks 0) (not f.declared && is_empty f.blocks && nat_eq 0 0) lack).1 in
    let there : (true && is_empty f.blocks && true) ≡ false = rw declared at here in
    plain (is_empty f.blocks) there
  where
    plain : (b : Bool) → (true && b && true) ≡ false → b ≡ false
    plain true e = absurd cc
    plain false e = refl

-- the entry block of a function that is defined has an instruction behind its phis
pub record Entered (f : Function ℕ ℕ ℕ) : Type 0 where
  pub block : Block ℕ ℕ ℕ
  pub others : List (Block ℕ ℕ ℕ)
  pub is : f.blocks ≡ block ∷ others
  pub room : length (joins_of block.instructions) < length block.instructions

room_of : (t : Table) (label : Name) (is : List (Instruction ℕ ℕ ℕ)) → is_empty (map (shown t) is) ≡ false → EndsRight (spots_in label true true (map (shown t) is)) → length (joins_of is) < length is
room_of t label [] filled ends = absurd cc
room_of t label (i ∷ is) filled ends = fewer t label true true i is ends

entered_in : (m : ModuleV) (t : Table) (f : Function ℕ ℕ ℕ) (bs : List (Block ℕ ℕ ℕ)) → f.blocks ≡ bs → is_empty (map (shown_block t) bs) ≡ false → EndsEverywhere m (shown_function t f) → Entered f
entered_in m t f [] is some none = absurd cc
entered_in m t f (b ∷ others) is some none =
    let blocks : (shown_function t f).blocks ≡ shown_block t b ∷ map (shown_block t) others = ap (map (shown_block t)) is in
    record {
      block = b;
      others = others;
      is = is;
      room = room_of t (name_at t b.label) b.instructions
          (first_filled m (shown_function t f) (shown_block t b) (map (shown_block t) others) blocks none)
          (first_ends m (shown_function t f) (shown_block t b) (map (shown_block t) others) blocks none);
    }

pub entered : (m : ModuleV) (t : Table) (f : Function ℕ ℕ ℕ) → f.declared ≡ false → EndsEverywhere m (shown_function t f) → Entered f
entered m t f declared none = entered_in m t f f.blocks refl (some_block m (shown_function t f) declared none) none
