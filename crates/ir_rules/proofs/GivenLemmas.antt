-- Types as instructions give them, in pairs.
use Rattle.std.proofs.Common.{◌≡◌, ℕ, refl}
use Rattle.ir_tree.specs.Trees.{TypeV, IntV, PtrV, VoidV, ArrayV, StructV, NamedV}
use Rattle.ir_rules.specs.Same.{same_type}
use Rattle.ir_rules.specs.Constants.{is_pointer, has_width}
use Rattle.ir_rules.specs.Reading.{is_void}
use Rattle.ir_rules.proofs.Classed.{eq_swap}

pub pointer_left : (b : TypeV) → same_type PtrV b ≡ is_pointer b
unfolding same_type
pointer_left (IntV w) = refl
pointer_left PtrV = refl
pointer_left VoidV = refl
pointer_left (ArrayV n t) = refl
pointer_left (StructV p fs) = refl
pointer_left (NamedV x) = refl

pub pointer_right : (a : TypeV) → same_type a PtrV ≡ is_pointer a
unfolding same_type
pointer_right (IntV w) = refl
pointer_right PtrV = refl
pointer_right VoidV = refl
pointer_right (ArrayV n t) = refl
pointer_right (StructV p fs) = refl
pointer_right (NamedV x) = refl

pub width_right : (w : ℕ) (a : TypeV) → same_type a (IntV w) ≡ has_width w a
unfolding same_type
width_right w (IntV v) = refl
width_right w PtrV = refl
width_right w VoidV = refl
width_right w (ArrayV n t) = refl
width_right w (StructV p fs) = refl
width_right w (NamedV x) = refl

pub width_left : (w : ℕ) (b : TypeV) → same_type (IntV w) b ≡ has_width w b
unfolding same_type
width_left w (IntV v) = eq_swap w v
width_left w PtrV = refl
width_left w VoidV = refl
width_left w (ArrayV n t) = refl
width_left w (StructV p fs) = refl
width_left w (NamedV x) = refl

pub void_right : (a : TypeV) → same_type a VoidV ≡ is_void a
unfolding same_type
void_right (IntV v) = refl
void_right PtrV = refl
void_right VoidV = refl
void_right (ArrayV n t) = refl
void_right (StructV p fs) = refl
void_right (NamedV x) = refl
