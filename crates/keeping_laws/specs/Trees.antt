-- What a tree of an instruction asks and gives, in the same bounds.
use Rattle.std.specs.Prelude.{ℕ, ◌≤◌, Option}
use Rattle.std.specs.List.{AllByRecursion}
use Rattle.int_num.specs.Integer.{IsInteger}
use Rattle.mem_image.specs.Calls.{Call, Reply, ReadWord, WriteWord, CopyRange, Fill, Make, Release, EndFrame, Bytes, Made, Done}
use Rattle.seq_effects.specs.declared.state.Effect.{Effect}
use Rattle.seq_effects.specs.declared.state.Effect.TheVariants as effect
use Rattle.seq_effects.specs.Script.{Script, Gives, Stops, Sizes, Asks}
use Rattle.keeping_laws.specs.Keeping.{PointerFits, IsByte, ByteFits, ValueFits, RegisterFits, NameFits}

-- the pointers, the words and the bytes that a call brings fit
abbrev pub CallFits : ℕ → Call → Type 0
CallFits next (ReadWord site slot from len) = PointerFits next from
CallFits next (WriteWord site slot to word) = PointerFits next to × AllByRecursion (ByteFits next) word
CallFits next (CopyRange site to from len overlap) = PointerFits next to × PointerFits next from
CallFits next (Fill site to value len) = PointerFits next to × IsByte value
CallFits next (Make site kind size zeroed) = Unit {0}
CallFits next (Release site pointer) = PointerFits next pointer
CallFits next (EndFrame names) = AllByRecursion (NameFits next) names

-- so does what is answered
abbrev pub ReplyFits : ℕ → Reply → Type 0
ReplyFits next (Bytes word) = AllByRecursion (ByteFits next) word
ReplyFits next (Made p) = PointerFits next p
ReplyFits next Done = Unit {0}

-- what an effect puts into registers fits, and so does the name that a frame is to own
abbrev pub EffectFits : ℕ → Effect → Type 0
EffectFits next effect.Next = Unit {0}
EffectFits next (effect.Give to v) = ValueFits next v
EffectFits next (effect.Keep to name) = NameFits next name
EffectFits next (effect.Edge e) = Unit {0}
EffectFits next (effect.Enter k registers) = AllByRecursion (RegisterFits next) registers
EffectFits next (effect.Back v) = RegisterFits next v
EffectFits next (effect.Exit n) = IsInteger n
EffectFits next (effect.Print text to v) = ValueFits next v
EffectFits next (effect.Take place to v) = ValueFits next v

-- Every call of the tree fits, and whatever fitting reply it gets, with whatever later next name, so does the rest; what the
-- tree gives is as P says.
abbrev pub TreeFits : {A : Type 0} → (ℕ → A → Type 0) → ℕ → Script A → Type 0
TreeFits P next (Gives a) = P next a
TreeFits P next (Stops t) = Unit {0}
TreeFits P next (Sizes p k) = PointerFits next p × ((size : Option ℕ) → TreeFits P next (k size))
TreeFits P next (Asks call k) = CallFits next call × ((later : ℕ) (r : Reply) → next ≤ later → ReplyFits later r → TreeFits P later (k r))
