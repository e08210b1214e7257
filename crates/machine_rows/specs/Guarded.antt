-- What the tests' memory with a check of its own answers: one object may not be read, and the last one that was is marked.
use Rattle.std.specs.Prelude.{ℕ, ◌≡◌, Option, Some, Result, Ok, Err}
use Rattle.mem_image.specs.declared.object.Pointer.{Pointer}
use Rattle.mem_image.specs.declared.object.Pointer.TheVariants.{Null, Obj, Fun}
use Rattle.mem_image.specs.declared.fault.Fault.{Fault}
use Rattle.mem_image.specs.declared.fault.Fault.TheVariants.{Trap, Check, Memory}
use Rattle.mem_image.specs.Calls.{Call, Reply, ReadWord, WriteWord, CopyRange, Fill, Make, Release, EndFrame, ImageAnswers}

-- the pointer is to the object of that name
abbrev pub Names : ℕ → Pointer → Type 0
Names closed (Obj name offset) = name ≡ closed
Names closed Null = ⊥
Names closed (Fun index) = ⊥

-- the mark after a read
abbrev pub marked : Option ℕ → Pointer → Option ℕ
marked last (Obj name offset) = Some name
marked last Null = last
marked last (Fun index) = last

-- a read of the closed object is refused, and any other marks its object
abbrev pub ReadAnswers : ℕ → Option ℕ → Pointer → Result Reply Fault → Option ℕ → Type 0
ReadAnswers closed old from (Ok reply) new = (Names closed from → ⊥) × (new ≡ marked old from)
ReadAnswers closed old from (Err (Trap t)) new = new ≡ old
ReadAnswers closed old from (Err (Check f)) new = Names closed from × (new ≡ old)
ReadAnswers closed old from (Err Memory) new = ⊥

abbrev pub GuardAnswers : ℕ → Option ℕ → Call → Result Reply Fault → Option ℕ → Type 0
GuardAnswers closed old (ReadWord site slot from len) answer new = ReadAnswers closed old from answer new
GuardAnswers closed old (WriteWord site slot to word) answer new = ImageAnswers (WriteWord site slot to word) answer × (new ≡ old)
GuardAnswers closed old (CopyRange site to from len overlap) answer new = ImageAnswers (CopyRange site to from len overlap) answer × (new ≡ old)
GuardAnswers closed old (Fill site to value len) answer new = ImageAnswers (Fill site to value len) answer × (new ≡ old)
GuardAnswers closed old (Make site kind size zeroed) answer new = ImageAnswers (Make site kind size zeroed) answer × (new ≡ old)
GuardAnswers closed old (Release site pointer) answer new = ImageAnswers (Release site pointer) answer × (new ≡ old)
GuardAnswers closed old (EndFrame names) answer new = ImageAnswers (EndFrame names) answer × (new ≡ old)
