-- Shadow codes: what a worker knows of one private byte, as one number. Nothing here depends on how wide a code is.
use Rattle.std.specs.Prelude.{ℕ, ◌==◌, nat_le, max, Bool, true, false, if◌then◌else◌, Option, Some, None, List, [], ◌∷◌, filter, position}
use Rattle.std.specs.List.{zip}

-- what a code says of its byte
pub data Class : Type 0 where
  -- this worker has not written it in the span, nor read it in this period
  Untouched : Class
  -- this worker wrote it in an earlier period
  OldWrite : Class
  -- this worker read it in this period before any write
  ReadLiveIn : Class
  -- this worker wrote it in this period, last in the turn with that stamp
  Stamp : ℕ → Class

-- the classes by number
abbrev pub class_of : ℕ → Class
class_of code =
    if code == 0 then Untouched else (if code == 1 then OldWrite else (if code == 2 then ReadLiveIn else Stamp code))

-- a read in the turn with stamp beta: None where the byte's value is of another turn of this worker
abbrev pub after_read : ℕ → Class → Option ℕ
after_read beta Untouched = Some 2
after_read beta OldWrite = None
after_read beta ReadLiveIn = Some 2
after_read beta (Stamp s) = if s == beta then Some beta else None

-- a write in the turn with stamp beta: None where the byte's value from before the period was read
abbrev pub after_write : ℕ → Class → Option ℕ
after_write beta Untouched = Some beta
after_write beta OldWrite = Some beta
after_write beta ReadLiveIn = None
after_write beta (Stamp s) = if nat_le s beta then Some beta else None

-- the end of a period: writes become old, reads are forgotten
abbrev pub after_period : Class → ℕ
after_period Untouched = 0
after_period OldWrite = 1
after_period ReadLiveIn = 0
after_period (Stamp s) = 1

abbrev pub read_code : ℕ → ℕ → Option ℕ
read_code beta code = after_read beta (class_of code)

abbrev pub write_code : ℕ → ℕ → Option ℕ
write_code beta code = after_write beta (class_of code)

abbrev pub reset_code : ℕ → ℕ
reset_code code = after_period (class_of code)

abbrev pub is_read : Class → Bool
is_read Untouched = false
is_read OldWrite = false
is_read ReadLiveIn = true
is_read (Stamp s) = false

abbrev pub is_written : Class → Bool
is_written Untouched = false
is_written OldWrite = true
is_written ReadLiveIn = false
is_written (Stamp s) = true

-- one worker read the byte from before the period, and the other wrote it in the span
abbrev pub clashes : ℕ → ℕ → Bool
clashes read write = if is_read (class_of read) then is_written (class_of write) else false

abbrev pub first_clash_of : List ℕ → List ℕ → Option ℕ
first_clash_of reads writes = position (λ p. clashes p.0 p.1) (zip reads writes)

-- the greatest number of a list, 0 of none
abbrev pub greatest_of : List ℕ → ℕ
greatest_of [] = 0
greatest_of (x ∷ xs) = max x (greatest_of xs)

-- the stamps among the codes
abbrev pub stamps : List ℕ → List ℕ
stamps codes = filter (nat_le 3) codes
