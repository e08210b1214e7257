-- What the reader keeps of the lines that it has read.
use Rattle.std.specs.Prelude.{◌≡◌, ℕ, ◌<◌, List, [], ◌++◌, Bool, true, Option, None, Some, option_map, Result, Ok, Err, Vec}
use Rattle.std.specs.Str.{bytes_eq}
use Rattle.std.specs.List.{list_any, flat_map}
use Rattle.std.specs.Ordering.{nat_cmp}
use Rattle.std.specs.Cmp.Lexicographic.{slice_cmp}
use Rattle.std.specs.BTreeSet.{BTreeSet, contains}
use Rattle.profile_lines.specs.declared.profile.ProfileCause.{ProfileCause}
use Rattle.profile_lines.specs.declared.profile.ProfileLoop.{ProfileLoop}
use Rattle.profile_lines.specs.declared.lines.Line.{Line}
use Rattle.profile_lines.specs.Cuts.{Reading}
use Rattle.profile_lines.specs.Keys.{key_of}
use Rattle.profile_reader.specs.declared.reader.Reader.{Reader}
use Rattle.profile_reader.specs.Grammar.{open_lines, loop_lines, saying}
use Rattle.profile_reader.specs.Reading.{Said, last_rank, this_loop, named_loops}

-- the set has what these lines say, and no more
abbrev pub Holds : {Z : Type 0} → BTreeSet (Vec ℕ Z) → List Line → Type 0
Holds {Z} set lines =
    (q : Vec ℕ Z) → contains (λ x y. slice_cmp nat_cmp x.items y.items) set q ≡ list_any (λ line. bytes_eq (key_of line) q.items) lines

-- no line of the loop stands after one of this place in the order
pub record InOrder (l : ProfileLoop) (last : ℕ) : Type 0 where
  pub period : last < 1 → l.period ≡ None
  pub blocks : last < 2 → l.blocks ≡ []
  pub phis : last < 3 → l.phis ≡ []
  pub uses : last < 4 → l.uses ≡ []
  pub locals : last < 5 → l.locals ≡ []
  pub flows : last < 6 → l.flows ≡ []
  pub values : last < 7 → l.values ≡ []

-- a loop is open exactly where the last word is no `end`
abbrev pub IsOpen : ℕ → Option ProfileLoop → Type 0
IsOpen last None = last ≡ 8
IsOpen last (Some l) = (last < 8) × InOrder l last

abbrev pub lines_open : Option ProfileLoop → List Line
lines_open None = []
lines_open (Some l) = open_lines l

-- the lines that were said after the first one
abbrev pub lines_said : Reader → List Line
lines_said r = flat_map loop_lines r.loops ++ lines_open r.open

abbrev pub said_by : Reader → Said
said_by r = option_map (λ version. saying version (lines_said r)) r.version

pub record Stands (r : Reader) : Type 0 where
  pub last : r.last ≡ last_rank (lines_said r)
  pub opened : IsOpen r.last r.open
  pub said : Holds r.said (this_loop (lines_said r))
  pub named : Holds r.named (named_loops (lines_said r))
  pub unheaded : r.version ≡ None → lines_said r ≡ []

-- how a line is taken: as the step of the reading says, and after the last line no loop is open
abbrev pub Takes : {U : Type 0} → Bool → Reading Said → Reader → Result U ProfileCause → Type 0
Takes last step r (Ok u) = (step ≡ Ok (said_by r)) × Stands r × (last ≡ true → r.open ≡ None)
Takes last step r (Err cause) = step ≡ Err cause
