-- How an answer is delivered, as it is seen of the sinks.
use Rattle.std.specs.Prelude.{◌≡◌, ◌<◌, ◌≤◌, ◌⊎◌, ℕ, Option, Bool, true, false}
use Rattle.pv_base.specs.Outside.{Text, Rose, AppendsFront, appended}
use Rattle.plain_commands.specs.Status as exit
use Rattle.plain_commands.specs.declared.answer.Answer.{Answer}

-- what is seen of a sink: what it holds and has room for, where it tells that, and its count of faults
pub record SinkSeen : Type 0 where
  pub held : Option Text
  pub faults : ℕ
  pub room : Option ℕ

abbrev pub sink_seen : Option Text → ℕ → Option ℕ → SinkSeen
sink_seen held faults room = record { held = held; faults = faults; room = room }

-- a status with which all was put
abbrev pub IsReported : ℕ → Type 0
IsReported status = (status < exit.write_fault) ⊎ (status ≡ exit.too_long)

-- what a call does that is to answer this: to the output, seen as o and then as o', and to the report, seen as r and then as r'
pub record Delivers (wanted : Answer) (end : ℕ) (o o' r r' : SinkSeen) : Type 0 where
  -- a write that failed is told in place of the status
  pub status : (end ≡ wanted.status) ⊎ (end ≡ exit.write_fault)
  pub fault : end ≡ exit.write_fault → Rose o.faults o'.faults ⊎ Rose r.faults r'.faults
  pub told : (o.faults < o'.faults) ⊎ (r.faults < r'.faults) → end ≡ exit.write_fault
  pub out : IsReported end → o'.held ≡ appended o.held wanted.out
  pub report : IsReported end → r'.held ≡ appended r.held wanted.report
  pub out_front : AppendsFront o.held o'.held wanted.out
  pub report_front : AppendsFront r.held r'.held wanted.report
  -- the report is put behind the output, and not at all where the output failed
  pub order : ((o'.faults ≡ o.faults) × (o'.held ≡ appended o.held wanted.out)) ⊎ (r' ≡ r)
  pub rooms : (o'.room ≡ o.room) × (r'.room ≡ r.room)
  pub later : (o.faults ≤ o'.faults) × (r.faults ≤ r'.faults)

-- how a put of all there is ends
abbrev pub PutsAll : Option Text → Option Text → ℕ → ℕ → Text → Bool → Type 0
PutsAll held held' before after bytes true = (after ≡ before) × (held' ≡ appended held bytes)
PutsAll held held' before after bytes false = Rose before after × AppendsFront held held' bytes
