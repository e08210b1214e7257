-- The meaning of a tree over any memory, and its log.
use Rattle.std.proofs.Common.{inl, inr, ◌≡◌, List, ◌++◌, Result, Ok, Err, refl, sym, ap, ◌∙◌}
use Rattle.std.proofs.lemmas.List.{append_assoc, append-nil}
use Rattle.mem_image.specs.declared.fault.Trap.{Trap as TrapWord}
use Rattle.mem_image.specs.declared.fault.Fault.{Fault}
use Rattle.mem_image.specs.declared.fault.Fault.TheVariants.{Trap, Check, Memory}
use Rattle.mem_image.specs.Picture.{Picture, size_of}
use Rattle.mem_image.specs.Calls.{Call, Reply, does}
use Rattle.seq_effects.specs.Script.{Script, Gives, Stops, Sizes, Asks, outcome, chain, Follows, Answers, Tells}
use Rattle.seq_machine.specs.Acts.{Acted}
use Rattle.seq_machine.specs.Step.{script, control}
use Rattle.turn_laws.specs.Over.{outcome_over, by_reply, faulted, image_reply, image_acts, OrMemory, OneOrMemory, Exactly}
use Rattle.turn_laws.specs.Events.{Event, events, Logged, logs, before, by_call, logged_over, joined, then_logged, recorded, recording}
use Rattle.turn_laws.specs.Laws.{ImageIsInstance, FollowsIsOutcome, OutcomeFollows, LoggedIsOutcome, ChainsAreLogged, StepIsLogged, RecordingIsLogged}

-- ---- an image

pub image_is_instance : (A : Type 0) → ImageIsInstance A
image_is_instance A (Gives a) m = refl
image_is_instance A (Stops t) m = refl
image_is_instance A (Sizes p k) m = image_is_instance A (k (size_of m p)) m
image_is_instance A (Asks call k) m = go (λ r n. image_is_instance A (k r) n) (does m call)
  where
    go : ((r : Reply) (n : Picture) → outcome_over (λ p. p) image_acts (k r) n ≡ (faulted (outcome (k r) n).0, (outcome (k r) n).1)) → (d : Result (Reply × Picture) TrapWord)
        → by_reply (image_reply m d) (λ r n. outcome_over (λ p. p) image_acts (k r) n)
        ≡ (faulted (elim d as (λ _. Result A TrapWord × Picture) [ Ok p ↦ outcome (k p.0) p.1 | Err t ↦ (Err t, m) ]).0, (elim d as (λ _. Result A TrapWord × Picture) [ Ok p ↦ outcome (k p.0) p.1 | Err t ↦ (Err t, m) ]).1)
    go again (Ok p) = again p.0 p.1
    go again (Err t) = refl

-- ---- a relation that allows one answer

gave : {A M : Type 0} (a : A) (m : M) (answer : Result A Fault) (n : M) → Answers a answer → n ≡ m → OrMemory answer (◌≡◌ {A = Result A Fault × M} (Ok a, m) (answer, n))
gave a m (Ok b) n h e = cc
gave a m (Err (Trap t)) n h e = elim h [ ]
gave a m (Err (Check f)) n h e = elim h [ ]
gave a m (Err Memory) n h e = tt

stopped : {A M : Type 0} (t : TrapWord) (m : M) (answer : Result A Fault) (n : M) → Tells {A = A} (Err t) answer → n ≡ m → OrMemory answer (◌≡◌ {A = Result A Fault × M} (Err (Trap t), m) (answer, n))
stopped t m (Ok b) n h e = elim h [ ]
stopped t m (Err (Trap u)) n h e = cc
stopped t m (Err (Check f)) n h e = elim h [ ]
stopped t m (Err Memory) n h e = tt

-- where it holds, it holds unless memory ran out
or_memory : {A : Type 0} (P : Type 0) (answer : Result A Fault) → P → OrMemory answer P
or_memory P (Ok a) h = h
or_memory P (Err (Trap t)) h = h
or_memory P (Err (Check f)) h = h
or_memory P (Err Memory) h = tt

ran_out : {A : Type 0} (P : Type 0) (answer : Result A Fault) → answer ≡ Err Memory → OrMemory answer P
ran_out P answer e = rw e tt

faults : {A M : Type 0} (act : M → Call → Result Reply Fault × M) (call : Call) (next : Reply → M → Result A Fault × M) (m mid n : M) (f : Fault) (answer : Result A Fault)
    → OrMemory {A = Reply} (Err f) (act m call ≡ (Err f, mid)) → answer ≡ Err f → n ≡ mid → OrMemory answer (by_reply (act m call) next ≡ (answer, n))
faults act call next m mid n (Trap t) answer h e s = or_memory _ answer (rw (h, by_reply, e, s) refl)
faults act call next m mid n (Check f) answer h e s = or_memory _ answer (rw (h, by_reply, e, s) refl)
faults act call next m mid n Memory answer h e s = ran_out _ answer e

-- the same of every relation that allows no other answer
pub follows_one : {A M : Type 0} (image : M → Picture) (act : M → Call → Result Reply Fault × M) (R : M → Call → Result Reply Fault → M → Type 0) → ((m n : M) (call : Call) (reply : Result Reply Fault) → R m call reply n → OneOrMemory act m call reply n)
    → (s : Script A) (m : M) (answer : Result A Fault) (n : M) → Follows image R s m answer n → OrMemory answer (outcome_over image act s m ≡ (answer, n))
follows_one image act R one (Gives a) m answer n h = gave a m answer n h.0 h.1
follows_one image act R one (Stops t) m answer n h = stopped t m answer n h.0 h.1
follows_one image act R one (Sizes p k) m answer n h = follows_one image act R one (k (size_of (image m) p)) m answer n h
follows_one image act R one (Asks call k) m answer n (inl h) = ran_out _ answer h.0
follows_one image act R one (Asks call k) m answer n (inr (Ok r, mid, called, rest)) = rw (one m mid call (Ok r) called, outcome_over) (follows_one image act R one (k r) mid answer n rest)
follows_one image act R one (Asks call k) m answer n (inr (Err f, mid, called, rest)) =
    faults act call (λ r q. outcome_over image act (k r) q) m mid n f answer (one m mid call (Err f) called) rest.0 rest.1

pub follows_is_outcome : (A M : Type 0) → FollowsIsOutcome A M
follows_is_outcome A M image act s m answer n h = follows_one image act (OneOrMemory act) (λ m n call reply r. r) s m answer n h

pub outcome_follows : (A M : Type 0) → OutcomeFollows A M
outcome_follows A M image act (Gives a) m = (refl, refl)
outcome_follows A M image act (Stops t) m = (refl, refl)
outcome_follows A M image act (Sizes p k) m = outcome_follows A M image act (k (size_of (image m) p)) m
outcome_follows A M image act (Asks call k) m = go (λ r n. outcome_follows A M image act (k r) n) (act m call).0 (act m call).1 refl
  where
    go : ((r : Reply) (n : M) → Follows image (Exactly act) (k r) n (outcome_over image act (k r) n).0 (outcome_over image act (k r) n).1) → (reply : Result Reply Fault) (mid : M) → act m call ≡ (reply, mid)
        → Follows image (Exactly act) (Asks call k) m (by_reply (reply, mid) (λ r n. outcome_over image act (k r) n)).0 (by_reply (reply, mid) (λ r n. outcome_over image act (k r) n)).1
    go again (Ok r) mid e = inr (Ok r, mid, e, again r mid)
    go again (Err f) mid e = inr (Err f, mid, e, (refl, refl))

-- ---- logs

pub logged_is_outcome : (A M : Type 0) → LoggedIsOutcome A M
logged_is_outcome A M image act (Gives a) m = refl
logged_is_outcome A M image act (Stops t) m = refl
logged_is_outcome A M image act (Sizes p k) m = logged_is_outcome A M image act (k (size_of (image m) p)) m
logged_is_outcome A M image act (Asks call k) m = go (λ r n. logged_is_outcome A M image act (k r) n) (act m call)
  where
    go : ((r : Reply) (n : M) → ((logged_over image act (k r) n).answer, (logged_over image act (k r) n).memory) ≡ outcome_over image act (k r) n) → (d : Result Reply Fault × M)
        → ((by_call call d (λ r n. logged_over image act (k r) n)).answer, (by_call call d (λ r n. logged_over image act (k r) n)).memory) ≡ by_reply d (λ r n. outcome_over image act (k r) n)
    go again (Ok r, n) = again r n
    go again (Err f, n) = refl

before_joined : {A B M : Type 0} (log : List Event) (l : Logged A M) (next : A → M → Logged B M) → before log (then_logged l next) ≡ then_logged (before log l) next
before_joined {A = A} {B = B} {M = M} log l next = go l.answer
  where
    go : (answer : Result A Fault) → before log (joined answer l.memory l.log next) ≡ joined answer l.memory (log ++ l.log) next
    go (Ok a) = ap (logs (next a l.memory).answer (next a l.memory).memory) (sym (append_assoc log l.log (next a l.memory).log))
    go (Err f) = refl

pub chains_are_logged : (A B M : Type 0) → ChainsAreLogged A B M
chains_are_logged A B M image act (Gives a) k m = refl
chains_are_logged A B M image act (Stops t) k m = refl
chains_are_logged A B M image act (Sizes p j) k m = chains_are_logged A B M image act (j (size_of (image m) p)) k m
chains_are_logged A B M image act (Asks call j) k m = go (λ r n. chains_are_logged A B M image act (j r) k n) (act m call)
  where
    go : ((r : Reply) (n : M) → logged_over image act (chain (j r) k) n ≡ then_logged (logged_over image act (j r) n) (λ a q. logged_over image act (k a) q)) → (d : Result Reply Fault × M)
        → by_call call d (λ r n. logged_over image act (chain (j r) k) n) ≡ then_logged (by_call call d (λ r n. logged_over image act (j r) n)) (λ a q. logged_over image act (k a) q)
    go again (Ok r, n) = ap (before (events call r)) (again r n) ∙ before_joined (events call r) (logged_over image act (j r) n) (λ a q. logged_over image act (k a) q)
    go again (Err f, n) = refl

-- ---- a step

pub step_is_logged : StepIsLogged
step_is_logged code input s =
    let e = logged_is_outcome Acted Picture (λ p. p) image_acts (script code input (control s)) s.memory ∙ image_is_instance Acted (script code input (control s)) s.memory in
    (ap (λ (r : Result Acted Fault × Picture). r.0) e, ap (λ (r : Result Acted Fault × Picture). r.1) e)

-- ---- a memory that keeps the events

pub recording_is_logged : (A M : Type 0) → RecordingIsLogged A M
recording_is_logged A M image act (Gives a) m log = rw append-nil refl
recording_is_logged A M image act (Stops t) m log = rw append-nil refl
recording_is_logged A M image act (Sizes p k) m log = recording_is_logged A M image act (k (size_of (image m) p)) m log
recording_is_logged A M image act (Asks call k) m log = go (λ r n more. recording_is_logged A M image act (k r) n more) (act m call)
  where
    go : ((r : Reply) (n : M) (more : List Event)
        → outcome_over (λ p. image p.0) (recording act) (k r) (n, more) ≡ ((logged_over image act (k r) n).answer, ((logged_over image act (k r) n).memory, more ++ (logged_over image act (k r) n).log)))
        → (d : Result Reply Fault × M)
        → by_reply (recorded call log d) (λ r q. outcome_over (λ p. image p.0) (recording act) (k r) q)
        ≡ ((by_call call d (λ r n. logged_over image act (k r) n)).answer, ((by_call call d (λ r n. logged_over image act (k r) n)).memory, log ++ (by_call call d (λ r n. logged_over image act (k r) n)).log))
    go again (Ok r, n) = again r n (log ++ events call r)
        ∙ ap (λ (rest : List Event). ((logged_over image act (k r) n).answer, ((logged_over image act (k r) n).memory, rest))) (append_assoc log (events call r) (logged_over image act (k r) n).log)
    go again (Err f, n) = rw append-nil refl
