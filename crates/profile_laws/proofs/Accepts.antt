-- Readings and the grammar.
use Rattle.std.proofs.Common.{◌≡◌, ℕ, ◌+◌, ◌≤◌, Bool, true, false, cond, eqb, ltb, ◌&&◌, ◌||◌, List, [], ◌∷◌, ◌++◌, length, Option, Some, None, Result, Ok, Err, MatchBool, inl, inr, refl, sym, ap, subst, ◌∙◌, arith}
use Rattle.std.specs.Prelude.{not}
use Rattle.std.specs.Str.{bytes_eq}
use Rattle.std.proofs.lemmas.List.{append-nil, append_assoc}
use Rattle.std.proofs.lemmas.List.Sums.{fold_push}
use Rattle.std.proofs.lemmas.Bool.{eqb-true, eq-eqb}
use Rattle.std.proofs.lemmas.Bool.Decides.{nat_tests}
use Rattle.std.proofs.lemmas.Slice.Eq.{bytes_eq-Decides}
use Rattle.pv_base.specs.Outside.{Text}
use Rattle.profile_lines.specs.declared.profile.Profile.{Profile}
use Rattle.profile_lines.specs.declared.profile.ProfileCause.{ProfileCause}
use Rattle.profile_lines.specs.declared.profile.ProfileCause.TheVariants.{Order, Repeat, TooLong}
use Rattle.profile_lines.specs.declared.lines.Line.{Line}
use Rattle.profile_lines.specs.Cuts.{Reading}
use Rattle.profile_lines.specs.Keys.{rank}
use Rattle.profile_lines.specs.Lines.{is_passed_over, first_head, second_head, version_of, line_of}
use Rattle.profile_reader.specs.declared.read.ProfileError.{ProfileError}
use Rattle.profile_reader.specs.Texts.{lines_of}
use Rattle.profile_reader.specs.Grammar.{Saying, saying, profile_lines, profile_says}
use Rattle.profile_reader.specs.Reading.{Said, last_rank, pass, begin, begin_with, add, add_read, take_line, step, is_last, go_on, said_from, headed, said_of}
use Rattle.profile_laws.specs.Accepted.{Spoken, Heads, Headed, InTurn, IsTextOf}

abbrev Ended : Type 0
Ended = Result Said ProfileError

ended : (a b : Saying) → ◌≡◌ {A = Ended} (Ok (Some a)) (Ok (Some b)) → a ≡ b
ended a b e = cc

not_ended : (e : ProfileError) (a : Said) → ◌≡◌ {A = Ended} (Err e) (Ok a) → ⊥
not_ended e a h = cc

no_head : (a : Saying) → ◌≡◌ {A = Ended} (Ok None) (Ok (Some a)) → ⊥
no_head a h = cc

read : (a b : Said) → ◌≡◌ {A = Reading Said} (Ok a) (Ok b) → b ≡ a
read a b e = cc

not_read : (c : ProfileCause) (a : Said) → ◌≡◌ {A = Reading Said} (Err c) (Ok a) → ⊥
not_read c a h = cc

false_true : {A : Type 0} → false ≡ true → A
false_true h = absurd cc

last_more : (lines : List Line) (line : Line) → last_rank (lines ++ line ∷ []) ≡ rank line
last_more lines line = fold_push (λ _ l. rank l) 8 lines line

and_both : (a b : Bool) → (a && b) ≡ true → (a ≡ true) × (b ≡ true)
and_both true b h = (refl, h)
and_both false b h = false_true h

or_not : (last b : Bool) → (not last || b) ≡ true → last ≡ true → b ≡ true
or_not true b h e = h
or_not false b h e = false_true e

not_or : (last b : Bool) → (last ≡ true → b ≡ true) → (not last || b) ≡ true
not_or true b h = h refl
not_or false b h = refl

passed_ok : (last closed : Bool) (before : Saying) (now : Said) → cond (last && not closed) (Err Order) (Ok (Some before)) ≡ Ok now
    → (now ≡ Some before) × (last ≡ true → closed ≡ true)
passed_ok true true before now h = (read _ _ h, λ _. refl)
passed_ok true false before now h = absurd (not_read _ _ h)
passed_ok false true before now h = (read _ _ h, λ _. refl)
passed_ok false false before now h = (read _ _ h, λ e. false_true e)

ok_passed : (last closed : Bool) (before : Saying) → (last ≡ true → closed ≡ true)
    → ◌≡◌ {A = Reading Said} (cond (last && not closed) (Err Order) (Ok (Some before))) (Ok (Some before))
ok_passed true true before h = refl
ok_passed true false before h = false_true (h refl)
ok_passed false closed before h = refl

added_ok : (fit again : Bool) (said : Saying) (now : Said) → cond fit (cond again (Err Repeat) (Ok (Some said))) (Err Order) ≡ Ok now
    → (fit ≡ true) × (again ≡ false) × (now ≡ Some said)
added_ok true true said now h = absurd (not_read _ _ h)
added_ok true false said now h = (refl, refl, read _ _ h)
added_ok false again said now h = absurd (not_read _ _ h)

abbrev Forward : List Text → Saying → Saying → Type 0
Forward texts before after =
    (before.version ≡ after.version) × (more : List Line) × (after.lines ≡ before.lines ++ more) × Spoken before.version texts more × InTurn before.lines more

abbrev Goes : List Text → ℕ → Saying → Type 0
Goes texts n after =
    (before : Saying) → (texts ≡ [] → last_rank before.lines ≡ 8) → said_from (Some before) n texts ≡ Ok (Some after) → Forward texts before after

forward_line : (text : Text) (texts : List Text) (before : Saying) (n : ℕ) (after : Saying) (now : Said) (r : Reading Line)
    → is_passed_over text ≡ false → length text ≤ 4096 → line_of before.version text ≡ r → add_read before (is_last texts) r ≡ Ok now
    → Goes texts n after → said_from now n texts ≡ Ok (Some after) → Forward (text ∷ texts) before after
forward_line text texts before n after now (Err cause) says_some short is taken later e = absurd (not_read _ _ taken)
forward_line text texts before n after now (Ok line) says_some short is taken later e =
    let parts = added_ok _ _ _ _ taken in
    let fit = and_both _ _ parts.0 in
    let more : Saying = saying before.version (before.lines ++ line ∷ []) in
    let closes : texts ≡ [] → last_rank (before.lines ++ line ∷ []) ≡ 8 =
    λ nil. last_more before.lines line ∙ eqb-true (rank line) 8 (or_not _ _ fit.1 (ap is_last nil))
    in
    let rest : Forward texts more after = later more closes (ap (λ (s : Said). said_from s n texts) (sym parts.2) ∙ e) in
    let spoken : Spoken before.version (text ∷ texts) (line ∷ rest.1) = rw says_some (line, rest.1, refl, short, is, rest.3) in (
      rest.0,
      line ∷ rest.1,
      rest.2 ∙ append_assoc before.lines (line ∷ []) rest.1,
      spoken,
      (fit.0, parts.1, rest.4),
    )

forward_long : (text : Text) (texts : List Text) (before : Saying) (n : ℕ) (after : Saying) (now : Said) (long : Bool)
    → is_passed_over text ≡ false → ltb 4096 (length text) ≡ long
    → cond long (Err TooLong) (take_line (Some before) (is_last texts) text) ≡ Ok now
    → Goes texts n after → said_from now n texts ≡ Ok (Some after) → Forward (text ∷ texts) before after
forward_long text texts before n after now true says_some is taken later e = absurd (not_read _ _ taken)
forward_long text texts before n after now false says_some is taken later e =
    let short : length text ≤ 4096 = short_of (length text) is in
    forward_line text texts before n after now (line_of before.version text) says_some short refl taken later e
  where
    short_of : (k : ℕ) → ltb 4096 k ≡ false → k ≤ 4096
    short_of k h = grind arith

forward_by : (text : Text) (texts : List Text) (before : Saying) (n : ℕ) (after : Saying) (now : Said) (over : Bool)
    → is_passed_over text ≡ over
    → cond over (pass (Some before) (is_last texts)) (cond (ltb 4096 (length text)) (Err TooLong) (take_line (Some before) (is_last texts) text)) ≡ Ok now
    → Goes texts n after → said_from now n texts ≡ Ok (Some after) → Forward (text ∷ texts) before after
forward_by text texts before n after now true is taken later e =
    let parts = passed_ok _ _ _ _ taken in
    let closes : texts ≡ [] → last_rank before.lines ≡ 8 = λ nil. eqb-true (last_rank before.lines) 8 (parts.1 (ap is_last nil)) in
    let rest : Forward texts before after = later before closes (ap (λ (s : Said). said_from s n texts) (sym parts.0) ∙ e) in
    let spoken : Spoken before.version (text ∷ texts) rest.1 = rw is rest.3 in (rest.0, rest.1, rest.2, spoken, rest.4)
forward_by text texts before n after now false is taken later e =
    forward_long text texts before n after now (ltb 4096 (length text)) is refl taken later e

forward_step : (text : Text) (texts : List Text) (before : Saying) (n : ℕ) (after : Saying) (r : Reading Said)
    → step (Some before) (is_last texts) text ≡ r → Goes texts (n + 1) after
    → go_on n r (λ now. said_from now (n + 1) texts) ≡ Ok (Some after) → Forward (text ∷ texts) before after
forward_step text texts before n after (Err cause) is later e = absurd (not_ended _ _ e)
forward_step text texts before n after (Ok now) is later e =
    forward_by text texts before (n + 1) after now (is_passed_over text) refl is later e

abbrev version_in : Saying → ℕ
version_in said = said.version

abbrev lines_in : Saying → List Line
lines_in said = said.lines

forward : (texts : List Text) (n : ℕ) (after : Saying) → Goes texts n after
forward [] n after before closes e =
    let same : after ≡ before = ended _ _ (sym e) in
    (ap version_in (sym same), [], ap lines_in same ∙ sym (append-nil before.lines), refl, closes refl)
forward (text ∷ texts) n after before closes e =
    forward_step text texts before n after (step (Some before) (is_last texts) text) refl (forward texts (n + 1) after) e

abbrev HeadedForward : List Text → Saying → Type 0
HeadedForward texts after = Headed after.version texts after.lines × InTurn [] after.lines

same_version : (v w : ℕ) → ◌≡◌ {A = Option ℕ} (Some v) (Some w) → w ≡ v
same_version v w e = cc

no_version : (v : ℕ) → ◌≡◌ {A = Option ℕ} None (Some v) → ⊥
no_version v e = cc

heads_by : (text : Text) (version : ℕ) (one two : Bool) → bytes_eq text first_head ≡ one → bytes_eq text second_head ≡ two
    → cond one (Some 1) (cond two (Some 2) None) ≡ Some version → Heads version text
heads_by text version true two is_one is_two e = inl (same_version 1 version e, (bytes_eq-Decides text first_head).0 is_one)
heads_by text version false true is_one is_two e = inr (same_version 2 version e, (bytes_eq-Decides text second_head).0 is_two)
heads_by text version false false is_one is_two e = absurd (no_version version e)

heads_of : (text : Text) (version : ℕ) → version_of text ≡ Some version → Heads version text
heads_of text version e = heads_by text version (bytes_eq text first_head) (bytes_eq text second_head) refl refl e

head_begun : (text : Text) (texts : List Text) (n : ℕ) (after : Saying) (found : Option ℕ) (now : Said)
    → is_passed_over text ≡ false → version_of text ≡ found → begin_with found ≡ Ok now
    → said_from now n texts ≡ Ok (Some after) → HeadedForward (text ∷ texts) after
head_begun text texts n after None now over is taken e = absurd (not_read _ _ taken)
head_begun text texts n after (Some version) now over is taken e =
    let none_before : Saying = saying version [] in
    let rest : Forward texts none_before after =
    forward texts n after none_before (λ _. refl) (ap (λ (s : Said). said_from s n texts) (sym (read _ _ taken)) ∙ e)
    in
    let first : Heads after.version text = subst (λ (v : ℕ). Heads v text) rest.0 (heads_of text version is) in
    let spoken_lines : Spoken version texts after.lines = subst (λ (l : List Line). Spoken version texts l) (sym rest.2) rest.3 in
    let spoken : Spoken after.version texts after.lines = subst (λ (v : ℕ). Spoken v texts after.lines) rest.0 spoken_lines in
    let turn : InTurn [] after.lines = subst (λ (l : List Line). InTurn [] l) (sym rest.2) rest.4 in
    let headed_here : Headed after.version (text ∷ texts) after.lines = rw over (first, spoken) in (headed_here, turn)

head_long : (text : Text) (texts : List Text) (n : ℕ) (after : Saying) (long : Bool) (now : Said)
    → is_passed_over text ≡ false → cond long (Err TooLong) (begin text) ≡ Ok now
    → said_from now n texts ≡ Ok (Some after) → HeadedForward (text ∷ texts) after
head_long text texts n after true now over taken e = absurd (not_read _ _ taken)
head_long text texts n after false now over taken e = head_begun text texts n after (version_of text) now over refl taken e

head_by : (text : Text) (texts : List Text) (n : ℕ) (after : Saying) (over : Bool) (now : Said)
    → is_passed_over text ≡ over
    → cond over (Ok None) (cond (ltb 4096 (length text)) (Err TooLong) (begin text)) ≡ Ok now
    → (said_from None n texts ≡ Ok (Some after) → HeadedForward texts after)
    → said_from now n texts ≡ Ok (Some after) → HeadedForward (text ∷ texts) after
head_by text texts n after true now over taken later e =
    let rest : HeadedForward texts after = later (ap (λ (s : Said). said_from s n texts) (sym (read _ _ taken)) ∙ e) in
    let headed_here : Headed after.version (text ∷ texts) after.lines = rw over rest.0 in (headed_here, rest.1)
head_by text texts n after false now over taken later e = head_long text texts n after (ltb 4096 (length text)) now over taken e

head_step : (text : Text) (texts : List Text) (n : ℕ) (after : Saying) (r : Reading Said)
    → step None (is_last texts) text ≡ r → (said_from None (n + 1) texts ≡ Ok (Some after) → HeadedForward texts after)
    → go_on n r (λ now. said_from now (n + 1) texts) ≡ Ok (Some after) → HeadedForward (text ∷ texts) after
head_step text texts n after (Err cause) is later e = absurd (not_ended _ _ e)
head_step text texts n after (Ok now) is later e = head_by text texts (n + 1) after (is_passed_over text) now refl is later e

forward_head : (texts : List Text) (n : ℕ) (after : Saying) → said_from None n texts ≡ Ok (Some after) → HeadedForward texts after
forward_head [] n after e = absurd (no_head _ e)
forward_head (text ∷ texts) n after e =
    head_step text texts n after (step None (is_last texts) text) refl (forward_head texts (n + 1) after) e

not_long : (k : ℕ) → k ≤ 4096 → ltb 4096 k ≡ false
not_long k h = grind (arith, nat_tests)

abbrev ended_with : ℕ → List Line → Ended
ended_with version lines = Ok (Some (saying version lines))

end_of : (version : ℕ) (texts : List Text) (more before : List Line) → is_last texts ≡ true → Spoken version texts more → InTurn before more → last_rank before ≡ 8
end_of version [] more before h s turn = subst (λ (m : List Line). InTurn before m) s turn
end_of version (text ∷ texts) more before h s turn = false_true h

abbrev Back : ℕ → List Text → ℕ → Type 0
Back version texts n =
    (before more : List Line) → Spoken version texts more → InTurn before more
    → said_from (Some (saying version before)) n texts ≡ Ok (Some (saying version (before ++ more)))

back_line : (version : ℕ) (text : Text) (texts : List Text) (n : ℕ) (before more : List Line) (line : Line) (later : List Line)
    → is_passed_over text ≡ false → more ≡ line ∷ later → length text ≤ 4096 → line_of version text ≡ Ok line
    → Spoken version texts later → InTurn before more → Back version texts (n + 1)
    → said_from (Some (saying version before)) n (text ∷ texts) ≡ Ok (Some (saying version (before ++ more)))
back_line version text texts n before more line later over is short says spoken turn back =
    let here : InTurn before (line ∷ later) = subst (λ (m : List Line). InTurn before m) is turn in
    let closes : is_last texts ≡ true → rank line ≡ 8 =
    λ h. sym (last_more before line) ∙ end_of version texts later (before ++ line ∷ []) h spoken here.2
    in
    let said : Saying = saying version before in
    let ends : (not (is_last texts) || eqb (rank line) 8) ≡ true = not_or _ _ (λ h. eq-eqb _ _ (closes h)) in
    let added : add said (is_last texts) line ≡ Ok (Some (saying version (before ++ line ∷ []))) = rw (here.0, ends, here.1) refl in
    let long : ltb 4096 (length text) ≡ false = not_long (length text) short in
    let stepped : step (Some said) (is_last texts) text ≡ Ok (Some (saying version (before ++ line ∷ []))) = rw (over, long, says) added in
    ap (λ (r : Reading Said). go_on n r (λ now. said_from now (n + 1) texts)) stepped
    ∙ back (before ++ line ∷ []) later spoken here.2
    ∙ ap (ended_with version) (append_assoc before (line ∷ []) later ∙ ap (λ (m : List Line). before ++ m) (sym is))

back_by : (version : ℕ) (text : Text) (texts : List Text) (n : ℕ) (before more : List Line) (over : Bool) → is_passed_over text ≡ over
    → MatchBool over (Spoken version texts more)
    ((line : Line) × (later : List Line) × (more ≡ line ∷ later) × (length text ≤ 4096) × (line_of version text ≡ Ok line) × Spoken version texts later)
    → InTurn before more → Back version texts (n + 1)
    → said_from (Some (saying version before)) n (text ∷ texts) ≡ Ok (Some (saying version (before ++ more)))
back_by version text texts n before more true over s turn back =
    let said : Saying = saying version before in
    let stepped : step (Some said) (is_last texts) text ≡ Ok (Some said) =
    rw over (ok_passed (is_last texts) (eqb (last_rank before) 8) said (λ h. eq-eqb _ _ (end_of version texts more before h s turn)))
    in
    ap (λ (r : Reading Said). go_on n r (λ now. said_from now (n + 1) texts)) stepped ∙ back before more s turn
back_by version text texts n before more false over s turn back =
    back_line version text texts n before more s.0 s.1 over s.2 s.3 s.4 s.5 turn back

back : (version : ℕ) (texts : List Text) (n : ℕ) → Back version texts n
back version [] n before more s turn = ap (ended_with version) (sym (append-nil before) ∙ ap (λ (m : List Line). before ++ m) (sym s))
back version (text ∷ texts) n before more s turn =
    back_by version text texts n before more (is_passed_over text) refl s turn (back version texts (n + 1))

abbrev begun_with : ℕ → Reading Said
begun_with version = Ok (Some (saying version []))

begun : (version : ℕ) (text : Text) (last : Bool) → Heads version text → step None last text ≡ begun_with version
begun version text last (inl head) =
    let here : step None last first_head ≡ begun_with 1 = refl in
    ap (λ (t : Text). step None last t) head.1 ∙ here ∙ ap begun_with (sym head.0)
begun version text last (inr head) =
    let here : step None last second_head ≡ begun_with 2 = refl in
    ap (λ (t : Text). step None last t) head.1 ∙ here ∙ ap begun_with (sym head.0)

back_head_by : (version : ℕ) (text : Text) (texts : List Text) (n : ℕ) (lines : List Line) (over : Bool) → is_passed_over text ≡ over
    → MatchBool over (Headed version texts lines) (Heads version text × Spoken version texts lines) → InTurn [] lines
    → (Headed version texts lines → said_from None (n + 1) texts ≡ Ok (Some (saying version lines)))
    → said_from None n (text ∷ texts) ≡ Ok (Some (saying version lines))
back_head_by version text texts n lines true over h turn later =
    let stepped : step None (is_last texts) text ≡ Ok None = rw over refl in
    ap (λ (r : Reading Said). go_on n r (λ now. said_from now (n + 1) texts)) stepped ∙ later h
back_head_by version text texts n lines false over h turn later =
    ap (λ (r : Reading Said). go_on n r (λ now. said_from now (n + 1) texts)) (begun version text (is_last texts) h.0)
    ∙ back version texts (n + 1) [] lines h.1 turn

back_head : (version : ℕ) (texts : List Text) (n : ℕ) (lines : List Line) → Headed version texts lines → InTurn [] lines
    → said_from None n texts ≡ Ok (Some (saying version lines))
back_head version [] n lines h turn = absurd h
back_head version (text ∷ texts) n lines h turn =
    back_head_by version text texts n lines (is_passed_over text) refl h turn (λ g. back_head version texts (n + 1) lines g turn)

abbrev Refusal : Type 0
Refusal = Result Saying ProfileError

refused_read : (e : ProfileError) (said : Saying) → ◌≡◌ {A = Refusal} (Err e) (Ok said) → ⊥
refused_read e said h = cc

same_saying : (a b : Saying) → ◌≡◌ {A = Refusal} (Ok a) (Ok b) → a ≡ b
same_saying a b h = cc

abbrev end_with : Saying → Ended
end_with said = Ok (Some said)

headed_ok : (r : Ended) (said : Saying) → headed r ≡ Ok said → r ≡ Ok (Some said)
headed_ok (Ok None) said h = absurd (refused_read _ _ h)
headed_ok (Ok (Some found)) said h = ap end_with (same_saying _ _ h)
headed_ok (Err e) said h = absurd (refused_read _ _ h)

accepted : (text : Text) (profile : Profile) → said_of text ≡ Ok (profile_says profile) → IsTextOf text profile
accepted text profile e =
    let parts : HeadedForward (lines_of text) (profile_says profile) =
    forward_head (lines_of text) 1 (profile_says profile) (headed_ok (said_from None 1 (lines_of text)) (profile_says profile) e)
    in
    record { headed = parts.0; in_turn = parts.1 }

pub accepts : (text : Text) (profile : Profile)
    → (said_of text ≡ Ok (profile_says profile) → IsTextOf text profile) × (IsTextOf text profile → said_of text ≡ Ok (profile_says profile))
accepts text profile = (
  accepted text profile,
  λ is. ap headed (back_head profile.version (lines_of text) 1 (profile_lines profile) is.headed is.in_turn),
)
