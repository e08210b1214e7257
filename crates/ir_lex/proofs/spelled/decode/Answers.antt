use Rattle.std.proofs.Common.{◌≡◌, ◌+◌, ◌++◌, [], ◌∷◌, List, ℕ, drop, arith, sym, ap, ◌∙◌, append_assoc}
use Rattle.std.proofs.lemmas.List.{append-nil}
use Rattle.ir_lex.specs.Spelling.{decoded_from, written, meant}
use Rattle.ir_lex.proofs.Spellings.{decoded_step, decoded_end}
use Rattle.ir_lex.proofs.spelled.decode.Goals as goal

pub loop-at-preserved : goal.loop-at-preserved
loop-at-preserved c =
    let text = c.args.text.now in
    let at = c.loop-at.at in
    let n = c.written-at.result in
    let step = decoded_step text at n c.loop-at-test.true (c.written-at.ensures.value ∙ ap written c.from-rest.ensures.value) c.written-at.ensures.some in
    let byte : c.meant.result ≡ meant (drop at text) = c.meant.ensures ∙ ap meant c.from-rest.ensures.value in
    record {
      within = omega (arith, c.written-at.ensures.bound, c.from-rest.ensures.len);
      so_far = rw (c.in_ok-push.ensures.ok, byte) (append_assoc c.loop-at.bytes (meant (drop at text) ∷ []) (decoded_from (drop (at + n) text) 0) ∙ ap (λ (x : List ℕ). c.loop-at.bytes ++ x) (sym step) ∙ c.loop-at.invariant.so_far);
    }

pub returns : goal.returns
returns c = sym (append-nil c.loop-at.bytes) ∙ ap (λ (x : List ℕ). c.loop-at.bytes ++ x) (sym (decoded_end c.args.text.now c.loop-at.at c.loop-at-test.false)) ∙ c.loop-at.invariant.so_far
