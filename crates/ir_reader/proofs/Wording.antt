-- Items that begin with a word.
use Rattle.std.proofs.Common.{◌≡◌, Bool, true, false, List, [], ◌∷◌, Ok, Err, refl, ◌∙◌}
use Rattle.std.specs.Prelude.{codes, if◌then◌else◌}
use Rattle.ir_lex.specs.declared.token.Cause.TheVariants as causes
use Rattle.ir_text.specs.declared.fault.Fault.TheVariants.{Ended}
use Rattle.ir_text.specs.declared.fault.ReadEnd.{ReadEnd}
use Rattle.ir_text.specs.declared.fault.ReadEnd.TheVariants as ends
use Rattle.ir_text.specs.Tokens.{TokenV, is_word}
use Rattle.ir_text.specs.Reading.{wrong, Fails}
use Rattle.ir_text.specs.Types.{Known}
use Rattle.ir_grammar.specs.Modules.{SoFar, PassedItem}
use Rattle.ir_grammar.specs.PassedItems.{to_string, attributes_at}
use Rattle.ir_grammar.specs.Items.{worded_item_at, definition_item_at, declaration_item_at, passing}
use Rattle.ir_reader.specs.Gathered.{passed_behind}

module _ (known : Known) (s : SoFar) (ts : List TokenV) where
  pub worded_none : ts ≡ [] → worded_item_at known s ts ≡ Err Ended
  unfolding worded_item_at
  worded_none is = rw is refl

  module _ (t : TokenV) (rest : List TokenV) (is : ts ≡ t ∷ rest) where
    pub worded_definition : is_word (codes "define") t ≡ true → worded_item_at known s ts ≡ definition_item_at known s rest
    unfolding worded_item_at
    worded_definition e = rw (is, e) refl

    pub worded_declaration : is_word (codes "define") t ≡ false → is_word (codes "declare") t ≡ true → worded_item_at known s ts ≡ declaration_item_at known s rest
    unfolding worded_item_at
    worded_declaration d e = rw (is, d, e) refl

    passed_by : (a b c : Bool) → (if a then passing (to_string rest) else (if b then passing (to_string rest) else (if c then passing (attributes_at rest) else wrong t causes.Instruction)))
        ≡ passing (if a then to_string rest else (if b then to_string rest else (if c then attributes_at rest else wrong t causes.Instruction)))
    passed_by true b c = refl
    passed_by false true c = refl
    passed_by false false true = refl
    passed_by false false false = refl

    pub worded_other : is_word (codes "define") t ≡ false → is_word (codes "declare") t ≡ false → worded_item_at known s ts ≡ passing (passed_behind t rest)
    unfolding worded_item_at
    worded_other d e = rw (is, d, e) (passed_by (is_word (codes "source_filename") t) (is_word (codes "target") t) (is_word (codes "attributes") t))

    pub worded_passed : is_word (codes "define") t ≡ false → is_word (codes "declare") t ≡ false → (us : List TokenV) → passed_behind t rest ≡ Ok (tt, us) → worded_item_at known s ts ≡ Ok (PassedItem, us)
    worded_passed d e us h = worded_other d e ∙ rw h refl

    pub worded_fails : is_word (codes "define") t ≡ false → is_word (codes "declare") t ≡ false → (f : ReadEnd) → Fails f (passed_behind t rest) → Fails f (worded_item_at known s ts)
    worded_fails d e ends.Memory h = tt
    worded_fails d e (ends.Bad f) h = worded_other d e ∙ rw h refl
