use Rattle.std.proofs.Common.{map, rules, sym, ◌∙◌}
use Rattle.std.proofs.lemmas.List.{with_items_is, length-map}
use Rattle.std.specs.Vec.{with_items}
use Rattle.std.proofs.lemmas.Map.Made.{map_same_pairs}
use Rattle.shadow_codes.specs.Codes.{reset_code}
use Rattle.privacy_check.proofs.Tables.{table_mapped}
use Rattle.privacy_check.proofs.shadow.Shadow.end_period.Goals as goal

pub returns : goal.returns
returns c =
    table_mapped (λ v. v.items) (λ v. with_items v (map reset_code v.items)) (map reset_code) (λ v. with_items_is v (map reset_code v.items) (length-map v.items reset_code ∙ sym v.ok.0)) c.args.self.now _ _ c.self.view_is
    (map_same_pairs _ (λ v. with_items v (map reset_code v.items)) _ (λ k v b w f' t. search rules) _ _ c.retain.ensures.filtered)
