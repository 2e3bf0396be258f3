use Rattle.std.proofs.Common.{◌≡◌, ℕ, zero, suc, ◌+◌, List, [], ◌∷◌, ◌++◌, length, get_or, refl, ap, ◌∙◌}
use Rattle.std.proofs.lemmas.List.{length_push}
use Rattle.std.specs.FinMap.{empty}
use Rattle.exh_legal.specs.Table.{TableMap}
use Rattle.exh_format.proofs.tables.empty_tables.Goals as goal

none_more : (tables : List TableMap) → ((number : ℕ) → get_or tables number empty ≡ empty) → (number : ℕ) → get_or (tables ++ empty ∷ []) number empty ≡ empty
none_more [] none zero = refl
none_more [] none (suc number) = refl
none_more (table ∷ tables) none zero = none zero
none_more (table ∷ tables) none (suc number) = none_more tables (λ (at : ℕ). none (suc at)) number

pub loop-number-preserved : goal.loop-number-preserved
loop-number-preserved c =
    let pushed = c.in_ok-push.ensures.items in
    let tables = c.loop-number.tables.items in
    record {
      count = ap length pushed ∙ length_push tables c.new.result ∙ ap (λ count. count + 1) c.loop-number.invariant.count;
      none = λ number. ap (λ tables. get_or tables number empty) (pushed ∙ ap (λ table. tables ++ table ∷ []) c.new.ensures) ∙ none_more tables c.loop-number.invariant.none number;
    }
