-- A call that is noted behind others.
use Rattle.std.proofs.Common.{◌≡◌, ℕ, List, [], ◌∷◌, ◌++◌, refl, ap, ◌∙◌}
use Rattle.exh_page.specs.KeyMap.{KeyMap}
use Rattle.exh_calls.specs.MapMachine.{map_after}
use Rattle.exh_calls.specs.declared.call.Call.{Call}
use Rattle.exh_map.specs.Batch.{map_after_all}

module _ (cap : ℕ) (pseudo : List ℕ → ℕ) where
  after_more : (was : KeyMap) (calls : List Call) (call : Call) → map_after_all cap pseudo was (calls ++ call ∷ []) ≡ map_after cap pseudo (map_after_all cap pseudo was calls) call
  after_more was [] call = refl
  after_more was (first ∷ calls) call = after_more (map_after cap pseudo was first) calls call

  pub leads_more : (was whole : KeyMap) (calls all : List Call) (call : Call) → all ≡ calls ++ call ∷ [] → map_after_all cap pseudo was calls ≡ whole → map_after_all cap pseudo was all ≡ map_after cap pseudo whole call
  leads_more was whole calls all call are lead =
      ap (map_after_all cap pseudo was) are ∙ after_more was calls call ∙ ap (λ (map : KeyMap). map_after cap pseudo map call) lead
