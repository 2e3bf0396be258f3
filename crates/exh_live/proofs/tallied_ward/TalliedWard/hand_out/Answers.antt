use Rattle.std.proofs.Common.{◌≡◌, List, ◌++◌, take, if◌then◌else◌, Result, Ok, Err, ap, ◌∙◌}
use Rattle.std.specs.Prelude.{OnOk, is_ok}
use Rattle.std.proofs.lemmas.List.{take_min}
use Rattle.exh_live.proofs.tallied_ward.TalliedWard.hand_out.Goals as goal

extended : {T E A : Type 0} (result : Result T E) (new old given all : List A) → new ≡ (if is_ok result then old ++ given else old) → given ≡ all → OnOk result (new ≡ old ++ all)
extended (Ok value) new old given all is same = is ∙ ap (λ items. old ++ items) same
extended (Err fault) new old given all is same = tt

pub returns-clause-ok : goal.returns-clause-ok
returns-clause-ok g c =
    extended c.extend_from_slice.result _ _ _ _ c.extend_from_slice.ensures.items
    (ap (λ count. take count c.notices_after-above.result.now) c.min.ensures ∙ take_min 256 c.notices_after-above.result.now ∙ ap (take 256) c.notices_after-above.ensures.notices)
