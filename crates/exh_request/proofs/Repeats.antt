-- Options that are used twice.
use Rattle.std.proofs.Common.{◌≡◌, ◌∙◌, ℕ, ◌+◌, ◌<◌, false, List, length, drop, get_or, map, cond, Some, ap}
use Rattle.std.specs.Prelude.{count_by, nat_lt}
use Rattle.std.proofs.lemmas.List.{drop_more}
use Rattle.exh_request.specs.declared.line.Use.{Use}
use Rattle.exh_request.specs.Line.{UsedOption, used_option}
use Rattle.exh_request.specs.Uses.{is_of, repeated_of}

-- an option that is used once is passed over
pub repeated_step : (all : List UsedOption) (uses : List Use) (i : ℕ) (other : Use) → i < length uses → nat_lt 1 (count_by (is_of (get_or uses i other).option) all) ≡ false
    → repeated_of all (map used_option (drop i uses)) ≡ repeated_of all (map used_option (drop (i + 1) uses))
repeated_step all uses i other within once =
    ap (λ (rest : List Use). repeated_of all (map used_option rest)) (drop_more uses i other within)
    ∙ ap (λ b. cond b (Some (get_or uses i other).option) (repeated_of all (map used_option (drop (i + 1) uses)))) once
