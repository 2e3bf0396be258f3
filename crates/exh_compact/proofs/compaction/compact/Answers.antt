use Rattle.std.proofs.Common.{◌≡◌, Result, Ok, Err, IfErr, IsErrAnd, inl, inr, sym, subst}
use Rattle.exhash.specs.declared.StoreError.{StoreError}
use Rattle.exh_compact.specs.Compacted.{IsOfCompacting}
use Rattle.exh_compact.proofs.compaction.compact.Goals as goal

err_as : {T : Type 0} (result : Result T StoreError) (fault : StoreError) (P : StoreError → Type 0) → IsErrAnd result (λ other. other ≡ fault) → P fault → IfErr result P
err_as (Ok value) fault P is holds = tt
err_as (Err other) fault P is holds = subst P (sym is) holds

pub returns-in_err-wards : goal.returns-in_err-wards
returns-in_err-wards c =
    err_as c.from_residual-in_err-wards.result c.in_err-wards.field-0.0 IsOfCompacting c.from_residual-in_err-wards.ensures.1 (inr (inl (_, c.in_err-wards.ensures.refused)))
