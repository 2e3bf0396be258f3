-- Edits one after the other.
use Rattle.std.proofs.Common.{◌≡◌, ℕ, zero, suc, ◌+◌, ◌<◌, ◌≤◌, max, List, [], ◌∷◌, ◌++◌, length, take, drop, get_or, Result, Ok, Err, IfErr, refl, sym, ◌∙◌, ap, subst, arith}
use Rattle.std.specs.Prelude.{IsErrAnd}
use Rattle.exh_edits.specs.declared.block_edit.BlockEdit.{BlockEdit}
use Rattle.exh_edits.specs.BlockEdits.{with_block, with_edits}
use Rattle.exh_edits.specs.EditsInTurn.{AreInTurn}
use Rattle.exh_commit.specs.declared.commit_fault.CommitFault.{CommitFault}
use Rattle.exh_commit.specs.declared.commit_fault.CommitFault.TheVariants.{Place, NotSaved, MaybeSaved}
use Rattle.exh_commit.specs.CommitFault.{IsBehind, IsCause}

-- the last edit is made last
pub edits_push : (edits : List BlockEdit) (edit : BlockEdit) (bytes : List ℕ) → with_edits (edits ++ edit ∷ []) bytes ≡ with_block edit.place edit.block (with_edits edits bytes)
edits_push [] edit bytes = refl
edits_push (first ∷ edits) edit bytes = edits_push edits edit (with_block first.place first.block bytes)

-- one more is in turn behind the others
pub turn_push : (edits : List BlockEdit) (first count : ℕ) (last : BlockEdit) → AreInTurn first edits count → last.place ≤ count → AreInTurn first (edits ++ last ∷ []) (max count (last.place + 1))
turn_push [] first count last turn within = (omega (arith, turn, within), ap (λ (n : ℕ). max n (last.place + 1)) turn)
turn_push (edit ∷ edits) first count last turn within = (turn.0, turn_push edits (max first (edit.place + 1)) count last turn.1 within)

-- a list is what stands before an index, what stands there, and what stands behind
pub parts_at : (edits : List BlockEdit) (index : ℕ) (none : BlockEdit) → index < length edits → edits ≡ take index edits ++ get_or edits index none ∷ drop (index + 1) edits
parts_at [] index none less = absurd (omega (arith, less))
parts_at (edit ∷ edits) zero none less = refl
parts_at (edit ∷ edits) (suc index) none less =
    let next : suc index + 1 ≡ suc (index + 1) = omega arith in
    ap (λ (rest : List BlockEdit). edit ∷ rest) (parts_at edits index none (omega (arith, less)))
    ∙ ap (λ (n : ℕ). edit ∷ (take index edits ++ get_or edits index none ∷ drop n (edit ∷ edits))) (sym next)

-- behind edits that are in turn the next one strays
pub strays : (edits : List BlockEdit) (index first count : ℕ) (none : BlockEdit) (fault : CommitFault) → index < length edits → AreInTurn first (take index edits) count → IsBehind count (get_or edits index none) fault → IsCause first edits fault
strays edits index first count none (Place place) less turn behind = record {
  before = take index edits;
  edit = get_or edits index none;
  after = drop (index + 1) edits;
  are = parts_at edits index none less;
  end = count;
  turn = turn;
  place_is = behind.0;
  behind = behind.1;
}
strays edits index first count none (NotSaved error) less turn behind = tt
strays edits index first count none (MaybeSaved error) less turn behind = tt

pub err_as : {T : Type 0} (result : Result T CommitFault) (fault : CommitFault) (P : CommitFault → Type 0) → IsErrAnd result (λ e. e ≡ fault) → P fault → IfErr result P
err_as (Ok value) fault P is holds = tt
err_as (Err e) fault P is holds = subst P (sym is) holds
