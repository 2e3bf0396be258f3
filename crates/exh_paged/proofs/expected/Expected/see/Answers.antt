use Rattle.std.proofs.Common.{◌≡◌, ℕ, List, sym, subst}
use Rattle.sqlite_wal.specs.Recovery.{Image}
use Rattle.exh_paged.specs.declared.expected.Expected.{Expected}
use Rattle.exh_paged.specs.declared.expected.Expected.TheVariants.{Own, Stamp}
use Rattle.exh_paged.specs.declared.files_fault.FilesFault.TheVariants.{NotAsOpened, OthersLog}
use Rattle.exh_paged.specs.FilesFault.{IsCauseIn, IsEarly, IsSaved}
use Rattle.exh_paged.specs.OwnLog.{HasHeader, HasOtherStamp, HasStamp, IsExpected, IsLaterThan, IsOthers, IsOwn, MustHaveFor}
use Rattle.exh_paged.proofs.CallLemmas.{if_err_more, on_ok_more}
use Rattle.exh_paged.proofs.OwnLemmas.{later_in, never_in}
use Rattle.exh_paged.proofs.expected.Expected.see.Goals as goal

-- ---- a state of the file

pub returns-in-Own-clause-expected : goal.returns-in-Own-clause-expected
returns-in-Own-clause-expected c =
    let header = c.args.header.now in
    on_ok_more c.see_own.result (IsLaterThan c.args.own header) ((image : Image) (bytes : List ℕ) → MustHaveFor c.args.self image c.args.own → HasHeader bytes header → IsExpected c.args.self image bytes)
    (λ later image bytes must there.
    let must_have = subst (λ (expected : Expected). MustHaveFor expected image c.args.own) c.in-Own.is must in
    let own : IsOwn image bytes = record { header = header; there = there; later = later_in image header c.args.own must_have later } in
    subst (λ (expected : Expected). IsExpected expected image bytes) (sym c.in-Own.is) own)
    c.see_own.ensures.own

pub returns-in-Own-clause-refused : goal.returns-in-Own-clause-refused
returns-in-Own-clause-refused c =
    let header = c.args.header.now in
    if_err_more c.see_own.result (λ fault. (fault ≡ OthersLog) × (IsLaterThan c.args.own header → ⊥)) (λ fault. (image : Image) (bytes : List ℕ) → MustHaveFor c.args.self image c.args.own → HasHeader bytes header → IsCauseIn c.args.self image bytes fault)
    (λ fault others image bytes must there.
    let must_have = subst (λ (expected : Expected). MustHaveFor expected image c.args.own) c.in-Own.is must in
    let is : IsOthers image bytes = record { header = header; there = there; never = never_in image header c.args.own must_have others.1 } in
    subst (λ (expected : Expected). IsCauseIn expected image bytes fault) (sym c.in-Own.is) (subst (λ fault. IsCauseIn Own image bytes fault) (sym others.0) (record { cause = tt; others = λ told. is })))
    c.see_own.ensures.others

pub returns-in-Own-clause-early : goal.returns-in-Own-clause-early
returns-in-Own-clause-early c =
    if_err_more c.see_own.result (λ fault. (fault ≡ OthersLog) × (IsLaterThan c.args.own c.args.header.now → ⊥)) IsEarly (λ fault others. subst IsEarly (sym others.0) tt) c.see_own.ensures.others

pub returns-in-Own-clause-unsaved : goal.returns-in-Own-clause-unsaved
returns-in-Own-clause-unsaved c =
    if_err_more c.see_own.result (λ fault. (fault ≡ OthersLog) × (IsLaterThan c.args.own c.args.header.now → ⊥)) (λ fault. IsSaved fault → ⊥) (λ fault others saved. subst IsSaved others.0 saved) c.see_own.ensures.others

-- ---- the one that has a stamp

pub returns-in-Stamp-clause-expected : goal.returns-in-Stamp-clause-expected
returns-in-Stamp-clause-expected c =
    let header = c.args.header.now in
    on_ok_more c.see_stamp.result (header.stamp ≡ c.in-Stamp.stamp) ((image : Image) (bytes : List ℕ) → MustHaveFor c.args.self image c.args.own → HasHeader bytes header → IsExpected c.args.self image bytes)
    (λ same image bytes must there.
    let has : HasStamp c.in-Stamp.stamp bytes = record { header = header; there = there; is = same } in
    subst (λ (expected : Expected). IsExpected expected image bytes) (sym c.in-Stamp.is) has)
    c.see_stamp.ensures.stamp

pub returns-in-Stamp-clause-refused : goal.returns-in-Stamp-clause-refused
returns-in-Stamp-clause-refused c =
    let header = c.args.header.now in
    if_err_more c.see_stamp.result (λ fault. (fault ≡ NotAsOpened) × (header.stamp ≡ c.in-Stamp.stamp → ⊥)) (λ fault. (image : Image) (bytes : List ℕ) → MustHaveFor c.args.self image c.args.own → HasHeader bytes header → IsCauseIn c.args.self image bytes fault)
    (λ fault other image bytes must there.
    let is : HasOtherStamp c.in-Stamp.stamp bytes = record { header = header; there = there; never = other.1 } in
    subst (λ (expected : Expected). IsCauseIn expected image bytes fault) (sym c.in-Stamp.is) (subst (λ fault. IsCauseIn (Stamp c.in-Stamp.stamp) image bytes fault) (sym other.0) (record { cause = is; others = λ told. absurd told })))
    c.see_stamp.ensures.other

pub returns-in-Stamp-clause-early : goal.returns-in-Stamp-clause-early
returns-in-Stamp-clause-early c =
    if_err_more c.see_stamp.result (λ fault. (fault ≡ NotAsOpened) × (c.args.header.now.stamp ≡ c.in-Stamp.stamp → ⊥)) IsEarly (λ fault other. subst IsEarly (sym other.0) tt) c.see_stamp.ensures.other

pub returns-in-Stamp-clause-unsaved : goal.returns-in-Stamp-clause-unsaved
returns-in-Stamp-clause-unsaved c =
    if_err_more c.see_stamp.result (λ fault. (fault ≡ NotAsOpened) × (c.args.header.now.stamp ≡ c.in-Stamp.stamp → ⊥)) (λ fault. IsSaved fault → ⊥) (λ fault other saved. subst IsSaved other.0 saved) c.see_stamp.ensures.other
