use Rattle.std.proofs.Common.{ℕ, List}
use Rattle.sqlite_wal.specs.Recovery.{Image}
use Rattle.exh_commit.specs.PagedFile.{IsHonest, bytes_in}
use Rattle.exh_paged.specs.FilesFault.{IsCauseIn}
use Rattle.exh_paged.specs.OwnLog.{HasHeader, IsExpected, MustHaveFor}
use Rattle.exh_paged.proofs.CallLemmas.{if_err_more, on_ok_more}
use Rattle.exh_paged.proofs.opening.see_expected.Goals as goal

pub returns-in-Ok-clause-expected : goal.returns-in-Ok-clause-expected
returns-in-Ok-clause-expected g c =
    let old = bytes_in c.args.file.now in
    on_ok_more c.see.result ((image : Image) (bytes : List ℕ) → MustHaveFor c.args.expected image c.args.own → HasHeader bytes c.in-Ok.header → IsExpected c.args.expected image bytes) (IsHonest c.header_in.new.file → (image : Image) → MustHaveFor c.args.expected image c.args.own → IsExpected c.args.expected image old)
    (λ holds honest image must. holds image old must (c.in-Ok.ensures.header honest)) c.see.ensures.expected

pub returns-in-Ok-clause-refused : goal.returns-in-Ok-clause-refused
returns-in-Ok-clause-refused g c =
    let old = bytes_in c.args.file.now in
    if_err_more c.see.result (λ fault. (image : Image) (bytes : List ℕ) → MustHaveFor c.args.expected image c.args.own → HasHeader bytes c.in-Ok.header → IsCauseIn c.args.expected image bytes fault) (λ fault. IsHonest c.header_in.new.file → (image : Image) → MustHaveFor c.args.expected image c.args.own → IsCauseIn c.args.expected image old fault)
    (λ fault holds honest image must. holds image old must (c.in-Ok.ensures.header honest)) c.see.ensures.refused

pub returns-in-Err-clause-refused : goal.returns-in-Err-clause-refused
returns-in-Err-clause-refused g c honest image must = record { cause = c.in-Err.ensures.refused c.args.expected honest; others = λ told. absurd (c.in-Err.ensures.others told) }
