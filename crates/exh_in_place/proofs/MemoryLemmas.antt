-- A file and its log that are put together.
use Rattle.std.proofs.Common.{◌≡◌, ℕ, List, [], ◌&&◌, IsTrue, sym, subst}
use Rattle.sqlite_disk.specs.declared.Disk.{Ghosts}
use Rattle.exh_paged.specs.FilePages.{LeavesAlone, StandsFor}
use Rattle.exh_paged.specs.OwnLog.{IsExpected}
use Rattle.exh_paged.specs.declared.expected.Expected.{Expected}

-- what a crash at this moment leaves the file has now
pub alone_now : {D : Type 0} (g : Ghosts D) (files : D × D) (old : List ℕ) → IsTrue (g.is_clean files.0 && g.is_clean files.1) → g.may_leave files.0 (g.seen files.0) → g.may_leave files.1 (g.seen files.1) → LeavesAlone g files (λ bytes. bytes ≡ old) → StandsFor (record { log = []; db = g.seen files.1 }) old
alone_now g files old clean log db all =
    let (bytes, stands, is) = all (record { log = g.seen files.0; db = g.seen files.1 }) clean (log, db) in
    subst (λ (it : List ℕ). StandsFor (record { log = []; db = g.seen files.1 }) it) is stands

pub stands_as : (log db seen_log seen_db old : List ℕ) → seen_log ≡ log → seen_db ≡ db → StandsFor (record { log = log; db = db }) old → StandsFor (record { log = seen_log; db = seen_db }) old
stands_as log db seen_log seen_db old same_log same_db found =
    subst (λ (it : List ℕ). StandsFor (record { log = it; db = seen_db }) old) (sym same_log) (subst (λ (it : List ℕ). StandsFor (record { log = log; db = it }) old) (sym same_db) found)

pub expected_as : (expected : Expected) (log db seen_log seen_db old : List ℕ) → seen_log ≡ log → seen_db ≡ db → IsExpected expected (record { log = seen_log; db = seen_db }) old → IsExpected expected (record { log = log; db = db }) old
expected_as expected log db seen_log seen_db old same_log same_db is =
    subst (λ (it : List ℕ). IsExpected expected (record { log = log; db = it }) old) same_db (subst (λ (it : List ℕ). IsExpected expected (record { log = it; db = seen_db }) old) same_log is)
