-- A page file in memory that has what its log had.
use Rattle.std.specs.Prelude.{ℕ, List, []}
use Rattle.exh_paged.specs.FilePages.{StandsFor}
use Rattle.exh_paged.specs.OwnLog.{IsExpected}
use Rattle.exh_paged.specs.declared.expected.Expected.{Expected}

-- what a file and its log stand for, these bytes stand for without a log
abbrev pub StandsAlone : List ℕ → List ℕ → List ℕ → Type 0
StandsAlone log db bytes = (old : List ℕ) → StandsFor (record { log = log; db = db }) old → StandsFor (record { log = []; db = bytes }) old

-- what a file and its log stand for is in the state that is expected
abbrev pub IsOfExpected : Expected → List ℕ → List ℕ → Type 0
IsOfExpected expected log db = (old : List ℕ) → StandsFor (record { log = log; db = db }) old → IsExpected expected (record { log = log; db = db }) old
