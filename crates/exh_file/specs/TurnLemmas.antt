-- Turns of a call: splits of the home, each of which makes it longer.
use Rattle.std.proofs.Common.{◌≡◌, ℕ, ◌+◌, ◌≤◌, List, ◌∷◌, subst, arith}
use Rattle.exh_prefix.specs.declared.prefix.TheConstants.{LIMIT}
use Rattle.exh_prefix.specs.PrefixListLemmas.{one_there}
use Rattle.exh_prefix.specs.Prefix.{Begins}
use Rattle.exh_notice.specs.declared.notice.Notice.{Notice}
use Rattle.exh_page.specs.declared.page.Page.TheVariants.{Live}
use Rattle.exh_ward.specs.WardState.{WardState, IsSoundWard}
use Rattle.exh_file.specs.WardChange.{AreSplits, IsSplitAway}
use Rattle.exh_file.specs.HomeLemmas.{HomesAreDeep, IsFullHome, split_deep}

-- before a turn: there were as many splits as it takes for the home to be so deep
pub record AreTurns {K : Type 0} (old : WardState K) (pseudokey turn : ℕ) (ward : WardState K) : Type 0 where
  pub splits : List (ℕ × Notice)
  pub run : AreSplits old splits ward
  pub deep : HomesAreDeep turn ward.pages pseudokey
  pub few : turn ≤ LIMIT

pub turn_over : {K : Type 0} (pseudokey_of : K → List ℕ → ℕ) (old : WardState K) (pseudokey turn : ℕ) (ward : WardState K) (at : ℕ) (new : WardState K)
    → AreTurns old pseudokey turn ward → IsSoundWard pseudokey_of ward → IsFullHome ward pseudokey at → IsSplitAway ward at new → AreTurns old pseudokey (turn + 1) new
turn_over pseudokey_of old pseudokey turn ward at new turns sound home split =
    let parted = split.1.split in
    let page = one_there ward.pages at (Live home.full.prefix home.full.link home.full.records) (Live split.0.prefix parted.link parted.records) home.full.there parted.there in
    let prefix_is : home.full.prefix ≡ split.0.prefix = cc in
    let begins = subst (λ p. Begins p pseudokey) prefix_is home.begins in
    let deep = turns.deep at split.0.prefix parted.link parted.records parted.there begins in
    record {
      splits = (at, split.0) ∷ turns.splits;
      run = (ward, turns.run, split.1);
      deep = split_deep _ ward.pages new.pages ward.cap pseudokey at turn split.1.right split.0.prefix sound.legal.legal.legal.linked parted begins turns.deep;
      few = omega (arith, deep, parted.short);
    }
