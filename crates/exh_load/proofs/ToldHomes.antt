-- Turns of a put, at the page that a directory of all the ward's notices names.
use Rattle.std.proofs.Common.{◌≡◌, ℕ, ◌+◌, ◌<◌, ◌^◌, List, ap, ◌∙◌}
use Rattle.exh_prefix.specs.Prefix.{Begins}
use Rattle.exh_array.specs.Pointers.{DirectoryState}
use Rattle.exh_table.specs.Table.{TableMap}
use Rattle.exh_table.specs.TableWalk.{walk_of}
use Rattle.exh_legal.specs.LegalLaws.{WalksNameHomes}
use Rattle.exh_ward.specs.WardState.{WardState, IsSoundWard, own_prefix}
use Rattle.exh_file.specs.HomeLemmas.{IsFullHome, home_named}
use Rattle.exh_file.specs.TurnLemmas.{AreTurns, turn_over}
use Rattle.exh_file.specs.WardChange.{IsHomeAt, IsSplitAway}
use Rattle.exh_load.specs.Put.{IsDirectoryOf}

module _ {K : Type 0} (pseudokey_of : K → List ℕ → ℕ) (ward : WardState K) (directory : DirectoryState) (pseudokey at : ℕ) (walks : WalksNameHomes) (sound : IsSoundWard pseudokey_of ward)
    (told : IsDirectoryOf ward directory) (small : pseudokey < 2 ^ 64) (covered : Begins (own_prefix ward) pseudokey) (at_is : at ≡ (walk_of directory.table directory.pointers.ward_bits pseudokey).page) where
  pub told_home : IsHomeAt ward.pages pseudokey at
  told_home =
      home_named pseudokey_of ward pseudokey sound (walks ward.cap (pseudokey_of ward.keyer) (own_prefix ward) ward.start ward.notices ward.table ward.pages pseudokey sound.legal small covered) at covered
      (at_is ∙ ap (λ (table : TableMap). (walk_of table directory.pointers.ward_bits pseudokey).page) told.table ∙ ap (λ (bits : ℕ). (walk_of ward.table bits pseudokey).page) told.bits)

-- before a turn: the splits so far, and a directory that was told of them
pub record AreToldTurns {K : Type 0} (old : WardState K) (pseudokey turn : ℕ) (ward : WardState K) (directory : DirectoryState) : Type 0 where
  pub turns : AreTurns old pseudokey turn ward
  pub told : IsDirectoryOf ward directory

pub told_turn_over : {K : Type 0} (pseudokey_of : K → List ℕ → ℕ) (old : WardState K) (pseudokey turn : ℕ) (ward : WardState K) (directory : DirectoryState) (at : ℕ) (new : WardState K) (after : DirectoryState)
    → AreToldTurns old pseudokey turn ward directory → IsSoundWard pseudokey_of ward → IsFullHome ward pseudokey at → IsSplitAway ward at new → IsDirectoryOf new after
    → AreToldTurns old pseudokey (turn + 1) new after
told_turn_over pseudokey_of old pseudokey turn ward directory at new after turns sound home split told = record { turns = turn_over pseudokey_of old pseudokey turn ward at new turns.turns sound home split; told = told }
