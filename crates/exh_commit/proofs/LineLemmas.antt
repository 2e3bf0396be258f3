-- The headers that the frames of a log have.
use Rattle.std.proofs.Common.{◌≡◌, ◌≢◌, inl, inr, ◌==◌, ℕ, suc, Bool, true, false, if◌then◌else◌, List, [], ◌∷◌, ◌++◌, sym, ◌∙◌, ap, subst, append-nil}
use Rattle.std.specs.Prelude.{⊤}
use Rattle.std.proofs.lemmas.Bool.{cond-true, cond-false, eq-eqb, ne_eqb}
use Rattle.sqlite_disk.specs.declared.Disk.{Ghosts}
use Rattle.sqlite_wal.specs.Format.{page_number, content}
use Rattle.sqlite_wal.specs.Reads.{OnlyReads}
use Rattle.sqlite_wal.specs.declared.error.Error.{Error}
use Rattle.sqlite_wal.specs.declared.error.Error.TheVariants.{Corrupt}
use Rattle.sqlite_wal.specs.Opening.{RefusesLog}
use Rattle.sqlite_wal.specs.Recovery.{Replays, frame}
use Rattle.sqlite_wal.proofs.RecoveryLemmas.{replays_once}
use Rattle.exh_commit.specs.LogLine.{AreStatesOf, IsOfStates, before_in, field_at, fields_of, stamp_in}

-- ---- what a field says in one more frame

more_if : (b : Bool) (x : ℕ) (read : List ℕ) → b ≡ true → read ++ x ∷ [] ≡ read ++ (if b then x ∷ [] else [])
more_if b x read is = ap (λ (last : List ℕ). read ++ last) (sym (cond-true b (x ∷ []) [] is))

same_if : (b : Bool) (x : ℕ) (read : List ℕ) → b ≡ false → read ≡ read ++ (if b then x ∷ [] else [])
same_if b x read is = sym (ap (λ (last : List ℕ). read ++ last) (cond-false b (x ∷ []) [] is) ∙ append-nil read)

pub field_more : (field : List ℕ → ℕ) (log block read : List ℕ) (i : ℕ) → page_number (frame 4096 log i) ≡ 1 → content (frame 4096 log i) ≡ block → read ++ field block ∷ [] ≡ read ++ field_at field log i
field_more field log block read i first is =
    ap (λ (block : List ℕ). read ++ field block ∷ []) (sym is)
    ∙ more_if (page_number (frame 4096 log i) == 1) (field (content (frame 4096 log i))) read (eq-eqb (page_number (frame 4096 log i)) 1 first)

pub field_none : (field : List ℕ → ℕ) (log read : List ℕ) (i : ℕ) → page_number (frame 4096 log i) ≢ 1 → read ≡ read ++ field_at field log i
field_none field log read i other =
    same_if (page_number (frame 4096 log i) == 1) (field (content (frame 4096 log i))) read (ne_eqb (page_number (frame 4096 log i)) 1 other)

-- of a log that is read frame by frame
pub fields_more : (field : List ℕ → ℕ) (log again old new : List ℕ) (i : ℕ) → again ≡ log → old ≡ fields_of field log i → new ≡ old ++ field_at field again i → new ≡ fields_of field log (suc i)
fields_more field log again old new i same before more =
    more ∙ ap (λ (bytes : List ℕ). old ++ field_at field bytes i) same ∙ ap (λ (read : List ℕ). read ++ field_at field log i) before

pub reads_more : {D : Type 0} (g : Ghosts D) (old mid new : D) → OnlyReads g old mid → OnlyReads g mid new → OnlyReads g old new
reads_more g old mid new first second = record {
  seen = second.seen ∙ first.seen;
  clean = λ clean. first.clean (second.clean clean);
  usable = second.usable;
  key = second.key ∙ first.key;
  rot = second.rot ∙ first.rot;
  crash = λ left may. first.crash left (second.crash left may);
}

-- ---- what was read of the frames tells what holds of the states

module _ (log stamps befores : List ℕ) (holds : List ℕ → List ℕ → Type 0) (are : AreStatesOf log stamps befores) where
  pub states_if : holds stamps befores → IsOfStates log holds
  states_if it = record {
    long = are.long;
    frames = are.frames;
    replays = are.replays;
    is = subst (λ (stamps : List ℕ). holds stamps (fields_of before_in log are.frames)) are.stamps_are (subst (holds stamps) are.befores_are it);
  }

  pub states_of : IsOfStates log holds → holds stamps befores
  states_of it =
      let same : it.frames ≡ are.frames = replays_once 4096 log it.frames are.frames it.replays are.replays in
      let stamps_same : fields_of stamp_in log it.frames ≡ stamps = ap (fields_of stamp_in log) same ∙ sym are.stamps_are in
      let befores_same : fields_of before_in log it.frames ≡ befores = ap (fields_of before_in log) same ∙ sym are.befores_are in
      subst (λ (stamps : List ℕ). holds stamps befores) stamps_same (subst (holds (fields_of stamp_in log it.frames)) befores_same it.is)

-- ---- a log that recovery refuses has no states

abbrev is_corrupt : Error → Type 0
is_corrupt Corrupt = ⊤
is_corrupt error = ⊥

pub none_replays : (log : List ℕ) → RefusesLog 4096 log Corrupt → (frames : ℕ) → Replays 4096 log frames → ⊥
none_replays log (inl none) frames replays = none.1 frames replays
none_replays log (inr full) frames replays = subst is_corrupt full.0 tt
