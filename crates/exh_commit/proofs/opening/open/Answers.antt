use Rattle.std.proofs.Common.{◌≡◌, ℕ, refl, sym, ◌∙◌, subst, inl, inr}
use Rattle.sqlite_disk.specs.declared.Disk.{Ghosts}
use Rattle.sqlite_wal.specs.Files.{outcomes, seen_image}
use Rattle.sqlite_wal.specs.Recovery.{KeepsImage, Recovers, RecoversAs}
use Rattle.sqlite_pager.specs.declared.pager.Pager.{Pager}
use Rattle.sqlite_pager.specs.Pager.{files, image, state}
use Rattle.exh_commit.specs.FilePages.{LeavesAsFound}
use Rattle.exh_commit.specs.PagedFile.{bytes_seen}
use Rattle.exh_commit.proofs.ImageLemmas.{leaves, leaves_seen, stands_once, stands_seen}
use Rattle.exh_commit.proofs.opening.open.Goals as goal

as_found : {D : Type 0} {g : Ghosts D} (it new : Pager D g) (log db : D) → files it ≡ (log, db) → (state it).page_size ≡ 4096 → KeepsImage (state it).page_size (image it) (state it).may_leave (state new).may_leave → LeavesAsFound g (log, db) (files new)
as_found {D} {g} it new log db are size keeps left clean may =
    elim (keeps left (clean, may)) [
      | inl before ↦ inl (subst (λ (pair : D × D). outcomes g pair.0 pair.1 left) are before.1)
      | inr found ↦
          let of_files : RecoversAs (state it).page_size (seen_image g log db) left = subst (λ (pair : D × D). RecoversAs (state it).page_size (seen_image g pair.0 pair.1) left) are found in
          inr (subst (λ (n : ℕ). RecoversAs n (seen_image g log db) left) size of_files)
    ]

pub returns-in-Err-recover-clause-given_back : goal.returns-in-Err-recover-clause-given_back
returns-in-Err-recover-clause-given_back g c =
    let it = c.in-Ok.pager in
    let new = c.recover.new.self in
    let size : (state it).page_size ≡ 4096 = c.in-Ok.ensures.size ∙ c.in-Some.ensures.value in
    let kept = as_found it new c.args.files.log c.args.files.db c.in-Ok.ensures.files size c.recover.ensures.outcomes in
    subst (λ (pair : _ × _). LeavesAsFound g.D.Disk (c.args.files.log, c.args.files.db) pair) (sym c.close.ensures) kept

pub returns-clause-kept : goal.returns-clause-kept
returns-clause-kept g c =
    let size : (state c.in-Ok.pager).page_size ≡ 4096 = c.in-Ok.ensures.size ∙ c.in-Some.ensures.value in
    as_found c.in-Ok.pager c.recover.new.self c.args.files.log c.args.files.db c.in-Ok.ensures.files size c.recover.ensures.outcomes

pub returns-clause-found : goal.returns-clause-found
returns-clause-found g c clean =
    let it = c.in-Ok.pager in
    let new = c.recover.new.self in
    let size : (state it).page_size ≡ 4096 = c.in-Ok.ensures.size ∙ c.in-Some.ensures.value in
    let fresh = c.in_default-recover.ensures.clean clean in
    let was : Recovers (state it).page_size (seen_image g.D.Disk c.args.files.log c.args.files.db) (state new).committed =
    subst (λ (pair : _ × _). Recovers (state it).page_size (seen_image g.D.Disk pair.0 pair.1) (state new).committed) c.in-Ok.ensures.files (c.in_default-recover.ensures.found clean) in
    stands_seen new (state it).page_size (seen_image g.D.Disk c.args.files.log c.args.files.db) (state new).committed fresh.0 (c.recover.ensures.size ∙ size) size fresh.1 was

pub returns-clause-settled : goal.returns-clause-settled
returns-clause-settled g c left clean may =
    let new = c.recover.new.self in
    let size : (state new).page_size ≡ 4096 = c.recover.ensures.size ∙ (c.in-Ok.ensures.size ∙ c.in-Some.ensures.value) in
    let fresh = c.in_default-recover.ensures.clean clean in
    leaves new (λ bytes. bytes ≡ bytes_seen new) size (leaves_seen new (λ bytes. bytes ≡ bytes_seen new) fresh.0 size fresh.1 g.met.D.Disk.seen_may_stay refl) left clean may

pub returns-clause-one : goal.returns-clause-one
returns-clause-one g c clean old found =
    stands_once (seen_image g.D.Disk c.args.files.log c.args.files.db) (bytes_seen c.recover.new.self) old (returns-clause-found g c clean) found
