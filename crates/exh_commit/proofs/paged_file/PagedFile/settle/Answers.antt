use Rattle.std.proofs.Common.{◌≡◌, [], refl, sym, ◌∙◌}
use Rattle.sqlite_wal.proofs.StateLemmas.{open_from}
use Rattle.sqlite_pager.specs.Pager.{state, visible}
use Rattle.exh_commit.specs.PagedFile.{bytes_seen}
use Rattle.exh_commit.proofs.ImageLemmas.{alone, both_on_ok, kept_leaves, seen_once, stands_seen}
use Rattle.exh_commit.proofs.paged_file.PagedFile.settle.Goals as goal

pub returns-clause-crash : goal.returns-clause-crash
returns-clause-crash g c =
    let old = c.args.self.now in
    kept_leaves old.pager c.checkpoint.new.self (λ bytes. bytes ≡ bytes_seen old.pager) c.checkpoint.ensures.keeps c.requires old.sized old.seen g.met.D.Disk.seen_may_stay refl

pub returns-clause-alone : goal.returns-clause-alone
returns-clause-alone g c =
    let old = c.args.self.now in
    let new = c.checkpoint.new.self in
    let e = c.checkpoint.ensures in
    both_on_ok c.checkpoint.result _ _ _ e.open e.moved (λ ready moved left clean may.
    let is_open = open_from (state new) ready clean in
    let was = e.keeps.stays.was_open is_open in
    let size : (state new).page_size ≡ 4096 = e.keeps.stays.size ∙ old.sized in
    let same : visible new ≡ (state new).committed = e.pages is_open ∙ old.seen was ∙ sym (e.keeps.committed is_open) in
    let moved_all = alone new is_open (moved (old.logged c.requires)) left (clean, may) in
    (bytes_seen new, stands_seen new (state new).page_size (record { log = []; db = left.db }) (state new).committed is_open size size same moved_all, seen_once old.pager new was old.sized is_open size (e.pages is_open)))
