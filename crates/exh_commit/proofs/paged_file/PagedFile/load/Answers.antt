use Rattle.std.proofs.Common.{◌≡◌, ℕ, suc, Some, refl, ◌∙◌, subst, arith}
use Rattle.sqlite_wal.proofs.StateLemmas.{open_from}
use Rattle.sqlite_pager.specs.Pager.{current, page_count, state, visible}
use Rattle.exh_commit.specs.PagedFile.{bytes_seen}
use Rattle.exh_commit.proofs.PageLemmas.{read_at}
use Rattle.exh_commit.proofs.ImageLemmas.{counted, kept_leaves, ready_leaves}
use Rattle.exh_commit.proofs.paged_file.PagedFile.load.Goals as goal

pub returns-clause-block : goal.returns-clause-block
returns-clause-block g c ready clean =
    let old = c.args.self.now in
    let was = open_from (state old.pager) ready (c.load.ensures.keeps.stays.clean clean) in
    let next : c.in-Some.page ≡ suc c.args.place = omega (arith, c.in-Some.ensures) in
    let is : visible old.pager (suc c.args.place) ≡ Some (current c.load.new.self) = subst (λ (n : ℕ). visible old.pager n ≡ Some (current c.load.new.self)) next (c.in_ok-load.ensures.ok clean) in
    let found = read_at (page_count old.pager) c.args.place (current c.load.new.self) (visible old.pager) (counted old.pager was old.sized) is in
    let copied : c.copy_from_slice.new.self ≡ current c.load.new.self = c.copy_from_slice.ensures.after ∙ c.loaded.ensures.value in
    (found.0, copied ∙ found.1)

pub returns-in_default-clause-crash : goal.returns-in_default-clause-crash
returns-in_default-clause-crash g c ready =
    let old = c.args.self.now in
    ready_leaves old.pager (λ bytes. bytes ≡ bytes_seen old.pager) ready old.sized old.seen g.met.D.Disk.seen_may_stay (λ is_open. refl)

pub returns-in_err-load-clause-crash : goal.returns-in_err-load-clause-crash
returns-in_err-load-clause-crash g c ready =
    let old = c.args.self.now in
    kept_leaves old.pager c.load.new.self (λ bytes. bytes ≡ bytes_seen old.pager) c.load.ensures.keeps ready old.sized old.seen g.met.D.Disk.seen_may_stay refl

pub returns-clause-crash : goal.returns-clause-crash
returns-clause-crash g c ready =
    let old = c.args.self.now in
    kept_leaves old.pager c.load.new.self (λ bytes. bytes ≡ bytes_seen old.pager) c.load.ensures.keeps ready old.sized old.seen g.met.D.Disk.seen_may_stay refl
