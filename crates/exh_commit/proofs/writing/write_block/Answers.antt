use Rattle.std.proofs.Common.{◌≡◌, ◌≢◌, ℕ, suc, ◌+◌, Some, ◌∙◌, ap, subst, arith}
use Rattle.sqlite_pager.specs.Pager.{visible, page_count}
use Rattle.exh_edits.specs.BlockEdits.{with_block}
use Rattle.exh_commit.specs.FilePages.{bytes_of}
use Rattle.exh_commit.specs.PagedFile.{bytes_seen}
use Rattle.exh_commit.proofs.PageLemmas.{added, put}
use Rattle.exh_commit.proofs.ImageLemmas.{counted}
use Rattle.exh_commit.proofs.writing.write_block.Goals as goal

pub returns-then-edit-count-clause-ok : goal.returns-then-edit-count-clause-ok
returns-then-edit-count-clause-ok g c is_open =
    let old = c.args.pager.now in
    let new = c.write.new.self in
    let place = c.args.edit.now.place in
    let block = c.args.edit.now.block in
    let kept = c.write.ensures.keeps.stays in
    let size = c.requires in
    let full = counted old (kept.was_open is_open) size in
    let next : place + 1 ≡ suc place = omega arith in
    let here : visible new (suc place) ≡ Some block = subst (λ (n : ℕ). visible new n ≡ Some block) next c.in_ok-write.ensures.ok in
    let others : (n : ℕ) → n ≢ suc place → visible new n ≡ visible old n = λ n other. c.write.ensures.others is_open n (λ same. other (same ∙ next)) in
    ap (λ (n : ℕ). bytes_of n (visible new)) c.write.ensures.count
    ∙ put (page_count old) place block (visible old) (visible new) full.sized (omega (arith, c.if-edit-count.true, c.page_count-count.ensures)) here others

pub returns-clause-ok : goal.returns-clause-ok
returns-clause-ok g c is_open =
    let old = c.args.pager.now in
    let new = c.append.new.self in
    let place = c.args.edit.now.place in
    let block = c.args.edit.now.block in
    let kept = c.append.ensures.keeps.stays in
    let size = c.requires in
    let full = counted old (kept.was_open is_open) size in
    let e = c.in_ok-append.ensures in
    let next : page_count old + 1 ≡ suc (page_count old) = omega arith in
    let is : c.in_ok-append.field-0 ≡ suc (page_count old) = e.page ∙ next in
    let here : visible new (suc (page_count old)) ≡ Some block = subst (λ (n : ℕ). visible new n ≡ Some block) is e.ok in
    let others : (n : ℕ) → n ≢ suc (page_count old) → visible new n ≡ visible old n = λ n other. c.append.ensures.others is_open n (λ same. other (same ∙ next)) in
    let at : page_count old ≡ place = omega (arith, c.page_count-count.ensures) in
    ap (λ (n : ℕ). bytes_of n (visible new)) (e.count.0 ∙ is)
    ∙ added (page_count old) block (visible old) (visible new) full.sized here others
    ∙ ap (λ (n : ℕ). with_block n block (bytes_seen old)) at
