use Rattle.std.proofs.Common.{ℕ, sym, ap, ◌∙◌, subst}
use Rattle.lru.specs.LruCache.{LruCache}
use Rattle.exh_page.specs.declared.page.Page.{Page}
use Rattle.exh_frames.specs.Decoded.{AreOf, KeptPages, decoded_at}
use Rattle.exh_frames.proofs.Followed.{let_go, none_beside, taken_is}
use Rattle.exh_frames.proofs.Lookups.{removed_same, removed_other}
use Rattle.exh_frames.proofs.decoded_pages.DecodedPages.take.Goals as goal

pub returns-clause-page : goal.returns-clause-page
returns-clause-page c = taken_is c.pop.result c.args.self.now c.args.number (c.pop.ensures.value ∙ ap (λ (kept : KeptPages). decoded_at c.args.number kept.recent) c.self.view_is)

pub returns-clause-others : goal.returns-clause-others
returns-clause-others c pages page are =
    let entries = c.self.inside.recent.entries in
    let number = c.args.number in
    let inside = subst (AreOf pages) (sym c.self.view_is) are in
    let gone = ap (λ (cache : LruCache ℕ Page). decoded_at number cache.entries) c.pop.ensures.entries ∙ removed_same entries number c.len-len.ensures.valid.0 in
    record {
      recent = let_go pages entries c.pop.new.self.entries number page inside.recent gone (λ other differ. ap (λ (cache : LruCache ℕ Page). decoded_at other cache.entries) c.pop.ensures.entries ∙ removed_other entries number other differ);
      beside = none_beside _;
    }

pub returns-clause-cap : goal.returns-clause-cap
returns-clause-cap c = ap (λ (cache : LruCache ℕ Page). cache.cap) c.pop.ensures.entries ∙ ap (λ (kept : KeptPages). kept.cap) c.self.view_is
