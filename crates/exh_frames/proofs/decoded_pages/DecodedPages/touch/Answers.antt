use Rattle.std.proofs.Common.{◌≡◌, ℕ, true, sym, ap, ◌∙◌, subst}
use Rattle.std.specs.Prelude.{is_some}
use Rattle.lru.specs.LruCache.{LruCache}
use Rattle.exh_page.specs.declared.page.Page.{Page}
use Rattle.exh_frames.specs.Decoded.{AreOf, KeptPages, beside_at, decoded_at, kept_at}
use Rattle.exh_frames.proofs.Followed.{is_first, none_beside, same_found, some_first}
use Rattle.exh_frames.proofs.Lookups.{lookup-promoted}
use Rattle.exh_frames.proofs.decoded_pages.DecodedPages.touch.Goals as goal

pub returns-then-promote-clause-there : goal.returns-then-promote-clause-there
returns-then-promote-clause-there c =
    let entries = c.self.inside.recent.entries in
    let some : is_some (decoded_at c.args.number entries) ≡ true = sym c.promote.ensures.value ∙ c.if-promote.true in
    sym (is_first (decoded_at c.args.number entries) (beside_at c.args.number c.self.inside.beside) some) ∙ ap (λ (kept : KeptPages). is_some (kept_at c.args.number kept)) c.self.view_is

pub returns-then-promote-clause-at : goal.returns-then-promote-clause-at
returns-then-promote-clause-at c held =
    let entries = c.self.inside.recent.entries in
    let number = c.args.number in
    let same : decoded_at number c.promote.new.self.entries ≡ decoded_at number entries = ap (λ (cache : LruCache ℕ Page). decoded_at number cache.entries) c.promote.ensures.entries ∙ lookup-promoted entries number number in
    some_first (decoded_at number c.promote.new.self.entries) _ (ap is_some same ∙ sym c.promote.ensures.value ∙ c.if-promote.true)

pub returns-then-promote-clause-pages : goal.returns-then-promote-clause-pages
returns-then-promote-clause-pages c pages are =
    let entries = c.self.inside.recent.entries in
    let inside = subst (AreOf pages) (sym c.self.view_is) are in
    record {
      recent = same_found pages entries c.promote.new.self.entries (λ n. ap (λ (cache : LruCache ℕ Page). decoded_at n cache.entries) c.promote.ensures.entries ∙ lookup-promoted entries c.args.number n) inside.recent;
      beside = none_beside pages;
    }

pub returns-clause-pages : goal.returns-clause-pages
returns-clause-pages c pages are =
    let entries = c.self.inside.recent.entries in
    let inside = subst (AreOf pages) (sym c.self.view_is) are in
    record {
      recent = same_found pages entries c.promote.new.self.entries (λ n. ap (λ (cache : LruCache ℕ Page). decoded_at n cache.entries) c.promote.ensures.entries ∙ lookup-promoted entries c.args.number n) inside.recent;
      beside = inside.beside;
    }

pub returns-then-promote-clause-cap : goal.returns-then-promote-clause-cap
returns-then-promote-clause-cap c = ap (λ (cache : LruCache ℕ Page). cache.cap) c.promote.ensures.entries ∙ ap (λ (kept : KeptPages). kept.cap) c.self.view_is

pub returns-clause-cap : goal.returns-clause-cap
returns-clause-cap c = ap (λ (cache : LruCache ℕ Page). cache.cap) c.promote.ensures.entries ∙ ap (λ (kept : KeptPages). kept.cap) c.self.view_is
