use Rattle.std.proofs.Common.{◌≡◌, ℕ, nat_eq, Option, Some, None, refl, sym, ap, ◌∙◌, subst}
use Rattle.std.specs.Prelude.{IsSome, is_some, Result, Ok, Err, IsOk, IfErr, OnOk, OnErr}
use Rattle.std.specs.Cmp.{nat_eq_equiv}
use Rattle.lru.proofs.CallerLemmas.{lookup-put_entries}
use Rattle.lru.specs.LruCache.{LruCache}
use Rattle.exh_page.specs.declared.page.Page.{Page}
use Rattle.exh_frames.specs.Decoded.{AreFound, AreOf, Decoded, KeptPages, beside_at, decoded_at, first_of}
use Rattle.exh_frames.proofs.Followed.{beside_here, kept_beside, none_beside, one_beside, same_found, some_first, some_second}
use Rattle.exh_frames.proofs.Lookups.{others-put}
use Rattle.exh_frames.proofs.decoded_pages.DecodedPages.keep.Goals as goal

-- what holds where the cache has the page, and where it was refused
case_put : {V E : Type 0} (C : Type 0) (put : Result V E) (value : E → ℕ × Page) (left : Option (ℕ × Page)) (pair : ℕ × Page) (P Q : Type 0) → (IsOk put → left ≡ None) → IfErr put (λ e. left ≡ Some (value e))
    → OnOk put P → OnErr put Q → IfErr put (λ e. value e ≡ pair) → (left ≡ None → P → C) → (left ≡ Some pair → Q → C) → C
case_put C (Ok v) value left pair P Q ok err stands same given kept refused = kept (ok refl) stands
case_put C (Err e) value left pair P Q ok err stands same given kept refused = refused (err ∙ ap Some given) same

pub returns-clause-at : goal.returns-clause-at
returns-clause-at c =
    let number : ℕ = c.args.number in
    let page : Page = c.args.page in
    let entries : Decoded = c.put-put.new.self.entries in
    case_put (IsSome (first_of (decoded_at number entries) (beside_at number c.refused_of.result))) c.put-put.result _ c.refused_of.result (number, page) _ _ c.refused_of.ensures.ok c.refused_of.ensures.err
    c.put-put.ensures.entries c.put-put.ensures.err c.put-put.ensures.value_returned
    (λ none stands. some_first (decoded_at number entries) (beside_at number c.refused_of.result)
    (ap is_some (ap (λ (cache : LruCache ℕ Page). decoded_at number cache.entries) stands ∙ lookup-put_entries nat_eq c.self.inside.recent number page nat_eq_equiv)))
    (λ some same. subst (λ (other : Option (ℕ × Page)). IsSome (first_of (decoded_at number entries) (beside_at number other))) (sym some)
    (subst (λ (other : Option Page). IsSome (first_of (decoded_at number entries) other)) (sym (beside_here number page)) (some_second (decoded_at number entries) page)))

pub returns-clause-pages : goal.returns-clause-pages
returns-clause-pages c pages there are =
    let number : ℕ = c.args.number in
    let page : Page = c.args.page in
    let old : Decoded = c.self.inside.recent.entries in
    let entries : Decoded = c.put-put.new.self.entries in
    let after : KeptPages = record { recent = entries; beside = c.refused_of.result; cap = c.put-put.new.self.cap } in
    let inside = subst (AreOf pages) (sym c.self.view_is) are in
    case_put (AreOf pages after) c.put-put.result _ c.refused_of.result (number, page) _ _ c.refused_of.ensures.ok c.refused_of.ensures.err c.put-put.ensures.entries c.put-put.ensures.err c.put-put.ensures.value_returned
    (λ none stands. record {
      recent = kept_beside pages old entries number page inside.recent there
          (ap (λ (cache : LruCache ℕ Page). decoded_at number cache.entries) stands ∙ lookup-put_entries nat_eq c.self.inside.recent number page nat_eq_equiv)
          (λ other found differ is. others-put c.self.inside.recent number page other found differ (sym (ap (λ (cache : LruCache ℕ Page). decoded_at other cache.entries) stands) ∙ is));
      beside = subst (λ (left : Option (ℕ × Page)). AreFound pages (λ (n : ℕ). beside_at n left)) (sym none) (none_beside pages);
    })
    (λ some same. record {
      recent = same_found pages old entries (λ n. ap (λ (cache : LruCache ℕ Page). decoded_at n cache.entries) same) inside.recent;
      beside = subst (λ (left : Option (ℕ × Page)). AreFound pages (λ (n : ℕ). beside_at n left)) (sym some) (one_beside pages number page there);
    })

pub returns-clause-cap : goal.returns-clause-cap
returns-clause-cap c =
    case_put (c.put-put.new.self.cap ≡ c.args.self.now.cap) c.put-put.result _ c.refused_of.result (c.args.number, c.args.page) _ _ c.refused_of.ensures.ok c.refused_of.ensures.err
    c.put-put.ensures.entries c.put-put.ensures.err c.put-put.ensures.value_returned
    (λ none stands. ap (λ (cache : LruCache ℕ Page). cache.cap) stands ∙ ap (λ (kept : KeptPages). kept.cap) c.self.view_is)
    (λ some same. ap (λ (cache : LruCache ℕ Page). cache.cap) same ∙ ap (λ (kept : KeptPages). kept.cap) c.self.view_is)
