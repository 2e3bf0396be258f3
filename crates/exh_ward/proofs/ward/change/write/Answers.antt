use Rattle.std.proofs.Common.{ℕ, get_or, Result, Ok, Err, OnOk, sym, ap, ◌∙◌, subst}
use Rattle.std.proofs.lemmas.Option.{slice_get-get_or}
use Rattle.exh_notice.specs.declared.entry.Kind.{Kind}
use Rattle.exh_notice.specs.declared.entry.Kind.TheVariants.{Split}
use Rattle.exh_page.specs.Halves.{left_half}
use Rattle.exh_ward.specs.Told.{FitChange, page_changed, pages_changed, twin_changed}
use Rattle.exh_ward.proofs.ward.change.write.Goals as goal

on_ok : {T E : Type 0} (r : Result T E) (P Q : Type 0) → (P → Q) → OnOk r P → OnOk r Q
on_ok (Ok value) P Q follows holds = follows holds
on_ok (Err fault) P Q follows holds = tt

-- ---- a split

pub split_into-requires-clause-divisible : goal.split_into-requires-clause-divisible
split_into-requires-clause-divisible g c page is =
    let pages = g.P.Pages.pages c.args.store.now in
    let twin = get_or pages c.args.other page in
    let F : Kind → Type 0 = λ kind. FitChange kind c.args.other page twin in
    (subst F c.in-Split.is (c.requires.fit page is twin (slice_get-get_or pages c.args.other page c.requires.other_there))).0

pub split_into-requires-clause-taken : goal.split_into-requires-clause-taken
split_into-requires-clause-taken g c page is =
    let pages = g.P.Pages.pages c.args.store.now in
    let takes = g.P.Pages.takes c.args.store.now in
    let twin = get_or pages c.args.other page in
    let twin_is = slice_get-get_or pages c.args.other page c.requires.other_there in
    let F : Kind → Type 0 = λ kind. FitChange kind c.args.other page twin in
    let T : Kind → Type 0 = λ kind. takes (page_changed kind c.args.prefix page twin) in
    let R : ℕ → Type 0 = λ right. takes (left_half right page) in
    subst R (subst F c.in-Split.is (c.requires.fit page is twin twin_is)).1 (subst T c.in-Split.is (c.requires.taken page is twin twin_is))

pub split_into-requires-clause-right_taken : goal.split_into-requires-clause-right_taken
split_into-requires-clause-right_taken g c page is =
    let pages = g.P.Pages.pages c.args.store.now in
    let twin = get_or pages c.args.other page in
    let T : Kind → Type 0 = λ kind. g.P.Pages.takes c.args.store.now (twin_changed kind c.args.number page twin) in
    subst T c.in-Split.is (c.requires.twin_taken page is twin (slice_get-get_or pages c.args.other page c.requires.other_there))

pub returns-in-Split-clause-ok : goal.returns-in-Split-clause-ok
returns-in-Split-clause-ok g c =
    let pages = g.P.Pages.pages c.args.store.now in
    on_ok c.split_into.result _ _
    (λ split page is twin twin_is.
    let F : Kind → Type 0 = λ kind. FitChange kind c.args.other page twin in
    let right_is = (subst F c.in-Split.is (c.requires.fit page is twin twin_is)).1 in
    split page is ∙ ap (λ kind. pages_changed kind c.args.prefix c.args.number c.args.other page twin pages) (sym (c.in-Split.is ∙ ap Split right_is)))
    c.split_into.ensures.ok

-- ---- a merge

pub merge-requires-clause-live : goal.merge-requires-clause-live
merge-requires-clause-live g c page is =
    let pages = g.P.Pages.pages c.args.store.now in
    let twin = get_or pages c.args.other page in
    let F : Kind → Type 0 = λ kind. FitChange kind c.args.other page twin in
    (subst F c.in-Merge.is (c.requires.fit page is twin (slice_get-get_or pages c.args.other page c.requires.other_there))).0

pub merge-requires-clause-buddy_live : goal.merge-requires-clause-buddy_live
merge-requires-clause-buddy_live g c twin is =
    let pages = g.P.Pages.pages c.args.store.now in
    let page = get_or pages c.args.number twin in
    let F : Kind → Type 0 = λ kind. FitChange kind c.args.other page twin in
    (subst F c.in-Merge.is (c.requires.fit page (slice_get-get_or pages c.args.number twin c.requires.there) twin is)).1

pub merge-requires-clause-rising : goal.merge-requires-clause-rising
merge-requires-clause-rising g c page is twin twin_is =
    let F : Kind → Type 0 = λ kind. FitChange kind c.args.other page twin in
    (subst F c.in-Merge.is (c.requires.fit page is twin twin_is)).2

pub merge-requires-clause-taken : goal.merge-requires-clause-taken
merge-requires-clause-taken g c page is twin twin_is =
    let T : Kind → Type 0 = λ kind. g.P.Pages.takes c.args.store.now (page_changed kind c.args.prefix page twin) in
    subst T c.in-Merge.is (c.requires.taken page is twin twin_is)

pub merge-requires-clause-sent_taken : goal.merge-requires-clause-sent_taken
merge-requires-clause-sent_taken g c twin is =
    let pages = g.P.Pages.pages c.args.store.now in
    let page = get_or pages c.args.number twin in
    let T : Kind → Type 0 = λ kind. g.P.Pages.takes c.args.store.now (twin_changed kind c.args.number page twin) in
    subst T c.in-Merge.is (c.requires.twin_taken page (slice_get-get_or pages c.args.number twin c.requires.there) twin is)
