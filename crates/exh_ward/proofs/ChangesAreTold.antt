-- A change of a ward's pages with its notice: what is kept of the fields, and what an undone change leaves.
use Rattle.std.proofs.Common.{◌≡◌, ℕ, zero, suc, ◌+◌, ◌<◌, Bool, true, false, cond, List, [], ◌∷◌, ◌++◌, length, slice_get, Option, None, Some, Result, Ok, Err, IfOk, IfErr, OnOk, ◌-◌, ◌^◌, inl, inr, ◌↔◌, IsSome, refl, sym, ap, ◌∙◌, subst, arith, nat_cmp}
use Rattle.std.specs.FinMap as fin
use Rattle.std.specs.Ordering.{is_eq, eq_by_cmp}
use Rattle.std.proofs.lemmas.Bool.{cases_lt, cases_Bool, false≢true}
use Rattle.std.proofs.lemmas.Cmp.{nat_cmp_total, tied_itself}
use Rattle.std.proofs.lemmas.List.{length-append}
use Rattle.std.proofs.lemmas.Option.{slice_get_within}
use Rattle.exh_prefix.specs.Prefix.{prefix_cmp}
use Rattle.exh_prefix.specs.PrefixLemmas.{prefix_cmp-total, prefix_cmp-exact}
use Rattle.exh_prefix.specs.PrefixListLemmas.{one_there, at_front, at_last, is_equal}
use Rattle.exh_notice.specs.declared.entry.Entry.{Entry}
use Rattle.exh_notice.specs.declared.entry.Kind.{Kind}
use Rattle.exh_notice.specs.declared.notice.Notice.{Notice}
use Rattle.exh_notice.specs.Entry.{entry_of}
use Rattle.exh_legal.specs.Table.{TableMap, greater_of, entry_number, table_with, table_at, raised, entry_after}
use Rattle.exh_legal.specs.SetLemmas.{IsTableSince-push}
use Rattle.exh_page.specs.declared.page.Page.{Page}
use Rattle.exh_page.specs.Page.{low_bound}
use Rattle.exh_legal.specs.Growth.{IsPageOf}
use Rattle.exh_legal.specs.LegalLaws.{KeepsPlaces}
use Rattle.exh_legal.specs.NoticeLemmas.{one_true_more, still_true}
use Rattle.exh_legal.specs.ChangeNumbers.{index_of, AreNumbered, next_notice, number_at}
use Rattle.exh_legal.specs.Pages.{IsAt, bare}
use Rattle.exh_legal.specs.LegalPlaceLemmas.{page_full, page_bare}
use Rattle.exh_ward.specs.WardKept.{IsKeptWard}
use Rattle.exh_legal.specs.PageIndex.{IndexMap, IsIndexOf}
use Rattle.exh_ward.specs.Told.{IsChangedTo, IsNextNotice, IsTold, MayChange}
use Rattle.exh_ward.specs.WardFault.{IsStoreFault, IsTakingFault, IsTellingFault, SplitRefused}
use Rattle.exh_ward.specs.WardState.{WardState, IsSound, own_prefix}
use Rattle.exh_ward.specs.declared.ward_fault.WardFault.{WardFault}
use Rattle.exh_ward.specs.declared.ward_fault.WardFault.TheVariants.{NoPage, NotLive, NotFull, AtLimit, NoBuddy, BuddySplit, TooMany, Worn, Memory, Page as PageFault}
use Rattle.exh_ward.proofs.StepsKeepSound.{kept_read}

-- ---- what is undone

same_tables : (one other : TableMap) → ((prefix : List Bool) → fin.get one prefix ≡ fin.get other prefix) → one ≡ other
same_tables one other same = fin.same_map prefix_cmp-total prefix_cmp-exact one other same

put_over : (here : Bool) (new : Entry) (old found : Option Entry) → (here ≡ true → old ≡ found) → cond here old (cond here (Some new) found) ≡ found
put_over true new old found same = same refl
put_over false new old found same = refl

at_same : (table : TableMap) (prefix key : List Bool) → eq_by_cmp prefix_cmp prefix key ≡ true → fin.get table key ≡ fin.get table prefix
at_same table prefix key tied = ap (fin.get table) (sym (prefix_cmp-exact prefix key (is_equal (prefix_cmp prefix key) tied)))

get-table_at : (table : TableMap) (key : List Bool) (stood : Option Entry) (prefix : List Bool) → fin.get (table_at table key stood) prefix ≡ cond (eq_by_cmp prefix_cmp prefix key) stood (fin.get table prefix)
get-table_at table key None prefix = fin.get-remove prefix_cmp-total table key prefix
get-table_at table key (Some entry) prefix = fin.get-insert prefix_cmp-total table key entry prefix

pub taken_back : (table : TableMap) (notice : Notice) (stood : Option Entry) → stood ≡ fin.get table notice.prefix → table_at (table_with table notice) notice.prefix stood ≡ table
taken_back table notice stood is =
    let greatest = greater_of (fin.get table notice.prefix) (entry_of notice) in
    same_tables _ _ (λ prefix.
    get-table_at (table_with table notice) notice.prefix stood prefix
    ∙ ap (cond (eq_by_cmp prefix_cmp prefix notice.prefix) stood) (fin.get-insert prefix_cmp-total table notice.prefix greatest prefix)
    ∙ put_over (eq_by_cmp prefix_cmp prefix notice.prefix) greatest stood (fin.get table prefix) (λ tied. is ∙ at_same table prefix notice.prefix tied))

-- the same of a table that was raised, as it is after each step
pub raised_back : (table now back : TableMap) (prefix : List Bool) (kind : Kind) (stood : Option Entry) → stood ≡ fin.get table prefix
    → now ≡ raised table prefix (entry_after (fin.get table prefix) kind) → back ≡ table_at now prefix stood → back ≡ table
raised_back table now back prefix kind stood is raised_now put_back =
    put_back ∙ ap (λ (table : TableMap). table_at table prefix stood) raised_now ∙ taken_back table (next_notice 0 table prefix kind) stood is

-- the notices, where one that is known was pushed
pub told_more : (old between after : List Notice) (made notice : Notice) → after ≡ between ++ made ∷ [] → made ≡ notice → between ≡ old → after ≡ old ++ notice ∷ []
told_more old between after made notice pushed same kept = pushed ∙ ap (λ (told : Notice). between ++ told ∷ []) same ∙ ap (λ (notices : List Notice). notices ++ notice ∷ []) kept

-- an entry stands where a notice was taken
pub stands : (table : TableMap) (notice : Notice) → IsSome (fin.get (table_with table notice) notice.prefix)
stands table notice =
    let greatest = greater_of (fin.get table notice.prefix) (entry_of notice) in
    let found : fin.get (table_with table notice) notice.prefix ≡ Some greatest =
    fin.get-insert prefix_cmp-total table notice.prefix greatest notice.prefix ∙ ap (λ o. cond (is_eq o) (Some greatest) (fin.get table notice.prefix)) (tied_itself prefix_cmp-total notice.prefix) in
    subst IsSome (sym found) refl

-- the notice that a ward makes of what stood at a prefix
pub notice_made : (ward : ℕ) (table : TableMap) (prefix : List Bool) (kind : Kind) (stood : Option Entry) → stood ≡ fin.get table prefix → (index : ℕ) → index ≡ index_of table + 1
    → (notice : Notice) → notice ≡ record { ward = ward; index = index; prefix = prefix; number = entry_number stood + 1; kind = kind } → notice ≡ next_notice ward table prefix kind
notice_made ward table prefix kind stood is index index_is notice made =
    made ∙ ap (λ index. let notice : Notice = record { ward = ward; index = index; prefix = prefix; number = entry_number stood + 1; kind = kind } in notice) index_is
    ∙ ap (λ stood. let notice : Notice = record { ward = ward; index = index_of table + 1; prefix = prefix; number = entry_number stood + 1; kind = kind } in notice) is

-- ---- as the answer is returned

pub told_as : (r : Result Notice WardFault) (notice : Notice) (P : Notice → Type 0) (Q : Type 0) → IfOk r (λ told. told ≡ notice) → OnOk r Q → (Q → P notice) → IfOk r P
told_as (Ok told) notice P Q is holds gives = subst P (sym is) (gives holds)
told_as (Err fault) notice P Q is holds gives = tt

pub refused_so : (r : Result Notice WardFault) (P Q : WardFault → Type 0) → IfErr r P → ((fault : WardFault) → P fault → Q fault) → IfErr r Q
refused_so (Ok told) P Q is gives = tt
refused_so (Err fault) P Q is gives = gives fault is

-- ---- refusals

-- where the number at the prefix isn't the greatest, only the store refuses
pub telling_stores : {K : Type 0} (w : WardState K) (prefix : List Bool) → (number_at w.table prefix ≡ 2 ^ 32 - 1 → ⊥) → (fault : WardFault) → IsTellingFault w prefix fault → IsStoreFault fault
telling_stores w prefix less NoPage is = is
telling_stores w prefix less NotLive is = is
telling_stores w prefix less NotFull is = is
telling_stores w prefix less AtLimit is = is
telling_stores w prefix less NoBuddy is = is
telling_stores w prefix less BuddySplit is = is
telling_stores w prefix less (TooMany sum) is = is
telling_stores w prefix less Worn is = less is
telling_stores w prefix less Memory is = is
telling_stores w prefix less PageFault is = is

-- and of a table
pub taking_stores : (table : TableMap) (prefix : List Bool) → (number_at table prefix ≡ 2 ^ 32 - 1 → ⊥) → (fault : WardFault) → IsTakingFault table prefix fault → IsStoreFault fault
taking_stores table prefix less NoPage is = is
taking_stores table prefix less NotLive is = is
taking_stores table prefix less NotFull is = is
taking_stores table prefix less AtLimit is = is
taking_stores table prefix less NoBuddy is = is
taking_stores table prefix less BuddySplit is = is
taking_stores table prefix less (TooMany sum) is = is
taking_stores table prefix less Worn is = less is
taking_stores table prefix less Memory is = is
taking_stores table prefix less PageFault is = tt

pub stored_refuses : (cap : ℕ) (pages : List Page) (at : ℕ) (fault : WardFault) → IsStoreFault fault → SplitRefused cap pages at fault
stored_refuses cap pages at NoPage is = absurd is
stored_refuses cap pages at NotLive is = absurd is
stored_refuses cap pages at NotFull is = absurd is
stored_refuses cap pages at AtLimit is = absurd is
stored_refuses cap pages at NoBuddy is = absurd is
stored_refuses cap pages at BuddySplit is = absurd is
stored_refuses cap pages at (TooMany sum) is = absurd is
stored_refuses cap pages at Worn is = absurd is
stored_refuses cap pages at Memory is = tt
stored_refuses cap pages at PageFault is = tt

remove_over : (here : Bool) (new : ℕ) (found : Option ℕ) → (here ≡ true → None ≡ found) → cond here None (cond here (Some new) found) ≡ found
remove_over true new found same = same refl
remove_over false new found same = refl

pub index_back : (index : IndexMap) (low number : ℕ) → fin.get index low ≡ None → fin.remove (fin.insert index low number) low ≡ index
index_back index low number none =
    fin.same_map nat_cmp_total fin.nat_cmp-IsAntisymmetric _ _ (λ q.
    fin.get-remove nat_cmp_total (fin.insert index low number) low q
    ∙ ap (cond (eq_by_cmp nat_cmp q low) None) (fin.get-insert nat_cmp_total index low number q)
    ∙ remove_over (eq_by_cmp nat_cmp q low) number (fin.get index q) (λ tied. sym (ap (fin.get index) (fin.nat_cmp-IsAntisymmetric q low (is_equal (nat_cmp q low) tied)) ∙ none)))

-- the index, where a low bound that wasn't there was put in and taken out again
pub index_forgotten : (index grown back : IndexMap) (low number : ℕ) (found : Option ℕ) → found ≡ fin.get index low → found ≡ None
    → (fin.get index low ≡ None → grown ≡ fin.insert index low number) → back ≡ fin.remove grown low → back ≡ index
index_forgotten index grown back low number found is none grows removed =
    let none_here = sym is ∙ none in
    removed ∙ ap (λ (index : IndexMap). fin.remove index low) (grows none_here) ∙ index_back index low number none_here

-- ---- the index

there_at : (pages : List Page) (number : ℕ) → number < length pages → (page : Page) × IsAt pages number page
there_at [] number within = absurd (omega arith)
there_at (page ∷ pages) zero within = (page, refl)
there_at (page ∷ pages) (suc number) within = there_at pages number (omega arith)

-- a page of before has the low bound that it has now
page_before : (pages new : List Page) → KeepsPlaces pages new → (low number : ℕ) → number < length pages → IsPageOf new low number → IsPageOf pages low number
page_before pages new places low number within is =
    let old = there_at pages number within in
    let kept = places number old.0 old.1 in
    let same = one_there new number kept.0 is.0 kept.1 is.1 in
    (old.0, old.1, sym kept.2 ∙ ap low_bound same ∙ is.2)

page_after : (pages new : List Page) → KeepsPlaces pages new → (low number : ℕ) → IsPageOf pages low number → IsPageOf new low number
page_after pages new places low number is = let kept = places number is.0 is.1 in (kept.0, kept.1, kept.2 ∙ is.2)

pub index_kept : (index : IndexMap) (pages new : List Page) → IsIndexOf index (bare pages) → KeepsPlaces pages new → length new ≡ length pages → IsIndexOf index (bare new)
index_kept index pages new indexed places same low number = (
  λ found. let is = (indexed low number).0 found in (is.0, page_bare new low number (page_after pages new places low number (page_full pages low number is.1))),
  λ is.
      let page = page_full new low number is.1 in
      let within : number < length pages = omega (arith, same, slice_get_within new number page.0 page.1) in
      (indexed low number).1 (is.0, page_bare pages low number (page_before pages new places low number within page)),
)

last_there : (front : List Page) (new : Page) → IsAt (front ++ new ∷ []) (length front) new
last_there [] new = refl
last_there (page ∷ front) new = last_there front new

pub index_grown : (index : IndexMap) (pages front : List Page) (new : Page) → IsIndexOf index (bare pages) → KeepsPlaces pages (front ++ new ∷ []) → length front ≡ length pages → 0 < length pages
    → ((number : ℕ) (page : Page) → IsAt pages number page → low_bound page ≡ low_bound new → ⊥) → IsIndexOf (fin.insert index (low_bound new) (length pages)) (bare (front ++ new ∷ []))
index_grown index pages front new indexed places same some alone low number =
    let all = front ++ new ∷ [] in
    let get_is = fin.get-insert nat_cmp_total index (low_bound new) (length pages) low in
    elim (cases_Bool (eq_by_cmp nat_cmp low (low_bound new))) [
      | inl tied ↦
          let low_is : low ≡ low_bound new = fin.nat_cmp-IsAntisymmetric low (low_bound new) (is_equal (nat_cmp low (low_bound new)) tied) in
          let found : fin.get (fin.insert index (low_bound new) (length pages)) low ≡ Some (length pages) = get_is ∙ ap (λ b. cond b (Some (length pages)) (fin.get index low)) tied in
          let last : IsAt all (length pages) new = ap (slice_get all) (sym same) ∙ last_there front new in (
            λ is.
                let both : Some (length pages) ≡ Some number = sym found ∙ is in
                let number_is : length pages ≡ number = cc in (
                  omega (arith, some, number_is),
                  page_bare all low number (new, subst (λ n. IsAt all n new) number_is last, sym low_is),
                ),
            λ is.
                let page = page_full all low number is.1 in
                let most : number < length all = slice_get_within all number page.0 page.1 in
                elim (cases_lt number (length pages)) [
                  | inl before ↦
                      let old = page_before pages all places low number before page in
                      absurd (alone number old.0 old.1 (old.2 ∙ low_is))
                  | inr after ↦
                      let number_is : length pages ≡ number = omega (arith, after, most, same, length-append front (new ∷ [])) in
                      found ∙ ap Some number_is
                ],
          )
      | inr apart ↦
          let found : fin.get (fin.insert index (low_bound new) (length pages)) low ≡ fin.get index low = get_is ∙ ap (λ b. cond b (Some (length pages)) (fin.get index low)) apart in (
            λ is.
                let old = (indexed low number).0 (sym found ∙ is) in
                (old.0, page_bare all low number (page_after pages all places low number (page_full pages low number old.1))),
            λ is.
                let page = page_full all low number is.1 in
                let most : number < length all = slice_get_within all number page.0 page.1 in
                elim (cases_lt number (length pages)) [
                  | inl before ↦ found ∙ (indexed low number).1 (is.0, page_bare pages low number (page_before pages all places low number before page))
                  | inr after ↦
                      let number_is : number ≡ length front = omega (arith, after, most, same, length-append front (new ∷ [])) in
                      let is_new = one_there all number page.0 new page.1 (ap (slice_get all) number_is ∙ last_there front new) in
                      let low_is : low ≡ low_bound new = sym page.2 ∙ ap low_bound is_new in
                      let tied : eq_by_cmp nat_cmp low (low_bound new) ≡ true = ap (λ n. eq_by_cmp nat_cmp low n) (sym low_is) ∙ ap is_eq (tied_itself nat_cmp_total low) in
                      absurd (false≢true (sym apart ∙ tied))
                ],
          )
    ]

-- ---- what is kept

module _ {K : Type 0} {pseudo : List ℕ → ℕ} {takes : Page → Type 0} {own : List Bool} {index : IndexMap} {told : ℕ} {w : WardState K} (kept : IsKeptWard pseudo takes own index told w) (takes_now : Page → Type 0) (same_takes : (page : Page) → takes page ↔ takes_now page) where
  -- nothing was changed, or what was is undone
  pub kept_undone : (pages : List Page) (notices : List Notice) (table : TableMap) (failures : ℕ) (index_now : IndexMap) → pages ≡ w.pages → notices ≡ w.notices → table ≡ w.table → index_now ≡ index
      → IsKeptWard pseudo takes_now own index_now told (record w { pages = pages; notices = notices; table = table; failures = failures })
  kept_undone pages notices table failures index_now same_pages same_notices same_table same_index =
      let P : List Page → Type 0 = λ pages. IsKeptWard pseudo takes_now own index_now told (record w { pages = pages; notices = notices; table = table; failures = failures }) in
      let Q : List Notice → Type 0 = λ notices. IsKeptWard pseudo takes_now own index_now told (record w { notices = notices; table = table; failures = failures }) in
      let R : TableMap → Type 0 = λ table. IsKeptWard pseudo takes_now own index_now told (record w { table = table; failures = failures }) in
      let S : IndexMap → Type 0 = λ index. IsKeptWard pseudo takes_now own index told (record w { failures = failures }) in
      subst P (sym same_pages) (subst Q (sym same_notices) (subst R (sym same_table) (subst S (sym same_index) (kept_read kept takes_now same_takes w.pages w.journal failures refl refl))))

  module _ (notice : Notice) (new : List Page) (next : IsNextNotice w notice) (changed : IsChangedTo pseudo w notice new) where
    numbered_more : AreNumbered w.number w.start (w.notices ++ notice ∷ [])
    numbered_more place other is = elim (cases_lt place (length w.notices)) [
      | inl before ↦ kept.sound.numbered place other (sym (at_front w.notices (notice ∷ []) place before) ∙ is)
      | inr after ↦
          let here : place ≡ length w.notices = omega (arith, after, slice_get_within (w.notices ++ notice ∷ []) place other is, length-append w.notices (notice ∷ [])) in
          let both : Some notice ≡ Some other = sym (at_last w.notices notice) ∙ ap (slice_get (w.notices ++ notice ∷ [])) (sym here) ∙ is in
          let same : notice ≡ other = cc in
          let index_is : notice.index ≡ index_of w.table + 1 = ap (λ (n : Notice). n.index) next in (
            sym (ap (λ (n : Notice). n.ward) same) ∙ ap (λ (n : Notice). n.ward) next,
            omega (arith, ap (λ (n : Notice). n.index) same, index_is, kept.sound.counted, here),
          )
    ]

    told_sound : (failures : ℕ) → IsSound pseudo (record w { pages = new; notices = w.notices ++ notice ∷ []; table = table_with w.table notice; failures = failures })
    told_sound failures = record {
      legal = record { legal = changed.legal; fits = changed.fits };
      since = IsTableSince-push w.start w.notices w.table notice kept.sound.since;
      numbered = numbered_more;
      counted = omega (arith, kept.sound.counted, changed.index, length-append w.notices (notice ∷ []));
      notices = one_true_more (own_prefix w) new w.notices notice (λ told there. still_true (own_prefix w) w.pages new changed.places told (kept.sound.notices told there)) changed.told;
      history = kept.sound.history;
      left = changed.map ∙ kept.sound.left;
    }

    pub kept_told : (pages : List Page) (notices : List Notice) (table : TableMap) (failures : ℕ) (index_now : IndexMap) → IsIndexOf index_now (bare new) → pages ≡ new → notices ≡ w.notices ++ notice ∷ [] → table ≡ table_with w.table notice
        → IsKeptWard pseudo takes_now own index_now told (record w { pages = pages; notices = notices; table = table; failures = failures })
    kept_told pages notices table failures index_now indexed is_new is_told is_table =
        let P : List Page → Type 0 = λ pages. IsKeptWard pseudo takes_now own index_now told (record w { pages = pages; notices = notices; table = table; failures = failures }) in
        let Q : List Notice → Type 0 = λ notices. IsKeptWard pseudo takes_now own index_now told (record w { pages = new; notices = notices; table = table; failures = failures }) in
        let R : TableMap → Type 0 = λ table. IsKeptWard pseudo takes_now own index_now told (record w { pages = new; notices = w.notices ++ notice ∷ []; table = table; failures = failures }) in
        subst P (sym is_new) (subst Q (sym is_told) (subst R (sym is_table) (record {
          sound = told_sound failures;
          own_is = kept.own_is;
          bits = kept.bits;
          some = kept.some;
          most = kept.most;
          takes_all = λ page formed. (same_takes page).0 (kept.takes_all page formed);
          indexed = indexed;
          told_is = kept.told_is;
          told_few = kept.told_few;
        })))

-- ---- as the ward is seen

pub unchanged_seen : {K : Type 0} {w now : WardState K} → w ≡ now → (pages : List Page) (notices : List Notice) (table : TableMap) (failures : ℕ) → pages ≡ w.pages → notices ≡ w.notices → table ≡ w.table
    → (let after : WardState K = record w { pages = pages; notices = notices; table = table; failures = failures } in after) ≡ record now { failures = failures }
unchanged_seen {K = K} {w = w} seen pages notices table failures same_pages same_notices same_table =
    let by_pages = ap (λ pages. let after : WardState K = record w { pages = pages; notices = notices; table = table; failures = failures } in after) same_pages in
    let by_notices = ap (λ notices. let after : WardState K = record w { notices = notices; table = table; failures = failures } in after) same_notices in
    let by_table = ap (λ table. let after : WardState K = record w { table = table; failures = failures } in after) same_table in
    by_pages ∙ by_notices ∙ by_table ∙ ap (λ (w : WardState K). let after : WardState K = record w { failures = failures } in after) seen

-- the ward that is seen
abbrev pub state_of : {K : Type 0} {w now : WardState K} → w ≡ now → WardState K
state_of {w = w} seen = w

pub told_seen : {K : Type 0} (w : WardState K) (notice : Notice) (new : List Page) (pages : List Page) (notices : List Notice) (table : TableMap) (failures : ℕ) → pages ≡ new → notices ≡ w.notices ++ notice ∷ [] → table ≡ table_with w.table notice → failures ≡ w.failures
    → IsTold w notice new (record w { pages = pages; notices = notices; table = table; failures = failures })
told_seen {K = K} w notice new pages notices table failures same_pages same_notices same_table same_failures =
    ap (λ pages. let after : WardState K = record w { pages = pages; notices = notices; table = table; failures = failures } in after) same_pages
    ∙ ap (λ notices. let after : WardState K = record w { pages = new; notices = notices; table = table; failures = failures } in after) same_notices
    ∙ ap (λ table. let after : WardState K = record w { pages = new; notices = w.notices ++ notice ∷ []; table = table; failures = failures } in after) same_table
    ∙ ap (λ failures. let after : WardState K = record w { pages = new; notices = w.notices ++ notice ∷ []; table = table_with w.table notice; failures = failures } in after) same_failures

-- a low bound that no page has isn't in the index
pub absent : (index : IndexMap) (pages : List Page) (low : ℕ) → IsIndexOf index (bare pages) → ((number : ℕ) (page : Page) → IsAt pages number page → low_bound page ≡ low → ⊥) → fin.get index low ≡ None
absent index pages low indexed alone =
    elim (fin.get index low) as (λ found. fin.get index low ≡ found → found ≡ None) [
      | None ↦ λ is. refl
      | Some number ↦ λ is. let page = page_full pages low number ((indexed low number).0 is).1 in absurd (alone number page.0 page.1 page.2)
    ] refl

-- a change that may be made, where the ward is as it is seen
pub may_change : {K : Type 0} (pseudokey_of : K → List ℕ → ℕ) {w now : WardState K} → w ≡ now → {number other : ℕ} {prefix : List Bool} {kind : Kind} → MayChange (pseudokey_of now.keyer) now number other prefix kind → MayChange (pseudokey_of w.keyer) w number other prefix kind
may_change {K = K} pseudokey_of seen {number = number} {other = other} {prefix = prefix} {kind = kind} may =
    let P : WardState K → Type 0 = λ w. MayChange (pseudokey_of w.keyer) w number other prefix kind in
    subst P (sym seen) may

-- what holds of the pages at two numbers
pub both_are : (pages : List Page) (number other : ℕ) (page twin : Page) (P : Page → Page → Type 0) → IsAt pages number page → IsAt pages other twin → P page twin → (one : Page) → IsAt pages number one → (two : Page) → IsAt pages other two → P one two
both_are pages number other page twin P is twin_is holds one one_is two two_is =
    subst (λ one. P one two) (sym (one_there pages number one page one_is is)) (subst (P page) (sym (one_there pages other two twin two_is twin_is)) holds)
