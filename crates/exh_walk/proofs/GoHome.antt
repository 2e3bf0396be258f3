-- The ways home: what moves there are, and how many.
use Rattle.std.proofs.Common.{◌≡◌, ℕ, zero, suc, ◌^◌, ◌<◌, ◌≤◌, Bool, List, [], ◌∷◌, length, Option, Some, ◌⊎◌, inl, inr, refl, sym, ap, ◌∙◌, subst, arith}
use Rattle.std.proofs.lemmas.Bool.{cases_Bool, false≢true}
use Rattle.exh_prefix.specs.Bits.{word_bits}
use Rattle.exh_prefix.specs.Prefix.{Begins, begins, low_of}
use Rattle.exh_prefix.specs.PrefixLemmas.{IsFront-from_test, is_front-true}
use Rattle.exh_page.specs.declared.page.Page.{Page}
use Rattle.exh_page.specs.declared.page.Page.TheVariants.{Live, Forward}
use Rattle.exh_page.specs.declared.record.Record.{Record}
use Rattle.exh_page.specs.Page.{IsLive, low_bound}
use Rattle.exh_legal.specs.LegalLaws.{RightLinksLeadOn, IsBelow}
use Rattle.exh_legal.specs.Pages.{IsAt, IsHome, AreLinked, bare}
use Rattle.exh_calls.specs.Call.{key_of}
use Rattle.exh_ward.specs.HopTable.{IsReached, LeadsTo, HopOf}
use Rattle.exh_ward.specs.WardLaws.{OneHop}
use Rattle.exh_calls.specs.declared.call.Call.{Call}
use Rattle.exh_ward.specs.declared.hop.Hop.{Hop}
use Rattle.exh_ward.specs.declared.hop.Hop.TheVariants.{Moved}
use Rattle.exh_ward.specs.Distance.{IsDistance, live_between}
use Rattle.exh_walk.specs.RouteLaws.{CanGoOn, EndsAtHome}
use Rattle.exh_walk.specs.WardMoves.{AreMoves, EndsMoves}
use Rattle.exh_ward.specs.LinkLemmas.{IsNext, target_below, next_live, none_beyond_home}
use Rattle.exh_ward.specs.LiveCountLemmas.{none_between, one_less_right}
use Rattle.exh_walk.proofs.OneDistance.{same_distance}
use Rattle.exh_prefix.specs.PrefixListLemmas.{one_there}

-- ---- the ways

module _ (cap : ℕ) (pseudo : List ℕ → ℕ) (pages : List Page) (call : Call) where
  abbrev k : ℕ
  k = pseudo (key_of call)

  -- a way home, as long as a count
  record ComesHome (from count : ℕ) : Type 0 where
    moves : List ℕ
    home : ℕ
    go : AreMoves cap pseudo pages call from moves home
    page : Page
    there : IsAt pages home page
    begins : IsHome page k
    below : low_bound page ≤ k
    count_is : length moves ≡ count

  -- a way home, as long as the distance
  pub record GoesOn (from : ℕ) : Type 0 where
    pub moves : List ℕ
    pub home : ℕ
    pub go : AreMoves cap pseudo pages call from moves home
    pub page : Page
    pub there : IsAt pages home page
    pub begins : IsHome page k
    pub below : low_bound page ≤ k
    pub distance : IsDistance pages from k (length moves)

  module _ (ward : List Bool) (linked : AreLinked ward (bare pages)) (links : RightLinksLeadOn) (small : k < 2 ^ 64) (covered : Begins ward k) where
    none_at_home : (home : ℕ) (page : Page) → IsAt pages home page → IsHome page k → live_between pages (low_bound page) k ≡ 0
    none_at_home home page is begins = none_between pages (low_bound page) k (λ other beyond is_beyond. none_beyond_home ward pages linked k home page is small begins other beyond is_beyond)

    -- ---- from a live page to the right

    arrived : (number count : ℕ) (page : Page) → IsAt pages number page → low_bound page ≤ k → live_between pages (low_bound page) k ≡ count → IsHome page k → ComesHome number count
    arrived number count page is below count_is begins =
        record { moves = []; home = number; go = refl; page = page; there = is; begins = begins; below = below; count_is = sym (none_at_home number page is begins) ∙ count_is }

    -- the next live page, where the right link leads
    record IsRightward (number : ℕ) (prefix : List Bool) (link : Option ℕ) (records : List Record) (right : ℕ) : Type 0 where
      link_is : link ≡ Some right
      next : Page
      is_next : IsNext pages (Live prefix link records) right next
      within : low_bound next ≤ k

    rightward : (number : ℕ) (prefix : List Bool) (link : Option ℕ) (records : List Record) → IsAt pages number (Live prefix link records) → low_of prefix ≤ k → (Begins prefix k → ⊥) → (right : ℕ) × IsRightward number prefix link records right
    rightward number prefix link records is below else =
        let on = links ward pages number prefix link records k linked is small covered below else in
        let right = next_live ward pages linked number prefix on.0 records (is ∙ ap (λ link. Some (Live prefix link records)) on.1) in
        let same = one_there pages on.0 on.2 right.0 on.3 right.1.there in (
          on.0,
          record {
            link_is = on.1;
            next = right.0;
            is_next = subst (λ link. IsNext pages (Live prefix link records) on.0 right.0) (sym on.1) right.1;
            within = omega (arith, ap low_bound same, on.4);
          },
        )

    begun_or_not : (prefix : List Bool) → Begins prefix k ⊎ (Begins prefix k → ⊥)
    begun_or_not prefix = elim (cases_Bool (begins prefix k)) [
      | inl passes ↦ inl (IsFront-from_test prefix (word_bits k) passes)
      | inr fails ↦ inr (λ begun. false≢true (sym fails ∙ is_front-true prefix (word_bits k) begun))
    ]

    abbrev ComesFrom : ℕ → Type 0
    ComesFrom count = (number : ℕ) (page : Page) → IsAt pages number page → IsLive page → low_bound page ≤ k → live_between pages (low_bound page) k ≡ count → ComesHome number count

    moved_right : (count number : ℕ) (prefix : List Bool) (link : Option ℕ) (records : List Record) → IsAt pages number (Live prefix link records) → low_of prefix ≤ k → (Begins prefix k → ⊥) → (right : ℕ) → IsRightward number prefix link records right
        → ComesHome right count → ComesHome number (suc count)
    moved_right count number prefix link records is below else right on rest = record {
      moves = right ∷ rest.moves;
      home = rest.home;
      go = ((Live prefix link records, record { there = is; below = below }, (else, on.link_is)), rest.go);
      page = rest.page;
      there = rest.there;
      begins = rest.begins;
      below = rest.below;
      count_is = ap suc rest.count_is;
    }

    from_live_more : (count : ℕ) → ComesFrom count → (number : ℕ) (prefix : List Bool) (link : Option ℕ) (records : List Record) → IsAt pages number (Live prefix link records) → low_of prefix ≤ k → live_between pages (low_of prefix) k ≡ suc count → ComesHome number (suc count)
    from_live_more count again number prefix link records is below count_is = elim (begun_or_not prefix) [
      | inl begun ↦ arrived number (suc count) (Live prefix link records) is below count_is begun
      | inr else ↦
          let on = rightward number prefix link records is below else in
          let less : live_between pages (low_of prefix) k ≡ suc (live_between pages (low_bound on.1.next) k) = one_less_right ward pages linked k (Live prefix link records) on.0 on.1.next on.1.is_next on.1.within in
          moved_right count number prefix link records is below else on.0 on.1 (again on.0 on.1.next on.1.is_next.there on.1.is_next.live on.1.within (omega (arith, less, count_is)))
    ]

    from_live_none : (number : ℕ) (prefix : List Bool) (link : Option ℕ) (records : List Record) → IsAt pages number (Live prefix link records) → low_of prefix ≤ k → live_between pages (low_of prefix) k ≡ 0 → ComesHome number 0
    from_live_none number prefix link records is below count_is = elim (begun_or_not prefix) [
      | inl begun ↦ arrived number 0 (Live prefix link records) is below count_is begun
      | inr else ↦
          let on = rightward number prefix link records is below else in
          let less : live_between pages (low_of prefix) k ≡ suc (live_between pages (low_bound on.1.next) k) = one_less_right ward pages linked k (Live prefix link records) on.0 on.1.next on.1.is_next on.1.within in
          absurd (omega (arith, less, count_is))
    ]

    from_live : (count : ℕ) → ComesFrom count
    from_live zero number (Live prefix link records) is live below count_is = from_live_none number prefix link records is below count_is
    from_live (suc count) number (Live prefix link records) is live below count_is = from_live_more count (from_live count) number prefix link records is below count_is
    from_live zero number (Forward low target) is live below count_is = absurd live
    from_live (suc count) number (Forward low target) is live below count_is = absurd live

    -- ---- from any page

    from_live_page : (number : ℕ) (page : Page) → IsAt pages number page → IsLive page → low_bound page ≤ k → GoesOn number
    from_live_page number page is live below =
        let way = from_live (live_between pages (low_bound page) k) number page is live below refl in
        record {
          moves = way.moves;
          home = way.home;
          go = way.go;
          page = way.page;
          there = way.there;
          begins = way.begins;
          below = way.below;
          distance = record { over = []; live = number; forwarded = refl; page = page; there = is; lives = live; sum = omega (arith, way.count_is) };
        }

    moved_back : (number low target : ℕ) → IsAt pages number (Forward low target) → low ≤ k → GoesOn target → GoesOn number
    moved_back number low target is below rest = record {
      moves = target ∷ rest.moves;
      home = rest.home;
      go = ((Forward low target, record { there = is; below = below }, refl), rest.go);
      page = rest.page;
      there = rest.there;
      begins = rest.begins;
      below = rest.below;
      distance = record {
        over = number ∷ rest.distance.over;
        live = rest.distance.live;
        forwarded = (refl, (low, target, is, rest.distance.forwarded));
        page = rest.distance.page;
        there = rest.distance.there;
        lives = rest.distance.lives;
        sum = omega (arith, rest.distance.sum);
      };
    }

    from_page : (most number : ℕ) (page : Page) → IsAt pages number page → low_bound page ≤ most → low_bound page ≤ k → GoesOn number
    from_page zero number (Live prefix link records) is few below = from_live_page number (Live prefix link records) is tt below
    from_page (suc most) number (Live prefix link records) is few below = from_live_page number (Live prefix link records) is tt below
    from_page zero number (Forward low target) is few below = let next = target_below ward pages linked number low target is in absurd (omega (arith, few, next.2))
    from_page (suc most) number (Forward low target) is few below =
        let next = target_below ward pages linked number low target is in
        moved_back number low target is below (from_page most target next.0 next.1 (omega (arith, few, next.2)) (omega (arith, below, next.2)))

    pub goes_on : (number : ℕ) (page : Page) → IsAt pages number page → low_bound page ≤ k → GoesOn number
    goes_on number page is below = from_page (low_bound page) number page is (omega arith) below

    -- ---- a move stays on the way

    leads_below : (number : ℕ) (page : Page) (next : ℕ) → IsReached pages number k page → LeadsTo page k next → IsBelow pages next k
    leads_below number (Live prefix link records) next reached leads =
        let on = links ward pages number prefix link records k linked reached.there small covered reached.below leads.0 in
        let same : on.0 ≡ next = let both : Some on.0 ≡ Some next = sym on.1 ∙ leads.1 in cc in
        subst (λ n. IsBelow pages n k) same (on.2, on.3, on.4)
    leads_below number (Forward low target) next reached leads =
        let on = target_below ward pages linked number low target reached.there in
        subst (λ n. IsBelow pages n k) leads (on.0, on.1, omega (arith, on.2, reached.below))

    pub moved_below : (number next : ℕ) → HopOf cap pseudo pages number call (Moved next) → IsBelow pages next k
    moved_below number next hop = leads_below number hop.0 next hop.1 hop.2

  -- ---- there is no other way

  module _ (one_hop : OneHop) where
    -- at a home nothing moves
    home_stays : (page : Page) (next : ℕ) → IsHome page k → LeadsTo page k next → ⊥
    home_stays (Live prefix right records) next begins leads = leads.0 begins
    home_stays (Forward low target) next begins leads = begins

    pub stays_home : (home : ℕ) (page : Page) → IsAt pages home page → IsHome page k → (next : ℕ) → HopOf cap pseudo pages home call (Moved next) → ⊥
    stays_home home page is begins next hop = home_stays page next begins (subst (λ page. LeadsTo page k next) (one_there pages home hop.0 page hop.1.there is) hop.2)

    abbrev pub IsEnd : ℕ → Type 0
    IsEnd to = (next : ℕ) → HopOf cap pseudo pages to call (Moved next) → ⊥

    pub same_way : (from : ℕ) (moves others : List ℕ) (home to : ℕ) → AreMoves cap pseudo pages call from moves home → AreMoves cap pseudo pages call from others to → IsEnd home → IsEnd to → (others ≡ moves) × (to ≡ home)
    same_way from [] [] home to go other ends ends_too = (refl, sym other ∙ go)
    same_way from [] (next ∷ others) home to go other ends ends_too = absurd (ends next (subst (λ n. HopOf cap pseudo pages n call (Moved next)) go other.0))
    same_way from (next ∷ moves) [] home to go other ends ends_too = absurd (ends_too next (subst (λ n. HopOf cap pseudo pages n call (Moved next)) other go.0))
    same_way from (next ∷ moves) (twin ∷ others) home to go other ends ends_too =
        let both : Moved twin ≡ Moved next = one_hop cap pseudo pages from call (Moved twin) (Moved next) other.0 go.0 in
        let same : twin ≡ next = cc in
        let rest = same_way next moves others home to go.1 (subst (λ n. AreMoves cap pseudo pages call n others to) same other.1) ends ends_too in
        (ap (λ n. n ∷ others) same ∙ ap (λ rest. next ∷ rest) rest.0, rest.1)

    pub only_way : (from : ℕ) (way : GoesOn from) (others : List ℕ) (to : ℕ) (hop : Hop) → AreMoves cap pseudo pages call from others to → HopOf cap pseudo pages to call hop → EndsMoves hop → (others ≡ way.moves) × (to ≡ way.home)
    only_way from way others to hop go ends no_move =
        same_way from way.moves others way.home to way.go go (stays_home way.home way.page way.there way.begins)
        (λ next moved. no_move next (one_hop cap pseudo pages to call hop (Moved next) ends moved))

    -- ---- the claims

    module _ (links : RightLinksLeadOn) (ward : List Bool) (from : ℕ) (on : CanGoOn ward pages from k) where
      pub way_home : GoesOn from
      way_home = goes_on ward on.linked links on.word on.covered from on.below.0 on.below.1 on.below.2

      pub ends_at_home : EndsAtHome cap pseudo pages from call
      ends_at_home =
          let way = way_home in
          let reached : IsReached pages way.home k way.page = record { there = way.there; below = way.below } in
          record {
            way = record { moves = way.moves; home = way.home; go = way.go; page = way.page; there = way.there; begins = way.begins; distance = way.distance; only = only_way from way };
            answered = λ fits. (way.page, reached, way.begins, fits, refl);
            waits = λ over. (way.page, reached, way.begins, over);
          }

      -- a move leads to a page that is one nearer
      one_nearer : (next : ℕ) → HopOf cap pseudo pages from call (Moved next) → (moves : List ℕ) → AreMoves cap pseudo pages call from moves way_home.home → (left : ℕ) × (length moves ≡ suc left) × IsDistance pages next k left
      one_nearer next hop [] go = absurd (stays_home way_home.home way_home.page way_home.there way_home.begins next (subst (λ n. HopOf cap pseudo pages n call (Moved next)) go hop))
      one_nearer next hop (first ∷ moves) go =
          let both : Moved first ≡ Moved next = one_hop cap pseudo pages from call (Moved first) (Moved next) go.0 hop in
          let same : first ≡ next = cc in
          let below = moved_below ward on.linked links on.word on.covered from next hop in
          let way = goes_on ward on.linked links on.word on.covered next below.0 below.1 below.2 in
          let rest : AreMoves cap pseudo pages call next moves way_home.home = subst (λ n. AreMoves cap pseudo pages call n moves way_home.home) same go.1 in
          let alike = same_way next way.moves moves way.home way_home.home way.go rest (stays_home way.home way.page way.there way.begins) (stays_home way_home.home way_home.page way_home.there way_home.begins) in
          (length way.moves, ap suc (ap length alike.0), way.distance)

      pub nearer : (next distance : ℕ) → IsDistance pages from k distance → HopOf cap pseudo pages from call (Moved next) → (left : ℕ) × (distance ≡ suc left) × IsDistance pages next k left
      nearer next distance is hop =
          let near = one_nearer next hop way_home.moves way_home.go in
          (near.0, same_distance pages from k distance (length way_home.moves) is way_home.distance ∙ near.1, near.2)
