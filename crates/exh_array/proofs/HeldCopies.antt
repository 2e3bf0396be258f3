-- What stays known of a copy that takes, joins and sends.
use Rattle.std.proofs.Common.{◌≡◌, ℕ, Bool, true, not, ◌<◌, List, [], ◌∷◌, ◌++◌, length, slice_get, Option, Some, None, refl, sym, ap, ◌∙◌, subst, arith}
use Rattle.std.specs.FinMap.{empty}
use Rattle.std.specs.BTreeSet.{BTreeSet}
use Rattle.std.specs.Option.{is_some}
use Rattle.std.proofs.lemmas.Bool.{true≢false}
use Rattle.std.proofs.lemmas.List.{length_push}
use Rattle.std.proofs.lemmas.Option.{get_or_from_slice_get}
use Rattle.exh_prefix.specs.PrefixListLemmas.{within_there}
use Rattle.exh_notice.specs.declared.entry.Entry.{Entry}
use Rattle.exh_table.specs.RaisedLemmas.{raised_up}
use Rattle.exh_table.specs.Table.{TableMap, raised}
use Rattle.exh_table.specs.TableLemmas.{table_laws}
use Rattle.exh_table.specs.TableOrder.{IsTableUpTo, table_join}
use Rattle.exh_array.specs.Pointers.{DirectoryState}
use Rattle.exh_array.specs.Sent.{IsBefore, base_in, unpacked}
use Rattle.exh_array.specs.KnownCopy.{AreKnown}
use Rattle.exh_array.specs.Held.{IsHeld}
use Rattle.exh_array.specs.declared.held_copy.HeldCopy.{HeldCopy}
use Rattle.exh_array.specs.declared.sent_table.SentTable.{SentTable}
use Rattle.exh_array.proofs.Joined.{joined_already, joined_none, joined_raised, swapped}
use Rattle.exh_array.proofs.Unpacked.{pushed_front, pushed_last}

-- a table that is more knows no less
pub known_on : (sent : List TableMap) (known : BTreeSet ℕ) (own more : TableMap) → AreKnown sent known own → IsTableUpTo own more → AreKnown sent known more
known_on sent known own more are up at found =
    let one = are at found in
    (one.0, one.1, table_laws.order.transitive one.0 own more one.2 up)

same_base : (start : TableMap) (sent : List TableMap) (table : TableMap) (since : Option ℕ) → IsBefore (length sent) since → base_in start sent since ≡ base_in start (sent ++ table ∷ []) since
same_base start sent table None before = refl
same_base start sent table (Some at) before =
    let there = within_there sent at before in
    get_or_from_slice_get sent at there.0 start there.1 ∙ sym (get_or_from_slice_get (sent ++ table ∷ []) at there.0 start (pushed_front sent table there.0 at there.1))

before_pushed : (sent : List TableMap) (table : TableMap) (since : Option ℕ) → IsBefore (length sent) since → IsBefore (length (sent ++ table ∷ [])) since
before_pushed sent table None before = tt
before_pushed sent table (Some at) before = omega (arith, before, length_push sent table)

module _ (start : TableMap) (sent : List TableMap) (copy : HeldCopy) (held : IsHeld start sent copy) where
  pub at_start : copy.since ≡ None → copy.news ≡ empty → copy.directory.table ≡ start
  at_start since news = held.table ∙ ap (λ s. table_join (base_in start sent s) copy.news) since ∙ ap (table_join start) news ∙ joined_none start

  -- its table is the same
  pub told : (directory : DirectoryState) → directory.table ≡ copy.directory.table → IsHeld start sent (record copy { directory = directory })
  told directory same = record {
    begun = subst (IsTableUpTo start) (sym same) held.begun;
    before = held.before;
    table = same ∙ held.table;
    known = subst (AreKnown sent copy.known) (sym same) held.known;
  }

  -- it took an entry
  pub taken : (directory : DirectoryState) (news : TableMap) (key : List Bool) (entry : Entry) → directory.table ≡ raised copy.directory.table key entry → news ≡ raised copy.news key entry
      → IsHeld start sent (record copy { directory = directory; news = news })
  taken directory news key entry table_is news_is =
      let up : IsTableUpTo copy.directory.table directory.table = subst (IsTableUpTo copy.directory.table) (sym table_is) (raised_up copy.directory.table key entry) in record {
        begun = table_laws.order.transitive start copy.directory.table directory.table held.begun up;
        before = held.before;
        table = table_is ∙ ap (λ t. raised t key entry) held.table ∙ sym (joined_raised (base_in start sent copy.since) copy.news key entry) ∙ ap (table_join (base_in start sent copy.since)) (sym news_is);
        known = known_on sent copy.known copy.directory.table directory.table held.known up;
      }

  -- it joined a table, to which it goes on from the same one
  pub joined_on : (directory : DirectoryState) (more news : TableMap) → directory.table ≡ table_join copy.directory.table more → news ≡ table_join copy.news more
      → IsHeld start sent (record copy { directory = directory; news = news })
  joined_on directory more news table_is news_is =
      let up : IsTableUpTo copy.directory.table directory.table = subst (IsTableUpTo copy.directory.table) (sym table_is) (table_laws.bound.above_first copy.directory.table more) in record {
        begun = table_laws.order.transitive start copy.directory.table directory.table held.begun up;
        before = held.before;
        table = table_is ∙ ap (λ t. table_join t more) held.table ∙ table_laws.associative (base_in start sent copy.since) copy.news more ∙ ap (table_join (base_in start sent copy.since)) (sym news_is);
        known = known_on sent copy.known copy.directory.table directory.table held.known up;
      }

  -- it had gone on from the start, and goes on from the sent table that it joined
  pub joined_begun : (directory : DirectoryState) (place : ℕ) (table : TableMap) → copy.since ≡ None → slice_get sent place ≡ Some table → IsTableUpTo start table → place < length sent
      → directory.table ≡ table_join copy.directory.table table → IsHeld start sent (record copy { directory = directory; since = Some place })
  joined_begun directory place table since there begun within table_is =
      let up : IsTableUpTo copy.directory.table directory.table = subst (IsTableUpTo copy.directory.table) (sym table_is) (table_laws.bound.above_first copy.directory.table table) in
      let own = held.table ∙ ap (λ s. table_join (base_in start sent s) copy.news) since in
      let whole : table_join start table ≡ table = table_laws.commutative start table ∙ joined_already table start begun in
      let base = sym (get_or_from_slice_get sent place table start there) in record {
        begun = table_laws.order.transitive start copy.directory.table directory.table held.begun up;
        before = within;
        table = table_is ∙ ap (λ t. table_join t table) own ∙ swapped start copy.news table ∙ ap (λ t. table_join t copy.news) (whole ∙ base);
        known = known_on sent copy.known copy.directory.table directory.table held.known up;
      }

  -- more is known
  pub noted : (known : BTreeSet ℕ) → AreKnown sent known copy.directory.table → IsHeld start sent (record copy { known = known })
  noted known are = record { begun = held.begun; before = held.before; table = held.table; known = are }

  -- a table is sent
  pub sent_more : (table : TableMap) → IsHeld start (sent ++ table ∷ []) copy
  sent_more table = record {
    begun = held.begun;
    before = before_pushed sent table copy.since held.before;
    table = held.table ∙ ap (λ base. table_join base copy.news) (same_base start sent table copy.since held.before);
    known = λ at found. let one = held.known at found in (one.0, pushed_front sent table one.0 at one.1, one.2);
  }

  -- its own is sent, and it goes on from there
  pub own_sent : (place : ℕ) (news : TableMap) (known : BTreeSet ℕ) → place ≡ length sent → news ≡ empty → AreKnown (sent ++ copy.directory.table ∷ []) known copy.directory.table
      → IsHeld start (sent ++ copy.directory.table ∷ []) (record copy { since = Some place; news = news; known = known })
  own_sent place news known place_is news_is are =
      let own = copy.directory.table in
      let last : slice_get (sent ++ own ∷ []) place ≡ Some own = subst (λ n. slice_get (sent ++ own ∷ []) n ≡ Some own) (sym place_is) (pushed_last sent own) in record {
        begun = held.begun;
        before = omega (arith, place_is, length_push sent own);
        table = sym (ap (λ base. table_join base news) (get_or_from_slice_get (sent ++ own ∷ []) place own start last) ∙ ap (table_join own) news_is ∙ joined_none own);
        known = are;
      }

  -- its own is sent again
  pub own_again : (table news : TableMap) → copy.news ≡ empty → news ≡ empty → IsHeld start (sent ++ table ∷ []) (record copy { news = news })
  own_again table news was is = subst (λ n. IsHeld start (sent ++ table ∷ []) (record copy { news = n })) (was ∙ sym is) (sent_more table)

-- no value, by the test for one
pub none_there : {A : Type 0} (found : Option A) (none : Bool) → is_some found ≡ not none → none ≡ true → found ≡ None
none_there None none is said = refl
none_there (Some x) none is said = absurd (true≢false (is ∙ ap not said))

-- what a copy is joined with is the sent table, as far as the copy can tell
pub told_same : (start table : TableMap) (sent : List TableMap) (place : ℕ) (copy : HeldCopy) (own news : TableMap) → own ≡ copy.directory.table
    → (IsTableUpTo start own → AreKnown sent copy.known own → slice_get sent place ≡ Some table → table_join own news ≡ table_join own table)
    → IsHeld start sent copy → slice_get sent place ≡ Some table → table_join copy.directory.table news ≡ table_join copy.directory.table table
told_same start table sent place copy own news is told held there =
    subst (λ t. table_join t news ≡ table_join t table) is (told (subst (IsTableUpTo start) (sym is) held.begun) (subst (AreKnown sent copy.known) (sym is) held.known) there)

-- the sent tables, once a copy's was pushed
pub pushed : (start : TableMap) (old new : List SentTable) (copy : HeldCopy) (own : TableMap) → own ≡ copy.directory.table → IsHeld start (unpacked start old) copy
    → (IsTableUpTo start own → own ≡ table_join (base_in start (unpacked start old) copy.since) copy.news → unpacked start new ≡ unpacked start old ++ own ∷ [])
    → unpacked start new ≡ unpacked start old ++ copy.directory.table ∷ []
pushed start old new copy own is held made =
    made (subst (IsTableUpTo start) (sym is) held.begun) (is ∙ held.table) ∙ ap (λ t. unpacked start old ++ t ∷ []) is

pub last_is : (sent : List TableMap) (table : TableMap) (place : ℕ) → place ≡ length sent → slice_get (sent ++ table ∷ []) place ≡ Some table
last_is sent table place is = subst (λ n. slice_get (sent ++ table ∷ []) n ≡ Some table) (sym is) (pushed_last sent table)
