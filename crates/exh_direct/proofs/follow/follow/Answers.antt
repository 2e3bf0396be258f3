use Rattle.std.proofs.Common.{◌≡◌, ◌<◌, ◌≤◌, ◌+◌, ◌-◌, ℕ, nat_eq, nat_cmp, Bool, true, false, not, List, [], ◌∷◌, ◌++◌, min, slice_index, take, Option, inl, inr, refl, sym, ap, ◌∙◌, subst, arith}
use Rattle.std.proofs.KnownBytes.{Appends-nil}
use Rattle.std.specs.BTreeMap.{is_at}
use Rattle.std.specs.BTreeSet.{BTreeSet, contains}
use Rattle.std.specs.Io.KnownBytes.{Appends}
use Rattle.std.specs.List.{list_any, sum}
use Rattle.std.proofs.lemmas.List.{length_push}
use Rattle.exh_prefix.specs.Leading.{ward_of}
use Rattle.exh_prefix.specs.LeadingLemmas.{leading-lt}
use Rattle.exh_page.specs.Page.{records_of}
use Rattle.exh_page.specs.Records.{value_at}
use Rattle.exh_format.specs.declared.header.Header.{Header}
use Rattle.exh_prefix.specs.declared.version.Version.{Version as KnownVersion}
use Rattle.exh_format.specs.FileVersion.{file_version}
use Rattle.exh_format.specs.HeaderImage.{IsHeader}
use Rattle.exh_direct.specs.DirectAnswer.{FailsOnWay, IsLastRead, pages_in, pages_within, place_in, ward_in}
use Rattle.exh_keyer.specs.Pseudokey.{any_pseudokey}
use Rattle.exh_prefix.specs.Layout.{layout}
use Rattle.exh_format.specs.declared.file_fault.FileFault.TheVariants.{Truncated}
use Rattle.exh_format.specs.FileTests.{PageFails}
use Rattle.exh_direct.specs.declared.direct_fault.DirectFault.TheVariants.{File}
use Rattle.exh_direct.specs.KnownBlocks.{MayRead}
use Rattle.exh_direct.specs.Way.{lead_of}
use Rattle.exh_direct.specs.BlockFaultLemmas.{cut_fails, cut_off}
use Rattle.exh_direct.specs.OnceLemmas.{distinct_more, none_twice, noted_is}
use Rattle.exh_format.specs.HeaderLemmas.{few_wards}
use Rattle.exh_direct.proofs.Tables.{few_in_ward}
use Rattle.exh_direct.proofs.Ways.{err_is, page_fails, page_in, place_there, reads_more, way_more}
use Rattle.exh_direct.proofs.follow.follow.Goals as goal

ward_within : (version : KnownVersion) (header : Header) (ward pseudokey : ℕ) → IsHeader (file_version version) header → ward ≡ ward_of header.settings.ward_bits pseudokey → ward < 16
ward_within version header ward pseudokey valid is =
    let bits = few_wards header.settings.ward_bits valid.wards in
    omega (arith, is, leading-lt header.settings.ward_bits pseudokey (omega (arith, bits)), valid.wards)

pub ward_number-ward-requires : goal.ward_number-ward-requires
ward_number-ward-requires g c = let bits = few_wards c.args.header.now.settings.ward_bits c.requires.header.wards in omega (arith, bits)

pub bounds-header-ward : goal.bounds-header-ward
bounds-header-ward g c = ward_within c.args.version c.args.header.now c.ward_number-ward.result c.args.pseudokey c.requires.header c.ward_number-ward.ensures

pub pages_before-before-requires-clause-header : goal.pages_before-before-requires-clause-header
pages_before-before-requires-clause-header g c = (c.args.version, c.requires.header)

pub pages_before-before-requires-clause-ward : goal.pages_before-before-requires-clause-ward
pages_before-before-requires-clause-ward g c = ward_within c.args.version c.args.header.now c.ward_number-ward.result c.args.pseudokey c.requires.header c.ward_number-ward.ensures

pub overflow_add-before : goal.overflow_add-before
overflow_add-before g c =
    let header = c.args.header.now in
    let ward = c.ward_number-ward.result in
    let few = few_in_ward header ward (c.args.version, c.requires.header) (ward_within c.args.version header ward c.args.pseudokey c.requires.header c.ward_number-ward.ensures) in
    omega (arith, few, c.pages_before-before.ensures.few, c.if-number-pages.false)

-- the pages within the file, as the code counts them
within_is : (header : Header) (key : List ℕ) (ward before whole within : ℕ) → ward ≡ ward_in header key → before ≡ 1 + sum (take ward header.page_counts) → within ≡ min (slice_index header.page_counts ward) (whole - before)
    → pages_within whole header key ≡ within
within_is header key ward before whole within ward_is place is =
    omega (arith, is, place, ap (slice_index header.page_counts) ward_is, ap (λ (ward : ℕ). sum (take ward header.page_counts)) ward_is)

short_of : {way turn pages all : ℕ} → way ≡ turn → turn ≤ pages → all ≡ pages → way ≤ all
short_of is few some = omega (arith, is, few, some)

shorter_of : {way turn pages all : ℕ} → way ≡ turn → turn < pages → all ≡ pages → way ≤ all
shorter_of is few some = omega (arith, is, few, some)

less_of : {way turn pages all : ℕ} → way ≡ turn → turn < pages → all ≡ pages → way < all
less_of is few some = omega (arith, is, few, some)

past_all : {number at pages all : ℕ} → number ≡ at → pages ≤ at → all ≡ pages → all ≤ number
past_all is past some = omega (arith, is, past, some)

inside_there : (header : Header) (key : List ℕ) (ward number : ℕ) → ward ≡ ward_in header key → number < slice_index header.page_counts ward → number < pages_in header key
inside_there header key ward number is inside = subst (λ (ward : ℕ). number < slice_index header.page_counts ward) is inside

-- the page of a number that is noted first isn't one of the way
not_true : (b : Bool) → not b ≡ true → b ≡ false
not_true true is = sym is
not_true false is = refl

unpassed : (passed : BTreeSet ℕ) (first : Bool) (way : List ℕ) (number : ℕ) → ((n : ℕ) → contains nat_cmp passed n ≡ list_any (nat_eq n) way) → first ≡ not (contains nat_cmp passed number) → first ≡ true → list_any (nat_eq number) way ≡ false
unpassed passed first way number known is one = sym (known number) ∙ not_true (contains nat_cmp passed number) (sym is ∙ one)

last_read : (header : Header) (key way : List ℕ) (number place : ℕ) (old new : Option (List ℕ)) → number < pages_in header key → list_any (nat_eq number) way ≡ false → place ≡ place_in header key number → MayRead old new place → IsLastRead header key way number old new
last_read header key way number place old new inside other is (inl none) = inl none
last_read header key way number place old new inside other is (inr read) = inr (inside, other, subst (λ (place : ℕ). Appends old new (place ∷ [])) is read)

pub loop-turn-init : goal.loop-turn-init
loop-turn-init g c = record {
  same = refl;
  so_far = ([], refl, refl, Appends-nil (g.B.Blocks.reads c.args.blocks.now), none_twice, λ n. ap (list_any (is_at (nat_cmp n))) c.new-passed.ensures.empty);
}

pub returns-then-number-pages-clause-err : goal.returns-then-number-pages-clause-err
returns-then-number-pages-clause-err g c =
    let header = c.args.header.now in
    let key = c.args.key.now in
    let ward = c.ward_number-ward.result in
    let ward_is : ward ≡ ward_in header key = c.ward_number-ward.ensures ∙ ap (ward_of header.settings.ward_bits) c.requires.pseudokey in
    let some = within_is header key ward c.pages_before-before.result c.args.count c.pages_within-within.result ward_is c.pages_before-before.ensures.place c.pages_within-within.ensures in
    let so_far = c.loop-turn.invariant.so_far in
    record {
      way = so_far.0;
      number = c.loop-turn.number;
      leads = so_far.2;
      fails = inr (inl (past_all refl c.if-number-pages.true (ap (slice_index header.page_counts) (sym ward_is))));
      short = shorter_of so_far.1 c.loop-turn-test.true some;
      once = so_far.4;
      between = g.B.Blocks.reads c.loop-turn.blocks;
      reads = so_far.3;
      last = inl (Appends-nil (g.B.Blocks.reads c.loop-turn.blocks));
    }

pub returns-clause-err : goal.returns-clause-err
returns-clause-err g c =
    let header = c.args.header.now in
    let key = c.args.key.now in
    let ward = c.ward_number-ward.result in
    let ward_is : ward ≡ ward_in header key = c.ward_number-ward.ensures ∙ ap (ward_of header.settings.ward_bits) c.requires.pseudokey in
    let some = within_is header key ward c.pages_before-before.result c.args.count c.pages_within-within.result ward_is c.pages_before-before.ensures.place c.pages_within-within.ensures in
    let so_far = c.loop-turn.invariant.so_far in
    record {
      way = so_far.0;
      number = c.loop-turn.number;
      leads = so_far.2;
      fails = elim c.else-within-number.either [
        | inl outside ↦ inr (inl (past_all refl outside.1 (ap (slice_index header.page_counts) (sym ward_is))))
        | inr inside ↦ inl (inr (less_of refl inside some, past_all so_far.1 c.loop-turn-test.false some))
      ];
      short = short_of so_far.1 c.loop-turn.auto.turn-end some;
      once = so_far.4;
      between = g.B.Blocks.reads c.loop-turn.blocks;
      reads = so_far.3;
      last = inl (Appends-nil (g.B.Blocks.reads c.loop-turn.blocks));
    }

pub returns-in_err-page-clause-err : goal.returns-in_err-page-clause-err
returns-in_err-page-clause-err g c =
    let header = c.args.header.now in
    let key = c.args.key.now in
    let ward = c.ward_number-ward.result in
    let before = c.pages_before-before.result in
    let number = c.loop-turn.number in
    let known = g.B.Blocks.known c.args.blocks.now in
    let now = g.B.Blocks.known c.loop-turn.blocks in
    let ward_is : ward ≡ ward_in header key = c.ward_number-ward.ensures ∙ ap (ward_of header.settings.ward_bits) c.requires.pseudokey in
    let so_far = c.loop-turn.invariant.so_far in
    let fault = c.in_err-page.field-0.0 in
    let inside = c.if-number-pages.false in
    let other = unpassed _ _ so_far.0 number so_far.5 c.in_ok-note_passed.ensures.ok c.if-not-branch.false in
    let some = within_is header key ward c.pages_before-before.result c.args.count c.pages_within-within.result ward_is c.pages_before-before.ensures.place c.pages_within-within.ensures in
    err_is c.from_residual-in_err-page.result fault (FailsOnWay (file_version c.args.version) known header key c.args.count c.args.first _ _) c.from_residual-in_err-page.ensures.1 (record {
      way = so_far.0;
      number = number;
      leads = so_far.2;
      fails = page_fails (file_version c.args.version) known now header key c.args.count ward before number c.loop-turn.invariant.same ward_is c.pages_before-before.ensures.place inside so_far.0 fault c.in_err-page.ensures.err;
      short = shorter_of so_far.1 c.loop-turn-test.true some;
      once = so_far.4;
      between = g.B.Blocks.reads c.loop-turn.blocks;
      reads = so_far.3;
      last = last_read header key so_far.0 number _ _ _ (inside_there header key ward number ward_is inside) other (place_there header key ward before number ward_is c.pages_before-before.ensures.place) c.in_err-page.ensures.may_read;
    })

pub returns-in-Home-clause-ok : goal.returns-in-Home-clause-ok
returns-in-Home-clause-ok g c =
    let header = c.args.header.now in
    let key = c.args.key.now in
    let ward = c.ward_number-ward.result in
    let before = c.pages_before-before.result in
    let number = c.loop-turn.number in
    let page = c.in_ok-page.page in
    let known = g.B.Blocks.known c.args.blocks.now in
    let now = g.B.Blocks.known c.loop-turn.blocks in
    let ward_is : ward ≡ ward_in header key = c.ward_number-ward.ensures ∙ ap (ward_of header.settings.ward_bits) c.requires.pseudokey in
    let so_far = c.loop-turn.invariant.so_far in
    let inside = c.if-number-pages.false in
    let other = unpassed _ _ so_far.0 number so_far.5 c.in_ok-note_passed.ensures.ok c.if-not-branch.false in
    let some = within_is header key ward c.pages_before-before.result c.args.count c.pages_within-within.result ward_is c.pages_before-before.ensures.place c.pages_within-within.ensures in
    record {
      way = so_far.0;
      number = number;
      leads = so_far.2;
      page = page;
      there = page_in (file_version c.args.version) known now header key c.args.count ward before number c.loop-turn.invariant.same ward_is c.pages_before-before.ensures.place inside page c.in_ok-page.ensures.ok;
      home = ap (lead_of page) (sym c.requires.pseudokey) ∙ sym c.lead_of.ensures ∙ c.in-Home.is;
      is = c.find.ensures ∙ ap (λ (pseudokey : ℕ). value_at (pseudokey, key) (records_of page)) c.requires.pseudokey;
      short = less_of so_far.1 c.loop-turn-test.true some;
      once = distinct_more so_far.0 number so_far.4 other;
      reads = reads_more _ _ _ (place_in header key) so_far.0 number _ (place_there header key ward before number ward_is c.pages_before-before.ensures.place) so_far.3 c.in_ok-page.ensures.one_read;
    }

pub returns-in-Nowhere-clause-err : goal.returns-in-Nowhere-clause-err
returns-in-Nowhere-clause-err g c =
    let header = c.args.header.now in
    let key = c.args.key.now in
    let ward = c.ward_number-ward.result in
    let before = c.pages_before-before.result in
    let number = c.loop-turn.number in
    let page = c.in_ok-page.page in
    let known = g.B.Blocks.known c.args.blocks.now in
    let now = g.B.Blocks.known c.loop-turn.blocks in
    let ward_is : ward ≡ ward_in header key = c.ward_number-ward.ensures ∙ ap (ward_of header.settings.ward_bits) c.requires.pseudokey in
    let so_far = c.loop-turn.invariant.so_far in
    let inside = c.if-number-pages.false in
    let other = unpassed _ _ so_far.0 number so_far.5 c.in_ok-note_passed.ensures.ok c.if-not-branch.false in
    let some = within_is header key ward c.pages_before-before.result c.args.count c.pages_within-within.result ward_is c.pages_before-before.ensures.place c.pages_within-within.ensures in
    let there = page_in (file_version c.args.version) known now header key c.args.count ward before number c.loop-turn.invariant.same ward_is c.pages_before-before.ensures.place inside page c.in_ok-page.ensures.ok in
    record {
      way = so_far.0;
      number = number;
      leads = so_far.2;
      fails = inr (inr (page, there, ap (lead_of page) (sym c.requires.pseudokey) ∙ sym c.lead_of.ensures ∙ c.in-Nowhere.is));
      short = shorter_of so_far.1 c.loop-turn-test.true some;
      once = so_far.4;
      between = g.B.Blocks.reads c.loop-turn.blocks;
      reads = so_far.3;
      last = last_read header key so_far.0 number _ _ _ (inside_there header key ward number ward_is inside) other (place_there header key ward before number ward_is c.pages_before-before.ensures.place) c.in_ok-page.ensures.may_read;
    }

pub loop-turn-preserved : goal.loop-turn-preserved
loop-turn-preserved g c =
    let header = c.args.header.now in
    let key = c.args.key.now in
    let ward = c.ward_number-ward.result in
    let before = c.pages_before-before.result in
    let number = c.loop-turn.number in
    let page = c.in_ok-page.page in
    let known = g.B.Blocks.known c.args.blocks.now in
    let now = g.B.Blocks.known c.loop-turn.blocks in
    let ward_is : ward ≡ ward_in header key = c.ward_number-ward.ensures ∙ ap (ward_of header.settings.ward_bits) c.requires.pseudokey in
    let so_far = c.loop-turn.invariant.so_far in
    let inside = c.if-number-pages.false in
    let other = unpassed _ _ so_far.0 number so_far.5 c.in_ok-note_passed.ensures.ok c.if-not-branch.false in
    let there = page_in (file_version c.args.version) known now header key c.args.count ward before number c.loop-turn.invariant.same ward_is c.pages_before-before.ensures.place inside page c.in_ok-page.ensures.ok in
    record {
      same = c.in_ok-page.ensures.same_bytes ∙ c.loop-turn.invariant.same;
      so_far = (
        so_far.0 ++ number ∷ [],
        length_push so_far.0 number ∙ ap (λ (n : ℕ). n + 1) so_far.1,
        way_more (file_version c.args.version) known header key c.args.first so_far.0 number c.in-To.next page so_far.2 there (ap (lead_of page) (sym c.requires.pseudokey) ∙ sym c.lead_of.ensures ∙ c.in-To.is),
        reads_more _ _ _ (place_in header key) so_far.0 number _ (place_there header key ward before number ward_is c.pages_before-before.ensures.place) so_far.3 c.in_ok-page.ensures.one_read,
        distinct_more so_far.0 number so_far.4 other,
        noted_is c.loop-turn.passed c.note_passed.new.passed so_far.0 number so_far.5 c.in_ok-note_passed.ensures.noted,
      );
    }

-- a page behind as many as lie within the file is cut off
past_end : (count before within pages number place : ℕ) → within ≡ min pages (count - before) → within ≤ number → number < pages → place ≡ before + number → count ≤ place
past_end count before within pages number place is past inside at = omega (arith, is, past, inside, at)

pub returns-then-number-pages-2-clause-err : goal.returns-then-number-pages-2-clause-err
returns-then-number-pages-2-clause-err g c =
    let header = c.args.header.now in
    let key = c.args.key.now in
    let ward = c.ward_number-ward.result in
    let before = c.pages_before-before.result in
    let number = c.loop-turn.number in
    let known = g.B.Blocks.known c.args.blocks.now in
    let ward_is : ward ≡ ward_in header key = c.ward_number-ward.ensures ∙ ap (ward_of header.settings.ward_bits) c.requires.pseudokey in
    let some = within_is header key ward before c.args.count c.pages_within-within.result ward_is c.pages_before-before.ensures.place c.pages_within-within.ensures in
    let so_far = c.loop-turn.invariant.so_far in
    let place = place_in header key number in
    let behind = past_end c.args.count before c.pages_within-within.result (slice_index header.page_counts ward) number place c.pages_within-within.ensures c.if-within-number.true c.if-number-pages-2.true (sym (place_there header key ward before number ward_is c.pages_before-before.ensures.place)) in
    record {
      way = so_far.0;
      number = number;
      leads = so_far.2;
      fails = (
        inside_there header key ward number ward_is c.if-number-pages-2.true,
        cut_fails (PageFails (layout c.args.version) (any_pseudokey header.settings.keyer) place) known place (File Truncated) (refl, cut_off known c.args.count place c.requires.count behind),
      );
      short = short_of so_far.1 c.loop-turn.auto.turn-end some;
      once = so_far.4;
      between = g.B.Blocks.reads c.loop-turn.blocks;
      reads = so_far.3;
      last = inl (Appends-nil (g.B.Blocks.reads c.loop-turn.blocks));
    }
